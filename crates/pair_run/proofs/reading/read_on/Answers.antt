use Rattle.std.proofs.Common.{◌≡◌, ◌∙◌, true, false, refl, sym, ap, arith}
use Rattle.script_player.specs.Boot.{boot_line}
use Rattle.pair_run.specs.{RunFile.{adds, boots, no_actions, no_boot, no_client, no_epochs, no_words, told, tells}, Views.run_file}
use Rattle.pair_run.{specs.internal.Reading.stage_of, proofs.ReadingLemmas.{added-none, added-one, refused-line, told-first}}
use Rattle.pair_run.proofs.reading.read_on.Goals as goal

pub returns-in_err-boot-in-Unbooted : goal.returns-in_err-boot-in-Unbooted
returns-in_err-boot-in-Unbooted c =
    let line = c.in_err-boot-in-Unbooted.ensures.err in
    refused-line _ c.args.number c.args.text.now c.from_residual.result _ c.from_residual.ensures.1
    (no_words line.0 (ap stage_of c.in-Unbooted.is) line.1)

pub returns-in_default : goal.returns-in_default
returns-in_default c = (
  no_boot (sym c.is_silent.ensures ∙ c.if-is_silent.false) (ap stage_of c.in-Unbooted.is)
      (λ line h. cc (rw c.in_default.is at (c.in_ok-boot-in-Unbooted.ensures.only line h))),
  refl,
)

pub returns-in-Some : goal.returns-in-Some
returns-in-Some c =
    boots (boot_line c.in-Some.boot) (ap stage_of c.in-Unbooted.is) (rw c.in-Some.is at c.in_ok-boot-in-Unbooted.ensures.found) refl

pub returns-in_default-numbers : goal.returns-in_default-numbers
returns-in_default-numbers c = (
  no_epochs (boot_line c.in-Booted.boot) (sym c.is_silent.ensures ∙ c.if-is_silent.false) (ap stage_of c.in-Booted.is)
      (λ epochs steps h. cc (c.in_default-numbers.ensures ∙ h)),
  refl,
)

pub returns-in-Some-numbers : goal.returns-in-Some-numbers
returns-in-Some-numbers c =
    tells (boot_line c.in-Booted.boot) c.in-Some-numbers.epochs c.in-Some-numbers.steps (ap stage_of c.in-Booted.is)
    (sym c.in-Some-numbers.ensures)
    (told-first c.in-Booted.boot c.in-Some-numbers.epochs c.in-Some-numbers.steps c.new.result c.new.ensures.items)

pub returns-in_err-add_client-in-Told : goal.returns-in_err-add_client-in-Told
returns-in_err-add_client-in-Told c =
    let line = c.in_err-add_client-in-Told.ensures in
    refused-line _ c.args.number c.args.text.now c.from_residual-in_err-add_client-in-Told.result _
    c.from_residual-in_err-add_client-in-Told.ensures.1
    (no_actions (run_file c.in-Told.file) line.0 (ap stage_of c.in-Told.is) line.1 line.2)

pub returns-then-not-branch : goal.returns-then-not-branch
returns-then-not-branch c =
    let no : c.in_ok-add_client-in-Told.field-0 ≡ false = grind arith in (
      no_client (run_file c.in-Told.file) (sym c.is_silent.ensures ∙ c.if-is_silent.false) (ap stage_of c.in-Told.is)
          (added-none (Unit {0}) _ _ c.in_ok-add_client-in-Told.field-0 _ no c.in_ok-add_client-in-Told.ensures),
      refl,
    )

pub returns-else-not-branch : goal.returns-else-not-branch
returns-else-not-branch c =
    let yes : c.in_ok-add_client-in-Told.field-0 ≡ true = grind arith in
    let added = added-one (Unit {0}) _ _ c.in_ok-add_client-in-Told.field-0 _ yes c.in_ok-add_client-in-Told.ensures in
    adds (run_file c.in-Told.file) added.0 (ap stage_of c.in-Told.is) added.1 added.2 (ap told added.3)
