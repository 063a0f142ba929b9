-- A sector is added where it isn't all zero.
use Rattle.std.proofs.{Common.{◌++◌, ◌∷◌, [], cond, ap, sym, ◌∙◌}, lemmas.List.{append-nil, map-append}}
use Rattle.epoch_snapshot.specs.Cuts.{sector_change, changed_sectors, used_sectors}
use Rattle.epoch_snapshot.specs.laws.Sectors.{no_sectors, used-next}
use Rattle.epoch_cuts.proofs.sectors.push_used.Goals.{then-not-blank+in_ok-push, else-not-blank}
use Rattle.epoch_cuts.proofs.sectors.push_used.Goals as goal

pub loop-sector-init : goal.loop-sector-init
loop-sector-init c =
    c.requires.empty ∙ ap (changed_sectors c.args.machine.now.guest.sectors) (no_sectors c.args.machine.now.guest.sectors)

pub loop-sector-preserved : goal.loop-sector-preserved
loop-sector-preserved c =
    let bytes = c.args.machine.now.guest.sectors in
    let n = c.loop-sector.sector in
    let more = used-next bytes n c.blank.result c.blank.ensures in
    elim c.if-not-blank.branch [
      | then-not-blank+in_ok-push w ↦
          rw w.list-is (w.in_ok-push.ensures.items
          ∙ (λ j. c.loop-sector.invariant j ++ w.record.ensures j ∷ [])
          ∙ sym (map-append (sector_change bytes) (used_sectors bytes n) (n ∷ []))
          ∙ ap (changed_sectors bytes) (sym (more ∙ ap (λ b. used_sectors bytes n ++ cond b [] (n ∷ [])) w.if-not-blank.true)))
      | else-not-blank w ↦
          rw w.list-is (c.loop-sector.invariant
          ∙ ap (changed_sectors bytes) (sym (more ∙ ap (λ b. used_sectors bytes n ++ cond b [] (n ∷ [])) w.if-not-blank.false
          ∙ append-nil (used_sectors bytes n))))
    ]
