-- The full text is the first of those that are let go.
use Rattle.std.proofs.Common.{◌≡◌, ℕ, zero, suc, ◌-◌, ◌<◌, List, Option, None, Some, drop, map, sym, ap, ◌∙◌, arith}
use Rattle.std.proofs.lemmas.List.{drop-map}
use Rattle.full_text.specs.MachineTexts.{Texts}
use Rattle.full_text.specs.declared.stage.FullStage.{FullStage}
use Rattle.full_text.specs.internal.TextFields.{full_count, texts_of}
use Rattle.full_text.proofs.machine_texts.MachineTexts.drop_first.Goals as goal

dropped : (settled : List ℕ) (f : Option FullStage) (count behind : ℕ) (xs : List (List ℕ)) → 0 < count → behind ≡ count - full_count f
    → drop behind xs ≡ drop count (texts_of settled f xs)
dropped settled None count behind xs some e = let same : behind ≡ count = omega (arith, e) in ap (λ n. drop n xs) same
dropped settled (Some f) zero behind xs some e = absurd (omega (arith, some))
dropped settled (Some f) (suc count) behind xs some e = let same : behind ≡ count = omega (arith, e) in ap (λ n. drop n xs) same

pub returns-then-count-gt0-clause-texts : goal.returns-then-count-gt0-clause-texts
returns-then-count-gt0-clause-texts c =
    let a = c.self.inside in
    let settled = a.machine.settled in
    let behind = c.args.count - c.take_full.result in
    ap (λ (f : Option FullStage). texts_of settled f (map (λ t. t.items) c.drop-drain.new.self.0.items)) c.take_full.ensures.none
    ∙ ap (map (λ t. t.items)) (c.drop-drain.ensures.items ∙ c.drain.ensures.kept)
    ∙ sym (drop-map (λ t. t.items) behind a.texts.items)
    ∙ dropped settled a.full c.args.count behind (map (λ t. t.items) a.texts.items) c.if-count-gt0.true
    (ap (λ n. c.args.count - n) c.take_full.ensures.value)
    ∙ ap (λ (t : Texts). drop c.args.count t.texts) c.self.view_is
