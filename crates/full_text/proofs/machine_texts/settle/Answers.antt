-- What is left of the full text is the same of what memory has now.
use Rattle.std.proofs.Common.{◌≡◌, ℕ, ◌∷◌, List, Option, None, Some, length, refl, sym, ap, ◌∙◌, subst}
use Rattle.std.specs.Prelude.{IfSome}
use Rattle.guest_rules.specs.Guest.{State}
use Rattle.full_text.specs.Full.{AreIn}
use Rattle.full_text.specs.MachineTexts.{settled_at}
use Rattle.full_text.specs.Stages.{IsKept}
use Rattle.full_text.specs.declared.stage.FullStage.{FullStage}
use Rattle.full_text.specs.declared.stage.FullStage.TheVariants.{Search, Text}
use Rattle.full_text.specs.internal.TextFields.{FullFits, texts_of}
use Rattle.full_text.proofs.SearchLemmas.{fits-same, found-same}
use Rattle.full_text.proofs.machine_texts.settle.Goals as goal

fits-settled : (m : State) (full : Option FullStage) → length m.guest.ram ≡ length m.settled → FullFits m full → IfSome full (IsKept m)
    → FullFits (settled_at m) full
fits-settled m None long fits kept = tt
fits-settled m (Some (Search s)) long fits kept = fits-same m.settled m.guest.ram s s refl refl refl kept long fits
fits-settled m (Some (Text f)) long fits kept = subst (λ n. AreIn n f.pages) (sym long) fits

texts-settled : (m : State) (full : Option FullStage) (texts : List (List ℕ)) → IfSome full (IsKept m)
    → texts_of m.guest.ram full texts ≡ texts_of m.settled full texts
texts-settled m None texts kept = refl
texts-settled m (Some (Search s)) texts kept =
    ap (λ t. t ∷ texts) (found-same m.guest.ram m.settled s.head s.tail s.found s.found s.looked s.looked s.pages s.kept s.kept kept)
texts-settled m (Some (Text f)) texts kept = ap (λ t. t ∷ texts) kept

pub returns-clause-fits : goal.returns-clause-fits
returns-clause-fits c =
    let m = c.args.machine.now in
    let full = c.args.full.now in
    subst (λ (n : State). FullFits n full) (sym c.settle.ensures)
    (fits-settled m full (c.shape-shape.ensures.pages ∙ sym c.shape-shape.ensures.settled) c.requires.fits c.requires.kept)

pub returns-clause-same : goal.returns-clause-same
returns-clause-same c = λ texts.
    ap (λ (n : State). texts_of n.settled c.args.full.now texts) c.settle.ensures ∙ texts-settled c.args.machine.now c.args.full.now texts c.requires.kept
