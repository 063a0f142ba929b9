-- How the fields of a machine with texts stand for what contracts see: a text that is made in part is seen whole, before
-- the others.
use Rattle.std.specs.Prelude.{◌≤◌, ℕ, List, ◌∷◌, Option, None, Some, map, vec_capacity}
use Rattle.guest_rules.specs.Guest.{State}
use Rattle.full_text.specs.Stages.{StageFits, text_of}
use Rattle.full_text.specs.declared.stage.FullStage.{FullStage}
use Rattle.full_text.specs.MachineTexts.{Texts, most_texts}
use Rattle.full_text.specs.declared.machine_texts.MachineTexts.TheInside.{Inside}

abbrev pub texts_of : List ℕ → Option FullStage → List (List ℕ) → List (List ℕ)
texts_of settled None texts = texts
texts_of settled (Some f) texts = text_of settled f ∷ texts

abbrev pub texts_state : Inside → Texts
texts_state a = record { machine = a.machine; texts = texts_of a.machine.settled a.full (map (λ t. t.items) a.texts.items); full = a.full }

abbrev pub full_count : Option FullStage → ℕ
full_count None = 0
full_count (Some f) = 1

-- it is one of what the machine had at its last settle
abbrev pub FullFits : State → Option FullStage → Type 0
FullFits m None = Unit {0}
FullFits m (Some f) = StageFits m f

pub record AreTexts (a : Inside) : Type 0 where
  pub places : most_texts ≤ vec_capacity a.texts
  pub full : FullFits a.machine a.full
