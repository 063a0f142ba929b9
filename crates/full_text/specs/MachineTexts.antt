-- A machine, and the texts of its checkpoints that are pending.
use Rattle.std.specs.Prelude.{◌≡◌, ◌≤◌, ℕ, ◌+◌, ◌^◌, List, [], Option, None, Some, length, replicate, false}
use Rattle.guest_rules.specs.Guest.{State}
use Rattle.full_text.specs.Stages.{IsMade, made}
use Rattle.full_text.specs.declared.stage.FullStage.{FullStage}
use Rattle.full_text.specs.declared.stage.FullStage.TheVariants.{Search, Text}

-- so many texts have room
abbrev pub most_texts : ℕ
most_texts = 4

pub record Texts : Type 0 where
  pub machine : State
  -- each of them whole
  pub texts : List (List ℕ)
  -- the first one, where it is a full checkpoint's, which may be made in part
  pub full : Option FullStage

-- how many bytes of the full text are made
abbrev pub made_bytes : Option FullStage → ℕ
made_bytes None = 0
made_bytes (Some f) = length (made f)

-- and how many more are made where a part of it is asked for; or how many pages more are looked at
abbrev pub ahead : ℕ
ahead = 2 ^ 20

abbrev pub look : ℕ
look = 1024

-- HOW IT GOES ON where its bytes up to a place are asked for. Its pages are searched for: it looks at so many pages more, or it has looked at all
-- pages, as it must where bytes behind the head are asked for. They are found: so many bytes more are made, or all that are left.
abbrev pub HasGoneOn : ℕ → FullStage → FullStage → Type 0
HasGoneOn to (Search s) (Search t) = t ≡ record s { found = t.found; looked = s.looked + look }
HasGoneOn to (Search s) (Text f) = to ≤ length s.head → s.pages ≤ s.looked + look
HasGoneOn to (Text f) later = IsMade (length f.made + ahead) later

-- one that isn't made doesn't begin, nor is one that is made given up
abbrev pub HaveGoneOn : ℕ → Option FullStage → Option FullStage → Type 0
HaveGoneOn to None None = Unit {0}
HaveGoneOn to None (Some later) = ⊥
HaveGoneOn to (Some f) None = ⊥
HaveGoneOn to (Some f) (Some later) = HasGoneOn to f later

-- a machine that is settled
abbrev pub settled_at : State → State
settled_at m = record m { outbox = []; dirty = []; settled = m.guest.ram; written = replicate (length m.written) false }
