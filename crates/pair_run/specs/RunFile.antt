-- The file that `remus run` gets: how its lines are spelled, and what it says (docs/SCRIPTS.md, "A pair in threads").
use Rattle.std.specs.Prelude.{◌≡◌, ℕ, ◌+◌, ◌==◌, ◌≤◌, Bool, true, false, List, [], ◌∷◌, ◌++◌, Option, Some, codes, option_and_then}
use Rattle.std.specs.List.{slice_split, list_any}
use Rattle.script_player.specs.Boot.{BootLine, IsBoot}
use Rattle.script_player.specs.Delivery.{IsHex}
use Rattle.script_player.specs.Fields.{text_after, operand_of, numbers_by}
use Rattle.script_player.specs.Meaning.{is_silent}

-- ---- what it says

-- what a client does: it takes a frame, or delivers one of these bytes
pub data Action : Type 0 where
  take : Action
  deliver : List ℕ → Action

-- a client's number, and what it does, one after another
pub record ClientLine : Type 0 where
  pub client : ℕ
  pub actions : List Action

-- A pair to boot, so many epochs of at most so many steps, and what its clients do, in the order of their lines.
pub record RunFile : Type 0 where
  pub boot : BootLine
  pub epochs : ℕ
  pub steps : ℕ
  pub clients : List ClientLine

-- ---- how its lines are spelled

-- the fields of a text stand between its spaces
abbrev pub fields_of : List ℕ → List (List ℕ)
fields_of text = slice_split (λ byte. byte == 32) text

-- `epochs E S`
abbrev pub IsEpochs : List ℕ → ℕ → ℕ → Type 0
IsEpochs text epochs steps = numbers_by (codes "epochs ") text ≡ Some (epochs, steps)

-- `take`, or `deliver:` and at least one byte in hex digits
abbrev pub IsAction : List ℕ → Action → Type 0
IsAction field take = field ≡ codes "take"
IsAction field (deliver bytes) = (digits : List ℕ) × (text_after (codes "deliver:") field ≡ Some digits) × IsHex digits bytes

-- each field is an action
abbrev pub AreActions : List (List ℕ) → List Action → Type 0
AreActions [] [] = Unit {0}
AreActions [] (action ∷ actions) = ⊥
AreActions (field ∷ fields) [] = ⊥
AreActions (field ∷ fields) (action ∷ actions) = IsAction field action × AreActions fields actions

-- the client's number of a client's line, and the text of its actions
abbrev pub client_head : List ℕ → Option (ℕ × List ℕ)
client_head text = option_and_then operand_of (text_after (codes "client ") text)

-- `client C ACTION ..`
pub record IsClient (text : List ℕ) (line : ClientLine) : Type 0 where
  pub rest : List ℕ
  pub head : client_head text ≡ Some (line.client, rest)
  pub actions : AreActions (fields_of rest) line.actions

-- ---- what its lines mean, one by one

-- what was read so far: nothing; the boot line; the boot line, the epochs line, and clients' lines
pub data Stage : Type 0 where
  unbooted : Stage
  booted : BootLine → Stage
  told : RunFile → Stage

-- whether the client has one of these lines
abbrev pub has_line : ℕ → List ClientLine → Bool
has_line client lines = list_any (λ line. line.client == client) lines

-- the client is one of the pair's, and has no line yet
pub record IsFree (file : RunFile) (client : ℕ) : Type 0 where
  pub least : 1 ≤ client
  pub most : client ≤ file.boot.clients
  pub first : has_line client file.clients ≡ false

-- the file with one client's line more
abbrev pub with_client : RunFile → ClientLine → RunFile
with_client file line = record file { clients = file.clients ++ line ∷ [] }

-- A line that may stand there, and what was read by then.
pub data GoesOn (stage : Stage) (text : List ℕ) (next : Stage) : Type 0 where
  -- an empty line, or a comment
  is_silence : is_silent text ≡ true → next ≡ stage → GoesOn stage text next
  boots : (line : BootLine) → stage ≡ unbooted → IsBoot text line → next ≡ booted line → GoesOn stage text next
  tells : (line : BootLine) (epochs steps : ℕ) → stage ≡ booted line → IsEpochs text epochs steps
      → next ≡ told (record { boot = line; epochs = epochs; steps = steps; clients = [] }) → GoesOn stage text next
  adds : (file : RunFile) (line : ClientLine) → stage ≡ told file → IsClient text line → IsFree file line.client
      → next ≡ told (with_client file line) → GoesOn stage text next

-- A line that may not.
pub data IsBad (stage : Stage) (text : List ℕ) : Type 0 where
  no_boot : is_silent text ≡ false → stage ≡ unbooted → ((line : BootLine) → IsBoot text line → ⊥) → IsBad stage text
  no_epochs : (line : BootLine) → is_silent text ≡ false → stage ≡ booted line → ((epochs steps : ℕ) → IsEpochs text epochs steps → ⊥)
      → IsBad stage text
  no_client : (file : RunFile) → is_silent text ≡ false → stage ≡ told file
      → ((line : ClientLine) → IsClient text line → IsFree file line.client → ⊥) → IsBad stage text

-- A line for whose words or bytes there is no memory. A bad line asks for none.
pub data IsRefused (stage : Stage) (text : List ℕ) : Type 0 where
  no_words : (line : BootLine) → stage ≡ unbooted → IsBoot text line → IsRefused stage text
  no_actions : (file : RunFile) (line : ClientLine) → stage ≡ told file → IsClient text line → IsFree file line.client
      → IsRefused stage text

-- ---- the file

-- what comes of a file: it says this; the line of that number is bad, the first being 1; or memory was refused
pub data Outcome : Type 0 where
  says : RunFile → Outcome
  bad : ℕ → Outcome
  refused : Outcome

-- Of a file so many lines were read, and this is what they say. What comes of it with these lines that are left:
pub data Means : Stage → ℕ → List (List ℕ) → Outcome → Type 0 where
  ends : (file : RunFile) (count : ℕ) → Means (told file) count [] (says file)
  -- it ends before its boot line, or before its epochs line: its last line is bad
  lacks_boot : (count : ℕ) → Means unbooted count [] (bad count)
  lacks_epochs : (line : BootLine) (count : ℕ) → Means (booted line) count [] (bad count)
  goes_on : (stage next : Stage) (count : ℕ) (text : List ℕ) (texts : List (List ℕ)) (outcome : Outcome) → GoesOn stage text next
      → Means next (count + 1) texts outcome → Means stage count (text ∷ texts) outcome
  ends_badly : (stage : Stage) (count : ℕ) (text : List ℕ) (texts : List (List ℕ)) → IsBad stage text
      → Means stage count (text ∷ texts) (bad (count + 1))
  ends_refused : (stage : Stage) (count : ℕ) (text : List ℕ) (texts : List (List ℕ)) → IsRefused stage text
      → Means stage count (text ∷ texts) refused
