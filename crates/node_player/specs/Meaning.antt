-- What the lines of a node mean: how each is answered, and what the node is after it (docs/NODES.md, "Lines").
use Rattle.std.specs.Prelude.{◌≡◌, ℕ, true, false, List, [], Option, None}
use Rattle.script_player.specs.Meaning.{is_silent}
use Rattle.script_player.specs.Session.{bad_answer, IsReply, IsServed}
use Rattle.script_player.specs.SessionLines.{lines_with}
use Rattle.script_player.specs.Streams.{Reading, Writing}
use Rattle.pair_nodes.specs.Flagged.{Flagged}
use Rattle.node_player.specs.AtNothing.{AtNothing}
use Rattle.node_player.specs.AtPrimary.{AtPrimary}
use Rattle.node_player.specs.AtStandby.{AtStandby, image_sector}
use Rattle.node_player.specs.Lines.{Line, IsLine, WantsMemory, following}
use Rattle.node_player.specs.Nodes.{Node, nothing, primary, standby}
use Rattle.node_player.specs.Printed.{sector_named}

-- the sector that a line's number names, none where the node has no guest or its disk no such sector
abbrev pub node_sector : Node → ℕ → Option (List ℕ)
node_sector nothing sector = None
node_sector (primary p) sector = sector_named p.primary.live.guest.sectors sector
node_sector (standby b) sector = image_sector b sector

-- A line is answered so. That memory was wanted prints `no_memory`.
abbrev pub NodeAnswers : List ℕ → Node → Line → List ℕ → Node → Type 0
NodeAnswers no_memory nothing line printed new = AtNothing no_memory line printed new
NodeAnswers no_memory (primary p) line printed new = (q : Flagged) × AtPrimary no_memory p line printed q × (new ≡ primary q)
NodeAnswers no_memory (standby b) line printed new = AtStandby no_memory b line printed new

-- How a line is answered that a session keeps, and the node after it.
pub data PlaysLine (no_memory : List ℕ) (node : Node) (text printed : List ℕ) (next : Node) : Type 0 where
  -- an empty line, or a comment
  is_silence : is_silent text ≡ true → printed ≡ [] → next ≡ node → PlaysLine no_memory node text printed next
  answers : (line : Line) → is_silent text ≡ false → IsLine text line → NodeAnswers no_memory node line printed next
      → PlaysLine no_memory node text printed next
  -- it spells no line, and changes nothing
  is_bad : is_silent text ≡ false → ((line : Line) → IsLine text line → ⊥) → printed ≡ bad_answer → next ≡ node
      → PlaysLine no_memory node text printed next
  -- its program or its bytes find no memory, which changes nothing
  finds_no_memory : (line : Line) → is_silent text ≡ false → IsLine text line → WantsMemory line → printed ≡ no_memory → next ≡ node
      → PlaysLine no_memory node text printed next

-- What a node has read and printed when it ends, and its exit status: each line was answered as it came. That memory was
-- wanted prints `no_memory`, which is the writer's.
abbrev pub IsNode : List ℕ → Reading → Reading → Writing → Writing → ℕ → Type 0
IsNode no_memory input input' out out' status = IsServed (lines_with following) (IsReply no_memory (PlaysLine no_memory)) nothing input input' out out' status
