-- What a node's lines do, beside what may happen at two nodes with a bag of messages between them.
use Rattle.std.specs.Prelude.{◌≡◌, ℕ, List}
use Rattle.pair_nodes.specs.Flagged.{begun_primary}
use Rattle.pair_nodes.specs.Sides.{Primary, after_arrival}
use Rattle.pair_nodes.specs.Sites.{Site, Happening, Happens, goes_live}
use Rattle.script_player.specs.Session.{IsReply, Replies}
use Rattle.node_player.specs.Lines.{Line, arrive}
use Rattle.node_player.specs.Meaning.{PlaysLine}
use Rattle.node_player.specs.Nodes.{Node, nothing, primary, standby}

-- what a node may be in a session: what lines lead to, from nothing on, each answered as its meaning says, with `no_memory` where
-- memory was wanted
abbrev pub IsReached : Node → Type 0
IsReached node =
    (no_memory : List ℕ) × (lines : List (List ℕ)) × (printed : List ℕ)
    × Replies (IsReply no_memory (PlaysLine no_memory)) nothing lines printed node

-- A line of the primary of a site leads to q: nothing changes; or this happens, and leaves it so; or the line's frame arrives.
pub data IsPrimarysHalf (s : Site) (line : Line) (q : Primary) : Type 0 where
  stays : q ≡ s.primary → IsPrimarysHalf s line q
  happens : (x : Happening) (t : Site) → Happens s x t → t.primary ≡ q → IsPrimarysHalf s line q
  arrives : (bytes : List ℕ) → line ≡ arrive bytes → q ≡ after_arrival (record { items = bytes }) s.primary → IsPrimarysHalf s line q

-- A line of the standby of a site leads to this node: nothing changes; or this happens, and leaves it so; or it goes live.
pub data IsStandbysHalf (s : Site) (new : Node) : Type 0 where
  stays_standby : new ≡ standby s.standby → IsStandbysHalf s new
  happens_there : (x : Happening) (t : Site) → Happens s x t → new ≡ standby t.standby → IsStandbysHalf s new
  becomes_live : (t : Site) → Happens s goes_live t → new ≡ primary (begun_primary t.primary) → IsStandbysHalf s new
