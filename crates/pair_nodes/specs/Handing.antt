-- A NEW GENERATION WITHOUT A NEW BASE. A standby that has committed all that its primary cut is a base of the next generation but one: who
-- has what it has can make the full checkpoint there (our rule, of a standby whose texts are kept in a file).
use Rattle.std.specs.Prelude.{◌≡◌, ℕ, List, ◌++◌}
use Rattle.pair_history.specs.Entries.{Frame}
use Rattle.pair_core.specs.Nodes.{settled_node}
use Rattle.pair_nodes.specs.Networks.{Output, frames_in}
use Rattle.pair_nodes.specs.Sides.{Primary, Standby, after_alone, after_protect, live_of}
use Rattle.pair_nodes.specs.Sites.{Site, alone_site, live_site, protect_site}

-- The primary's epoch has just been cut, and the standby has committed that cut.
pub record IsCaughtUp (p : Primary) (b : Standby) : Type 0 where
  pub guest : p.live ≡ settled_node b.image.guest
  pub shape : p.shape ≡ b.image.shape
  pub generation : p.generation ≡ b.generation

-- ONE TURN of a primary: its standby stops, and a new one is to come, whose full checkpoint has this text
abbrev pub turned : Primary → List ℕ → Primary
turned p text = after_protect (after_alone p) text

abbrev pub turned_site : Site → List ℕ → Site
turned_site s text = protect_site (alone_site s) text

-- A HANDING OVER: the standby goes live, and a new one is to come, whose full checkpoint has this text
abbrev pub handed_over : Standby → List ℕ → Primary
handed_over b text = after_protect (live_of b) text

abbrev pub handed_site : Site → List ℕ → Site
handed_site s text = protect_site (live_site s) text

-- every frame that nodes let out or lost, in order
abbrev pub all_let_out : Output → List Frame
all_let_out o = frames_in o.before ++ o.now
