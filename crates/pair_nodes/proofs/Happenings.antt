-- Whatever happens.
use Rattle.std.specs.Prelude.{ℕ}
use Rattle.pair_core.specs.Pair.{Pair}
use Rattle.pair_nodes.specs.Matching.{HasRoom, IsServed, Matches}
use Rattle.pair_nodes.specs.Runs.{Premises, adds, calls_by}
use Rattle.pair_nodes.specs.Sites.{Site, Happening, Happens, cuts, sends, gets, restarts, commits, hears, stops, goes_live, protects}
use Rattle.pair_nodes.specs.Sites.{steps, lone_steps, comes, goes_alone, delivers, overflows, takes, loses_in, loses_out}
use Rattle.pair_nodes.proofs.{CutMatches.cut_matches, SendMatches.send_matches, GetMatches.{commit_matches, get_matches, restart_matches}, HearMatches.hear_matches}
use Rattle.pair_nodes.proofs.{StopMatches.stop_matches, LiveMatches.live_matches, ProtectMatches.{protect_matches, alone_matches}}
use Rattle.pair_nodes.proofs.{LoneMatches.lone_matches, StepMatches.step_matches}
use Rattle.pair_nodes.proofs.ClientMatches.{come_matches, take_matches, lose_in_matches, lose_out_matches, deliver_matches, overflow_matches}

pub happens_served : (s t : Site) (w : Pair) (x : Happening) (most : ℕ) → Matches s w → HasRoom w (adds s x) → Premises s x most
    → Happens s x t → IsServed w (adds s x) (calls_by s x) t
happens_served s t w (cuts text) = cut_matches s t w text
happens_served s t w (sends k) = send_matches s t w k
happens_served s t w (gets bytes) = get_matches s t w bytes
happens_served s t w restarts = restart_matches s t w
happens_served s t w commits = commit_matches s t w
happens_served s t w (hears p) = hear_matches s t w p
happens_served s t w stops = stop_matches s t w
happens_served s t w goes_live = live_matches s t w
happens_served s t w (protects text) = protect_matches s t w text
happens_served s t w (steps n) = step_matches s t w n
happens_served s t w (lone_steps n) = lone_matches s t w n
happens_served s t w (comes c) = come_matches s t w c
happens_served s t w goes_alone = alone_matches s t w
happens_served s t w (delivers c bytes) = deliver_matches s t w c bytes
happens_served s t w (overflows c bytes) = overflow_matches s t w c bytes
happens_served s t w (takes c) = take_matches s t w c
happens_served s t w (loses_in c place) = lose_in_matches s t w c place
happens_served s t w (loses_out c place) = lose_out_matches s t w c place
