-- What each call of a primary answers and leaves, and why one is refused: rows in order, of which the first that holds says why.
use Rattle.std.specs.Prelude.{◌≡◌, ◌≤◌, ◌<◌, if◌then◌else◌, ℕ, ◌+◌, ◌-◌, ◌==◌, not, ◌&&◌, nat_le, nat_lt, Bool, true, false}
use Rattle.std.specs.Prelude.{List, [], ◌∷◌, length, take, drop, slice_get, Option, None, Some, Result, Ok, Err}
use Rattle.failover.specs.Generations.{generation_limit}
use Rattle.failover.specs.declared.mode.Mode.{Mode}
use Rattle.failover.specs.declared.mode.Mode.TheVariants as modes
use Rattle.guest_rules.specs.Guest.{boot_guest}
use Rattle.guest_rules.specs.Limits.{stepping_frames}
use Rattle.guest_rules.specs.Runs.{HaveRoom}
use Rattle.guest_rules.specs.declared.shapes.Shape.{Shape}
use Rattle.output_gate.specs.Epochs.{Epoch}
use Rattle.pair_record.specs.ClientActs.{is_bad_length}
use Rattle.pair_record.specs.Limits.{last_frame, first_frame}
use Rattle.pair_record.specs.Tables.{Row}
use Rattle.pair_record.specs.declared.event.Packet.{Packet}
use Rattle.pair_record.specs.declared.event.Refusal.{Refusal}
use Rattle.pair_record.specs.declared.event.Refusal.TheVariants.{BadFrame, NotPaired, AlreadyPaired, Stale, Gap, CutNeeded, Exhausted}
use Rattle.full_text.specs.Full.{IsMost}
use Rattle.pair_core.specs.Nodes.{settled_node}
use Rattle.pair_nodes.specs.Refusing.{IsFree, IsWhy}
use Rattle.pair_nodes.specs.Sides.{Primary, after_run, cut_rows, PrimaryCuts, IsFull, after_protect}

-- A PRIMARY BOOTS from this image: it is alone, in the first generation
abbrev pub booted_primary : Shape → List ℕ → Primary
booted_primary shape image = record {
  live = settled_node (boot_guest shape.pages shape.sectors image);
  shape = shape;
  generation = 1;
  backed = false;
  to_cut = 1;
  pending = [];
  texts = [];
  next_frame = first_frame;
}

-- WHAT IT SHOWS. Its standby fills while the full checkpoint, number 0, is pending.
abbrev pub has_full : List Epoch → Bool
has_full [] = false
has_full (e ∷ es) = e.number == 0

abbrev pub mode_of : Primary → Mode
mode_of p = if p.backed then (if has_full p.pending then modes.Filling else modes.Paired) else modes.Alone

-- A FRAME of so many bytes ARRIVES
abbrev pub arrive_rows : ℕ → List Row
arrive_rows count = (is_bad_length count, BadFrame) ∷ []

-- IT MAKES so many STEPS of count: all of them, unless one finds too few free places in the outbox
pub record IsRun (count made : ℕ) (p q : Primary) : Type 0 where
  pub most : made ≤ count
  pub left : q ≡ after_run made p
  pub room : HaveRoom made p.live.guest p.live.outbox
  pub few : length q.live.outbox ≤ 256
  pub full : made < count → stepping_frames < length q.live.outbox

-- where it is alone, the frames that its guest may send need numbers
abbrev pub step_rows : Primary → List Row
step_rows p = (not p.backed && nat_lt last_frame (p.next_frame + 256), Exhausted) ∷ []

-- a full outbox ends a run early: of a primary with a standby that is a refusal, and the steps before it stay
abbrev pub IsSteps : ℕ → Primary → Result ℕ Refusal → Primary → Type 0
IsSteps count p (Ok made) q = IsFree (step_rows p) × (p.backed ≡ true → made ≡ count) × IsRun count made p q
IsSteps count p (Err CutNeeded) q = (p.backed ≡ true) × ((made : ℕ) × (made < count) × IsRun count made p q)
IsSteps count p (Err why) q = IsWhy (step_rows p) why × (q ≡ p)

-- what the guest of a primary that is alone has sent is let out
abbrev pub after_release : Primary → Primary
after_release p = record p { live = record p.live { outbox = [] }; next_frame = p.next_frame + length p.live.outbox }

-- A CUT
abbrev pub cut_refusals : Primary → List Row
cut_refusals p = (not p.backed, NotPaired) ∷ cut_rows p

-- it answers how many bytes the text has
pub record IsSealed (p : Primary) (count : ℕ) (q : Primary) : Type 0 where
  pub free : IsFree (cut_refusals p)
  pub text : List ℕ
  pub bytes : count ≡ length text
  pub cut : PrimaryCuts p text q

-- THE TEXTS of the pending checkpoints have consecutive numbers, up to that of the last one cut
abbrev pub first_pending : Primary → ℕ
first_pending p = p.to_cut - length p.pending

abbrev pub pending_text : Primary → ℕ → Option (List ℕ)
pending_text p n = if nat_lt n (first_pending p) then None else slice_get p.texts (n - first_pending p)

-- of that text the bytes from there on, so many or as many as there are
abbrev pub part_of : ℕ → ℕ → List ℕ → List ℕ
part_of from count text = take count (drop from text)

abbrev pub text_answer : Primary → ℕ → ℕ → ℕ → Option (List ℕ) → Result (List ℕ) Refusal
text_answer p n from count None = Err Gap
text_answer p n from count (Some text) = Ok (part_of from count text)

abbrev pub text_part : Primary → ℕ → ℕ → ℕ → Result (List ℕ) Refusal
text_part p n from count = if p.backed then text_answer p n from count (pending_text p n) else Err NotPaired

-- AN ACKNOWLEDGEMENT
abbrev pub ack_rows : Primary → Packet → List Row
ack_rows p ack = (not p.backed, NotPaired) ∷ (not (ack.generation == p.generation), Stale) ∷ (nat_le p.to_cut ack.number, Gap) ∷ []

-- ITS STANDBY HAS STOPPED
abbrev pub alone_rows : Primary → List Row
alone_rows p = (not p.backed, NotPaired) ∷ []

-- A NEW STANDBY is to come
abbrev pub protect_rows : Primary → List Row
protect_rows p = (p.backed, AlreadyPaired) ∷ (nat_le generation_limit (p.generation + 1), Exhausted) ∷ []

-- it answers how many bytes the full checkpoint's text has at most, whatever its memory has
pub record IsProtected (p : Primary) (count : ℕ) (q : Primary) : Type 0 where
  pub free : IsFree (protect_rows p)
  pub text : List ℕ
  pub bytes : IsMost count text p.live.guest.ram
  pub full : IsFull p text
  pub left : q ≡ after_protect p text
