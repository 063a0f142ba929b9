-- Which refusals a call may answer. When each of them comes hangs on the book, which is behind the lock: its tables say that.
use Rattle.std.specs.Prelude.{◌≡◌, ℕ, not, Bool, true, false, List, [], ◌∷◌, length}
use Rattle.std.specs.List.{Contains}
use Rattle.memory_wanted.specs.Wanted.{wanted}
use Rattle.pair_history.specs.HistoryState.{HistoryState}
use Rattle.pair_record.specs.declared.event.Refusal.{Refusal}
use Rattle.pair_record.specs.declared.event.Refusal.TheVariants.{Full, BadFrame, NoClient, Stopped, NotPaired, AlreadyPaired, NoImage}
use Rattle.pair_record.specs.declared.event.Refusal.TheVariants.{Behind, Stale, Gap, NoMemory, Exhausted}
use Rattle.pair_record.specs.Protocol.{is_bad_length, is_among}
use Rattle.hypervisor.specs.declared.warden.Node.{Node}
use Rattle.hypervisor.specs.declared.warden.Node.TheVariants.{Primary, Backup}

-- of a frame, and of anything that adds one entry
abbrev pub delivery_refusals : List Refusal
delivery_refusals = Full ∷ Exhausted ∷ NoMemory wanted ∷ []

abbrev pub entry_refusals : List Refusal
entry_refusals = Exhausted ∷ NoMemory wanted ∷ []

-- what ends the runner's epoch
abbrev pub submit_refusals : List Refusal
submit_refusals = Stopped ∷ Behind ∷ NotPaired ∷ AlreadyPaired ∷ Stale ∷ Exhausted ∷ NoMemory wanted ∷ []

-- what the sender calls
abbrev pub next_refusals : List Refusal
next_refusals = Stopped ∷ NotPaired ∷ NoMemory wanted ∷ []

abbrev pub ack_refusals : List Refusal
ack_refusals = Stopped ∷ NotPaired ∷ Stale ∷ Gap ∷ Exhausted ∷ NoMemory wanted ∷ []

-- the failure of a node; and a new backup, whose memory comes first
abbrev pub fail_refusals : Node → List Refusal
fail_refusals Primary = Stopped ∷ NoImage ∷ Exhausted ∷ []
fail_refusals Backup = Stopped ∷ NotPaired ∷ Exhausted ∷ NoMemory wanted ∷ []

abbrev pub protect_refusals : List Refusal
protect_refusals = NoMemory wanted ∷ Stopped ∷ AlreadyPaired ∷ Exhausted ∷ []

-- What the caller can know comes first: bytes that are no frame, and a number that is no client's.

abbrev pub MayRefuseUnless : Bool → Refusal → List Refusal → Refusal → Type 0
MayRefuseUnless true first others why = why ≡ first
MayRefuseUnless false first others why = Contains others why

abbrev pub MayRefuseDelivery : List ℕ → Refusal → Type 0
MayRefuseDelivery bytes why = MayRefuseUnless (is_bad_length (length bytes)) BadFrame delivery_refusals why

abbrev pub is_no_client : HistoryState → ℕ → Bool
is_no_client start c = not (is_among c (length start.boxes))

abbrev pub MayRefuseLoss : HistoryState → ℕ → Refusal → Type 0
MayRefuseLoss start c why = MayRefuseUnless (is_no_client start c) NoClient entry_refusals why
