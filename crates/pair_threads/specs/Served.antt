-- Sessions that were served, each in its thread.
use Rattle.std.specs.Prelude.{◌≡◌, ℕ, ◌<◌, List, length, slice_index_or}

-- each is one of those before, in their order, as its thread left it
abbrev pub AreServed : {S : Type 0} → (S → S → Type 0) → List S → List S → Type 0
AreServed {S} served before after =
    (length after ≡ length before)
    × ((i : ℕ) (s : S) → i < length before → served (slice_index_or before i s) (slice_index_or after i s))
