-- What a call of a node prints and leaves, where it may be refused. That memory was wanted prints `no_memory`, which is the writer's
-- (`Sink` of script_player): who has no want of memory can't print it.
use Rattle.std.specs.Prelude.{◌≡◌, ◌⊎◌, ℕ, List}
use Rattle.pair_record.specs.declared.event.Refusal.{Refusal}
use Rattle.pair_record.specs.Tables.{Row}
use Rattle.pair_nodes.specs.Refusing.{IsFree, IsWhy, IsWhyOrMemory}
use Rattle.script_player.specs.Printed.{told_refusal}

-- a refusal is printed, and changes nothing
abbrev pub Refuses : {S : Type 0} → List ℕ → Refusal → S → List ℕ → S → Type 0
Refuses no_memory why old printed new = (printed ≡ told_refusal no_memory why) × (new ≡ old)

-- It does this; or it is refused, by the first of these rows that holds.
abbrev pub Does : {S : Type 0} → List ℕ → List Row → S → List ℕ → S → Type 0 → Type 0
Does no_memory rows old printed new Done = (IsFree rows × Done) ⊎ ((why : Refusal) × IsWhy rows why × Refuses no_memory why old printed new)

-- The same of one that takes memory: it may be refused for want of that too.
abbrev pub DoesInMemory : {S : Type 0} → List ℕ → List Row → S → List ℕ → S → Type 0 → Type 0
DoesInMemory no_memory rows old printed new Done =
    (IsFree rows × Done) ⊎ ((why : Refusal) × IsWhyOrMemory rows why × Refuses no_memory why old printed new)

-- It does this, or there is no memory for it.
abbrev pub InMemory : {S : Type 0} → List ℕ → S → List ℕ → S → Type 0 → Type 0
InMemory no_memory old printed new Done = Done ⊎ ((printed ≡ no_memory) × (new ≡ old))
