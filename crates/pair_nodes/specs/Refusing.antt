-- Why a call is refused, by a table of rows; and last, if it takes memory, where a growth was really refused.
use Rattle.std.specs.Prelude.{◌≡◌, ◌⊎◌, List, None, Some}
use Rattle.memory_wanted.specs.Wanted.{wanted}
use Rattle.pair_record.specs.Tables.{Row, first_refusal}
use Rattle.pair_record.specs.declared.event.Refusal.{Refusal}
use Rattle.pair_record.specs.declared.event.Refusal.TheVariants.{NoMemory}

abbrev pub IsFree : List Row → Type 0
IsFree rows = first_refusal rows ≡ None

abbrev pub IsWhy : List Row → Refusal → Type 0
IsWhy rows why = first_refusal rows ≡ Some why

abbrev pub IsWhyOrMemory : List Row → Refusal → Type 0
IsWhyOrMemory rows why = IsWhy rows why ⊎ (IsFree rows × (why ≡ NoMemory wanted))
