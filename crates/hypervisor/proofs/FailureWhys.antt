-- Which refusals the first row of a failure's table may be, and of a new backup's.
use Rattle.std.proofs.Common.{◌≡◌, ◌+◌, [], ◌∷◌, length, Bool, true, false, Ok, Err, Result, Some}
use Rattle.std.specs.Prelude.{IfErr, nat_le}
use Rattle.std.specs.List.{Contains}
use Rattle.memory_wanted.specs.Wanted.{wanted}
use Rattle.failover.specs.declared.change.Change.TheVariants as changes
use Rattle.failover.specs.declared.mode.Mode.{Mode}
use Rattle.failover.specs.declared.mode.Mode.TheVariants as modes
use Rattle.pair_record.specs.declared.event.Refusal.{Refusal}
use Rattle.pair_record.specs.declared.event.Refusal.TheVariants.{Stopped, NotPaired, AlreadyPaired, NoImage, NoMemory, Exhausted}
use Rattle.pair_record.specs.Modes.{change_refusal}
use Rattle.pair_record.specs.Protocol.{first_refusal, exhausts, all_held}
use Rattle.frame_ports.specs.Limits.{number_limit}
use Rattle.pair_book.specs.Books.{BookState}
use Rattle.pair_book.specs.Calls.{IsWhy, is_word_full}
use Rattle.pair_book.specs.Failures.{first_of, fail_primary_why, fail_backup_why, protect_why}
use Rattle.hypervisor.specs.Refusals.{fail_refusals, protect_refusals}
use Rattle.hypervisor.specs.declared.warden.Node.TheVariants.{Primary, Backup}
use Rattle.hypervisor.proofs.Whys.{first, later}

primary-by-mode : (mode : Mode) (word : Bool) (why : Refusal)
    → first_of (change_refusal changes.FailPrimary mode) ((word, Exhausted) ∷ []) ≡ Some why → Contains (fail_refusals Primary) why
primary-by-mode modes.Paired true why e =
    later why Stopped (NoImage ∷ Exhausted ∷ []) (later why NoImage (Exhausted ∷ []) (first why Exhausted [] (cc)))
primary-by-mode modes.Paired false why e = absurd (cc)
primary-by-mode modes.Filling word why e = later why Stopped (NoImage ∷ Exhausted ∷ []) (first why NoImage (Exhausted ∷ []) (cc))
primary-by-mode modes.Alone word why e = later why Stopped (NoImage ∷ Exhausted ∷ []) (first why NoImage (Exhausted ∷ []) (cc))
primary-by-mode modes.Stopped word why e = first why Stopped (NoImage ∷ Exhausted ∷ []) (cc)

pub primary-why : {T : Type 0} (b : BookState) (r : Result T Refusal) → IfErr r (λ why. fail_primary_why b ≡ Some why)
    → IfErr r (Contains (fail_refusals Primary))
primary-why b (Ok t) e = tt
primary-why b (Err why) e = primary-by-mode b.protocol.mode (is_word_full b) why e

-- where neither the mode refuses it
backup-by-rows : (out word : Bool) (why : Refusal) → IsWhy (first_refusal ((out, Exhausted) ∷ (word, Exhausted) ∷ [])) why
    → Contains (Exhausted ∷ NoMemory wanted ∷ []) why
backup-by-rows true word why e = first why Exhausted (NoMemory wanted ∷ []) e
backup-by-rows false true why e = first why Exhausted (NoMemory wanted ∷ []) e
backup-by-rows false false why e = later why Exhausted (NoMemory wanted ∷ []) (first why (NoMemory wanted) [] e)

behind : (why : Refusal) → Contains (Exhausted ∷ NoMemory wanted ∷ []) why → Contains (fail_refusals Backup) why
behind why h =
    later why Stopped (NotPaired ∷ Exhausted ∷ NoMemory wanted ∷ []) (later why NotPaired (Exhausted ∷ NoMemory wanted ∷ []) h)

backup-by-mode : (mode : Mode) (out word : Bool) (why : Refusal)
    → IsWhy (first_of (change_refusal changes.FailBackup mode) ((out, Exhausted) ∷ (word, Exhausted) ∷ [])) why
    → Contains (fail_refusals Backup) why
backup-by-mode modes.Paired out word why e = behind why (backup-by-rows out word why e)
backup-by-mode modes.Filling out word why e = behind why (backup-by-rows out word why e)
backup-by-mode modes.Alone out word why e =
    later why Stopped (NotPaired ∷ Exhausted ∷ NoMemory wanted ∷ []) (first why NotPaired (Exhausted ∷ NoMemory wanted ∷ []) e)
backup-by-mode modes.Stopped out word why e = first why Stopped (NotPaired ∷ Exhausted ∷ NoMemory wanted ∷ []) e

pub backup-why : {T : Type 0} (b : BookState) (r : Result T Refusal) → IfErr r (IsWhy (fail_backup_why b))
    → IfErr r (Contains (fail_refusals Backup))
backup-why b (Ok t) e = tt
backup-why b (Err why) e =
    backup-by-mode b.protocol.mode (exhausts b.protocol (length (all_held b.ports.boxes [] b.protocol))) (is_word_full b) why e

after-memory : (why : Refusal) → Contains (AlreadyPaired ∷ Exhausted ∷ []) why → Contains protect_refusals why
after-memory why h =
    later why (NoMemory wanted) (Stopped ∷ AlreadyPaired ∷ Exhausted ∷ []) (later why Stopped (AlreadyPaired ∷ Exhausted ∷ []) h)

second-of-protect : (why : Refusal) → why ≡ AlreadyPaired → Contains protect_refusals why
second-of-protect why e = after-memory why (first why AlreadyPaired (Exhausted ∷ []) e)

last-of-protect : (why : Refusal) → why ≡ Exhausted → Contains protect_refusals why
last-of-protect why e = after-memory why (later why AlreadyPaired (Exhausted ∷ []) (first why Exhausted [] e))

protect-by-mode : (mode : Mode) (most word : Bool) (why : Refusal)
    → first_of (change_refusal changes.Protect mode) ((most, Exhausted) ∷ (word, Exhausted) ∷ []) ≡ Some why
    → Contains protect_refusals why
protect-by-mode modes.Alone true word why e = last-of-protect why (cc)
protect-by-mode modes.Alone false true why e = last-of-protect why (cc)
protect-by-mode modes.Alone false false why e = absurd (cc)
protect-by-mode modes.Paired most word why e = second-of-protect why (cc)
protect-by-mode modes.Filling most word why e = second-of-protect why (cc)
protect-by-mode modes.Stopped most word why e =
    later why (NoMemory wanted) (Stopped ∷ AlreadyPaired ∷ Exhausted ∷ []) (first why Stopped (AlreadyPaired ∷ Exhausted ∷ []) (cc))

pub protect-refused : {T : Type 0} (b : BookState) (r : Result T Refusal) → IfErr r (λ why. protect_why b ≡ Some why)
    → IfErr r (Contains protect_refusals)
protect-refused b (Ok t) e = tt
protect-refused b (Err why) e =
    protect-by-mode b.protocol.mode (nat_le number_limit (b.protocol.generation + 1)) (is_word_full b) why e
