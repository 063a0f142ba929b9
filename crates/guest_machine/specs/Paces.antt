-- How a pace is asked whether the guest goes on. `answers p n a p'` says that the pace p, asked when n steps were made, answers a, and
-- is p' then.
use Rattle.std.specs.Prelude.{◌≡◌, ℕ, zero, suc, ◌-◌, ◌*◌, ◌<◌, ◌≤◌, Bool, true, false}

-- a pace is asked once more, after it has become `between`, and says yes
pub record OneMore {P : Type 0} (Before Yes : P → Type 0) : Type 0 where
  pub between : P
  pub before : Before between
  pub yes : Yes between

-- a pace is asked so many times, each time when `stretch` steps more were made, first when none were, and says yes each time
unfoldable pub AllYes : {P : Type 0} → (P → ℕ → Bool → P → Type 0) → ℕ → ℕ → P → P → Type 0
AllYes answers stretch zero p p' = p' ≡ p
AllYes answers stretch (suc n) p p' = OneMore (λ q. AllYes answers stretch n p q) (λ q. answers q (n * stretch) true p')

-- a pace lets so many steps by: it is asked as often as they need, and not once more
pub record Lets {P : Type 0} (answers : P → ℕ → Bool → P → Type 0) (stretch made : ℕ) (p p' : P) : Type 0 where
  pub times : ℕ
  pub yes : AllYes answers stretch times p p'
  pub enough : made ≤ times * stretch
  pub needed : 0 < times → (times - 1) * stretch < made

-- a pace lets so many steps by, and then says no
pub record Holds {P : Type 0} (answers : P → ℕ → Bool → P → Type 0) (stretch made : ℕ) (p p' : P) : Type 0 where
  pub times : ℕ
  pub between : P
  pub yes : AllYes answers stretch times p between
  pub whole : made ≡ times * stretch
  pub no : answers between made false p'
