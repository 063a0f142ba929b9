-- The bits of a set of clients, and when a frame's first bytes name a client.
use Rattle.std.proofs.Common.{
  ◌≡◌,
  ℕ,
  ◌+◌,
  ◌-◌,
  ◌*◌,
  ◌%◌,
  ◌^◌,
  ◌<◌,
  ◌≤◌,
  Bool,
  true,
  false,
  ◌&&◌,
  ◌||◌,
  nat_le,
  nat_eq,
  ◌==◌,
  List,
  [],
  ◌∷◌,
  ◌++◌,
  length,
  get_or,
  refl,
  sym,
  ◌∙◌,
  ap,
  arith,
  ⊎_elim,
  ◌⊎◌,
  lit<,
  if◌then◌else◌,
}
use Rattle.std.proofs.Math.Bool.{and-true, and-false, and_assoc, or-true, or-false}
use Rattle.std.proofs.lemmas.Bool.{cases_lt, cases_eq, le-leb, lt-leb, eq-eqb, eqb-true, ne_eqb}
use Rattle.std.proofs.Math.Nat.{pow-le-pow_right, one-mul, mod-eq_of_lt}
use Rattle.std.proofs.lemmas.Nat.Bits.{bit_at-zero, bit_at-pow_same, bit_at-pow_other, bit_at_ones, bit_at_ones_above}
use Rattle.std.specs.Int.{bit_at}
use Rattle.std.specs.List.{starts_with}
use Rattle.frame_ports.specs.Addresses.{addressed, client_address, broadcast_address}
use Rattle.frame_ports.specs.Targets.{has_target}

-- a list with fewer elements begins with no such list
pub prefix_short : (p xs : List ℕ) → length xs < length p → starts_with nat_eq xs p ≡ false
prefix_short [] xs short = absurd (omega arith)
prefix_short (q ∷ p) [] short = refl
prefix_short (q ∷ p) (x ∷ xs) short = ap (λ b. nat_eq q x && b) (prefix_short p xs (omega arith)) ∙ and-false (nat_eq q x)

-- one byte more
pub prefix_then : (p : List ℕ) (c : ℕ) (xs : List ℕ) (d : ℕ) → length p < length xs →
    starts_with nat_eq xs (p ++ c ∷ []) ≡ (starts_with nat_eq xs p && nat_eq c (get_or xs (length p) d))
prefix_then [] c [] d long = absurd (omega arith)
prefix_then [] c (x ∷ xs) d long = and-true (nat_eq c x)
prefix_then (q ∷ p) c [] d long = absurd (omega arith)
prefix_then (q ∷ p) c (x ∷ xs) d long =
    ap (λ b. nat_eq q x && b) (prefix_then p c xs d (omega arith))
    ∙ sym (and_assoc (nat_eq q x) (starts_with nat_eq xs p) (nat_eq c (get_or xs (length p) d)))

-- the first five bytes of each client's address
abbrev pub group : List ℕ
group = 2 ∷ 0 ∷ 0 ∷ 0 ∷ 1 ∷ []

-- an address begins with the group
pub group_first : (bytes : List ℕ) (c : ℕ) → starts_with nat_eq bytes group ≡ false → starts_with nat_eq bytes (client_address c) ≡ false
group_first bytes c other =
    ⊎_elim
    (λ long. prefix_then group c bytes 0 long ∙ ap (λ b. b && nat_eq c (get_or bytes 5 0)) other)
    (λ short. prefix_short (client_address c) bytes (omega arith))
    (cases_lt 5 (length bytes))

pub addressed-all : (bytes : List ℕ) (c : ℕ) → starts_with nat_eq bytes broadcast_address ≡ true → addressed bytes c ≡ true
unfolding addressed
addressed-all bytes c h = ap (λ b. starts_with nat_eq bytes (client_address c) || b) h
    ∙ or-true (starts_with nat_eq bytes (client_address c))

pub addressed-one : (bytes : List ℕ) (c d : ℕ) → starts_with nat_eq bytes broadcast_address ≡ false → 5 < length bytes →
    starts_with nat_eq bytes group ≡ true → addressed bytes c ≡ nat_eq c (get_or bytes 5 d)
unfolding addressed
addressed-one bytes c d not_all long named =
    ap (λ b. starts_with nat_eq bytes (client_address c) || b) not_all
    ∙ or-false (starts_with nat_eq bytes (client_address c))
    ∙ prefix_then group c bytes d long
    ∙ ap (λ b. b && nat_eq c (get_or bytes 5 d)) named

pub addressed-none : (bytes : List ℕ) (c : ℕ) → starts_with nat_eq bytes broadcast_address ≡ false →
    starts_with nat_eq bytes group ≡ false → addressed bytes c ≡ false
unfolding addressed
addressed-none bytes c not_all other =
    ap (λ b. starts_with nat_eq bytes (client_address c) || b) not_all
    ∙ or-false (starts_with nat_eq bytes (client_address c))
    ∙ group_first bytes c other

pub addressed-short : (bytes : List ℕ) (c : ℕ) → length bytes < 6 → addressed bytes c ≡ false
unfolding addressed
addressed-short bytes c short =
    ap (λ b. starts_with nat_eq bytes (client_address c) || b) (prefix_short broadcast_address bytes short)
    ∙ or-false (starts_with nat_eq bytes (client_address c))
    ∙ prefix_short (client_address c) bytes short

-- bit c - 1 of the numbers that the code makes
bits-all : (n c : ℕ) → 1 ≤ c → bit_at (2 ^ n - 1) (c - 1) ≡ (if nat_le c n then 1 else 0)
bits-all n c pos =
    ⊎_elim
    (λ above. bit_at_ones_above n (c - 1) (omega arith) ∙ ap (λ b. if b then 1 else 0) (sym (lt-leb c n above)))
    (λ within. bit_at_ones n (c - 1) (omega arith) ∙ ap (λ b. if b then 1 else 0) (sym (le-leb c n within)))
    (cases_lt n c)

bits-one : (d c : ℕ) → 1 ≤ d → 1 ≤ c → bit_at (2 ^ (d - 1)) (c - 1) ≡ (if nat_eq c d then 1 else 0)
bits-one d c dpos pos =
    ⊎_elim
    (λ same. ap (λ k. bit_at (2 ^ (d - 1)) (k - 1)) same ∙ bit_at-pow_same (d - 1) ∙ ap (λ b. if b then 1 else 0) (sym (eq-eqb c d same)))
    (λ other. bit_at-pow_other (d - 1) (c - 1) (λ e. other (omega arith)) ∙ ap (λ b. if b then 1 else 0) (sym (ne_eqb c d other)))
    (cases_eq c d)

-- a bit that a test gives, tested
bit_test : (b : Bool) → ((if b then 1 else 0) == 1) ≡ b
bit_test true = refl
bit_test false = refl

-- within the range of clients only the bit matters
target_bit : (n c : ℕ) → 1 ≤ c → c ≤ 16 → has_target n c ≡ (bit_at n (c - 1) == 1)
target_bit n c pos most =
    ap (λ b. b && (nat_le c 16 && (bit_at n (c - 1) == 1))) (le-leb 1 c pos)
    ∙ ap (λ b. b && (bit_at n (c - 1) == 1)) (le-leb c 16 most)

small_pow : (n : ℕ) → n ≤ 16 → 2 ^ n ≤ 65536
small_pow n few = pow-le-pow_right {n = 2} (lit< tt) few

pub all_bits : (n : ℕ) → n ≤ 16 → 1 * 2 ^ n % 4294967296 - 1 ≡ 2 ^ n - 1
all_bits n few = let small : 2 ^ n < 4294967296 = omega (arith, small_pow n few) in
    ap (λ k. k - 1) (ap (λ k. k % 4294967296) (one-mul (2 ^ n)) ∙ mod-eq_of_lt small)

pub has_target-all : (n c : ℕ) → n ≤ 16 → 1 ≤ c → c ≤ 16 → has_target (1 * 2 ^ n % 4294967296 - 1) c ≡ nat_le c n
has_target-all n c few pos most =
    ap (λ bits. has_target bits c) (all_bits n few)
    ∙ target_bit (2 ^ n - 1) c pos most
    ∙ ap (λ bit. bit == 1) (bits-all n c pos)
    ∙ bit_test (nat_le c n)

pub has_target-one : (d c : ℕ) → 1 ≤ d → d ≤ 16 → 1 ≤ c → c ≤ 16 → has_target (1 * 2 ^ (d - 1) % 65536) c ≡ nat_eq c d
has_target-one d c dpos dmost pos most =
    let d15 : d - 1 ≤ 15 = omega arith in
    let le : 2 ^ (d - 1) ≤ 32768 = pow-le-pow_right {n = 2} (lit< tt) d15 in
    let small : 2 ^ (d - 1) < 65536 = omega arith in
    ap (λ bits. has_target bits c) (ap (λ k. k % 65536) (one-mul (2 ^ (d - 1))) ∙ mod-eq_of_lt small)
    ∙ target_bit (2 ^ (d - 1)) c pos most
    ∙ ap (λ bit. bit == 1) (bits-one d c dpos pos)
    ∙ bit_test (nat_eq c d)

pub has_target-none : (c : ℕ) → has_target 0 c ≡ false
has_target-none c =
    ap (λ bit. nat_le 1 c && (nat_le c 16 && (bit == 1))) (bit_at-zero (c - 1))
    ∙ ap (λ b. nat_le 1 c && b) (and-false (nat_le c 16))
    ∙ and-false (nat_le 1 c)

-- the four ways in which a frame is routed, as bits against addresses
pub routes_nowhere : (n c : ℕ) (bytes : List ℕ) → addressed bytes c ≡ false → has_target 0 c ≡ (nat_le c n && addressed bytes c)
routes_nowhere n c bytes h = has_target-none c ∙ sym (ap (λ b. nat_le c n && b) h ∙ and-false (nat_le c n))

pub routes_everywhere : (n c bits : ℕ) (bytes : List ℕ) → has_target bits c ≡ nat_le c n → addressed bytes c ≡ true →
    has_target bits c ≡ (nat_le c n && addressed bytes c)
routes_everywhere n c bits bytes all h = all ∙ sym (ap (λ b. nat_le c n && b) h ∙ and-true (nat_le c n))

pub routes_to_none_such : (n c d : ℕ) (bytes : List ℕ) → 1 ≤ c → addressed bytes c ≡ nat_eq c d → ((d ≡ 0) ⊎ (((d ≡ 0) → ⊥) × (n < d))) →
    has_target 0 c ≡ (nat_le c n && addressed bytes c)
routes_to_none_such n c d bytes pos named outside =
    has_target-none c ∙ sym (ap (λ b. nat_le c n && b) named
    ∙ ⊎_elim
    (λ same. ⊎_elim
    (λ none. absurd (omega arith))
    (λ above. ap (λ b. b && nat_eq c d) (lt-leb c n (omega arith)))
    outside)
    (λ other. ap (λ b. nat_le c n && b) (ne_eqb c d other) ∙ and-false (nat_le c n))
    (cases_eq c d))

pub routes_to_one : (n c d : ℕ) (bytes : List ℕ) → n ≤ 16 → 1 ≤ d → d ≤ n → 1 ≤ c → c ≤ 16 → addressed bytes c ≡ nat_eq c d →
    has_target (1 * 2 ^ (d - 1) % 65536) c ≡ (nat_le c n && addressed bytes c)
routes_to_one n c d bytes few dpos dmost pos most named =
    has_target-one d c dpos (omega arith) pos most ∙ sym (ap (λ b. nat_le c n && b) named
    ∙ ⊎_elim
    (λ same. ap (λ b. b && nat_eq c d) (le-leb c n (omega arith)))
    (λ other. ap (λ b. nat_le c n && b) (ne_eqb c d other) ∙ and-false (nat_le c n) ∙ sym (ne_eqb c d other))
    (cases_eq c d))

-- where this one bit is all of them, only one client is among them
pub only_one : (bits zeros c : ℕ) → zeros < 16 → bits ≡ 1 * 2 ^ zeros % 65536 → 1 ≤ c → c ≤ 16 → has_target bits c ≡ true → c ≡ zeros + 1
only_one bits zeros c few is pos most there =
    let place : zeros + 1 - 1 ≡ zeros = omega arith in
    let one = has_target-one (zeros + 1) c (omega arith) (omega arith) pos most in
    eqb-true c (zeros + 1)
    (sym one ∙ ap (λ k. has_target (1 * 2 ^ k % 65536) c) place ∙ ap (λ n. has_target n c) (sym is) ∙ there)
