-- What is true of each image.
use Rattle.std.proofs.Common.{◌≡◌, ℕ, ◌+◌, ◌-◌, ◌*◌, ◌^◌, ◌<◌, ◌≤◌, ◌==◌, not, Bool, true, false, cond, List, [], length, take, drop}
use Rattle.std.proofs.{Common.{replicate, refl, sym, ap, ◌∙◌, arith, length-append, subst}, lemmas.Bool.{eqb-true, true≢false}}
use Rattle.std.proofs.lemmas.List.{length-replicate, take-replicate, drop-replicate}
use Rattle.std.specs.Prelude.{nat_lt, slice_range, Option, Some, None, is_some, Result, Ok, Err}
use Rattle.guest_rules.specs.{declared.shapes.Shape.Shape, Guest.{Guest, State, boot_guest}}
use Rattle.epoch_snapshot.specs.{Checkpoints.Change, Images.{base_ram, base_sectors}}
use Rattle.backup_image.specs.declared.{errors.ImageError.{ImageError, TheVariants.{Stale, Gap}}, standing.Standing.Standing}
use Rattle.backup_image.specs.{declared.standing.Staged.{Staged, TheVariants.{New, Again}}, Images.{answer_at, settled_machine}}
use Rattle.backup_image.specs.internal.Invariant.{IsImage}

pub some≢none : {X : Type 0} (x : X) (o : Option X) → o ≡ Some x → o ≡ None → ⊥
some≢none x o e f = true≢false (sym (ap is_some e) ∙ ap is_some f)

-- the number at which an image stands, or 0
abbrev pub number_in : Option Standing → ℕ
number_in None = 0
number_in (Some at) = at.number

-- ---- at boot

length-boot : (shape : Shape) (image : List ℕ) → length image ≤ 4096 * shape.pages →
    length (boot_guest shape.pages shape.sectors image).ram ≡ 4096 * shape.pages
unfolding boot_guest
length-boot shape image fits =
    omega (
      arith,
      length-append image (replicate (4096 * shape.pages - length image) 0),
      length-replicate {A = ℕ}
          (4096 * shape.pages - length image) 0,
    )

length-boot_disk : (shape : Shape) (image : List ℕ) → length (boot_guest shape.pages shape.sectors image).sectors ≡ 512 * shape.sectors
unfolding boot_guest
length-boot_disk shape image = length-replicate {A = ℕ} (512 * shape.sectors) 0

pub boot-image : (shape : Shape) (m : State) (image : List ℕ) (standing : Option Standing) → length image ≤ 4096 * shape.pages →
    m.guest ≡ boot_guest shape.pages shape.sectors image → m.outbox ≡ [] → m.dirty ≡ [] → m.settled ≡ m.guest.ram →
    m.written ≡ replicate shape.pages false →
    (standing ≡ None → m.guest ≡ boot_guest shape.pages shape.sectors []) → ((at : Standing) → standing ≡ Some at → at.number < 2 ^ 62) →
    (sent : ℕ) → IsImage shape m standing None sent
boot-image shape m image standing fits guest outbox dirty settled written empty numbers sent = record {
  settled = λ k. record { guest = m.guest; outbox = outbox k; dirty = dirty k; settled = settled k; written = written k };
  pages = ap (λ (g : Guest). length g.ram) guest ∙ length-boot shape image fits;
  sectors = ap (λ (g : Guest). length g.sectors) guest ∙ length-boot_disk shape image;
  empty = empty;
  numbers = numbers;
  shapes = λ c e. absurd (some≢none c None e refl);
  next = λ c e. absurd (some≢none c None e refl);
  numbered = λ c e. absurd (some≢none c None e refl);
}

-- ---- an empty image

pub zero_steps : (pages sectors : ℕ) (image : List ℕ) (g : Guest) → g ≡ boot_guest pages sectors image → g.steps ≡ 0
unfolding boot_guest
zero_steps pages sectors image g is = ap (λ (h : Guest). h.steps) is

pub zero_sector : (pages sectors sector : ℕ) (image : List ℕ) (g : Guest) → sector < sectors → g ≡ boot_guest pages sectors image →
    slice_range g.sectors (512 * sector) (512 * sector + 512) ≡ replicate 512 0
unfolding boot_guest
zero_sector pages sectors sector image g below is =
    let count : (512 * sector + 512) - 512 * sector ≡ 512 = omega arith in
    ap (λ (h : Guest). slice_range h.sectors (512 * sector) (512 * sector + 512)) is
    ∙ ap (λ n. take n (drop (512 * sector) (replicate (512 * sectors) 0))) count
    ∙ ap (take {A = ℕ} 512) (drop-replicate (512 * sector) (512 * sectors) 0)
    ∙ take-replicate {X = ℕ} 512 (512 * sectors - 512 * sector) 0 (omega arith)

-- ---- what a commit stands over

-- a settled machine's guest is the one that it was made of
pub settled-again : (shape : Shape) (m : State) (g : Guest) → m ≡ settled_machine shape g → m ≡ settled_machine shape m.guest
settled-again shape m g is = is ∙ ap (settled_machine shape) (sym (ap (λ (s : State). s.guest) is))

pub small : (n m : ℕ) → n ≡ m → m < 2 ^ 62 → n < 2 ^ 62
small n m e below = omega arith

is_new : Result Staged ImageError → Bool
is_new (Ok New) = true
is_new (Ok Again) = false
is_new (Err e) = false

next-by : (stale gap same : Bool) → is_new (cond stale (Err Stale) (cond gap (Err Gap) (cond same (Ok New) (Ok Again)))) ≡ true →
    same ≡ true
unfolding is_new
next-by true gap same e = absurd (true≢false (sym e))
next-by false true same e = absurd (true≢false (sym e))
next-by false false true e = refl
next-by false false false e = absurd (true≢false (sym e))

-- a full checkpoint is new to an empty image only
full-first : (standing : Option Standing) (generation number : ℕ) → answer_at standing generation number ≡ Ok New → number ≡ 0 →
    standing ≡ None
unfolding is_new
full-first None generation number e z = refl
full-first (Some at) generation number e z =
    let same = next-by (not (generation == at.generation)) (nat_lt (at.number + 1) number) (number == at.number + 1) (ap is_new e) in
    let n : number ≡ at.number + 1 = eqb-true number (at.number + 1) same in
    absurd (omega arith)

based_by : (b : Bool) (base now : List ℕ) → (b ≡ true → base ≡ now) → cond b base now ≡ now
based_by true base now e = e refl
based_by false base now e = refl

module _ (shape : Shape) (m : State) (standing : Option Standing) (staged : Option Change) (sent : ℕ) (c : Change)
    (is : IsImage shape m standing staged sent) (has : staged ≡ Some c) where
  zero_guest : c.number ≡ 0 → m.guest ≡ boot_guest c.shape.pages c.shape.sectors []
  zero_guest z =
      is.empty (full-first standing c.generation c.number (is.next c has) z)
      ∙ ap (λ (s : Shape). boot_guest s.pages s.sectors []) (sym (is.shapes c has))

  -- the memory that what is staged stands over is the image's
  pub staged-ram : base_ram c m.guest.ram ≡ m.guest.ram
  unfolding boot_guest
  staged-ram =
      based_by (c.number == 0) (replicate (4096 * c.shape.pages) 0) m.guest.ram
      (λ e. let all : 4096 * c.shape.pages ≡ 4096 * c.shape.pages - 0 = omega arith in
      ap (λ n. replicate {A = ℕ} n 0) all ∙ sym (ap (λ (g : Guest). g.ram) (zero_guest (eqb-true c.number 0 e))))

  pub staged-sectors : base_sectors c m.guest.sectors ≡ m.guest.sectors
  unfolding boot_guest
  staged-sectors =
      based_by (c.number == 0) (replicate (512 * c.shape.sectors) 0) m.guest.sectors
      (λ e. sym (ap (λ (g : Guest). g.sectors) (zero_guest (eqb-true c.number 0 e))))

  -- the image after it is applied
  pub committed-image : (end : State) (g n : ℕ) (left : Option Change) (last : ℕ) → end ≡ settled_machine c.shape end.guest →
      length end.guest.ram ≡ length m.guest.ram →
      length end.guest.sectors ≡ length m.guest.sectors → n < 2 ^ 62 → left ≡ None →
      IsImage shape end (Some (record { generation = g; number = n })) left last
  committed-image end g n left last settled ram sectors small none = record {
    settled = settled ∙ ap (λ s. settled_machine s end.guest) (is.shapes c has);
    pages = ram ∙ is.pages;
    sectors = sectors ∙ is.sectors;
    empty = λ e. absurd (some≢none (record { generation = g; number = n }) (Some (record { generation = g; number = n })) refl e);
    numbers = λ at e. subst (λ (o : Option Standing). number_in o < 2 ^ 62) e small;
    shapes = λ d e. absurd (some≢none d left e none);
    next = λ d e. absurd (some≢none d left e none);
    numbered = λ d e. absurd (some≢none d left e none);
  }
