-- What stands before the guest is read from the left, and has one reading.
use Rattle.std.proofs.Common.{◌≡◌, ◌≤◌, ℕ, Bool, true, false, cond, List, ◌∷◌, ◌++◌, Some, None, refl, sym, ap, subst, arith, ◌∙◌, codes}
use Rattle.script_player.specs.Limits.{most_pages, most_sectors, most_clients}
use Rattle.script_player.specs.{Fields.{text_after, operand_of}, Guests.{IsGuest, NamedGuest}, Boot.{IsBoot, BootLine, IsInLimits}}
use Rattle.script_player.specs.internal.Head.{in_limits, head_of}
use Rattle.script_player.specs.laws.Fields.{text_after-some, operand_of-spelled}
use Rattle.script_player.specs.laws.Fields.{operand_of-read}
use Rattle.script_player.specs.laws.Options.{some_same, and_then_some}

-- what a head gives: pages, sectors, clients, and the guest's text
abbrev pub Found : Type 0
Found = ℕ × ℕ × ℕ × List ℕ

within : (line : BootLine) → IsInLimits line → in_limits line.pages line.sectors line.clients ≡ true
within line l = grind (arith, l.pages.0, l.pages.1, l.sectors.0, l.sectors.1, l.clients.0, l.clients.1)

-- what is spelled so is read so
pub head_of-spelled : (text : List ℕ) (line : BootLine) (h : IsBoot text line)
    → head_of text ≡ Some (line.pages, line.sectors, line.clients, h.guest)
head_of-spelled text line h =
    let p = operand_of-spelled h.pages (h.sectors ++ 32 ∷ (h.clients ++ 32 ∷ h.guest)) line.pages h.pages_written in
    let s = operand_of-spelled h.sectors (h.clients ++ 32 ∷ h.guest) line.sectors h.sectors_written in
    let c = operand_of-spelled h.clients h.guest line.clients h.clients_written in
    ap head_of h.shape ∙ rw (p, s, c, within line h.limits) refl

guarded : {A : Type 0} (b : Bool) (x y : A) → cond b (Some x) None ≡ Some y → (b ≡ true) × (x ≡ y)
guarded true x y h = (refl, some_same h)
guarded false x y h = cc

ranges : (pages sectors clients : ℕ) → in_limits pages sectors clients ≡ true
    → ((1 ≤ pages) × (pages ≤ most_pages)) × ((1 ≤ sectors) × (sectors ≤ most_sectors)) × ((1 ≤ clients) × (clients ≤ most_clients))
ranges pages sectors clients h =
    ((grind (arith, h), grind (arith, h)), (grind (arith, h), grind (arith, h)), (grind (arith, h), grind (arith, h)))

-- what is read is spelled so, with the guest that its text names
pub head_of-read : (text : List ℕ) (found : Found) (guest : NamedGuest) → head_of text ≡ Some found → IsGuest found.0 found.3 guest
    → IsBoot text (record { pages = found.0; sectors = found.1; clients = found.2; guest = guest })
head_of-read text found guest h =
    let front = and_then_some _ (text_after (codes "boot ") text) found h in
    let pages = and_then_some _ (operand_of front.0) found front.2 in
    let sectors = and_then_some _ (operand_of pages.0.1) found pages.2 in
    let clients = and_then_some _ (operand_of sectors.0.1) found sectors.2 in
    let read : Found = (pages.0.0, sectors.0.0, clients.0.0, clients.0.1) in
    let inside = guarded {A = Found} (in_limits read.0 read.1 read.2) read found clients.2 in
    let p = operand_of-read front.0 pages.0.0 pages.0.1 pages.1 in
    let s = operand_of-read pages.0.1 sectors.0.0 sectors.0.1 sectors.1 in
    let c = operand_of-read sectors.0.1 clients.0.0 clients.0.1 clients.1 in
    let range = ranges read.0 read.1 read.2 inside.0 in
    subst (λ (f : Found). IsGuest f.0 f.3 guest → IsBoot text (record { pages = f.0; sectors = f.1; clients = f.2; guest = guest }))
    inside.1 (λ named. record {
      pages = p.0;
      sectors = s.0;
      clients = c.0;
      guest = read.3;
      shape = text_after-some (codes "boot ") text front.0 front.1 ∙ ap (λ t. codes "boot " ++ t)
          (p.1 ∙ ap (λ t. p.0 ++ 32 ∷ t) (s.1 ∙ ap (λ t. s.0 ++ 32 ∷ t) c.1));
      pages_written = p.2;
      sectors_written = s.2;
      clients_written = c.2;
      guest_named = named.0;
      limits = record { pages = range.0; sectors = range.1; clients = range.2; guest = named.1 };
    })

-- the guest of the head that was read
pub head-again : (text : List ℕ) (found : Found) (line : BootLine) → Some found ≡ head_of text → (h : IsBoot text line)
    → (found ≡ (line.pages, line.sectors, line.clients, h.guest)) × IsGuest found.0 found.3 line.guest
head-again text found line e h =
    let same = some_same (e ∙ head_of-spelled text line h) in
    (same, subst (λ (f : Found). IsGuest f.0 f.3 line.guest) (sym same) (h.guest_named, h.limits.guest))
