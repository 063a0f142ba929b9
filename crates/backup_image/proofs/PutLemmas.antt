-- Loops that put blocks and sectors into a machine: what is to come, put into what stands there so far, makes what all of it makes of the
-- first.
use Rattle.std.proofs.Common.{◌≡◌, ℕ, ◌+◌, ◌*◌, ◌<◌, ◌≤◌, false, List, [], ◌∷◌, ◌++◌, length, replicate, drop, map, get_or, refl, sym, ap}
use Rattle.std.{proofs.{Common.{◌∙◌, arith, count_ones, length-append}, lemmas.List.{drop_all, length-map}}, specs.Int.bit_at}
use Rattle.guest_rules.specs.{Guest.{Guest, State}, Bytes.{with_bytes, with_xored}, Blocks.{block_place, with_block, with_sector}}
use Rattle.guest_rules.specs.{MachineStates.with_state, declared.machine_state.MachineState.MachineState}
use Rattle.epoch_snapshot.specs.{declared.changes.{PageChange.PageChange, SectorChange.SectorChange}, Blocks.{set_blocks, block_numbers}}
use Rattle.epoch_snapshot.specs.{Checkpoints.{Change, block_count}, Images.{base_ram, base_sectors, image_of, with_blocks, with_sectors}}
use Rattle.backup_image.specs.Images.{settled_machine}
use Rattle.backup_image.proofs.BlockLemmas.{from_block, from_block-set, from_block-clear, from_block-end, same_place, length-with_xored}
use Rattle.std.proofs.lemmas.List.{drop_more}
use Rattle.epoch_snapshot.specs.laws.Blocks.{block_count-drop}

-- what stands at the front of two lists is put first
blocks-append : (ram : List ℕ) (ns ms : List ℕ) (bs cs : List (List ℕ)) → length ns ≡ length bs →
    with_blocks ram (ns ++ ms) (bs ++ cs) ≡ with_blocks (with_blocks ram ns bs) ms cs
unfolding with_blocks
blocks-append ram [] ms [] cs e = refl
blocks-append ram [] ms (b ∷ bs) cs e = absurd (omega arith)
blocks-append ram (n ∷ ns) ms [] cs e = absurd (omega arith)
blocks-append ram (n ∷ ns) ms (b ∷ bs) cs e = blocks-append (with_xored ram (64 * n) b) ns ms bs cs (omega arith)

-- a machine whose memory only is another than at first
pub record SameButMemory (first m : State) : Type 0 where
  pub guest : m.guest ≡ record first.guest { ram = m.guest.ram }
  pub size : length m.guest.ram ≡ length first.guest.ram
  pub flags : m.written ≡ first.written

-- a machine's guest with other memory, of another of the kind
with_ram-again : (first g new : Guest) (ram : List ℕ) → g ≡ record first { ram = g.ram } → new ≡ record g { ram = ram } →
    new ≡ record first { ram = new.ram }
with_ram-again first g new ram so_far is =
    is ∙ ap (λ (h : Guest). record h { ram = ram }) so_far ∙ ap (λ l. record first { ram = l }) (sym (ap (λ (h : Guest). h.ram) is))

-- the memory that numbered blocks make
abbrev pub from_page : ℕ → List ℕ → List ℕ
from_page page blocks = map (λ i. 64 * page + i) blocks

-- ---- the blocks of a page

-- of the blocks of a page that its mask names those from one on are to come
pub record PutsPage (first : State) (page mask : ℕ) (blocks : List (List ℕ)) (block : ℕ) (m : State) (at : ℕ) : Type 0 where
  pub same : SameButMemory first m
  pub put : with_blocks m.guest.ram (from_page page (from_block mask block)) (drop at blocks)
      ≡ with_blocks first.guest.ram (from_page page (set_blocks mask)) blocks
  pub enough : at + length (from_block mask block) ≤ length blocks

pub page-begins : (m : State) (page mask : ℕ) (blocks : List (List ℕ)) → length (set_blocks mask) ≤ length blocks →
    PutsPage m page mask blocks 0 m 0
unfolding set_blocks
page-begins m page mask blocks enough = record {
  same = record { guest = refl; size = refl; flags = refl };
  put = refl;
  enough = omega arith;
}

-- where one is named a block is left
pub enough-at : (mask i at : ℕ) (blocks : List (List ℕ)) → i < 64 → bit_at mask i ≡ 1 → at + length (from_block mask i) ≤ length blocks →
    at < length blocks
enough-at mask i at blocks below set enough = omega (arith, ap length (from_block-set mask i below set), enough)

-- one is put
pub page-put : (first m put : State) (page mask i at then : ℕ) (blocks : List (List ℕ)) (d : List ℕ) →
    PutsPage first page mask blocks i m at →
    i < 64 → bit_at mask i ≡ 1 → length (get_or blocks at d) ≡ 64 → page + 1 ≤ length first.written →
    length first.guest.ram ≡ 4096 * length first.written →
    put ≡ record m {
      guest = with_block m.guest page i (get_or blocks at d);
      settled = (with_block m.guest page i (get_or blocks at d)).ram;
    } →
    then ≡ at + 1 →
    PutsPage first page mask blocks (i + 1) put then
unfolding with_blocks
page-put first m put page mask i at then blocks d so_far below set long inside whole is after =
    let named = from_block-set mask i below set in
    let more : length (from_block mask i) ≡ length (from_block mask (i + 1)) + 1 = ap length named ∙ omega arith in
    let within : at < length blocks = enough-at mask i at blocks below set so_far.enough in
    let b = get_or blocks at d in
    let guest : put.guest ≡ with_block m.guest page i b = ap (λ (s : State). s.guest) is in
    let ram : put.guest.ram ≡ with_xored m.guest.ram (block_place page i) b = ap (λ (g : Guest). g.ram) guest in
    let written : put.written ≡ m.written = ap (λ (s : State). s.written) is in
    let size : length put.guest.ram ≡ length m.guest.ram
    = ap length ram ∙ length-with_xored m.guest.ram b page i long below (omega (arith, so_far.same.size)) in
    record {
      same = record {
        guest = with_ram-again first.guest m.guest put.guest (with_xored m.guest.ram (block_place page i) b) so_far.same.guest guest;
        size = size ∙ so_far.same.size;
        flags = written ∙ so_far.same.flags;
      };
      put = (λ k. with_blocks ((ram ∙ same_place m.guest.ram b page i) k) (from_page page (from_block mask (i + 1)))
          (drop (after k) blocks))
          ∙ sym (λ k. with_blocks m.guest.ram (from_page page (named k)) (drop_more blocks at d within k))
          ∙ so_far.put;
      enough = omega (arith, more, so_far.enough, after);
    }

-- one isn't named
pub page-skip : (first m put : State) (page mask i at then : ℕ) (blocks : List (List ℕ)) → PutsPage first page mask blocks i m at →
    i < 64 → (bit_at mask i ≡ 1 → ⊥) → put ≡ m → then ≡ at → PutsPage first page mask blocks (i + 1) put then
page-skip first m put page mask i at then blocks so_far below clear is after =
    let named = from_block-clear mask i below clear in
    record {
      same = record {
        guest = ap (λ (s : State). s.guest) is ∙ so_far.same.guest ∙ ap (λ (s : State). record first.guest { ram = s.guest.ram }) (sym is);
        size = ap (λ (s : State). length s.guest.ram) is ∙ so_far.same.size;
        flags = ap (λ (s : State). s.written) is ∙ so_far.same.flags;
      };
      put = (λ k. with_blocks (is k).guest.ram (from_page page (sym named k)) (drop (after k) blocks)) ∙ so_far.put;
      enough = omega (arith, ap length named, so_far.enough, after);
    }

-- all are put
pub page-done : (first m : State) (page mask i at : ℕ) (blocks : List (List ℕ)) → PutsPage first page mask blocks i m at → 64 ≤ i →
    m.guest ≡ record first.guest { ram = with_blocks first.guest.ram (from_page page (set_blocks mask)) blocks }
unfolding with_blocks
page-done first m page mask i at blocks all past =
    let made : m.guest.ram ≡ with_blocks first.guest.ram (from_page page (set_blocks mask)) blocks
    = sym (ap (λ ns. with_blocks m.guest.ram (from_page page ns) (drop at blocks)) (from_block-end mask i past)) ∙ all.put in
    all.same.guest ∙ ap (λ l. record first.guest { ram = l }) made

-- ---- the pages

-- of the pages those from one on are to come, with these blocks
pub record PutsPages (first : State) (pages : List PageChange) (blocks : List (List ℕ)) (k : ℕ) (m : State) (rest : List (List ℕ)) :
    Type 0 where
  pub same : SameButMemory first m
  pub put : with_blocks m.guest.ram (block_numbers (drop k pages)) rest ≡ with_blocks first.guest.ram (block_numbers pages) blocks
  pub enough : block_count (drop k pages) ≤ length rest

pub pages-begin : (m : State) (pages : List PageChange) (blocks : List (List ℕ)) → block_count pages ≤ length blocks →
    PutsPages m pages blocks 0 m blocks
pages-begin m pages blocks enough = record {
  same = record { guest = refl; size = refl; flags = refl };
  put = refl;
  enough = enough;
}

numbers-at : (p : PageChange) (ps : List PageChange) → block_numbers (p ∷ ps) ≡ from_page p.page (set_blocks p.mask) ++ block_numbers ps
unfolding block_numbers
numbers-at p ps = refl

-- one is put
pub pages-put : (first m put : State) (pages : List PageChange) (k : ℕ) (d : PageChange) (blocks rest own later : List (List ℕ)) →
    PutsPages first pages blocks k m rest →
    k < length pages → length (set_blocks (get_or pages k d).mask) ≡ count_ones (get_or pages k d).mask → rest ≡ own ++ later →
    length own ≡ count_ones (get_or pages k d).mask →
    put.guest ≡ record m.guest
    { ram = with_blocks m.guest.ram (from_page (get_or pages k d).page (set_blocks (get_or pages k d).mask)) own } →
    length put.guest.ram ≡ length m.guest.ram → put.written ≡ m.written → PutsPages first pages blocks (k + 1) put later
pages-put first m put pages k d blocks rest own later so_far within count split long is size flags =
    let p = get_or pages k d in
    let ns = from_page p.page (set_blocks p.mask) in
    let same : length ns ≡ length own = length-map (set_blocks p.mask) (λ i. 64 * p.page + i) ∙ count ∙ sym long in
    record {
      same = record {
        guest = with_ram-again first.guest m.guest put.guest (with_blocks m.guest.ram ns own) so_far.same.guest is;
        size = size ∙ so_far.same.size;
        flags = flags ∙ so_far.same.flags;
      };
      put = ap (λ (g : Guest). with_blocks g.ram (block_numbers (drop (k + 1) pages)) later) is
          ∙ sym (blocks-append m.guest.ram ns (block_numbers (drop (k + 1) pages)) own later same)
          ∙ sym (λ j. with_blocks m.guest.ram ((ap block_numbers (drop_more pages k d within) ∙ numbers-at p (drop (k + 1) pages)) j) (split j))
          ∙ so_far.put;
      enough = omega (arith, block_count-drop pages k d within, so_far.enough, ap length split, length-append own later);
    }

-- all are put
pub pages-done : (first m : State) (pages : List PageChange) (k : ℕ) (blocks rest : List (List ℕ)) →
    PutsPages first pages blocks k m rest → length pages ≤ k →
    m.guest ≡ record first.guest { ram = with_blocks first.guest.ram (block_numbers pages) blocks }
unfolding with_blocks block_numbers
pages-done first m pages k blocks rest all past =
    let made : m.guest.ram ≡ with_blocks first.guest.ram (block_numbers pages) blocks
    = sym (ap (λ ps. with_blocks m.guest.ram (block_numbers ps) rest) (drop_all k pages past)) ∙ all.put in
    all.same.guest ∙ ap (λ l. record first.guest { ram = l }) made

-- ---- the sectors

-- of the sectors those from one on are to come
pub record PutsSectors (first : State) (sectors : List SectorChange) (k : ℕ) (m : State) : Type 0 where
  pub guest : m.guest ≡ record first.guest { sectors = m.guest.sectors }
  pub put : with_sectors m.guest.sectors (drop k sectors) ≡ with_sectors first.guest.sectors sectors
  pub size : length m.guest.sectors ≡ length first.guest.sectors
  pub flags : length m.written ≡ length first.written

pub sectors-begin : (m : State) (sectors : List SectorChange) → PutsSectors m sectors 0 m
sectors-begin m sectors = record { guest = refl; put = refl; size = refl; flags = refl }

sectors-at : (bytes : List ℕ) (s : SectorChange) (ss : List SectorChange) →
    with_sectors bytes (s ∷ ss) ≡ with_sectors (with_bytes bytes (512 * s.sector) s.bytes) ss
unfolding with_sectors
sectors-at bytes s ss = refl

-- one is put
pub sectors-put : (first m put : State) (sectors : List SectorChange) (k : ℕ) (d : SectorChange) → PutsSectors first sectors k m →
    k < length sectors →
    put.guest ≡ with_sector m.guest (get_or sectors k d).sector (get_or sectors k d).bytes →
    length put.guest.sectors ≡ length m.guest.sectors →
    length put.written ≡ length m.written → PutsSectors first sectors (k + 1) put
sectors-put first m put sectors k d so_far within is size flags =
    let s = get_or sectors k d in
    let new = with_bytes m.guest.sectors (512 * s.sector) s.bytes in
    let bytes : put.guest.sectors ≡ new = ap (λ (g : Guest). g.sectors) is in
    record {
      guest = is ∙ ap (λ (g : Guest). record g { sectors = new }) so_far.guest ∙ ap (λ l. record first.guest { sectors = l }) (sym bytes);
      put = ap (λ l. with_sectors l (drop (k + 1) sectors)) bytes
          ∙ sym (ap (with_sectors m.guest.sectors) (drop_more sectors k d within) ∙ sectors-at m.guest.sectors s (drop (k + 1) sectors))
          ∙ so_far.put;
      size = size ∙ so_far.size;
      flags = flags ∙ so_far.flags;
    }

-- all are put
pub sectors-done : (first m : State) (sectors : List SectorChange) (k : ℕ) → PutsSectors first sectors k m → length sectors ≤ k →
    m.guest ≡ record first.guest { sectors = with_sectors first.guest.sectors sectors }
unfolding with_sectors
sectors-done first m sectors k all past =
    let made : m.guest.sectors ≡ with_sectors first.guest.sectors sectors =
    sym (ap (with_sectors m.guest.sectors) (drop_all k sectors past)) ∙ all.put in
    all.guest ∙ ap (λ l. record first.guest { sectors = l }) made

-- ---- all of it

-- the settled machine with the blocks, the sectors and the state put in is that of the image
pub image-made : (m with_ram with_disk with_rest end : State) (c : Change) (pages : List PageChange) (blocks : List (List ℕ))
    (sectors : List SectorChange) (state : MachineState) →
    pages ≡ c.pages → blocks ≡ c.blocks → sectors ≡ c.sectors → state ≡ c.state →
    base_ram c m.guest.ram ≡ m.guest.ram → base_sectors c m.guest.sectors ≡ m.guest.sectors →
    with_ram.guest ≡ record m.guest { ram = with_blocks m.guest.ram (block_numbers pages) blocks } →
    with_disk.guest ≡ record with_ram.guest { sectors = with_sectors with_ram.guest.sectors sectors } →
    with_rest ≡ record with_disk { guest = with_state with_disk.guest state } →
    end ≡ record with_rest
    { outbox = []; dirty = []; settled = with_rest.guest.ram; written = replicate (length with_rest.written) false } →
    length with_disk.written ≡ c.shape.pages → end ≡ settled_machine c.shape (image_of c m.guest)
unfolding image_of
image-made m with_ram with_disk with_rest end c pages blocks sectors state ps bs ss st memory disk rams disks rests ends flags =
    let guest : with_rest.guest ≡ image_of c m.guest
    = ap (λ (s : State). s.guest) rests
    ∙ ap (λ (g : Guest). with_state g state) (disks ∙ ap (λ (g : Guest). record g { sectors = with_sectors g.sectors sectors }) rams)
    ∙ (λ k. with_state (record m.guest {
      ram = with_blocks (sym memory k) (block_numbers (ps k)) (bs k);
      sectors = with_sectors (sym disk k) (ss k);
    }) (st k)) in
    let count : length with_rest.written ≡ c.shape.pages = ap (λ (s : State). length s.written) rests ∙ flags in
    ends ∙ (λ k. record { guest = guest k; outbox = []; dirty = []; settled = (guest k).ram; written = replicate (count k) false })
