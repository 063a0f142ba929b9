-- A cut is canonical, and its image is the machine's guest.
use Rattle.std.proofs.Common.{◌≡◌, ℕ, ◌*◌, ◌^◌, ◌<◌, ◌≤◌, ◌==◌, cond, not, false, List, [], length, replicate, map, sym, ap, ◌∙◌, arith}
use Rattle.std.{proofs.{Common.subst, lemmas.{List.length-replicate, Bool.{eq-eqb, ne_eqb}}}, specs.Prelude.{All, IsTrue}}
use Rattle.arrayvec.specs.ArrayVec.{ArrayVec}
use Rattle.net_device.specs.Frames.{IsFrame}
use Rattle.guest_rules.specs.{Dirty.Rises, Guest.{Guest, sector_count, State}, MachineStates.{IsMachineState, state_of, with_state}}
use Rattle.epoch_snapshot.specs.{declared.changes.{PageChange.PageChange, SectorChange.SectorChange}, Bases.{IsBase, IsCheckpointOver}, Blocks.is_zero}
use Rattle.epoch_snapshot.specs.{Blocks.block_numbers, Checkpoints.{Change, IsCanonical, block_count}, Cuts.{sector_of, changed_blocks}}
use Rattle.epoch_snapshot.specs.{Cuts.{changed_sectors, used_sectors}, Images.{with_blocks, with_sectors, base_ram, base_sectors, image_of}}
use Rattle.epoch_snapshot.specs.laws.{Cuts.with_blocks-cut, Canonical.{Rises-changed, masks-changed, length-changed_blocks}}
use Rattle.epoch_snapshot.specs.laws.{Canonical.blocks-changed, Sectors.{AgreesOff, AgreesOff-zero, with_sectors-changed}}
use Rattle.epoch_snapshot.specs.laws.Sectors.{numbers-changed, Rises-used}

-- what a cut keeps of a machine is canonical
pub IsCanonical-cut : (old listed : List ℕ) (sent : List (ArrayVec ℕ)) (m : State) (generation number : ℕ) (c : Change) →
    IsCheckpointOver old listed sent m generation number c →
    1 ≤ generation → generation < 2 ^ 62 → number < 2 ^ 62 → IsMachineState c.state → Rises 0 c.shape.sectors listed →
    (c.number ≡ 0 → All (λ (s : SectorChange). IsTrue (not (is_zero s.bytes))) (changed_sectors m.guest.sectors listed)) →
    All IsFrame sent → length sent ≤ 256 → (c.number ≡ 0 → sent ≡ []) → IsCanonical c
IsCanonical-cut old listed sent m generation number c cut least most below state rises full frames few none =
    let new = m.guest.ram in
    let n = c.shape.pages in
    let blocks = cut.blocks ∙ ap (changed_blocks old new) cut.pages in
    record {
      first_version = omega (arith, cut.version);
      last_version = omega (arith, cut.version);
      first_generation = omega (arith, cut.generation);
      last_generation = omega (arith, cut.generation);
      last_number = omega (arith, cut.number);
      state = state;
      pages = subst (λ (ps : List PageChange). Rises 0 n (map (λ (p : PageChange). p.page) ps)) (sym cut.pages) (Rises-changed old new n);
      masks = subst (λ (ps : List PageChange). All (λ (p : PageChange). p.mask ≡ 0 → ⊥) ps) (sym cut.pages) (masks-changed old new n);
      block_count = ap length blocks ∙ length-changed_blocks old new n ∙ sym (ap block_count cut.pages);
      blocks = subst (λ (bs : List (List ℕ)). All (λ b. IsTrue (not (is_zero b))) bs) (sym blocks) (blocks-changed old new n);
      sectors = subst (Rises 0 c.shape.sectors) (sym (ap (map (λ (s : SectorChange). s.sector)) cut.sectors
          ∙ numbers-changed m.guest.sectors listed)) rises;
      full_sectors = λ z. subst (λ (ss : List SectorChange). All (λ (s : SectorChange). IsTrue (not (is_zero s.bytes))) ss)
          (sym cut.sectors) (full z);
      frames = subst (All IsFrame) (sym cut.frames) frames;
      frame_count = omega (arith, ap length cut.frames, few);
      old_frames = λ one. absurd (omega (arith, one, cut.version));
      old_pages = λ one. absurd (omega (arith, one, cut.version));
      full_frames = λ z. cut.frames ∙ none z;
    }

-- the image of a cut over a base that it stands over
image_over : (old listed : List ℕ) (sent : List (ArrayVec ℕ)) (m : State) (generation number : ℕ) (c : Change) (base : Guest) →
    IsCheckpointOver old listed sent m generation number c →
    length old ≡ length m.guest.ram → base_ram c base.ram ≡ old → length (base_sectors c base.sectors) ≡ length m.guest.sectors →
    Rises 0 c.shape.sectors listed → AgreesOff c.shape.sectors listed (base_sectors c base.sectors) m.guest.sectors →
    with_state m.guest (state_of m.guest) ≡ m.guest → image_of c base ≡ m.guest
unfolding image_of
image_over old listed sent m generation number c base cut same ram size rises agree whole =
    let new = m.guest.ram in
    let memory : with_blocks (base_ram c base.ram) (block_numbers c.pages) c.blocks ≡ new
    = ap (λ r. with_blocks r (block_numbers c.pages) c.blocks) ram
    ∙ (λ k. with_blocks old (block_numbers (cut.pages k)) ((cut.blocks ∙ ap (changed_blocks old new) cut.pages) k))
    ∙ with_blocks-cut old new c.shape.pages same cut.pages_size in
    let disk : with_sectors (base_sectors c base.sectors) c.sectors ≡ m.guest.sectors
    = ap (with_sectors (base_sectors c base.sectors)) cut.sectors
    ∙ with_sectors-changed c.shape.sectors m.guest.sectors cut.sectors_size (base_sectors c base.sectors) 0 listed (size ∙ cut.sectors_size)
    rises agree in
    (λ k. with_state (record base { ram = memory k; sectors = disk k }) (cut.state k)) ∙ whole

not_full : (c : Change) (number : ℕ) → c.number ≡ number → 1 ≤ number → (c.number == 0) ≡ false
not_full c number e some = ne_eqb c.number 0 (λ z. omega (arith, e, z))

pub count_is : (bytes : List ℕ) (n : ℕ) → length bytes ≡ 512 * n → sector_count bytes ≡ n
count_is bytes n e = omega (arith, e)

-- a delta over its base
pub image-delta : (m : State) (generation number : ℕ) (c : Change) (base : Guest) → IsCheckpointOver m.settled m.dirty m.outbox m generation number c →
    1 ≤ number →
    length m.settled ≡ length m.guest.ram → Rises 0 c.shape.sectors m.dirty → with_state m.guest (state_of m.guest) ≡ m.guest →
    IsBase m base → image_of c base ≡ m.guest
unfolding AgreesOff
image-delta m generation number c base cut some same rises whole on =
    let delta = not_full c number cut.number some in
    let ram : base_ram c base.ram ≡ base.ram = ap (λ b. cond b (replicate {A = ℕ} (4096 * c.shape.pages) 0) base.ram) delta in
    let disk : base_sectors c base.sectors ≡ base.sectors = ap (λ b. cond b (replicate {A = ℕ} (512 * c.shape.sectors) 0) base.sectors)
    delta in
    let count = count_is m.guest.sectors c.shape.sectors cut.sectors_size in
    image_over m.settled m.dirty m.outbox m generation number c base cut same (ram ∙ on.ram) (ap length disk ∙ on.size) rises
    (λ i within off. ap (λ b. sector_of b i) disk ∙ on.sectors i (omega (arith, count)) off) whole

-- a full one over any guest
pub image-full : (m : State) (generation : ℕ) (c : Change) (base : Guest) →
    IsCheckpointOver (replicate (length m.guest.ram) 0) (used_sectors m.guest.sectors c.shape.sectors) [] m generation 0 c →
    with_state m.guest (state_of m.guest) ≡ m.guest → image_of c base ≡ m.guest
image-full m generation c base cut whole =
    let full = eq-eqb c.number 0 cut.number in
    let ram : base_ram c base.ram ≡ replicate (length m.guest.ram) 0
    = ap (λ b. cond b (replicate {A = ℕ} (4096 * c.shape.pages) 0) base.ram) full ∙ ap (λ n. replicate {A = ℕ} n 0) (sym cut.pages_size) in
    let disk : base_sectors c base.sectors ≡ replicate (512 * c.shape.sectors) 0 =
    ap (λ b. cond b (replicate {A = ℕ} (512 * c.shape.sectors) 0) base.sectors) full in
    image_over (replicate (length m.guest.ram) 0) (used_sectors m.guest.sectors c.shape.sectors) [] m generation 0 c base cut
    (length-replicate (length m.guest.ram) 0) ram (ap length disk ∙ length-replicate (512 * c.shape.sectors) 0 ∙ sym cut.sectors_size)
    (Rises-used m.guest.sectors c.shape.sectors)
    (subst (λ (b : List ℕ). AgreesOff c.shape.sectors (used_sectors m.guest.sectors c.shape.sectors) b m.guest.sectors) (sym disk)
    (AgreesOff-zero c.shape.sectors m.guest.sectors cut.sectors_size))
    whole
