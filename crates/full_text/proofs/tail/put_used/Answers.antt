-- A sector's record is put where it isn't all zero.
use Rattle.std.proofs.Common.{◌≡◌, ◌+◌, ◌++◌, ◌∷◌, [], ℕ, List, cond, length, length-append, append_assoc, ap, sym, ◌∙◌, arith, refl}
use Rattle.std.proofs.lemmas.List.{append-nil}
use Rattle.epoch_snapshot.specs.Cuts.{changed_sectors, sector_of, used_sectors}
use Rattle.checkpoint_stream.specs.HeadTable.{bytes_of}
use Rattle.checkpoint_stream.specs.Text.{joined, sector_units}
use Rattle.checkpoint_stream.specs.declared.rules.Width.TheVariants.{Four}
use Rattle.full_text.proofs.TextLemmas.{sector-put, sector-slice, no-sectors}
use Rattle.full_text.proofs.tail.put_used.Goals.{then-not-blank, else-not-blank}
use Rattle.full_text.proofs.tail.put_used.Goals as goal

pub loop-sector-init : goal.loop-sector-init
unfolding used_sectors
loop-sector-init c = record {
  count = refl;
  few = omega arith;
  items = sym (append-nil c.args.text.now.items) ∙ ap (λ l. c.args.text.now.items ++ l) (sym no-sectors);
  size = omega arith;
  room = omega arith;
}

pub loop-sector-preserved : goal.loop-sector-preserved
loop-sector-preserved c =
    let disk = c.args.machine.now.guest.sectors in
    let n = c.loop-sector.sector in
    let before = used_sectors disk n in
    let more = c.changes_are_found_in_turn.ensures.sectors disk n c.blank.result c.blank.ensures in
    elim c.if-not-blank.branch [
      | then-not-blank w ↦
          let used : used_sectors disk (n + 1) ≡ before ++ n ∷ [] = more ∙ ap (λ b. before ++ cond b [] (n ∷ [])) w.if-not-blank.true in
          let bytes : w.sector.result.now ≡ sector_of disk n = w.sector.ensures ∙ sector-slice disk n in
          rw w.used-is (rw w.text-is (record {
            count = omega (arith, c.loop-sector.invariant.count, ap (λ (l : List ℕ). length l) used, length-append before (n ∷ []));
            few = omega (arith, c.loop-sector.invariant.few);
            items = sector-put disk before (used_sectors disk (n + 1)) c.args.text.now.items c.loop-sector.text.items w.put.new.text.items n
                used c.loop-sector.invariant.items
                (w.put.ensures.items
                ∙ (λ i. w.put_four.ensures.items i ++ bytes i)
                ∙ append_assoc c.loop-sector.text.items (bytes_of Four n) (sector_of disk n));
            size = omega (
              arith,
              ap (λ (l : List ℕ). length l) w.put.ensures.items,
              length-append w.put_four.new.text.items w.sector.result.now,
              w.put_four.ensures.size,
              c.loop-sector.invariant.size,
            );
            room = omega (arith, c.loop-sector.invariant.room, w.put_four.ensures.room, w.put.ensures.room);
          }))
      | else-not-blank w ↦
          let used : used_sectors disk (n + 1) ≡ before =
          more ∙ ap (λ b. before ++ cond b [] (n ∷ [])) w.if-not-blank.false ∙ append-nil before in
          rw w.used-is (rw w.text-is (record {
            count = c.loop-sector.invariant.count ∙ ap (λ (l : List ℕ). length l) (sym used);
            few = omega (arith, c.loop-sector.invariant.few);
            items = c.loop-sector.invariant.items
                ∙ ap (λ (l : List ℕ). c.args.text.now.items ++ joined (sector_units (changed_sectors disk l))) (sym used);
            size = c.loop-sector.invariant.size;
            room = c.loop-sector.invariant.room;
          }))
    ]
