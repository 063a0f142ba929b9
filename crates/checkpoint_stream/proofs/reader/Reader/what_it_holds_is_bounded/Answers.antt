-- What a sound reading holds is what the format allows.
use Rattle.std.proofs.Common.{subst, arith}
use Rattle.checkpoint_stream.specs.{Bounds.IsBounded, Sound.HoldsFew}
use Rattle.checkpoint_stream.proofs.Holding.{few-at, blocks-few}
use Rattle.checkpoint_stream.proofs.reader.Reader.what_it_holds_is_bounded.Goals as goal

pub returns : goal.returns
returns c =
    let r = c.self.inside.parts in
    let inv = c.self.invariant in
    let few : HoldsFew r = few-at r.place r inv.place inv.frames in
    subst IsBounded c.self.view_is (record {
      head = omega (arith, inv.head.known, inv.head.rows);
      pages = few.pages;
      blocks = omega (arith, few.blocks, few.pages, blocks-few r.pages c.widths.ensures.masks);
      block_bytes = c.widths.ensures.blocks;
      sectors = few.sectors;
      sector_bytes = c.widths.ensures.sectors;
      frames = few.frames;
      each_frame = few.each_frame;
      begun = c.widths.ensures.begun;
    })
