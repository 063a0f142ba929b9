use Rattle.std.proofs.Common.{ℕ, List, length, ◌≤◌, ◌++◌, sym, ◌≡◌, ap, ◌∙◌, subst}
use Rattle.checkpoint_stream.specs.{HeadTable.bytes_of, declared.rules.Width.TheVariants.Four, Text.text, Widths.HasWidths, ReadBack.ReadsBack}
use Rattle.checkpoint_stream.specs.Bounds.{most_text}
use Rattle.checkpoint_stream.proofs.{TextSizes.text_size, Spelling.encoded, TextRead.{has-widths, reads-back}}
use Rattle.checkpoint_stream.proofs.encoding.encode.Goals as goal

pub returns : goal.returns
returns c =
    let spelled : c.put_frames.new.out.items ≡ text c.args.checkpoint.now
    = encoded c.args.checkpoint.now _ _ _ _ _ _ _ _ _ _ _ _ c.put_frames.new.out.items c.numbers.ensures c.pages-pages.ensures.value
    c.blocks-blocks.ensures.value c.sectors-sectors.ensures.value c.frames-frames.ensures.value c.requires c.in_ok-out.ensures.items
    c.in_ok-put_head.ensures.put c.in_ok-put.ensures c.in_ok-put_pages.ensures.put c.in_ok-put-2.ensures c.in_ok-put_sectors.ensures.put
    (c.in_ok-put-3.ensures ∙ ap (λ (n : ℕ). c.put_sectors.new.out.items ++ bytes_of Four n) c.len.ensures) c.in_ok-put_frames.ensures in
    let widths : HasWidths c.args.checkpoint.now
    = has-widths c.args.checkpoint.now _ _ _ _ _ c.state.ensures.value c.numbers.ensures c.pages-pages.ensures.value
    c.blocks-blocks.ensures.value c.sectors-sectors.ensures.value c.state_widths.ensures c.in_ok-put_head.ensures.width
    c.in_ok-put_pages.ensures.width c.block_widths.ensures c.in_ok-put_sectors.ensures.width in
    record {
      text = spelled;
      read = subst (ReadsBack c.args.checkpoint.now) (sym spelled)
          (reads-back c.args.checkpoint.now c.pages-pages.ensures.canonical widths);
      widths = widths;
      short = subst (λ (l : List ℕ). length l ≤ most_text c.args.checkpoint.now.shape) (sym spelled)
          (text_size c.args.checkpoint.now c.requires c.pages-pages.ensures.canonical widths);
    }
