use Rattle.std.proofs.Common.{◌≡◌, ◌+◌, ◌++◌, ◌∷◌, [], List, length, map, take, ap, ◌∙◌, sym, subst, arith}
use Rattle.std.specs.List.{All}
use Rattle.std.proofs.lemmas.Grind.{take_at_read}
use Rattle.frame_list.specs.declared.spans.Span.{Span}
use Rattle.frame_list.specs.internal.Spans.{frame_at, IsInside}
use Rattle.frame_list.proofs.SpanLemmas.{frame_of, inside, put}
use Rattle.frame_list.proofs.list.FrameList.copies.Goals as goal

pub loop-frame-preserved : goal.loop-frame-preserved
loop-frame-preserved c =
    let bs = c.loop-frame.bytes.items in
    let ss = c.loop-frame.spans.items in
    let xs = c.as_slice.result.now in
    let v = c.loop-frame.invariant in
    let s : Span = record { start = length bs; end = length bs + length xs } in
    let bytes_are : c.put_last.new.bytes.items ≡ bs ++ xs = c.put_last.ensures.bytes ∙ ap (λ l. l ++ xs) c.reserve.ensures.items in
    let spans_are : c.put_last.new.spans.items ≡ ss ++ s ∷ []
    = c.put_last.ensures.spans
    ∙ (λ i. c.reserve-in-loop-frame.ensures.items i
    ++ record { start = length (c.reserve.ensures.items i); end = length (c.reserve.ensures.items i) + length xs } ∷ []) in
    record {
      items =
          (λ i. map (frame_at (bytes_are i)) (spans_are i))
          ∙ put bs xs ss v.inside
          ∙ (λ i. v.items i ++ frame_of (c.as_slice.ensures.value i) ∷ [])
          ∙ ap (λ f. take c.loop-frame.frame-index c.args.frames.now ++ f ∷ []) c.frame-item.is
          ∙ sym (take_at_read c.args.frames.now c.loop-frame.frame-index c.frame-item.result (omega arith)).1;
      inside =
          subst (λ (l : List _). All (IsInside (length l)) c.put_last.new.spans.items) (sym bytes_are)
          (subst (All (IsInside (length (bs ++ xs)))) (sym spans_are) (inside bs xs ss v.inside c.as_slice.ensures.fits));
    }
