use Rattle.std.proofs.Common.{ap, ◌∙◌, map, ◌++◌, ◌∷◌, []}
use Rattle.frame_list.specs.Listed.{Listed}
use Rattle.frame_list.specs.internal.Spans.{frame_at}
use Rattle.frame_list.proofs.SpanLemmas.{put, frame_of}
use Rattle.frame_list.proofs.list.FrameList.push_reserved.Goals as goal

pub returns-clause-items : goal.returns-clause-items
returns-clause-items c =
    let e = c.put_last.ensures in
    (λ i. map (frame_at (e.bytes i)) (e.spans i))
    ∙ put c.self.inside.bytes.items c.args.bytes.now c.self.inside.spans.items c.self.invariant.inside
    ∙ ap (λ (l : Listed). l.items ++ frame_of c.args.bytes.now ∷ []) c.self.view_is
