use Rattle.std.proofs.Common.{ap, ◌∙◌, sym, map, take}
use Rattle.std.proofs.lemmas.List.{take-map}
use Rattle.frame_list.specs.Listed.{Listed}
use Rattle.frame_list.specs.internal.Spans.{frame_at}
use Rattle.frame_list.proofs.list.FrameList.truncate.Goals as goal

pub returns-clause-items : goal.returns-clause-items
returns-clause-items c =
    let f = frame_at c.self.inside.bytes.items in
    ap (map f) c.truncate.ensures.items ∙ sym (take-map f c.args.len c.self.inside.spans.items)
    ∙ ap (λ (l : Listed). take c.args.len l.items) c.self.view_is
