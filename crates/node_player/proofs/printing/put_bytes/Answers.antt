use Rattle.std.proofs.Common.{◌++◌, ◌∷◌, [], sym, ap, ap₂, ◌∙◌, subst, append_assoc}
use Rattle.std.proofs.lemmas.List.{take-append-drop}
use Rattle.script_player.specs.Streams.{IsPut, WritesFront}
use Rattle.script_player.specs.laws.Options.{failed}
use Rattle.node_player.{specs.Printed.raw_text, proofs.PutLemmas.{put-none, put-more, put-last, put-failed, front-longer, long-text}}
use Rattle.node_player.proofs.printing.put_bytes.Goals as goal

pub returns-in_err-put_joined : goal.returns-in_err-put_joined
returns-in_err-put_joined g c =
    let o = g.O.Sink.written c.args.out.now in
    let o' = g.O.Sink.written c.put_joined-2.new.out in
    let head = c.as_slice-2.result.now in
    let first = c.split_at.result.0.now in
    let between = c.split_at-2.result.0.now in
    let last = c.split_at-2.result.1.now in
    let split = sym (ap₂ ◌++◌ c.split_at.ensures.front c.split_at.ensures.back ∙ take-append-drop 16384 c.args.bytes.now) in
    let again = sym (ap₂ ◌++◌ c.split_at-2.ensures.front c.split_at-2.ensures.back
    ∙ take-append-drop c.saturating_sub.result c.split_at.result.1.now) in
    let all = ap (λ h. h ++ (c.args.bytes.now ++ 10 ∷ [])) (sym (c.as_slice-2.ensures.value ∙ c.write_number.ensures))
    ∙ long-text head c.args.bytes.now first c.split_at.result.1.now between last split again in
    failed _ (λ r. IsPut o o' r (raw_text c.args.bytes.now)) c.from_residual.result c.from_residual.ensures.1
    (λ e is. subst (WritesFront o o') (sym all) (front-longer o o' (head ++ (first ++ [])) (between ++ (last ++ 10 ∷ [])) c.in_err-put_joined.ensures))

pub returns-in_err-put : goal.returns-in_err-put
returns-in_err-put g c =
    let o = g.O.Sink.written c.args.out.now in
    let m = g.O.Sink.written c.put_joined-2.new.out in
    let o' = g.O.Sink.written c.put.new.self in
    let head = c.as_slice-2.result.now in
    let first = c.split_at.result.0.now in
    let between = c.split_at-2.result.0.now in
    let last = c.split_at-2.result.1.now in
    let split = sym (ap₂ ◌++◌ c.split_at.ensures.front c.split_at.ensures.back ∙ take-append-drop 16384 c.args.bytes.now) in
    let again = sym (ap₂ ◌++◌ c.split_at-2.ensures.front c.split_at-2.ensures.back
    ∙ take-append-drop c.saturating_sub.result c.split_at.result.1.now) in
    let all = ap (λ h. h ++ (c.args.bytes.now ++ 10 ∷ [])) (sym (c.as_slice-2.ensures.value ∙ c.write_number.ensures))
    ∙ long-text head c.args.bytes.now first c.split_at.result.1.now between last split again in
    let before = put-more (put-none o) m (head ++ (first ++ [])) c.in_ok-put_joined.ensures in
    failed _ (λ r. IsPut o o' r (raw_text c.args.bytes.now)) c.from_residual-in_err-put.result c.from_residual-in_err-put.ensures.1
    (λ e is. subst (WritesFront o o') (sym all) (put-failed before o' between (last ++ 10 ∷ []) c.in_err-put.ensures))

pub returns : goal.returns
returns g c =
    let o = g.O.Sink.written c.args.out.now in
    let m = g.O.Sink.written c.put_joined-2.new.out in
    let n = g.O.Sink.written c.put.new.self in
    let o' = g.O.Sink.written c.put_joined-3.new.out in
    let head = c.as_slice-2.result.now in
    let first = c.split_at.result.0.now in
    let between = c.split_at-2.result.0.now in
    let last = c.split_at-2.result.1.now in
    let split = sym (ap₂ ◌++◌ c.split_at.ensures.front c.split_at.ensures.back ∙ take-append-drop 16384 c.args.bytes.now) in
    let again = sym (ap₂ ◌++◌ c.split_at-2.ensures.front c.split_at-2.ensures.back
    ∙ take-append-drop c.saturating_sub.result c.split_at.result.1.now) in
    let front = head ++ (first ++ []) in
    let all = ap (λ h. h ++ (c.args.bytes.now ++ 10 ∷ [])) (sym (c.as_slice-2.ensures.value ∙ c.write_number.ensures))
    ∙ long-text head c.args.bytes.now first c.split_at.result.1.now between last split again
    ∙ sym (append_assoc front between (last ++ 10 ∷ [])) in
    let before = put-more (put-more (put-none o) m front c.in_ok-put_joined.ensures) n between c.in_ok-put.ensures in
    subst (IsPut o o' c.put_joined-3.result) (sym all) (put-last before o' (last ++ 10 ∷ []) c.put_joined-3.result c.put_joined-3.ensures)
