use Rattle.std.proofs.Common.{◌++◌, [], codes, length, refl, sym, ap, ap₂, ◌∙◌, arith, append_assoc, append-nil}
use Rattle.std.proofs.lemmas.List.{take-append-drop}
use Rattle.hex.specs.Hex.{encode_lower}
use Rattle.script_player.specs.Streams.{IsPut}
use Rattle.script_player.specs.laws.Options.{failed}
use Rattle.node_player.{specs.Printed.text_line, proofs.PutLemmas.{put-none, put-more, put-last, put-failed, line-goes-on, piece-written}}
use Rattle.node_player.proofs.printing.put_digits.Goals as goal

pub loop-rest-init : goal.loop-rest-init
unfolding Rattle.hex.specs.Hex.encode_with
loop-rest-init g c =
    let word = c.add.ensures.items ∙ ap (λ t. t ++ codes "text ") c.new-piece.ensures in
    (omega (arith, ap length word), ([], [], refl, word, put-none (g.O.Sink.written c.args.out.now)))

pub returns-in_err-put : goal.returns-in_err-put
returns-in_err-put g c =
    let o = g.O.Sink.written c.args.out.now in
    let o' = g.O.Sink.written c.put.new.self in
    let before = c.loop-rest.invariant.1 in
    let chunk = c.split_at.result.0.now in
    let others = c.split_at.result.1.now in
    let split = sym (ap₂ ◌++◌ c.split_at.ensures.front c.split_at.ensures.back ∙ take-append-drop 16384 c.loop-rest.rest.now) in
    let piece = c.as_slice.ensures.value ∙ c.add_digits.ensures.items in
    let all = line-goes-on before.1 c.loop-rest.piece.items (codes "text ") before.0 before.3 chunk others c.args.bytes.now (codes "\n") (before.2 ∙ ap (λ t. before.0 ++ t) split)
    ∙ ap (λ p. before.1 ++ (p ++ (encode_lower others ++ codes "\n"))) (sym piece) in
    failed _ (λ r. IsPut o o' r (text_line c.args.bytes.now)) c.from_residual.result c.from_residual.ensures.1
    (λ e is. rw all (put-failed before.4 o' c.as_slice.result.now (encode_lower others ++ codes "\n") c.in_err-put.ensures))

pub loop-rest-preserved : goal.loop-rest-preserved
loop-rest-preserved g c =
    let o' = g.O.Sink.written c.put.new.self in
    let before = c.loop-rest.invariant.1 in
    let chunk = c.split_at.result.0.now in
    let others = c.split_at.result.1.now in
    let split = sym (ap₂ ◌++◌ c.split_at.ensures.front c.split_at.ensures.back ∙ take-append-drop 16384 c.loop-rest.rest.now) in
    let piece = c.as_slice.ensures.value ∙ c.add_digits.ensures.items in (
      omega (arith, ap length c.clear.ensures),
      (
        before.0 ++ chunk,
        before.1 ++ c.as_slice.result.now,
        before.2 ∙ ap (λ t. before.0 ++ t) split ∙ sym (append_assoc before.0 chunk others),
        ap₂ (λ p q. (before.1 ++ p) ++ q) piece c.clear.ensures ∙ piece-written before.1 c.loop-rest.piece.items (codes "text ") before.0 before.3 chunk,
        put-more before.4 o' c.as_slice.result.now c.in_ok-put.ensures,
      ),
    )

pub returns : goal.returns
unfolding Rattle.hex.specs.Hex.encode_with
returns g c =
    let before = c.loop-rest.invariant.1 in
    let rest = c.loop-rest.rest.now in
    let piece = c.as_slice-2.ensures.value ∙ c.add-2.ensures.items ∙ ap (λ t. t ++ codes "\n") c.add_digits-2.ensures.items in
    let all = line-goes-on before.1 c.loop-rest.piece.items (codes "text ") before.0 before.3 rest [] c.args.bytes.now (codes "\n")
    (before.2 ∙ ap (λ t. before.0 ++ t) (sym (append-nil rest))) ∙ ap (λ p. before.1 ++ p) (sym piece) in
    rw all (put-last before.4 (g.O.Sink.written c.put-2.new.self) c.as_slice-2.result.now c.put-2.result c.put-2.ensures)
