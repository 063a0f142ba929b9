use Rattle.std.proofs.Common.{[], ◌++◌, refl, sym, ap, ap₂, ◌∙◌, arith, append_assoc, append-nil}
use Rattle.std.proofs.lemmas.List.{take-append-drop}
use Rattle.hex.specs.Hex.{encode_lower}
use Rattle.script_player.proofs.LaneLemmas.{encode-append}
use Rattle.script_player.proofs.digits.add_digits.Goals as goal

pub loop-block-init : goal.loop-block-init
unfolding Rattle.hex.specs.Hex.encode_with
loop-block-init g c = (refl, ([], refl, sym (append-nil c.args.text.now.items)))

pub loop-block-preserved : goal.loop-block-preserved
loop-block-preserved g c =
    let before = c.loop-block.invariant in
    let front = before.1.0 in
    let rest = c.loop-block.rest.now in
    let block = c.in-Some.block.now in
    let others = c.in-Some.others.now in
    let parts = c.in-Some.ensures.cases in
    let split = sym (ap₂ ◌++◌ parts.0 parts.1 ∙ take-append-drop 16 rest) in
    let put = c.add.ensures.items ∙ ap₂ ◌++◌ before.1.2 c.block_digits.ensures
    ∙ append_assoc c.args.text.now.items (encode_lower front) (encode_lower block)
    ∙ ap (λ t. c.args.text.now.items ++ t) (sym (encode-append front block)) in (
      omega (arith, before.0, parts.2, c.add.ensures.len),
      (front ++ block, before.1.1 ∙ ap (λ t. front ++ t) split ∙ sym (append_assoc front block others), put),
    )

pub returns-clause-items : goal.returns-clause-items
returns-clause-items g c =
    let before = c.loop-block.invariant in
    let front = before.1.0 in
    let rest = c.loop-block.rest.now in
    let text = c.args.text.now.items in
    c.add_few_digits.ensures.items ∙ ap (λ t. t ++ encode_lower rest) before.1.2
    ∙ append_assoc text (encode_lower front) (encode_lower rest)
    ∙ ap (λ t. text ++ t) (sym (encode-append front rest) ∙ ap encode_lower (sym before.1.1))
