use Rattle.std.proofs.Common.{◌++◌, length, sym, ap, ap₂, ◌∙◌, arith, append_assoc}
use Rattle.std.specs.List.{list_all}
use Rattle.std.proofs.lemmas.List.{take-append-drop}
use Rattle.hex.specs.Hex.{encode_lower}
use Rattle.script_player.specs.internal.Digits.{is_lower_digit}
use Rattle.script_player.proofs.LaneLemmas.{encode-append, fails-behind, fails-here}
use Rattle.script_player.specs.laws.Options.{if-none}
use Rattle.script_player.proofs.digits.read_into.Goals as goal

pub loop-block-init : goal.loop-block-init
unfolding Rattle.hex.specs.Hex.encode_with
loop-block-init c = (
  c.requires.even,
  omega (arith, ap length c.requires.empty, c.args.list.ok),
  ap (λ l. encode_lower l ++ c.args.digits.now) (sym c.requires.empty),
)

pub returns-in_err-block_bytes-clause-none : goal.returns-in_err-block_bytes-clause-none
returns-in_err-block_bytes-clause-none c =
    let parts = c.in-Some.ensures.cases in
    let split = sym (ap₂ ◌++◌ parts.0 parts.1 ∙ take-append-drop 32 c.loop-block.rest.now) in
    let front = encode_lower c.loop-block.bytes.items in
    let all = c.loop-block.invariant.2 ∙ ap (λ t. front ++ t) split in
    if-none c.from_residual.result (ap (list_all is_lower_digit) all ∙ fails-behind front (c.in-Some.block.now ++ c.in-Some.others.now)
    (fails-here c.in-Some.block.now c.in-Some.others.now c.in_err-block_bytes.ensures.none))

pub loop-block-preserved : goal.loop-block-preserved
loop-block-preserved c =
    let before = c.loop-block.invariant in
    let parts = c.in-Some.ensures.cases in
    let block = c.in-Some.block.now in
    let others = c.in-Some.others.now in
    let split = sym (ap₂ ◌++◌ parts.0 parts.1 ∙ take-append-drop 32 c.loop-block.rest.now) in
    let front = encode_lower c.loop-block.bytes.items in (
      omega (arith, before.0, parts.2),
      omega (arith, before.1, parts.2, c.put_reserved.ensures.len, c.put_reserved.ensures.capacity),
      before.2 ∙ ap (λ t. front ++ t) (split ∙ ap (λ t. t ++ others) c.in_ok-block_bytes.ensures.found)
          ∙ sym (append_assoc front _ others)
          ∙ ap (λ t. t ++ others) (sym (encode-append c.loop-block.bytes.items _) ∙ ap encode_lower (sym c.put_reserved.ensures.items)),
    )

pub returns-then-not-put_few-clause-none : goal.returns-then-not-put_few-clause-none
returns-then-not-put_few-clause-none c =
    let rest = c.loop-block.rest.now in
    let low = c.put_few.ensures.none c.if-not-put_few.true in
    ap (list_all is_lower_digit) c.loop-block.invariant.2 ∙ fails-behind (encode_lower c.loop-block.bytes.items) rest low

pub returns-clause-found : goal.returns-clause-found
returns-clause-found c =
    let read = c.put_few.ensures.read c.if-not-put_few.false in
    let before = c.loop-block.bytes.items in (
      c.loop-block.invariant.2 ∙ ap (λ t. encode_lower before ++ t) read.2 ∙ sym (encode-append before read.0)
          ∙ ap encode_lower (sym read.1),
      rw c.as_slice.ensures.value at c.are_bytes.ensures,
    )
