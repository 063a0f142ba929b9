use Rattle.std.proofs.Common.{rules, ◌≡◌, ◌++◌, List, ℕ, OnOk, ◌∙◌, subst}
use Rattle.checkpoint_stream.{specs.Text.joined, proofs.Spelling.joined-flat}
use Rattle.checkpoint_stream.proofs.encoding.put_blocks.Goals as goal

pub returns : goal.returns
returns c =
    let flat : c.as_flattened.result.now ≡ joined c.args.blocks.now = c.as_flattened.ensures.value ∙ joined-flat c.args.blocks.now in
    subst (λ (l : List ℕ). OnOk c.extend_from_slice.result (c.extend_from_slice.new.list.items ≡ c.args.out.now.items ++ l)) flat
    (search rules)
