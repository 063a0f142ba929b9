use Rattle.std.proofs.Common.{◌≡◌, ◌≤◌, ◌+◌, ◌-◌, ◌++◌, ℕ, List, length, take, drop, sym, ap, subst, ◌∙◌, arith, length-take, length-drop}
use Rattle.std.{proofs.{Common.take-append-drop, KnownBytes.{Appends-trans, Appends-kept}}, specs.Io.KnownBytes.Appends}
use lib.Seq.{take-add, take-take}
use Rattle.script_player.proofs.output.put.Goals as goal

-- the front, and the first n of what stands after it, are a longer front
joined : (xs : List ℕ) (done n : ℕ) → n ≤ length (take (length xs - done) (drop done xs))
    → take done xs ++ take n (take (length xs - done) (drop done xs)) ≡ take (done + n) xs
joined xs done n fits =
    let most = length-take (length xs - done) (drop done xs) in
    ap (λ l. take done xs ++ l) (take-take n (length xs - done) (drop done xs) (omega arith)) ∙ sym (take-add done n xs)

pub returns-in-Ok-eq0-clause-err : goal.returns-in-Ok-eq0-clause-err
returns-in-Ok-eq0-clause-err g c =
    let done = c.loop-written.written in
    let n = c.in-Ok-eq0.field-0 in
    let xs = c.args.bytes.now in (
      take (done + n) xs,
      drop (done + n) xs,
      sym (take-append-drop (done + n) xs),
      subst (Appends _ _) (joined xs done n c.in-Ok-eq0.ensures.bound)
          (Appends-trans _ _ _ _ _ c.loop-written.invariant.2 c.in-Ok-eq0.ensures.bytes),
    )

pub loop-written-preserved-in-Ok : goal.loop-written-preserved-in-Ok
loop-written-preserved-in-Ok g c =
    let done = c.loop-written.written in
    let n = c.in-Ok.count in
    let xs = c.args.bytes.now in
    let most = length-take (length xs - done) (drop done xs) in
    let fits = c.in-Ok.ensures.bound in
    let few = c.loop-written.invariant.0 in
    let rest : length (drop done xs) ≡ length xs - done = length-drop done xs in (
      omega arith,
      c.loop-written.invariant.1,
      subst (Appends _ _) (joined xs done n fits) (Appends-trans _ _ _ _ _ c.loop-written.invariant.2 c.in-Ok.ensures.bytes),
    )

pub returns-then-ne-clause-err : goal.returns-then-ne-clause-err
returns-then-ne-clause-err g c =
    let done = c.loop-written.written in
    let xs = c.args.bytes.now in (
      take done xs,
      drop done xs,
      sym (take-append-drop done xs),
      Appends-kept _ _ _ _ c.loop-written.invariant.2 c.in-Err.ensures.bytes,
    )
