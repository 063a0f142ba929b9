-- The new frames come after those of the last three commits.
use Rattle.std.proofs.Common.{rules, ◌≡◌, ℕ, ◌+◌, ◌++◌, ◌∷◌, [], List, length, map, ap, sym, ◌∙◌, subst, arith}
use Rattle.arrayvec.specs.ArrayVec.{ArrayVec}
use Rattle.frame_list.specs.Listed.{Listed}
use Rattle.backup_image.specs.Kept.{Kept, IsKept, kept_after}
use Rattle.backup_image.proofs.KeptLemmas.{kept-after, kept-again}
use Rattle.backup_image.proofs.kept.KeptFrames.keep.Goals as goal

abbrev frames_of : Listed → List (ArrayVec ℕ)
frames_of epoch = epoch.items

lists : (c : goal.After-push) → map frames_of c.push.new.self.items
    ≡ kept_after (map frames_of c.self.inside.epochs.items) c.args.frames.items
lists c =
    ap (map frames_of) (c.push.ensures.items ∙ ap (λ l. l ++ c.args.frames ∷ []) c.make_room.ensures.items)
    ∙ kept-after frames_of c.self.inside.epochs.items c.args.frames

pub invariant_of-self : goal.invariant_of-self
invariant_of-self c =
    let sent : c.self.inside.sent + c.len.result ≡ c.self.inside.sent + length c.args.frames.items = search rules in
    let before : c.self.inside.sent ≡ c.args.self.now.sent = ap (λ (k : Kept). k.sent) c.self.view_is in
    let is = kept-again (record { lists = map frames_of c.self.inside.epochs.items; sent = c.self.inside.sent }) c.args.frames.items
    c.self.invariant c.requires.short c.requires.frames (omega (arith, before, c.requires.numbers)) in
    subst (λ (n : ℕ). IsKept (record { lists = map frames_of c.push.new.self.items; sent = n })) (sym sent)
    (subst (λ l. IsKept (record { lists = l; sent = c.self.inside.sent + length c.args.frames.items })) (sym (lists c)) is)

pub returns-clause-lists : goal.returns-clause-lists
returns-clause-lists c = lists c ∙ ap (λ (k : Kept). kept_after k.lists c.args.frames.items) c.self.view_is
