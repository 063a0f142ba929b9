use Rattle.std.proofs.{Common.{◌≡◌, ℕ, List, take, get_or, sym, ◌∙◌, ap, subst, arith}, lemmas.List.take_all}
use Rattle.epoch_snapshot.specs.Checkpoints.{IsCanonical, change_of}
use Rattle.checkpoint_stream.specs.{Readings.Reading, Sound.{change_in, state_from, version_from}}
use Rattle.checkpoint_stream.proofs.parts.Parts.take_checkpoint.Goals as goal

pub from_parts-requires : goal.from_parts-requires
unfolding change_in
from_parts-requires c =
    let known : c.self.inside.known ≡ 80 = ap (λ (r : Reading). r.known) c.self.view_is ∙ c.requires.known in
    let whole : take c.self.inside.known c.self.inside.head ≡ c.self.inside.head = take_all _ _ (omega arith) in
    let same : change_in c.args.self.now
    ≡ change_of (version_from (get_or c.self.inside.head 0 0)) c.self.inside.shape (get_or c.self.inside.head 3 0) (get_or c.self.inside.head 4 0)
    (state_from c.self.inside.head) c.self.inside.pages.items c.self.inside.blocks.items c.self.inside.sectors.items
    c.self.inside.frames.items
    = sym (ap change_in c.self.view_is)
    ∙ ap (λ (h : List ℕ). change_of (version_from (get_or h 0 0)) c.self.inside.shape (get_or h 3 0) (get_or h 4 0) (state_from h)
    c.self.inside.pages.items c.self.inside.blocks.items c.self.inside.sectors.items c.self.inside.frames.items) whole in
    rw (
      c.state_from-state.ensures,
      c.version_from-version.ensures,
      c.replace-pages.ensures.value,
      c.replace-blocks.ensures.value,
      c.replace-sectors.ensures.value,
      c.replace-frames.ensures.value,
    )
    (subst IsCanonical same c.requires.canonical)
