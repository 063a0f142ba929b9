use Rattle.std.proofs.Common.{◌-◌, map, take, ap, ◌∙◌, arith}
use Rattle.pair_history.specs.LandedEntries.{all_frames, Heard, heard}
use Rattle.pair_history.proofs.LandedEntryLaws.{entries_count, heard_after}
use Rattle.pair_history.proofs.journal.Journal.land_kept.Goals as goal

pub land_lists-requires-clause-room : goal.land_lists-requires-clause-room
land_lists-requires-clause-room c =
    omega (
      arith,
      entries_count c.args.ports.now c.args.first (take (c.args.end - c.args.first) (all_frames (map (λ v. v.items) c.args.lists.now))),
      c.requires.room,
      c.requires.fits,
    )

pub returns-clause-journal : goal.returns-clause-journal
returns-clause-journal c =
    ap (λ (h : Heard). h.0) (c.land_lists.ensures.known
    ∙ heard_after (heard c.args.self.now) c.args.ports.now c.args.first
    (take (c.args.end - c.args.first) (all_frames (map (λ v. v.items) c.args.lists.now))))
