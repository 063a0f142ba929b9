use Rattle.std.proofs.Common.{◌≡◌, length, ap, ◌∙◌, arith, List}
use Rattle.frame_ports.specs.Addresses.{targets_of}
use Rattle.pair_history.specs.{Entries.Entry}
use Rattle.pair_history.specs.Journal.{with_history}
use Rattle.pair_history.specs.LandedEntries.{Heard, heard, entries_after}
use Rattle.pair_history.proofs.LandedEntryLaws.{entries_count, heard_after}
use Rattle.pair_history.specs.laws.Landed.{entries-new}
use Rattle.pair_history.specs.laws.Landings.{length-landings}
use Rattle.pair_history.proofs.journal.Journal.land.Goals.{After-land_telling}
use Rattle.pair_history.proofs.journal.Journal.land.Goals as goal

pub land_telling-requires-clause-room : goal.land_telling-requires-clause-room
land_telling-requires-clause-room c =
    let p = c.args.ports.now in
    let fs = c.args.frames.now in
    let new = ap (λ (es : List Entry). length es) (entries-new p c.args.first fs c.requires.new) in
    omega (
      arith,
      new,
      entries_count p c.args.first fs,
      length-landings p.boxes (targets_of (length p.boxes) fs),
      c.requires.room,
      c.requires.fits,
    )

-- what it has heard
heard-is : (c : After-land_telling) → heard c.land_telling.new.listener
    ≡ (with_history c.args.self.now.journal (entries_after c.args.ports.now c.args.first c.args.frames.now), c.args.self.now.arrival_room)
heard-is c = c.land_telling.ensures.known ∙ heard_after (heard c.args.self.now) c.args.ports.now c.args.first c.args.frames.now

pub returns-clause-journal : goal.returns-clause-journal
returns-clause-journal c =
    ap (λ (h : Heard). h.0) (heard-is (goal.at.returns-clause-journal c).After-land_telling)
    ∙ ap (with_history c.args.self.now.journal) (entries-new c.args.ports.now c.args.first c.args.frames.now c.requires.new)

pub returns-clause-arrival_room : goal.returns-clause-arrival_room
returns-clause-arrival_room c = ap (λ (h : Heard). h.1) (heard-is (goal.at.returns-clause-arrival_room c).After-land_telling)
