-- What was copied so far.
use Rattle.std.proofs.Common.{◌≡◌, length, take, map}
use Rattle.std.specs.List.{All}
use Rattle.frame_list.specs.internal.Spans.{frame_at, IsInside}
use Rattle.frame_list.proofs.list.FrameList.copies.Given as goal

abbrev pub invariant-loop-frame : goal.invariant-loop-frame
invariant-loop-frame l = record {
  items : map (frame_at l.bytes.items) l.spans.items ≡ take l.frame-index l.frames;
  inside : All (IsInside (length l.bytes.items)) l.spans.items;
}
