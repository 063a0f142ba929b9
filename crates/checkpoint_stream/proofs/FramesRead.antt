-- The units of the frames are read as these.
use Rattle.std.proofs.Common.{◌≡◌, ℕ, ◌+◌, ◌≤◌, ◌%◌, ◌^◌, ◌&&◌, List, [], ◌∷◌, ◌++◌, length, Bool, true, false, refl, ap, arith, All}
use Rattle.std.proofs.{Common.{append_assoc, nat_le, if◌then◌else◌}, lemmas.List.{append-nil, Elements.{All-head, All-tail}}}
use Rattle.std.proofs.lemmas.Bool.Decides.{nat_tests}
use Rattle.net_device.specs.Frames.{IsFrame}
use Rattle.arrayvec.specs.ArrayVec.{ArrayVec}
use Rattle.checkpoint_stream.specs.declared.{rules.Width.TheVariants.Four, place.Place.TheVariants.{FrameCount, FrameLength, FrameBytes}}
use Rattle.checkpoint_stream.specs.{declared.place.Place.TheVariants.Whole, HeadTable.bytes_of, Readings.{Reading, judged, frame_judged}}
use Rattle.checkpoint_stream.specs.{Readings.{frames_due, most_frames, is_full}, Text.frame_units}
use Rattle.checkpoint_stream.proofs.Leading.{Leads, Leads-append, Leads-unit, Leads-none, Leads-number}

-- as many as a checkpoint may carry
limit-test : (full : Bool) (n : ℕ) → n ≤ 256 → (full ≡ true → n ≡ 0) → nat_le n (if full then 0 else 256) ≡ true
limit-test true n few none = let nothing : n ≡ 0 = none refl in grind (arith, nat_tests)
limit-test false n few none = grind (arith, nat_tests)

inside-test : (n : ℕ) → 14 ≤ n → n ≤ 1514 → (nat_le 14 n && nat_le n 1514) ≡ true
inside-test n h k = grind (arith, nat_tests)

frame-step : (r : Reading) (left : ℕ) (f : ArrayVec ℕ) → 14 ≤ length f.items →
    Leads (record r { place = FrameBytes left (length f.items) }) (f.items ∷ [])
    (record r { place = frames_due left; frames = r.frames ++ f ∷ [] })
unfolding judged frame_judged
frame-step r left f some = Leads-unit _ _ _ refl (omega (arith, some)) refl (λ o. ((o + length f.items) % 2 ^ 64, refl))

frame_units-nil : frame_units [] ≡ []
unfolding frame_units
frame_units-nil = refl

frame_units-cons : (f : ArrayVec ℕ) (fs : List (ArrayVec ℕ)) →
    frame_units (f ∷ fs) ≡ (bytes_of Four (length f.items) ∷ []) ++ ((f.items ∷ []) ++ frame_units fs)
unfolding frame_units
frame_units-cons f fs = refl

frames-lead : (r : Reading) (fs : List (ArrayVec ℕ)) → All IsFrame fs →
    Leads (record r { place = frames_due (length fs) }) (frame_units fs) (record r { place = Whole; frames = r.frames ++ fs })
unfolding judged
frames-lead r [] all = rw (frame_units-nil, append-nil r.frames) (Leads-none _)
frames-lead r (f ∷ fs) all =
    let within : IsFrame f = All-head IsFrame f fs all in
    let next : Reading = record r { frames = r.frames ++ f ∷ [] } in
    let every : Leads (record r { place = FrameLength (length fs) })
    ((bytes_of Four (length f.items) ∷ []) ++ ((f.items ∷ []) ++ frame_units fs))
    (record next { place = Whole; frames = next.frames ++ fs })
    = Leads-append _ _ _ _ _ (Leads-number (record r { place = FrameLength (length fs) }) (length f.items)
    (λ m. nat_le 14 m && nat_le m 1514) (λ m. FrameBytes (length fs) m) refl refl (λ o. refl)
    (omega (arith, within.1)) (inside-test (length f.items) within.0 within.1))
    (Leads-append _ _ _ _ _ (frame-step r (length fs) f within.0) (frames-lead next fs (All-tail IsFrame f fs all))) in
    let same : (r.frames ++ f ∷ []) ++ fs ≡ r.frames ++ f ∷ fs = append_assoc r.frames (f ∷ []) fs in
    rw (frame_units-cons f fs, ← same) every

-- the frames with their count
pub counted-lead : (r : Reading) (fs : List (ArrayVec ℕ)) → length fs ≤ 256 → (is_full r ≡ true → fs ≡ []) → All IsFrame fs →
    Leads (record r { place = FrameCount }) (bytes_of Four (length fs) ∷ frame_units fs)
    (record r { place = Whole; frames = r.frames ++ fs })
unfolding judged
counted-lead r fs few none all =
    Leads-append _ _ _ _ _ (Leads-number (record r { place = FrameCount }) (length fs) (λ m. nat_le m (most_frames r)) frames_due
    refl refl (λ o. refl) (omega (arith, few)) (limit-test (is_full r) (length fs) few (λ e. ap length (none e)))) (frames-lead r fs all)
