-- Units of one kind, one after another.
use Rattle.std.proofs.Common.{◌≡◌, ℕ, ◌+◌, ◌%◌, ◌^◌, ◌<◌, ◌≤◌, List, [], ◌++◌, Bool, true, length, take, drop, set, ap, sym, ◌∙◌, subst}
use Rattle.std.proofs.Common.{refl, append_assoc, arith, length-drop, lit<}
use Rattle.std.proofs.{Math.Seq.{take-add}, lemmas.List.{length-take-le, take_more_set}}
use Rattle.guest_rules.specs.declared.shapes.Shape.{Shape}
use Rattle.checkpoint_stream.specs.declared.{place.Place.{Place, TheVariants.{Head, Block}}, rules.Width.{Width, TheVariants.{Two, Four}}}
use Rattle.checkpoint_stream.specs.declared.{rules.{Row.Row, Width.TheVariants.Eight}, runs.Between.{Between}}
use Rattle.checkpoint_stream.specs.{HeadTable.{row_at, passes, number_spelled, bytes_in}, Readings.{Reading, is_closed, width_at}}
use Rattle.checkpoint_stream.specs.Readings.{judged, judged_at, after_number, kept_number, number_judged, block_judged}
use Rattle.checkpoint_stream.{specs.Taken.{Takes, Extends, numbered}}
use Rattle.checkpoint_stream.{proofs.{Feeding.{Takes-append, Takes-unit}, HeadRead.going-on, Numbers.width-most}}

pub judged-number : (r : Reading) (unit : List ℕ) → r.place ≡ Head →
    judged r unit ≡ number_judged r (row_at r.known) (number_spelled (row_at r.known).width unit)
unfolding judged
judged-number r unit e = ap (λ (p : Place). judged_at p r unit) e

pub width-least : (w : Width) → 0 < bytes_in w
width-least Two = lit< tt
width-least Four = lit< tt
width-least Eight = lit< tt

pub judged-block : (r : Reading) (unit : List ℕ) (left page more : ℕ) → r.place ≡ Block left page more →
    judged r unit ≡ block_judged r left page more unit
unfolding judged
judged-block r unit left page more e = ap (λ (p : Place). judged_at p r unit) e

pub Takes-next : (r m s : Reading) (at count : ℕ) (bytes : List ℕ) → Takes r (take at bytes) m →
    Takes m (take count (drop at bytes)) s → Takes r (take (at + count) bytes) s
Takes-next r m s at count bytes front back =
    subst (λ (l : List ℕ). Takes r l s) (sym (take-add at count bytes)) (Takes-append r m s _ _ front back)

between : ℕ → ℕ → ℕ → Between
between known before offset = record { known = known; before = before; offset = offset }

-- a number of the head that keeps its rule
kept-numbered : (r : Reading) (shape : Shape) (head : List ℕ) (known before offset n : ℕ) (row : Row) (keeps : Bool) → keeps ≡ true →
    known < length head → kept_number keeps (numbered r shape head (between known before offset)) row n
    ≡ numbered r shape (set head known n) (between (known + 1) n ((offset + bytes_in row.width) % 2 ^ 64))
unfolding kept_number between
kept-numbered r shape head known before offset n row keeps e less =
    ap (λ (k : Bool). kept_number k (numbered r shape head (between known before offset)) row n) e
    ∙ ap (λ (l : List ℕ). record r {
      shape = shape;
      offset = (offset + bytes_in row.width) % 2 ^ 64;
      place = after_number (known + 1);
      known = known + 1;
      head = l;
      before = n;
      partial = [];
    }) (sym (take_more_set head known n less))

pub numbered-next : (r s : Reading) (shape : Shape) (head : List ℕ) (known before offset at w n : ℕ) (bytes : List ℕ) (row : Row) →
    known < 80 → length head ≡ 80 → row ≡ row_at known → w ≡ bytes_in row.width → at + 8 ≤ length bytes →
    n ≡ number_spelled row.width (take w (drop at bytes)) → passes shape row.rule before n ≡ true →
    Takes s (take at bytes) (numbered r shape head (record { known = known; before = before; offset = offset })) →
    Takes s (take (at + w) bytes)
    (numbered r shape (set head known n) (record { known = known + 1; before = n; offset = (offset + w) % 2 ^ 64 }))
unfolding between
numbered-next r s shape head known before offset at w n bytes row less long is width enough number passed front =
    let m : Reading = numbered r shape head (between known before offset) in
    let unit : List ℕ = take w (drop at bytes) in
    let place : after_number known ≡ Head = going-on known less in
    let some : 0 < w = omega (arith, width, width-least row.width) in
    let whole : length unit ≡ w
    = length-take-le w (drop at bytes) (omega (arith, enough, width, width-most row.width, length-drop at bytes)) in
    let wide : w ≡ bytes_in (row_at known).width = width ∙ ap (λ (q : Row). bytes_in q.width) is in
    let same : number_spelled (row_at known).width unit ≡ n = sym (number ∙ ap (λ (q : Row). number_spelled q.width unit) is) in
    let keeps : passes shape (row_at known).rule before n ≡ true = sym (ap (λ (q : Row). passes shape q.rule before n) is) ∙ passed in
    let judges : judged m unit ≡ numbered r shape (set head known n) (between (known + 1) n ((offset + w) % 2 ^ 64))
    = judged-number m unit place
    ∙ ap (λ (k : ℕ). number_judged m (row_at known) k) same
    ∙ kept-numbered r shape head known before offset n (row_at known) _ keeps (omega (arith, less, long))
    ∙ ap (λ (k : ℕ). numbered r shape (set head known n) (between (known + 1) n ((offset + k) % 2 ^ 64))) (sym wide) in
    Takes-next s m _ at w bytes front
    (Takes-unit m _ unit (ap is_closed place) refl (omega (arith, whole, some))
    (whole ∙ wide ∙ sym (ap (λ (p : Place). width_at p known) place)) (sym judges))

-- a reading before a run of numbers, and after it
pub run-taken : (v m : Reading) (head later : List ℕ) (to : Between) (place : Place) (bytes : List ℕ) → v ≡ m → v.known < 80 →
    v.place ≡ Head → v.partial ≡ [] → v.head ≡ take v.known head → place ≡ after_number to.known →
    Takes (numbered v v.shape head (record { known = v.known; before = v.before; offset = v.offset })) bytes (numbered v v.shape later to) →
    Takes m bytes
    (record v { offset = to.offset; place = place; known = to.known; head = take to.known later; before = to.before })
run-taken v m head later to place bytes same less at begun is next run =
    let from : numbered v v.shape head (record { known = v.known; before = v.before; offset = v.offset }) ≡ m
    = ap (λ (p : Place). record v { place = p; head = take v.known head; partial = [] }) (going-on v.known less ∙ sym at)
    ∙ ap (λ (l : List ℕ). record v { head = l; partial = [] }) (sym is)
    ∙ ap (λ (l : List ℕ). record v { partial = l }) (sym begun)
    ∙ same in
    let end : numbered v v.shape later to
    ≡ record v { offset = to.offset; place = place; known = to.known; head = take to.known later; before = to.before }
    = ap (λ (p : Place). record v {
      offset = to.offset;
      place = p;
      known = to.known;
      head = take to.known later;
      before = to.before;
      partial = [];
    }) (sym next)
    ∙ ap (λ (l : List ℕ). record v {
      offset = to.offset;
      place = place;
      known = to.known;
      head = take to.known later;
      before = to.before;
      partial = l;
    }) (sym begun) in
    subst (λ (s : Reading). Takes m bytes s) end (subst (λ (s : Reading). Takes s bytes (numbered v v.shape later to)) from run)

more-of : {X : Type 0} (a b c m n : List X) → b ≡ a ++ m → c ≡ b ++ n → c ≡ a ++ (m ++ n)
more-of a b c m n e f = f ∙ ap (λ l. l ++ n) e ∙ append_assoc a m n

-- what extends a reading that extends another extends that one
pub Extends-both : (a b c : Reading) → Extends a b → Extends b c → Extends a c
Extends-both a b c e f = record {
  shape = f.shape ∙ e.shape;
  head = (_, more-of a.head b.head c.head e.head.0 f.head.0 e.head.1 f.head.1);
  pages = (_, more-of a.pages b.pages c.pages e.pages.0 f.pages.0 e.pages.1 f.pages.1);
  blocks = (_, more-of a.blocks b.blocks c.blocks e.blocks.0 f.blocks.0 e.blocks.1 f.blocks.1);
  sectors = (_, more-of a.sectors b.sectors c.sectors e.sectors.0 f.sectors.0 e.sectors.1 f.sectors.1);
  frames = (_, more-of a.frames b.frames c.frames e.frames.0 f.frames.0 e.frames.1 f.frames.1);
}
