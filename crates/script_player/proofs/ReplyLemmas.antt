-- A reply's line can be read back.
use Rattle.std.proofs.Common.{◌≡◌, ◌≤◌, ◌<◌, ◌^◌, ◌-◌, ℕ, true, false, cond, List, [], ◌∷◌, ◌++◌, length, take, drop, Option, Some, None, refl}
use Rattle.std.proofs.{Common.{get_or, sym, ap, arith, ◌==◌, ◌∙◌, codes, append_assoc, length-append}, lemmas.Bool.and_parts}
use Rattle.std.{proofs.{lemmas.Fmt.{digits_decimal, digits_value-decimal}, Math.Seq.take-append_seam}, specs.Prelude.decimal}
use Rattle.std.specs.{Option.option_map, Result.result_ok, Char.is_ascii_digit, Str.{all_ascii_digits, Parse.digits_value}}
use Rattle.hex.{specs.Hex.{encode_lower, decode_of, IsBytes}, proofs.HexLemmas.decode_of-encode_lower}
use Rattle.memory_wanted.specs.Wanted.{wanted}
use Rattle.pair_record.specs.{Refusals.{number_of, name_of}, declared.event.Refusal.{Refusal, TheVariants.{Full, BadFrame, NoClient}}}
use Rattle.pair_record.specs.declared.event.Refusal.TheVariants.{Stopped, Behind, NotPaired, AlreadyPaired, NoImage, Stale, Gap, NoMemory}
use Rattle.pair_record.specs.declared.event.{Refusal.TheVariants.{CutNeeded, Exhausted, OldVersion}, Reply.{Reply, TheVariants.Steps}}
use Rattle.pair_record.specs.declared.event.Reply.TheVariants.{Cut, Sent, Committed, Again, Lost, Acked, Admitted, Empty, Delivered, Took}
use Rattle.pair_record.specs.declared.event.Reply.TheVariants.{Dropped, Alone, Live, Protecting, Refused, Stopped as HasStopped}
use Rattle.script_player.specs.Fields.{text_after}
use Rattle.script_player.specs.Printed.{reply_line, IsPlain}
use Rattle.script_player.proofs.FieldLemmas.{own}
use Rattle.script_player.specs.laws.Options.{some_same}

-- ---- a number, and the byte that ends it

-- a text up to the first such byte, and what stands after it
abbrev cut_at : ℕ → List ℕ → List ℕ × List ℕ
cut_at stop [] = ([], [])
cut_at stop (c ∷ text) = cond (c == stop) ([], text) (c ∷ (cut_at stop text).0, (cut_at stop text).1)

cut-digits : (stop : ℕ) → stop < 48 → (digits rest : List ℕ) → all_ascii_digits digits ≡ true
    → cut_at stop (digits ++ stop ∷ rest) ≡ (digits, rest)
cut-digits stop low [] rest h = let same : (stop == stop) ≡ true = grind arith in rw same refl
cut-digits stop low (d ∷ digits) rest h =
    let both = and_parts (is_ascii_digit d) (all_ascii_digits digits) h in
    let apart : (d == stop) ≡ false = grind (arith, both.0) in
    rw (apart, cut-digits stop low digits rest both.1) refl

abbrev number_at : ℕ → List ℕ → ℕ × List ℕ
number_at stop text = (digits_value 10 (cut_at stop text).0, (cut_at stop text).1)

number-back : (stop n : ℕ) (rest : List ℕ) → stop < 48 → n < 2 ^ 64 → number_at stop (decimal n ++ stop ∷ rest) ≡ (n, rest)
number-back stop n rest low h =
    ap (λ (p : List ℕ × List ℕ). (digits_value 10 p.0, p.1)) (cut-digits stop low (decimal n) rest (digits_decimal own n h))
    ∙ ap (λ m. (m, rest)) (digits_value-decimal own n h)

-- ---- what stands after the first word

abbrev one : (ℕ → Reply) → List ℕ → Option Reply
one make text = Some (make (number_at 10 text).0)

-- two numbers, with so many bytes between them
abbrev two : ℕ → (ℕ → ℕ → Reply) → List ℕ → Option Reply
two count make text = one (make (number_at 32 text).0) (drop count (number_at 32 text).1)

abbrev three : (ℕ → ℕ → ℕ → Reply) → List ℕ → Option Reply
three make text = two 7 (make (number_at 32 text).0) (number_at 32 text).1

abbrev frame_of : List ℕ → Reply
frame_of bytes = Took (Some (record { items = bytes }))

abbrev frame : List ℕ → Option Reply
frame text = option_map frame_of (result_ok (decode_of (take (length text - 1) text)))

abbrev refusal_of : ℕ → Option Refusal
refusal_of n = get_or
    (None ∷ Some Full ∷ Some BadFrame ∷ Some NoClient ∷ Some Stopped ∷ Some Behind ∷ Some NotPaired ∷ Some AlreadyPaired ∷ Some NoImage
    ∷ Some Stale ∷ Some Gap ∷ None ∷ Some (NoMemory wanted) ∷ Some CutNeeded ∷ Some Exhausted ∷ Some OldVersion ∷ []) n None

abbrev refused : List ℕ → Option Reply
refused text = option_map (λ r. Refused r) (refusal_of (number_at 32 text).0)

one-back : (make : ℕ → Reply) (n : ℕ) → n < 2 ^ 64 → one make (decimal n ++ 10 ∷ []) ≡ Some (make n)
one-back make n h = ap (λ (p : ℕ × List ℕ). Some (make p.0)) (number-back 10 n [] (omega arith) h)

two-back : (between : List ℕ) (count : ℕ) → ((rest : List ℕ) → drop count (between ++ rest) ≡ rest)
    → (make : ℕ → ℕ → Reply) (g n : ℕ) → g < 2 ^ 64 → n < 2 ^ 64
    → two count make ((decimal g ++ 32 ∷ (between ++ decimal n)) ++ 10 ∷ []) ≡ Some (make g n)
two-back between count drops make g n hg hn =
    ap (two count make) (append_assoc (decimal g) (32 ∷ (between ++ decimal n)) (10 ∷ []))
    ∙ ap (λ (p : ℕ × List ℕ). one (make p.0) (drop count p.1)) (number-back 32 g ((between ++ decimal n) ++ 10 ∷ []) (omega arith) hg)
    ∙ ap (λ t. one (make g) (drop count t)) (append_assoc between (decimal n) (10 ∷ []))
    ∙ ap (one (make g)) (drops (decimal n ++ 10 ∷ []))
    ∙ one-back (make g) n hn

three-back : (make : ℕ → ℕ → ℕ → Reply) (g n m : ℕ) → g < 2 ^ 64 → n < 2 ^ 64 → m < 2 ^ 64
    → three make ((decimal g ++ 32 ∷ (decimal n ++ 32 ∷ (codes "landed " ++ decimal m))) ++ 10 ∷ []) ≡ Some (make g n m)
three-back make g n m hg hn hm =
    ap (three make) (append_assoc (decimal g) (32 ∷ (decimal n ++ 32 ∷ (codes "landed " ++ decimal m))) (10 ∷ []))
    ∙ ap (λ (p : ℕ × List ℕ). two 7 (make p.0) p.1)
    (number-back 32 g ((decimal n ++ 32 ∷ (codes "landed " ++ decimal m)) ++ 10 ∷ []) (omega arith) hg)
    ∙ two-back (codes "landed ") 7 (λ rest. refl) (make g) n m hn hm

last-dropped : (text : List ℕ) → take (length (text ++ 10 ∷ []) - 1) (text ++ 10 ∷ []) ≡ text
last-dropped text =
    let len : length (text ++ 10 ∷ []) - 1 ≡ length text = omega (arith, length-append text (10 ∷ [])) in
    rw len (take-append_seam text (10 ∷ []))

frame-back : (bytes : List ℕ) → IsBytes bytes → frame (encode_lower bytes ++ 10 ∷ []) ≡ Some (frame_of bytes)
frame-back bytes h =
    ap (λ t. option_map frame_of (result_ok (decode_of t))) (last-dropped (encode_lower bytes))
    ∙ ap (λ r. option_map frame_of (result_ok r)) (decode_of-encode_lower bytes h)

refusal-back : (r : Refusal) → refusal_of (number_of r) ≡ Some r
refusal-back Full = refl
refusal-back other = refl

small : (r : Refusal) → number_of r < 2 ^ 64
small Full = omega arith
small other = omega arith

pub name-short : (r : Refusal) → length (name_of r) ≤ 20
name-short Full = omega arith
name-short other = omega arith

refused-back : (r : Refusal) (name : List ℕ) → refused ((decimal (number_of r) ++ 32 ∷ name) ++ 10 ∷ []) ≡ Some (Refused r)
refused-back r name =
    ap refused (append_assoc (decimal (number_of r)) (32 ∷ name) (10 ∷ []))
    ∙ ap (λ (p : ℕ × List ℕ). option_map (λ r. Refused r) (refusal_of p.0))
    (number-back 32 (number_of r) (name ++ 10 ∷ []) (omega arith) (small r))
    ∙ ap (option_map (λ r. Refused r)) (refusal-back r)

-- ---- the first word

-- what stands after the front is read so, and a text without it otherwise
abbrev after : List ℕ → (List ℕ → Option Reply) → (List ℕ → Option Reply) → List ℕ → Option Reply
after front read others text = elim (text_after front text) as (λ _. Option Reply) [ Some rest ↦ read rest | None ↦ others text ]

-- the reply that a line prints
abbrev reply_of : List ℕ → Option Reply
reply_of =
    after (codes "steps ") (one (λ n. Steps n))
    (after (codes "cut ") (two 0 (λ g n. Cut g n))
    (after (codes "sent ") (one (λ k. Sent k))
    (after (codes "committed ") (two 0 (λ g n. Committed g n))
    (after (codes "again ") (two 0 (λ g n. Again g n))
    (after (codes "lost\n") (λ _. Some Lost)
    (after (codes "acked ") (three (λ g n m. Acked g n m))
    (after (codes "admitted ") (one (λ n. Admitted n))
    (after (codes "empty\n") (λ _. Some Empty)
    (after (codes "delivered ") (one (λ n. Delivered n))
    (after (codes "none\n") (λ _. Some (Took None))
    (after (codes "frame ") frame
    (after (codes "dropped\n") (λ _. Some Dropped)
    (after (codes "stopped primary\n") (λ _. Some HasStopped)
    (after (codes "alone ") (two 7 (λ g m. Alone g m))
    (after (codes "live ") (two 6 (λ g n. Live g n))
    (after (codes "protecting ") (one (λ g. Protecting g))
    (after (codes "refused ") refused
    (λ _. None))))))))))))))))))

-- the line of a reply is read as that reply
read-back : (reply : Reply) → IsPlain reply → reply_of (reply_line reply) ≡ Some reply
read-back (Steps n) h = one-back (λ n. Steps n) n h
read-back (Cut g n) h = two-back [] 0 (λ rest. refl) (λ g n. Cut g n) g n h.0 h.1
read-back (Sent k) h = one-back (λ k. Sent k) k h
read-back (Committed g n) h = two-back [] 0 (λ rest. refl) (λ g n. Committed g n) g n h.0 h.1
read-back (Again g n) h = two-back [] 0 (λ rest. refl) (λ g n. Again g n) g n h.0 h.1
read-back (Acked g n m) h = three-back (λ g n m. Acked g n m) g n m h.0 h.1 h.2
read-back (Admitted n) h = one-back (λ n. Admitted n) n h
read-back (Delivered n) h = one-back (λ n. Delivered n) n h
read-back (Took (Some bytes)) h = frame-back bytes.items h
read-back (Alone g m) h = two-back (codes "landed ") 7 (λ rest. refl) (λ g m. Alone g m) g m h.0 h.1
read-back (Live g n) h = two-back (codes "steps ") 6 (λ rest. refl) (λ g n. Live g n) g n h.0 h.1
read-back (Protecting g) h = one-back (λ g. Protecting g) g h
read-back (Refused refusal) h = refused-back refusal (name_of refusal)
read-back other h = refl

-- no two replies print alike: a line tells which reply was printed
pub readable : (reply : Reply) → IsPlain reply → (other : Reply) → IsPlain other → reply_line other ≡ reply_line reply → other ≡ reply
readable reply plain other h same = some_same (sym (read-back other h) ∙ ap reply_of same ∙ read-back reply plain)
