-- A session whose lines no bytes follow: they stand between its newlines.
use Rattle.std.proofs.Common.{◌≡◌, ◌+◌, ℕ, List, [], ◌∷◌, ◌++◌, length, Bool, true, false, cond, refl, sym, ap, subst, ◌∙◌, arith, append-nil, append_assoc}
use Rattle.std.proofs.lemmas.List.Splits.{length-slice_split}
use Rattle.std.specs.{Prelude.{◌==◌, nat_lt}, List.{onto_first, count_by}}
use Rattle.script_player.specs.{Meaning.lines_of, Session.{Replies, IsServed, ended, unread, unwritten}, Streams.{Reading, Writing}}
use Rattle.script_player.specs.SessionLines.{due_behind, lines_behind, lines_with}

abbrev pub none : List ℕ → ℕ
none line = 0

none-due : (line : List ℕ) → due_behind none line ≡ 0
none-due line = by-test (nat_lt 32 (length line))
  where
    by-test : (b : Bool) → ◌≡◌ {A = ℕ} (cond b 0 0) 0
    by-test true = refl
    by-test false = refl

-- these lines, the first of which goes on with the open one
abbrev onto : List ℕ → List (List ℕ) → List (List ℕ)
onto line [] = line ∷ []
onto line (first ∷ lines) = (line ++ first) ∷ lines

onto-first : (line : List ℕ) (byte : ℕ) (lines : List (List ℕ)) → onto (line ++ byte ∷ []) lines ≡ onto line (onto_first byte lines)
onto-first line byte [] = refl
onto-first line byte (first ∷ lines) = ap (λ l. l ∷ lines) (append_assoc line (byte ∷ []) first)

abbrev is_newline : ℕ → Bool
is_newline byte = byte == 10

behind-open : (bytes line : List ℕ) → lines_behind none line 0 bytes ≡ onto line (lines_of bytes)
behind-open [] line = ap (λ l. l ∷ []) (sym (append-nil line))
behind-open (byte ∷ bytes) line = by-test (is_newline byte) refl (lines_of bytes) (length-slice_split is_newline bytes) (behind-open bytes)
  where
    by-test : (b : Bool) → is_newline byte ≡ b → (lines : List (List ℕ)) → length lines ≡ count_by is_newline bytes + 1
        → ((l : List ℕ) → lines_behind none l 0 bytes ≡ onto l lines)
        → lines_behind none line 0 (byte ∷ bytes) ≡ onto line (cond b ([] ∷ lines) (onto_first byte lines))
    by-test b e [] some h = absurd (omega arith)
    by-test true e (first ∷ lines) some h = rw (e, none-due line) (ap (λ ls. line ∷ ls) (h []) ∙ ap (λ l. l ∷ first ∷ lines) (sym (append-nil line)))
    by-test false e (first ∷ lines) some h = rw e (h (line ++ byte ∷ []) ∙ onto-first line byte (first ∷ lines))

pub unfollowed : (given : List ℕ) → lines_with none given ≡ lines_of given
unfollowed given = behind-open given [] ∙ onto-nothing (lines_of given) (length-slice_split is_newline given)
  where
    onto-nothing : (lines : List (List ℕ)) → length lines ≡ count_by is_newline given + 1 → onto [] lines ≡ lines
    onto-nothing [] some = absurd (omega arith)
    onto-nothing (first ∷ lines) some = refl

module _ {S : Type 0} {Answers : S → List ℕ → List ℕ → S → Type 0} {player : S} {f h : List ℕ → List (List ℕ)}
    (same : (given : List ℕ) → f given ≡ h given) where
  -- the same of lines that are parted in another way, and are the same
  pub served-so : {input input' : Reading} {out out' : Writing} {status : ℕ} → IsServed f Answers player input input' out out' status
      → IsServed h Answers player input input' out out' status
  served-so (ended given text last c e w r p s) =
      ended given text last c e w (subst (λ (ls : List (List ℕ)). Replies Answers player ls text last) (same given) r) p s
  served-so (unread given begun text lines last c w e r a s) = unread given begun text lines last c w (sym (same given) ∙ e) r a s
  served-so (unwritten given text lines rest last c e r w s) = unwritten given text lines rest last c (sym (same given) ∙ e) r w s
