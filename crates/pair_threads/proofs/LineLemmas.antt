-- A file that was read names clients of its pair, each once.
use Rattle.std.proofs.Common.{◌≡◌, ℕ, ◌+◌, ◌==◌, ◌≤◌, Bool, true, false, ◌||◌, List, [], ◌∷◌, ◌++◌, map, refl, sym, ap, subst, ◌∙◌, arith}
use Rattle.std.proofs.lemmas.List.{map-append}
use Rattle.std.specs.List.{list_any}
use Rattle.script_player.specs.Meaning.{lines_of}
use Rattle.pair_run.specs.RunFile.{ClientLine, RunFile, Stage, unbooted, booted, told, GoesOn, is_silence, boots, tells, adds, has_line}
use Rattle.pair_run.specs.RunFile.{IsFree, Outcome, says, Means, ends, lacks_boot, lacks_epochs, goes_on, ends_badly}
use Rattle.pair_run.specs.RunFile.{ends_refused, with_client}
use Rattle.pair_run.specs.Views.{client_line, run_file}
use Rattle.pair_run.specs.declared.run_file.ClientLine.{ClientLine as ReadClientLine}
use Rattle.pair_run.specs.declared.run_file.RunFile.{RunFile as ReadRunFile}
use Rattle.pair_threads.specs.Lines.{AreClients, clients_of}

abbrev number : ClientLine → ℕ
number line = line.client

apart : (c d : ℕ) → (d == c) ≡ false → (c == d) ≡ false
apart c d h = grind arith

pub neither : (a b : Bool) → (a || b) ≡ false → (a ≡ false) × (b ≡ false)
neither true b h = absurd (cc)
neither false b h = (refl, h)

still-not : (cs : List ℕ) (c d : ℕ) → list_any (λ x. x == d) cs ≡ false → (c == d) ≡ false → list_any (λ x. x == d) (cs ++ c ∷ []) ≡ false
still-not [] c d none not = ap (λ b. b || false) not
still-not (x ∷ xs) c d none not =
    let parts = neither (x == d) (list_any (λ y. y == d) xs) none in
    ap (λ b. b || list_any (λ y. y == d) (xs ++ c ∷ [])) parts.0 ∙ still-not xs c d parts.1 not

-- one client more
one-more : (n : ℕ) (cs : List ℕ) (c : ℕ) → 1 ≤ c → c ≤ n → list_any (λ d. d == c) cs ≡ false → AreClients n cs → AreClients n (cs ++ c ∷ [])
one-more n [] c low most new are = (low, most, refl, tt)
one-more n (d ∷ ds) c low most new are =
    let parts = neither (d == c) (list_any (λ x. x == c) ds) new in (
      are.0,
      are.1,
      still-not ds c d are.2 (apart c d parts.0),
      one-more n ds c low most parts.1 are.3,
    )

has-none : (c : ℕ) (lines : List ClientLine) → has_line c lines ≡ list_any (λ d. d == c) (map number lines)
has-none c [] = refl
has-none c (line ∷ lines) = ap (λ b. (line.client == c) || b) (has-none c lines)

-- ---- what was read so far names clients, each once

abbrev Names : RunFile → Type 0
Names file = AreClients file.boot.clients (map number file.clients)

abbrev NamesSoFar : Stage → Type 0
NamesSoFar unbooted = Unit {0}
NamesSoFar (booted line) = Unit {0}
NamesSoFar (told file) = Names file

added : (file : RunFile) (line : ClientLine) → IsFree file line.client → Names file → Names (with_client file line)
added file line free are =
    subst (AreClients file.boot.clients) (sym (map-append number file.clients (line ∷ [])))
    (one-more file.boot.clients (map number file.clients) line.client free.least free.most
    (sym (has-none line.client file.clients) ∙ free.first) are)

still-names : (stage : Stage) (text : List ℕ) (next : Stage) → GoesOn stage text next → NamesSoFar stage → NamesSoFar next
still-names stage text next (is_silence s e) h = subst NamesSoFar (sym e) h
still-names stage text next (boots line e is n) h = subst NamesSoFar (sym n) tt
still-names stage text next (tells line epochs steps e is n) h = subst NamesSoFar (sym n) tt
still-names stage text next (adds file line e is free n) h = subst NamesSoFar (sym n) (added file line free (subst NamesSoFar e h))

abbrev NamesInAll : Outcome → Type 0
NamesInAll (says file) = Names file
NamesInAll other = Unit {0}

names-in-all : (stage : Stage) (count : ℕ) (texts : List (List ℕ)) (outcome : Outcome) → Means stage count texts outcome → NamesSoFar stage
    → NamesInAll outcome
names-in-all stage count texts outcome (ends file n) h = h
names-in-all stage count texts outcome (lacks_boot n) h = tt
names-in-all stage count texts outcome (lacks_epochs line n) h = tt
names-in-all stage count texts outcome (goes_on before next n text others end g m) h =
    names-in-all next (n + 1) others end m (still-names before text next g h)
names-in-all stage count texts outcome (ends_badly before n text others b) h = tt
names-in-all stage count texts outcome (ends_refused before n text others r) h = tt

same-numbers : (lines : List ReadClientLine) → map number (map client_line lines) ≡ clients_of lines
same-numbers [] = refl
same-numbers (line ∷ lines) = ap (λ cs. line.client ∷ cs) (same-numbers lines)

pub file-names : (source : List ℕ) (file : ReadRunFile) → Means unbooted 0 (lines_of source) (says (run_file file))
    → AreClients file.boot.clients (clients_of file.clients.items)
file-names source file m =
    subst (AreClients file.boot.clients) (same-numbers file.clients.items)
    (names-in-all unbooted 0 (lines_of source) (says (run_file file)) m tt)
