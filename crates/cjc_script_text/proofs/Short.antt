-- Lines and words are no longer than the text, and lines are few.
use Rattle.std.proofs.Common.{◌≡◌, ℕ, Bool, true, false, cond, ◌+◌, ◌<◌, ◌≤◌, ◌^◌, inl, inr, List, [], ◌∷◌, ◌++◌}
use Rattle.std.proofs.Common.{length, ap, arith, length-append}
use Rattle.std.specs.List.{All}
use Rattle.std.specs.Prelude.{filter, Some}
use Rattle.std.specs.Str.Lines.{StripsCarriageReturn}
use Rattle.std.proofs.lemmas.List.Elements.{All-nil, All-cons, All-filter}
use Rattle.cjc_list.specs.Bytes.Text.{TextLine, is_kept, words, kept, kept_lines, lines_from, parts_of_text}
use Rattle.cjc_list.specs.Bytes.TextGrammar.{AreLines, AreWords}
use Rattle.cjc_list.proofs.BytesTextLaws.{cut_are_lines}
use Rattle.cjc_list.proofs.BytesWordLaws.{words_parted}
use Rattle.cjc_script_text.specs.Working.{AreShort, AreShortLines}

stripped : (l x : List ℕ) → StripsCarriageReturn l x → length x ≤ length l
stripped l x h = elim h [
  | inl same ↦ omega (arith, ap length same.0)
  | inr ended ↦ omega (arith, ap length ended, length-append x (13 ∷ []))
]

pub short_among : (n at : ℕ) (ls : List TextLine) (bytes : List ℕ) → AreLines at ls bytes → length bytes < n
    → All (λ l. length l.text < n) ls
unfolding AreLines
short_among n at [] bytes h lt = absurd h
short_among n at (l ∷ []) bytes h lt = All-cons (λ l. length l.text < n) l [] (omega (arith, ap length h.1))
    (All-nil (λ l. length l.text < n))
short_among n at (l ∷ next ∷ ls) bytes h lt =
    let total = ap length h.2 in
    All-cons (λ l. length l.text < n) l (next ∷ ls)
    (omega (arith, total, length-append h.0 (10 ∷ h.1), stripped h.0 l.text h.5))
    (short_among n (at + length h.0 + 1) (next ∷ ls) h.1 h.6 (omega (arith, total, length-append h.0 (10 ∷ h.1))))

pub few_among : (at : ℕ) (ls : List TextLine) (bytes : List ℕ) → AreLines at ls bytes → length ls ≤ length bytes + 1
unfolding AreLines
few_among at [] bytes h = absurd h
few_among at (l ∷ []) bytes h = omega arith
few_among at (l ∷ next ∷ ls) bytes h =
    omega (arith, ap length h.2, length-append h.0 (10 ∷ h.1), few_among (at + length h.0 + 1) (next ∷ ls) h.1 h.6)

kept_or_not : (b : Bool) (l : TextLine) (lines : List TextLine) (n : ℕ) → length lines ≤ n
    → length (cond b (l ∷ lines) lines) ≤ n + 1
kept_or_not true l lines n h = omega arith
kept_or_not false l lines n h = omega arith

few_kept : (ls : List TextLine) → length (filter is_kept ls) ≤ length ls
few_kept [] = omega arith
few_kept (l ∷ ls) = omega (arith, kept_or_not (is_kept l) l (filter is_kept ls) (length ls) (few_kept ls))

pub few_lines : (bytes : List ℕ) → length bytes < 2 ^ 32 → length (kept_lines bytes) ≤ 2 ^ 32
unfolding kept
few_lines bytes lt = omega (
  arith,
  few_kept (lines_from 0 (parts_of_text bytes)),
  few_among 0 (lines_from 0 (parts_of_text bytes)) bytes (cut_are_lines 0 bytes),
)

pub short_lines : (bytes : List ℕ) → length bytes < 2 ^ 32 → AreShortLines (kept_lines bytes)
unfolding kept
short_lines bytes lt =
    All-filter is_kept (λ l. length l.text < 2 ^ 32) (lines_from 0 (parts_of_text bytes))
    (short_among (2 ^ 32) 0 (lines_from 0 (parts_of_text bytes)) bytes (cut_are_lines 0 bytes) lt)

short_parted : (n : ℕ) (ws : List (List ℕ)) (line : List ℕ) → AreWords ws line → length line < n
    → All (λ w. length w < n) ws
unfolding AreWords
short_parted n [] line h lt = All-nil (λ w. length w < n)
short_parted n (w ∷ []) line h lt = All-cons (λ w. length w < n) w [] (omega (arith, ap length h.0))
    (All-nil (λ w. length w < n))
short_parted n (w ∷ next ∷ ws) line h lt =
    let total = ap length h.2 in
    All-cons (λ w. length w < n) w (next ∷ ws)
    (omega (arith, total, length-append w (h.0 ++ h.1)))
    (short_parted n (next ∷ ws) h.1 h.5 (omega (arith, total, length-append w (h.0 ++ h.1), length-append h.0 h.1)))

pub short_words : (line : List ℕ) (ws : List (List ℕ)) → words line ≡ Some ws → length line < 2 ^ 32 → AreShort ws
short_words line ws e lt = short_parted (2 ^ 32) ws line (words_parted ws line e) lt
