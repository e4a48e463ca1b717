-- Words that are copied below others, and words that change places.
use Rattle.std.proofs.Common.{◌≡◌, ℕ, zero, suc, ◌<◌, ◌≤◌, refl, sym, ap, ◌∙◌, arith, List, [], ◌∷◌, ◌++◌, length, take}
use Rattle.std.proofs.Common.{drop, Bool, true, false, ⊎_elim}
use Rattle.std.specs.Prelude.{Some, None, slice_get, ◌&&◌, ◌==◌}
use Rattle.std.proofs.lemmas.List.{take_at, drop_at, take-append-drop, length-take-le}
use Rattle.cjc_card_semantics.specs.Bytecode.Calculations.{if_so, is_swap, swap_x}
use Rattle.cjc_card_frame.specs.Frame.Frames.{Words, Does, sunk}
use Rattle.cjc_card_frame.specs.declared.frame.ending.Ending.{Ending}
use Rattle.cjc_card_semantics.proofs.BytesBools.{or_cases}
use Rattle.cjc_card_semantics.proofs.BytesNumbers.{number_same}
use Rattle.cjc_card_semantics.proofs.BytesGets.{behind_2, get_in_front}

-- the words of s, when all but so many of the top ones have been copied
abbrev pub copied_from : {A : Type 0} (words below left : ℕ) → List A → List A
copied_from words below left s = take below s ++ (drop left (take words s) ++ drop below s)

pub none_copied : {A : Type 0} (words below : ℕ) (s : List A) → s ≡ copied_from words below words s
none_copied words below s = sym (take-append-drop below s) ∙ ap (λ front. take below s ++ (front ++ drop below s))
    (sym (behind_2 words s))

-- what stands among the top words, whatever stands below
top_same : {A : Type 0} (below left : ℕ) (s rest : List A) → left < below → below ≤ length s
    → slice_get (take below s ++ rest) left ≡ slice_get s left
top_same zero left s rest lt le = absurd (omega arith)
top_same (suc below) left [] rest lt le = absurd (omega arith)
top_same (suc below) zero (x ∷ s) rest lt le = refl
top_same (suc below) (suc left) (x ∷ s) rest lt le = top_same below left s rest (omega arith) (omega arith)

pub one_copied : {A : Type 0} (words below left k : ℕ) (s t : List A) (w : A) → below ≤ length s → words ≤ below
    → left < words → k ≡ suc left → t ≡ copied_from words below k s → slice_get t left ≡ Some w → take below t
    ++ w ∷ drop below t ≡ copied_from words below left s
one_copied words below left k s t w all some lt next e at =
    let rest = drop k (take words s) ++ drop below s in
    let len : length (take below s) ≡ below = length-take-le below s all in
    let front : take below t ≡ take below s = ap (take below) e ∙ take_at (take below s) rest below len in
    let back : drop below t ≡ rest = ap (drop below) e ∙ drop_at (take below s) rest below len in
    let inside : left < below = omega arith in
    let there : slice_get s left ≡ Some w = sym (ap (λ xs. slice_get xs left) e ∙ top_same below left s rest inside all)
    ∙ at in
    let first = get_in_front words left s w lt there in
    ap (λ xs. xs ++ w ∷ drop below t) front
    ∙ ap (λ xs. take below s ++ w ∷ xs) back
    ∙ ap (λ n. take below s ++ w ∷ (drop n (take words s) ++ drop below s)) next
    ∙ ap (λ xs. take below s ++ (xs ++ drop below s)) (sym first)

pub none_missing : {A : Type 0} (words below left k : ℕ) (s t : List A) → below ≤ length s → words ≤ below
    → left < words → t ≡ copied_from words below k s → slice_get t left ≡ None → ⊥
none_missing words below left k s t all some lt e at =
    let rest = drop k (take words s) ++ drop below s in
    let inside : left < below = omega arith in
    let there : slice_get s left ≡ None = sym (ap (λ xs. slice_get xs left) e ∙ top_same below left s rest inside all)
    ∙ at in
    let within : left < length s = omega arith in
    missing s left within there
  where
    missing : {A : Type 0} (s : List A) (n : ℕ) → n < length s → slice_get s n ≡ None → ⊥
    missing [] n lt e = omega arith
    missing (x ∷ s) zero lt e = absurd cc
    missing (x ∷ s) (suc n) lt e = missing s n (omega arith) e

pub is_two : (n : ℕ) → is_swap n ≡ true → (n ≡ 1 → ⊥) → n ≡ 2
is_two n e h = ⊎_elim (λ t. absurd (h (number_same n 1 t))) (λ t. number_same n 2 t) (or_cases (n == 1) (n == 2) e)

pub swaps : (m n room : ℕ) (e : Ending) (old new : Words) → is_swap m ≡ true → is_swap n ≡ true
    → Does (sunk m n) room e old new → Does (swap_x m n) room e old new
swaps m n room e old new a b d = record {
  result = ap (λ t. if_so t (sunk m n room old.locals old.stack))
      (both (is_swap m) (is_swap n) a b) ∙ d.result;
  keeps = d.keeps;
}
  where
    both : (a b : Bool) → a ≡ true → b ≡ true → (a && b) ≡ true
    both true true e f = refl
    both true false e f = absurd cc
    both false b e f = absurd cc
