-- Words that are taken from a stack, and the cells of a method that begins.
use Rattle.std.proofs.Common.{◌≡◌, ℕ, zero, suc, ◌+◌, ◌<◌, ◌≤◌, refl, sym, ap, ◌∙◌, arith, List, [], ◌∷◌, ◌++◌, length}
use Rattle.std.proofs.Common.{take, drop, reverse, map, replicate, get_or}
use Rattle.std.specs.Prelude.{Option, Some, None, slice_get}
use Rattle.std.specs.List.{All}
use Rattle.std.proofs.lemmas.List.{reverse-append}
use Rattle.std.proofs.lemmas.List.Elements.{All-append}
use Rattle.cjc_card_semantics.specs.Script.declared.value.Value.{Value}
use Rattle.cjc_card_frame.specs.Frame.Frames.{IsLocal, IsWord}
use Rattle.cjc_card_semantics.proofs.BytesGets.{behind_2, get_in_front}

-- ---- lists

-- one item more
pub one_more : {A : Type 0} (xs : List A) (i : ℕ) (x : A) → slice_get xs i ≡ Some x → take (i + 1) xs ≡ take i xs
    ++ x ∷ []
one_more [] i x e = absurd cc
one_more (y ∷ xs) zero x e = ap (λ z. z ∷ []) (inner y x e)
  where
    inner : {A : Type 0} (x w : A) → Some x ≡ Some w → x ≡ w
    inner x w e = cc
one_more (y ∷ xs) (suc i) x e =
    let next : suc i + 1 ≡ suc (i + 1) = omega arith in
    ap (λ n. take n (y ∷ xs)) next ∙ ap (λ zs. y ∷ zs) (one_more xs i x e)

one_of : {A : Type 0} (P : A → Type 0) (x : A) → P x → All P (x ∷ [])
one_of P x p zero d h = p
one_of P x p (suc k) d h = absurd (omega arith)

pub all_and : {A : Type 0} (P : A → Type 0) (xs : List A) (x : A) → All P xs → P x → All P (xs ++ x ∷ [])
all_and P xs x all p = All-append P xs (x ∷ []) all (one_of P x p)

-- ---- arguments

pub none_taken : {A : Type 0} (n : ℕ) (s : List A) → reverse (drop n (take n s)) ≡ []
none_taken n s = ap reverse (behind_2 n s)

pub one_taken : {A : Type 0} (n left k : ℕ) (s : List A) (w : A) → left < n → k ≡ suc left → slice_get s left ≡ Some w
    → reverse (drop k (take n s)) ++ w ∷ [] ≡ reverse (drop left (take n s))
one_taken n left k s w lt e at =
    let rest = drop (suc left) (take n s) in
    ap (λ j. reverse (drop j (take n s)) ++ w ∷ []) e
    ∙ sym (reverse-append (w ∷ []) rest)
    ∙ ap reverse (sym (get_in_front n left s w lt at))

-- ---- locals

abbrev pub cells_by : (count : ℕ) → List Value → List (Option Value)
cells_by count args = map (λ v. Some v) args ++ replicate count None

abbrev no_word : Option Value
no_word = None

unset : (n i : ℕ) → i < n → slice_get (replicate n no_word) i ≡ Some no_word
unset zero i h = absurd (omega arith)
unset (suc n) zero h = refl
unset (suc n) (suc i) h = unset n i (omega arith)

pub cell_is : (n : ℕ) (args : List Value) (i : ℕ) → i < n → slice_get (cells_by n args) i ≡ Some (slice_get args i)
cell_is n [] i h = unset n i h
cell_is n (v ∷ args) zero h = refl
cell_is n (v ∷ args) (suc i) h = cell_is n args i (omega arith)

pub cell_fits : (args : List Value) (i : ℕ) → All IsWord args → IsLocal (slice_get args i)
cell_fits [] i all = tt
cell_fits (v ∷ args) zero all = all 0 v (omega arith)
cell_fits (v ∷ args) (suc i) all = cell_fits args i (λ k d h. all (suc k) d (omega arith))

-- ---- words that are put

-- the list of words that are put, the first of them deepest
pub one_put : (words : List Value) (i : ℕ) (w : Value) (stack : List Value) → slice_get words i ≡ Some w
    → w ∷ (reverse (take i words) ++ stack) ≡ reverse (take (i + 1) words) ++ stack
one_put words i w stack at = ap (λ xs. xs ++ stack) (sym (ap reverse (one_more words i w at)
    ∙ reverse-append (take i words) (w ∷ [])))
