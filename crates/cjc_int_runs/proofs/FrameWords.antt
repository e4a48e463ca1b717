-- What a frame in int mode holds in the two words of a local, and what it holds after a store.
use Rattle.std.proofs.Common.{◌≡◌, ℕ, zero, suc, ◌+◌, ◌*◌, ◌<◌, refl, sym, ap, subst, ◌∙◌, arith, List, [], ◌∷◌, ◌++◌}
use Rattle.std.proofs.Common.{length}
use Rattle.std.proofs.Common.{ℤ}
use Rattle.std.specs.Prelude.{Option, Some, slice_get, slice_set, Bool}
use Rattle.std.proofs.lemmas.List.{length-append}
use Rattle.cjc_script.proofs.BytesGets.{get_behind, in_front, set_length}
use Rattle.cjc_range.specs.Span.{Span, Holds}
use Rattle.cjc_script.specs.declared.value.Value.{Value}
use Rattle.cjc_script.specs.declared.value.Value.TheVariants.{Num}
use Rattle.cjc_script.specs.Sorts.{Shape}
use Rattle.cjc_card_semantics.specs.Bytecode.Numbers.{spelt_by}
use Rattle.cjc_ncode.specs.IntCode.IntCode.{Frame, nargs, first_word}
use Rattle.cjc_narrow_proof.specs.Selection.Relation.{Kind, Range, Refers, Free, Heap}
use Rattle.cjc_int_runs.specs.Relation.{LocalPairs, no_local, number_local, reference_local, unused_local, IntLocals}
use Rattle.cjc_int_runs.specs.Relation.{RefersTo}

-- ---- two words further

get_two : {A : Type 0} (a b : A) (xs : List A) (i j : ℕ) → j ≡ suc (suc i) → slice_get (a ∷ b ∷ xs) j ≡ slice_get xs i
get_two a b xs i j e = ap (slice_get (a ∷ b ∷ xs)) e

set_two : {A : Type 0} (a b : A) (xs : List A) (i j : ℕ) (v : A) → j ≡ suc (suc i) → slice_set (a ∷ b ∷ xs) j v
    ≡ a ∷ b ∷ slice_set xs i v
set_two a b xs i j v e = ap (λ k. slice_set (a ∷ b ∷ xs) k v) e

further : (n : ℕ) → 2 * suc n ≡ suc (suc (2 * n))
further n = omega arith

further_behind : (n : ℕ) → 2 * suc n + 1 ≡ suc (suc (2 * n + 1))
further_behind n = omega arith

-- ---- what is held

-- a number by name, and its two words from a place on
pub record NumberAt (s : Span) (locals words : List (Option Value)) (n first : ℕ) : Type 0 where
  pub x : ℤ
  pub high : ℤ
  pub low : ℤ
  pub by_name : slice_get locals n ≡ Some (Some (Num x))
  pub high_word : slice_get words first ≡ Some (Some (Num high))
  pub low_word : slice_get words (first + 1) ≡ Some (Some (Num low))
  pub spelt : x ≡ spelt_by high low
  pub inside : Holds s x

number_further : {s : Span} {locals words : List (Option Value)} {n : ℕ} (v a b : Option Value)
    → NumberAt s locals words n (2 * n) → NumberAt s (v ∷ locals) (a ∷ b ∷ words) (suc n) (2 * suc n)
number_further {words = words} {n = n} v a b h = record {
  x = h.x;
  high = h.high;
  low = h.low;
  by_name = h.by_name;
  high_word = get_two a b words (2 * n) (2 * suc n) (further n) ∙ h.high_word;
  low_word = get_two a b words (2 * n + 1) (2 * suc n + 1) (further_behind n) ∙ h.low_word;
  spelt = h.spelt;
  inside = h.inside;
}

number_at : {heap : Heap} {ls : List Kind} {locals words : List (Option Value)} (s : Span) (n : ℕ)
    → LocalPairs heap ls locals words → slice_get ls n ≡ Some (Range s) → NumberAt s locals words n (2 * n)
number_at s n no_local e = absurd cc
number_at s zero (number_local {s = s'} {x = x} {high = high} {low = low} spelt inside rest) e =
    let same : s' ≡ s = cc in record {
      x = x;
      high = high;
      low = low;
      by_name = refl;
      high_word = refl;
      low_word = refl;
      spelt = spelt;
      inside = subst (λ q. Holds q x) same inside;
    }
number_at s zero (reference_local a rest) e = absurd cc
number_at s zero (unused_local rest) e = absurd cc
number_at s (suc n) (number_local spelt inside rest) e = number_further _ _ _ (number_at s n rest e)
number_at s (suc n) (reference_local a rest) e = number_further _ _ _ (number_at s n rest e)
number_at s (suc n) (unused_local rest) e = number_further _ _ _ (number_at s n rest e)

-- a reference on both sides
pub record ReferenceAt (heap : Heap) (within : Shape (List ℕ) → Bool) (locals words : List (Option Value)) (n first : ℕ)
    : Type 0 where
  pub v : Value
  pub by_name : slice_get locals n ≡ Some (Some v)
  pub word : slice_get words first ≡ Some (Some v)
  pub agree : RefersTo heap within v

reference_further : {heap : Heap} {within : Shape (List ℕ) → Bool} {locals words : List (Option Value)} {n : ℕ} (v a b :
    Option Value) → ReferenceAt heap within locals words n (2 * n) → ReferenceAt heap within (v ∷ locals) (a ∷ b
    ∷ words) (suc n) (2 * suc n)
reference_further {words = words} {n = n} v a b h = record {
  v = h.v;
  by_name = h.by_name;
  word = get_two a b words (2 * n) (2 * suc n) (further n) ∙ h.word;
  agree = h.agree;
}

reference_at : {heap : Heap} {ls : List Kind} {locals words : List (Option Value)} (within : Shape (List ℕ)
    → Bool) (n : ℕ) → LocalPairs heap ls locals words → slice_get ls n ≡ Some (Refers within)
    → ReferenceAt heap within locals words n (2 * n)
reference_at within n no_local e = absurd cc
reference_at within zero (number_local spelt inside rest) e = absurd cc
reference_at {heap = heap} within zero (reference_local {within = within'} {v = v} a rest) e =
    let same : within' ≡ within = cc in record {
      v = v;
      by_name = refl;
      word = refl;
      agree = subst (λ q. RefersTo heap q v) same a;
    }
reference_at within zero (unused_local rest) e = absurd cc
reference_at within (suc n) (number_local spelt inside rest) e = reference_further _ _ _ (reference_at within n rest e)
reference_at within (suc n) (reference_local a rest) e = reference_further _ _ _ (reference_at within n rest e)
reference_at within (suc n) (unused_local rest) e = reference_further _ _ _ (reference_at within n rest e)

-- ---- what is stored

pub pairs_long : {heap : Heap} {ls : List Kind} {locals words : List (Option Value)} → LocalPairs heap ls locals words
    → (length locals ≡ length ls) × (length words ≡ 2 * length ls)
pairs_long no_local = (refl, refl)
pairs_long (number_local spelt inside rest) = let h = pairs_long rest in let a = h.0 in let b = h.1
    in (omega arith, omega arith)
pairs_long (reference_local a rest) = let h = pairs_long rest in let c = h.0 in let b = h.1 in (
  omega arith,
  omega
      arith,
)
pairs_long (unused_local rest) = let h = pairs_long rest in let a = h.0 in let b = h.1 in (omega arith, omega arith)

-- both words of a local
abbrev pub two_set : (first : ℕ) → (high low : ℤ) → List (Option Value) → List (Option Value)
two_set first high low words = slice_set (slice_set words first (Some (Num high))) (first + 1) (Some (Num low))

two_further : (a b : Option Value) (words : List (Option Value)) (n : ℕ) (high low : ℤ)
    → two_set (2 * suc n) high low (a ∷ b ∷ words) ≡ a ∷ b ∷ two_set (2 * n) high low words
two_further a b words n high low =
    ap (λ w. slice_set w (2 * suc n + 1) (Some (Num low))) (set_two a b words (2 * n) (2 * suc n) (Some (Num high))
    (further n)) ∙ set_two a b (slice_set words (2 * n) (Some (Num high))) (2 * n + 1) (2 * suc n + 1) (Some (Num low))
    (further_behind n)

number_set : {heap : Heap} {ls : List Kind} {locals words : List (Option Value)} {s : Span} {x : ℤ} (high low : ℤ) (n :
    ℕ)
    → LocalPairs heap ls locals words → n < length ls → x ≡ spelt_by high low → Holds s x
    → LocalPairs heap (slice_set ls n (Range s)) (slice_set locals n (Some (Num x))) (two_set (2 * n) high low words)
number_set high low n no_local lt spelt inside = absurd (omega (arith, lt))
number_set high low zero (number_local e h rest) lt spelt inside = number_local spelt inside rest
number_set high low zero (reference_local a rest) lt spelt inside = number_local spelt inside rest
number_set high low zero (unused_local rest) lt spelt inside = number_local spelt inside rest
number_set {heap = heap} {s = s} {x = x} high low (suc n) (number_local {s = s'} {x = y} {high = h'}
    {low = l'} {ks = ks} {vs = vs} {ws = ws} e h rest) lt spelt inside =
    subst (LocalPairs heap (Range s' ∷ slice_set ks n (Range s)) (Some (Num y) ∷ slice_set vs n (Some (Num x))))
    (sym (two_further (Some (Num h')) (Some (Num l')) ws n high low))
    (number_local e h (number_set high low n rest (omega (arith, lt)) spelt inside))
number_set {heap = heap} {s = s} {x = x} high low (suc n) (reference_local {within = within} {v = v}
    {behind = behind} {ks = ks} {vs = vs} {ws = ws} a rest) lt spelt inside =
    subst (LocalPairs heap (Refers within ∷ slice_set ks n (Range s)) (Some v ∷ slice_set vs n (Some (Num x))))
    (sym (two_further (Some v) behind ws n high low))
    (reference_local a (number_set high low n rest (omega (arith, lt)) spelt inside))
number_set {heap = heap} {s = s} {x = x} high low (suc n) (unused_local {v = v} {first = first}
    {second = second} {ks = ks} {vs = vs} {ws = ws} rest) lt spelt inside =
    subst (LocalPairs heap (Free ∷ slice_set ks n (Range s)) (v ∷ slice_set vs n (Some (Num x))))
    (sym (two_further first second ws n high low))
    (unused_local (number_set high low n rest (omega (arith, lt)) spelt inside))

reference_set : {heap : Heap} {ls : List Kind} {locals words : List (Option Value)} {within : Shape (List ℕ)
    → Bool} {v : Value} (n : ℕ) → LocalPairs heap ls locals words → n < length ls → RefersTo heap within v
    → LocalPairs heap (slice_set ls n (Refers within)) (slice_set locals n (Some v))
    (slice_set words (2 * n) (Some v))
reference_set n no_local lt agree = absurd (omega (arith, lt))
reference_set zero (number_local e h rest) lt agree = reference_local agree rest
reference_set zero (reference_local a rest) lt agree = reference_local agree rest
reference_set zero (unused_local rest) lt agree = reference_local agree rest
reference_set {heap = heap} {within = within} {v = v} (suc n) (number_local {s = s'} {x = y} {high = h'} {low = l'}
    {ks = ks} {vs = vs} {ws = ws} e h rest) lt agree =
    subst (LocalPairs heap (Range s' ∷ slice_set ks n (Refers within)) (Some (Num y) ∷ slice_set vs n (Some v)))
    (sym (set_two (Some (Num h')) (Some (Num l')) ws (2 * n) (2 * suc n) (Some v) (further n)))
    (number_local e h (reference_set n rest (omega (arith, lt)) agree))
reference_set {heap = heap} {within = within} {v = v} (suc n) (reference_local {within = within'} {v = w}
    {behind = behind} {ks = ks} {vs = vs} {ws = ws} a rest) lt agree =
    subst (LocalPairs heap (Refers within' ∷ slice_set ks n (Refers within)) (Some w ∷ slice_set vs n (Some v)))
    (sym (set_two (Some w) behind ws (2 * n) (2 * suc n) (Some v) (further n)))
    (reference_local a (reference_set n rest (omega (arith, lt)) agree))
reference_set {heap = heap} {within = within} {v = v} (suc n) (unused_local {v = w} {first = first} {second = second}
    {ks = ks} {vs = vs} {ws = ws} rest) lt agree =
    subst (LocalPairs heap (Free ∷ slice_set ks n (Refers within)) (w ∷ slice_set vs n (Some v)))
    (sym (set_two first second ws (2 * n) (2 * suc n) (Some v) (further n)))
    (unused_local (reference_set n rest (omega (arith, lt)) agree))

-- ---- among the words of the frame

pub set_behind : {A : Type 0} (xs ys : List A) (k : ℕ) (v : A) → slice_set (xs ++ ys) (length xs + k) v
    ≡ xs ++ slice_set ys k v
set_behind [] ys k v = ap (λ j. slice_set ys j v) (let e : 0 + k ≡ k = omega arith in e)
set_behind (x ∷ xs) ys k v = let e : length (x ∷ xs) + k ≡ suc (length xs + k) = omega arith in
    ap (λ j. slice_set (x ∷ (xs ++ ys)) j v) e ∙ ap (λ w. x ∷ w) (set_behind xs ys k v)

set_in_front : {A : Type 0} (xs ys : List A) (k : ℕ) (v : A) → k < length xs → slice_set (xs ++ ys) k v
    ≡ slice_set xs k v ++ ys
set_in_front [] ys k v lt = absurd (omega (arith, lt))
set_in_front (x ∷ xs) ys zero v lt = refl
set_in_front (x ∷ xs) ys (suc k) v lt = ap (λ w. x ∷ w) (set_in_front xs ys k v (omega (arith, lt)))

-- a word between those in front and those behind
set_between : {A : Type 0} (front own back : List A) (n k j : ℕ) (v : A) → length front ≡ n → j ≡ n + k
    → k < length own → slice_set (front ++ (own ++ back)) j v ≡ front ++ (slice_set own k v ++ back)
set_between front own back n k j v long is lt =
    let at : j ≡ length front + k = omega arith in
    ap (λ i. slice_set (front ++ (own ++ back)) i v) at ∙ set_behind front (own ++ back) k v
    ∙ ap (λ w. front ++ w) (set_in_front own back k v lt)

module _ {heap : Heap} {f : Frame} {pairs : ℕ} {ls : List Kind} {locals words : List (Option Value)}
    (h : IntLocals heap f pairs ls locals words) where
  -- a word of a local
  word_at : (k j : ℕ) (x : Option Value) → slice_get h.own k ≡ Some x → j ≡ nargs f + k → slice_get words j ≡ Some x
  word_at k j x e is =
      let long = h.argument_words in
      let at : j ≡ length h.arguments + k = omega arith in
      ap (λ w. slice_get w j) h.are ∙ ap (slice_get (h.arguments ++ (h.own ++ h.scratch))) at
      ∙ get_behind h.arguments (h.own ++ h.scratch) k ∙ in_front h.own h.scratch k x e

  pub number_held : (s : Span) (n : ℕ) → slice_get ls n ≡ Some (Range s) → NumberAt s locals words n (first_word f n)
  number_held s n e = let a = number_at s n h.agree e in record {
    x = a.x;
    high = a.high;
    low = a.low;
    by_name = a.by_name;
    high_word = word_at (2 * n) (first_word f n) (Some (Num a.high)) a.high_word refl;
    low_word = word_at (2 * n + 1) (first_word f n + 1) (Some (Num a.low)) a.low_word (omega arith);
    spelt = a.spelt;
    inside = a.inside;
  }

  pub reference_held : (within : Shape (List ℕ) → Bool) (n : ℕ) → slice_get ls n ≡ Some (Refers within)
      → ReferenceAt heap within locals words n (first_word f n)
  reference_held within n e = let a = reference_at within n h.agree e in record {
    v = a.v;
    by_name = a.by_name;
    word = word_at (2 * n) (first_word f n) (Some a.v) a.word refl;
    agree = a.agree;
  }

  -- as many locals as kinds, and two words for each
  pub locals_long : (length locals ≡ length ls) × (nargs f + 2 * length ls + 2 * pairs ≡ length words)
  locals_long =
      let a = pairs_long h.agree in let b = a.1 in let c = h.argument_words in let d = h.scratch_words in
      let e : length words ≡ length (h.arguments ++ (h.own ++ h.scratch)) = ap length h.are in
      let g = length-append h.arguments (h.own ++ h.scratch) in let i = length-append h.own h.scratch in
      (a.0, omega (arith, b, c, d, e, g, i))

  pub number_kept : {s : Span} {x : ℤ} (high low : ℤ) (n : ℕ) → n < length ls → x ≡ spelt_by high low → Holds s x
      → IntLocals heap f pairs (slice_set ls n (Range s)) (slice_set locals n (Some (Num x)))
      (two_set (first_word f n) high low words)
  number_kept high low n lt spelt inside =
      let long = (pairs_long h.agree).1 in
      let one = slice_set h.own (2 * n) (Some (Num high)) in
      let as_long : length one ≡ length h.own = set_length h.own (2 * n) (Some (Num high)) in
      record {
        arguments = h.arguments;
        own = two_set (2 * n) high low h.own;
        scratch = h.scratch;
        are = ap (two_set (first_word f n) high low) h.are
            ∙ ap (λ w. slice_set w (first_word f n + 1) (Some (Num low))) (set_between h.arguments h.own h.scratch
            (nargs f) (2 * n) (first_word f n) (Some (Num high)) h.argument_words refl (omega (arith, long, lt)))
            ∙ set_between h.arguments one h.scratch (nargs f) (2 * n + 1) (first_word f n + 1) (Some (Num low))
            h.argument_words (omega arith) (omega (arith, long, lt, as_long));
        argument_words = h.argument_words;
        own_words = set_length one (2 * n + 1) (Some (Num low)) ∙ as_long ∙ h.own_words;
        scratch_words = h.scratch_words;
        agree = number_set high low n h.agree lt spelt inside;
      }

  pub reference_kept : {within : Shape (List ℕ) → Bool} {v : Value} (n : ℕ) → n < length ls
      → RefersTo heap within v
      → IntLocals heap f pairs (slice_set ls n (Refers within)) (slice_set locals n (Some v))
      (slice_set words (first_word f n) (Some v))
  reference_kept {v = v} n lt agree =
      let long = (pairs_long h.agree).1 in
      record {
        arguments = h.arguments;
        own = slice_set h.own (2 * n) (Some v);
        scratch = h.scratch;
        are = ap (λ w. slice_set w (first_word f n) (Some v)) h.are ∙ set_between h.arguments h.own h.scratch (nargs f)
            (2 * n) (first_word f n) (Some v) h.argument_words refl (omega (arith, long, lt));
        argument_words = h.argument_words;
        own_words = set_length h.own (2 * n) (Some v) ∙ h.own_words;
        scratch_words = h.scratch_words;
        agree = reference_set n h.agree lt agree;
      }

  -- the words of arguments stay
  pub number_stays : {s : Span} {x : ℤ} (high low : ℤ) (n : ℕ) (lt : n < length ls) (spelt : x ≡ spelt_by high low)
      (inside : Holds s x) → (number_kept high low n lt spelt inside).arguments ≡ h.arguments
  unfolding number_kept
  number_stays high low n lt spelt inside = refl

  pub reference_stays : {within : Shape (List ℕ) → Bool} {v : Value} (n : ℕ) (lt : n < length ls)
      (refers : RefersTo heap within v) → (reference_kept n lt refers).arguments ≡ h.arguments
  unfolding reference_kept
  reference_stays n lt refers = refl
