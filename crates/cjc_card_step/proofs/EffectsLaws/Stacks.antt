-- What stands below the top words of a stack decides what instructions take.
use Rattle.std.proofs.Common.{◌≡◌, ℕ, zero, suc, ◌+◌, ◌<◌, ◌≤◌, refl, sym, ap, ◌∙◌, arith, List, [], ◌∷◌, drop, length}
use Rattle.std.proofs.Common.{◌%◌, Bool, true, ℤ, pos, negsuc, ◌≤ℤ◌}
use Rattle.std.specs.Prelude.{Option, Some, None, slice_get}
use Rattle.std.specs.Int.{w16, int_wrap, cast_signed}
use Rattle.std.proofs.lemmas.Int.{ints}
use Rattle.std.proofs.lemmas.Bool.Decides.{nat_tests}
use Rattle.cjc_card_semantics.specs.Range.Words.{low_word}
use Rattle.cjc_card_semantics.specs.Script.declared.value.Value.{Value}
use Rattle.cjc_card_semantics.specs.Script.declared.value.Value.TheVariants.{Num, Null, Obj}
use Rattle.cjc_card_semantics.specs.Bytecode.Numbers.{is_word}
use Rattle.cjc_card_semantics.specs.Bytecode.Calculations.{is_reference, one_number, one_value}
use Rattle.cjc_card_semantics.specs.Bytecode.Effects.{Reference, with_some, words_of}
use Rattle.cjc_card_frame.specs.Frame.Frames.{number_at, number_of}

-- a number on top of a value
on_value : {A : Type 0} (stuck : A) (stack : List Value) (go : ℤ → Value → List Value → A)
    → one_number stuck stack (λ i below. one_value stuck below (go i)) ≡ with_some stuck (number_at 0 stack)
    (λ i. with_some stuck (slice_get stack 1) (λ v. go i v (drop 2 stack)))
on_value stuck [] go = refl
on_value stuck (Num x ∷ []) go = refl
on_value stuck (Num x ∷ v ∷ stack) go = refl
on_value stuck (Null ∷ stack) go = refl
on_value stuck (Obj k ∷ stack) go = refl

-- what stands below so many words
from_depth : (n k : ℕ) (stack : List Value) → slice_get (drop n stack) k ≡ slice_get stack (n + k)
from_depth zero k stack =
    let same : k ≡ 0 + k = omega arith in
    ap (λ i. slice_get stack i) same
from_depth (suc n) k [] = refl
from_depth (suc n) k (v ∷ stack) =
    let next : suc n + k ≡ suc (n + k) = omega arith in
    from_depth n k stack ∙ ap (λ i. slice_get (v ∷ stack) i) (sym next)

past_depth : (n k : ℕ) (stack : List Value) → drop k (drop n stack) ≡ drop (n + k) stack
past_depth zero k stack =
    let same : k ≡ 0 + k = omega arith in
    ap (λ i. drop i stack) same
past_depth (suc n) zero stack =
    let same : suc n ≡ suc n + 0 = omega arith in
    ap (λ i. drop i stack) same
past_depth (suc n) (suc k) [] =
    let next : suc n + suc k ≡ suc (n + suc k) = omega arith in
    ap (λ (i : ℕ). drop {A = Value} i []) (sym next)
past_depth (suc n) (suc k) (v ∷ stack) =
    let next : suc n + suc k ≡ suc (n + suc k) = omega arith in
    past_depth n (suc k) stack ∙ ap (λ i. drop i (v ∷ stack)) (sym next)

pub number_value : {A : Type 0} (stuck : A) (n : ℕ) (stack : List Value) (go : ℤ → Value → List Value → A)
    → one_number stuck (drop n stack) (λ i below. one_value stuck below (go i)) ≡ with_some stuck (number_at n stack)
    (λ i. with_some stuck (slice_get stack (n + 1)) (λ v. go i v (drop (n + 2) stack)))
number_value stuck n stack go =
    let none : n + 0 ≡ n = omega arith in
    on_value stuck (drop n stack) go
    ∙ ap (λ o. with_some stuck (number_of o) (λ i. with_some stuck (slice_get (drop n stack) 1)
    (λ v. go i v (drop 2 (drop n stack))))) (from_depth n 0 stack ∙ ap (λ i. slice_get stack i) none)
    ∙ ap (λ o. with_some stuck (number_at n stack) (λ i. with_some stuck o (λ v. go i v (drop 2 (drop n stack)))))
    (from_depth n 1 stack)
    ∙ ap (λ (s : List Value). with_some stuck (number_at n stack) (λ i. with_some stuck (slice_get stack (n + 1))
    (λ v. go i v s))) (past_depth n 2 stack)

-- a value below so many words
first_value : {A : Type 0} (stuck : A) (stack : List Value) (go : Value → List Value → A) → one_value stuck stack go
    ≡ with_some stuck (slice_get stack 0) (λ v. go v (drop 1 stack))
first_value stuck [] go = refl
first_value stuck (v ∷ stack) go = refl

pub value_below : {A : Type 0} (stuck : A) (n : ℕ) (stack : List Value) (go : Value → List Value → A)
    → one_value stuck (drop n stack) go ≡ with_some stuck (slice_get stack n) (λ v. go v (drop (n + 1) stack))
value_below stuck n stack go =
    let none : n + 0 ≡ n = omega arith in
    first_value stuck (drop n stack) go
    ∙ ap (λ o. with_some stuck o (λ v. go v (drop 1 (drop n stack)))) (from_depth n 0 stack
    ∙ ap (λ i. slice_get stack i) none)
    ∙ ap (λ (s : List Value). with_some stuck (slice_get stack n) (λ v. go v s)) (past_depth n 1 stack)

-- ---- words

pub reference_words : (word : Value) → is_reference word ≡ true → {A : Type 0} (stuck : A) (go : List Value → A)
    → words_of Reference word stuck go ≡ go (word ∷ [])
reference_words (Num z) e stuck go = absurd cc
reference_words Null e stuck go = refl
reference_words (Obj k) e stuck go = refl

pub word_is : (z : ℤ) → negsuc 32767 ≤ℤ z → z ≤ℤ pos 32767 → is_word z ≡ true
word_is (pos n) a b = let h : n ≤ 32767 = omega (arith, ints) in grind (arith, nat_tests)
word_is (negsuc n) a b = let h : n ≤ 32767 = omega (arith, ints) in grind (arith, nat_tests)

pub low_mod : (n : ℕ) → low_word (pos (n % 65536)) ≡ low_word (pos n)
unfolding int_wrap
low_mod n = let e : n % 65536 % 65536 ≡ n % 65536 = omega arith in ap (λ k. cast_signed w16 k) e
