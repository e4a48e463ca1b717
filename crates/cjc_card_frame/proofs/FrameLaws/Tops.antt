-- What stands on top of a stack decides what calculations take.
use Rattle.std.proofs.Common.{◌≡◌, ℕ, ◌+◌, ◌≤◌, ◌<◌, refl, sym, ap, ◌∙◌, arith, List, [], ◌∷◌, drop, length, ℤ}
use Rattle.std.specs.Prelude.{Option, Some, None, option_map, slice_get}
use Rattle.std.proofs.lemmas.Option.{slice_get_within}
use Rattle.cjc_card_semantics.specs.Script.declared.value.Value.{Value}
use Rattle.cjc_card_semantics.specs.Script.declared.value.Value.TheVariants.{Num, Null, Obj}
use Rattle.cjc_card_semantics.specs.Bytecode.Calculations.{one_number, two_numbers, one_int, two_ints}
use Rattle.cjc_card_semantics.specs.Bytecode.Effects.{with_some}
use Rattle.cjc_card_frame.specs.Frame.Frames.{number_of, number_at, pair_of, numbers_at, int_by, int_at}

-- ---- numbers

number_first : {A : Type 0} (stuck : A) (stack : List Value) (go : ℤ → List Value → A) → one_number stuck stack go
    ≡ with_some stuck (number_at 0 stack) (λ x. go x (drop 1 stack))
number_first stuck [] go = refl
number_first stuck (Num x ∷ stack) go = refl
number_first stuck (Null ∷ stack) go = refl
number_first stuck (Obj k ∷ stack) go = refl

pub top_number : {A : Type 0} (stuck : A) (stack : List Value) (go : ℤ → List Value → A) (o : Option ℤ)
    → o ≡ number_at 0 stack → one_number stuck stack go ≡ with_some stuck o (λ x. go x (drop 1 stack))
top_number stuck stack go o e = number_first stuck stack go ∙ ap (λ p. with_some stuck p (λ x. go x (drop 1 stack)))
    (sym e)

numbers_first : {A : Type 0} (stuck : A) (stack : List Value) (go : ℤ → ℤ → List Value → A) → two_numbers stuck stack go
    ≡ with_some stuck (numbers_at 0 stack) (λ p. go p.0 p.1 (drop 2 stack))
numbers_first stuck [] go = refl
numbers_first stuck (Num y ∷ []) go = refl
numbers_first stuck (Num y ∷ Num x ∷ stack) go = refl
numbers_first stuck (Num y ∷ Null ∷ stack) go = refl
numbers_first stuck (Num y ∷ Obj k ∷ stack) go = refl
numbers_first stuck (Null ∷ []) go = refl
numbers_first stuck (Null ∷ Num x ∷ stack) go = refl
numbers_first stuck (Null ∷ Null ∷ stack) go = refl
numbers_first stuck (Null ∷ Obj j ∷ stack) go = refl
numbers_first stuck (Obj k ∷ []) go = refl
numbers_first stuck (Obj k ∷ Num x ∷ stack) go = refl
numbers_first stuck (Obj k ∷ Null ∷ stack) go = refl
numbers_first stuck (Obj k ∷ Obj j ∷ stack) go = refl

pub top_numbers : {A : Type 0} (stuck : A) (stack : List Value) (go : ℤ → ℤ → List Value → A) (o : Option (ℤ × ℤ))
    → o ≡ numbers_at 0 stack → two_numbers stuck stack go ≡ with_some stuck o (λ p. go p.0 p.1 (drop 2 stack))
top_numbers stuck stack go o e = numbers_first stuck stack go
    ∙ ap (λ p. with_some stuck p (λ x. go x.0 x.1 (drop 2 stack))) (sym e)

-- ---- ints

spelt : {A : Type 0} (stuck : A) (o : Option (ℤ × ℤ)) (go : ℤ → A) → with_some stuck o (λ p. go (int_by p))
    ≡ with_some stuck (option_map int_by o) go
spelt stuck None go = refl
spelt stuck (Some p) go = refl

int_first : {A : Type 0} (stuck : A) (stack : List Value) (go : ℤ → List Value → A) → one_int stuck stack go
    ≡ with_some stuck (int_at 0 stack) (λ z. go z (drop 2 stack))
int_first stuck stack go = numbers_first stuck stack (λ high low rest. go (int_by (high, low)) rest)
    ∙ spelt stuck (numbers_at 0 stack) (λ z. go z (drop 2 stack))

pub top_int : {A : Type 0} (stuck : A) (stack : List Value) (go : ℤ → List Value → A) (o : Option ℤ)
    → o ≡ int_at 0 stack → one_int stuck stack go ≡ with_some stuck o (λ z. go z (drop 2 stack))
top_int stuck stack go o e = int_first stuck stack go ∙ ap (λ p. with_some stuck p (λ z. go z (drop 2 stack))) (sym e)

-- what stands below two words
below : (stack : List Value) → int_at 0 (drop 2 stack) ≡ int_at 2 stack
below [] = refl
below (a ∷ []) = refl
below (a ∷ b ∷ stack) = refl

below_both : (stack : List Value) → drop 2 (drop 2 stack) ≡ drop 4 stack
below_both [] = refl
below_both (a ∷ []) = refl
below_both (a ∷ b ∷ stack) = refl

-- no int stands below one
pub top_ints : {A : Type 0} (stuck : A) (stack : List Value) (go : ℤ → ℤ → List Value → A) (x y : ℤ)
    → Some x ≡ int_at 2 stack → Some y ≡ int_at 0 stack → two_ints stuck stack go ≡ go x y (drop 4 stack)
top_ints stuck stack go x y e f =
    top_int stuck stack (λ y below. one_int stuck below (λ x rest. go x y rest)) (Some y) f
    ∙ top_int stuck (drop 2 stack) (λ x rest. go x y rest) (Some x) (e ∙ sym (below stack))
    ∙ ap (go x y) (below_both stack)

pub no_upper_int : {A : Type 0} (stuck : A) (stack : List Value) (go : ℤ → ℤ → List Value → A) → None ≡ int_at 0 stack
    → two_ints stuck stack go ≡ stuck
no_upper_int stuck stack go e = top_int stuck stack (λ y below. one_int stuck below (λ x rest. go x y rest)) None e

int_or_none : {A : Type 0} (stuck : A) (stack : List Value) (go : ℤ → ℤ → List Value → A) (o : Option ℤ)
    → o ≡ int_at 0 stack → None ≡ int_at 2 stack → two_ints stuck stack go ≡ stuck
int_or_none stuck stack go None f e = no_upper_int stuck stack go f
int_or_none stuck stack go (Some y) f e =
    top_int stuck stack (λ y below. one_int stuck below (λ x rest. go x y rest)) (Some y) f
    ∙ top_int stuck (drop 2 stack) (λ x rest. go x y rest) None (e ∙ sym (below stack))

pub no_lower_int : {A : Type 0} (stuck : A) (stack : List Value) (go : ℤ → ℤ → List Value → A) → None ≡ int_at 2 stack
    → two_ints stuck stack go ≡ stuck
no_lower_int stuck stack go e = int_or_none stuck stack go (int_at 0 stack) refl e

-- ---- heights

some_number : (o : Option Value) (x : ℤ) → Some x ≡ number_of o → (v : Value) × (o ≡ Some v)
some_number (Some v) x e = (v, refl)
some_number None x e = absurd cc

pub number_high : (n : ℕ) (stack : List Value) (x : ℤ) → Some x ≡ number_at n stack → n < length stack
number_high n stack x e = let v = some_number (slice_get stack n) x e in slice_get_within stack n v.0 v.1

deep : (n : ℕ) (stack : List Value) (p : ℤ × ℤ) (o u : Option ℤ) → o ≡ number_at (n + 1) stack → Some p ≡ pair_of o u
    → n + 2 ≤ length stack
deep n stack p (Some x) u e f = let h = number_high (n + 1) stack x e in omega (arith, h)
deep n stack p None u e f = absurd cc

pub numbers_high : (n : ℕ) (stack : List Value) (p : ℤ × ℤ) → Some p ≡ numbers_at n stack → n + 2 ≤ length stack
numbers_high n stack p e = deep n stack p (number_at (n + 1) stack) (number_at n stack) refl e

high_int : (n : ℕ) (stack : List Value) (z : ℤ) (o : Option (ℤ × ℤ)) → o ≡ numbers_at n stack
    → Some z ≡ option_map int_by o → n + 2 ≤ length stack
high_int n stack z (Some p) f e = numbers_high n stack p f
high_int n stack z None f e = absurd cc

pub int_high : (n : ℕ) (stack : List Value) (z : ℤ) → Some z ≡ int_at n stack → n + 2 ≤ length stack
int_high n stack z e = high_int n stack z (numbers_at n stack) refl e
