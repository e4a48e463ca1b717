-- The words of values one after the other, and the values of words.
use Rattle.std.proofs.Common.{◌≡◌, ℕ, zero, suc, ◌+◌, ◌<◌, List, [], ◌∷◌, ◌++◌, length, take, drop, map, refl, sym, ap}
use Rattle.std.proofs.Common.{◌∙◌, append_assoc, arith, Bool, true}
use Rattle.std.specs.Prelude.{Option, Some, None, option_map}
use Rattle.std.specs.List.{All}
use Rattle.std.proofs.lemmas.Bool.{and_from}
use Rattle.cjc_script.specs.declared.value.Value.{Value}
use Rattle.cjc_script.specs.declared.value.Value.TheVariants.{Num, Null, Obj}
use Rattle.cjc_script.specs.Sorts.{Sort, Boolean, Byte, Short, Int, Reference, Shape, all_fit, fits}
use Rattle.cjc_card_semantics.specs.Bytecode.Arguments.{both_words, first_and, value_words, values_of, words_of}
use Rattle.cjc_script.proofs.BytesBools.{both_front, both_back}

-- behind words, those of a value and those of others
pub both_behind : (words more : List Value) (a b : Option (List Value)) → option_map (λ m. words ++ m) a ≡ Some more
    → option_map (λ m. words ++ m) (both_words a b) ≡ option_map (λ m. more ++ m) b
both_behind words more None b e = absurd cc
both_behind words more (Some a) None e = refl
both_behind words more (Some a) (Some b) e =
    let same : words ++ a ≡ more = cc e in
    ap (λ (xs : List Value). Some xs) (sym (append_assoc words a b) ∙ ap (λ (xs : List Value). xs ++ b) same)

-- behind values, one and others
pub first_behind : (values more : List Value) (v : Value) (b : Option (List Value)) → more ≡ values ++ v ∷ []
    → option_map (λ m. values ++ m) (first_and v b) ≡ option_map (λ m. more ++ m) b
first_behind values more v None e = refl
first_behind values more v (Some b) e = ap (λ (xs : List Value). Some xs) (sym (append_assoc values (v ∷ []) b)
    ∙ ap (λ (xs : List Value). xs ++ b) (sym e))

-- nothing in front
pub behind_none : (o : Option (List Value)) → option_map (λ m. [] ++ m) o ≡ o
behind_none None = refl
behind_none (Some xs) = refl

-- one in front
pub behind_one : (v : Value) (o : Option (List Value)) → option_map (λ m. (v ∷ []) ++ m) o ≡ first_and v o
behind_one v None = refl
behind_one v (Some xs) = refl

-- a value that fits by some types of objects fits by any
any_fits : (is_of : ℕ → Shape (List ℕ) → Bool) (s : Sort) (v : Value) → fits is_of s v ≡ true
    → fits (λ k shape. true) s v ≡ true
any_fits is_of Boolean (Num z) e = e
any_fits is_of Byte (Num z) e = e
any_fits is_of Short (Num z) e = e
any_fits is_of Int (Num z) e = e
any_fits is_of (Reference shape) Null e = refl
any_fits is_of (Reference shape) (Obj k) e = refl
any_fits is_of s v e = absurd cc

pub all_any : (is_of : ℕ → Shape (List ℕ) → Bool) (sorts : List Sort) (values : List Value) → all_fit is_of sorts values
    ≡ true → all_fit (λ k shape. true) sorts values ≡ true
all_any is_of [] [] e = refl
all_any is_of [] (v ∷ values) e = absurd cc
all_any is_of (s ∷ sorts) [] e = absurd cc
all_any is_of (s ∷ sorts) (v ∷ values) e =
    and_from (fits (λ k shape. true) s v) (all_fit (λ k shape. true) sorts values)
    (any_fits is_of s v (both_front (fits is_of s v) (all_fit is_of sorts values) e))
    (all_any is_of sorts values (both_back (fits is_of s v) (all_fit is_of sorts values) e))

-- as many values as types
pub as_many : (is_of : ℕ → Shape (List ℕ) → Bool) (sorts : List Sort) (values : List Value) → all_fit is_of sorts values
    ≡ true → length sorts ≡ length values
as_many is_of [] [] e = refl
as_many is_of [] (v ∷ values) e = absurd cc
as_many is_of (s ∷ sorts) [] e = absurd cc
as_many is_of (s ∷ sorts) (v ∷ values) e =
    ap suc (as_many is_of sorts values (both_back (fits is_of s v) (all_fit is_of sorts values) e))

-- the first of those that are left, and what follows it
pub first_fits : (s : Sort) (v : Value) (sorts : List Sort) (values : List Value)
    → all_fit (λ k shape. true) (s ∷ sorts) (v ∷ values) ≡ true → fits (λ k shape. true) s v ≡ true
first_fits s v sorts values e = both_front (fits (λ k shape. true) s v) (all_fit (λ k shape. true) sorts values) e

pub others_fit : (s : Sort) (v : Value) (sorts : List Sort) (values : List Value)
    → all_fit (λ k shape. true) (s ∷ sorts) (v ∷ values) ≡ true → all_fit (λ k shape. true) sorts values ≡ true
others_fit s v sorts values e = both_back (fits (λ k shape. true) s v) (all_fit (λ k shape. true) sorts values) e
