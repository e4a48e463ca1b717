-- What is kept of methods and classes is what the definitions say of them.
use Rattle.std.proofs.Common.{◌≡◌, ℕ, ◌==◌, Bool, true, false, List, [], ◌∷◌, map, refl, sym, ap, ◌∙◌, Option, Some}
use Rattle.std.proofs.Common.{None}
use Rattle.std.proofs.Common.{option_map, option_and_then, position, slice_get}
use Rattle.std.proofs.lemmas.Option.{slice_get-map}
use Rattle.std.specs.Prelude.{if◌then◌else◌}
use Rattle.std.specs.List.{find}
use Rattle.cjc_classes.specs.ClassOrder.Classes.Numbers.{declared_at}
use Rattle.cjc_world.specs.ClassFile.declared.tree.ClassTree.{ClassTree}
use Rattle.cjc_world.specs.Classes.{Class, declared}
use Rattle.cjc_world.specs.Order.{class_order}
use Rattle.cjc_verify.specs.Pairs.{Pair, Described, class_at, described, is_method_at, method_at, starts, world}
use Rattle.cjc_verify.specs.Working.Methods.{facts, facts_of, is_at}
use Rattle.cjc_verify.specs.declared.methods.KnownMethod.{KnownMethod}

-- ---- methods

find_map : {A B : Type 0} (f : A → B) (test : B → Bool) (xs : List A) → find test (map f xs)
    ≡ option_map f (find (λ x. test (f x)) xs)
find_map f test [] = refl
find_map {A} {B} f test (x ∷ xs) = go (test (f x)) (find_map f test xs)
  where
    go : (t : Bool) → find test (map f xs) ≡ option_map f (find (λ x. test (f x)) xs)
        → (if t then Some (f x) else find test (map f xs))
        ≡ option_map f (if t then Some x else find (λ x. test (f x)) xs)
    go true e = refl
    go false e = e

-- the method at an offset
pub found_among : (p : Pair) (offset : ℕ) (methods : List KnownMethod) (o : Option KnownMethod) → methods ≡ facts p
    → o ≡ find (is_at offset) methods → o ≡ option_map (facts_of p) (method_at p offset)
found_among p offset methods o kept is =
    is
    ∙ ap (find (is_at offset)) kept
    ∙ find_map (facts_of p) (is_at offset) (described p)

-- ---- classes

unwrapped : (o y : Option Class) → option_map (λ (c : Class). Some c) o ≡ Some y → o ≡ y
unwrapped None y e = absurd cc
unwrapped (Some c) y e = cc

at_place : (xs : List Class) (trees : List ClassTree) (order : List ℕ) (k n : ℕ)
    → map (λ (c : Class). Some c) xs ≡ map (declared_at trees) order → Some n ≡ slice_get order k
    → slice_get xs k ≡ declared_at trees n
at_place xs trees order k n same is =
    unwrapped (slice_get xs k) (declared_at trees n) (sym (slice_get-map (λ (c : Class). Some c) xs k)
    ∙ ap (λ (os : List (Option Class)). slice_get os k) same
    ∙ slice_get-map (declared_at trees) order k
    ∙ sym (ap (option_map (declared_at trees)) is))

flags_of : (n : ℕ) (t : Option ClassTree) → option_map (λ (t : ClassTree). t.flags) t
    ≡ option_map (λ (c : Class). c.flags) (option_map (declared n) t)
flags_of n None = refl
flags_of n (Some t) = refl

-- the flags of the class at an offset
pub flags_found : (p : Pair) (trees : List ClassTree) (begin order : List ℕ) (offset place n : ℕ) (o : Option ℕ)
    → begin ≡ starts p → map (λ (c : Class). Some c) (class_order (world p)) ≡ map (declared_at trees) order
    → Some place ≡ position (λ at. at == offset) begin → Some n ≡ slice_get order place
    → o ≡ option_map (λ (t : ClassTree). t.flags) (slice_get trees n)
    → o ≡ option_map (λ (c : Class). c.flags) (class_at p offset)
flags_found p trees begin order offset place n o kept same here is flags =
    flags
    ∙ flags_of n (slice_get trees n)
    ∙ sym (ap (option_map (λ (c : Class). c.flags)) (at_place (class_order (world p)) trees order place n same is))
    ∙ ap (λ (k : Option ℕ). option_map (λ (c : Class). c.flags) (option_and_then (slice_get (class_order (world p))) k))
    (here ∙ ap (position (λ at. at == offset)) kept)
