-- What holds of each break of a list.
use Rattle.std.proofs.Common.{◌≡◌, ℕ, suc, ◌+◌, Bool, true, false, List, [], ◌∷◌, ◌++◌, Option, Some, None, refl, subst}
use Rattle.std.proofs.Common.{arith}
use Rattle.std.specs.Prelude.{map, slice_get}
use Rattle.cjc_bytes.specs.Breaks.{Break, Among, foremost, after, RulePlace, at, broken_at, each_from}
use Rattle.cjc_bytes.specs.Order.{FilePlace, file_of}
use Rattle.cjc_world.specs.ClassFile.declared.tree.ClassTree.{ClassTree}
use Rattle.cjc_world.specs.ClassFile.declared.tree.MethodTree.{MethodTree}
use Rattle.cjc_clinit.specs.Subset.Places.{of_method, of_class, of_code}
use Rattle.cjc_world.specs.Files.{Files}

pub record Each (P : Break → Type 0) (bs : List Break) : Type 0 where
  pub holds : (b : Break) → Among b bs → P b

module _ (P : Break → Type 0) where
  pub each_none : Each P []
  each_none = record { holds = λ b i. elim i [ ] }

  pub each_more : (x : Break) (xs : List Break) → P x → Each P xs → Each P (x ∷ xs)
  each_more x xs first rest = record { holds = by }
    where
      by : (b : Break) → Among b (x ∷ xs) → P b
      by b foremost = first
      by b (after i) = rest.holds b i

  pub each_append : (xs ys : List Break) → Each P xs → Each P ys → Each P (xs ++ ys)
  each_append [] ys p q = q
  each_append (x ∷ xs) ys p q = each_more x (xs ++ ys) (p.holds x foremost)
      (each_append xs ys (record { holds = λ b i. p.holds b (after i) }) q)

  pub each_at : (broken : Bool) (s : RulePlace) (rule : ℕ) → P (broken_at s rule) → Each P (at broken s rule)
  each_at true s rule p = each_more _ [] p each_none
  each_at false s rule p = each_none

  pub each_map : (at : ℕ → Break) (rules : List ℕ) → ((rule : ℕ) → P (at rule)) → Each P (map at rules)
  each_map at [] p = each_none
  each_map at (rule ∷ rules) p = each_more (at rule) (map at rules) (p rule) (each_map at rules p)

  pub each_item : {A : Type 0} (f : ℕ → A → List Break) (n : ℕ) (xs : List A)
      → ((i : ℕ) (x : A) → slice_get xs i ≡ Some x → Each P (f (n + i) x)) → Each P (each_from f n xs)
  unfolding each_from
  each_item f n [] each = each_none
  each_item f n (x ∷ xs) each =
      each_append (f n x) (each_from f (n + 1) xs)
      (subst (λ (k : ℕ). Each P (f k x)) (let e : n + 0 ≡ n = omega arith in e) (each 0 x refl))
      (each_item f (n + 1) xs (λ i y is. subst (λ (k : ℕ). Each P (f k y)) (let e : n + suc i ≡ n + 1 + i = omega arith
      in e) (each (suc i) y is)))

  -- from the first item on
  pub each_of : {A : Type 0} (f : ℕ → A → List Break) (xs : List A) → ((i : ℕ) (x : A) → slice_get xs i ≡ Some x
      → Each P (f i x)) → Each P (each_from f 0 xs)
  each_of f xs each = each_item f 0 xs (λ i x is. subst (λ (k : ℕ). Each P (f k x)) (let e : i ≡ 0 + i = omega arith
      in e) (each i x is))

  -- of a method by the numbers of its class and of itself
  pub each_code : (files : Files) (class method : ℕ) (breaks : FilePlace → ClassTree → MethodTree → List Break)
      → ((c : ClassTree) (m : MethodTree) → slice_get files.classes class ≡ Some c → slice_get c.methods method ≡ Some m
      → Each P (breaks (file_of files.lines class) c m))
      → Each P (of_code files class method breaks)
  each_code files class method breaks each = by_class (slice_get files.classes class) each
    where
      by_method : (c : ClassTree) (o : Option MethodTree) → ((m : MethodTree) → o ≡ Some m
          → Each P (breaks (file_of files.lines class) c m)) → Each P (of_method breaks (file_of files.lines class) c o)
      by_method c None each = each_none
      by_method c (Some m) each = each m refl

      by_class : (o : Option ClassTree) → ((c : ClassTree) (m : MethodTree) → o ≡ Some c → slice_get c.methods method
          ≡ Some m → Each P (breaks (file_of files.lines class) c m))
          → Each P (of_class breaks (file_of files.lines class) method o)
      by_class None each = each_none
      by_class (Some c) each = by_method c (slice_get c.methods method) (λ m is. each c m refl is)
