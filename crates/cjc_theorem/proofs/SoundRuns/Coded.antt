-- The methods of class files that have code, as the machine by name has them: whether a method is one of them is
-- decided.
use Rattle.std.proofs.Common.{◌≡◌, ◌⊎◌, ℕ, zero, suc, refl, sym, ap, ◌∙◌, Bool, true, false, List, [], ◌∷◌, ◌++◌}
use Rattle.std.proofs.Common.{⊎_elim}
use Rattle.std.specs.Prelude.{◌||◌, Option, Some, None, slice_get}
use Rattle.std.specs.List.{list_any}
use Rattle.std.proofs.lemmas.List.Folds.{list_any-append}
use Rattle.std.proofs.lemmas.Bool.{or_left, or_right}
use Rattle.cjc_jvm_semantics.specs.Linked.{Method}
use Rattle.cjc_jvm_semantics.specs.OnePackage.{method_by}
use Rattle.cjc_world.specs.ClassFile.Code.{CodeTree}
use Rattle.cjc_world.specs.ClassFile.declared.tree.ClassTree.{ClassTree}
use Rattle.cjc_world.specs.ClassFile.declared.tree.MethodTree.{MethodTree}
use Rattle.cjc_theorem.proofs.SoundRuns.Same.{method_decides, same_method}
use Rattle.cjc_bytes.proofs.Bools.{or_cases}

-- one with this code
with_code : ClassTree → MethodTree → Option CodeTree → List Method
with_code c m None = []
with_code c m (Some tree) = method_by c m (Some tree) ∷ []

of_class : ClassTree → List MethodTree → List Method
of_class c [] = []
of_class c (m ∷ ms) = with_code c m m.code ++ of_class c ms

pub of_classes : List ClassTree → List Method
of_classes [] = []
of_classes (c ∷ cs) = of_class c c.methods ++ of_classes cs

-- whether a method is one of these
pub is_among : Method → List Method → Bool
is_among x ms = list_any (same_method x) ms

-- One of a class file.
pub record IsCoded (classes : List ClassTree) (x : Method) : Type 0 where
  pub number : ℕ
  pub place : ℕ
  pub class : ClassTree
  pub method : MethodTree
  pub tree : CodeTree
  pub is_class : slice_get classes number ≡ Some class
  pub is_method : slice_get class.methods place ≡ Some method
  pub is_code : method.code ≡ Some tree
  pub is : x ≡ method_by class method (Some tree)

-- One of a class.
record IsHere (class : ClassTree) (ms : List MethodTree) (x : Method) : Type 0 where
  place : ℕ
  method : MethodTree
  tree : CodeTree
  is_method : slice_get ms place ≡ Some method
  is_code : method.code ≡ Some tree
  is : x ≡ method_by class method (Some tree)

module _ (x : Method) where
  split : (xs ys : List Method) → is_among x (xs ++ ys) ≡ true → (is_among x xs ≡ true) ⊎ (is_among x ys ≡ true)
  unfolding is_among
  split xs ys e = or_cases (list_any (same_method x) xs) (list_any (same_method x) ys)
      (sym (list_any-append (same_method x) xs ys) ∙ e)

  left : (xs ys : List Method) → is_among x xs ≡ true → is_among x (xs ++ ys) ≡ true
  unfolding is_among
  left xs ys e = list_any-append (same_method x) xs ys ∙ or_left (list_any (same_method x) xs)
      (list_any (same_method x) ys) e

  right : (xs ys : List Method) → is_among x ys ≡ true → is_among x (xs ++ ys) ≡ true
  unfolding is_among
  right xs ys e = list_any-append (same_method x) xs ys ∙ or_right (list_any (same_method x) xs) (list_any
      (same_method x)
      ys) e

  one : (y : Method) → is_among x (y ∷ []) ≡ true → x ≡ y
  unfolding is_among
  one y e = by (same_method x y) refl e
    where
      by : (b : Bool) → same_method x y ≡ b → (b || false) ≡ true → x ≡ y
      by true f e = (method_decides x y).0 f
      by false f e = absurd cc

  this : (y : Method) → x ≡ y → is_among x (y ∷ []) ≡ true
  unfolding is_among
  this y e = or_left (same_method x y) false ((method_decides x y).1 e)

  here : (c : ClassTree) (ms : List MethodTree) → is_among x (of_class c ms) ≡ true → IsHere c ms x
  unfolding of_class with_code is_among
  here c [] e = no e
    where
      no : is_among x [] ≡ true → IsHere c [] x
      no e = absurd cc
  here c (m ∷ ms) e = ⊎_elim (λ first. by m.code refl first) (λ rest. (let r = here c ms rest
      in record {
        place = suc r.place;
        method = r.method;
        tree = r.tree;
        is_method = r.is_method;
        is_code = r.is_code;
        is = r.is;
      })) (split (with_code c m m.code) (of_class c ms) e)
    where
      by : (o : Option CodeTree) → m.code ≡ o → is_among x (with_code c m o) ≡ true → IsHere c (m ∷ ms) x
      by None f g = absurd cc
      by (Some tree) f g = record {
        place = 0;
        method = m;
        tree = tree;
        is_method = refl;
        is_code = f;
        is = one (method_by c m (Some tree)) g;
      }

  pub coded : (cs : List ClassTree) → is_among x (of_classes cs) ≡ true → IsCoded cs x
  unfolding of_classes is_among
  coded [] e = no e
    where
      no : is_among x [] ≡ true → IsCoded [] x
      no e = absurd cc
  coded (c ∷ cs) e = ⊎_elim
      (λ first. (let h = here c c.methods first in record {
        number = 0;
        place = h.place;
        class = c;
        method = h.method;
        tree = h.tree;
        is_class = refl;
        is_method = h.is_method;
        is_code = h.is_code;
        is = h.is;
      }))
      (λ rest. (let r = coded cs rest in record {
        number = suc r.number;
        place = r.place;
        class = r.class;
        method = r.method;
        tree = r.tree;
        is_class = r.is_class;
        is_method = r.is_method;
        is_code = r.is_code;
        is = r.is;
      }))
      (split (of_class c c.methods) (of_classes cs) e)

  in_class : (c : ClassTree) (ms : List MethodTree) (i : ℕ) (m : MethodTree) (tree : CodeTree) → slice_get ms i ≡ Some m
      → m.code ≡ Some tree → x ≡ method_by c m (Some tree) → is_among x (of_class c ms) ≡ true
  unfolding of_class with_code
  in_class c [] i m tree e f g = absurd cc
  in_class c (k ∷ ms) zero m tree e f g =
      let same : k ≡ m = cc in
      let code : k.code ≡ Some tree = ap (λ (v : MethodTree). v.code) same ∙ f in
      left (with_code c k k.code) (of_class c ms) (ap (λ o. is_among x (with_code c k o)) code
      ∙ this (method_by c k (Some tree)) (g ∙ ap (λ v. method_by c v (Some tree)) (sym same)))
  in_class c (k ∷ ms) (suc i) m tree e f g = right (with_code c k k.code) (of_class c ms) (in_class c ms i m tree e f g)

  pub among : (cs : List ClassTree) (n i : ℕ) (c : ClassTree) (m : MethodTree) (tree : CodeTree)
      → slice_get cs n ≡ Some c → slice_get c.methods i ≡ Some m → m.code ≡ Some tree → x ≡ method_by c m (Some tree)
      → is_among x (of_classes cs) ≡ true
  unfolding of_classes
  among [] n i c m tree d e f g = absurd cc
  among (k ∷ cs) zero i c m tree d e f g =
      let same : k ≡ c = cc in
      left (of_class k k.methods) (of_classes cs) (in_class k k.methods i m tree
      (ap (λ (v : ClassTree). slice_get v.methods i) same ∙ e) f (g
      ∙ ap (λ v. method_by v m (Some tree)) (sym same)))
  among (k ∷ cs) (suc n) i c m tree d e f g = right (of_class k k.methods) (of_classes cs) (among cs n i c m tree d e f
      g)
