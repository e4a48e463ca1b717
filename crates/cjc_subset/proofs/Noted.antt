-- Names that are noted once, one list after the other.
use Rattle.std.proofs.Common.{◌≡◌, ℕ, ◌<◌, ◌≤◌, ◌+◌, refl, sym, ap, ◌∙◌, arith, Bool, true, false, List, [], ◌∷◌}
use Rattle.std.proofs.Common.{◌++◌, length, get_or, drop}
use Rattle.std.specs.Prelude.{if◌then◌else◌}
use Rattle.std.specs.List.{flat_map, list_any}
use Rattle.std.specs.Str.{bytes_eq}
use Rattle.std.proofs.lemmas.Grind.{common_steps}
use Rattle.cjc_code.specs.ClassFile.declared.tree.ClassTree.{ClassTree}
use Rattle.cjc_world.specs.Classes.{Class}
use Rattle.cjc_subset.specs.Limits.{is_above, listed_above, noted}
use Rattle.cjc_bytes.proofs.Gets.{drop_next}

pub noted_append : (known xs ys : List (List ℕ)) → noted known (xs ++ ys) ≡ noted (noted known xs) ys
unfolding noted
noted_append known [] ys = refl
noted_append known (x ∷ xs) ys = noted_append (if list_any (λ y. bytes_eq y x) known then known else known
    ++ x ∷ []) xs ys

-- ---- name by name

pub name_on : (xs : List (List ℕ)) (i : ℕ) (x : List ℕ) → i < length xs → x ≡ get_or xs i x → (known : List (List ℕ))
    → noted known (drop i xs) ≡ noted (if list_any (λ y. bytes_eq y x) known then known else known
    ++ x ∷ []) (drop (i + 1) xs)
unfolding noted
name_on xs i x l is known = ap (noted known) (drop_next xs i x l is)

pub names_done : (xs known : List (List ℕ)) (i : ℕ) → length xs ≤ i → noted known (drop i xs) ≡ known
unfolding noted
names_done xs known i l = let e : drop i xs ≡ [] = grind (arith, common_steps) in ap (noted known) e

-- ---- list by list

module _ {A : Type 0} (f : A → List (List ℕ)) (xs : List A) (i : ℕ) (known : List (List ℕ)) where
  pub list_on : (x : A) → i < length xs → x ≡ get_or xs i x → noted known (flat_map f (drop i xs))
      ≡ noted (noted known (f x)) (flat_map f (drop (i + 1) xs))
  list_on x l is = ap (λ ys. noted known (flat_map f ys)) (drop_next xs i x l is)
      ∙ noted_append known (f x) (flat_map f (drop (i + 1) xs))

  pub lists_done : length xs ≤ i → noted known (flat_map f (drop i xs)) ≡ known
  unfolding noted
  lists_done l = let e : drop i xs ≡ [] = grind (arith, common_steps) in ap (λ ys. noted known (flat_map f ys)) e

-- ---- of a class above, and of another

module _ (w : List Class) (c : ClassTree) (d : Class) where
  pub listed_of_above : is_above w c d ≡ true → d.interfaces ≡ listed_above w c d
  listed_of_above e = sym (ap (λ (b : Bool). if b then d.interfaces else []) e)

  -- one that lists none adds none
  pub listed_of_none : length d.interfaces ≡ 0 → (known : List (List ℕ)) → known ≡ noted known (listed_above w c d)
  unfolding noted
  listed_of_none e known = by (is_above w c d) d.interfaces e
    where
      by : (b : Bool) (xs : List (List ℕ)) → length xs ≡ 0 → known ≡ noted known (if b then xs else [])
      by true [] e = refl
      by true (x ∷ xs) e = absurd (omega (arith, e))
      by false xs e = refl

  pub listed_of_other : is_above w c d ≡ false → (known : List (List ℕ)) → known ≡ noted known (listed_above w c d)
  unfolding noted
  listed_of_other e known = sym (ap (λ (b : Bool). noted known (if b then d.interfaces else [])) e)
