-- Lists that are alike, item by item, and when that is the same list.
use Rattle.std.proofs.Common.{◌≡◌, ℕ, ◌+◌, ◌<◌, ◌≤◌, refl, sym, ap, subst, ◌∙◌, arith, Bool, true, false, List, []}
use Rattle.std.proofs.Common.{◌∷◌, length, drop, get_or, add-one, drop-cons, Option, Some, None}
use Rattle.std.specs.Prelude.{ℤ, ◌&&◌, ◌==◌}
use Rattle.std.specs.Bool.{Decides}
use Rattle.std.specs.Ordering.{int_eq}
use Rattle.std.specs.Str.{bytes_eq}
use Rattle.std.proofs.lemmas.List.{drop_all}
use Rattle.std.proofs.lemmas.Slice.Eq.{bytes_eq-Decides}
use Rattle.std.proofs.lemmas.Bool.{and_parts, and_from}
use Rattle.std.proofs.lemmas.Bool.Decides.{Decides-and, Decides-eqb, Decides-int_eq, Decides-like}
use Rattle.cjc_group.specs.Trees.{are_alike, same, same_class, same_constant, same_field, same_method, same_names}
use Rattle.cjc_group.specs.Trees.{same_tree}
use Rattle.cjc_world.specs.ExportFile.declared.tree.ExportClass.{ExportClass}
use Rattle.cjc_world.specs.ExportFile.declared.tree.ExportField.{ExportField}
use Rattle.cjc_world.specs.ExportFile.declared.tree.ExportMethod.{ExportMethod}
use Rattle.cjc_world.specs.ExportFile.declared.tree.ExportTree.{ExportTree}
use Rattle.cjc_bytes.proofs.Lists.{name_is}
use Rattle.cjc_bytes.proofs.Numbers.{like_number}

-- ---- item by item

module _ {A : Type 0} (f : A → A → Bool) where
  -- one item of each list
  alike_at : (xs ys : List A) (i : ℕ) (x y : A) (b : Bool) → x ≡ get_or xs i x → y ≡ get_or ys i y → f x y ≡ b
      → f (get_or xs i x) (get_or ys i y) ≡ b
  alike_at xs ys i x y b is_x is_y one =
      subst (λ (z : A). f z (get_or ys i y) ≡ b) is_x (subst (λ (z : A). f x z ≡ b) is_y one)

  -- an item more is alike
  pub alike_next : (xs ys : List A) (i : ℕ) (x y : A) (all : Bool) → i < length xs → i < length ys
      → x ≡ get_or xs i x → y ≡ get_or ys i y → f x y ≡ true → are_alike f (drop i xs) (drop i ys) ≡ all
      → are_alike f (drop (i + 1) xs) (drop (i + 1) ys) ≡ all
  alike_next xs ys i x y all lt within is_x is_y one so_far =
      let here = alike_at xs ys i x y true is_x is_y one in
      let step : are_alike f (drop i xs) (drop i ys) ≡ are_alike f (drop (i + 1) xs) (drop (i + 1) ys) =
      rw (add-one, drop-cons xs i x lt, drop-cons ys i y within, here) refl in
      sym step ∙ so_far

  -- an item is not
  pub alike_breaks : (xs ys : List A) (i : ℕ) (x y : A) (all : Bool) → i < length xs → i < length ys
      → x ≡ get_or xs i x → y ≡ get_or ys i y → f x y ≡ false → are_alike f (drop i xs) (drop i ys) ≡ all
      → false ≡ all
  alike_breaks xs ys i x y all lt within is_x is_y one so_far =
      let here = alike_at xs ys i x y false is_x is_y one in
      let step : are_alike f (drop i xs) (drop i ys) ≡ false =
      rw (drop-cons xs i x lt, drop-cons ys i y within, here) refl in
      sym step ∙ so_far

  -- there is none any more
  pub alike_ends : (xs ys : List A) (i : ℕ) (all : Bool) → length xs ≤ i → length ys ≤ i
      → are_alike f (drop i xs) (drop i ys) ≡ all → true ≡ all
  alike_ends xs ys i all le le' so_far =
      let step : are_alike f (drop i xs) (drop i ys) ≡ true = rw (drop_all i xs le, drop_all i ys le') refl in
      sym step ∙ so_far

  -- there are not as many
  pub uneven : (xs ys : List A) → (length xs ≡ length ys → ⊥) → false ≡ are_alike f xs ys
  uneven [] [] other = absurd (other refl)
  uneven [] (y ∷ ys) other = refl
  uneven (x ∷ xs) [] other = refl
  uneven (x ∷ xs) (y ∷ ys) other = by (f x y) (are_alike f xs ys)
      (uneven xs ys (λ e. other (let h : length (x ∷ xs) ≡ length (y ∷ ys) = omega (arith, e) in h)))
    where
      by : (a b : Bool) → false ≡ b → false ≡ a && b
      by true b h = h
      by false b h = refl

  -- ---- alike is equal, where it is so for items

  pub alike-Decides : ((x y : A) → Decides (f x y) (x ≡ y)) → (xs ys : List A) → Decides (are_alike f xs ys) (xs ≡ ys)
  alike-Decides each [] [] = (λ e. refl, λ e. refl)
  alike-Decides each [] (y ∷ ys) = (λ e. absurd cc, λ e. absurd cc)
  alike-Decides each (x ∷ xs) [] = (λ e. absurd cc, λ e. absurd cc)
  alike-Decides each (x ∷ xs) (y ∷ ys) = Decides-like (f x y && are_alike f xs ys) both parts
      (Decides-and (f x y) (are_alike f xs ys) (each x y) (alike-Decides each xs ys))
    where
      both : (x ≡ y) × (xs ≡ ys) → x ∷ xs ≡ y ∷ ys
      both h = ap (λ (z : A). z ∷ xs) h.0 ∙ ap (λ (zs : List A). y ∷ zs) h.1

      parts : x ∷ xs ≡ y ∷ ys → (x ≡ y) × (xs ≡ ys)
      parts e = (cc, cc)

-- ---- the parts of an export file

same-Decides : (a b : Bool) → Decides (same a b) (a ≡ b)
same-Decides true true = (λ e. refl, λ e. refl)
same-Decides true false = (λ e. absurd cc, λ e. absurd cc)
same-Decides false true = (λ e. absurd cc, λ e. absurd cc)
same-Decides false false = (λ e. refl, λ e. refl)

constant-Decides : (a b : Option ℤ) → Decides (same_constant a b) (a ≡ b)
constant-Decides None None = (λ e. refl, λ e. refl)
constant-Decides None (Some y) = (λ e. absurd cc, λ e. absurd cc)
constant-Decides (Some x) None = (λ e. absurd cc, λ e. absurd cc)
constant-Decides (Some x) (Some y) = Decides-like (int_eq x y) (ap (λ (z : ℤ). Some z)) inner (Decides-int_eq x y)
  where
    inner : Some x ≡ Some y → x ≡ y
    inner e = cc

names-Decides : (xs ys : List (List ℕ)) → Decides (same_names xs ys) (xs ≡ ys)
names-Decides xs ys = alike-Decides bytes_eq bytes_eq-Decides xs ys

field_like_itself : (f : ExportField) → same_field f f ≡ true
field_like_itself f =
    let t0 = (f.token == f.token) in
    let t1 = (f.flags == f.flags) in
    let t2 = bytes_eq f.name f.name in
    let t3 = bytes_eq f.desc f.desc in
    let t4 = same_constant f.constant f.constant in
    let e1 = and_from t0 t1 (like_number f.token) (like_number f.flags) in
    let e2 = and_from (t0 && t1) t2 e1 (name_is f.name) in
    let e3 = and_from (t0 && t1 && t2) t3 e2 (name_is f.desc) in
    let e4 = and_from (t0 && t1 && t2 && t3) t4 e3 ((constant-Decides f.constant f.constant).1 refl) in
    e4

field_is_one : (f g : ExportField) → same_field f g ≡ true → f ≡ g
field_is_one f g e =
    let t0 = (f.token == g.token) in
    let t1 = (f.flags == g.flags) in
    let t2 = bytes_eq f.name g.name in
    let t3 = bytes_eq f.desc g.desc in
    let t4 = same_constant f.constant g.constant in
    let p4 = and_parts (t0 && t1 && t2 && t3) t4 e in
    let p3 = and_parts (t0 && t1 && t2) t3 p4.0 in
    let p2 = and_parts (t0 && t1) t2 p3.0 in
    let p1 = and_parts t0 t1 p2.0 in
    λ i. record {
      token = (Decides-eqb f.token g.token).0 p1.0 i;
      flags = (Decides-eqb f.flags g.flags).0 p1.1 i;
      name = (bytes_eq-Decides f.name g.name).0 p2.1 i;
      desc = (bytes_eq-Decides f.desc g.desc).0 p3.1 i;
      constant = (constant-Decides f.constant g.constant).0 p4.1 i;
    }

field-Decides : (f g : ExportField) → Decides (same_field f g) (f ≡ g)
field-Decides f g = (
  field_is_one f g,
  λ e. subst (λ (z : ExportField). same_field f z ≡ true) e (field_like_itself f),
)

method_like_itself : (m : ExportMethod) → same_method m m ≡ true
method_like_itself m =
    let t0 = (m.token == m.token) in
    let t1 = (m.flags == m.flags) in
    let t2 = bytes_eq m.name m.name in
    let t3 = bytes_eq m.desc m.desc in
    let e1 = and_from t0 t1 (like_number m.token) (like_number m.flags) in
    let e2 = and_from (t0 && t1) t2 e1 (name_is m.name) in
    let e3 = and_from (t0 && t1 && t2) t3 e2 (name_is m.desc) in
    e3

method_is_one : (m n : ExportMethod) → same_method m n ≡ true → m ≡ n
method_is_one m n e =
    let t0 = (m.token == n.token) in
    let t1 = (m.flags == n.flags) in
    let t2 = bytes_eq m.name n.name in
    let t3 = bytes_eq m.desc n.desc in
    let p3 = and_parts (t0 && t1 && t2) t3 e in
    let p2 = and_parts (t0 && t1) t2 p3.0 in
    let p1 = and_parts t0 t1 p2.0 in
    λ i. record {
      token = (Decides-eqb m.token n.token).0 p1.0 i;
      flags = (Decides-eqb m.flags n.flags).0 p1.1 i;
      name = (bytes_eq-Decides m.name n.name).0 p2.1 i;
      desc = (bytes_eq-Decides m.desc n.desc).0 p3.1 i;
    }

method-Decides : (m n : ExportMethod) → Decides (same_method m n) (m ≡ n)
method-Decides m n = (
  method_is_one m n,
  λ e. subst (λ (z : ExportMethod). same_method m z ≡ true) e (method_like_itself m),
)

class_like_itself : (c : ExportClass) → same_class c c ≡ true
class_like_itself c =
    let t0 = (c.token == c.token) in
    let t1 = (c.flags == c.flags) in
    let t2 = bytes_eq c.name c.name in
    let t3 = same_names c.listed c.listed in
    let t4 = same_names c.supers c.supers in
    let t5 = same_names c.interfaces c.interfaces in
    let t6 = are_alike same_field c.fields c.fields in
    let t7 = are_alike same_method c.methods c.methods in
    let e1 = and_from t0 t1 (like_number c.token) (like_number c.flags) in
    let e2 = and_from (t0 && t1) t2 e1 (name_is c.name) in
    let e3 = and_from (t0 && t1 && t2) t3 e2 ((names-Decides c.listed c.listed).1 refl) in
    let e4 = and_from (t0 && t1 && t2 && t3) t4 e3 ((names-Decides c.supers c.supers).1 refl) in
    let e5 = and_from (t0 && t1 && t2 && t3 && t4) t5 e4 ((names-Decides c.interfaces c.interfaces).1 refl) in
    let e6 = and_from (t0 && t1 && t2 && t3 && t4 && t5) t6 e5
    ((alike-Decides same_field field-Decides c.fields c.fields).1 refl) in
    let e7 = and_from (t0 && t1 && t2 && t3 && t4 && t5 && t6) t7 e6
    ((alike-Decides same_method method-Decides c.methods c.methods).1 refl) in
    e7

class_is_one : (c d : ExportClass) → same_class c d ≡ true → c ≡ d
class_is_one c d e =
    let t0 = (c.token == d.token) in
    let t1 = (c.flags == d.flags) in
    let t2 = bytes_eq c.name d.name in
    let t3 = same_names c.listed d.listed in
    let t4 = same_names c.supers d.supers in
    let t5 = same_names c.interfaces d.interfaces in
    let t6 = are_alike same_field c.fields d.fields in
    let t7 = are_alike same_method c.methods d.methods in
    let p7 = and_parts (t0 && t1 && t2 && t3 && t4 && t5 && t6) t7 e in
    let p6 = and_parts (t0 && t1 && t2 && t3 && t4 && t5) t6 p7.0 in
    let p5 = and_parts (t0 && t1 && t2 && t3 && t4) t5 p6.0 in
    let p4 = and_parts (t0 && t1 && t2 && t3) t4 p5.0 in
    let p3 = and_parts (t0 && t1 && t2) t3 p4.0 in
    let p2 = and_parts (t0 && t1) t2 p3.0 in
    let p1 = and_parts t0 t1 p2.0 in
    λ i. record {
      token = (Decides-eqb c.token d.token).0 p1.0 i;
      flags = (Decides-eqb c.flags d.flags).0 p1.1 i;
      name = (bytes_eq-Decides c.name d.name).0 p2.1 i;
      listed = (names-Decides c.listed d.listed).0 p3.1 i;
      supers = (names-Decides c.supers d.supers).0 p4.1 i;
      interfaces = (names-Decides c.interfaces d.interfaces).0 p5.1 i;
      fields = (alike-Decides same_field field-Decides c.fields d.fields).0 p6.1 i;
      methods = (alike-Decides same_method method-Decides c.methods d.methods).0 p7.1 i;
    }

class-Decides : (c d : ExportClass) → Decides (same_class c d) (c ≡ d)
class-Decides c d = (
  class_is_one c d,
  λ e. subst (λ (z : ExportClass). same_class c z ≡ true) e (class_like_itself c),
)

tree_like_itself : (t : ExportTree) → same_tree t t ≡ true
tree_like_itself t =
    let t0 = bytes_eq t.name t.name in
    let t1 = bytes_eq t.aid t.aid in
    let t2 = (t.major == t.major) in
    let t3 = (t.minor == t.minor) in
    let t4 = same t.library t.library in
    let t5 = are_alike same_class t.classes t.classes in
    let e1 = and_from t0 t1 (name_is t.name) (name_is t.aid) in
    let e2 = and_from (t0 && t1) t2 e1 (like_number t.major) in
    let e3 = and_from (t0 && t1 && t2) t3 e2 (like_number t.minor) in
    let e4 = and_from (t0 && t1 && t2 && t3) t4 e3 ((same-Decides t.library t.library).1 refl) in
    let e5 = and_from (t0 && t1 && t2 && t3 && t4) t5 e4
    ((alike-Decides same_class class-Decides t.classes t.classes).1 refl) in
    e5

tree_is_one : (t u : ExportTree) → same_tree t u ≡ true → t ≡ u
tree_is_one t u e =
    let t0 = bytes_eq t.name u.name in
    let t1 = bytes_eq t.aid u.aid in
    let t2 = (t.major == u.major) in
    let t3 = (t.minor == u.minor) in
    let t4 = same t.library u.library in
    let t5 = are_alike same_class t.classes u.classes in
    let p5 = and_parts (t0 && t1 && t2 && t3 && t4) t5 e in
    let p4 = and_parts (t0 && t1 && t2 && t3) t4 p5.0 in
    let p3 = and_parts (t0 && t1 && t2) t3 p4.0 in
    let p2 = and_parts (t0 && t1) t2 p3.0 in
    let p1 = and_parts t0 t1 p2.0 in
    λ i. record {
      name = (bytes_eq-Decides t.name u.name).0 p1.0 i;
      aid = (bytes_eq-Decides t.aid u.aid).0 p1.1 i;
      major = (Decides-eqb t.major u.major).0 p2.1 i;
      minor = (Decides-eqb t.minor u.minor).0 p3.1 i;
      library = (same-Decides t.library u.library).0 p4.1 i;
      classes = (alike-Decides same_class class-Decides t.classes u.classes).0 p5.1 i;
    }

-- Export files that say the same have one tree.
pub tree-Decides : (t u : ExportTree) → Decides (same_tree t u) (t ≡ u)
tree-Decides t u = (
  tree_is_one t u,
  λ e. subst (λ (z : ExportTree). same_tree t z ≡ true) e (tree_like_itself t),
)
