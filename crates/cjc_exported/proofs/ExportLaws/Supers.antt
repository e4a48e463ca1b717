-- A class has no more supers than the pool of the export file has entries: each stands there once.
use Rattle.std.proofs.Common.{◌≡◌, ℕ, zero, suc, ◌≤◌, refl, sym, ap, subst, ◌∙◌, Bool, true, false, List, [], ◌∷◌, ◌++◌}
use Rattle.std.proofs.Common.{map, length, append_assoc, arith, Some}
use Rattle.std.specs.Prelude.{◌||◌, slice_get, if◌then◌else◌}
use Rattle.std.specs.List.{AllByRecursion, flat_map, list_any}
use Rattle.std.specs.Str.{bytes_eq}
use Rattle.std.proofs.lemmas.List.{length-map, map-append}
use Rattle.indexmap.specs.IndexSet.{insert_all, insert_key}
use Rattle.cjc_world.specs.ExportFile.declared.tree.ExportClass.{ExportClass}
use Rattle.cjc_world.specs.ExportFile.declared.tree.ExportTree.{ExportTree}
use Rattle.cjc_world.specs.ExportFile.Constant.{Constant, class, same}
use Rattle.cjc_world.specs.ExportFile.Supers.{is_one_of}
use Rattle.cjc_world.specs.ExportFile.Written.{class_needs, class_tree_needs, constants, field_needs, method_needs}
use Rattle.cjc_world.specs.ExportFile.Written.{needs}
use Rattle.cjc_world.proofs.ExportFileNumbering.{Has, all_back, all_front, all_in}
use Rattle.cjc_world.proofs.ExportFileWorth.{total, worth_at_most}
use Rattle.cjc_components.specs.LowerClassOrder.Supers.Supers.{each_once}
use Rattle.cjc_world.proofs.BytesLists.{bytes_sym}

-- ---- names of their own

not_seen : (seen : List (List ℕ)) (x : List ℕ) → is_one_of seen x ≡ false → list_any (same (class x)) (map class seen)
    ≡ false
not_seen [] x e = refl
not_seen (y ∷ seen) x e = by (bytes_eq y x) (bytes_eq x y) (λ f. bytes_sym x y f) refl e (not_seen seen x)
  where
    by : (a b : Bool) → (bytes_eq x y ≡ true → bytes_eq y x ≡ true) → bytes_eq y x ≡ a → (a || is_one_of seen x) ≡ false
        → (is_one_of seen x ≡ false → list_any (same (class x)) (map class seen) ≡ false)
        → (bytes_eq x y || list_any (same (class x)) (map class seen)) ≡ false
    by a b k f g rest = both a g (bytes_eq x y) refl
      where
        both : (a : Bool) → (a || is_one_of seen x) ≡ false → (b : Bool) → bytes_eq x y ≡ b
            → (b || list_any (same (class x)) (map class seen)) ≡ false
        both true g b h = cc
        both false g true h = absurd (let t = k h in clash (bytes_eq y x) t (first (bytes_eq y x) (is_one_of seen x) e))
          where
            first : (a b : Bool) → (a || b) ≡ false → a ≡ false
            first true b e = cc
            first false b e = refl

            clash : (a : Bool) → a ≡ true → a ≡ false → ⊥
            clash true e f = cc
            clash false e f = cc
        both false g false h = rest g

-- each stands once, so all are put
all_new : (seen xs : List (List ℕ)) → insert_all same (map class seen) (map class (each_once seen xs)) ≡ map class seen
    ++ map class (each_once seen xs)
all_new seen [] = sym (nothing (map class seen))
  where
    nothing : (cs : List Constant) → cs ++ [] ≡ cs
    nothing [] = refl
    nothing (c ∷ cs) = ap (λ ds. c ∷ ds) (nothing cs)
all_new seen (x ∷ xs) = by (is_one_of seen x) refl (all_new seen xs) (all_new (seen ++ x ∷ []) xs)
  where
    by : (b : Bool) → is_one_of seen x ≡ b → insert_all same (map class seen) (map class (each_once seen xs))
        ≡ map class seen ++ map class (each_once seen xs)
        → insert_all same (map class (seen ++ x ∷ [])) (map class (each_once (seen ++ x ∷ []) xs)) ≡ map class (seen
        ++ x ∷ []) ++ map class (each_once (seen ++ x ∷ []) xs)
        → insert_all same (map class seen) (map class (if b then each_once seen xs else x ∷ each_once (seen
        ++ x ∷ []) xs)) ≡ map class seen ++ map class (if b then each_once seen xs else x ∷ each_once (seen
        ++ x ∷ []) xs)
    by true e old new = old
    by false e old new =
        let rest = map class (each_once (seen ++ x ∷ []) xs) in
        let put : insert_key same (map class seen) (class x) ≡ map class seen ++ class x ∷ [] =
        ap (λ b. if b then map class seen else map class seen ++ class x ∷ []) (not_seen seen x e) in
        let grown : map class (seen ++ x ∷ []) ≡ map class seen ++ class x ∷ [] = map-append class seen (x ∷ []) in
        ap (λ ks. insert_all same ks rest) (put ∙ sym grown) ∙ new ∙ ap (λ ks. ks ++ rest) grown
        ∙ append_assoc (map class seen) (class x ∷ []) rest

-- ---- the pool

abbrev ones : Constant → ℕ
ones c = 1

total_ones : (cs : List Constant) → total ones cs ≡ length cs
total_ones [] = refl
total_ones (c ∷ cs) = let rest = total_ones cs in omega (arith, rest)

classes_in : (pool : List Constant) (names : List (List ℕ)) → AllByRecursion (Has pool) (flat_map class_needs names)
    → AllByRecursion (Has pool) (map class names)
classes_in pool [] h = tt
classes_in pool (x ∷ names) h = let rest = all_back (Has pool) (class_needs x) (flat_map class_needs names) h
    in (
      let front = all_front (Has pool) (class_needs x) (flat_map class_needs names) h in front.1.0,
      classes_in pool names rest,
    )

of_class : (pool : List Constant) (cs : List ExportClass) (k : ℕ) (c : ExportClass)
    → AllByRecursion (Has pool) (flat_map class_tree_needs cs) → slice_get cs k ≡ Some c
    → AllByRecursion (Has pool) (class_tree_needs c)
of_class pool [] k c h e = cc
of_class pool (x ∷ cs) zero c h e = let is : x ≡ c = cc
    in subst (λ (y : ExportClass). AllByRecursion (Has pool) (class_tree_needs y)) is
    (all_front (Has pool) (class_tree_needs x) (flat_map class_tree_needs cs) h)
of_class pool (x ∷ cs) (suc k) c h e = of_class pool cs k c (all_back (Has pool) (class_tree_needs x)
    (flat_map class_tree_needs cs) h) e

supers_in : (t : ExportTree) (k : ℕ) (c : ExportClass) → slice_get t.classes k ≡ Some c
    → AllByRecursion (Has (constants t)) (map class c.listed)
unfolding needs class_tree_needs
supers_in t k c e =
    let all = all_in [] (needs t) in
    let one = of_class (constants t) t.classes k c all.1.1 e in
    let rest = flat_map class_needs c.listed ++ (flat_map class_needs c.interfaces ++ (flat_map field_needs c.fields
    ++ flat_map method_needs c.methods)) in
    let behind = all_back (Has (constants t)) (class_needs c.name) rest one in
    classes_in (constants t) c.listed (all_front (Has (constants t)) (flat_map class_needs c.listed)
    (flat_map class_needs c.interfaces ++ (flat_map field_needs c.fields ++ flat_map method_needs c.methods))
    behind)

-- names that stand once each
pub few_supers : (t : ExportTree) (k : ℕ) (c : ExportClass) (names : List (List ℕ)) → slice_get t.classes k ≡ Some c
    → c.listed ≡ each_once [] names → length c.listed ≤ length (constants t)
few_supers t k c names e is =
    let worth = worth_at_most ones (constants t) (map class c.listed) (supers_in t k c e) in
    let own : insert_all same [] (map class c.listed) ≡ map class c.listed =
    ap (λ xs. insert_all same [] (map class xs)) is ∙ all_new [] names ∙ ap (map class) (sym is) in
    let counted : total ones (insert_all same [] (map class c.listed)) ≡ length c.listed = ap (total ones) own
    ∙ total_ones (map class c.listed) ∙ length-map c.listed class in
    let pool = total_ones (constants t) in
    omega (arith, worth, counted, pool)
