-- 203 of added methods, by the rows that are there: a class is ready exactly where no cycle is at it or above it.
use Rattle.std.proofs.Common.{◌≡◌, ℕ, zero, suc, ◌<◌, refl, sym, ap, subst, ◌∙◌, inl, inr, ⊎_elim, arith, Bool, true}
use Rattle.std.proofs.Common.{false, List, [], ◌∷◌, ◌++◌, length, get_or}
use Rattle.std.specs.Prelude.{not, ◌&&◌, ◌||◌, ◌⊎◌, if◌then◌else◌, Option, Some, None, slice_get}
use Rattle.std.specs.List.{list_any, list_all}
use Rattle.std.proofs.lemmas.Option.{slice_get_within}
use Rattle.std.specs.Str.{bytes_eq}
use Rattle.cjc_bytes.specs.declared.fault.MemberId.{MemberId}
use Rattle.cjc_bytes.proofs.Bools.{both_front, both_back}
use Rattle.cjc_bytes.proofs.Quantified.{any_of_map}
use Rattle.cjc_classfile.specs.declared.tree.ClassTree.{ClassTree}
use Rattle.cjc_export.specs.declared.tree.ExportClass.{ExportClass}
use Rattle.cjc_world.specs.declared.circular.Cycles.{Cycles}
use Rattle.cjc_world.specs.declared.unchecked.Tables.{Tables}
use Rattle.cjc_world.specs.declared.tables.Above.{Above as Row}
use Rattle.cjc_world.specs.Files.{Files}
use Rattle.cjc_world.specs.Classes.{Class, class_named, declared, imported, all_classes}
use Rattle.cjc_world.specs.Supertypes.{End, Lists, foremost, after, Above, IsAcyclic, supertypes_within, supertypes}
use Rattle.cjc_world.specs.Supertypes.{stands, stands_above}
use Rattle.cjc_world.specs.Added.{added, added_at, named_by}
use Rattle.cjc_world.specs.Working.Unchecked.{AreTables, IsKept, is_ready_of, is_number_ready}
use Rattle.cjc_world.specs.Working.Places.{place_named}
use Rattle.cjc_world.specs.Working.Tables.{is_row, is_ready_at, is_ready, are_ready, IsClear, IsPart}
use Rattle.cjc_world.specs.Rules.{is_own_super, is_under_cycle, is_desc_missing, gets_missing}
use Rattle.cjc_world.proofs.Cycles.{class_named-name, above-class, stands_where_above, tree-above, From}
use Rattle.cjc_world.proofs.Settled.{lists-front, lists-behind}
use Rattle.cjc_world.proofs.Rising.{stands-row}
use Rattle.cjc_world.proofs.Subtypes.{reaches}
use Rattle.cjc_world.proofs.ByPlace.{place-none}
use Rattle.cjc_world.proofs.Trees.{tree-clear, lists-split}
use Rattle.cjc_world.proofs.Filling.{all-listed}
use Rattle.cjc_world.proofs.Indexing.{got_some}
use Rattle.cjc_world.proofs.Adding.{added-here, table-of, table-ready}

module _ (w : List Class) where
  pub none-above : IsAcyclic w → (x : List ℕ) → false ≡ stands_above w x x
  none-above acyclic x = by (stands_above w x x) refl
    where
      by : (b : Bool) → stands_above w x x ≡ b → false ≡ b
      by true e = absurd (acyclic x ((stands_where_above w x x).0 e))
      by false e = refl

  pub named-none : (p : Class → Bool) (cs : List Class) (x : List ℕ) (c : Class) → class_named cs x ≡ Some c
      → list_any p cs ≡ false → p c ≡ false
  unfolding class_named
  named-none p [] x c e none = cc
  named-none p (d ∷ cs) x c e none = by (bytes_eq d.name x) (p d) refl e none (named-none p cs x c)
    where
      by : (b t : Bool) → p d ≡ t → (if b then Some d else class_named cs x) ≡ Some c → (t || list_any p cs) ≡ false
          → (class_named cs x ≡ Some c → list_any p cs ≡ false → p c ≡ false) → p c ≡ false
      by b true f e none rest = cc
      by true false f e none rest = let is : d ≡ c = cc in ap p (sym is) ∙ f
      by false false f e none rest = rest e none

  any-there : (p : Class → Bool) (cs : List Class) → list_any p cs ≡ true → (d : Class) × (p d ≡ true)
  any-there p [] e = cc
  any-there p (d ∷ cs) e = by (p d) refl e (any-there p cs)
    where
      by : (b : Bool) → p d ≡ b → (b || list_any p cs) ≡ true → (list_any p cs ≡ true → (d : Class) × (p d ≡ true))
          → (d : Class) × (p d ≡ true)
      by true f e rest = (d, f)
      by false f e rest = rest e

  and-left : (a b : Bool) → (a && b) ≡ true → a ≡ true
  and-left true b e = refl
  and-left false b e = cc

  and-right : (a b : Bool) → (a && b) ≡ true → b ≡ true
  and-right true b e = e
  and-right false b e = cc

  and-both : (a b : Bool) → a ≡ true → b ≡ true → (a && b) ≡ true
  and-both true b e f = f
  and-both false b e f = cc

  -- ---- what stands above a listed name stands in the tree of the list

  or-here : (a b : Bool) → a ≡ true → (a || b) ≡ true
  or-here true b e = refl
  or-here false b e = cc

  or-there : (a b : Bool) → b ≡ true → (a || b) ≡ true
  or-there true b e = refl
  or-there false b e = e

  listed-stands : (v y : List ℕ) (xs : List (List ℕ)) → Lists y xs → stands v (supertypes w (y ∷ [])) ≡ true
      → stands v (supertypes w xs) ≡ true
  unfolding supertypes
  listed-stands v y [] i e = elim i [ ]
  listed-stands v y (x ∷ xs) foremost e = stands-row w v (suc (length w)) y xs
      ∙ or-here (stands v (supertypes w (y ∷ []))) (stands v (supertypes w xs)) e
  listed-stands v y (x ∷ xs) (after i) e = stands-row w v (suc (length w)) x xs
      ∙ or-there (stands v (supertypes w (x ∷ []))) (stands v (supertypes w xs)) (listed-stands v y xs i e)

  -- ---- a class is ready exactly where no cycle is at it or above it

  module _ (rows : List (Option Row)) (part : IsPart w rows) (c : Class) where
    ready-clear : (y : List ℕ) → is_ready w rows y ≡ true → IsClear w y
    ready-clear y ready = by (place_named w y) refl ready
      where
        nobody : class_named w y ≡ None → IsClear w y
        nobody e = λ v way far. ⊎_elim
            (λ same. let d = above-class w v v far in let n = d.1 in let is : class_named w v
            ≡ None = ap (class_named w) (sym same) ∙ e in cc)
            (λ up. let d = above-class w y v up in let n = d.1 in cc)
            way

        by : (o : Option ℕ) → place_named w y ≡ o → is_ready_at rows o ≡ true → IsClear w y
        by None e r = nobody (place-none w y e)
        by (Some p) e r = here (slice_get rows p) refl r
          where
            here : (o : Option (Option Row)) → slice_get rows p ≡ o → is_row o ≡ true → IsClear w y
            here None f r = cc
            here (Some None) f r = cc
            here (Some (Some a)) f r = let t = part.right y p a e f in tree-clear w y t.0 t.1

    clear-ready : (y : List ℕ) → IsClear w y → is_ready w rows y ≡ true
    clear-ready y clear = by (place_named w y) refl
      where
        by : (o : Option ℕ) → place_named w y ≡ o → is_ready_at rows o ≡ true
        by None e = refl
        by (Some p) e = part.there y p e clear

    is_at_cycle : Class → Bool
    is_at_cycle d = stands d.name (supertypes w (c.supers ++ c.interfaces)) && is_own_super w d

    not-both : are_ready w rows c ≡ true → is_under_cycle w c ≡ true → ⊥
    unfolding are_ready is_under_cycle supertypes From
    not-both ready cycle =
        let d = any-there (λ d. stands d.name (supertypes w (c.supers ++ c.interfaces)) && is_own_super w d) w cycle in
        let up = tree-above w (suc (length w)) d.0.name (c.supers ++ c.interfaces)
        (and-left (stands d.0.name (supertypes w (c.supers ++ c.interfaces))) (is_own_super w d.0) d.1) in
        let far : Above w d.0.name d.0.name = (stands_where_above w d.0.name d.0.name).0
        (and-right (stands d.0.name (supertypes w (c.supers ++ c.interfaces))) (is_own_super w d.0) d.1) in
        ready-clear up.0
        (⊎_elim
        (λ i. one c.supers up.0 i (both_front (list_all (λ x. is_ready w rows x) c.supers)
        (list_all (λ x. is_ready w rows x) c.interfaces) ready))
        (λ i. one c.interfaces up.0 i (both_back (list_all (λ x. is_ready w rows x) c.supers)
        (list_all (λ x. is_ready w rows x) c.interfaces) ready))
        (lists-split up.0 c.supers c.interfaces up.1))
        d.0.name up.2 far
      where
        one : (xs : List (List ℕ)) (y : List ℕ) → Lists y xs → list_all (λ x. is_ready w rows x) xs ≡ true
            → is_ready w rows y ≡ true
        one [] y i e = elim i [ ]
        one (x ∷ xs) y foremost e = both_front (is_ready w rows x) (list_all (λ x. is_ready w rows x) xs) e
        one (x ∷ xs) y (after i) e = one xs y i (both_back (is_ready w rows x) (list_all (λ x. is_ready w rows x) xs) e)

    free-ready : is_under_cycle w c ≡ false → are_ready w rows c ≡ true
    unfolding are_ready is_under_cycle
    free-ready free =
        let free-of : (y : List ℕ) → Lists y (c.supers ++ c.interfaces) → is_ready w rows y ≡ true =
        λ y i. clear-ready y (λ v way far.
        let d = above-class w v v far in
        let name = class_named-name w v d.0 d.1 in
        let no = named-none (λ d. stands d.name (supertypes w (c.supers ++ c.interfaces)) && is_own_super w d) w v d.0
        d.1 free in
        let high : stands d.0.name (supertypes w (c.supers ++ c.interfaces)) ≡ true =
        ap (λ n. stands n (supertypes w (c.supers ++ c.interfaces))) name ∙ listed-stands v y (c.supers
        ++ c.interfaces) i (reaches w y v way) in
        let own : is_own_super w d.0 ≡ true = ap (λ n. stands_above w n n) name ∙ (stands_where_above w v v).1 far in
        let yes = and-both (stands d.0.name (supertypes w (c.supers ++ c.interfaces))) (is_own_super w d.0) high own in
        let both : ⊥ = cc in
        both) in
        and-both (list_all (λ x. is_ready w rows x) c.supers) (list_all (λ x. is_ready w rows x) c.interfaces)
        (all-listed w rows c.supers (λ y i. free-of y (lists-front y c.supers c.interfaces i)))
        (all-listed w rows c.interfaces (λ y i. free-of y (lists-behind y c.supers c.interfaces i)))

    pub ready-free : not (is_under_cycle w c) ≡ are_ready w rows c
    ready-free = by (is_under_cycle w c) (are_ready w rows c) refl refl
      where
        by : (u r : Bool) → is_under_cycle w c ≡ u → are_ready w rows c ≡ r → not u ≡ r
        by true true e f = absurd (not-both f e)
        by true false e f = refl
        by false true e f = refl
        by false false e f = let t = free-ready e in cc

  pub gets-imported : (n : ℕ) (c : ExportClass) → false ≡ gets_missing w (imported n c)
  unfolding gets_missing added
  gets-imported n c = by (is_under_cycle w (imported n c))
    where
      by : (b : Bool) → false ≡ (not b && false)
      by true = refl
      by false = refl

module _ (files : Files) (t : Tables) (cycles : Option Cycles) (kept : IsKept files t cycles) (n : ℕ) (c : ClassTree)
    (here : slice_get files.classes n ≡ Some c) where
  number-ready : is_number_ready files t.above n ≡ are_ready (all_classes files) t.above (declared n c)
  number-ready = ap (is_ready_of files t.above n) here

  free : not (is_under_cycle (all_classes files) (declared n c)) ≡ are_ready (all_classes files) t.above (declared n c)
  free = ready-free (all_classes files) t.above kept.part (declared n c)

  -- the class is ready
  pub gets-ready : (row : List MemberId) → n < length t.added → row ≡ get_or t.added n row
      → are_ready (all_classes files) t.above (declared n c) ≡ true
      → list_any (λ i. is_desc_missing (all_classes files) i.desc) row ≡ gets_missing (all_classes files) (declared n c)
  unfolding gets_missing
  gets-ready row within is ready =
      let w = all_classes files in
      let at : slice_get t.added n ≡ Some (added_at files n) = kept.added n (number-ready ∙ ready) in
      let got = got_some t.added n row within is in
      let same : row ≡ added_at files n = cc in
      ap (list_any (λ i. is_desc_missing w i.desc)) (same ∙ sym (added-here files n c here))
      ∙ any_of_map (λ (i : MemberId). is_desc_missing w i.desc) (named_by c.name) (added w (declared n c))
      ∙ ap (λ b. b && list_any (λ m. is_desc_missing w m.desc) (added w (declared n c))) (sym (free ∙ ready))

  -- it is not
  pub gets-unready : are_ready (all_classes files) t.above (declared n c) ≡ false
      → false ≡ gets_missing (all_classes files) (declared n c)
  unfolding gets_missing
  gets-unready unready = ap (λ b. b && list_any (λ m. is_desc_missing (all_classes files) m.desc)
      (added (all_classes files) (declared n c))) (sym (free ∙ unready))

-- ---- without cycles all is kept

pub kept-tables : (files : Files) (t : Tables) (cycles : Option Cycles) → IsKept files t cycles
    → IsAcyclic (all_classes files) → AreTables files t
unfolding are_ready
kept-tables files t cycles kept acyclic =
    let w = all_classes files in
    let table = table-of w t.above kept.part acyclic in
    record {
      above = table;
      count = kept.count;
      added = λ i l.
          let c = there files.classes i l in
          kept.added i (ap (is_ready_of files t.above i) c.1
          ∙ and-both w (list_all (λ x. is_ready w t.above x) (declared i c.0).supers)
          (list_all (λ x. is_ready w t.above x) (declared i c.0).interfaces) (table-ready w t.above table
          (declared i c.0).supers) (table-ready w t.above table (declared i c.0).interfaces));
    }
  where
    there : (cs : List ClassTree) (i : ℕ) → i < length cs → (c : ClassTree) × (slice_get cs i ≡ Some c)
    there [] i l = absurd (omega arith)
    there (c ∷ cs) zero l = (c, refl)
    there (c ∷ cs) (suc i) l = there cs i (omega arith)
