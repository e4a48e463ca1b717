-- The class at the place of a name, and the places of several names.
use Rattle.std.proofs.Common.{◌≡◌, ℕ, suc, ◌+◌, ◌<◌, ◌≤◌, Bool, true, false, List, [], ◌∷◌, ◌++◌, length, get_or, drop}
use Rattle.std.proofs.Common.{refl, sym, ap, ◌∙◌, arith, append_assoc, append-nil, inl, inr, Option, Some, None}
use Rattle.std.specs.Prelude.{◌||◌, ◌⊎◌, if◌then◌else◌}
use Rattle.std.specs.List.{list_any}
use Rattle.std.specs.Str.{bytes_eq}
use Rattle.std.proofs.lemmas.List.{drop_more, drop_all}
use Rattle.std.proofs.lemmas.List.Folds.{list_any-append}
use Rattle.cjc_check_rules.specs.ExportFile.declared.tree.ExportClass.{ExportClass}
use Rattle.cjc_check_rules.specs.ExportFile.Supers.{class_named, is_one_of}
use Rattle.cjc_check_rules.proofs.ExportFileUpwards.{one_here, one_more}
use Rattle.cjc_check_index.specs.Imported.Working.Graph.{one_place, places}
use Rattle.cjc_check_index.specs.Imported.Working.Names.{or_else, place_from}
use Rattle.cjc_check_rules.proofs.BytesLists.{bytes_true}
use Rattle.cjc_check_rules.proofs.BytesBools.{or_true, or_cases, bool_either}

-- ---- one name

pub record Found (at : ℕ) (classes : List ExportClass) (name : List ℕ) : Type 0 where
  pub place : ℕ
  pub it : ExportClass
  pub placed : place_from at classes name ≡ Some (at + place)
  pub named : class_named classes name ≡ Some it
  pub inside : place < length classes
  pub is : (d : ExportClass) → get_or classes place d ≡ it

pub record Absent (at : ℕ) (classes : List ExportClass) (name : List ℕ) : Type 0 where
  pub placed : place_from at classes name ≡ None
  pub named : class_named classes name ≡ None

here : (at : ℕ) (c : ExportClass) (classes : List ExportClass) (name : List ℕ) → bytes_eq c.name name ≡ true
    → Found at (c ∷ classes) name
here at c classes name t =
    let z : at ≡ at + 0 = omega arith in
    record {
      place = 0;
      it = c;
      placed = ap (λ b. if b then Some at else place_from (at + 1) classes name) t ∙ ap Some z;
      named = ap (λ b. if b then Some c else class_named classes name) t;
      inside = omega arith;
      is = λ d. refl;
    }

later : (at : ℕ) (c : ExportClass) (classes : List ExportClass) (name : List ℕ) → bytes_eq c.name name ≡ false
    → Found (at + 1) classes name → Found at (c ∷ classes) name
later at c classes name t r =
    let z : at + 1 + r.place ≡ at + suc r.place = omega arith in
    let i = r.inside in
    record {
      place = suc r.place;
      it = r.it;
      placed = ap (λ b. if b then Some at else place_from (at + 1) classes name) t ∙ r.placed ∙ ap Some z;
      named = ap (λ b. if b then Some c else class_named classes name) t ∙ r.named;
      inside = omega (arith, i);
      is = r.is;
    }

nowhere : (at : ℕ) (c : ExportClass) (classes : List ExportClass) (name : List ℕ) → bytes_eq c.name name ≡ false
    → Absent (at + 1) classes name → Absent at (c ∷ classes) name
nowhere at c classes name t r = record {
  placed = ap (λ b. if b then Some at else place_from (at + 1) classes name) t ∙ r.placed;
  named = ap (λ b. if b then Some c else class_named classes name) t ∙ r.named;
}

pub look : (at : ℕ) (classes : List ExportClass) (name : List ℕ) → Found at classes name ⊎ Absent at classes name
look at [] name = inr (record { placed = refl; named = refl })
look at (c ∷ classes) name = bool_either (bytes_eq c.name name)
    (λ t. inl (here at c classes name t))
    (λ t. elim (look (at + 1) classes name) [
      | inl r ↦ inl (later at c classes name t r)
      | inr r ↦ inr (nowhere at c classes name t r)
    ])

-- a class that is named has a place
pub found : (classes : List ExportClass) (name : List ℕ) (c : ExportClass) → class_named classes name ≡ Some c
    → Found 0 classes name
found classes name c e = elim (look 0 classes name) [
  | inl r ↦ r
  | inr r ↦ (let n : None ≡ Some c = sym r.named ∙ e in absurd (cc))
]

pub found_place : (classes : List ExportClass) (name : List ℕ) (r : Found 0 classes name) → place_from 0 classes name
    ≡ Some r.place
found_place classes name r = let z : 0 + r.place ≡ r.place = omega arith in r.placed ∙ ap Some z

-- ---- the places of several names

pub record Placed (classes : List ExportClass) (names : List (List ℕ)) (test : ℕ → Bool) : Type 0 where
  pub name : List ℕ
  pub place : ℕ
  pub it : ExportClass
  pub listed : is_one_of names name ≡ true
  pub named : class_named classes name ≡ Some it
  pub inside : place < length classes
  pub is : (d : ExportClass) → get_or classes place d ≡ it
  pub passes : test place ≡ true

more_placed : (classes : List ExportClass) (x : List ℕ) (names : List (List ℕ)) (test : ℕ → Bool)
    → Placed classes names test → Placed classes (x ∷ names) test
more_placed classes x names test r = record {
  name = r.name;
  place = r.place;
  it = r.it;
  listed = one_more x names r.name r.listed;
  named = r.named;
  inside = r.inside;
  is = r.is;
  passes = r.passes;
}

pub in_places : (classes : List ExportClass) (names : List (List ℕ)) (test : ℕ → Bool)
    → list_any test (places classes names) ≡ true → Placed classes names test
in_places classes [] test e = absurd cc
in_places classes (x ∷ names) test e = elim (look 0 classes x) [
  | inl r ↦ (
      let o : list_any test (places classes (x ∷ names)) ≡ (test r.place || list_any test (places classes names)) =
      ap (λ p. list_any test (one_place p ++ places classes names)) (found_place classes x r) in
      elim (or_cases (test r.place) (list_any test (places classes names)) (sym o ∙ e)) [
        | inl t ↦ record {
          name = x;
          place = r.place;
          it = r.it;
          listed = one_here x names;
          named = r.named;
          inside = r.inside;
          is = r.is;
          passes = t;
        }
        | inr t ↦ more_placed classes x names test (in_places classes names test t)
      ])
  | inr r ↦ (
      let o : list_any test (places classes (x ∷ names)) ≡ list_any test (places classes names) =
      ap (λ p. list_any test (one_place p ++ places classes names)) r.placed in
      more_placed classes x names test (in_places classes names test (sym o ∙ e)))
]

pub place_in : (classes : List ExportClass) (names : List (List ℕ)) (test : ℕ → Bool) (y : List ℕ) (k : ℕ)
    → is_one_of names y ≡ true → place_from 0 classes y ≡ Some k → test k ≡ true
    → list_any test (places classes names) ≡ true
place_in classes [] test y k h p t = absurd cc
place_in classes (x ∷ names) test y k h p t = elim (or_cases (bytes_eq x y) (is_one_of names y) h) [
  | inl same ↦ (
      let e : place_from 0 classes x ≡ Some k = ap (λ z. place_from 0 classes z) (bytes_true x y same) ∙ p in
      let o : list_any test (places classes (x ∷ names)) ≡ (test k || list_any test (places classes names)) =
      ap (λ q. list_any test (one_place q ++ places classes names)) e in
      o ∙ ap (λ b. b || list_any test (places classes names)) t)
  | inr g ↦ (
      let q = one_place (place_from 0 classes x) in
      list_any-append test q (places classes names) ∙ ap (λ b. list_any test q || b) (place_in classes names test y k g
      p t) ∙ or_true (list_any test q))
]

-- ---- the loop that makes places

once : (a : Option ℕ) (i : ℕ) (r : Option ℕ) → or_else (or_else a (Some i)) r ≡ or_else a (Some i)
once None i r = refl
once (Some k) i r = refl

none_more : (a r : Option ℕ) → or_else (or_else a None) r ≡ or_else a r
none_more None r = refl
none_more (Some k) r = refl

pub index_more : (i : ℕ) (c : ExportClass) (classes : List ExportClass) (x : List ℕ) (old new total : Option ℕ)
    → i < length classes → c ≡ get_or classes i c
    → new ≡ or_else old (if bytes_eq c.name x then Some i else None)
    → or_else old (place_from i (drop i classes) x) ≡ total → or_else new (place_from (i + 1) (drop (i + 1) classes) x)
    ≡ total
index_more i c classes x old new total lt is n so_far =
    let rest = place_from (i + 1) (drop (i + 1) classes) x in
    let d : drop i classes ≡ c ∷ drop (i + 1) classes = drop_more classes i c lt
    ∙ ap (λ (y : ExportClass). y ∷ drop (i + 1) classes) (sym is) in
    let before : or_else old (if bytes_eq c.name x then Some i else rest) ≡ total =
    ap (λ (cs : List ExportClass). or_else old (place_from i cs x)) (sym d) ∙ so_far in
    bool_either (bytes_eq c.name x)
    (λ t.
    ap (λ o. or_else o rest) (n ∙ ap (λ b. or_else old (if b then Some i else None)) t) ∙ once old i rest
    ∙ ap (λ b. or_else old (if b then Some i else rest)) (sym t) ∙ before)
    (λ t.
    ap (λ o. or_else o rest) (n ∙ ap (λ b. or_else old (if b then Some i else None)) t) ∙ none_more old rest
    ∙ ap (λ b. or_else old (if b then Some i else rest)) (sym t) ∙ before)

pub index_all : (i : ℕ) (classes : List ExportClass) (x : List ℕ) (old total : Option ℕ) → length classes ≤ i
    → or_else old (place_from i (drop i classes) x) ≡ total → old ≡ total
index_all i classes x old total le so_far =
    last old ∙ ap (λ (cs : List ExportClass). or_else old (place_from i cs x)) (sym (drop_all i classes le)) ∙ so_far
  where
    last : (a : Option ℕ) → a ≡ or_else a None
    last None = refl
    last (Some k) = refl

-- the loop that makes the places of several names
pub places_more : (i : ℕ) (x : List ℕ) (names : List (List ℕ)) (classes : List ExportClass) (done next total : List ℕ)
    → i < length names → x ≡ get_or names i x → next ≡ done ++ one_place (place_from 0 classes x)
    → done ++ places classes (drop i names) ≡ total → next ++ places classes (drop (i + 1) names) ≡ total
places_more i x names classes done next total lt is n so_far =
    let d : drop i names ≡ x ∷ drop (i + 1) names = drop_more names i x lt ∙ ap (λ (y : List ℕ). y ∷ drop (i + 1) names)
    (sym is) in
    ap (λ (ks : List ℕ). ks ++ places classes (drop (i + 1) names)) n
    ∙ append_assoc done (one_place (place_from 0 classes x)) (places classes (drop (i + 1) names))
    ∙ ap (λ (ys : List (List ℕ)). done ++ places classes ys) (sym d) ∙ so_far

pub places_all : (i : ℕ) (names : List (List ℕ)) (classes : List ExportClass) (done total : List ℕ) → length names ≤ i
    → done ++ places classes (drop i names) ≡ total → done ≡ total
places_all i names classes done total le so_far = sym (append-nil done) ∙ ap (λ (ys : List (List ℕ)). done
    ++ places classes ys) (sym (drop_all i names le)) ∙ so_far
