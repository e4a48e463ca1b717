-- Rows of marks that went down to their ends are what classes have or inherit.
use Rattle.std.proofs.Common.{◌≡◌, ℕ, ◌<◌, ◌==◌, Bool, true, false, List, [], ◌∷◌, length, get_or, map, refl, sym, ap}
use Rattle.std.proofs.Common.{◌∙◌, arith, inl, inr, Some}
use Rattle.std.specs.Prelude.{◌||◌}
use Rattle.std.specs.List.{list_any}
use Rattle.std.proofs.lemmas.Bool.{cases_lt}
use Rattle.std.proofs.lemmas.Bool.Decides.{nat_tests}
use Rattle.std.proofs.lemmas.List.{get_or-map, get_or_past, length-map}
use Rattle.cjc_check_rules.specs.ExportFile.declared.tree.ExportClass.{ExportClass}
use Rattle.cjc_check_rules.specs.ExportFile.Supers.{is_one_of, IsAtOrAbove, at, above, upwards}
use Rattle.cjc_check_index.specs.Imported.Tokens.{all_tokens, each_class}
use Rattle.cjc_check_index.specs.Imported.Working.Graph.{AreBelow, above_of, is_in, places}
use Rattle.cjc_check_index.specs.Imported.Working.Names.{place_from}
use Rattle.cjc_check_index.specs.Imported.Working.Reach.{IsReached}
use Rattle.cjc_check_index.specs.Imported.Working.Rows.{column, has_or_inherits, inherits, is_any_marked}
use Rattle.cjc_check_index.proofs.ImportedLaws.Answers.{token_at}
use Rattle.cjc_check_index.proofs.ImportedLaws.Loops.{same_when, map_is}
use Rattle.cjc_check_index.proofs.ImportedLaws.Names.{found, found_place, in_places, place_in}
use Rattle.cjc_check_index.proofs.ImportedLaws.Inherited.{passes_above, stands_above, one_step, inherits_is}
use Rattle.cjc_check_rules.proofs.BytesBools.{or_true, or_cases}

module _ (classes : List ExportClass) (test : ExportClass → Bool) (below : List (List ℕ)) (begin marks : List Bool)
    (rows : AreBelow (above_of classes) below) (first : begin ≡ map test classes) (reached : IsReached below begin
    marks) where
  count : length begin ≡ length classes
  count = ap (λ (xs : List Bool). length xs) first ∙ length-map classes test

  above_at : (i : ℕ) (d : ExportClass) → i < length classes → get_or (above_of classes) i []
      ≡ places classes (get_or classes i d).supers
  above_at i d lt = get_or-map (λ (c : ExportClass). places classes c.supers) classes i d [] lt

  begin_at : (i : ℕ) (d : ExportClass) → i < length classes → get_or begin i false ≡ test (get_or classes i d)
  begin_at i d lt = ap (λ (xs : List Bool). get_or xs i false) first ∙ get_or-map test classes i d false lt

  sized : length (above_of classes) ≡ length classes
  sized = length-map classes (λ (c : ExportClass). places classes c.supers)

  -- a class is below another where it lists its name
  is_below : (i k : ℕ) (y : List ℕ) (c d : ExportClass) → i < length classes → k < length classes
      → get_or classes i d ≡ c → is_one_of c.supers y ≡ true → place_from 0 classes y ≡ Some k
      → is_in i (get_or below k []) ≡ true
  is_below i k y c d lt less is h p =
      let s = sized in
      rows.each i k (omega (arith, s, less)) ∙ ap (λ (xs : List ℕ). is_in k xs) (above_at i d lt)
      ∙ ap (λ (x : ExportClass). is_in k (places classes x.supers)) is
      ∙ place_in classes c.supers (λ m. m == k) y k h p (grind (arith, nat_tests))

  marked_below : (i k : ℕ) (y : List ℕ) (c d : ExportClass) → i < length classes → k < length classes
      → get_or classes i d ≡ c → is_one_of c.supers y ≡ true → place_from 0 classes y ≡ Some k → get_or marks k false
      ≡ true → get_or marks i false ≡ true
  marked_below i k y c d lt less is h p m =
      let n = count in
      reached.closed k i m (is_below i k y c d lt less is h p) (omega (arith, n, lt)) refl

  -- downwards from a class that is marked to one that it stands above
  descend : (i : ℕ) (c d : ExportClass) → i < length classes → get_or classes i d ≡ c → (y : List ℕ)
      → IsAtOrAbove classes c.supers y → (k : ℕ) → k < length classes → place_from 0 classes y ≡ Some k
      → get_or marks k false ≡ true → get_or marks i false ≡ true
  descend i c d lt is y (at g) k less p m = marked_below i k y c d lt less is g p m
  descend i c d lt is y (above {x = z} e h named s) k less p m =
      let f = found classes z e named in
      let same : Some f.it ≡ Some e = sym f.named ∙ named in
      let it : f.it ≡ e = cc in
      descend i c d lt is z h f.place f.inside (found_place classes z f) (marked_below f.place k y e d f.inside less
      (f.is d ∙ it) s p m)

  marked : (i : ℕ) (c d : ExportClass) → i < length classes → get_or classes i d ≡ c → has_or_inherits test classes c
      ≡ true → get_or marks i false ≡ true
  marked i c d lt is has = elim (or_cases (test c) (list_any test (upwards classes c.supers)) has) [
    | inl t ↦ reached.kept i (begin_at i d lt ∙ ap test is ∙ t)
    | inr t ↦ (
        let r = passes_above classes test c.supers t in
        let f = found classes r.it.name r.it r.own in
        let same : Some f.it ≡ Some r.it = sym f.named ∙ r.own in
        let it : f.it ≡ r.it = cc in
        descend i c d lt is r.it.name (stands_above classes test c.supers r) f.place f.inside
        (found_place classes r.it.name f)
        (reached.kept f.place (begin_at f.place d f.inside ∙ ap test (f.is d ∙ it) ∙ r.passes)))
  ]

  -- only what has it or inherits it is marked
  only : (d : ExportClass) (i : ℕ) → get_or marks i false ≡ true → has_or_inherits test classes (get_or classes i d)
      ≡ true
  only d i h = reached.least (λ k. has_or_inherits test classes (get_or classes k d)) base step i h
    where
      base : (k : ℕ) → get_or begin k false ≡ true → has_or_inherits test classes (get_or classes k d) ≡ true
      base k g = elim (cases_lt k (length classes)) [
        | inl lt ↦ ap (λ b. b || list_any test (upwards classes (get_or classes k d).supers)) (sym (begin_at k d lt)
            ∙ g)
        | inr le ↦ (
            let n = count in
            let past : get_or begin k false ≡ false = get_or_past begin k false (omega (arith, n, le)) in
            let e : true ≡ false = sym g ∙ past in
            absurd (cc))
      ]

      step : (j k : ℕ) → has_or_inherits test classes (get_or classes j d) ≡ true → is_in k (get_or below j []) ≡ true
          → k < length begin → has_or_inherits test classes (get_or classes k d) ≡ true
      step j k has e lt =
          let n = count in
          let inside : k < length classes = omega (arith, n, lt) in
          elim (cases_lt j (length classes)) [
            | inl less ↦ (
                let s = sized in
                let listed : is_in j (places classes (get_or classes k d).supers) ≡ true =
                sym (ap (λ (xs : List ℕ). is_in j xs) (above_at k d inside))
                ∙ sym (rows.each k j (omega (arith, s, less))) ∙ e in
                let r = in_places classes (get_or classes k d).supers (λ m. m == j) listed in
                let on = r.passes in
                let same : r.place ≡ j = grind (arith, nat_tests, on) in
                let it : get_or classes j d ≡ r.it = ap (λ (m : ℕ). get_or classes m d) (sym same) ∙ r.is d in
                ap (λ b. test (get_or classes k d) || b)
                (one_step classes test (get_or classes k d).supers r.name r.it r.listed r.named
                (ap (has_or_inherits test classes) (sym it) ∙ has))
                ∙ or_true (test (get_or classes k d)))
            | inr le ↦ (
                let s = sized in
                let z = rows.size in
                let past : get_or below j [] ≡ [] = get_or_past below j [] (omega (arith, s, z, le)) in
                let none : is_in k (get_or below j []) ≡ false = ap (λ (xs : List ℕ). is_in k xs) past in
                let f : true ≡ false = sym e ∙ none in
                absurd (cc))
          ]

  pub closed_is : marks ≡ map (has_or_inherits test classes) classes
  closed_is =
      let n = count in
      let s = reached.size in
      map_is (has_or_inherits test classes) false marks classes (s ∙ n)
      (λ i d lt. same_when _ _ (only d i) (marked i (get_or classes i d) d lt refl))

-- ---- columns

pub column_is : (test : ℕ → ExportClass → Bool) (token : ℕ) (classes : List ExportClass) → token < 256
    → column (each_class test classes) token ≡ map (test token) classes
column_is test token [] lt = refl
column_is test token (c ∷ classes) lt =
    let e : get_or (map (λ t. test t c) all_tokens) token false ≡ test token c = token_at (λ t. test t c) token false lt
    in
    ap (λ (b : Bool). b ∷ column (each_class test classes) token) e ∙ ap (λ (bs : List Bool). test token c
    ∷ bs) (column_is test token classes lt)

-- ---- what is inherited

inherited_row : (test : ExportClass → Bool) (classes cs : List ExportClass) (marks : List Bool)
    → marks ≡ map (has_or_inherits test classes) classes
    → map (is_any_marked marks) (map (λ c. places classes c.supers) cs) ≡ map (inherits test classes) cs
inherited_row test classes [] marks e = refl
inherited_row test classes (c ∷ cs) marks e =
    ap (λ (b : Bool). b ∷ map (is_any_marked marks) (map (λ (x : ExportClass). places classes x.supers) cs))
    (inherits_is classes test c.supers marks e)
    ∙ ap (λ (bs : List Bool). inherits test classes c ∷ bs) (inherited_row test classes cs marks e)

pub inherited_rows : (test : ℕ → ExportClass → Bool) (classes : List ExportClass) (tokens : List ℕ)
    → map (λ marks. map (is_any_marked marks) (above_of classes))
    (map (λ token. map (has_or_inherits (test token) classes) classes) tokens)
    ≡ map (λ token. map (inherits (test token) classes) classes) tokens
inherited_rows test classes [] = refl
inherited_rows test classes (token ∷ tokens) =
    let rest = map (λ marks. map (is_any_marked marks) (above_of classes))
    (map (λ t. map (has_or_inherits (test t) classes) classes) tokens) in
    ap (λ (row : List Bool). row ∷ rest) (inherited_row (test token) classes classes
    (map (has_or_inherits (test token) classes) classes) refl)
    ∙ ap (λ (rows : List (List Bool)). map (inherits (test token) classes) classes ∷ rows) (inherited_rows test classes
    tokens)
