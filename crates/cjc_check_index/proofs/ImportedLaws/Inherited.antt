-- What stands above a class, one step upwards at a time.
use Rattle.std.proofs.Common.{◌≡◌, ℕ, Bool, true, false, List, [], ◌∷◌, length, get_or, map, sym, ap, ◌∙◌, ◌<◌, inl}
use Rattle.std.proofs.Common.{inr, Some}
use Rattle.std.specs.Prelude.{◌||◌}
use Rattle.std.specs.List.{AllByRecursion, list_any}
use Rattle.std.specs.Str.{bytes_eq}
use Rattle.std.proofs.lemmas.List.{get_or-map}
use Rattle.cjc_check_rules.specs.ExportFile.declared.tree.ExportClass.{ExportClass}
use Rattle.cjc_check_rules.specs.ExportFile.Supers.{class_named, is_one_of, IsAtOrAbove, at, above, upwards}
use Rattle.cjc_check_rules.proofs.ExportFileUpwards.{all_found, each_own, found_is, one_here, one_more}
use Rattle.cjc_check_index.specs.Imported.Working.Graph.{places}
use Rattle.cjc_check_index.specs.Imported.Working.Rows.{has_or_inherits, is_any_marked}
use Rattle.cjc_check_index.proofs.ImportedLaws.Loops.{same_when}
use Rattle.cjc_check_index.proofs.ImportedLaws.Names.{found, found_place, in_places}
use Rattle.cjc_check_index.proofs.ImportedLaws.Names.{place_in}
use Rattle.cjc_check_rules.proofs.BytesLists.{bytes_true}
use Rattle.cjc_check_rules.proofs.BytesBools.{or_true, or_cases}

-- ---- a class that passes, among several of which each is that of its name

abbrev AreOwn : List ExportClass → List ExportClass → Type 0
AreOwn classes xs = AllByRecursion (λ c. class_named classes c.name ≡ Some c) xs

abbrev names_of : List ExportClass → List (List ℕ)
names_of classes = map (λ c. c.name) classes

pub record Passes (classes : List ExportClass) (test : ExportClass → Bool) (xs : List ExportClass) : Type 0 where
  pub it : ExportClass
  pub passes : test it ≡ true
  pub own : class_named classes it.name ≡ Some it
  pub among : is_one_of (map (λ (c : ExportClass). c.name) xs) it.name ≡ true

passes_of : (classes : List ExportClass) (test : ExportClass → Bool) (xs : List ExportClass) → AreOwn classes xs
    → list_any test xs ≡ true → Passes classes test xs
passes_of classes test [] own e = absurd cc
passes_of classes test (x ∷ xs) own e = elim (or_cases (test x) (list_any test xs) e) [
  | inl t ↦ record { it = x; passes = t; own = own.0; among = one_here x.name (names_of xs) }
  | inr t ↦ more (passes_of classes test xs own.1 t)
]
  where
    more : Passes classes test xs → Passes classes test (x ∷ xs)
    more r = record {
      it = r.it;
      passes = r.passes;
      own = r.own;
      among = one_more x.name (names_of xs) r.it.name r.among;
    }

passes_in : (classes : List ExportClass) (test : ExportClass → Bool) (xs : List ExportClass) (y : List ℕ)
    (d : ExportClass) → AreOwn classes xs → class_named classes y ≡ Some d → test d ≡ true
    → is_one_of (map (λ (c : ExportClass). c.name) xs) y ≡ true → list_any test xs ≡ true
passes_in classes test [] y d own named t h = absurd cc
passes_in classes test (x ∷ xs) y d own named t h = elim (or_cases (bytes_eq x.name y) (is_one_of (names_of xs) y) h) [
  | inl same ↦ (
      let e : Some x ≡ Some d = sym own.0 ∙ ap (λ (z : List ℕ). class_named classes z) (bytes_true x.name y same)
      ∙ named
      in
      let is : x ≡ d = cc in
      ap (λ b. b || list_any test xs) (ap test is ∙ t))
  | inr g ↦ ap (λ b. test x || b) (passes_in classes test xs y d own.1 named t g) ∙ or_true (test x)
]

pub passes_above : (classes : List ExportClass) (test : ExportClass → Bool) (names : List (List ℕ))
    → list_any test (upwards classes names) ≡ true → Passes classes test (upwards classes names)
passes_above classes test names e = passes_of classes test (upwards classes names) (each_own classes names) e

pub stands_above : (classes : List ExportClass) (test : ExportClass → Bool) (names : List (List ℕ))
    (r : Passes classes test (upwards classes names)) → IsAtOrAbove classes names r.it.name
stands_above classes test names r = (found_is classes names r.it.name r.among).0

above_passes : (classes : List ExportClass) (test : ExportClass → Bool) (names : List (List ℕ)) (y : List ℕ)
    (d : ExportClass) → class_named classes y ≡ Some d → test d ≡ true → IsAtOrAbove classes names y
    → list_any test (upwards classes names) ≡ true
above_passes classes test names y d named t h = passes_in classes test (upwards classes names) y d
    (each_own classes names) named t (all_found classes names y d h named)

-- ---- one step

lift : (classes : List ExportClass) (names : List (List ℕ)) (x : List ℕ) (c : ExportClass) → is_one_of names x ≡ true
    → class_named classes x ≡ Some c → (y : List ℕ) → IsAtOrAbove classes c.supers y → IsAtOrAbove classes names y
lift classes names x c h named y (at g) = above c (at h) named g
lift classes names x c h named y (above {x = z} e g is s) = above e (lift classes names x c h named z g) is s

-- what a listed class has or inherits is inherited
pub one_step : (classes : List ExportClass) (test : ExportClass → Bool) (names : List (List ℕ)) (x : List ℕ)
    (c : ExportClass) → is_one_of names x ≡ true → class_named classes x ≡ Some c
    → has_or_inherits test classes c ≡ true → list_any test (upwards classes names) ≡ true
one_step classes test names x c h named has = elim (or_cases (test c) (list_any test (upwards classes c.supers)) has) [
  | inl t ↦ above_passes classes test names x c named t (at h)
  | inr t ↦ (
      let r = passes_above classes test c.supers t in
      above_passes classes test names r.it.name r.it r.own r.passes (lift classes names x c h named r.it.name
      (stands_above classes test c.supers r)))
]

pub record Next (classes : List ExportClass) (test : ExportClass → Bool) (names : List (List ℕ)) : Type 0 where
  pub name : List ℕ
  pub it : ExportClass
  pub listed : is_one_of names name ≡ true
  pub named : class_named classes name ≡ Some it
  pub has : has_or_inherits test classes it ≡ true

next_below : (classes : List ExportClass) (test : ExportClass → Bool) (names : List (List ℕ)) (y : List ℕ)
    (d : ExportClass) → IsAtOrAbove classes names y → class_named classes y ≡ Some d → has_or_inherits test classes d
    ≡ true → Next classes test names
next_below classes test names y d (at g) named has = record { name = y; it = d; listed = g; named = named; has = has }
next_below classes test names y d (above {x = z} e g is s) named has =
    next_below classes test names z e g is (ap (λ b. test e || b) (one_step classes test e.supers y d s named has)
    ∙ or_true (test e))

-- what is inherited, a listed class has or inherits
pub next : (classes : List ExportClass) (test : ExportClass → Bool) (names : List (List ℕ))
    → list_any test (upwards classes names) ≡ true → Next classes test names
next classes test names e =
    let r = passes_above classes test names e in
    next_below classes test names r.it.name r.it (stands_above classes test names r) r.own (ap (λ b. b
    || list_any test (upwards classes r.it.supers)) r.passes)

-- ---- by places

pub inherits_is : (classes : List ExportClass) (test : ExportClass → Bool) (names : List (List ℕ)) (marks : List Bool)
    → marks ≡ map (has_or_inherits test classes) classes
    → is_any_marked marks (places classes names) ≡ list_any test (upwards classes names)
inherits_is classes test names marks e = same_when _ _
    (λ t.
    let r = in_places classes names (λ k. get_or marks k false) t in
    let has : has_or_inherits test classes r.it ≡ true = sym (mark r.place r.it r.inside r.is) ∙ r.passes in
    one_step classes test names r.name r.it r.listed r.named has)
    (λ t.
    let n = next classes test names t in
    let f = found classes n.name n.it n.named in
    let same : Some f.it ≡ Some n.it = sym f.named ∙ n.named in
    let is : f.it ≡ n.it = cc in
    place_in classes names (λ k. get_or marks k false) n.name f.place n.listed (found_place classes n.name f)
    (mark f.place f.it f.inside f.is ∙ ap (has_or_inherits test classes) is ∙ n.has))
  where
    mark : (k : ℕ) (c : ExportClass) → k < length classes → ((d : ExportClass) → get_or classes k d ≡ c)
        → get_or marks k false ≡ has_or_inherits test classes c
    mark k c lt is = ap (λ (ms : List Bool). get_or ms k false) e ∙ get_or-map (has_or_inherits test classes) classes k
        c false lt ∙ ap (has_or_inherits test classes) (is c)
