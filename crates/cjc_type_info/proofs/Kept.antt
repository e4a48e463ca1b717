-- Class_refs that are put down one after the other.
use Rattle.std.proofs.Common.{◌≡◌, ℕ, zero, suc, ◌+◌, ◌<◌, ◌≤◌, Bool, true, false, List, [], ◌∷◌, length, get_or, slice_get, drop, refl, sym, ap, ◌∙◌, arith, Option, Some, None}
use Rattle.std.specs.Prelude.{if◌then◌else◌, option_map}
use Rattle.std.specs.Str.{bytes_eq}
use Rattle.std.proofs.lemmas.List.{drop_more, drop_all}
use Rattle.cjc_capread.specs.declared.tree.ClassRef.{ClassRef}
use Rattle.cjc_capread.specs.declared.tree.ClassRef.TheVariants.{Outside}
use Rattle.cjc_export.specs.declared.tree.ExportClass.{ExportClass}
use Rattle.cjc_export.specs.declared.tree.ExportTree.{ExportTree}
use Rattle.cjc_card.specs.Classes.{Foreign, foreign_from, token_named}
use Rattle.cjc_card.specs.Classes
use Rattle.cjc_world.specs.Classes.{Class}
use Rattle.cjc_components.specs.Names.{ref_to}
use Rattle.cjc_type_info.specs.Working.Refs.{exported_ref, listed_ref, or_else, ref_at}

once : (a : Option ClassRef) (r : ClassRef) (o : Option ClassRef) → or_else (or_else a (Some r)) o ≡ or_else a (Some r)
once None r o = refl
once (Some k) r o = refl

none_more : (a o : Option ClassRef) → or_else (or_else a None) o ≡ or_else a o
none_more None o = refl
none_more (Some k) o = refl

last : (a : Option ClassRef) → a ≡ or_else a None
last None = refl
last (Some k) = refl

assoc : (a b c : Option ClassRef) → or_else (or_else a b) c ≡ or_else a (or_else b c)
assoc None b c = refl
assoc (Some k) b c = refl

-- one more, then others
by_test : (b : Bool) (a : Option ClassRef) (r : ClassRef) (o : Option ClassRef) → or_else (or_else a (if b then Some r else None)) o ≡ or_else a (if b then Some r else o)
by_test true a r o = once a r o
by_test false a r o = none_more a o

-- ---- classes in the order of the list

first_listed : (w : List Class) (ref : ClassRef) (refs : List ClassRef) (place : ℕ) (x : List ℕ) → listed_ref (drop place w) (ref ∷ refs) x ≡ or_else (ref_at (slice_get w place) ref x) (listed_ref (drop (suc place) w) refs x)
first_listed [] ref refs zero x = refl
first_listed [] ref refs (suc place) x = refl
first_listed (c ∷ w) ref refs zero x = by (bytes_eq c.name x)
  where
    by : (b : Bool) → (if b then Some ref else listed_ref w refs x) ≡ or_else (if b then Some ref else None) (listed_ref w refs x)
    by true = refl
    by false = refl
first_listed (c ∷ w) ref refs (suc place) x = first_listed w ref refs place x

pub listed_next : (w : List Class) (refs : List ClassRef) (i : ℕ) (d : ClassRef) (x : List ℕ) (old new total : Option ClassRef) → i < length refs
    → new ≡ or_else old (ref_at (slice_get w i) (get_or refs i d) x)
    → or_else old (listed_ref (drop i w) (drop i refs) x) ≡ total → or_else new (listed_ref (drop (i + 1) w) (drop (i + 1) refs) x) ≡ total
listed_next w refs i d x old new total lt n so_far =
    let r = get_or refs i d in
    let s : suc i ≡ i + 1 = omega arith in
    ap (λ o. or_else o (listed_ref (drop (i + 1) w) (drop (i + 1) refs) x)) n
    ∙ assoc old (ref_at (slice_get w i) r x) (listed_ref (drop (i + 1) w) (drop (i + 1) refs) x)
    ∙ ap (λ k. or_else old (or_else (ref_at (slice_get w i) r x) (listed_ref (drop k w) (drop (i + 1) refs) x))) (sym s)
    ∙ ap (or_else old) (sym (first_listed w r (drop (i + 1) refs) i x))
    ∙ ap (λ (rs : List ClassRef). or_else old (listed_ref (drop i w) rs x)) (sym (drop_more refs i d lt))
    ∙ so_far

no_refs : (w : List Class) (x : List ℕ) → listed_ref w [] x ≡ None
no_refs [] x = refl
no_refs (c ∷ w) x = refl

pub listed_all : (w : List Class) (refs : List ClassRef) (i : ℕ) (x : List ℕ) (old total : Option ClassRef) → length refs ≤ i
    → or_else old (listed_ref (drop i w) (drop i refs) x) ≡ total → old ≡ total
listed_all w refs i x old total le so_far =
    last old ∙ ap (or_else old) (sym (no_refs (drop i w) x)) ∙ ap (λ (rs : List ClassRef). or_else old (listed_ref (drop i w) rs x)) (sym (drop_all i refs le)) ∙ so_far

-- ---- classes of an export file

first_exported : (file : ℕ) (c : ExportClass) (classes : List ExportClass) (x : List ℕ) → exported_ref file (c ∷ classes) x ≡ (if bytes_eq c.name x then Some (Outside file c.token) else exported_ref file classes x)
first_exported file c classes x = by (bytes_eq c.name x)
  where
    by : (b : Bool) → option_map (Outside file) (if b then Some c.token else token_named classes x) ≡ (if b then Some (Outside file c.token) else option_map (Outside file) (token_named classes x))
    by true = refl
    by false = refl

pub exported_more : (file : ℕ) (classes : List ExportClass) (i : ℕ) (c : ExportClass) (x : List ℕ) (old new total : Option ClassRef) → i < length classes → c ≡ get_or classes i c
    → new ≡ or_else old (if bytes_eq c.name x then Some (Outside file c.token) else None)
    → or_else old (exported_ref file (drop i classes) x) ≡ total → or_else new (exported_ref file (drop (i + 1) classes) x) ≡ total
exported_more file classes i c x old new total lt is n so_far =
    let d : drop i classes ≡ c ∷ drop (i + 1) classes = drop_more classes i c lt ∙ ap (λ (y : ExportClass). y ∷ drop (i + 1) classes) (sym is) in
    ap (λ o. or_else o (exported_ref file (drop (i + 1) classes) x)) n
    ∙ by_test (bytes_eq c.name x) old (Outside file c.token) (exported_ref file (drop (i + 1) classes) x)
    ∙ ap (or_else old) (sym (first_exported file c (drop (i + 1) classes) x))
    ∙ ap (λ (cs : List ExportClass). or_else old (exported_ref file cs x)) (sym d)
    ∙ so_far

pub exported_all : (file : ℕ) (classes : List ExportClass) (i : ℕ) (x : List ℕ) (old total : Option ClassRef) → length classes ≤ i
    → or_else old (exported_ref file (drop i classes) x) ≡ total → old ≡ total
exported_all file classes i x old total le so_far = last old ∙ ap (λ (cs : List ExportClass). or_else old (exported_ref file cs x)) (sym (drop_all i classes le)) ∙ so_far

-- ---- export files

first_foreign : (file : ℕ) (t : ExportTree) (trees : List ExportTree) (x : List ℕ) → option_map ref_to (foreign_from file (t ∷ trees) x) ≡ or_else (exported_ref file t.classes x) (option_map ref_to (foreign_from (file + 1) trees x))
first_foreign file t trees x = by (token_named t.classes x)
  where
    by : (o : Option ℕ) → option_map ref_to (Classes.or_else (option_map (Foreign file) o) (foreign_from (file + 1) trees x)) ≡ or_else (option_map (Outside file) o) (option_map ref_to (foreign_from (file + 1) trees x))
    by None = refl
    by (Some token) = refl

pub foreign_more : (trees : List ExportTree) (i : ℕ) (t : ExportTree) (x : List ℕ) (old new total : Option ClassRef) → i < length trees → t ≡ get_or trees i t
    → new ≡ or_else old (exported_ref i t.classes x)
    → or_else old (option_map ref_to (foreign_from i (drop i trees) x)) ≡ total → or_else new (option_map ref_to (foreign_from (i + 1) (drop (i + 1) trees) x)) ≡ total
foreign_more trees i t x old new total lt is n so_far =
    let d : drop i trees ≡ t ∷ drop (i + 1) trees = drop_more trees i t lt ∙ ap (λ (y : ExportTree). y ∷ drop (i + 1) trees) (sym is) in
    let rest = option_map ref_to (foreign_from (i + 1) (drop (i + 1) trees) x) in
    ap (λ o. or_else o rest) n
    ∙ assoc old (exported_ref i t.classes x) rest
    ∙ ap (or_else old) (sym (first_foreign i t (drop (i + 1) trees) x))
    ∙ ap (λ (ts : List ExportTree). or_else old (option_map ref_to (foreign_from i ts x))) (sym d)
    ∙ so_far

pub foreign_all : (trees : List ExportTree) (i : ℕ) (x : List ℕ) (old total : Option ClassRef) → length trees ≤ i
    → or_else old (option_map ref_to (foreign_from i (drop i trees) x)) ≡ total → old ≡ total
foreign_all trees i x old total le so_far = last old ∙ ap (λ (ts : List ExportTree). or_else old (option_map ref_to (foreign_from i ts x))) (sym (drop_all i trees le)) ∙ so_far
