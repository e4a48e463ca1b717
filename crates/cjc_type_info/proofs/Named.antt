-- What is put down for a package's names is their class_refs.
use Rattle.std.proofs.Common.{◌≡◌, ℕ, zero, suc, ◌+◌, Bool, true, false, List, [], ◌∷◌, ◌++◌, map, length, slice_get, refl, sym, ap, ◌∙◌, true≢false, Option, Some, None}
use Rattle.std.specs.Prelude.{if◌then◌else◌, option_map, option_and_then, unwrap_or, position, ◌||◌}
use Rattle.std.specs.List.{list_any}
use Rattle.std.specs.Str.{bytes_eq}
use Rattle.std.proofs.lemmas.Slice.Eq.{bytes_eq-Decides}
use Rattle.cjc_capread.specs.declared.tree.ClassRef.{ClassRef}
use Rattle.cjc_capread.specs.declared.tree.ClassRef.TheVariants.{Inside}
use Rattle.cjc_card.specs.Classes.{Own, foreign_from}
use Rattle.cjc_card.specs.Classes
use Rattle.cjc_world.specs.Files.{Files}
use Rattle.cjc_world.specs.Classes.{Class, all_classes}
use Rattle.cjc_world.specs.Order.{and_then, class_order, in_order, lined_up, may_stand, next}
use Rattle.cjc_tokens.proofs.Facts.{position-cons}
use Rattle.cjc_components.specs.Package.{Package, world}
use Rattle.cjc_components.specs.Names.{class_offset, class_ref, info_starts, ref_to}
use Rattle.cjc_type_info.specs.Working.Refs.{listed_ref, or_else, ref_or_first}

-- ---- no class of the order has a name that no class of the files has

none_first : {A : Type 0} (test : A → Bool) (x : A) (xs : List A) → list_any test (x ∷ xs) ≡ false → test x ≡ false
none_first test x xs e = by (test x) e
  where
    by : (b : Bool) → (b || list_any test xs) ≡ false → b ≡ false
    by true f = f
    by false f = refl

none_rest : {A : Type 0} (test : A → Bool) (x : A) (xs : List A) → list_any test (x ∷ xs) ≡ false → list_any test xs ≡ false
none_rest test x xs e = by (test x) e
  where
    by : (b : Bool) → (b || list_any test xs) ≡ false → list_any test xs ≡ false
    by true f = absurd (true≢false f)
    by false f = f

next_is_none : (test : Class → Bool) (w : List Class) (interfaces : Bool) (placed : List ℕ) (cs : List Class) (c : Class) → list_any test cs ≡ false → next w interfaces placed cs ≡ Some c → test c ≡ false
unfolding next
next_is_none test w interfaces placed [] c e n = absurd cc
next_is_none test w interfaces placed (d ∷ cs) c e n = by (next_is_none test w interfaces placed cs c (none_rest test d cs e)) (may_stand w interfaces placed d) n
  where
    by : (next w interfaces placed cs ≡ Some c → test c ≡ false) → (b : Bool) → (if b then Some d else next w interfaces placed cs) ≡ Some c → test c ≡ false
    by rest true m = let same : d ≡ c = cc in ap test (sym same) ∙ none_first test d cs e
    by rest false m = rest m

none_lined_up : (test : Class → Bool) (w : List Class) (interfaces : Bool) (n : ℕ) (placed : List ℕ) → list_any test w ≡ false → list_any test (lined_up w interfaces n placed) ≡ false
unfolding lined_up
none_lined_up test w interfaces zero placed e = refl
none_lined_up test w interfaces (suc n) placed e = by (λ c. none_lined_up test w interfaces n (placed ++ c.number ∷ []) e) (next w interfaces placed w) refl
  where
    by : ((c : Class) → list_any test (lined_up w interfaces n (placed ++ c.number ∷ [])) ≡ false) → (o : Option Class) → next w interfaces placed w ≡ o → list_any test (and_then o (λ c. lined_up w interfaces n (placed ++ c.number ∷ []))) ≡ false
    by rest None m = refl
    by rest (Some c) m = ap (λ b. b || list_any test (lined_up w interfaces n (placed ++ c.number ∷ []))) (next_is_none test w interfaces placed w c e m) ∙ rest c

none_in_both : {A : Type 0} (test : A → Bool) (xs ys : List A) → list_any test xs ≡ false → list_any test ys ≡ false → list_any test (xs ++ ys) ≡ false
none_in_both test [] ys e f = f
none_in_both test (x ∷ xs) ys e f = ap (λ b. b || list_any test (xs ++ ys)) (none_first test x xs e) ∙ none_in_both test xs ys (none_rest test x xs e) f

none_in_order : (test : Class → Bool) (w : List Class) → list_any test w ≡ false → list_any test (class_order w) ≡ false
unfolding class_order in_order
none_in_order test w e = none_in_both test (lined_up w true (length w) []) (lined_up w false (length w) []) (none_lined_up test w true (length w) [] e) (none_lined_up test w false (length w) [] e)

no_place : {A : Type 0} (test : A → Bool) (xs : List A) → list_any test xs ≡ false → position test xs ≡ None
no_place test [] e = refl
no_place test (x ∷ xs) e = position-cons test x xs ∙ by (test x) (none_first test x xs e) (no_place test xs (none_rest test x xs e))
  where
    by : (b : Bool) → b ≡ false → position test xs ≡ None → (if b then Some 0 else option_map suc (position test xs)) ≡ None
    by true f g = absurd (true≢false f)
    by false f g = ap (option_map suc) g

-- ---- class_refs

-- the class_ref of a class is that of its name
pub listed_where : (ref : List ℕ → ClassRef) (w : List Class) (x : List ℕ) → listed_ref w (map (λ c. ref c.name) w) x ≡ (if list_any (λ c. bytes_eq c.name x) w then Some (ref x) else None)
listed_where ref [] x = refl
listed_where ref (c ∷ w) x = by (listed_where ref w x) (bytes_eq c.name x) refl
  where
    by : listed_ref w (map (λ c. ref c.name) w) x ≡ (if list_any (λ c. bytes_eq c.name x) w then Some (ref x) else None) → (b : Bool) → bytes_eq c.name x ≡ b → (if b then Some (ref c.name) else listed_ref w (map (λ c. ref c.name) w) x) ≡ (if (b || list_any (λ c. bytes_eq c.name x) w) then Some (ref x) else None)
    by rest true e = ap (λ n. Some (ref n)) ((bytes_eq-Decides c.name x).0 e)
    by rest false e = rest

foreign_ref : (o : Option Classes.Class) → ref_or_first (option_map ref_to o) ≡ ref_to (unwrap_or o (Own 0 0))
foreign_ref None = refl
foreign_ref (Some c) = refl

pub refs_are : (p : Package) (x : List ℕ) → ref_or_first (or_else (listed_ref (world p) (map (λ c. class_ref p c.name) (world p)) x) (option_map ref_to (foreign_from 0 (let files = p.files in files.exports) x))) ≡ class_ref p x
refs_are p x =
    ap (λ o. ref_or_first (or_else o (option_map ref_to (foreign_from 0 (let files = p.files in files.exports) x)))) (listed_where (class_ref p) (world p) x)
    ∙ by (list_any (λ c. bytes_eq c.name x) (world p)) refl
  where
    by : (b : Bool) → list_any (λ c. bytes_eq c.name x) (world p) ≡ b → ref_or_first (or_else (if b then Some (class_ref p x) else None) (option_map ref_to (foreign_from 0 (let files = p.files in files.exports) x))) ≡ class_ref p x
    by true e = refl
    by false e =
        let nowhere : class_offset p x ≡ None = ap (option_and_then (slice_get (info_starts p))) (no_place (λ c. bytes_eq c.name x) (class_order (world p)) (none_in_order (λ c. bytes_eq c.name x) (world p) e)) in
        foreign_ref (foreign_from 0 (let files = p.files in files.exports) x)
        ∙ ap (λ o. ref_to (unwrap_or (Classes.or_else (option_map (Own 0) o) (foreign_from 0 (let files = p.files in files.exports) x)) (Own 0 0))) (sym nowhere)

-- the same of what is put down for the files of a package
pub refs_made : (p : Package) (files : Files) (refs : List ClassRef) → p.files ≡ files → refs ≡ map (λ c. class_ref p c.name) (all_classes files)
    → (x : List ℕ) → ref_or_first (or_else (listed_ref (all_classes files) refs x) (option_map ref_to (foreign_from 0 files.exports x))) ≡ class_ref p x
refs_made p files refs by_files are x =
    ap (λ (rs : List ClassRef). ref_or_first (or_else (listed_ref (all_classes files) rs x) (option_map ref_to (foreign_from 0 files.exports x)))) are
    ∙ ap (λ (fs : Files). ref_or_first (or_else (listed_ref (all_classes fs) (map (λ c. class_ref p c.name) (all_classes fs)) x) (option_map ref_to (foreign_from 0 fs.exports x)))) (sym by_files)
    ∙ refs_are p x
