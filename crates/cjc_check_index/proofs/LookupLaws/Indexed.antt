-- Classes by token, and classes and interfaces by where they begin.
use Rattle.std.proofs.Common.{◌≡◌, ℕ, suc, ◌+◌, ◌-◌, ◌<◌, ◌≤◌, ◌==◌, Bool, List, [], ◌∷◌, length, get_or, refl, sym, ap}
use Rattle.std.proofs.Common.{◌∙◌, arith, Option, Some, None, slice_get, if◌then◌else◌}
use Rattle.std.specs.Prelude.{map, option_and_then, option_map}
use Rattle.std.specs.List.{find}
use Rattle.std.proofs.lemmas.List.{length-map}
use Rattle.std.proofs.lemmas.Option.{slice_get_past, slice_get-map, slice_get-get_or}
use Rattle.std.proofs.lemmas.List.FromFn.{length-map-range_with_len, get_or-map-range_with_len}
use Rattle.cjc_check_rules.specs.ExportFile.declared.tree.ExportClass.{ExportClass}
use Rattle.cjc_check_rules.specs.ExportFile.declared.tree.ExportTree.{ExportTree}
use Rattle.cjc_check_rules.specs.Classes.{imported, class_with}
use Rattle.cjc_check_index.specs.Lookup.Indexed.{place_from, places_of}
use Rattle.cjc_check_rules.proofs.BytesBools.{bool_either}

pub places_are_256 : (classes : List ExportClass) → length (places_of classes) ≡ 256
places_are_256 classes = length-map-range_with_len (place_from 0 classes) 0 256

pub place_is : (classes : List ExportClass) (places : List (Option ℕ)) (token : ℕ) (d : Option ℕ) → token < 256
    → places ≡ places_of classes → get_or places token d ≡ place_from 0 classes token
place_is classes places token d lt e = rw e (get_or-map-range_with_len (place_from 0 classes) 0 256 token token d lt
    (omega arith))

above : (at token k : ℕ) (classes : List ExportClass) → place_from at classes token ≡ Some k → at ≤ k
above at token k [] e = absurd (cc)
above at token k (c ∷ classes) e =
    bool_either (c.token == token)
    (λ is. let f : Some at ≡ Some k = sym (ap (λ (t : Bool). if t then Some at else place_from (at + 1) classes token)
    is) ∙ e in let g : at ≡ k = cc in omega (arith, g))
    (λ is. let f : place_from (at + 1) classes token ≡ Some k = sym (ap (λ (t : Bool). if t then Some at
    else place_from (at + 1) classes token) is) ∙ e in let h = above (at + 1) token k classes f in omega (arith, h))

-- the class at the place, counted from the first of these
class_from : (at : ℕ) → List ExportClass → Option ℕ → Option ExportClass
class_from at classes place = option_and_then (λ k. slice_get classes (k - at)) place

later : (at token : ℕ) (c : ExportClass) (classes : List ExportClass) (place : Option ℕ)
    → place_from (at + 1) classes token ≡ place → class_from at (c ∷ classes) place ≡ class_from (at + 1) classes place
unfolding class_from
later at token c classes None e = refl
later at token c classes (Some k) e =
    let h = above (at + 1) token k classes e in
    let s : k - at ≡ suc (k - (at + 1)) = omega (arith, h) in
    ap (λ (n : ℕ). slice_get (c ∷ classes) n) s

found_from : (at token : ℕ) (classes : List ExportClass) → class_from at classes (place_from at classes token)
    ≡ find (λ c. c.token == token) classes
unfolding class_from
found_from at token [] = refl
found_from at token (c ∷ classes) =
    bool_either (c.token == token)
    (λ is. let z : at - at ≡ 0 = omega arith in rw is (ap (λ (n : ℕ). slice_get (c ∷ classes) n) z))
    (λ is. rw is (later at token c classes (place_from (at + 1) classes token) refl
    ∙ found_from (at + 1) token classes))

pub found_at : (token k : ℕ) (classes : List ExportClass) → place_from 0 classes token ≡ Some k
    → slice_get classes k ≡ find (λ c. c.token == token) classes
unfolding class_from
found_at token k classes e =
    let z : k - 0 ≡ k = omega arith in
    ap (λ (n : ℕ). slice_get classes n) (sym z) ∙ ap (class_from 0 classes) (sym e) ∙ found_from 0 token classes

pub none_found : (token : ℕ) (classes : List ExportClass) → place_from 0 classes token ≡ None
    → None ≡ find (λ c. c.token == token) classes
unfolding class_from
none_found token classes e = ap (class_from 0 classes) (sym e) ∙ found_from 0 token classes

-- ---- files

pub file_at : (exports : List ExportTree) (tree : ExportTree) (import class : ℕ) → import < length exports
    → tree ≡ get_or exports import tree → imported exports import class ≡ find (λ c. c.token == class) tree.classes
file_at exports tree import class lt is = ap (option_and_then (class_with class)) (slice_get-get_or exports import tree
    lt ∙ ap Some (sym is))

pub places_at : (exports : List ExportTree) (tokens : List (List (Option ℕ))) (i : ℕ) (tree : ExportTree)
    (places : List (Option ℕ)) → i < length exports → tree ≡ get_or exports i tree → places ≡ get_or tokens i places
    → tokens ≡ map (λ t. places_of t.classes) exports → places ≡ places_of tree.classes
places_at exports tokens i tree places lt is p e =
    let one = slice_get-map (λ (t : ExportTree). places_of t.classes) exports i in
    let there = slice_get-get_or exports i tree lt in
    let n : i < length tokens = rw e (rw length-map lt) in
    let two = slice_get-get_or tokens i places n in
    let same : Some places ≡ Some (places_of tree.classes) = ap Some p ∙ sym two
    ∙ ap (λ (ts : List (List (Option ℕ))). slice_get ts i) e ∙ one
    ∙ ap (option_map (λ (t : ExportTree). places_of t.classes)) (there ∙ ap Some (sym is)) in
    cc

-- ---- a look-up in places, the index and the default as code has them

pub found_class : (classes : List ExportClass) (places : List (Option ℕ)) (token n k : ℕ) (d : Option ℕ)
    (c : ExportClass)
    → token < 256 → places ≡ places_of classes → n ≡ token → get_or places n d ≡ Some k → k < length classes
    → c ≡ get_or classes k c → Some c ≡ find (λ x. x.token == token) classes
found_class classes places token n k d c lt e m is inside there =
    let at : place_from 0 classes token ≡ Some k = sym (place_is classes places token d lt e)
    ∙ ap (λ (t : ℕ). get_or places t d) (sym m) ∙ is in
    ap Some there ∙ sym (slice_get-get_or classes k c inside) ∙ found_at token k classes at

pub past_class : (classes : List ExportClass) (places : List (Option ℕ)) (token n k : ℕ) (d : Option ℕ)
    → token < 256 → places ≡ places_of classes → n ≡ token → get_or places n d ≡ Some k → length classes ≤ k
    → None ≡ find (λ x. x.token == token) classes
past_class classes places token n k d lt e m is past =
    let at : place_from 0 classes token ≡ Some k = sym (place_is classes places token d lt e)
    ∙ ap (λ (t : ℕ). get_or places t d) (sym m) ∙ is in
    sym (slice_get_past classes k past) ∙ found_at token k classes at

pub no_class : (classes : List ExportClass) (places : List (Option ℕ)) (token n : ℕ) (d : Option ℕ)
    → token < 256 → places ≡ places_of classes → n ≡ token → get_or places n d ≡ None
    → None ≡ find (λ x. x.token == token) classes
no_class classes places token n d lt e m is =
    none_found token classes (sym (place_is classes places token d lt e) ∙ ap (λ (t : ℕ). get_or places t d) (sym m)
    ∙ is)
