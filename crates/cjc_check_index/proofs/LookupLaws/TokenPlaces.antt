-- Places of classes put down by token, one by one.
use Rattle.std.proofs.Common.{◌≡◌, ℕ, ◌+◌, ◌<◌, ◌≤◌, ◌==◌, Bool, List, [], ◌∷◌, ◌++◌, length, get_or, set}
use Rattle.std.proofs.Common.{take, drop, map, refl, sym, ap, ◌∙◌, arith, Option, Some, None}
use Rattle.std.specs.Prelude.{if◌then◌else◌}
use Rattle.std.proofs.lemmas.List.{drop_more, drop_all, get_or-set_other, map-append, take_more}
use Rattle.std.proofs.lemmas.List.FromFn.{fill_by_all}
use Rattle.std.proofs.lemmas.Grind.{get_or-set_at}
use Rattle.std.proofs.lemmas.Bool.Decides.{nat_tests}
use Rattle.cjc_check_rules.specs.ExportFile.declared.tree.ExportClass.{ExportClass}
use Rattle.cjc_check_rules.specs.ExportFile.declared.tree.ExportTree.{ExportTree}
use Rattle.cjc_check_index.specs.Lookup.Indexed.{place_from, places_of}
use Rattle.cjc_check_index.specs.Lookup.Tokens.{or_else}
use Rattle.cjc_check_rules.proofs.BytesBools.{bool_either}
use Rattle.cjc_check_rules.proofs.BytesNumbers.{number_apart}

twice : (a : Option ℕ) (i : ℕ) (r : Option ℕ) → or_else (or_else a (Some i)) r ≡ or_else a (Some i)
twice None i r = refl
twice (Some k) i r = refl

front : (i t : ℕ) (x : ExportClass) (xs : List ExportClass) → i < length xs → x ≡ get_or xs i x
    → place_from i (drop i xs) t ≡ (if x.token == t then Some i else place_from (i + 1) (drop (i + 1) xs) t)
front i t x xs lt is = ap (λ (ys : List ExportClass). place_from i ys t) (drop_more xs i x lt
    ∙ ap (λ (y : ExportClass). y ∷ drop (i + 1) xs) (sym is))

pub places_more : (i t : ℕ) (x : ExportClass) (xs : List ExportClass) (places next : List (Option ℕ)) (total : Option ℕ)
    → i < length xs → x ≡ get_or xs i x → length places ≡ 256 → t < 256
    → next ≡ set places x.token (or_else (get_or places x.token None) (Some i))
    → or_else (get_or places t None) (place_from i (drop i xs) t) ≡ total
    → or_else (get_or next t None) (place_from (i + 1) (drop (i + 1) xs) t) ≡ total
places_more i t x xs places next total lt is len small n so_far =
    let rest = place_from (i + 1) (drop (i + 1) xs) t in
    let v = or_else (get_or places x.token None) (Some i) in
    let before : or_else (get_or places t None) (if x.token == t then Some i else rest) ≡ total =
    sym (ap (or_else (get_or places t None)) (front i t x xs lt is)) ∙ so_far in
    bool_either (x.token == t)
    (λ yes.
    let same : x.token ≡ t = grind (arith, nat_tests, yes) in
    let g : get_or next t None ≡ v = ap (λ (ys : List (Option ℕ)). get_or ys t None) n
    ∙ get_or-set_at places x.token t v None (sym same) (omega (arith, len, small, same)) in
    let b : or_else (get_or places t None) (Some i) ≡ total =
    sym (ap (λ (q : Bool). or_else (get_or places t None) (if q then Some i else rest)) yes) ∙ before in
    rw g (twice (get_or places x.token None) i rest ∙ ap (λ (k : ℕ). or_else (get_or places k None) (Some i)) same ∙ b))
    (λ no.
    let g : get_or next t None ≡ get_or places t None = ap (λ (ys : List (Option ℕ)). get_or ys t None) n
    ∙ get_or-set_other places x.token t v None (number_apart x.token t no) in
    let b : or_else (get_or places t None) rest ≡ total =
    sym (ap (λ (q : Bool). or_else (get_or places t None) (if q then Some i else rest)) no) ∙ before in
    rw g b)

pub places_all : (i : ℕ) (xs : List ExportClass) (places : List (Option ℕ)) → length xs ≤ i → length places ≡ 256
    → ((t : ℕ) → t < 256 → or_else (get_or places t None) (place_from i (drop i xs) t) ≡ place_from 0 xs t)
    → places ≡ places_of xs
places_all i xs places le len h = fill_by_all (place_from 0 xs) places 256 None len
    (λ t lt. sym (last (get_or places t None))
    ∙ sym (ap (λ (ys : List ExportClass). or_else (get_or places t None) (place_from i ys t)) (drop_all i xs le))
    ∙ h t lt)
  where
    last : (a : Option ℕ) → or_else a None ≡ a
    last None = refl
    last (Some k) = refl

pub tokens_more : (exports : List ExportTree) (i : ℕ) (tree : ExportTree) (tokens next : List (List (Option ℕ)))
    (places : List (Option ℕ))
    → i < length exports → tree ≡ get_or exports i tree → places ≡ places_of tree.classes → next ≡ tokens ++ places ∷ []
    → tokens ≡ map (λ t. places_of t.classes) (take i exports)
    → next ≡ map (λ t. places_of t.classes) (take (i + 1) exports)
tokens_more exports i tree tokens next places lt is p n so_far =
    let f : ExportTree → List (Option ℕ) = λ t. places_of t.classes in
    let e : take (i + 1) exports ≡ take i exports ++ tree ∷ [] = take_more exports i tree lt
    ∙ ap (λ (t : ExportTree). take i exports ++ t ∷ []) (sym is) in
    n ∙ ap (λ (ts : List (List (Option ℕ))). ts ++ places ∷ []) so_far
    ∙ ap (λ (ps : List (Option ℕ)). map f (take i exports) ++ ps ∷ []) p
    ∙ sym (map-append f (take i exports) (tree ∷ [])) ∙ sym (ap (map f) e)
