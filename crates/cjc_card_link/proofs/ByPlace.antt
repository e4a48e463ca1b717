-- Classes of a package by their names, and their names.
use Rattle.std.proofs.Common.{◌≡◌, ℕ, zero, suc, ◌+◌, ◌≤◌, List, [], ◌∷◌, length, drop, refl, sym, ap, ◌∙◌, map, arith}
use Rattle.std.proofs.Common.{Option, Some, None}
use Rattle.std.specs.Prelude.{option_map, option_and_then, slice_get, if◌then◌else◌}
use Rattle.std.specs.Str.{bytes_eq}
use Rattle.std.proofs.lemmas.List.{drop_all}
use Rattle.std.proofs.lemmas.Option.{slice_get-map}
use Rattle.cjc_card_semantics.specs.Machine.Classes.{Class, Own, number_named, number_of, offset_of, or_else, own_from}
use Rattle.cjc_card_semantics.specs.Machine.Loaded.{Part}
use Rattle.cjc_card_link.specs.declared.names.ClassNames.{ClassNames}
use Rattle.cjc_card_link.specs.Indices.{first_place}
use Rattle.cjc_card_link.specs.Names.{class_names_of}
use Rattle.cjc_card_link.specs.Packages.{named_class}

pub named_place : (ns : List ClassNames) (name : List ℕ) → first_place (λ n. bytes_eq n.name name) ns
    ≡ number_named (map class_names_of ns) name
named_place [] name = refl
named_place (n ∷ ns) name = ap (λ (o : Option ℕ). if bytes_eq n.name name then Some 0 else option_map suc o)
    (named_place ns name)

-- the names with the number of the info at an offset
pub names_found : (cs : List ClassNames) (part : Part) (o n : ℕ) (r : Option ClassNames) → r ≡ slice_get cs n
    → Some n ≡ number_of part o → map class_names_of cs ≡ part.classes
    → option_map class_names_of r ≡ option_and_then (slice_get part.classes) (number_of part o)
names_found cs part o n r is at same =
    ap (option_map class_names_of) is
    ∙ sym (slice_get-map class_names_of cs n)
    ∙ ap (λ xs. slice_get xs n) same
    ∙ ap (option_and_then (slice_get part.classes)) at

-- ---- a class of a name, package by package

-- the class at an offset that is found
by_offset : (p : ℕ) (f : ℕ → Option ℕ) (n : Option ℕ) → option_map (Own p) (option_and_then f n)
    ≡ option_and_then (λ k. option_map (Own p) (f k)) n
by_offset p f None = refl
by_offset p f (Some n) = refl

pub class_by_offset : (p : ℕ) (part : Part) (parts : List Part) (name : List ℕ) (o : Option ℕ)
    → o ≡ option_and_then (offset_of part) (number_named part.classes name) → Some part ≡ slice_get parts p
    → option_map (Own p) o ≡ option_and_then (λ q. named_class p q name) (slice_get parts p)
class_by_offset p part parts name o is here =
    ap (option_map (Own p)) is
    ∙ by_offset p (offset_of part) (number_named part.classes name)
    ∙ ap (option_and_then (λ q. named_class p q name)) here

next_named : (name : List ℕ) (k i : ℕ) (parts : List Part) → own_from k (drop i parts) name
    ≡ or_else (option_and_then (λ q. named_class k q name) (slice_get parts i)) (own_from (k + 1) (drop (suc i) parts)
    name)
next_named name k zero [] = refl
next_named name k (suc i) [] = refl
next_named name k zero (part ∷ parts) = refl
next_named name k (suc i) (part ∷ parts) = next_named name k i parts

-- no class of the name in the package with this number
pub named_later : (name : List ℕ) (i : ℕ) (parts : List Part) (total : Option Class)
    → None ≡ option_and_then (λ q. named_class i q name) (slice_get parts i) → own_from i (drop i parts) name ≡ total
    → own_from (i + 1) (drop (i + 1) parts) name ≡ total
named_later name i parts total none so_far =
    let next : i + 1 ≡ suc i = omega arith in
    ap (λ n. own_from (i + 1) (drop n parts) name) next
    ∙ ap (λ (o : Option Class). or_else o (own_from (i + 1) (drop (suc i) parts) name)) none
    ∙ sym (next_named name i i parts)
    ∙ so_far

-- a class of the name in it
pub named_here : (name : List ℕ) (i : ℕ) (parts : List Part) (c : Class) (total : Option Class)
    → Some c ≡ option_and_then (λ q. named_class i q name) (slice_get parts i) → own_from i (drop i parts) name ≡ total
    → Some c ≡ total
named_here name i parts c total some so_far =
    ap (λ (o : Option Class). or_else o (own_from (i + 1) (drop (suc i) parts) name)) some
    ∙ sym (next_named name i i parts)
    ∙ so_far

-- none in any
pub named_nowhere : (name : List ℕ) (i : ℕ) (parts : List Part) (total : Option Class) → length parts ≤ i
    → own_from i (drop i parts) name ≡ total → None ≡ total
named_nowhere name i parts total le so_far = ap (λ (ps : List Part). own_from i ps name) (sym (drop_all i parts le))
    ∙ so_far
