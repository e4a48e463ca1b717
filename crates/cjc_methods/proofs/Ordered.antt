-- The classes of a package in order, by their numbers.
use Rattle.std.proofs.Common.{◌≡◌, ℕ, zero, suc, ◌+◌, ◌≤◌, refl, sym, ap, ◌∙◌, arith, false, List, [], ◌∷◌, ◌++◌}
use Rattle.std.proofs.Common.{length, drop, append_assoc, append-nil}
use Rattle.std.specs.Prelude.{map, slice_get, Some}
use Rattle.std.proofs.lemmas.List.{drop_all, length-map}
use Rattle.std.proofs.lemmas.Option.{slice_get_within, get_or_from_slice_get}
use Rattle.cjc_world.specs.declared.found.Found.{Found}
use Rattle.cjc_world.specs.Classes.{Class, class_at}
use Rattle.cjc_world.specs.Order.{methods_in_turn, methods_of_class}
use Rattle.cjc_bytes.proofs.Gets.{from_index}

-- what two lists that are alike have at a place
pub at_place : (w : List Class) (cs : List Class) (order : List ℕ) (k n : ℕ)
    → map Some cs ≡ map (class_at w false) order → slice_get order k ≡ Some n → (c : Class) × (slice_get cs k ≡ Some c)
    × (class_at w false n ≡ Some c)
at_place w [] [] k n e f = cc
at_place w [] (m ∷ order) k n e f = cc
at_place w (c ∷ cs) [] k n e f = cc
at_place w (c ∷ cs) (m ∷ order) zero n e f =
    let same : m ≡ n = cc in
    let is : Some c ≡ class_at w false m = cc in
    (c, refl, ap (class_at w false) (sym same) ∙ sym is)
at_place w (c ∷ cs) (m ∷ order) (suc k) n e f =
    let rest : map Some cs ≡ map (class_at w false) order = cc in
    let (x, at, is) = at_place w cs order k n rest f in
    (x, at, is)

from_place : (cs : List Class) (k : ℕ) (c : Class) → slice_get cs k ≡ Some c → drop k cs ≡ c ∷ drop (k + 1) cs
from_place cs k c e = from_index cs k c (slice_get_within cs k c e)
    ∙ ap (λ d. d ∷ drop (k + 1) cs) (get_or_from_slice_get cs k c c e)

-- the methods of one class more
pub in_turn_next : (w cs : List Class) (k : ℕ) (c : Class) (out new total : List Found) → slice_get cs k ≡ Some c
    → new ≡ out ++ methods_of_class w c
    → out ++ methods_in_turn w (drop k cs) ≡ total → new ++ methods_in_turn w (drop (k + 1) cs) ≡ total
in_turn_next w cs k c out new total at put e =
    ap (λ front. front ++ methods_in_turn w (drop (k + 1) cs)) put
    ∙ append_assoc out (methods_of_class w c) (methods_in_turn w (drop (k + 1) cs))
    ∙ ap (λ rest. out ++ methods_in_turn w rest) (sym (from_place cs k c at))
    ∙ e

pub in_turn_end : (w cs : List Class) (order : List ℕ) (k : ℕ) (out total : List Found)
    → map Some cs ≡ map (class_at w false) order → length order ≤ k → out ++ methods_in_turn w (drop k cs) ≡ total
    → out ≡ total
in_turn_end w cs order k out total e le f =
    let long : length cs ≡ length order = sym (length-map cs Some) ∙ ap length e ∙ length-map order (class_at w false)
    in
    sym (append-nil out) ∙ ap (λ rest. out ++ methods_in_turn w rest) (sym (drop_all k cs (omega (arith, long)))) ∙ f
