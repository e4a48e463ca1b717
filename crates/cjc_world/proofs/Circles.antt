-- Whether some class of a list is its own super, one class after the other.
use Rattle.std.proofs.Common.{◌≡◌, ℕ, ◌+◌, ◌<◌, ◌≤◌, length, drop, refl, sym, ap, ◌∙◌, arith, Bool, true, false}
use Rattle.std.proofs.Common.{List, [], ◌∷◌, zero, suc}
use Rattle.std.specs.Prelude.{◌||◌, Option, Some, None, slice_get}
use Rattle.std.specs.List.{list_any}
use Rattle.std.proofs.lemmas.List.{drop_all}
use Rattle.std.proofs.lemmas.Option.{slice_get-get_or}
use Rattle.cjc_bytes.proofs.Gets.{drop_at}
use Rattle.cjc_world.specs.Classes.{Class, class_named}
use Rattle.cjc_world.specs.Supertypes.{IsAcyclic, stands_above}
use Rattle.cjc_world.specs.Rules.{has_cycle, is_own_super, is_own_super_of}
use Rattle.cjc_world.proofs.Cycles.{class_named-name, above-class, stands_where_above}
use Rattle.cjc_world.proofs.Gets.{named-none}

got : {A : Type 0} (xs : List A) (k : ℕ) → k < length xs → (x : A) × (slice_get xs k ≡ Some x)
got [] k lt = absurd (omega arith)
got (x ∷ xs) zero lt = (x, refl)
got (x ∷ xs) (suc k) lt = got xs k (omega arith)

step : (w : List Class) (k : ℕ) → k < length w → list_any (λ c. is_own_super w c) (drop k w)
    ≡ (is_own_super_of w (slice_get w k) || list_any (λ c. is_own_super w c) (drop (k + 1) w))
step w k lt =
    let d = got w k lt in
    ap (list_any (λ c. is_own_super w c)) (drop_at w k d.0 d.1)
    ∙ ap (λ o. is_own_super_of w o || list_any (λ c. is_own_super w c) (drop (k + 1) w)) (sym d.1)

-- a class that is its own super stands at this place
pub circle_here : (w : List Class) (k : ℕ) (total : Bool) → k < length w → true ≡ is_own_super_of w (slice_get w k)
    → list_any (λ c. is_own_super w c) (drop k w) ≡ total → true ≡ total
circle_here w k total lt here so_far =
    ap (λ b. b || list_any (λ c. is_own_super w c) (drop (k + 1) w)) here ∙ sym (step w k lt) ∙ so_far

-- none does, so it is as behind it
pub circle_behind : (w : List Class) (k : ℕ) (total : Bool) → k < length w → false ≡ is_own_super_of w (slice_get w k)
    → list_any (λ c. is_own_super w c) (drop k w) ≡ total → list_any (λ c. is_own_super w c) (drop (k + 1) w) ≡ total
circle_behind w k total lt here so_far =
    ap (λ b. b || list_any (λ c. is_own_super w c) (drop (k + 1) w)) here ∙ sym (step w k lt) ∙ so_far

-- past the last there is none
pub circle_end : (w : List Class) (k : ℕ) (total : Bool) → length w ≤ k
    → list_any (λ c. is_own_super w c) (drop k w) ≡ total → false ≡ total
circle_end w k total le so_far = ap (list_any (λ c. is_own_super w c)) (sym (drop_all k w le)) ∙ so_far

-- where no class is its own super there are no cycles
pub none_is_acyclic : (w : List Class) → has_cycle w ≡ false → IsAcyclic w
none_is_acyclic w none x far =
    let c = above-class w x x far in
    let not_above = named-none w (λ c. is_own_super w c) w x c.0 c.1 none in
    let is = class_named-name w x c.0 c.1 in
    let above : stands_above w c.0.name c.0.name ≡ true = ap (λ v. stands_above w v v) is
    ∙ (stands_where_above w x x).1 far in
    cc
