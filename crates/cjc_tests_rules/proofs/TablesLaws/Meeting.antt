-- The flow of names meets where its targets are marked.
use Rattle.std.proofs.Common.{◌≡◌, ◌<◌, ◌+◌, ◌⊎◌, ℕ, suc, nat_lt, Bool, true, false, cond, List, [], ◌∷◌, Option, Some}
use Rattle.std.proofs.Common.{None, slice_get, length, map, filter, Contains, refl, sym, ◌∙◌, subst, inl, inr, arith}
use Rattle.std.proofs.lemmas.Bool.{ltb-true, cases_lt}
use Rattle.cjc_types.specs.Fixpoint.declared.flow.Edge.{Edge}
use Rattle.cjc_types.specs.Fixpoint.Working.Edges.{contains_cons}
use Rattle.cjc_types.specs.Fixpoint.Working.HandedLaws.{some_injective}
use Rattle.cjc_types.specs.Fixpoint.Kept.{MeetsAt}
use Rattle.cjc_types.specs.Fixpoint.Marked.{marks_in}
use Rattle.cjc_tests_rules.specs.Tables.Names.{union, edge, place_edges, name_flow, Goes, AllGo}
use Rattle.cjc_types.specs.Fixpoint.Working.SegmentLaws.{contains_none}
use Rattle.cjc_types.proofs.Fixpoint.Marked.{marks_have}

abbrev On : List Bool → (at to : ℕ) → Type 0
On marked at to = (to ≡ suc at) ⊎ Contains (marks_in marked) to

on_target : (places : ℕ) (marked : List Bool) (at to : ℕ) → length marked ≡ places → nat_lt to places ≡ true
    → Goes marked at to → On marked at to
on_target places marked at to sized lt goes =
    let less : to < length marked = let l = ltb-true to places lt in omega (arith, l, sized) in
    elim (goes less) [
      | inl next ↦ inl next
      | inr is ↦ inr (marks_have marked to less is)
    ]

on_edges : (places : ℕ) (marked : List Bool) (at left right : ℕ) (state : List ℕ) (e : Edge (List ℕ))
    → length marked ≡ places → Goes marked at left → Goes marked at right
    → Contains (map (edge state) (filter (λ to. nat_lt to places) (left ∷ right ∷ []))) e → On marked at e.to
on_edges places marked at left right state e sized goes goes' has = by (nat_lt left places) (nat_lt right places) refl
    refl has
  where
    here : (to : ℕ) → edge state to ≡ e → On marked at to → On marked at e.to
    here to same on = subst (λ (f : Edge (List ℕ)). On marked at f.to) same on

    by : (a b : Bool) → nat_lt left places ≡ a → nat_lt right places ≡ b
        → Contains (map (edge state) (cond a (left ∷ cond b (right ∷ []) []) (cond b (right ∷ []) []))) e
        → On marked at e.to
    by false false is is' has = absurd (contains_none e has)
    by false true is is' has = elim (contains_cons (edge state right) [] e has) [
      | inl same ↦ here right same (on_target places marked at right sized is' goes')
      | inr none ↦ absurd (contains_none e none)
    ]
    by true false is is' has = elim (contains_cons (edge state left) [] e has) [
      | inl same ↦ here left same (on_target places marked at left sized is goes)
      | inr none ↦ absurd (contains_none e none)
    ]
    by true true is is' has = elim (contains_cons (edge state left) (edge state right ∷ []) e has) [
      | inl same ↦ here left same (on_target places marked at left sized is goes)
      | inr later ↦ elim (contains_cons (edge state right) [] e later) [
        | inl same ↦ here right same (on_target places marked at right sized is' goes')
        | inr none ↦ absurd (contains_none e none)
      ]
    ]

pub names_meet : (names : List ℕ) (code : List (ℕ × ℕ × ℕ)) (marked : List Bool) → length marked ≡ length code
    → AllGo code marked (length code) → MeetsAt (name_flow names code) (length code) (marks_in marked)
names_meet names code marked sized go at x lt own e has = by (slice_get code at) refl has
  where
    by : (place : Option (ℕ × ℕ × ℕ)) → slice_get code at ≡ place → Contains (place_edges names (length code) place x) e
        → On marked at e.to
    by None is has = absurd (contains_none e has)
    by (Some (name, left, right)) is has = let both = go at (name, left, right) lt is
        in on_edges (length code) marked at left right (union names (name ∷ []) x) e sized both.0 both.1 has

-- one place more
pub go_more : (code : List (ℕ × ℕ × ℕ)) (marked : List Bool) (at : ℕ) (p : ℕ × ℕ × ℕ) → slice_get code at ≡ Some p
    → AllGo code marked at → Goes marked at p.1 → Goes marked at p.2 → AllGo code marked (at + 1)
go_more code marked at p is before left right k q lt there = elim (cases_lt k at) [
  | inl less ↦ before k q less there
  | inr last ↦
      let same : k ≡ at = omega (arith, lt, last) in
      let there' : slice_get code at ≡ Some q = subst (λ (i : ℕ). slice_get code i ≡ Some q) same there in
      let one : p ≡ q = some_injective p q (sym is ∙ there') in
      subst (λ (i : ℕ). Goes marked i q.1 × Goes marked i q.2) (sym same) (subst (λ (r : ℕ × ℕ × ℕ). Goes marked at r.1
      × Goes marked at r.2) one (left, right))
]
