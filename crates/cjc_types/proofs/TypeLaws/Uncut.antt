-- No set of types is cut off in the least table of a method whose names are few.
use Rattle.std.proofs.Common.{◌≡◌, ℕ, zero, suc, List, [], ◌∷◌, slice_get, Option, Some, None, All, Contains, refl, ap}
use Rattle.std.proofs.Common.{subst, ◌∙◌, inl, inr}
use Rattle.std.proofs.lemmas.Option.{slice_get-get_or}
use Rattle.std.proofs.lemmas.List.Elements.{All-contains}
use Rattle.cjc_fixpoint.specs.Tables.{HasRow}
use Rattle.cjc_types.specs.declared.cell.Cell.{Cell}
use Rattle.cjc_types.specs.declared.cell.Cell.TheVariants.{Refs}
use Rattle.cjc_types.specs.declared.state.Stack.{Stack}
use Rattle.cjc_types.specs.declared.state.Stack.TheVariants.{Cells, Clash}
use Rattle.cjc_types.specs.declared.state.State.{State}
use Rattle.cjc_types.specs.Names.{In, IsSet, IsWithin, union}
use Rattle.cjc_types.specs.Working.NameLaws.{insert_cases, set_insert, set_union, union_least}
use Rattle.cjc_types.specs.Cells.{refs, IsNameSet, IsCell}
use Rattle.cjc_types.specs.States.{IsStack}
use Rattle.cjc_types.specs.Types.{held, with_held, elements}
use Rattle.cjc_types.specs.Flow.{Body}
use Rattle.cjc_types.specs.Tables.{IsLeastTable}
use Rattle.cjc_types.specs.Among.{IsAmong, AreAmong, IsStackAmong, HasNames}
use Rattle.cjc_types.proofs.Among.{least_among, refs_whole}
use Rattle.cjc_types.specs.TypeLaws.Whole.{IsOnStack, HasTypes}

-- ---- the elements of arrays

set_held : (found : Option (List ℕ)) (names : List (List ℕ)) → IsSet names → IsSet (with_held found names)
set_held None names h = h
set_held (Some name) names h = set_insert name names h

set_elements : (xs names : List (List ℕ)) → IsSet names → IsSet (elements xs names)
set_elements [] names h = h
set_elements (x ∷ xs) names h = set_elements xs (with_held (held x) names) (set_held (held x) names h)

elements_within : (names : List (List ℕ)) → ((n m : List ℕ) → In n names → held n ≡ Some m → In m names)
    → (xs more : List (List ℕ)) → IsWithin xs names → IsWithin more names → IsWithin (elements xs more) names
elements_within names closed [] more h k = k
elements_within names closed (x ∷ xs) more h k = elements_within names closed xs (with_held (held x) more)
    (λ n is. h n (inr is)) (go (held x) refl)
  where
    go : (found : Option (List ℕ)) → held x ≡ found → IsWithin (with_held found more) names
    go None e n is = k n is
    go (Some name) e n is = elim (insert_cases name n more is) [
      | inl same ↦ subst (λ (m : List ℕ). In m names) same (closed x name (h x (inl refl)) e)
      | inr old ↦ k n old
    ]

-- ---- the types of a state

among_at : (names : List (List ℕ)) (cells : List Cell) (k : ℕ) (c : Cell) → AreAmong names cells
    → slice_get cells k ≡ Some c → IsAmong names c
among_at names [] k c h e = absurd cc
among_at names (x ∷ xs) zero c h e = let same : x ≡ c = cc in subst (IsAmong names) same h.0
among_at names (x ∷ xs) (suc k) c h e = among_at names xs k c h.1 e

-- a set of these names
abbrev IsSetOf : List (List ℕ) → List (List ℕ) → Type 0
IsSetOf names types = IsSet types × IsWithin types names

in_cells : (names : List (List ℕ)) (cells : List Cell) (types : List (List ℕ)) → AreAmong names cells → All IsCell cells
    → Contains cells (Refs types) → IsSetOf names types
in_cells names cells types among own there =
    let cell : IsCell (Refs types) = All-contains IsCell cells (Refs types) own there in (
      cell.set,
      among_at names cells there.0 (Refs types) among (slice_get-get_or cells there.0 (Refs types) there.1
          ∙ ap Some there.2),
    )

on_stack : (names : List (List ℕ)) (s : Stack) (types : List (List ℕ)) → IsStackAmong names s → IsStack s
    → IsOnStack types s → IsSetOf names types
on_stack names (Cells s) types among own there = in_cells names s types among own.own there
on_stack names Clash types among own there = absurd there

in_row : (names : List (List ℕ)) (b : Body) (xs : List (Option State)) (p : ℕ) (x : State) (types : List (List ℕ))
    → HasNames names b → IsLeastTable b xs → HasRow xs p x → HasTypes x types → IsSetOf names types
in_row names b xs p x types has is row h = go h
  where
    go : HasTypes x types → IsSetOf names types
    go (inl there) = on_stack names x.stack types (least_among names b xs has is p x row).0 (is.closed.own p x row).0
        there
    go (inr there) = in_cells names x.locals types (least_among names b xs has is p x row).1
        (is.closed.own p x row).1.own there

-- ---- what is not cut off

pub union_whole : (names : List (List ℕ)) (b : Body) (xs : List (Option State)) (p q : ℕ) (x y : State)
    (types more : List (List ℕ)) → IsNameSet names → HasNames names b → IsLeastTable b xs
    → HasRow xs p x → HasRow xs q y → HasTypes x types → HasTypes y more → refs (union types more)
    ≡ Refs (union types more)
union_whole names b xs p q x y types more set has is row other h k =
    let first = in_row names b xs p x types has is row h in
    let second = in_row names b xs q y more has is other k in
    refs_whole names (union types more) set (set_union types more second.0) (union_least types more names first.1
    second.1)

pub elements_whole : (names : List (List ℕ)) (b : Body) (xs : List (Option State)) (p : ℕ) (x : State)
    (types : List (List ℕ)) → IsNameSet names → HasNames names b → IsLeastTable b xs
    → HasRow xs p x → HasTypes x types → refs (elements types []) ≡ Refs (elements types [])
elements_whole names b xs p x types set has is row h =
    let first = in_row names b xs p x types has is row h in
    refs_whole names (elements types []) set (set_elements types [] tt) (elements_within names has.held types [] first.1
    (λ n none. absurd none))
