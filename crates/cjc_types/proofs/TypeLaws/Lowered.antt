-- A least table is below every closed table, however high that one's stacks: among more heights than instructions one
-- is free,
-- and what is above it in a closed table is needed by nothing below it.
use Rattle.std.proofs.Common.{◌≡◌, ◌≢◌, ◌⊎◌, ◌≤◌, ◌<◌, ◌+◌, ◌-◌, ◌*◌, ◌/◌, ℕ, zero, suc, Bool, true, false, cond}
use Rattle.std.proofs.Common.{nat_lt, nat_le, List, [], ◌∷◌, map, filter_map, length, slice_get, Option, Some, None}
use Rattle.std.proofs.Common.{option_map, Contains, refl, sym, ◌∙◌, ap, subst, inl, inr, arith}
use Rattle.std.specs.List.{cons_option}
use Rattle.std.proofs.lemmas.Bool.{ltb-true, ltb-false, leb-false}
use Rattle.std.proofs.lemmas.Option.{same_Some, slice_get_within}
use Rattle.std.proofs.lemmas.List.{length-map}
use Rattle.std.proofs.lemmas.List.Elements.{Contains-append_left, Contains-append_right, Contains-append_cases}
use Rattle.cjc_classfile.specs.declared.tree.Catch.{Catch}
use Rattle.cjc_code.specs.declared.insn.JInsn.{JInsn}
use Rattle.cjc_code.specs.declared.insn.JOp.{JOp}
use Rattle.cjc_fixpoint.specs.declared.flow.Edge.{Edge}
use Rattle.cjc_fixpoint.specs.Tables.{HasRow, Covers, IsBelow, IsClosed}
use Rattle.cjc_fixpoint.specs.Working.Edges.{contains_head, contains_tail, contains_cons}
use Rattle.cjc_types.specs.declared.cell.Cell.{Cell}
use Rattle.cjc_types.specs.declared.state.Stack.{Stack}
use Rattle.cjc_types.specs.declared.state.Stack.TheVariants.{Cells, Clash}
use Rattle.cjc_types.specs.declared.state.State.{State}
use Rattle.cjc_types.specs.States.{most_cells, IsStack}
use Rattle.cjc_types.specs.Steps.{stack_behind, stack_after, locals_after, after}
use Rattle.cjc_types.specs.Flow.{Body, entry, place_at, successors, edge, covers, caught, handler_edge, insn_edges}
use Rattle.cjc_types.specs.Flow.{place_edges, type_flow}
use Rattle.cjc_types.specs.Tables.{IsLeastTable}
use Rattle.cjc_types.proofs.Heights.{HasValues, many_places, sought, behind_few, IsUnder, lower, lower_row, HasGap}
use Rattle.cjc_types.proofs.Heights.{covers_lower, height, height_of, block, under_of, height_under, not_cut}
use Rattle.cjc_types.proofs.Typed.{contains_mapped, contains_kept}
use Rattle.cjc_types.specs.TypeLaws.Closed.{AreCells, whole_stack, whole_after, IsClosedTable}

-- ---- a free value

-- a value below m that no place has, or each has a place
searched : (m n : ℕ) (f : ℕ → ℕ) → ((j : ℕ) × (j < m) × ((k : ℕ) → k < n → f k ≢ j)) ⊎ HasValues n m f
searched zero n f = inr (λ j lt. absurd (omega (arith, lt)))
searched (suc m) n f = go (searched m n f) (sought n m f)
  where
    more : HasValues n m f → ((k : ℕ) × (k < n) × (f k ≡ m)) → HasValues n (suc m) f
    more h found j lt = by (nat_lt j m) refl
      where
        by : (b : Bool) → nat_lt j m ≡ b → (k : ℕ) × (k < n) × (f k ≡ j)
        by true e = h j (ltb-true j m e)
        by false e = let le = ltb-false j m e in let same : m ≡ j = omega (arith, le, lt) in (
          found.0,
          found.1,
          found.2
              ∙ same,
        )

    go : ((j : ℕ) × (j < m) × ((k : ℕ) → k < n → f k ≢ j)) ⊎ HasValues n m f → ((k : ℕ) × (k < n) × (f k ≡ m))
        ⊎ ((k : ℕ) → k < n → f k ≢ m) → ((j : ℕ) × (j < suc m) × ((k : ℕ) → k < n → f k ≢ j)) ⊎ HasValues n (suc m) f
    go (inl free) last = let lt = free.1 in inl (free.0, omega (arith, lt), free.2)
    go (inr all) (inl found) = inr (more all found)
    go (inr all) (inr none) = inl (m, omega arith, none)

-- of more values than places one is free
free_value : (n : ℕ) (f : ℕ → ℕ) → (j : ℕ) × (j ≤ n) × ((k : ℕ) → k < n → f k ≢ j)
free_value n f = go (searched (suc n) n f)
  where
    go : ((j : ℕ) × (j < suc n) × ((k : ℕ) → k < n → f k ≢ j)) ⊎ HasValues n (suc n) f → (j : ℕ) × (j ≤ n)
        × ((k : ℕ) → k < n → f k ≢ j)
    go (inl free) = let lt = free.1 in (free.0, omega (arith, lt), free.2)
    go (inr all) = let most = many_places n (suc n) f all in absurd (omega (arith, most))

-- ---- states below a height

-- below the limit nothing is cut off
whole_under : (op : JOp) (locals : List Cell) (n : ℕ) (s : Stack) → IsUnder n s → n + 6 ≤ most_cells
    → stack_after op locals s ≡ whole_stack op locals s
whole_under op locals n Clash h le = refl
whole_under op locals n (Cells s) h le = go (nat_le (length (stack_behind op locals s)) most_cells) refl
  where
    go : (b : Bool) → nat_le (length (stack_behind op locals s)) most_cells ≡ b
        → cond b (Cells (stack_behind op locals s)) Clash ≡ Cells (stack_behind op locals s)
    go true e = refl
    go false e =
        let few = behind_few op locals s in
        let many = leb-false (length (stack_behind op locals s)) most_cells e in
        absurd (omega (arith, few, many, h, le))

whole_rises : (op : JOp) (locals : List Cell) (n : ℕ) (s : Stack) → IsUnder n s
    → IsUnder (n + 6) (whole_stack op locals s)
whole_rises op locals n Clash h = tt
whole_rises op locals n (Cells s) h = let few = behind_few op locals s in omega (arith, few, h)

-- ---- edges, one by one

of_mapped : {A B : Type 0} (f : A → B) (xs : List A) (y : B) → Contains (map f xs) y → (x : A) × Contains xs x
    × (f x ≡ y)
of_mapped f [] y (k, lt, e) = absurd (omega (arith, lt))
of_mapped {A} {B} f (x ∷ xs) y is = elim (contains_cons (f x) (map f xs) y is) [
  | inl same ↦ (x, contains_head x xs, same)
  | inr later ↦ (let h = of_mapped f xs y later in (h.0, contains_tail x xs h.0 h.1, h.2))
]

of_kept : {A B : Type 0} (h : A → Option B) (xs : List A) (y : B) → Contains (filter_map h xs) y → (x : A)
    × Contains xs x × (h x ≡ Some y)
of_kept h [] y (k, lt, e) = absurd (omega (arith, lt))
of_kept {A} {B} h (x ∷ xs) y is = go (h x) refl is (of_kept h xs y)
  where
    later : (z : A) × Contains xs z × (h z ≡ Some y) → (z : A) × Contains (x ∷ xs) z × (h z ≡ Some y)
    later r = (r.0, contains_tail x xs r.0 r.1, r.2)

    go : (o : Option B) → h x ≡ o → Contains (cons_option o (filter_map h xs)) y → (Contains (filter_map h xs) y
        → (z : A) × Contains xs z × (h z ≡ Some y)) → (z : A) × Contains (x ∷ xs) z × (h z ≡ Some y)
    go None e is rest = later (rest is)
    go (Some w) e is rest = elim (contains_cons w (filter_map h xs) y is) [
      | inl same ↦ (x, contains_head x xs, e ∙ ap Some same)
      | inr further ↦ later (rest further)
    ]

-- an edge to a handler
record IsHandled (b : Body) (insn : JInsn) (x : State) (e : Edge State) : Type 0 where
  catch : Catch
  there : Contains b.catches catch
  covered : covers catch insn.at ≡ true
  target : place_at b.insns catch.target ≡ Some e.to
  state : caught catch x ≡ e.state

handler_of : (b : Body) (insn : JInsn) (x : State) (e : Edge State) (c : Catch) → Contains b.catches c
    → handler_edge b.insns insn.at x c ≡ Some e → IsHandled b insn x e
handler_of b insn x e c there is = go (covers c insn.at) refl (place_at b.insns c.target) refl is
  where
    go : (on : Bool) → covers c insn.at ≡ on → (found : Option ℕ) → place_at b.insns c.target ≡ found
        → cond on (option_map (edge (caught c x)) found) None ≡ Some e → IsHandled b insn x e
    go false on found at f = absurd cc
    go true on None at f = absurd cc
    go true on (Some to) at f =
        let same : edge (caught c x) to ≡ e = same_Some _ e f in
        record {
          catch = c;
          there = there;
          covered = on;
          target = at ∙ ap Some (ap (λ (d : Edge State). d.to) same);
          state = ap (λ (d : Edge State). d.state) same;
        }

-- ---- the closed table below a free height

own_under : (n : ℕ) (s : Stack) → AreCells s → IsUnder n s → n ≤ most_cells → IsStack s
own_under n Clash own h le = tt
own_under n (Cells s) own h le = record { few = omega (arith, h, le); own = own }

module _ (b : Body) (n : ℕ) (rows : List (Option State)) (closed : IsClosedTable b rows) (gap : HasGap n rows)
    (low : n + 6 ≤ most_cells) where
  after_lower : (k : ℕ) (x : State) (insn : JInsn) → HasRow rows k x → IsUnder n x.stack
      → slice_get b.insns k ≡ Some insn → (to : ℕ) → Contains (successors b.insns k insn.op) to
      → Covers (type_flow b) (map (lower (n + 6)) rows) to (after insn.op x)
  after_lower k x insn row h is to on =
      let same = whole_under insn.op x.locals n x.stack h low in
      let make : Stack → State = λ s. record { stack = s; locals = locals_after insn.op x.locals x.stack } in
      covers_lower b (n + 6) rows to (after insn.op x) (subst (IsUnder (n + 6)) (sym same) (whole_rises insn.op x.locals
      n x.stack h))
      (subst (Covers (type_flow b) rows to) (sym (ap make same)) (closed.next k x insn row is to on))

  caught_lower : (k : ℕ) (x : State) (insn : JInsn) (e : Edge State) → HasRow rows k x → slice_get b.insns k ≡ Some insn
      → IsHandled b insn x e → Covers (type_flow b) (map (lower (n + 6)) rows) e.to e.state
  caught_lower k x insn e row is h =
      covers_lower b (n + 6) rows e.to e.state (subst (λ (y : State). IsUnder (n + 6) y.stack) h.state one)
      (subst (Covers (type_flow b) rows e.to) h.state (closed.handled k x insn row is h.catch h.there h.covered e.to
      h.target))
    where
      one : IsUnder (n + 6) (caught h.catch x).stack
      one = omega arith

  step_lower : (k : ℕ) (x : State) (o : Option JInsn) → slice_get b.insns k ≡ o → HasRow rows k x → IsUnder n x.stack
      → (e : Edge State) → Contains (place_edges b k o x) e → Covers (type_flow b) (map (lower (n + 6)) rows) e.to
      e.state
  step_lower k x None is row h e (i, lt, same) = absurd (omega (arith, lt))
  step_lower k x (Some insn) is row h e on =
      elim (Contains-append_cases (map (edge (after insn.op x)) (successors b.insns k insn.op))
      (filter_map (handler_edge b.insns insn.at x) b.catches) e on) [
        | inl next ↦ (
            let m = of_mapped (edge (after insn.op x)) (successors b.insns k insn.op) e next in
            subst (λ (d : Edge State). Covers (type_flow b) (map (lower (n + 6)) rows) d.to d.state) m.2
            (after_lower k x insn row h is m.0 m.1))
        | inr handler ↦ (
            let m = of_kept (handler_edge b.insns insn.at x) b.catches e handler in
            caught_lower k x insn e row is (handler_of b insn x e m.0 m.1 m.2))
      ]

  lower_closed : IsClosed (type_flow b) (length b.insns) (map (lower (n + 6)) rows)
  lower_closed = record {
    sized = length-map rows (lower (n + 6)) ∙ closed.sized;
    own = λ k x h.
        let m = lower_row (n + 6) rows k x h in
        let state = closed.states k x m.0 in
        (own_under (n + 6) x.stack state.stack m.1 low, state.locals);
    entry = λ some. covers_lower b (n + 6) rows 0 (entry b) (omega arith) (closed.first some);
    steps = λ k x h e is.
        let m = lower_row (n + 6) rows k x h in
        step_lower k x (slice_get b.insns k) refl m.0 (gap k x m.0 m.1) e is;
  }

-- ---- the least table

gap_of : (j : ℕ) (rows : List (Option State)) → ((k : ℕ) → k < length rows → block rows k ≢ j) → HasGap (6 * j) rows
gap_of j rows none k x f under =
    let other = none k (slice_get_within rows k (Some x) f) in
    let at : block rows k ≡ height x.stack / 6 = ap (λ o. height_of o / 6) f in
    let few = height_under (6 * j + 6) x.stack (omega arith) under in
    let apart : height x.stack / 6 ≢ j = λ e. other (at ∙ e) in
    under_of (6 * j) x.stack (omega (arith, few, apart))

pub below_closed : (b : Body) (xs ys : List (Option State)) → IsLeastTable b xs → length b.insns ≤ 65535
    → IsClosedTable b ys → IsBelow (type_flow b) xs ys
unfolding most_cells
below_closed b xs ys is few closed k x row =
    let free = free_value (length ys) (block ys) in
    let j = free.0 in
    let at_most = free.1 in
    let sized = closed.sized in
    let low : 6 * j + 6 ≤ most_cells = omega (arith, at_most, sized, few) in
    let up = is.least (map (lower (6 * j + 6)) ys) (lower_closed b (6 * j) ys closed (gap_of j ys free.2) low) k x row
    in
    record { row = up.row; is_row = (lower_row (6 * j + 6) ys k up.row up.is_row).0; above = up.above }

-- ---- it is closed itself

whole_uncut : (b : Body) (rows : List (Option State)) → IsLeastTable b rows → length b.insns ≤ 65535
    → (k : ℕ) (x : State) (op : JOp) → HasRow rows k x → after op x ≡ whole_after op x
whole_uncut b rows is few k x op row = ap make (go x.stack refl)
  where
    make : Stack → State
    make s = record { stack = s; locals = locals_after op x.locals x.stack }

    go : (s : Stack) → x.stack ≡ s → stack_after op x.locals x.stack ≡ whole_stack op x.locals x.stack
    go Clash e = ap (stack_after op x.locals) e ∙ sym (ap (whole_stack op x.locals) e)
    go (Cells s) e = not_cut b rows is few k x s op row e ∙ sym (ap (whole_stack op x.locals) e)

cells_of_own : (s : Stack) → IsStack s → AreCells s
cells_of_own (Cells s) h = h.own
cells_of_own Clash h = tt

pub least_closed : (b : Body) (rows : List (Option State)) → IsLeastTable b rows → length b.insns ≤ 65535
    → IsClosedTable b rows
least_closed b rows is few = record {
  sized = is.closed.sized;
  states = λ k x row. let own = is.closed.own k x row in record { stack = cells_of_own x.stack own.0; locals = own.1 };
  first = is.closed.entry;
  next = λ k x insn row there to on. subst (Covers (type_flow b) rows to) (whole_uncut b rows is few k x insn.op row)
      (steps k x insn row there (edge (after insn.op x) to) (Contains-append_left _ _ _
      (contains_mapped (edge (after insn.op x)) (successors b.insns k insn.op) to on)));
  handled = λ k x insn row there c in_catches covered to found. steps k x insn row there (edge (caught c x) to)
      (Contains-append_right _ _ _ (contains_kept (handler_edge b.insns insn.at x) b.catches c (edge (caught c x) to)
      in_catches (handler c x insn to covered found)));
}
  where
    steps : (k : ℕ) (x : State) (insn : JInsn) → HasRow rows k x → slice_get b.insns k ≡ Some insn → (e : Edge State)
        → Contains (insn_edges b k insn x) e → Covers (type_flow b) rows e.to e.state
    steps k x insn row there e on =
        is.closed.steps k x row e (subst (λ (o : Option JInsn). Contains (place_edges b k o x) e) (sym there) on)

    handler : (c : Catch) (x : State) (insn : JInsn) (to : ℕ) → covers c insn.at ≡ true → place_at b.insns c.target
        ≡ Some to → handler_edge b.insns insn.at x c ≡ Some (edge (caught c x) to)
    handler c x insn to covered found = ap (λ on. cond on (option_map (edge (caught c x)) (place_at b.insns c.target))
        None) covered ∙ ap (option_map (edge (caught c x))) found
