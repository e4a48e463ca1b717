-- Where an instruction of a method in int mode leads, its tables know no more than it leaves.
use Rattle.std.proofs.Common.{◌≡◌, ◌⊎◌, ◌≤◌, ◌+◌, ℕ, zero, suc, Bool, true, false, cond, List, [], ◌∷◌, map}
use Rattle.std.proofs.Common.{length, slice_get, get_or, Option, Some, None, option_map, nat_le, All, refl}
use Rattle.std.proofs.Common.{sym, ap, subst, ◌∙◌, inl, inr, arith, ℤ}
use Rattle.std.specs.List.{AllZip, Contains}
use Rattle.std.proofs.lemmas.List.Elements.{All-nil, All-cons, Contains-append_left, Contains-append_right}
use Rattle.std.proofs.lemmas.Option.{get_or_from_slice_get}
use Rattle.cjc_bytes.specs.declared.fault.MemberId.{MemberId}
use Rattle.cjc_bytes.proofs.Gets.{get_below, get_inside}
use Rattle.cjc_range.specs.Span.{Span, Within, IsWord, full}
use Rattle.cjc_range.specs.Landmarks.{round_row}
use Rattle.cjc_range.proofs.Order.{within_refl, within_trans, word_full}
use Rattle.cjc_range.proofs.Rounding.{round_within}
use Rattle.cjc_code.specs.ClassFile.declared.tree.Catch.{Catch}
use Rattle.cjc_code.specs.declared.insn.JInsn.{JInsn}
use Rattle.cjc_types.specs.Fixpoint.declared.flow.Edge.{Edge}
use Rattle.cjc_types.specs.Fixpoint.Tables.{HasRow, Covers}
use Rattle.cjc_world.specs.Classes.{Class}
use Rattle.cjc_types.specs.declared.cell.Cell.{Cell}
use Rattle.cjc_types.specs.declared.cell.Cell.TheVariants.{Number, Refs}
use Rattle.cjc_types.specs.declared.state.Stack.{Stack}
use Rattle.cjc_types.specs.declared.state.Stack.TheVariants as stacks
use Rattle.cjc_types.specs.declared.state.State.{State}
use Rattle.cjc_types.specs.Cells.{IsCellBelow}
use Rattle.cjc_types.specs.States.{most_cells, IsStackAbove}
use Rattle.cjc_types.specs.Rules.{is_number, Breaks, clash}
use Rattle.cjc_types.specs.Search.{cells_of}
use Rattle.cjc_types.specs.Steps as typed
use Rattle.cjc_types.specs.Flow.{Body, place_at, successors, covers, caught_type, type_flow}
use Rattle.cjc_types.specs.Flow as types
use Rattle.cjc_types.specs.TypeLaws.Closed.{whole_stack, whole_after}
use Rattle.cjc_types.proofs.Typed.{contains_mapped, contains_kept}
use Rattle.cjc_ncode.specs.ByLabel.{Named}
use Rattle.cjc_intervals.specs.Frames.{StackOf, Cells, Clash, IsStack, IsStackBelow, spans, RangeState, spans_of}
use Rattle.cjc_intervals.specs.Frames.{states}
use Rattle.cjc_intervals.specs.Steps.{operand, stack_behind, stack_after, locals_after, after}
use Rattle.cjc_intervals.specs.Flow.{rounded_stack, rounded, is_target, number_ranges, stack_of_types, by_types}
use Rattle.cjc_intervals.specs.Flow.{arrival, edge, caught, handler_edge, insn_edges, place_edges, range_flow}
use Rattle.cjc_intervals.proofs.Steps.{own_operand, operand_up, own_behind, own_locals}
use Rattle.cjc_narrow_proof.specs.Selection.Relation.{Kind, Refers, AllWider}
use Rattle.cjc_narrow_proof.specs.Tables.Kinds.{is_one_of, kinds}
use Rattle.cjc_narrow_proof.specs.Tables.Analysis.{Found}
use Rattle.cjc_narrow_proof.proofs.TablesLaws.Told.{kinds_wider}
use Rattle.cjc_narrow_proof.proofs.TablesLaws.Typed.{IsTypedRow, typed_row}
use Rattle.cjc_int_alike.specs.Method.{IsIntSound}

-- ---- intervals where they arrive

rounded_operand : (s : List Span) (k : ℕ) → All IsWord s → Within (operand s k) (operand (map round_row s) k)
rounded_operand [] k own = within_refl full
rounded_operand (x ∷ s) zero own = round_within x (own_operand (x ∷ s) 0 own)
rounded_operand (x ∷ s) (suc k) own = rounded_operand s k (λ j d lt. own (suc j) d (omega (arith, lt)))

numbers_operand : (cells : List Cell) (s : List Span) (k : ℕ) → typed.operand cells k ≡ Number
    → operand (number_ranges cells s) k ≡ operand s k
numbers_operand cells [] k e = refl
numbers_operand [] (x ∷ s) k e = cc
numbers_operand (c ∷ cs) (x ∷ s) zero e = ap (λ d. cond (is_number d) x full) e
numbers_operand (c ∷ cs) (x ∷ s) (suc k) e = numbers_operand cs s k e

arrived_within : (is : Bool) (cells : List Cell) (s t : List Span) → All IsWord s
    → AllZip Within (number_ranges cells (cond is (map round_row s) s)) t → (k : ℕ) → typed.operand cells k ≡ Number
    → Within (operand s k) (operand t k)
arrived_within true cells s t own below k e =
    within_trans _ _ _ (rounded_operand s k own) (subst (λ x. Within x (operand t k)) (numbers_operand cells
    (map round_row s) k e) (operand_up _ t k below))
arrived_within false cells s t own below k e = subst (λ x. Within x (operand t k)) (numbers_operand cells s k e)
    (operand_up _ t k below)

-- what is known of a stack: its intervals, or nothing where ways clash
abbrev pub Tells : StackOf Span → List Span → Type 0
Tells stack s = (stack ≡ Cells s) ⊎ (stack ≡ Clash)

-- the stack of a state that arrives
abbrev arrived_stack : Bool → List Cell → StackOf Span → StackOf Span
arrived_stack is cells (Cells s) = Cells (number_ranges cells (cond is (map round_row s) s))
arrived_stack is cells Clash = Clash

stack_arrives : (is : Bool) (cells : List Cell) (stack : StackOf Span) (s : List Span) (known : StackOf Span)
    → All IsWord s → Tells stack s → IsStackBelow spans (arrived_stack is cells stack) known → (k : ℕ)
    → typed.operand cells k ≡ Number → Within (operand s k) (operand (spans_of known) k)
stack_arrives is cells stack s Clash own tells below k e = let word = own_operand s k own in word.within
stack_arrives is cells stack s (Cells t) own (inl same) below k e =
    arrived_within is cells s t own (subst (λ x. IsStackBelow spans (arrived_stack is cells x) (Cells t)) same below) k
    e
stack_arrives is cells stack s (Cells t) own (inr same) below k e =
    absurd (subst (λ x. IsStackBelow spans (arrived_stack is cells x) (Cells t)) same below)

-- ---- both tables

module _ (l : Named) (w : List Class) (constant : MemberId → Option ℤ) (f : Found) (sound : IsIntSound w constant f)
  where
    abbrev pub b : Body
    b = f.body

    -- both tables have a row at a place, where no more is known than these kinds say
    pub record Goes (to : ℕ) (ks ls : List Kind) : Type 0 where
      pub typed_there : State
      pub has_types : HasRow f.types to typed_there
      pub ranged_there : RangeState
      pub has_ranges : HasRow f.ranges to ranged_there
      pub stack : AllWider ks (kinds l (cells_of typed_there.stack) (spans_of ranged_there.stack))
      pub locals : AllWider ls (kinds l typed_there.locals ranged_there.locals)
      pub low : length (cells_of typed_there.stack) ≤ b.max_stack

    -- a stack of a row is no clash
    pub is_cells : (at : ℕ) (t : State) → HasRow f.types at t → t.stack ≡ stacks.Cells (cells_of t.stack)
    is_cells at t row = go t.stack refl
      where
        go : (s : Stack) → t.stack ≡ s → s ≡ stacks.Cells (cells_of s)
        go (stacks.Cells cells) e = refl
        go stacks.Clash e =
            let insn = get_inside (f.body.insns) at (let sized = sound.types.sized
            in let lt = get_below f.types at (Some t) row in omega (arith, sized, lt)) in
            absurd (sound.unbroken at 501 (record {
              insn = insn.0;
              is_insn = insn.1;
              state = t;
              reached = row;
              breaks = subst (λ s. Breaks w f.body insn.0.op (record { stack = s; locals = t.locals }) 501) (sym e)
                  (clash t.locals);
            }))

    -- no instruction of a row breaks a rule
    pub is_typed : (at : ℕ) (i : JInsn) (t : State) → slice_get f.body.insns at ≡ Some i → HasRow f.types at t
        → IsTypedRow w f.body i.op t
    is_typed at i t there row = typed_row w f.body i.op t (is_cells at t row) (λ rule breaks. sound.unbroken at rule
        (record { insn = i; is_insn = there; state = t; reached = row; breaks = breaks }))

    arrival_is : (to : ℕ) (t : State) (z : RangeState) → HasRow f.types to t → arrival b f.types to z
        ≡ by_types (Some t) (cond (is_target b to) (rounded z) z)
    arrival_is to t z row = ap (λ o. by_types o (cond (is_target b to) (rounded z) z)) (get_or_from_slice_get f.types to
        (Some t) None
        row)

    stack_is : (is : Bool) (t : State) (z : RangeState) → (by_types (Some t) (cond is (rounded z) z)).stack
        ≡ arrived_stack is (cells_of t.stack) z.stack
    stack_is true t z = go z.stack
      where
        go : (s : StackOf Span) → stack_of_types (cells_of t.stack) (rounded_stack s)
            ≡ arrived_stack true (cells_of t.stack) s
        go (Cells s) = refl
        go Clash = refl
    stack_is false t z = go z.stack
      where
        go : (s : StackOf Span) → stack_of_types (cells_of t.stack) s ≡ arrived_stack false (cells_of t.stack) s
        go (Cells s) = refl
        go Clash = refl

    locals_are : (is : Bool) (t : State) (z : RangeState) → (by_types (Some t) (cond is (rounded z) z)).locals
        ≡ number_ranges t.locals (cond is (map round_row z.locals) z.locals)
    locals_are true t z = refl
    locals_are false t z = refl

    -- What comes to a place is known there, by both tables.
    pub comes_to : (to : ℕ) (y : State) (ys : List Cell) (z : RangeState) (zs : List Span) → y.stack ≡ stacks.Cells ys
        → Tells z.stack zs → All IsWord zs → All IsWord z.locals
        → Covers (type_flow b) f.types to y
        → Covers (range_flow b constant f.types) f.ranges to (arrival b f.types to z)
        → Goes to (kinds l ys zs) (kinds l y.locals z.locals)
    comes_to to y ys z zs is_stack tells own own_locals typed_cover ranged_cover =
        let t = typed_cover.row in
        let x = ranged_cover.row in
        let above = typed_cover.above in
        let below = subst (λ s. (states b.max_locals).Below s x) (arrival_is to t z typed_cover.is_row)
        ranged_cover.above in
        let is = is_target b to in
        let cells_above : AllZip IsCellBelow ys (cells_of t.stack) = subst (λ s. IsStackAbove s (stacks.Cells ys))
        (is_cells to t typed_cover.is_row) (subst (IsStackAbove t.stack) is_stack above.0) in
        let stack_below : IsStackBelow spans (arrived_stack is (cells_of t.stack) z.stack) x.stack =
        subst (λ s. IsStackBelow spans s x.stack) (stack_is is t z) below.0 in
        let locals_below : AllZip Within (number_ranges t.locals (cond is (map round_row z.locals) z.locals)) x.locals =
        subst (λ s. AllZip Within s x.locals) (locals_are is t z) below.1 in
        record {
          typed_there = t;
          has_types = typed_cover.is_row;
          ranged_there = x;
          has_ranges = ranged_cover.is_row;
          stack = kinds_wider l 0 0 ys (cells_of t.stack) zs (spans_of x.stack) cells_above
              (λ k e. from_zero zs (spans_of x.stack) k (stack_arrives is (cells_of t.stack) z.stack zs x.stack own
              tells stack_below k e));
          locals = kinds_wider l 0 0 y.locals t.locals z.locals x.locals above.1 (λ k e. from_zero z.locals x.locals k
              (arrived_within is t.locals z.locals x.locals own_locals locals_below k e));
          low = fits to t typed_cover.is_row;
        }
      where
        fits : (to : ℕ) (t : State) → HasRow f.types to t → length (cells_of t.stack) ≤ b.max_stack
        fits to t row =
            let insn = get_inside f.body.insns to (let sized = sound.types.sized
            in let lt = get_below f.types to (Some t) row in omega (arith, sized, lt)) in
            let typed_here = is_typed to insn.0 t insn.1 row in
            typed_here.room

        from_zero : (s t : List Span) (k : ℕ) → Within (operand s k) (operand t k)
            → Within (operand s (0 + k)) (operand t (0 + k))
        from_zero s t k h = let e : k ≡ 0 + k = omega arith in subst (λ n. Within (operand s n) (operand t n)) e h

    module _ (at : ℕ) (i : JInsn) (t : State) (x : RangeState) (there : slice_get f.body.insns at ≡ Some i)
        (row : HasRow f.types at t) (ranged : HasRow f.ranges at x) where
      abbrev pub cells : List Cell
      cells = cells_of t.stack

      abbrev pub numbers : List Span
      numbers = spans_of x.stack

      pub own_numbers : All IsWord numbers
      own_numbers = go x.stack (sound.ranges.own at x ranged).0
        where
          go : (s : StackOf Span) → IsStack spans s → All IsWord (spans_of s)
          go (Cells s) own = own.own
          go Clash own = All-nil IsWord

      pub own_local_numbers : All IsWord x.locals
      own_local_numbers = (sound.ranges.own at x ranged).1.own

      -- the stack behind, as both tables tell it
      behind_tells : Tells (after constant i.op cells x).stack (stack_behind constant i.op cells x.locals numbers)
      behind_tells = go x.stack
        where
          go : (s : StackOf Span) → Tells (stack_after constant i.op cells x.locals s) (stack_behind constant i.op cells
              x.locals (spans_of s))
          go Clash = inr refl
          go (Cells s) = cut (nat_le (length (stack_behind constant i.op cells x.locals s)) most_cells)
            where
              cut : (b : Bool) → Tells (cond b (Cells (stack_behind constant i.op cells x.locals s)) Clash)
                  (stack_behind constant i.op cells x.locals s)
              cut true = inl refl
              cut false = inr refl

      edges_are : (range_flow b constant f.types).edges at x ≡ insn_edges b constant f.types at i t x
      edges_are = ap (λ o. place_edges b constant f.types at o (get_or f.types at None) x) there
          ∙ ap (λ o. place_edges b constant f.types at (Some i) o x)
          (get_or_from_slice_get f.types at (Some t) None row)

      ranges_lead : (e : Edge RangeState) → Contains (insn_edges b constant f.types at i t x) e
          → Covers (range_flow b constant f.types) f.ranges e.to e.state
      ranges_lead e is = sound.ranges.steps at x ranged e (subst (λ es. Contains es e) (sym edges_are) is)

      -- Each instruction that may follow is known of.
      pub leads_on : (to : ℕ) → Contains (successors b.insns at i.op) to
          → Goes to (kinds l (typed.stack_behind i.op t.locals cells) (stack_behind constant i.op cells x.locals
          numbers)) (kinds l (typed.locals_after i.op t.locals t.stack) (locals_after i.op x.locals x.stack))
      leads_on to is =
          comes_to to (whole_after i.op t) (typed.stack_behind i.op t.locals cells) (after constant i.op cells x)
          (stack_behind constant i.op cells x.locals numbers)
          (ap (whole_stack i.op t.locals) (is_cells at t row)) behind_tells (own_behind constant i.op cells x.locals
          numbers own_local_numbers own_numbers)
          (let h = own_locals i.op b.max_locals x.locals x.stack (sound.ranges.own at x ranged).1 (sound.ranges.own at x
          ranged).0 in h.own)
          (sound.types.next at t i row there to is)
          (ranges_lead (edge b f.types (after constant i.op cells x) to) (Contains-append_left _ _ _
          (contains_mapped (edge b f.types (after constant i.op cells x)) (successors b.insns at i.op) to is)))

      -- So is each handler that covers it.
      pub leads_to_handler : (c : Catch) → Contains b.catches c → covers c i.at ≡ true → (to : ℕ)
          → place_at b.insns c.target ≡ Some to → Goes to (Refers (is_one_of l (caught_type c.class ∷ []))
          ∷ []) (kinds l t.locals x.locals)
      leads_to_handler c has covered to found =
          comes_to to (types.caught c t) (Refs (caught_type c.class ∷ []) ∷ []) (caught x) (full ∷ []) refl (inl refl)
          (All-cons IsWord full [] word_full (All-nil IsWord)) own_local_numbers
          (sound.types.handled at t i row there c has covered to found)
          (ranges_lead (edge b f.types (caught x) to) (Contains-append_right _ _ _
          (contains_kept (handler_edge b f.types i.at x) b.catches c (edge b f.types (caught x) to) has
          (ap (λ is. cond is (option_map (edge b f.types (caught x)) (place_at b.insns c.target)) None) covered
          ∙ ap (option_map (edge b f.types (caught x))) found))))
