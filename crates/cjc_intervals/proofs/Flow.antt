-- The intervals of a method are a lawful flow.
use Rattle.std.proofs.Common.{◌≡◌, ◌≤◌, ℕ, suc, Bool, true, false, cond, List, [], ◌∷◌, ◌++◌, map, length, replicate}
use Rattle.std.proofs.Common.{slice_get, get_or, filter_map, Option, Some, None, option_map, All, refl, ap, ◌∙◌, arith}
use Rattle.std.proofs.Common.{ℤ}
use Rattle.std.specs.List.{AllZip, cons_option}
use Rattle.std.proofs.lemmas.List.{length-append, length-replicate, length-take-le}
use Rattle.std.proofs.lemmas.List.Elements.{All-nil, All-cons, All-head, All-tail, All-append, All-take, All-replicate}
use Rattle.std.proofs.lemmas.List.Elements.{All-map, All-contains}
use Rattle.cjc_bytes.specs.AccessFlags.{is_static}
use Rattle.cjc_bytes.specs.declared.fault.MemberId.{MemberId}
use Rattle.cjc_range.specs.Span.{Span, IsWord, Within, full}
use Rattle.cjc_range.specs.Landmarks.{round_row}
use Rattle.cjc_range.proofs.Order.{within_refl, word_full}
use Rattle.cjc_range.proofs.Rounding.{round_word, round_monotone}
use Rattle.cjc_types.specs.ClassFile.declared.tree.Catch.{Catch}
use Rattle.cjc_types.specs.Bytecode.declared.insn.JInsn.{JInsn}
use Rattle.cjc_fixpoint.specs.declared.flow.Edge.{Edge}
use Rattle.cjc_fixpoint.specs.Dataflow.{IsLawful, AreBelow}
use Rattle.cjc_fixpoint.specs.Working.Edges.{AreBelowInTurn, below_from_zip, AreBelow-append, AreBelow-map}
use Rattle.cjc_fixpoint.proofs.Lattices.{flow_laws}
use Rattle.cjc_types.specs.declared.cell.Cell.{Cell}
use Rattle.cjc_types.specs.declared.state.State.{State}
use Rattle.cjc_types.specs.States.{most_cells}
use Rattle.cjc_types.specs.Types.{parts}
use Rattle.cjc_types.specs.Rules.{is_number}
use Rattle.cjc_types.specs.Search.{cells_of}
use Rattle.cjc_types.specs.Flow.{Body, place_at, successors, covers}
use Rattle.cjc_intervals.specs.Frames.{StackOf, Cells, Clash, IsStack, IsStackBelow, spans, RangeState, states}
use Rattle.cjc_intervals.specs.Values.{range_of}
use Rattle.cjc_intervals.specs.Steps.{after}
use Rattle.cjc_intervals.specs.Flow.{rounded_stack, rounded, is_target, number_range, number_ranges, stack_of_types}
use Rattle.cjc_intervals.specs.Flow.{by_types, arrival, argument_ranges, first_state, entry, edge, caught, handler_edge}
use Rattle.cjc_intervals.specs.Flow.{place_edges, range_flow}
use Rattle.cjc_intervals.proofs.Stacks.{state_lattice}
use Rattle.cjc_intervals.proofs.Steps.{range_word, own_after, after_up}

-- ---- rounding

pub rounded_length : (s : List Span) → length (map round_row s) ≡ length s
rounded_length [] = refl
rounded_length (x ∷ xs) = ap suc (rounded_length xs)

own_rounded_cells : (s : List Span) → All IsWord s → All IsWord (map round_row s)
own_rounded_cells [] own = All-nil IsWord
own_rounded_cells (x ∷ xs) own = All-cons IsWord (round_row x) (map round_row xs)
    (round_word x (All-head IsWord x xs own)) (own_rounded_cells xs (All-tail IsWord x xs own))

rounded_cells_up : (s t : List Span) → All IsWord s → All IsWord t → AllZip Within s t
    → AllZip Within (map round_row s) (map round_row t)
rounded_cells_up [] [] own_s own_t h = tt
rounded_cells_up [] (y ∷ ys) own_s own_t h = absurd h
rounded_cells_up (x ∷ xs) [] own_s own_t h = absurd h
rounded_cells_up (x ∷ xs) (y ∷ ys) own_s own_t h = (
  round_monotone x y (All-head IsWord x xs own_s) (All-head IsWord y ys own_t) h.0,
  rounded_cells_up xs ys (All-tail IsWord x xs own_s) (All-tail IsWord y ys own_t) h.1,
)

own_rounded_stack : (s : StackOf Span) → IsStack spans s → IsStack spans (rounded_stack s)
own_rounded_stack (Cells s) own = let few = own.few in record {
  few = omega (arith, few, rounded_length s);
  own = own_rounded_cells s own.own;
}
own_rounded_stack Clash own = tt

rounded_stack_up : (s t : StackOf Span) → IsStack spans s → IsStack spans t → IsStackBelow spans s t
    → IsStackBelow spans (rounded_stack s) (rounded_stack t)
rounded_stack_up s Clash own_s own_t h = tt
rounded_stack_up Clash (Cells t) own_s own_t h = absurd h
rounded_stack_up (Cells s) (Cells t) own_s own_t h = rounded_cells_up s t own_s.own own_t.own h

-- ---- by types

pub number_length : (cells : List Cell) (s : List Span) → length (number_ranges cells s) ≡ length s
number_length cells [] = refl
number_length [] (x ∷ xs) = ap suc (number_length [] xs)
number_length (c ∷ cs) (x ∷ xs) = ap suc (number_length cs xs)

own_number : (cell : Cell) (s : Span) → IsWord s → IsWord (number_range cell s)
own_number cell s own = go (is_number cell)
  where
    go : (b : Bool) → IsWord (cond b s full)
    go true = own
    go false = word_full

number_up : (cell : Cell) (s t : Span) → Within s t → Within (number_range cell s) (number_range cell t)
number_up cell s t h = go (is_number cell)
  where
    go : (b : Bool) → Within (cond b s full) (cond b t full)
    go true = h
    go false = within_refl full

own_numbers : (cells : List Cell) (s : List Span) → All IsWord s → All IsWord (number_ranges cells s)
own_numbers cells [] own = All-nil IsWord
own_numbers [] (x ∷ xs) own = All-cons IsWord full _ word_full (own_numbers [] xs (All-tail IsWord x xs own))
own_numbers (c ∷ cs) (x ∷ xs) own = All-cons IsWord _ _ (own_number c x (All-head IsWord x xs own))
    (own_numbers cs xs (All-tail IsWord x xs own))

numbers_up : (cells : List Cell) (s t : List Span) → AllZip Within s t
    → AllZip Within (number_ranges cells s) (number_ranges cells t)
numbers_up cells [] [] h = tt
numbers_up cells [] (y ∷ ys) h = absurd h
numbers_up cells (x ∷ xs) [] h = absurd h
numbers_up [] (x ∷ xs) (y ∷ ys) h = (within_refl full, numbers_up [] xs ys h.1)
numbers_up (c ∷ cs) (x ∷ xs) (y ∷ ys) h = (number_up c x y h.0, numbers_up cs xs ys h.1)

own_stack_of_types : (cells : List Cell) (s : StackOf Span) → IsStack spans s → IsStack spans (stack_of_types cells s)
own_stack_of_types cells (Cells s) own = let few = own.few in record {
  few = omega (arith, few, number_length cells s);
  own = own_numbers cells s own.own;
}
own_stack_of_types cells Clash own = tt

stack_of_types_up : (cells : List Cell) (s t : StackOf Span) → IsStackBelow spans s t
    → IsStackBelow spans (stack_of_types cells s) (stack_of_types cells t)
stack_of_types_up cells s Clash h = tt
stack_of_types_up cells Clash (Cells t) h = absurd h
stack_of_types_up cells (Cells s) (Cells t) h = numbers_up cells s t h

-- ---- arrival

module _ (b : Body) (types : List (Option State)) where
  own_by_types : (row : Option State) (x : RangeState) → (states b.max_locals).Own x
      → (states b.max_locals).Own (by_types row x)
  own_by_types None x own = own
  own_by_types (Some t) x own = (
    own_stack_of_types (cells_of t.stack) x.stack own.0,
    record { sized = number_length t.locals x.locals ∙ own.1.sized; own = own_numbers t.locals x.locals own.1.own },
  )

  by_types_up : (row : Option State) (x y : RangeState) → (states b.max_locals).Below x y
      → (states b.max_locals).Below (by_types row x) (by_types row y)
  by_types_up None x y h = h
  by_types_up (Some t) x y h = (
    stack_of_types_up (cells_of t.stack) x.stack y.stack h.0,
    numbers_up t.locals x.locals y.locals h.1,
  )

  own_rounded : (is : Bool) (x : RangeState) → (states b.max_locals).Own x
      → (states b.max_locals).Own (cond is (rounded x) x)
  own_rounded true x own = (
    own_rounded_stack x.stack own.0,
    record {
      sized = rounded_length x.locals ∙ own.1.sized;
      own = own_rounded_cells x.locals own.1.own;
    },
  )
  own_rounded false x own = own

  rounded_up : (is : Bool) (x y : RangeState) → (states b.max_locals).Own x → (states b.max_locals).Own y
      → (states b.max_locals).Below x y → (states b.max_locals).Below (cond is (rounded x) x) (cond is (rounded y) y)
  rounded_up true x y own_x own_y h = (
    rounded_stack_up x.stack y.stack own_x.0 own_y.0 h.0,
    rounded_cells_up x.locals y.locals own_x.1.own own_y.1.own h.1,
  )
  rounded_up false x y own_x own_y h = h

  pub own_arrival : (to : ℕ) (x : RangeState) → (states b.max_locals).Own x
      → (states b.max_locals).Own (arrival b types to x)
  own_arrival to x own = own_by_types (get_or types to None) _ (own_rounded (is_target b to) x own)

  pub arrival_up : (to : ℕ) (x y : RangeState) → (states b.max_locals).Own x → (states b.max_locals).Own y
      → (states b.max_locals).Below x y → (states b.max_locals).Below (arrival b types to x) (arrival b types to y)
  arrival_up to x y own_x own_y h = by_types_up (get_or types to None) _ _ (rounded_up (is_target b to) x y own_x own_y
      h)

  -- ---- lists of edges

  abbrev AllOwn : List (Edge RangeState) → Type 0
  AllOwn es = All (λ (e : Edge RangeState). (states b.max_locals).Own e.state) es

  own_mapped : (x : RangeState) (places : List ℕ) → (states b.max_locals).Own x → AllOwn (map (edge b types x) places)
  own_mapped x places own = All-map (λ (e : Edge RangeState). (states b.max_locals).Own e.state) (edge b types x) places
      (λ k d lt. own_arrival _ x own)

  one_cell : 1 ≤ most_cells
  unfolding most_cells
  one_cell = omega arith

  own_caught : (x : RangeState) → (states b.max_locals).Own x → (states b.max_locals).Own (caught x)
  own_caught x own = (record { few = one_cell; own = All-cons IsWord full [] word_full (All-nil IsWord) }, own.1)

  caught_up : (x y : RangeState) → (states b.max_locals).Below x y → (states b.max_locals).Below (caught x) (caught y)
  caught_up x y h = ((within_refl full, tt), h.1)

  own_handlers : (offset : ℕ) (x : RangeState) (catches : List Catch) → (states b.max_locals).Own x
      → AllOwn (filter_map (handler_edge b types offset x) catches)
  own_handlers offset x [] own = All-nil _
  own_handlers offset x (c ∷ cs) own = go (covers c offset) (place_at b.insns c.target) (own_handlers offset x cs own)
    where
      go : (is : Bool) (to : Option ℕ) → AllOwn (filter_map (handler_edge b types offset x) cs)
          → AllOwn (cons_option (cond is (option_map (edge b types (caught x)) to) None)
          (filter_map (handler_edge b types offset x) cs))
      go false to rest = rest
      go true None rest = rest
      go true (Some to) rest = All-cons (λ (e : Edge RangeState). (states b.max_locals).Own e.state) _ _
          (own_arrival to (caught x) (own_caught x own)) rest

  module _ (constant : MemberId → Option ℤ) where
    handlers_up : (offset : ℕ) (x y : RangeState) (catches : List Catch) → (states b.max_locals).Own x
        → (states b.max_locals).Own y → (states b.max_locals).Below x y → AreBelowInTurn (range_flow b constant types)
        (filter_map (handler_edge b types offset x) catches) (filter_map (handler_edge b types offset y) catches)
    handlers_up offset x y [] own_x own_y h = tt
    handlers_up offset x y (c ∷ cs) own_x own_y h = go (covers c offset) (place_at b.insns c.target)
        (handlers_up offset x y cs own_x own_y h)
      where
        go : (is : Bool) (to : Option ℕ) → AreBelowInTurn (range_flow b constant types)
            (filter_map (handler_edge b types offset x) cs) (filter_map (handler_edge b types offset y) cs)
            → AreBelowInTurn (range_flow b constant types)
            (cons_option (cond is (option_map (edge b types (caught x)) to) None)
            (filter_map (handler_edge b types offset x) cs))
            (cons_option (cond is (option_map (edge b types (caught y)) to) None)
            (filter_map (handler_edge b types offset y) cs))
        go false to rest = rest
        go true None rest = rest
        go true (Some to) rest = (
          (
            refl,
            arrival_up to (caught x) (caught y) (own_caught x own_x) (own_caught y own_y)
                (caught_up x y h),
          ),
          rest,
        )

    own_place : (at : ℕ) (insn : Option JInsn) (row : Option State) (x : RangeState) → (states b.max_locals).Own x
        → AllOwn (place_edges b constant types at insn row x)
    own_place at None row x own = All-nil (λ (e : Edge RangeState). (states b.max_locals).Own e.state)
    own_place at (Some insn) None x own = All-nil (λ (e : Edge RangeState). (states b.max_locals).Own e.state)
    own_place at (Some insn) (Some t) x own =
        All-append (λ (e : Edge RangeState). (states b.max_locals).Own e.state) _ _
        (own_mapped (after constant insn.op (cells_of t.stack) x) (successors b.insns at insn.op)
        (own_after constant insn.op (cells_of t.stack) b.max_locals x own))
        (own_handlers insn.at x b.catches own)

    place_up : (at : ℕ) (insn : Option JInsn) (row : Option State) (x y : RangeState) → (states b.max_locals).Own x
        → (states b.max_locals).Own y → (states b.max_locals).Below x y
        → AreBelow (range_flow b constant types) (place_edges b constant types at insn row x) (place_edges b constant
        types at insn row y)
    place_up at None row x y own_x own_y h = below_from_zip (range_flow b constant types) [] [] tt
    place_up at (Some insn) None x y own_x own_y h = below_from_zip (range_flow b constant types) [] [] tt
    place_up at (Some insn) (Some t) x y own_x own_y h =
        let x' = after constant insn.op (cells_of t.stack) x in
        let y' = after constant insn.op (cells_of t.stack) y in
        let own_x' = own_after constant insn.op (cells_of t.stack) b.max_locals x own_x in
        let own_y' = own_after constant insn.op (cells_of t.stack) b.max_locals y own_y in
        AreBelow-append (range_flow b constant types) _ _ _ _
        (AreBelow-map (range_flow b constant types) (edge b types x') (edge b types y') (successors b.insns at insn.op)
        (λ to. refl) (λ to. arrival_up to x' y' own_x' own_y' (after_up constant insn.op (cells_of t.stack)
        b.max_locals x y own_x own_y h)))
        (below_from_zip (range_flow b constant types) _ _ (handlers_up insn.at x y b.catches own_x own_y h))

-- ---- the entry

own_arguments : (b : Body) → All IsWord (argument_ranges b)
own_arguments b = All-append IsWord _ _ (go (is_static b.flags)) (All-map IsWord range_of (parts b.desc).params
    (λ k d lt. range_word (get_or (parts b.desc).params k d)))
  where
    go : (is : Bool) → All IsWord (cond is [] (full ∷ []))
    go true = All-nil IsWord
    go false = All-cons IsWord full [] word_full (All-nil IsWord)

pub own_first : (b : Body) → (states b.max_locals).Own (first_state b)
own_first b = (
  record { few = omega arith; own = All-nil IsWord },
  record {
    sized =
        let all : List Span = argument_ranges b ++ replicate b.max_locals full in
        let enough = length-append (argument_ranges b) (replicate b.max_locals full) in
        let rest = length-replicate {A = Span} b.max_locals full in
        length-take-le b.max_locals all (omega (arith, enough, rest));
    own = All-take IsWord b.max_locals _ (All-append IsWord _ _ (own_arguments b) (All-replicate IsWord b.max_locals
        full word_full));
  },
)

own_entry : (b : Body) (types : List (Option State)) → (states b.max_locals).Own (entry b types)
own_entry b types = own_arrival b types 0 (first_state b) (own_first b)

pub range_laws : (b : Body) (constant : MemberId → Option ℤ) (types : List (Option State))
    → IsLawful (range_flow b constant types)
range_laws b constant types = flow_laws (states b.max_locals) (entry b types) (λ at x. place_edges b constant types at
    (slice_get b.insns at) (get_or types at None) x) (state_lattice b.max_locals) (own_entry b types)
    (λ at x own e is. All-contains (λ (e : Edge RangeState). (states b.max_locals).Own e.state) _ e
    (own_place b types constant at (slice_get b.insns at) (get_or types at None) x own) is)
    (λ at x y own_x own_y h. place_up b types constant at (slice_get b.insns at) (get_or types at None) x y own_x own_y
    h)
