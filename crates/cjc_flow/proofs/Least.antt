-- The least table of the flow that is solved is the least range table.
use Rattle.std.proofs.Common.{◌≡◌, ◌==◌, ◌<◌, ◌+◌, ℕ, zero, suc, Bool, true, false, cond, nat_lt, List, [], ◌∷◌, ◌++◌}
use Rattle.std.proofs.Common.{map, drop, filter_map, length, slice_get, get_or, Option, Some, None, option_map, All}
use Rattle.std.proofs.Common.{Contains, refl, sym, ◌∙◌, ap, subst, inl, inr, arith, ℤ}
use Rattle.std.specs.List.{AllZip, cons_option, range_with_len}
use Rattle.std.proofs.lemmas.Bool.{ltb-true, ltb-false, and_from}
use Rattle.std.proofs.lemmas.List.Elements.{All-head, All-tail, Contains-append_cases}
use Rattle.std.proofs.lemmas.Option.{slice_get-get_or, get_or_from_slice_get}
use Rattle.cjc_fixpoint.specs.Bytes.declared.fault.MemberId.{MemberId}
use Rattle.cjc_range.specs.Span.{Span, IsWord, Within, full}
use Rattle.cjc_range.proofs.Order.{within_refl}
use Rattle.cjc_types.specs.ClassFile.declared.tree.Catch.{Catch}
use Rattle.cjc_types.specs.Bytecode.declared.insn.JInsn.{JInsn}
use Rattle.cjc_types.specs.Bytecode.declared.insn.JOp.{JOp}
use Rattle.cjc_types.specs.Bytecode.declared.insn.JOp.TheVariants as jop
use Rattle.cjc_fixpoint.specs.declared.flow.Edge.{Edge}
use Rattle.cjc_fixpoint.specs.Dataflow.{Dataflow, AreBelow}
use Rattle.cjc_fixpoint.specs.Kept.{StandsForLeast, handed, handed_more, handed_on, kept_or, mark_of, merged, row_of}
use Rattle.cjc_fixpoint.specs.Kept as kept
use Rattle.cjc_fixpoint.specs.Tables.{HasRow, Covers, IsBelow, IsClosed, IsLeastClosed}
use Rattle.cjc_fixpoint.specs.Working.Edges.{AreBelowInTurn, below_from_zip, AreBelow-append, AreBelow-map}
use Rattle.cjc_fixpoint.specs.Working.Edges.{contains_head, contains_tail, contains_cons}
use Rattle.cjc_fixpoint.specs.Working.SegmentLaws.{contains_none, kept_from}
use Rattle.cjc_fixpoint.specs.Working.GatheredLaws.{range_inside}
use Rattle.cjc_fixpoint.proofs.Runs.{full_at, full_has}
use Rattle.cjc_types.specs.World.Classes.{Class}
use Rattle.cjc_types.specs.declared.cell.Cell.{Cell}
use Rattle.cjc_types.specs.declared.cell.Cell.TheVariants.{Number, Refs, Unusable}
use Rattle.cjc_types.specs.declared.state.Stack.{Stack}
use Rattle.cjc_types.specs.declared.state.Stack.TheVariants as typed_stacks
use Rattle.cjc_types.specs.declared.state.State.{State}
use Rattle.cjc_types.specs.declared.table.Frame.{Frame}
use Rattle.cjc_types.specs.declared.table.TypeTable.{TypeTable}
use Rattle.cjc_types.specs.Rules.{accepts, all_types, is_array_for}
use Rattle.cjc_types.specs.Search.{cells_of}
use Rattle.cjc_types.specs.Steps as typed
use Rattle.cjc_types.specs.Steps.{goes_on, targets, takes}
use Rattle.cjc_types.specs.Flow.{Body, place_at, next_place, successors, covers, type_flow}
use Rattle.cjc_types.specs.Marks.{is_marked}
use Rattle.cjc_types.specs.Tables.{IsTypeTable, state_of, states_of, rows_of}
use Rattle.cjc_types.specs.Working.MarkLaws.{map_from, passed, jump_marked, handles_marked, unmarked_none}
use Rattle.cjc_types.specs.Working.Onward.{gone_on_by}
use Rattle.cjc_types.proofs.Typed.{are_frames, are_typed}
use Rattle.cjc_intervals.specs.Frames.{StackOf, Cells, Clash, stack_of, IsStack, IsStackBelow, spans, RangeState}
use Rattle.cjc_intervals.specs.Frames.{states}
use Rattle.cjc_intervals.specs.Steps.{gives, stack_after, locals_after, after}
use Rattle.cjc_intervals.specs.Flow.{number_ranges, stack_of_types, by_types, rounded, is_target, arrival, caught}
use Rattle.cjc_intervals.specs.Flow.{first_state, entry, edge, handler_edge, place_edges, range_flow}
use Rattle.cjc_intervals.proofs.Stacks.{state_lattice}
use Rattle.cjc_intervals.proofs.Flow.{own_arrival, range_laws}
use Rattle.cjc_flow.specs.Constants.{AreNumbers, value_got, values_of}
use Rattle.cjc_flow.specs.Tables.{IsRangeTable}
use Rattle.cjc_flow.specs.Working.Kept.{Ranged, kept_arrival, kept_edge, kept_handler, value_at, after_at, kept_edges}
use Rattle.cjc_flow.specs.Working.Kept.{kept_place, kept_flow}
use Rattle.cjc_flow.specs.Working.KeptLaws.{kept_laws, own_caught, own_after_at}
use Rattle.cjc_flow.proofs.Loading.{rows_sized}
use Rattle.cjc_flow.proofs.Marked.{not_target}
use Rattle.cjc_flow.proofs.Normal.{fits, fits_stack, fits_state, HasArray, fits_same, fits_up, fits_numbers, stack_fits}
use Rattle.cjc_flow.proofs.Normal.{locals_fit}
use Rattle.cjc_fixpoint.proofs.BytesBools.{both_front, both_back}

-- ---- rows that fit

abbrev fits_row : Option State → RangeState → Bool
fits_row None x = true
fits_row (Some t) x = fits_state t x

stack_up : (cells : List Cell) (s t : StackOf Span) → IsStackBelow spans s t → fits_stack cells s ≡ true
    → fits_stack cells t ≡ true
stack_up cells s Clash h e = refl
stack_up cells Clash (Cells t) h e = absurd h
stack_up cells (Cells s) (Cells t) h e = fits_up cells s t h e

row_up : (n : ℕ) (row : Option State) (x y : RangeState) → (states n).Below x y → fits_row row x ≡ true
    → fits_row row y ≡ true
row_up n None x y h e = refl
row_up n (Some t) x y h e =
    and_from _ _ (stack_up (cells_of t.stack) x.stack y.stack h.0 (both_front _ _ e))
    (fits_up t.locals x.locals y.locals
    h.1 (both_back (fits_stack (cells_of t.stack) x.stack) _ e))

stack_fits_types : (cells : List Cell) (s : StackOf Span) → fits_stack cells (stack_of_types cells s) ≡ true
stack_fits_types cells (Cells s) = fits_numbers cells s
stack_fits_types cells Clash = refl

types_fit : (row : Option State) (x : RangeState) → fits_row row (by_types row x) ≡ true
types_fit None x = refl
types_fit (Some t) x = and_from _ _ (stack_fits_types (cells_of t.stack) x.stack) (fits_numbers t.locals x.locals)

stack_same : (cells : List Cell) (s : StackOf Span) → IsStack spans s → fits_stack cells s ≡ true
    → stack_of_types cells s ≡ s
stack_same cells (Cells s) own e = ap Cells (fits_same cells s own.own e)
stack_same cells Clash own e = refl

types_same : (n : ℕ) (row : Option State) (x : RangeState) → (states n).Own x → fits_row row x ≡ true
    → by_types row x ≡ x
types_same n None x own e = refl
types_same n (Some t) x own e =
    let make : StackOf Span → List Span → RangeState = λ s l. record { stack = s; locals = l } in
    ap (λ (s : StackOf Span). make s (number_ranges t.locals x.locals)) (stack_same (cells_of t.stack) x.stack own.0
    (both_front _ _ e))
    ∙ ap (make x.stack) (fits_same t.locals x.locals own.1.own (both_back (fits_stack (cells_of t.stack) x.stack) _
    e))

-- ---- what is below by types

numbers_above : (cells : List Cell) (s : List Span) → All IsWord s → AllZip Within s (number_ranges cells s)
numbers_above cells [] own = tt
numbers_above [] (x ∷ xs) own = ((All-head IsWord x xs own).within, numbers_above [] xs (All-tail IsWord x xs own))
numbers_above (c ∷ cs) (x ∷ xs) own = (go _ (All-head IsWord x xs own), numbers_above cs xs (All-tail IsWord x xs own))
  where
    go : (b : Bool) → IsWord x → Within x (cond b x full)
    go true own_x = within_refl x
    go false own_x = own_x.within

stack_above : (cells : List Cell) (s : StackOf Span) → IsStack spans s → IsStackBelow spans s (stack_of_types cells s)
stack_above cells (Cells s) own = numbers_above cells s own.own
stack_above cells Clash own = tt

types_above : (n : ℕ) (row : Option State) (x : RangeState) → (states n).Own x → (states n).Below x (by_types row x)
types_above n None x own = (state_lattice n).reflexive x own
types_above n (Some t) x own = (stack_above (cells_of t.stack) x.stack own.0, numbers_above t.locals x.locals own.1.own)

-- ---- constants

map_at : {X Y : Type 0} (f : X → Y) (xs : List X) (k : ℕ) (x : X) (d : Y) → slice_get xs k ≡ Some x
    → get_or (map f xs) k d ≡ f x
map_at f [] k x d e = absurd cc
map_at f (y ∷ ys) zero x d e = let same : y ≡ x = cc in ap f same
map_at f (y ∷ ys) (suc k) x d e = map_at f ys k x d e

value_same : (constant : MemberId → Option ℤ) (op : JOp) (cells : List Cell) (locals s : List Span)
    → gives (λ _. value_got constant op) op cells locals s ≡ gives constant op cells locals s
value_same constant (jop.Static put field) cells locals s = refl
value_same constant _ cells locals s = refl

stack_value : (constant : MemberId → Option ℤ) (op : JOp) (cells : List Cell) (locals : List Span) (s : StackOf Span)
    → stack_after (λ _. value_got constant op) op cells locals s ≡ stack_after constant op cells locals s
stack_value constant op cells locals Clash = refl
stack_value constant op cells locals (Cells s) = ap (λ (xs : List Span). stack_of (xs ++ drop (takes op) s))
    (value_same constant op cells locals s)

after_value : (constant : MemberId → Option ℤ) (op : JOp) (cells : List Cell) (x : RangeState)
    → after (λ _. value_got constant op) op cells x ≡ after constant op cells x
after_value constant op cells x =
    let make : StackOf Span → RangeState = λ s. record { stack = s; locals = locals_after op x.locals x.stack } in
    ap make (stack_value constant op cells x.locals x.stack)

map_same : {X Y : Type 0} (f g : X → Y) (xs : List X) → ((x : X) → Contains xs x → f x ≡ g x) → map f xs ≡ map g xs
map_same f g [] h = refl
map_same {X} {Y} f g (x ∷ xs) h = ap (λ (y : Y). y ∷ map f xs) (h x (contains_head x xs))
    ∙ ap (λ (ys : List Y). g x ∷ ys) (map_same f g xs (λ y has. h y (contains_tail x xs y has)))

filter_same : {X Y : Type 0} (f g : X → Option Y) (xs : List X) → ((x : X) → Contains xs x → f x ≡ g x)
    → filter_map f xs ≡ filter_map g xs
filter_same f g [] h = refl
filter_same {X} {Y} f g (x ∷ xs) h = ap (λ (o : Option Y). cons_option o (filter_map f xs)) (h x (contains_head x xs))
    ∙ ap (cons_option (g x)) (filter_same f g xs (λ y has. h y (contains_tail x xs y has)))

-- ---- a table without the rows that don't fit

abbrev good_row : Option State → Option RangeState → Option RangeState
good_row row None = None
good_row row (Some x) = cond (fits_row row x) (Some x) None

abbrev good : List (Option State) → List (Option RangeState) → List (Option RangeState)
good types [] = []
good [] (o ∷ rows) = o ∷ good [] rows
good (t ∷ types) (o ∷ rows) = good_row t o ∷ good types rows

good_sized : (types : List (Option State)) (rows : List (Option RangeState)) → length (good types rows) ≡ length rows
good_sized types [] = refl
good_sized [] (o ∷ rows) = ap suc (good_sized [] rows)
good_sized (t ∷ types) (o ∷ rows) = ap suc (good_sized types rows)

row_get : (t : Option State) (o : Option RangeState) (x : RangeState) → good_row t o ≡ Some x → (o ≡ Some x)
    × (fits_row t x ≡ true)
row_get t None x e = absurd cc
row_get t (Some y) x e = go (fits_row t y) refl e
  where
    go : (b : Bool) → fits_row t y ≡ b → cond b (Some y) None ≡ Some x → (Some y ≡ Some x) × (fits_row t x ≡ true)
    go true is h = let same : y ≡ x = cc in (h, ap (fits_row t) (sym same) ∙ is)
    go false is h = absurd cc

good_get : (types : List (Option State)) (rows : List (Option RangeState)) (k : ℕ) (x : RangeState)
    → HasRow (good types rows) k x → HasRow rows k x × (fits_row (get_or types k None) x ≡ true)
good_get types [] k x h = absurd cc
good_get [] (o ∷ rows) zero x h = (h, refl)
good_get [] (o ∷ rows) (suc k) x h = good_get [] rows k x h
good_get (t ∷ types) (o ∷ rows) zero x h = let is : good_row t o ≡ Some x = cc in let g = row_get t o x is
    in (ap (λ (p : Option RangeState). Some p) g.0, g.1)
good_get (t ∷ types) (o ∷ rows) (suc k) x h = good_get types rows k x h

good_has : (types : List (Option State)) (rows : List (Option RangeState)) (k : ℕ) (x : RangeState) → HasRow rows k x
    → fits_row (get_or types k None) x ≡ true → HasRow (good types rows) k x
good_has types [] k x h e = absurd cc
good_has [] (o ∷ rows) zero x h e = h
good_has [] (o ∷ rows) (suc k) x h e = good_has [] rows k x h e
good_has (t ∷ types) (o ∷ rows) zero x h e = let is : o ≡ Some x = cc
    in ap (λ (p : Option RangeState). Some (good_row t p)) is ∙ ap (λ (b : Bool). Some (cond b (Some x) None)) e
good_has (t ∷ types) (o ∷ rows) (suc k) x h e = good_has types rows k x h e

-- ---- instructions

next_is : (on : Bool) (places at to : ℕ) → Contains (next_place on places at) to → (on ≡ true)
    × ((suc at < places) × (to ≡ suc at))
next_is false places at to has = absurd (contains_none to has)
next_is true places at to has = go (nat_lt (at + 1) places) refl has
  where
    go : (lt : Bool) → nat_lt (at + 1) places ≡ lt → Contains (cond lt ((at + 1) ∷ []) []) to → (true ≡ true)
        × ((suc at < places) × (to ≡ suc at))
    go false e has = absurd (contains_none to has)
    go true e has = let less = ltb-true (at + 1) places e in elim (contains_cons (at + 1) [] to has) [
      | inl same ↦ (refl, (omega (arith, less), omega (arith, same)))
      | inr none ↦ absurd (contains_none to none)
    ]

refs_from : (p : List ℕ → Bool) (cell : Cell) → all_types p cell ≡ true → (names : List (List ℕ)) × (cell ≡ Refs names)
refs_from p Number e = absurd cc
refs_from p (Refs names) e = (names, refl)
refs_from p Unusable e = absurd cc

has_array : (w : List Class) (b : Body) (op : JOp) (cells : List Cell) → ((k : ℕ) → k < takes op
    → accepts w b op k (typed.operand cells k) ≡ true) → HasArray op cells
has_array w b (jop.ArrayLoad opcode) cells h = refs_from (is_array_for opcode) (typed.operand cells 1)
    (h 1 (omega arith))
has_array w b _ cells h = tt

step_fits : (constant : MemberId → Option ℤ) → AreNumbers constant → (op : JOp) (f g : Frame) (x : RangeState)
    → length f.locals ≡ length x.locals → typed.after op (state_of f) ≡ state_of g → HasArray op f.stack
    → fits_state (state_of f) x ≡ true → fits_state (typed.after op (state_of f)) (after constant op f.stack x) ≡ true
step_fits constant numbers op f g x same e array h =
    let is : typed.stack_after op f.locals (typed_stacks.Cells f.stack) ≡ typed_stacks.Cells g.stack =
    ap (λ (s : State). s.stack) e in
    and_from _ _
    (subst (λ (s : Stack). fits_stack (cells_of s) (stack_after constant op f.stack x.locals x.stack) ≡ true) (sym is)
    (stack_fits constant numbers op f.stack f.locals g.stack x.stack x.locals array is
    (both_front (fits_stack f.stack x.stack) (fits f.locals x.locals) h)))
    (locals_fit op f.stack f.locals x.stack x.locals same (both_back (fits_stack f.stack x.stack)
    (fits f.locals x.locals) h))

-- ---- the tables

module _ (w : List Class) (b : Body) (table : TypeTable) (typing : IsTypeTable w b table) (constant : MemberId
    → Option ℤ) (numbers : AreNumbers constant) (values : List (Option ℤ)) (are_values : values
    ≡ values_of constant b.insns) where
  abbrev types : List (Option State)
  types = rows_of b table

  abbrev r : Ranged
  r = record { body = b; values = values; types = types }

  abbrev n : ℕ
  n = length b.insns

  abbrev ranging : Dataflow RangeState
  ranging = range_flow b constant types

  abbrev Own : RangeState → Type 0
  Own x = (states b.max_locals).Own x

  abbrev Below : RangeState → RangeState → Type 0
  Below x y = (states b.max_locals).Below x y

  value_is : (at : ℕ) (insn : JInsn) → slice_get b.insns at ≡ Some insn → value_at r at ≡ value_got constant insn.op
  value_is at insn is = ap (λ (vs : List (Option ℤ)). get_or vs at None) are_values
      ∙ map_at (λ (i : JInsn). value_got constant i.op) b.insns at insn None is

  step_is : (at : ℕ) (insn : JInsn) (t : State) (x : RangeState) → slice_get b.insns at ≡ Some insn
      → after_at r at insn t x ≡ after constant insn.op (cells_of t.stack) x
  step_is at insn t x is = ap (λ (v : Option ℤ). after (λ _. v) insn.op (cells_of t.stack) x) (value_is at insn is)
      ∙ after_value constant insn.op (cells_of t.stack) x

  -- ---- types

  typed_row : (at : ℕ) → at < n → slice_get types at ≡ Some (get_or types at None)
  typed_row at lt = let sized = rows_sized b table in slice_get-get_or types at None (omega (arith, lt, sized))

  row_is : (at : ℕ) → at < n → get_or types at None ≡ row_of (type_flow b) table.marks (states_of table.frames) at
  row_is at lt = get_or_from_slice_get types at _ None (full_at (type_flow b) table.marks (states_of table.frames) n at
      lt)

  next_types : (at : ℕ) (insn : JInsn) (t : State) → slice_get b.insns at ≡ Some insn → get_or types at None ≡ Some t
      → suc at < n → is_marked b (suc at) ≡ false → goes_on insn.op ≡ true → get_or types (suc at) None
      ≡ Some (typed.after insn.op t)
  next_types at insn t is there lt unmarked on =
      let flow = type_flow b in
      let rows = states_of table.frames in
      let none = unmarked_none b (suc at) unmarked in
      let none' : mark_of table.marks (suc at) ≡ None = ap (λ (ms : List ℕ). mark_of ms (suc at)) typing.marks ∙ none in
      let row : row_of flow table.marks rows at ≡ Some t = sym (row_is at (omega (arith, lt))) ∙ there in
      row_is (suc at) lt
      ∙ ap (λ (m : Option ℕ). kept_or rows m (handed_on flow at (row_of flow table.marks rows at))) none'
      ∙ ap (handed_on flow at) row
      ∙ passed b at t none
      ∙ ap (λ (o : Option JInsn). cond (nat_lt (at + 1) n) (gone_on_by o t) None) is
      ∙ ap (λ (g : Bool). cond (nat_lt (at + 1) n) (cond g (Some (typed.after insn.op t)) None) None) on
      ∙ inside (nat_lt (at + 1) n) refl
    where
      inside : (l : Bool) → nat_lt (at + 1) n ≡ l → cond l (Some (typed.after insn.op t)) None
          ≡ Some (typed.after insn.op t)
      inside true e = refl
      inside false e = let ge = ltb-false (at + 1) n e in absurd (omega (arith, ge, lt))

  -- what goes on to a place without a mark fits its types
  next_fits : (at : ℕ) (insn : JInsn) (t : State) (x : RangeState) → slice_get b.insns at ≡ Some insn
      → get_or types at None ≡ Some t → Own x → fits_state t x ≡ true → suc at < n → is_marked b (suc at) ≡ false
      → goes_on insn.op ≡ true → fits_row (get_or types (suc at) None) (after_at r at insn t x) ≡ true
  next_fits at insn t x is there own fit lt unmarked on =
      let lt' : at < n = omega (arith, lt) in
      let row : HasRow types at t = typed_row at lt' ∙ ap Some there in
      let next = next_types at insn t is there lt unmarked on in
      let row' : HasRow types (suc at) (typed.after insn.op t) = typed_row (suc at) lt ∙ ap Some next in
      let f = are_frames w b table typing at t row in
      let g = are_frames w b table typing (suc at) (typed.after insn.op t) row' in
      let own_t = typing.stands.least.closed.own at t row in
      let same : length t.locals ≡ length x.locals = own_t.1.sized ∙ sym own.1.sized in
      subst (λ (o : Option State). fits_row o (after_at r at insn t x) ≡ true) (sym next)
      (subst (λ (y : RangeState). fits_state (typed.after insn.op t) y ≡ true) (sym (step_is at insn t x is))
      (go f.0 g.0 t f.1 row g.1 same fit))
    where
      go : (f g : Frame) (t : State) → t ≡ state_of f → HasRow types at t → typed.after insn.op t ≡ state_of g
          → length t.locals ≡ length x.locals → fits_state t x ≡ true
          → fits_state (typed.after insn.op t) (after constant insn.op (cells_of t.stack) x) ≡ true
      go f g t e row is_g same fit =
          let P : State → Type 0 = λ s. HasRow types at s → typed.after insn.op s ≡ state_of g
          → length s.locals ≡ length x.locals → fits_state s x ≡ true
          → fits_state (typed.after insn.op s) (after constant insn.op (cells_of s.stack) x) ≡ true in
          subst P (sym e) (λ row is_g same fit. step_fits constant numbers insn.op f g x same is_g
          (has_array w b insn.op f.stack (are_typed w b table typing at insn f is row).operands) fit) row is_g same
          fit

  follow_fits : (at : ℕ) (insn : JInsn) (t : State) (x : RangeState) (to : ℕ) → slice_get b.insns at ≡ Some insn
      → get_or types at None ≡ Some t → Own x → fits_state t x ≡ true → Contains (successors b.insns at insn.op) to
      → is_marked b to ≡ false → fits_row (get_or types to None) (after_at r at insn t x) ≡ true
  follow_fits at insn t x to is there own fit has unmarked =
      elim (Contains-append_cases (next_place (goes_on insn.op) n at) (filter_map (place_at b.insns) (targets insn.op))
      to has) [
        | inl next ↦
            let i = next_is (goes_on insn.op) n at to next in
            subst (λ (k : ℕ). fits_row (get_or types k None) (after_at r at insn t x) ≡ true) (sym i.1.1)
            (next_fits at insn t x is there own fit i.1.0 (subst (λ (k : ℕ). is_marked b k ≡ false) i.1.1 unmarked) i.0)
        | inr jumps ↦ let marked = (jump_marked b at insn to is jumps).marked in absurd cc
      ]

  arrives : (to : ℕ) (y : RangeState) → (is_marked b to ≡ false → fits_row (get_or types to None) y ≡ true)
      → fits_row (get_or types to None) (kept_arrival r to y) ≡ true
  arrives to y h = go (is_marked b to) refl
    where
      go : (m : Bool) → is_marked b to ≡ m → fits_row (get_or types to None) (cond m (arrival b types to y) y) ≡ true
      go true e = types_fit (get_or types to None) (cond (is_target b to) (rounded y) y)
      go false e = h e

  -- the handler's place, which is marked
  record Handled (offset : ℕ) (x : RangeState) (c : Catch) (e : Edge RangeState) : Type 0 where
    to : ℕ
    found : place_at b.insns c.target ≡ Some to
    is : kept_edge r (caught x) to ≡ e

  handled_by : (offset : ℕ) (x : RangeState) (c : Catch) (e : Edge RangeState) → kept_handler r offset x c ≡ Some e
      → Handled offset x c e
  handled_by offset x c e h = go (covers c offset) (place_at b.insns c.target) refl h
    where
      go : (is : Bool) (o : Option ℕ) → place_at b.insns c.target ≡ o → cond is (option_map (kept_edge r (caught x)) o)
          None ≡ Some e → Handled offset x c e
      go true None f k = absurd cc
      go true (Some to) f k = record { to = to; found = f; is = cc }
      go false o f k = absurd cc

  edge_fits : (at : ℕ) (x : RangeState) → Own x → fits_row (get_or types at None) x ≡ true → (e : Edge RangeState)
      → Contains ((kept_flow r).edges at x) e → fits_row (get_or types e.to None) e.state ≡ true
  edge_fits at x own fit e has = go (slice_get b.insns at) (get_or types at None) refl refl fit has
    where
      go : (o : Option JInsn) (row : Option State) → slice_get b.insns at ≡ o → get_or types at None ≡ row
          → fits_row row x ≡ true → Contains (kept_place r at o row x) e → fits_row (get_or types e.to None) e.state
          ≡ true
      go None row is there fit has = absurd (contains_none e has)
      go (Some insn) None is there fit has = absurd (contains_none e has)
      go (Some insn) (Some t) is there fit has =
          elim (Contains-append_cases (map (kept_edge r (after_at r at insn t x)) (successors b.insns at insn.op))
          (filter_map (kept_handler r insn.at x) b.catches) e has) [
            | inl follows ↦
                let from = map_from (kept_edge r (after_at r at insn t x)) (successors b.insns at insn.op) e follows in
                subst (λ (f : Edge RangeState). fits_row (get_or types f.to None) f.state ≡ true) from.2
                (arrives from.0 (after_at r at insn t x) (follow_fits at insn t x from.0 is there own fit from.1))
            | inr handled ↦
                let from = kept_from (kept_handler r insn.at x) b.catches e handled in
                let h = handled_by insn.at x from.0 e from.2 in
                subst (λ (f : Edge RangeState). fits_row (get_or types f.to None) f.state ≡ true) h.is
                (arrives h.to (caught x) (λ unmarked. let marked = (handles_marked b from.0 h.to from.1
                h.found).marked in absurd cc))
          ]

  good_closed : (rows : List (Option RangeState)) → IsClosed (kept_flow r) n rows
      → IsClosed (kept_flow r) n (good types rows)
  good_closed rows h = record {
    sized = good_sized types rows ∙ h.sized;
    own = λ at x row. h.own at x (good_get types rows at x row).0;
    entry = λ lt.
        let c = h.entry lt in
        let fit = types_fit (get_or types 0 None) (cond (is_target b 0) (rounded (first_state b)) (first_state b)) in
        record {
          row = c.row;
          is_row = good_has types rows 0 c.row c.is_row (row_up b.max_locals (get_or types 0 None)
              (entry b types) c.row c.above fit);
          above = c.above;
        };
    steps = λ at x row e has.
        let g = good_get types rows at x row in
        let c = h.steps at x g.0 e has in
        let fit = edge_fits at x (h.own at x g.0) g.1 e has in
        record {
          row = c.row;
          is_row = good_has types rows e.to c.row c.is_row
              (row_up b.max_locals (get_or types e.to None) e.state c.row c.above fit);
          above = c.above;
        };
  }

  all_fit : (rows : List (Option RangeState)) → IsLeastClosed (kept_flow r) n rows → (k : ℕ) (x : RangeState)
      → HasRow rows k x → fits_row (get_or types k None) x ≡ true
  all_fit rows h k x row =
      let up = h.least (good types rows) (good_closed rows h.closed) k x row in
      let g = good_get types rows k up.row up.is_row in
      let there = g.0 in
      let same : up.row ≡ x = cc in
      subst (λ (y : RangeState). fits_row (get_or types k None) y ≡ true) same g.1

  -- ---- the same edges

  arrival_same : (to : ℕ) (y : RangeState) → Own y → (is_marked b to ≡ false → fits_row (get_or types to None) y ≡ true)
      → arrival b types to y ≡ kept_arrival r to y
  arrival_same to y own h = go (is_marked b to) refl
    where
      go : (m : Bool) → is_marked b to ≡ m → arrival b types to y ≡ cond m (arrival b types to y) y
      go true e = refl
      go false e = ap (λ (c : Bool). by_types (get_or types to None) (cond c (rounded y) y)) (not_target b to e)
          ∙ types_same b.max_locals (get_or types to None) y own (h e)

  abbrev edge_with : ℕ → RangeState → Edge RangeState
  edge_with to y = record { to = to; state = y }

  handler_same : (offset : ℕ) (x : RangeState) → Own x → (c : Catch) → Contains b.catches c
      → handler_edge b types offset x c ≡ kept_handler r offset x c
  handler_same offset x own c has = go (covers c offset) (place_at b.insns c.target) refl
    where
      go : (is : Bool) (o : Option ℕ) → place_at b.insns c.target ≡ o → cond is (option_map (edge b types (caught x)) o)
          None ≡ cond is (option_map (kept_edge r (caught x)) o) None
      go false o e = refl
      go true None e = refl
      go true (Some to) e = ap (λ (y : RangeState). Some (edge_with to y)) (arrival_same to (caught x)
          (own_caught r x own) (λ unmarked. let marked = (handles_marked b c to has e).marked in absurd cc))

  edges_same : (at : ℕ) (x : RangeState) → Own x → fits_row (get_or types at None) x ≡ true
      → ranging.edges at x ≡ (kept_flow r).edges at x
  edges_same at x own fit = go (slice_get b.insns at) (get_or types at None) refl refl fit
    where
      go : (o : Option JInsn) (row : Option State) → slice_get b.insns at ≡ o → get_or types at None ≡ row
          → fits_row row x ≡ true → place_edges b constant types at o row x ≡ kept_place r at o row x
      go None row is there fit = refl
      go (Some insn) None is there fit = refl
      go (Some insn) (Some t) is there fit =
          let y : RangeState = after_at r at insn t x in
          let rest : List (Edge RangeState) = filter_map (handler_edge b types insn.at x) b.catches in
          ap (λ (z : RangeState). map (edge b types z) (successors b.insns at insn.op)
          ++ rest) (sym (step_is at insn t x is))
          ∙ ap (λ (es : List (Edge RangeState)). es ++ rest) (map_same (edge b types y) (kept_edge r y)
          (successors b.insns at insn.op) (λ to has. ap (edge_with to) (arrival_same to y (own_after_at r at insn t
          x own) (follow_fits at insn t x to is there own fit has))))
          ∙ ap (λ (es : List (Edge RangeState)). map (kept_edge r y) (successors b.insns at insn.op)
          ++ es) (filter_same (handler_edge b types insn.at x) (kept_handler r insn.at x) b.catches
          (handler_same insn.at x own))

  -- ---- a closed range table is closed for the flow that is solved

  arrival_above : (to : ℕ) (y : RangeState) → Own y → Below (kept_arrival r to y) (arrival b types to y)
  arrival_above to y own = go (is_marked b to) refl
    where
      go : (m : Bool) → is_marked b to ≡ m → Below (cond m (arrival b types to y) y) (arrival b types to y)
      go true e = (state_lattice b.max_locals).reflexive (arrival b types to y) (own_arrival b types to y own)
      go false e = subst (λ (c : Bool). Below y (by_types (get_or types to None) (cond c (rounded y) y)))
          (sym (not_target b to e)) (types_above b.max_locals (get_or types to None) y own)

  handlers_above : (offset : ℕ) (x : RangeState) (catches : List Catch) → Own x
      → AreBelowInTurn (kept_flow r) (filter_map (kept_handler r offset x) catches)
      (filter_map (handler_edge b types offset x) catches)
  handlers_above offset x [] own = tt
  handlers_above offset x (c ∷ cs) own = go (covers c offset) (place_at b.insns c.target) (handlers_above offset x cs
      own)
    where
      go : (is : Bool) (to : Option ℕ) → AreBelowInTurn (kept_flow r) (filter_map (kept_handler r offset x) cs)
          (filter_map (handler_edge b types offset x) cs)
          → AreBelowInTurn (kept_flow r) (cons_option (cond is (option_map (kept_edge r (caught x)) to) None)
          (filter_map (kept_handler r offset x) cs)) (cons_option (cond is (option_map (edge b types (caught x)) to)
          None) (filter_map (handler_edge b types offset x) cs))
      go false to rest = rest
      go true None rest = rest
      go true (Some to) rest = ((refl, arrival_above to (caught x) (own_caught r x own)), rest)

  edges_above : (at : ℕ) (x : RangeState) → Own x → AreBelow (kept_flow r) ((kept_flow r).edges at x)
      (ranging.edges at x)
  edges_above at x own = go (slice_get b.insns at) (get_or types at None) refl
    where
      go : (o : Option JInsn) (row : Option State) → slice_get b.insns at ≡ o
          → AreBelow (kept_flow r) (kept_place r at o row x) (place_edges b constant types at o row x)
      go None row is = below_from_zip (kept_flow r) [] [] tt
      go (Some insn) None is = below_from_zip (kept_flow r) [] [] tt
      go (Some insn) (Some t) is =
          let y : RangeState = after_at r at insn t x in
          let own_y = own_after_at r at insn t x own in
          subst (λ (z : RangeState). AreBelow (kept_flow r) (kept_edges r at insn t x)
          (map (edge b types z) (successors b.insns at insn.op) ++ filter_map (handler_edge b types insn.at x)
          b.catches)) (step_is at insn t x is)
          (AreBelow-append (kept_flow r) _ _ _ _
          (AreBelow-map (kept_flow r) (kept_edge r y) (edge b types y) (successors b.insns at insn.op) (λ to. refl)
          (λ to. arrival_above to y own_y))
          (below_from_zip (kept_flow r) _ _ (handlers_above insn.at x b.catches own)))

  closed_kept : (rows : List (Option RangeState)) → IsClosed ranging n rows → IsClosed (kept_flow r) n rows
  closed_kept rows h = record {
    sized = h.sized;
    own = h.own;
    entry = λ lt. let c = h.entry lt in record { row = c.row; is_row = c.is_row; above = c.above };
    steps = λ at x row e has. step at x row e has;
  }
    where
      step : (at : ℕ) (x : RangeState) → HasRow rows at x → (e : Edge RangeState)
          → Contains ((kept_flow r).edges at x) e → Covers (kept_flow r) rows e.to e.state
      step at x row e has =
          let own = h.own at x row in
          let more = edges_above at x own e has in
          let f : Edge RangeState = more.0 in
          let c = h.steps at x row f more.1 in
          let there : HasRow rows e.to c.row = subst (λ (k : ℕ). HasRow rows k c.row) more.2 c.is_row in
          record {
            row = c.row;
            is_row = there;
            above = (state_lattice b.max_locals).transitive e.state f.state c.row ((kept_laws r).own_edges at x own e
                has) ((range_laws b constant types).own_edges at x own f more.1) (h.own e.to c.row there) more.3
                c.above;
          }

  -- ---- the least table

  least_same : (rows : List (Option RangeState)) → IsLeastClosed (kept_flow r) n rows → IsLeastClosed ranging n rows
  least_same rows h = record {
    closed = record {
      sized = h.closed.sized;
      own = h.closed.own;
      entry = λ lt. (let c = h.closed.entry lt in record { row = c.row; is_row = c.is_row; above = c.above });
      steps = λ at x row e has. step at x row e has;
    };
    least = λ others closed at x row. (let c = h.least others (closed_kept others closed) at x row
        in record { row = c.row; is_row = c.is_row; above = c.above });
  }
    where
      step : (at : ℕ) (x : RangeState) → HasRow rows at x → (e : Edge RangeState) → Contains (ranging.edges at x) e
          → Covers ranging rows e.to e.state
      step at x row e has =
          let same = edges_same at x (h.closed.own at x row) (all_fit rows h at x row) in
          let c = h.closed.steps at x row e (subst (λ (es : List (Edge RangeState)). Contains es e) same has) in
          record { row = c.row; is_row = c.is_row; above = c.above }

  merged_same : (o p : Option RangeState) → merged ranging o p ≡ merged (kept_flow r) o p
  merged_same None p = refl
  merged_same (Some x) None = refl
  merged_same (Some x) (Some y) = refl

  handed_same : (to : ℕ) (row : Option RangeState) (es : List (Edge RangeState)) → handed_more ranging to row es
      ≡ handed_more (kept_flow r) to row es
  handed_same to row [] = refl
  handed_same to row (e ∷ es) = handed_same to (merged ranging row (cond (e.to == to) (Some e.state) None)) es
      ∙ ap (λ (o : Option RangeState). handed_more (kept_flow r) to o es)
      (merged_same row (cond (e.to == to) (Some e.state) None))

  module _ (marks : List ℕ) (rows : List (Option RangeState)) (h : StandsForLeast (kept_flow r) n marks rows) where
    on_same : (at : ℕ) (o : Option RangeState) → at < n → row_of (kept_flow r) marks rows at ≡ o
        → handed_on ranging at o ≡ handed_on (kept_flow r) at o
    on_same at None lt is = refl
    on_same at (Some x) lt is =
        let row = full_has (kept_flow r) marks rows n at x lt is in
        ap (handed ranging (suc at)) (edges_same at x (h.least.closed.own at x row)
        (all_fit (kept.full (kept_flow r) n marks rows) h.least at x row))
        ∙ handed_same (suc at) None ((kept_flow r).edges at x)

    row_same : (at : ℕ) → at < n → row_of ranging marks rows at ≡ row_of (kept_flow r) marks rows at
    row_same zero lt = refl
    row_same (suc at) lt =
        ap (kept_or rows (mark_of marks (suc at))) (ap (handed_on ranging at) (row_same at (omega (arith, lt)))
        ∙ on_same at (row_of (kept_flow r) marks rows at) (omega (arith, lt)) refl)

    pub full_same : kept.full ranging n marks rows ≡ kept.full (kept_flow r) n marks rows
    full_same = map_same (row_of ranging marks rows) (row_of (kept_flow r) marks rows) (range_with_len 0 n)
        (λ at has. row_same at (range_inside n at has))

    pub stands_same : StandsForLeast ranging n marks rows
    stands_same = record {
      marked = h.marked;
      sized = h.sized;
      least = subst (IsLeastClosed ranging n) (sym full_same)
          (least_same (kept.full (kept_flow r) n marks rows) h.least);
    }

    pub range_table : marks ≡ table.marks → IsRangeTable b constant types marks rows
    range_table is = record { are_marks = is ∙ typing.marks; stands = stands_same }

  -- ---- the other way round

  good_ranging : (rows : List (Option RangeState)) → IsClosed (kept_flow r) n rows
      → IsClosed ranging n (good types rows)
  good_ranging rows h = record {
    sized = (good_closed rows h).sized;
    own = (good_closed rows h).own;
    entry = λ lt. (let c = (good_closed rows h).entry lt in record { row = c.row; is_row = c.is_row; above = c.above });
    steps = λ at x row e has. step at x row e has;
  }
    where
      step : (at : ℕ) (x : RangeState) → HasRow (good types rows) at x → (e : Edge RangeState)
          → Contains (ranging.edges at x) e → Covers ranging (good types rows) e.to e.state
      step at x row e has =
          let g = good_get types rows at x row in
          let same = edges_same at x (h.own at x g.0) g.1 in
          let c = (good_closed rows h).steps at x row e (subst (λ (es : List (Edge RangeState)). Contains es e) same
          has) in
          record { row = c.row; is_row = c.is_row; above = c.above }

  least_kept : (rows : List (Option RangeState)) → IsLeastClosed ranging n rows → IsLeastClosed (kept_flow r) n rows
  least_kept rows h = record {
    closed = closed_kept rows h.closed;
    least = λ others closed at x row. below others closed at x row;
  }
    where
      below : (others : List (Option RangeState)) → IsClosed (kept_flow r) n others → IsBelow (kept_flow r) rows others
      below others closed at x row =
          let c = h.least (good types others) (good_ranging others closed) at x row in
          let g = good_get types others at c.row c.is_row in
          record { row = c.row; is_row = g.0; above = c.above }

  module _ (marks : List ℕ) (rows : List (Option RangeState)) (h : StandsForLeast ranging n marks rows) where
    on_back : (at : ℕ) (o : Option RangeState) → at < n → row_of ranging marks rows at ≡ o → handed_on ranging at o
        ≡ handed_on (kept_flow r) at o
    on_back at None lt is = refl
    on_back at (Some x) lt is =
        let row = full_has ranging marks rows n at x lt is in
        ap (handed ranging (suc at)) (edges_same at x (h.least.closed.own at x row)
        (all_fit (kept.full ranging n marks rows) (least_kept (kept.full ranging n marks rows) h.least) at x row))
        ∙ handed_same (suc at) None ((kept_flow r).edges at x)

    row_back : (at : ℕ) → at < n → row_of ranging marks rows at ≡ row_of (kept_flow r) marks rows at
    row_back zero lt = refl
    row_back (suc at) lt =
        ap (kept_or rows (mark_of marks (suc at))) (on_back at (row_of ranging marks rows at) (omega (arith, lt)) refl
        ∙ ap (handed_on (kept_flow r) at) (row_back at (omega (arith, lt))))

    pub full_back : kept.full ranging n marks rows ≡ kept.full (kept_flow r) n marks rows
    full_back = map_same (row_of ranging marks rows) (row_of (kept_flow r) marks rows) (range_with_len 0 n)
        (λ at has. row_back at (range_inside n at has))

    pub stands_kept : StandsForLeast (kept_flow r) n marks rows
    stands_kept = record {
      marked = h.marked;
      sized = h.sized;
      least = subst (IsLeastClosed (kept_flow r) n) full_back
          (least_kept (kept.full ranging n marks rows) h.least);
    }
