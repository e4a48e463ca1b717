-- Each instruction in int mode that names nothing is a row, a jump or a nop.
use Rattle.std.proofs.Common.{◌≡◌, ◌⊎◌, ◌≤◌, ◌<◌, ◌+◌, ℕ, Bool, true, false, List, [], ◌∷◌}
use Rattle.std.proofs.Common.{length, take, drop, slice_get, slice_set, Some, map, All, inl, inr, refl, sym, ap}
use Rattle.std.proofs.Common.{subst, ◌∙◌, arith, ℤ, ◌-ℤ◌}
use Rattle.std.proofs.lemmas.Int.{ints}
use Rattle.std.specs.Prelude.{if◌then◌else◌}
use Rattle.std.specs.List.{Contains}
use Rattle.cjc_bytes.proofs.Bools.{not_false}
use Rattle.cjc_range.specs.Span.{Span, span, Holds, Within, IsWord, short_range, full}
use Rattle.cjc_range.specs.Rows.{add_row, neg_row, to_byte_row, to_short_row}
use Rattle.cjc_code.specs.declared.insn.JCase.{JCase}
use Rattle.cjc_code.specs.declared.insn.JOp.{JOp}
use Rattle.cjc_code.specs.declared.insn.JOp.TheVariants as jop
use Rattle.cjc_script.specs.declared.value.Value.TheVariants.{Num, Null, Obj}
use Rattle.cjc_script.specs.Sorts.{Shape}
use Rattle.cjc_world.specs.Classes.{Class}
use Rattle.cjc_types.specs.Fixpoint.Tables.{HasRow}
use Rattle.cjc_types.specs.Fixpoint.Working.Edges.{contains_head, contains_tail, contains_cons}
use Rattle.cjc_types.specs.declared.cell.Cell.{Cell}
use Rattle.cjc_types.specs.declared.cell.Cell.TheVariants.{Number, Refs}
use Rattle.cjc_types.specs.declared.state.Stack.TheVariants as stacks
use Rattle.cjc_types.specs.declared.state.State.{State}
use Rattle.cjc_types.specs.Rules.{accepts, has_wrong_local, is_number, is_reference, tests_references}
use Rattle.cjc_types.specs.Steps as typed
use Rattle.cjc_types.specs.Steps.{takes, targets, goes_on}
use Rattle.cjc_types.specs.Types.{as_reference}
use Rattle.cjc_types.specs.TypeLaws.Places.{local_of}
use Rattle.cjc_intervals.specs.Frames.{StackOf, Cells, Clash, RangeState, spans_of}
use Rattle.cjc_intervals.specs.Values.{exactly}
use Rattle.cjc_intervals.specs.Steps.{operand, stored, gives, stack_behind, locals_after}
use Rattle.cjc_intervals.specs.Bounds.{Bounds, index_range}
use Rattle.cjc_intervals.proofs.Steps.{own_operand}
use Rattle.cjc_flow.specs.Tests.Breaches.{lies_in}
use Rattle.cjc_ncode.specs.ByLabel.{Named}
use Rattle.cjc_ncode.specs.Written.{Resolution}
use Rattle.cjc_jvm_semantics.specs.Arithmetic.{is_same}
use Rattle.cjc_jvm_semantics.specs.Effects.{effect, place, case_of, entry_of}
use Rattle.cjc_jvm_semantics.specs.Linked.{Method, Linked}
use Rattle.cjc_narrow_proof.specs.Selection.Relation.{Kind, Range, Refers}
use Rattle.cjc_narrow_proof.specs.Tables.Analysis.{Found, IsDecoded}
use Rattle.cjc_narrow_proof.specs.Tables.Kinds.{is_one_of, kind_of_cell, kinds}
use Rattle.cjc_narrow_proof.specs.Tables.Supported.{IsPlain}
use Rattle.cjc_narrow_proof.specs.Tables.Supported as plain
use Rattle.cjc_narrow_proof.proofs.SelectionLaws.Stores.{holds_itself}
use Rattle.cjc_narrow_proof.proofs.SelectionLaws.Switches.{entry_among}
use Rattle.cjc_narrow_proof.proofs.TablesLaws.Plain.{number_is, reference_is, one_taken, two_taken, three_taken}
use Rattle.cjc_narrow_proof.proofs.TablesLaws.Plain.{local_kind, kinds_set, exactly_is}
use Rattle.cjc_narrow_proof.proofs.TablesLaws.Rows.{all_wider_itself}
use Rattle.cjc_narrow_proof.proofs.TablesLaws.Told.{kinds_length}
use Rattle.cjc_narrow_proof.proofs.TablesLaws.Typed.{IsTypedRow}
use Rattle.cjc_int_mode.specs.declared.modes.Mode.TheVariants as modes
use Rattle.cjc_int_mode.specs.Modes.{binds}
use Rattle.cjc_int_mode.specs.Written.{before, int_frame, index_operand}
use Rattle.cjc_int_runs.specs.Rows.{IsIntRow, IsIntJump}
use Rattle.cjc_int_runs.specs.Rows as rows
use Rattle.cjc_int_runs.specs.Steps.{known}
use Rattle.cjc_int_alike.specs.Method.{IsIntSound}
use Rattle.cjc_int_alike.specs.Steps.{IntStep, is_nop, has_row, has_jump, MayFall}
use Rattle.cjc_int_alike.proofs.Arrivals.{is_typed, own_numbers}
use Rattle.cjc_int_alike.proofs.Cells.{references_are, lies}

-- ---- cells

four_taken : (cs : List Cell) → 4 ≤ length cs → take 4 cs ≡ typed.operand cs 0 ∷ typed.operand cs 1 ∷ typed.operand cs 2
    ∷ typed.operand cs 3 ∷ []
four_taken [] h = absurd (omega (arith, h))
four_taken (c ∷ []) h = absurd (omega (arith, h))
four_taken (c ∷ d ∷ []) h = absurd (omega (arith, h))
four_taken (c ∷ d ∷ e ∷ []) h = absurd (omega (arith, h))
four_taken (c ∷ d ∷ e ∷ f ∷ cs) h = refl

stored_is : (s : StackOf Span) → stored false s ≡ operand (spans_of s) 0
stored_is (Cells s) = refl
stored_is Clash = refl

-- ---- numbers

short_is_word : (z : ℤ) → Holds short_range z → Holds full z
short_is_word z h = let a = h.above in let b = h.below in record {
  above = omega (arith, ints, a);
  below = omega (arith, ints, b);
}

-- ---- targets

case_among : (other : ℕ) (cases : List JCase) (z : ℤ) → Contains (other ∷ map (λ c. c.target) cases)
    (case_of other cases z)
case_among other [] z = contains_head other []
case_among other (c ∷ cases) z = go (is_same c.value z) (contains_cons other (map (λ c. c.target) cases)
    (case_of other cases z) (case_among other cases z))
  where
    go : (b : Bool) → ((other ≡ case_of other cases z) ⊎ Contains (map (λ c. c.target) cases) (case_of other cases z))
        → Contains (other ∷ c.target ∷ map (λ c. c.target) cases) (if b then c.target else case_of other cases z)
    go true h = contains_tail other (c.target ∷ map (λ c. c.target) cases) c.target (contains_head c.target
        (map (λ c. c.target) cases))
    go false (inl same) = subst (Contains (other ∷ c.target ∷ map (λ c. c.target) cases)) same
        (contains_head other (c.target ∷ map (λ c. c.target) cases))
    go false (inr later) = contains_tail other (c.target ∷ map (λ c. c.target) cases) (case_of other cases z)
        (contains_tail c.target (map (λ c. c.target) cases) (case_of other cases z) later)

-- ---- the instructions

module _ (by : Linked) (l : Named) (w : List Class) (r : Resolution) (f : Found) (m : Method)
    (decoded : IsDecoded f.body) (sound : IsIntSound w r.constant f) (at offset : ℕ) (cells local_cells : List Cell)
    (x : RangeState) (ranged : HasRow f.ranges at x) where
  abbrev pub t : State
  t = record { stack = stacks.Cells cells; locals = local_cells }

  abbrev pub numbers : List Span
  numbers = spans_of x.stack

  abbrev pub locals : List Kind
  locals = kinds l local_cells x.locals

  abbrev pub Stands : JOp → Type 0
  Stands op = slice_get f.body.insns at ≡ Some (record { at = offset; op = op })

  abbrev pub IsRow : Type 0
  IsRow = HasRow f.types at t

  abbrev pub Step : JOp → Type 0
  Step op = IntStep by l r f m at op t x

  -- a row of the instruction
  abbrev pub Row : JOp → (taken left ls js : List Kind) → Type 0
  Row op taken left ls js = IsIntRow by l (int_frame f.body) r m (before op t (Some x)) op taken left ls js

  -- a jump
  abbrev pub Leads : JOp → (taken : List Kind) → List ℕ → Type 0
  Leads op taken offsets = IsIntJump by l (int_frame f.body) r m (before op t (Some x)) op taken offsets

  -- whether its index lies inside
  abbrev pub inside : JOp → Bool
  inside op = lies_in (operand numbers (index_operand op)) index_range

  -- what the k-th operand is
  abbrev pub cell_at : ℕ → Kind
  cell_at k = kind_of_cell l (typed.operand cells k) (operand numbers k)

  module _ (row : IsRow) where
    pub typed_here : (op : JOp) → Stands op → IsTypedRow w f.body op t
    typed_here op there = is_typed l w r.constant f sound at (record { at = offset; op = op }) t there row

    own : (op : JOp) → Stands op → All IsWord numbers
    own op there = own_numbers l w r.constant f sound at (record { at = offset; op = op }) t x there row ranged

    pub word : (op : JOp) → Stands op → (k : ℕ) → IsWord (operand numbers k)
    word op there k = own_operand numbers k (own op there)

    pub within : (op : JOp) → Stands op → (rule k : ℕ) (s : Span) → binds modes.Int rule ≡ true
        → Bounds f.body op cells rule k s → Within (operand numbers k) s
    within op there rule k s is bounds = lies (binds modes.Int) f sound.passes at (record { at = offset; op = op }) t x
        there row ranged rule k s is bounds

    pub number_at : (op : JOp) → Stands op → (k : ℕ) → k < takes op
        → ((c : Cell) → accepts w f.body op k c ≡ is_number c) → typed.operand cells k ≡ Number
    number_at op there k lt is = number_is (typed.operand cells k) (sym (is (typed.operand cells k))
        ∙ (let h = typed_here op there in h.operands k lt))

    pub reference_at : (op : JOp) → Stands op → (k : ℕ) → k < takes op
        → ((c : Cell) → accepts w f.body op k c ≡ is_reference c) → (names : List (List ℕ))
        × (typed.operand cells k ≡ Refs names)
    reference_at op there k lt is = reference_is (typed.operand cells k) (sym (is (typed.operand cells k))
        ∙ (let h = typed_here op there in h.operands k lt))

    -- ---- the operands that are taken

    pub taken_one : (op : JOp) → Stands op → takes op ≡ 1 → kinds l (typed.operand cells 0 ∷ []) numbers
        ≡ kinds l (take (takes op) cells) numbers
    taken_one op there n = sym (ap (λ k. kinds l (take k cells) numbers) n
        ∙ ap (λ cs. kinds l cs numbers) (one_taken cells (let h = typed_here op there in let enough = h.there
        in omega (arith, enough, n))))

    pub taken_two : (op : JOp) → Stands op → takes op ≡ 2 → kinds l (typed.operand cells 0 ∷ typed.operand cells 1
        ∷ []) numbers ≡ kinds l (take (takes op) cells) numbers
    taken_two op there n = sym (ap (λ k. kinds l (take k cells) numbers) n
        ∙ ap (λ cs. kinds l cs numbers) (two_taken cells (let h = typed_here op there in let enough = h.there
        in omega (arith, enough, n))))

    pub taken_three : (op : JOp) → Stands op → takes op ≡ 3 → kinds l (typed.operand cells 0 ∷ typed.operand cells 1
        ∷ typed.operand cells 2 ∷ []) numbers ≡ kinds l (take (takes op) cells) numbers
    taken_three op there n = sym (ap (λ k. kinds l (take k cells) numbers) n
        ∙ ap (λ cs. kinds l cs numbers) (three_taken cells (let h = typed_here op there in let enough = h.there
        in omega (arith, enough, n))))

    taken_four : (op : JOp) → Stands op → takes op ≡ 4 → kinds l (typed.operand cells 0 ∷ typed.operand cells 1
        ∷ typed.operand cells 2 ∷ typed.operand cells 3 ∷ []) numbers ≡ kinds l (take (takes op) cells) numbers
    taken_four op there n = sym (ap (λ k. kinds l (take k cells) numbers) n
        ∙ ap (λ cs. kinds l cs numbers) (four_taken cells (let h = typed_here op there in let enough = h.there
        in omega (arith, enough, n))))

    pub one_number : (op : JOp) → Stands op → takes op ≡ 1 → typed.operand cells 0 ≡ Number → Range (operand numbers 0)
        ∷ [] ≡ kinds l (take (takes op) cells) numbers
    one_number op there n e = ap (λ c. kinds l (c ∷ []) numbers) (sym e) ∙ taken_one op there n

    pub two_numbers : (op : JOp) → Stands op → takes op ≡ 2 → typed.operand cells 0 ≡ Number → typed.operand cells 1
        ≡ Number → Range (operand numbers 0) ∷ Range (operand numbers 1) ∷ [] ≡ kinds l (take (takes op) cells) numbers
    two_numbers op there n e d = ap (λ c. kinds l (c ∷ Number ∷ []) numbers) (sym e)
        ∙ ap (λ c. kinds l (typed.operand cells 0 ∷ c ∷ []) numbers) (sym d) ∙ taken_two op there n

    pub one_reference : (op : JOp) → Stands op → takes op ≡ 1 → (names : List (List ℕ)) → typed.operand cells 0
        ≡ Refs names → Refers (is_one_of l names) ∷ [] ≡ kinds l (take (takes op) cells) numbers
    one_reference op there n names e = ap (λ c. kinds l (c ∷ []) numbers) (sym e) ∙ taken_one op there n

    two_references : (op : JOp) → Stands op → takes op ≡ 2 → (names others : List (List ℕ)) → typed.operand cells 0
        ≡ Refs names → typed.operand cells 1 ≡ Refs others → Refers (is_one_of l names) ∷ Refers (is_one_of l others)
        ∷ [] ≡ kinds l (take (takes op) cells) numbers
    two_references op there n names others e d = ap (λ c. kinds l (c ∷ Refs others ∷ []) numbers) (sym e)
        ∙ ap (λ c. kinds l (typed.operand cells 0 ∷ c ∷ []) numbers) (sym d) ∙ taken_two op there n

    -- ---- rows

    -- one that leaves what the tables say
    pub a_row : (op : JOp) → goes_on op ≡ true → (op ≡ jop.Nop → ⊥)
        → length (typed.gives op local_cells cells) ≡ length (gives r.constant op cells x.locals numbers)
        → Row op (kinds l (take (takes op) cells) numbers) (kinds l (typed.gives op local_cells cells)
        (stack_behind r.constant op cells x.locals numbers)) locals
        (kinds l (typed.locals_after op local_cells (stacks.Cells cells)) (locals_after op x.locals x.stack)) → Step op
    a_row op goes some same h = has_row goes some same (kinds l (typed.gives op local_cells cells)
        (stack_behind r.constant op cells x.locals numbers)) (all_wider_itself (kinds l (typed.gives op local_cells
        cells) (stack_behind r.constant op cells x.locals numbers))) h

    -- what is written goes by the kinds of the cells on top
    pub on_known : (op : JOp) (n : ℕ) (ks left : List Kind) → ks ≡ kinds l (take n cells) numbers
        → IsIntRow by l (int_frame f.body) r m (known ks (map is_reference (drop n cells)) (inside op)) op ks left
        locals locals → Row op (kinds l (take n cells) numbers) left locals locals
    on_known op n ks left e h =
        subst (λ bs. IsIntRow by l (int_frame f.body) r m (record { references = bs; is_index_inside = inside op }) op
        (kinds l (take n cells) numbers) left locals locals) (sym (references_are l 0 n cells numbers))
        (subst (λ hs. IsIntRow by l (int_frame f.body) r m (known hs (map is_reference (drop n cells)) (inside op))
        op hs
        left locals locals) e h)

    on_two : (opcode : ℕ) → takes (jop.Arith opcode) ≡ 2 → Stands (jop.Arith opcode) → (s : Span)
        → Row (jop.Arith opcode) (Range (operand numbers 0) ∷ Range (operand numbers 1) ∷ []) (Range s ∷ []) locals
        locals → Row (jop.Arith opcode) (kinds l (take (takes (jop.Arith opcode)) cells) numbers) (Range s ∷ []) locals
        locals
    on_two opcode n there s h =
        subst (λ ks. Row (jop.Arith opcode) ks (Range s ∷ []) locals locals)
        (two_numbers (jop.Arith opcode) there n (number_at (jop.Arith opcode) there 0 (omega (arith, n)) (λ c. refl))
        (number_at (jop.Arith opcode) there 1 (omega (arith, n)) (λ c. refl))) h

    -- ---- locals

    local_low : (op : JOp) (k : ℕ) → Stands op → local_of op ≡ Some k → k < length local_cells
    local_low op k there is =
        let low = decoded.locals at (record { at = offset; op = op }) k there is in
        let tables = sound.types in
        let state = tables.states at t row in
        let sized = state.locals.sized in
        omega (arith, low, sized)

    number_low : (op : JOp) (k : ℕ) → Stands op → local_of op ≡ Some k → 0 + k < length x.locals
    number_low op k there is =
        let low = decoded.locals at (record { at = offset; op = op }) k there is in
        let tables = sound.ranges in
        let sized = (tables.own at x ranged).1.sized in
        omega (arith, low, sized)

    kinds_low : (op : JOp) (k : ℕ) → Stands op → local_of op ≡ Some k → k < length locals
    kinds_low op k there is = let low = local_low op k there is in let long = kinds_length l 0 local_cells x.locals
        in omega (arith, low, long)

    local_is : (op : JOp) (k : ℕ) → Stands op → local_of op ≡ Some k → (c : Cell) → typed.operand local_cells k ≡ c
        → slice_get locals k ≡ Some (kind_of_cell l c (operand x.locals k))
    local_is op k there is c e =
        let same : 0 + k ≡ k = omega arith in
        local_kind l 0 local_cells x.locals k (local_low op k there is)
        ∙ ap (λ n. Some (kind_of_cell l (typed.operand local_cells k) (operand x.locals n))) same
        ∙ ap (λ d. Some (kind_of_cell l d (operand x.locals k))) e

    locals_set : (op : JOp) (k : ℕ) → Stands op → local_of op ≡ Some k → (c : Cell) (s : Span)
        → kinds l (slice_set local_cells k c) (slice_set x.locals k s) ≡ slice_set locals k (kind_of_cell l c s)
    locals_set op k there is c s =
        let same : k ≡ 0 + k = omega arith in
        ap (λ n. kinds l (slice_set local_cells k c) (slice_set x.locals n s)) same
        ∙ kinds_set l 0 local_cells x.locals k c s (number_low op k there is)

    wrong_local : (op : JOp) → Stands op → has_wrong_local op local_cells ≡ false
    wrong_local op there = let h = typed_here op there in h.local

    -- ---- jumps

    is_test : (opcode target k : ℕ) (c : Cell) → tests_references opcode ≡ false
        → accepts w f.body (jop.If opcode target) k c ≡ is_number c
    is_test opcode target k c is = ap (λ b. if b then is_reference c else is_number c) is

    is_reference_test : (opcode target k : ℕ) (c : Cell) → tests_references opcode ≡ true
        → accepts w f.body (jop.If opcode target) k c ≡ is_reference c
    is_reference_test opcode target k c is = ap (λ b. if b then is_reference c else is_number c) is

    test_step : (opcode target : ℕ) → Leads (jop.If opcode target)
        (kinds l (take (takes (jop.If opcode target)) cells) numbers) (target ∷ []) → Step (jop.If opcode target)
    test_step opcode target h = has_jump refl refl refl h (λ ls those store new vs stack e. inl refl)

    test_one : (opcode target : ℕ) → Stands (jop.If opcode target) → takes (jop.If opcode target) ≡ 1
        → tests_references opcode ≡ false → Leads (jop.If opcode target) (Range (operand numbers 0) ∷ []) (target ∷ [])
        → Step (jop.If opcode target)
    test_one opcode target there n is h =
        test_step opcode target (subst (λ ks. Leads (jop.If opcode target) ks (target ∷ []))
        (one_number (jop.If opcode target) there n (number_at (jop.If opcode target) there 0 (omega (arith, n))
        (λ c. is_test opcode target 0 c is))) h)

    test_two : (opcode target : ℕ) → Stands (jop.If opcode target) → takes (jop.If opcode target) ≡ 2
        → tests_references opcode ≡ false → Leads (jop.If opcode target) (Range (operand numbers 0)
        ∷ Range (operand numbers 1) ∷ []) (target ∷ []) → Step (jop.If opcode target)
    test_two opcode target there n is h =
        test_step opcode target (subst (λ ks. Leads (jop.If opcode target) ks (target ∷ []))
        (two_numbers (jop.If opcode target) there n (number_at (jop.If opcode target) there 0 (omega (arith, n))
        (λ c. is_test opcode target 0 c is)) (number_at (jop.If opcode target) there 1 (omega (arith, n))
        (λ c. is_test opcode target 1 c is))) h)

    test_reference : (opcode target : ℕ) → Stands (jop.If opcode target) → takes (jop.If opcode target) ≡ 1
        → tests_references opcode ≡ true
        → ((within : Shape (List ℕ) → Bool) → Leads (jop.If opcode target) (Refers within ∷ []) (target ∷ []))
        → Step (jop.If opcode target)
    test_reference opcode target there n is h =
        let top = reference_at (jop.If opcode target) there 0 (omega (arith, n)) (λ c. is_reference_test opcode target 0
        c is) in
        test_step opcode target (subst (λ ks. Leads (jop.If opcode target) ks (target ∷ []))
        (one_reference (jop.If opcode target) there n top.0 top.1) (h (is_one_of l top.0)))

    test_references_two : (opcode target : ℕ) → Stands (jop.If opcode target) → takes (jop.If opcode target) ≡ 2
        → tests_references opcode ≡ true
        → ((within below : Shape (List ℕ) → Bool) → Leads (jop.If opcode target) (Refers within ∷ Refers below ∷ [])
        (target ∷ [])) → Step (jop.If opcode target)
    test_references_two opcode target there n is h =
        let top = reference_at (jop.If opcode target) there 0 (omega (arith, n)) (λ c. is_reference_test opcode target 0
        c is) in
        let low = reference_at (jop.If opcode target) there 1 (omega (arith, n)) (λ c. is_reference_test opcode target 1
        c is) in
        test_step opcode target (subst (λ ks. Leads (jop.If opcode target) ks (target ∷ []))
        (two_references (jop.If opcode target) there n top.0 low.0 top.1 low.1) (h (is_one_of l top.0)
        (is_one_of l low.0)))

    goto_only : (target : ℕ) → MayFall by l r f m at (jop.Goto target) t x
    unfolding effect
    goto_only target ls those store new vs stack e = inr (
      target,
      contains_head target [],
      (let same : place m.insns target
          ≡ at + 1 = cc in same),
    )

    table_only : (other : ℕ) (low : ℤ) (more : List ℕ) → MayFall by l r f m at (jop.TableSwitch other low more) t x
    unfolding effect
    table_only other low more ls those store new [] stack e = cc
    table_only other low more ls those store new (Null ∷ rest) stack e = cc
    table_only other low more ls those store new (Obj k ∷ rest) stack e = cc
    table_only other low more ls those store new (Num z ∷ rest) stack e = inr (
      entry_of other more (z -ℤ low),
      entry_among other more (z -ℤ low),
      (let same : place m.insns (entry_of other more (z -ℤ low)) ≡ at + 1 = cc
          in same),
    )

    lookup_only : (other : ℕ) (cases : List JCase) → MayFall by l r f m at (jop.LookupSwitch other cases) t x
    unfolding effect
    lookup_only other cases ls those store new [] stack e = cc
    lookup_only other cases ls those store new (Null ∷ rest) stack e = cc
    lookup_only other cases ls those store new (Obj k ∷ rest) stack e = cc
    lookup_only other cases ls those store new (Num z ∷ rest) stack e = inr (
      case_of other cases z,
      case_among other cases z,
      (let same : place m.insns (case_of other cases z)
          ≡ at + 1 = cc in same),
    )

    -- ---- each instruction

    pub plain_step : (op : JOp) → IsPlain op → Stands op → Step op
    plain_step _ plain.nop there = is_nop refl
    plain_step _ plain.aconst_null there = a_row jop.Null refl (λ e. cc) refl
        (rows.aconst_null_row _ locals (is_one_of l []))
    plain_step _ (plain.number {z = z} fits) there = a_row (jop.Number z) refl (λ e. cc) refl
        (rows.number_row _ locals z (exactly z) fits (subst (λ s. Holds s z) (sym (exactly_is z fits))
        (holds_itself z)))
    plain_step _ plain.iadd there = a_row (jop.Arith 0x60) refl (λ e. cc) refl (on_two 0x60 refl there _
        (rows.iadd_row _ locals (operand numbers 1) (operand numbers 0)))
    plain_step _ plain.isub there = a_row (jop.Arith 0x64) refl (λ e. cc) refl (on_two 0x64 refl there _
        (rows.isub_row _ locals (operand numbers 1) (operand numbers 0)))
    plain_step _ plain.imul there = a_row (jop.Arith 0x68) refl (λ e. cc) refl (on_two 0x68 refl there _
        (rows.imul_row _ locals (operand numbers 1) (operand numbers 0)))
    plain_step _ plain.idiv there = a_row (jop.Arith 0x6C) refl (λ e. cc) refl (on_two 0x6C refl there _
        (rows.idiv_row _ locals (operand numbers 1) (operand numbers 0)))
    plain_step _ plain.irem there = a_row (jop.Arith 0x70) refl (λ e. cc) refl (on_two 0x70 refl there _
        (rows.irem_row _ locals (operand numbers 1) (operand numbers 0) (word (jop.Arith 0x70) there 1) (word
        (jop.Arith 0x70) there 0)))
    plain_step _ plain.ishl there = a_row (jop.Arith 0x78) refl (λ e. cc) refl (on_two 0x78 refl there _
        (rows.ishl_row _ locals (operand numbers 1) (operand numbers 0)))
    plain_step _ plain.ishr there = a_row (jop.Arith 0x7A) refl (λ e. cc) refl (on_two 0x7A refl there _
        (rows.ishr_row _ locals (operand numbers 1) (operand numbers 0) (word (jop.Arith 0x7A) there 1) (word
        (jop.Arith 0x7A) there 0)))
    plain_step _ plain.iushr there = a_row (jop.Arith 0x7C) refl (λ e. cc) refl (on_two 0x7C refl there _
        (rows.iushr_row _ locals (operand numbers 1) (operand numbers 0) (word (jop.Arith 0x7C) there 1) (word
        (jop.Arith 0x7C) there 0)))
    plain_step _ plain.iand there = a_row (jop.Arith 0x7E) refl (λ e. cc) refl (on_two 0x7E refl there _
        (rows.iand_row _ locals (operand numbers 1) (operand numbers 0) (word (jop.Arith 0x7E) there 1) (word
        (jop.Arith 0x7E) there 0)))
    plain_step _ plain.ior there = a_row (jop.Arith 0x80) refl (λ e. cc) refl (on_two 0x80 refl there _
        (rows.ior_row _ locals (operand numbers 1) (operand numbers 0) (word (jop.Arith 0x80) there 1) (word
        (jop.Arith 0x80) there 0)))
    plain_step _ plain.ixor there = a_row (jop.Arith 0x82) refl (λ e. cc) refl (on_two 0x82 refl there _
        (rows.ixor_row _ locals (operand numbers 1) (operand numbers 0) (word (jop.Arith 0x82) there 1) (word
        (jop.Arith 0x82) there 0)))
    plain_step _ plain.ineg there = a_row (jop.Arith 0x74) refl (λ e. cc) refl
        (subst (λ ks. Row (jop.Arith 0x74) ks (Range (neg_row (operand numbers 0)) ∷ []) locals locals)
        (one_number (jop.Arith 0x74) there refl (number_at (jop.Arith 0x74) there 0 (omega arith) (λ c. refl)))
        (rows.ineg_row _ locals (operand numbers 0)))
    plain_step _ plain.i2b there = a_row (jop.Narrow 0x91) refl (λ e. cc) refl
        (subst (λ ks. Row (jop.Narrow 0x91) ks (Range (to_byte_row (operand numbers 0)) ∷ []) locals locals)
        (one_number (jop.Narrow 0x91) there refl (number_at (jop.Narrow 0x91) there 0 (omega arith) (λ c. refl)))
        (rows.i2b_row _ locals (operand numbers 0)))
    plain_step _ plain.i2s there = a_row (jop.Narrow 0x93) refl (λ e. cc) refl
        (subst (λ ks. Row (jop.Narrow 0x93) ks (Range (to_short_row (operand numbers 0)) ∷ []) locals locals)
        (one_number (jop.Narrow 0x93) there refl (number_at (jop.Narrow 0x93) there 0 (omega arith) (λ c. refl)))
        (rows.i2s_row _ locals (operand numbers 0)))
    plain_step _ plain.pop there = a_row (jop.Stack 0x57) refl (λ e. cc) refl (on_known (jop.Stack 0x57) 1 _ _
        (taken_one (jop.Stack 0x57) there refl) (rows.pop_row locals _ _ (cell_at 0)))
    plain_step _ plain.pop2 there = a_row (jop.Stack 0x58) refl (λ e. cc) refl (on_known (jop.Stack 0x58) 2 _ _
        (taken_two (jop.Stack 0x58) there refl) (rows.pop2_row locals _ _ (cell_at 0) (cell_at 1)))
    plain_step _ plain.dup there = a_row (jop.Stack 0x59) refl (λ e. cc) refl (on_known (jop.Stack 0x59) 1 _ _
        (taken_one (jop.Stack 0x59) there refl) (rows.dup_row locals _ _ (cell_at 0)))
    plain_step _ plain.dup_x1 there = a_row (jop.Stack 0x5A) refl (λ e. cc) refl (on_known (jop.Stack 0x5A) 2 _ _
        (taken_two (jop.Stack 0x5A) there refl) (rows.dup_x1_row locals _ _ (cell_at 0) (cell_at 1)))
    plain_step _ plain.dup_x2 there = a_row (jop.Stack 0x5B) refl (λ e. cc) refl (on_known (jop.Stack 0x5B) 3 _ _
        (taken_three (jop.Stack 0x5B) there refl) (rows.dup_x2_row locals _ _ (cell_at 0) (cell_at 1) (cell_at 2)))
    plain_step _ plain.dup2 there = a_row (jop.Stack 0x5C) refl (λ e. cc) refl (on_known (jop.Stack 0x5C) 2 _ _
        (taken_two (jop.Stack 0x5C) there refl) (rows.dup2_row locals _ _ (cell_at 0) (cell_at 1)))
    plain_step _ plain.dup2_x1 there = a_row (jop.Stack 0x5D) refl (λ e. cc) refl (on_known (jop.Stack 0x5D) 3 _ _
        (taken_three (jop.Stack 0x5D) there refl) (rows.dup2_x1_row locals _ _ (cell_at 0) (cell_at 1) (cell_at 2)))
    plain_step _ plain.dup2_x2 there = a_row (jop.Stack 0x5E) refl (λ e. cc) refl (on_known (jop.Stack 0x5E) 4 _ _
        (taken_four (jop.Stack 0x5E) there refl) (rows.dup2_x2_row locals _ _ (cell_at 0) (cell_at 1) (cell_at 2)
        (cell_at 3)))
    plain_step _ plain.swap there = a_row (jop.Stack 0x5F) refl (λ e. cc) refl (on_known (jop.Stack 0x5F) 2 _ _
        (taken_two (jop.Stack 0x5F) there refl) (rows.swap_row locals _ _ (cell_at 0) (cell_at 1)))
    plain_step _ (plain.iload {k = k}) there =
        let is = number_is (typed.operand local_cells k) (not_false (is_number (typed.operand local_cells k))
        (wrong_local (jop.Load false k) there)) in
        a_row (jop.Load false k) refl (λ e. cc) refl (rows.iload_row _ locals k (operand x.locals k)
        (local_is (jop.Load false k) k there refl Number is))
    plain_step _ (plain.aload {k = k}) there =
        let is = reference_is (typed.operand local_cells k) (not_false (is_reference (typed.operand local_cells k))
        (wrong_local (jop.Load true k) there)) in
        a_row (jop.Load true k) refl (λ e. cc) refl
        (subst (λ c. Row (jop.Load true k) [] (kind_of_cell l (as_reference c) full ∷ []) locals locals) (sym is.1)
        (rows.aload_row _ locals k (is_one_of l is.0) (local_is (jop.Load true k) k there refl (Refs is.0) is.1)))
    plain_step _ (plain.istore {k = k}) there =
        a_row (jop.Store false k) refl (λ e. cc) refl
        (subst (λ ks. Row (jop.Store false k) ks [] locals
        (kinds l (slice_set local_cells k Number) (slice_set x.locals k (stored false x.stack))))
        (one_number (jop.Store false k) there refl (number_at (jop.Store false k) there 0 (omega arith) (λ c. refl)))
        (subst (λ s. Row (jop.Store false k) (Range (operand numbers 0) ∷ []) [] locals
        (kinds l (slice_set local_cells k Number) (slice_set x.locals k s))) (sym (stored_is x.stack))
        (subst (λ ls. Row (jop.Store false k) (Range (operand numbers 0) ∷ []) [] locals ls)
        (sym (locals_set (jop.Store false k) k there refl Number (operand numbers 0)))
        (rows.istore_row _ locals k (operand numbers 0) (kinds_low (jop.Store false k) k there refl)))))
    plain_step _ (plain.astore {k = k}) there =
        let top = reference_at (jop.Store true k) there 0 (omega arith) (λ c. refl) in
        a_row (jop.Store true k) refl (λ e. cc) refl
        (subst (λ ks. Row (jop.Store true k) ks [] locals
        (kinds l (slice_set local_cells k (as_reference (typed.operand cells 0))) (slice_set x.locals k full)))
        (one_reference (jop.Store true k) there refl top.0 top.1)
        (subst (λ c. Row (jop.Store true k) (Refers (is_one_of l top.0) ∷ []) [] locals
        (kinds l (slice_set local_cells k (as_reference c)) (slice_set x.locals k full))) (sym top.1)
        (subst (λ ls. Row (jop.Store true k) (Refers (is_one_of l top.0) ∷ []) [] locals ls)
        (sym (locals_set (jop.Store true k) k there refl (Refs top.0) full))
        (rows.astore_row _ locals k (is_one_of l top.0) (kinds_low (jop.Store true k) k there refl)))))
    plain_step _ (plain.iinc {k = k} {z = z} small) there =
        let is = number_is (typed.operand local_cells k) (not_false (is_number (typed.operand local_cells k))
        (wrong_local (jop.Inc k z) there)) in
        a_row (jop.Inc k z) refl (λ e. cc) refl
        (subst (λ s. Row (jop.Inc k z) [] [] locals
        (kinds l (slice_set local_cells k Number) (slice_set x.locals k (add_row (operand x.locals k) s))))
        (sym (exactly_is z (short_is_word z small)))
        (subst (λ ls. Row (jop.Inc k z) [] [] locals ls)
        (sym (locals_set (jop.Inc k z) k there refl Number (add_row (operand x.locals k) (span z z))))
        (rows.iinc_row _ locals k (operand x.locals k) z (local_is (jop.Inc k z) k there refl Number is)
        (kinds_low (jop.Inc k z) k there refl) small)))
    plain_step _ (plain.ifeq {target = target}) there = test_one 0x99 target there refl refl
        (rows.ifeq_jump _ target (operand numbers 0))
    plain_step _ (plain.ifne {target = target}) there = test_one 0x9A target there refl refl
        (rows.ifne_jump _ target (operand numbers 0))
    plain_step _ (plain.iflt {target = target}) there = test_one 0x9B target there refl refl
        (rows.iflt_jump _ target (operand numbers 0))
    plain_step _ (plain.ifge {target = target}) there = test_one 0x9C target there refl refl
        (rows.ifge_jump _ target (operand numbers 0))
    plain_step _ (plain.ifgt {target = target}) there = test_one 0x9D target there refl refl
        (rows.ifgt_jump _ target (operand numbers 0))
    plain_step _ (plain.ifle {target = target}) there = test_one 0x9E target there refl refl
        (rows.ifle_jump _ target (operand numbers 0))
    plain_step _ (plain.if_icmpeq {target = target}) there = test_two 0x9F target there refl refl
        (rows.if_icmpeq_jump _ target (operand numbers 1) (operand numbers 0))
    plain_step _ (plain.if_icmpne {target = target}) there = test_two 0xA0 target there refl refl
        (rows.if_icmpne_jump _ target (operand numbers 1) (operand numbers 0))
    plain_step _ (plain.if_icmplt {target = target}) there = test_two 0xA1 target there refl refl
        (rows.if_icmplt_jump _ target (operand numbers 1) (operand numbers 0))
    plain_step _ (plain.if_icmpge {target = target}) there = test_two 0xA2 target there refl refl
        (rows.if_icmpge_jump _ target (operand numbers 1) (operand numbers 0))
    plain_step _ (plain.if_icmpgt {target = target}) there = test_two 0xA3 target there refl refl
        (rows.if_icmpgt_jump _ target (operand numbers 1) (operand numbers 0))
    plain_step _ (plain.if_icmple {target = target}) there = test_two 0xA4 target there refl refl
        (rows.if_icmple_jump _ target (operand numbers 1) (operand numbers 0))
    plain_step _ (plain.if_acmpeq {target = target}) there = test_references_two 0xA5 target there refl refl
        (rows.if_acmpeq_jump _ target)
    plain_step _ (plain.if_acmpne {target = target}) there = test_references_two 0xA6 target there refl refl
        (rows.if_acmpne_jump _ target)
    plain_step _ (plain.ifnull {target = target}) there = test_reference 0xC6 target there refl refl
        (rows.ifnull_jump _ target)
    plain_step _ (plain.ifnonnull {target = target}) there = test_reference 0xC7 target there refl refl
        (rows.ifnonnull_jump _ target)
    plain_step _ (plain.goto {target = target}) there = has_jump refl refl refl (rows.goto_jump _ target)
        (goto_only target)
    plain_step _ (plain.tableswitch {other = other} {low = low} {targets = more}) there =
        let op = jop.TableSwitch other low more in
        has_jump refl refl refl (subst (λ ks. Leads op ks (other ∷ more)) (one_number op there refl
        (number_at op there 0 (omega arith) (λ c. refl))) (rows.tableswitch_jump _ (operand numbers 0) other low more))
        (table_only other low more)
    plain_step _ (plain.lookupswitch {other = other} {cases = cases}) there =
        let op = jop.LookupSwitch other cases in
        has_jump refl refl refl (subst (λ ks. Leads op ks (targets op)) (one_number op there refl
        (number_at op there 0 (omega arith) (λ c. refl))) (rows.lookupswitch_jump _ (operand numbers 0) other cases))
        (lookup_only other cases)
