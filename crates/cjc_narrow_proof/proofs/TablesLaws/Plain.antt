-- Each instruction that names nothing keeps its rule.
use Rattle.std.proofs.Common.{◌≡◌, ◌⊎◌, inl, inr, ◌≤◌, ◌<◌, ◌+◌, ℕ, zero, suc, Bool, true, false, List, [], ◌∷◌}
use Rattle.std.proofs.Common.{length, take, slice_get, slice_set, Option, Some, map, All, refl, sym, ap, subst}
use Rattle.std.proofs.Common.{◌∙◌, arith, ℤ, pos, ◌-ℤ◌}
use Rattle.std.proofs.lemmas.Int.{ints}
use Rattle.std.specs.Prelude.{if◌then◌else◌}
use Rattle.std.specs.List.{Contains}
use Rattle.cjc_range.specs.Span.{Span, span, Holds, Within, IsWord, short_range, full}
use Rattle.cjc_range.specs.Rows.{add_row, neg_row, to_byte_row, to_short_row}
use Rattle.cjc_range.proofs.Order.{clip_fits}
use Rattle.cjc_code.specs.declared.insn.JCase.{JCase}
use Rattle.cjc_code.specs.declared.insn.JOp.{JOp}
use Rattle.cjc_code.specs.declared.insn.JOp.TheVariants as jop
use Rattle.cjc_types.specs.Fixpoint.Tables.{HasRow}
use Rattle.cjc_script.specs.declared.value.Value.{Value}
use Rattle.cjc_script.specs.declared.value.Value.TheVariants.{Num, Null, Obj}
use Rattle.cjc_world.specs.Classes.{Class}
use Rattle.cjc_types.specs.declared.cell.Cell.{Cell}
use Rattle.cjc_types.specs.declared.cell.Cell.TheVariants.{Number, Refs, Unusable}
use Rattle.cjc_types.specs.declared.state.Stack.TheVariants as stacks
use Rattle.cjc_types.specs.declared.state.State.{State}
use Rattle.cjc_types.specs.Rules.{accepts, has_wrong_local, is_number, is_reference, tests_references}
use Rattle.cjc_types.specs.Steps as typed
use Rattle.cjc_types.specs.Steps.{takes, targets}
use Rattle.cjc_types.specs.Types.{as_reference}
use Rattle.cjc_types.specs.TypeLaws.Places.{local_of}
use Rattle.cjc_script.specs.Sorts.{Shape}
use Rattle.cjc_ncode.specs.declared.narrow.NCase.{NCase}
use Rattle.cjc_ncode.specs.Written.{switched, table_cases, pair_cases, low_of}
use Rattle.cjc_ncode.specs.ByLabel.{Named}
use Rattle.cjc_jvm_semantics.specs.Arithmetic.{is_same}
use Rattle.cjc_jvm_semantics.specs.Effects.{Store, Go, effect, place, case_of, entry_of}
use Rattle.cjc_types.specs.Fixpoint.Working.Edges.{contains_head, contains_tail, contains_cons}
use Rattle.cjc_jvm_semantics.specs.Linked.{Method, Linked}
use Rattle.cjc_intervals.specs.Frames.{StackOf, Cells, Clash, RangeState, spans_of}
use Rattle.cjc_intervals.specs.Values.{exactly}
use Rattle.cjc_intervals.specs.Steps.{operand, stored}
use Rattle.cjc_intervals.specs.Bounds.{Bounds, divides, a_comparison, a_division, a_shift, a_table, a_lookup}
use Rattle.cjc_intervals.proofs.Steps.{own_operand}
use Rattle.cjc_narrow_proof.specs.Selection.Relation.{Kind, Range, Refers}
use Rattle.cjc_narrow_proof.specs.Selection.Rows.{RowAgrees, RowOnLocals, IsNotWritten}
use Rattle.cjc_narrow_proof.specs.Selection.Jumps.{JumpAgrees}
use Rattle.cjc_narrow_proof.specs.Selection.Switches.{TwoAgree}
use Rattle.cjc_narrow_proof.specs.Selection.Tables.{written_place}
use Rattle.cjc_narrow_proof.proofs.SelectionLaws.Switches.{tableswitch, lookupswitch, empty_table, empty_pairs}
use Rattle.cjc_narrow_proof.proofs.SelectionLaws.Switches.{entry_among}
use Rattle.cjc_narrow_proof.specs.Selection.Runs.{RuleWithin}
use Rattle.cjc_narrow_proof.proofs.SelectionLaws.Plain.{iadd, isub, imul, ishl, iand, ior, ixor, ineg}
use Rattle.cjc_narrow_proof.proofs.SelectionLaws.Divides.{idiv, irem, ishr, iushr, i2b}
use Rattle.cjc_narrow_proof.proofs.SelectionLaws.Pushes.{aconst_null, constant, iload, aload}
use Rattle.cjc_narrow_proof.proofs.SelectionLaws.Copies.{dup, dup_x1, dup_x2, dup2, dup2_x1, dup2_x2}
use Rattle.cjc_narrow_proof.proofs.SelectionLaws.Drops.{pop, pop2, swap, nop, i2s}
use Rattle.cjc_narrow_proof.proofs.SelectionLaws.Stores.{istore, astore, iinc, holds_itself}
use Rattle.cjc_narrow_proof.proofs.SelectionLaws.Branches.{goto, ifeq, ifne, iflt, ifge, ifgt, ifle, if_icmpeq}
use Rattle.cjc_narrow_proof.proofs.SelectionLaws.Branches.{if_icmpne, if_icmplt, if_icmpge, if_icmpgt, if_icmple}
use Rattle.cjc_narrow_proof.proofs.SelectionLaws.Branches.{if_acmpeq, if_acmpne, ifnull, ifnonnull}
use Rattle.cjc_narrow_proof.specs.Tables.Kinds.{is_one_of, kind_of_cell, kinds_from, kinds, point_of}
use Rattle.cjc_narrow_proof.specs.Tables.Analysis.{Analysis, IsAlone, IsDecoded, IsSound, IsRead}
use Rattle.cjc_narrow_proof.specs.Tables.Analysis.{CatchesAreTold}
use Rattle.cjc_narrow_proof.specs.Tables.Supported.{IsPlain}
use Rattle.cjc_narrow_proof.specs.Tables.Supported as plain
use Rattle.cjc_narrow_proof.proofs.TablesLaws.Typed.{IsTypedRow}
use Rattle.cjc_narrow_proof.proofs.TablesLaws.Arrivals.{is_typed, own_numbers}
use Rattle.cjc_narrow_proof.proofs.TablesLaws.Bounded.{lies}
use Rattle.cjc_narrow_proof.proofs.TablesLaws.Methods.{tb}
use Rattle.cjc_narrow_proof.proofs.TablesLaws.Told.{kinds_length, on_both}
use Rattle.cjc_narrow_proof.proofs.TablesLaws.Rows.{row_by, on_locals_by, not_written_by, jump_by, jump_only_by, two_by}
use Rattle.cjc_bytes.proofs.Bools.{not_false}
use Rattle.cjc_bytes.proofs.Gets.{contained}

-- ---- cells

pub number_is : (c : Cell) → is_number c ≡ true → c ≡ Number
number_is Number e = refl
number_is (Refs names) e = cc
number_is Unusable e = cc

pub reference_is : (c : Cell) → is_reference c ≡ true → (names : List (List ℕ)) × (c ≡ Refs names)
reference_is Number e = cc
reference_is (Refs names) e = (names, refl)
reference_is Unusable e = cc

pub one_taken : (cs : List Cell) → 1 ≤ length cs → take 1 cs ≡ typed.operand cs 0 ∷ []
one_taken [] h = absurd (omega (arith, h))
one_taken (c ∷ cs) h = refl

pub two_taken : (cs : List Cell) → 2 ≤ length cs → take 2 cs ≡ typed.operand cs 0 ∷ typed.operand cs 1 ∷ []
two_taken [] h = absurd (omega (arith, h))
two_taken (c ∷ []) h = absurd (omega (arith, h))
two_taken (c ∷ d ∷ cs) h = refl

pub three_taken : (cs : List Cell) → 3 ≤ length cs → take 3 cs ≡ typed.operand cs 0 ∷ typed.operand cs 1
    ∷ typed.operand cs 2 ∷ []
three_taken [] h = absurd (omega (arith, h))
three_taken (c ∷ []) h = absurd (omega (arith, h))
three_taken (c ∷ d ∷ []) h = absurd (omega (arith, h))
three_taken (c ∷ d ∷ e ∷ cs) h = refl

four_taken : (cs : List Cell) → 4 ≤ length cs → take 4 cs ≡ typed.operand cs 0 ∷ typed.operand cs 1 ∷ typed.operand cs 2
    ∷ typed.operand cs 3 ∷ []
four_taken [] h = absurd (omega (arith, h))
four_taken (c ∷ []) h = absurd (omega (arith, h))
four_taken (c ∷ d ∷ []) h = absurd (omega (arith, h))
four_taken (c ∷ d ∷ e ∷ []) h = absurd (omega (arith, h))
four_taken (c ∷ d ∷ e ∷ f ∷ cs) h = refl

-- ---- locals

pub local_kind : (l : Named) (a : ℕ) (cs : List Cell) (s : List Span) (k : ℕ) → k < length cs
    → slice_get (kinds_from l a cs s) k ≡ Some (kind_of_cell l (typed.operand cs k) (operand s (a + k)))
local_kind l a [] s k h = absurd (omega (arith, h))
local_kind l a (c ∷ cs) s zero h = let e : a ≡ a + 0 = omega arith in ap (λ n. Some (kind_of_cell l c (operand s n))) e
local_kind l a (c ∷ cs) s (suc k) h = let e : suc a + k ≡ a + suc k = omega arith
    in local_kind l (suc a) cs s k (omega (arith, h))
    ∙ ap (λ n. Some (kind_of_cell l (typed.operand cs k) (operand s n))) e

-- an interval that is put is there, and the others are as before
put_here : (s : List Span) (k : ℕ) (x : Span) → k < length s → operand (slice_set s k x) k ≡ x
put_here [] k x h = absurd (omega (arith, h))
put_here (y ∷ s) zero x h = refl
put_here (y ∷ s) (suc k) x h = put_here s k x (omega (arith, h))

kept_there : (s : List Span) (k j : ℕ) (x : Span) → (j ≡ k → ⊥) → operand (slice_set s k x) j ≡ operand s j
kept_there [] k j x h = refl
kept_there (y ∷ s) zero zero x h = absurd (h refl)
kept_there (y ∷ s) zero (suc j) x h = refl
kept_there (y ∷ s) (suc k) zero x h = refl
kept_there (y ∷ s) (suc k) (suc j) x h = kept_there s k j x (λ e. h (ap suc e))

kinds_kept : (l : Named) (a : ℕ) (cs : List Cell) (s t : List Span) → ((j : ℕ) → a ≤ j → operand s j ≡ operand t j)
    → kinds_from l a cs s ≡ kinds_from l a cs t
kinds_kept l a [] s t h = refl
kinds_kept l a (c ∷ cs) s t h = ap (λ x. kind_of_cell l c x ∷ kinds_from l (suc a) cs s) (h a (omega arith))
    ∙ ap (λ ks. kind_of_cell l c (operand t a) ∷ ks) (kinds_kept l (suc a) cs s t (λ j le. h j (omega (arith, le))))

pub kinds_set : (l : Named) (a : ℕ) (cs : List Cell) (s : List Span) (k : ℕ) (c : Cell) (x : Span) → a + k < length s
    → kinds_from l a (slice_set cs k c) (slice_set s (a + k) x) ≡ slice_set (kinds_from l a cs s) k (kind_of_cell l c x)
kinds_set l a [] s k c x h = refl
kinds_set l a (d ∷ cs) s zero c x h =
    let e : a + 0 ≡ a = omega arith in
    let first : operand (slice_set s (a + 0) x) a ≡ x = ap (λ n. operand (slice_set s n x) a) e
    ∙ put_here s a x (omega (arith, h)) in
    ap (λ y. kind_of_cell l c y ∷ kinds_from l (suc a) cs (slice_set s (a + 0) x)) first
    ∙ ap (λ ks. kind_of_cell l c x ∷ ks) (kinds_kept l (suc a) cs (slice_set s (a + 0) x) s
    (λ j le. kept_there s (a + 0) j x (λ e. omega (arith, le, e))))
kinds_set l a (d ∷ cs) s (suc k) c x h =
    let e : a + suc k ≡ suc a + k = omega arith in
    let first : operand (slice_set s (a + suc k) x) a ≡ operand s a = kept_there s (a + suc k) a x (λ e. omega (
      arith,
      e,
    )) in
    ap (λ y. kind_of_cell l d y ∷ kinds_from l (suc a) (slice_set cs k c) (slice_set s (a + suc k) x)) first
    ∙ ap (λ n. kind_of_cell l d (operand s a) ∷ kinds_from l (suc a) (slice_set cs k c) (slice_set s n x)) e
    ∙ ap (λ ks. kind_of_cell l d (operand s a) ∷ ks) (kinds_set l (suc a) cs s k c x (omega (arith, h)))

stored_is : (s : StackOf Span) → stored false s ≡ operand (spans_of s) 0
stored_is (Cells s) = refl
stored_is Clash = refl

-- ---- numbers

pub exactly_is : (z : ℤ) → Holds full z → exactly z ≡ span z z
exactly_is z h = clip_fits full (span z z) (record { low = h.above; high = h.below })

short_is_word : (z : ℤ) → Holds short_range z → Holds full z
short_is_word z h = let a = h.above in let b = h.below in record {
  above = omega (arith, ints, a);
  below = omega (arith, ints, b);
}

-- ---- targets

case_among : (other : ℕ) (cases : List JCase) (z : ℤ) → Contains (other ∷ map (λ c. c.target) cases)
    (case_of other cases z)
case_among other [] z = contains_head other []
case_among other (c ∷ cases) z = go (is_same c.value z) (contains_cons other (map (λ c. c.target) cases)
    (case_of other cases z) (case_among other cases z))
  where
    go : (b : Bool) → ((other ≡ case_of other cases z) ⊎ Contains (map (λ c. c.target) cases) (case_of other cases z))
        → Contains (other ∷ c.target ∷ map (λ c. c.target) cases) (if b then c.target else case_of other cases z)
    go true h = contains_tail other (c.target ∷ map (λ c. c.target) cases) c.target (contains_head c.target
        (map (λ c. c.target) cases))
    go false (inl same) = subst (Contains (other ∷ c.target ∷ map (λ c. c.target) cases)) same
        (contains_head other (c.target ∷ map (λ c. c.target) cases))
    go false (inr later) = contains_tail other (c.target ∷ map (λ c. c.target) cases) (case_of other cases z)
        (contains_tail c.target (map (λ c. c.target) cases) (case_of other cases z) later)

-- ---- the rules

module _ (by : Linked) (l : Named) (w : List Class) (a : Analysis) (m : Method) (read : IsRead a m)
    (decoded : IsDecoded (let f = a.found m in f.body)) (sound : IsSound w (let r = a.resolution m
    in r.constant) (a.found m)) (told : CatchesAreTold by l a m) (at offset : ℕ) (cells local_cells : List Cell)
    (x : RangeState) (ranged : IsAlone a m at x) where
  abbrev pub t : State
  t = record { stack = stacks.Cells cells; locals = local_cells }

  abbrev pub numbers : List Span
  numbers = spans_of x.stack

  abbrev pub locals : List Kind
  locals = kinds l local_cells x.locals

  abbrev pub Stands : JOp → Type 0
  Stands op = slice_get (let f = a.found m in let b = f.body in b.insns) at ≡ Some (record { at = offset; op = op })

  abbrev pub IsRow : Type 0
  IsRow = HasRow (let f = a.found m in f.types) at t

  abbrev pub Keeps : JOp → Type 0
  Keeps op = RuleWithin by l (tb by l w a m read decoded sound) m at (point_of l t x) (record { at = offset; op = op })

  abbrev before : (n : ℕ) → List Kind
  before n = kinds l (take n cells) numbers

  module _ (row : IsRow) where
    pub typed_here : (op : JOp) → Stands op → IsTypedRow w (let f = a.found m in f.body) op t
    typed_here op there = is_typed l w (let r = a.resolution m in r.constant) (a.found m) sound at
        (record { at = offset; op = op }) t there row

    own : (op : JOp) → Stands op → All IsWord numbers
    own op there = own_numbers l w (let r = a.resolution m in r.constant) (a.found m) sound at (record {
      at = offset;
      op = op;
    }) t x there row ranged.row

    pub word : (op : JOp) → Stands op → (k : ℕ) → IsWord (operand numbers k)
    word op there k = own_operand numbers k (own op there)

    pub within : (op : JOp) → Stands op → (rule k : ℕ) (s : Span) → Bounds (let f = a.found m in f.body) op cells rule k
        s → Within (operand numbers k) s
    within op there rule k s bounds = lies (a.found m) sound.passes at (record { at = offset; op = op }) t x there row
        ranged.row rule k s bounds

    pub number_at : (op : JOp) → Stands op → (k : ℕ) → k < takes op
        → ((c : Cell) → accepts w (let f = a.found m in f.body) op k c ≡ is_number c) → typed.operand cells k ≡ Number
    number_at op there k lt is = number_is (typed.operand cells k) (sym (is (typed.operand cells k))
        ∙ (let h = typed_here op there in h.operands k lt))

    pub reference_at : (op : JOp) → Stands op → (k : ℕ) → k < takes op
        → ((c : Cell) → accepts w (let f = a.found m in f.body) op k c ≡ is_reference c) → (names : List (List ℕ))
        × (typed.operand cells k ≡ Refs names)
    reference_at op there k lt is = reference_is (typed.operand cells k) (sym (is (typed.operand cells k))
        ∙ (let h = typed_here op there in h.operands k lt))

    -- the operands that are taken
    pub one_number : (op : JOp) → Stands op → takes op ≡ 1 → typed.operand cells 0 ≡ Number → Range (operand numbers 0)
        ∷ [] ≡ kinds l (take (takes op) cells) numbers
    one_number op there n e = sym (ap (λ k. kinds l (take k cells) numbers) n
        ∙ ap (λ cs. kinds l cs numbers) (one_taken cells (let h = typed_here op there in let enough = h.there
        in omega (arith, enough, n)) ∙ ap (λ c. c ∷ []) e))

    pub two_numbers : (op : JOp) → Stands op → takes op ≡ 2 → typed.operand cells 0 ≡ Number → typed.operand cells 1
        ≡ Number → Range (operand numbers 0) ∷ Range (operand numbers 1) ∷ [] ≡ kinds l (take (takes op) cells) numbers
    two_numbers op there n e f = sym (ap (λ k. kinds l (take k cells) numbers) n
        ∙ ap (λ cs. kinds l cs numbers) (two_taken cells (let h = typed_here op there in let enough = h.there
        in omega (arith, enough, n)) ∙ ap (λ c. c ∷ typed.operand cells 1 ∷ []) e ∙ ap (λ c. Number ∷ c ∷ []) f))

    pub one_reference : (op : JOp) → Stands op → takes op ≡ 1 → (names : List (List ℕ)) → typed.operand cells 0
        ≡ Refs names → Refers (is_one_of l names) ∷ [] ≡ kinds l (take (takes op) cells) numbers
    one_reference op there n names e = sym (ap (λ k. kinds l (take k cells) numbers) n
        ∙ ap (λ cs. kinds l cs numbers) (one_taken cells (let h = typed_here op there in let enough = h.there
        in omega (arith, enough, n)) ∙ ap (λ c. c ∷ []) e))

    two_references : (op : JOp) → Stands op → takes op ≡ 2 → (names others : List (List ℕ)) → typed.operand cells 0
        ≡ Refs names → typed.operand cells 1 ≡ Refs others → Refers (is_one_of l names) ∷ Refers (is_one_of l others)
        ∷ [] ≡ kinds l (take (takes op) cells) numbers
    two_references op there n names others e f = sym (ap (λ k. kinds l (take k cells) numbers) n
        ∙ ap (λ cs. kinds l cs numbers) (two_taken cells (let h = typed_here op there in let enough = h.there
        in omega (arith, enough, n)) ∙ ap (λ c. c ∷ typed.operand cells 1 ∷ []) e ∙ ap (λ c. Refs names ∷ c ∷ []) f))

    -- ---- arithmetic

    on_two : (opcode : ℕ) → takes (jop.Arith opcode) ≡ 2 → Stands (jop.Arith opcode) → (s : Span)
        → RowAgrees by l (a.resolution m) m (jop.Arith opcode) (Range (operand numbers 0) ∷ Range (operand numbers 1)
        ∷ []) (Range s ∷ [])
        → RowAgrees by l (a.resolution m) m (jop.Arith opcode) (kinds l (take (takes (jop.Arith opcode)) cells) numbers)
        (Range s ∷ [])
    on_two opcode n there s agrees =
        subst (λ ks. RowAgrees by l (a.resolution m) m (jop.Arith opcode) ks (Range s ∷ []))
        (two_numbers (jop.Arith opcode) there n (number_at (jop.Arith opcode) there 0 (omega (arith, n)) (λ c. refl))
        (number_at (jop.Arith opcode) there 1 (omega (arith, n)) (λ c. refl))) agrees

    short_operand : (opcode : ℕ) → Stands (jop.Arith opcode) → divides opcode ≡ true → (k : ℕ) → k < 2
        → Within (operand numbers k) short_range
    short_operand opcode there is k lt = within (jop.Arith opcode) there 602 k short_range (a_division is lt)

    -- ---- the stack

    pub taken_one : (op : JOp) → Stands op → takes op ≡ 1 → kinds l (typed.operand cells 0 ∷ []) numbers
        ≡ kinds l (take (takes op) cells) numbers
    taken_one op there n = sym (ap (λ k. kinds l (take k cells) numbers) n
        ∙ ap (λ cs. kinds l cs numbers) (one_taken cells (let h = typed_here op there in let enough = h.there
        in omega (arith, enough, n))))

    pub taken_two : (op : JOp) → Stands op → takes op ≡ 2 → kinds l (typed.operand cells 0 ∷ typed.operand cells 1
        ∷ []) numbers ≡ kinds l (take (takes op) cells) numbers
    taken_two op there n = sym (ap (λ k. kinds l (take k cells) numbers) n
        ∙ ap (λ cs. kinds l cs numbers) (two_taken cells (let h = typed_here op there in let enough = h.there
        in omega (arith, enough, n))))

    pub taken_three : (op : JOp) → Stands op → takes op ≡ 3 → kinds l (typed.operand cells 0 ∷ typed.operand cells 1
        ∷ typed.operand cells 2 ∷ []) numbers ≡ kinds l (take (takes op) cells) numbers
    taken_three op there n = sym (ap (λ k. kinds l (take k cells) numbers) n
        ∙ ap (λ cs. kinds l cs numbers) (three_taken cells (let h = typed_here op there in let enough = h.there
        in omega (arith, enough, n))))

    taken_four : (op : JOp) → Stands op → takes op ≡ 4 → kinds l (typed.operand cells 0 ∷ typed.operand cells 1
        ∷ typed.operand cells 2 ∷ typed.operand cells 3 ∷ []) numbers ≡ kinds l (take (takes op) cells) numbers
    taken_four op there n = sym (ap (λ k. kinds l (take k cells) numbers) n
        ∙ ap (λ cs. kinds l cs numbers) (four_taken cells (let h = typed_here op there in let enough = h.there
        in omega (arith, enough, n))))

    -- what the k-th operand is
    abbrev cell_at : ℕ → Kind
    cell_at k = kind_of_cell l (typed.operand cells k) (operand numbers k)

    -- ---- locals

    local_low : (op : JOp) (k : ℕ) → Stands op → local_of op ≡ Some k → k < length local_cells
    local_low op k there is =
        let low = decoded.locals at (record { at = offset; op = op }) k there is in
        let state = sound.types.states at t row in
        let sized = state.locals.sized in
        omega (arith, low, sized)

    number_low : (op : JOp) (k : ℕ) → Stands op → local_of op ≡ Some k → 0 + k < length x.locals
    number_low op k there is =
        let low = decoded.locals at (record { at = offset; op = op }) k there is in
        let sized = (sound.ranges.own at x ranged.row).1.sized in
        omega (arith, low, sized)

    kinds_low : (op : JOp) (k : ℕ) → Stands op → local_of op ≡ Some k → k < length locals
    kinds_low op k there is = let low = local_low op k there is in let long = kinds_length l 0 local_cells x.locals
        in omega (arith, low, long)

    local_is : (op : JOp) (k : ℕ) → Stands op → local_of op ≡ Some k → (c : Cell) → typed.operand local_cells k ≡ c
        → slice_get locals k ≡ Some (kind_of_cell l c (operand x.locals k))
    local_is op k there is c e =
        let same : 0 + k ≡ k = omega arith in
        local_kind l 0 local_cells x.locals k (local_low op k there is)
        ∙ ap (λ n. Some (kind_of_cell l (typed.operand local_cells k) (operand x.locals n))) same
        ∙ ap (λ d. Some (kind_of_cell l d (operand x.locals k))) e

    locals_set : (op : JOp) (k : ℕ) → Stands op → local_of op ≡ Some k → (c : Cell) (s : Span)
        → kinds l (slice_set local_cells k c) (slice_set x.locals k s) ≡ slice_set locals k (kind_of_cell l c s)
    locals_set op k there is c s =
        let same : k ≡ 0 + k = omega arith in
        ap (λ n. kinds l (slice_set local_cells k c) (slice_set x.locals n s)) same
        ∙ kinds_set l 0 local_cells x.locals k c s (number_low op k there is)

    wrong_local : (op : JOp) → Stands op → has_wrong_local op local_cells ≡ false
    wrong_local op there = let h = typed_here op there in h.local

    -- ---- jumps

    compared : (opcode target : ℕ) → Stands (jop.If opcode target) → tests_references opcode ≡ false → (k : ℕ)
        → k < takes (jop.If opcode target) → Within (operand numbers k) short_range
    compared opcode target there is k lt = within (jop.If opcode target) there 601 k short_range (a_comparison is lt)

    is_test : (opcode target k : ℕ) (c : Cell) → tests_references opcode ≡ false → accepts w (let f = a.found m
        in f.body) (jop.If opcode target) k c ≡ is_number c
    is_test opcode target k c is = ap (λ b. if b then is_reference c else is_number c) is

    is_reference_test : (opcode target k : ℕ) (c : Cell) → tests_references opcode ≡ true → accepts w (let f = a.found m
        in f.body) (jop.If opcode target) k c ≡ is_reference c
    is_reference_test opcode target k c is = ap (λ b. if b then is_reference c else is_number c) is

    test_one : (opcode target : ℕ) → Stands (jop.If opcode target) → takes (jop.If opcode target) ≡ 1
        → tests_references opcode ≡ false
        → JumpAgrees by l (a.resolution m) m (jop.If opcode target) (Range (operand numbers 0) ∷ []) (target ∷ [])
        → JumpAgrees by l (a.resolution m) m (jop.If opcode target) (kinds l (take (takes (jop.If opcode target))
        cells) numbers) (target ∷ [])
    test_one opcode target there n is agrees =
        subst (λ ks. JumpAgrees by l (a.resolution m) m (jop.If opcode target) ks (target ∷ []))
        (one_number (jop.If opcode target) there n (number_at (jop.If opcode target) there 0 (omega (arith, n))
        (λ c. is_test opcode target 0 c is))) agrees

    test_two : (opcode target : ℕ) → Stands (jop.If opcode target) → takes (jop.If opcode target) ≡ 2
        → tests_references opcode ≡ false
        → JumpAgrees by l (a.resolution m) m (jop.If opcode target) (Range (operand numbers 0)
        ∷ Range (operand numbers 1) ∷ []) (target ∷ []) → JumpAgrees by l (a.resolution m) m (jop.If opcode target)
        (kinds l (take (takes (jop.If opcode target)) cells) numbers) (target ∷ [])
    test_two opcode target there n is agrees =
        subst (λ ks. JumpAgrees by l (a.resolution m) m (jop.If opcode target) ks (target ∷ []))
        (two_numbers (jop.If opcode target) there n (number_at (jop.If opcode target) there 0 (omega (arith, n))
        (λ c. is_test opcode target 0 c is)) (number_at (jop.If opcode target) there 1 (omega (arith, n))
        (λ c. is_test opcode target 1 c is))) agrees

    test_reference : (opcode target : ℕ) → Stands (jop.If opcode target) → takes (jop.If opcode target) ≡ 1
        → tests_references opcode ≡ true
        → ((within : Shape (List ℕ) → Bool) → JumpAgrees by l (a.resolution m) m (jop.If opcode target) (Refers within
        ∷ []) (target ∷ [])) → JumpAgrees by l (a.resolution m) m (jop.If opcode target)
        (kinds l (take (takes (jop.If opcode target)) cells) numbers) (target ∷ [])
    test_reference opcode target there n is agrees =
        let top = reference_at (jop.If opcode target) there 0 (omega (arith, n)) (λ c. is_reference_test opcode target 0
        c is) in
        subst (λ ks. JumpAgrees by l (a.resolution m) m (jop.If opcode target) ks (target ∷ []))
        (one_reference (jop.If opcode target) there n top.0 top.1) (agrees (is_one_of l top.0))

    test_references_two : (opcode target : ℕ) → Stands (jop.If opcode target) → takes (jop.If opcode target) ≡ 2
        → tests_references opcode ≡ true
        → ((within below : Shape (List ℕ) → Bool) → JumpAgrees by l (a.resolution m) m (jop.If opcode target)
        (Refers within ∷ Refers below ∷ []) (target ∷ []))
        → JumpAgrees by l (a.resolution m) m (jop.If opcode target) (kinds l (take (takes (jop.If opcode target))
        cells) numbers) (target ∷ [])
    test_references_two opcode target there n is agrees =
        let top = reference_at (jop.If opcode target) there 0 (omega (arith, n)) (λ c. is_reference_test opcode target 0
        c is) in
        let low = reference_at (jop.If opcode target) there 1 (omega (arith, n)) (λ c. is_reference_test opcode target 1
        c is) in
        subst (λ ks. JumpAgrees by l (a.resolution m) m (jop.If opcode target) ks (target ∷ []))
        (two_references (jop.If opcode target) there n top.0 low.0 top.1 low.1) (agrees (is_one_of l top.0)
        (is_one_of l low.0))

    -- ---- jumps that never go on

    goto_only : (target : ℕ) (ls after : List (Option Value)) (store new : Store) (vs stack : List Value)
        → effect by m at ls store (jop.Goto target) vs ≡ Go (at + 1) stack after new → (o : ℕ)
        × Contains (targets (jop.Goto target)) o × (place m.insns o ≡ at + 1)
    unfolding effect
    goto_only target ls after store new vs stack e = (
      target,
      contains_head target [],
      (let same : place m.insns target
          ≡ at + 1 = cc in same),
    )

    table_only : (other : ℕ) (low : ℤ) (more : List ℕ) (ls after : List (Option Value)) (store new : Store)
        (vs stack : List Value) → effect by m at ls store (jop.TableSwitch other low more) vs ≡ Go (at + 1) stack after
        new → (o : ℕ) × Contains (targets (jop.TableSwitch other low more)) o × (place m.insns o ≡ at + 1)
    unfolding effect
    table_only other low more ls after store new [] stack e = cc
    table_only other low more ls after store new (Null ∷ rest) stack e = cc
    table_only other low more ls after store new (Obj k ∷ rest) stack e = cc
    table_only other low more ls after store new (Num z ∷ rest) stack e = (
      entry_of other more (z -ℤ low),
      entry_among other more (z -ℤ low),
      (let same : place m.insns (entry_of other more (z -ℤ low)) ≡ at + 1 = cc
          in same),
    )

    lookup_only : (other : ℕ) (cases : List JCase) (ls after : List (Option Value)) (store new : Store)
        (vs stack : List Value) → effect by m at ls store (jop.LookupSwitch other cases) vs ≡ Go (at + 1) stack after
        new → (o : ℕ) × Contains (targets (jop.LookupSwitch other cases)) o × (place m.insns o ≡ at + 1)
    unfolding effect
    lookup_only other cases ls after store new [] stack e = cc
    lookup_only other cases ls after store new (Null ∷ rest) stack e = cc
    lookup_only other cases ls after store new (Obj k ∷ rest) stack e = cc
    lookup_only other cases ls after store new (Num z ∷ rest) stack e = (
      case_of other cases z,
      case_among other cases z,
      (let same : place m.insns (case_of other cases z)
          ≡ at + 1 = cc in same),
    )

    table_keeps : (other : ℕ) (low : ℤ) (more : List ℕ) → Stands (jop.TableSwitch other low more) → (cs : List NCase)
        → table_cases (written_place (tb by l w a m read decoded sound) m) low more ≡ cs
        → Keeps (jop.TableSwitch other low more)
    table_keeps other low more there cs e = go cs e
      where
        small : Within (operand numbers 0) short_range
        small = within (jop.TableSwitch other low more) there 604 0 short_range a_table

        top : Range (operand numbers 0) ∷ [] ≡ kinds l (take (takes (jop.TableSwitch other low more)) cells) numbers
        top = one_number (jop.TableSwitch other low more) there refl (number_at (jop.TableSwitch other low more) there 0
            (omega arith) (λ c. refl))

        go : (cs : List NCase) → table_cases (written_place (tb by l w a m read decoded sound) m) low more ≡ cs
            → Keeps (jop.TableSwitch other low more)
        go [] e = two_by by l w a m read decoded sound told at offset (jop.TableSwitch other low more) t x there row
            ranged _ _ (ap (λ cs. switched 0x73 (written_place (tb by l w a m read decoded sound) m other) (low_of cs)
            cs) e) refl refl refl (table_only other low more) (subst (λ ks. TwoAgree by l (a.resolution m) m
            (jop.TableSwitch other low more) ks (other ∷ more)) top (empty_table by l (a.resolution m) m
            (operand numbers 0) small other low more))
        go (c ∷ cs) e = jump_only_by by l w a m read decoded sound told at offset (jop.TableSwitch other low more) t x
            there row ranged _ (ap (λ cs. switched 0x73 (written_place (tb by l w a m read decoded sound) m other)
            (low_of cs) cs) e) refl refl refl (table_only other low more) (subst (λ ks. JumpAgrees by l (a.resolution m)
            m (jop.TableSwitch other low more) ks (other ∷ more)) top (tableswitch by l (a.resolution m) m
            (operand numbers 0) small other low more))

    lookup_keeps : (other : ℕ) (cases : List JCase) → Stands (jop.LookupSwitch other cases) → (cs : List NCase)
        → pair_cases (written_place (tb by l w a m read decoded sound) m) cases ≡ cs
        → Keeps (jop.LookupSwitch other cases)
    lookup_keeps other cases there cs e = go cs e
      where
        small : Within (operand numbers 0) short_range
        small = within (jop.LookupSwitch other cases) there 604 0 short_range a_lookup

        top : Range (operand numbers 0) ∷ [] ≡ kinds l (take (takes (jop.LookupSwitch other cases)) cells) numbers
        top = one_number (jop.LookupSwitch other cases) there refl (number_at (jop.LookupSwitch other cases) there 0
            (omega arith) (λ c. refl))

        go : (cs : List NCase) → pair_cases (written_place (tb by l w a m read decoded sound) m) cases ≡ cs
            → Keeps (jop.LookupSwitch other cases)
        go [] e = two_by by l w a m read decoded sound told at offset (jop.LookupSwitch other cases) t x there row
            ranged _ _ (ap (λ cs. switched 0x75 (written_place (tb by l w a m read decoded sound) m other) (pos 0) cs)
            e) refl refl refl (lookup_only other cases) (subst (λ ks. TwoAgree by l (a.resolution m) m
            (jop.LookupSwitch other cases) ks (targets (jop.LookupSwitch other cases))) top
            (empty_pairs by l (a.resolution m) m (operand numbers 0) small other cases))
        go (c ∷ cs) e = jump_only_by by l w a m read decoded sound told at offset (jop.LookupSwitch other cases) t x
            there row ranged _ (ap (λ cs. switched 0x75 (written_place (tb by l w a m read decoded sound) m other)
            (pos 0) cs) e) refl refl refl (lookup_only other cases) (subst (λ ks. JumpAgrees by l (a.resolution m) m
            (jop.LookupSwitch other cases) ks (targets (jop.LookupSwitch other cases))) top
            (lookupswitch by l (a.resolution m) m (operand numbers 0) small other cases))

    -- ---- each instruction

    pub keeps : (op : JOp) → IsPlain op → Stands op → Keeps op
    keeps _ plain.nop there = not_written_by by l w a m read decoded sound told at offset (jop.Nop) t x there row ranged
        refl refl refl (nop by (a.resolution m) m)
    keeps _ plain.aconst_null there = row_by by l w a m read decoded sound told at offset (jop.Null) t x there row
        ranged (λ e. cc) refl _ refl refl refl (aconst_null by l (a.resolution m) m (is_one_of l []))
    keeps _ (plain.number {z = z} inside) there = row_by by l w a m read decoded sound told at offset (jop.Number z) t x
        there row ranged (λ e. cc) refl _ refl refl refl (constant by l (a.resolution m) m z (exactly z)
        (subst (λ s. Holds s z) (sym (exactly_is z inside)) (holds_itself z)))
    keeps _ plain.iadd there = row_by by l w a m read decoded sound told at offset (jop.Arith 0x60) t x there row ranged
        (λ e. cc) refl _ refl refl refl (on_two 0x60 refl there _ (iadd by l (a.resolution m) m (operand numbers 1)
        (operand numbers 0)))
    keeps _ plain.isub there = row_by by l w a m read decoded sound told at offset (jop.Arith 0x64) t x there row ranged
        (λ e. cc) refl _ refl refl refl (on_two 0x64 refl there _ (isub by l (a.resolution m) m (operand numbers 1)
        (operand numbers 0)))
    keeps _ plain.imul there = row_by by l w a m read decoded sound told at offset (jop.Arith 0x68) t x there row ranged
        (λ e. cc) refl _ refl refl refl (on_two 0x68 refl there _ (imul by l (a.resolution m) m (operand numbers 1)
        (operand numbers 0)))
    keeps _ plain.idiv there = row_by by l w a m read decoded sound told at offset (jop.Arith 0x6C) t x there row ranged
        (λ e. cc) refl _ refl refl refl (on_two 0x6C refl there _ (idiv by l (a.resolution m) m (operand numbers 1)
        (operand numbers 0) (short_operand 0x6C there refl 1 (omega arith)) (short_operand 0x6C there refl 0
        (omega arith))))
    keeps _ plain.irem there = row_by by l w a m read decoded sound told at offset (jop.Arith 0x70) t x there row ranged
        (λ e. cc) refl _ refl refl refl (on_two 0x70 refl there _ (irem by l (a.resolution m) m (operand numbers 1)
        (operand numbers 0) (word (jop.Arith 0x70) there 1) (word (jop.Arith 0x70) there 0) (short_operand 0x70 there
        refl 1 (omega arith)) (short_operand 0x70 there refl 0 (omega arith))))
    keeps _ plain.ishl there = row_by by l w a m read decoded sound told at offset (jop.Arith 0x78) t x there row ranged
        (λ e. cc) refl _ refl refl refl (on_two 0x78 refl there _ (ishl by l (a.resolution m) m (operand numbers 1)
        (operand numbers 0) (word (jop.Arith 0x78) there 0)))
    keeps _ plain.ishr there = row_by by l w a m read decoded sound told at offset (jop.Arith 0x7A) t x there row ranged
        (λ e. cc) refl _ refl refl refl (on_two 0x7A refl there _ (ishr by l (a.resolution m) m (operand numbers 1)
        (operand numbers 0) (word (jop.Arith 0x7A) there 1) (word (jop.Arith 0x7A) there 0) (within (jop.Arith 0x7A)
        there 603 1 short_range (a_shift refl))))
    keeps _ plain.iushr there = row_by by l w a m read decoded sound told at offset (jop.Arith 0x7C) t x there row
        ranged (λ e. cc) refl _ refl refl refl (on_two 0x7C refl there _ (iushr by l (a.resolution m) m
        (operand numbers 1) (operand numbers 0) (word (jop.Arith 0x7C) there 1) (word (jop.Arith 0x7C) there 0)
        (within (jop.Arith 0x7C) there 603 1 short_range (a_shift refl))))
    keeps _ plain.iand there = row_by by l w a m read decoded sound told at offset (jop.Arith 0x7E) t x there row ranged
        (λ e. cc) refl _ refl refl refl (on_two 0x7E refl there _ (iand by l (a.resolution m) m (operand numbers 1)
        (operand numbers 0) (word (jop.Arith 0x7E) there 1) (word (jop.Arith 0x7E) there 0)))
    keeps _ plain.ior there = row_by by l w a m read decoded sound told at offset (jop.Arith 0x80) t x there row ranged
        (λ e. cc) refl _ refl refl refl (on_two 0x80 refl there _ (ior by l (a.resolution m) m (operand numbers 1)
        (operand numbers 0) (word (jop.Arith 0x80) there 1) (word (jop.Arith 0x80) there 0)))
    keeps _ plain.ixor there = row_by by l w a m read decoded sound told at offset (jop.Arith 0x82) t x there row ranged
        (λ e. cc) refl _ refl refl refl (on_two 0x82 refl there _ (ixor by l (a.resolution m) m (operand numbers 1)
        (operand numbers 0) (word (jop.Arith 0x82) there 1) (word (jop.Arith 0x82) there 0)))
    keeps _ plain.ineg there = row_by by l w a m read decoded sound told at offset (jop.Arith 0x74) t x there row ranged
        (λ e. cc) refl _ refl refl refl (subst (λ ks. RowAgrees by l (a.resolution m) m (jop.Arith 0x74) ks
        (Range (neg_row (operand numbers 0)) ∷ [])) (one_number (jop.Arith 0x74) there refl (number_at (jop.Arith 0x74)
        there 0 (omega arith) (λ c. refl))) (ineg by l (a.resolution m) m (operand numbers 0)))
    keeps _ plain.i2b there = row_by by l w a m read decoded sound told at offset (jop.Narrow 0x91) t x there row ranged
        (λ e. cc) refl _ refl refl refl (subst (λ ks. RowAgrees by l (a.resolution m) m (jop.Narrow 0x91) ks
        (Range (to_byte_row (operand numbers 0)) ∷ [])) (one_number (jop.Narrow 0x91) there refl
        (number_at (jop.Narrow 0x91) there 0 (omega arith) (λ c. refl))) (i2b by l (a.resolution m) m
        (operand numbers 0)))
    keeps _ plain.i2s there = not_written_by by l w a m read decoded sound told at offset (jop.Narrow 0x93) t x there
        row ranged refl refl refl (subst (λ ks. IsNotWritten by (a.resolution m) m (jop.Narrow 0x93) ks
        (Range (to_short_row (operand numbers 0)) ∷ [])) (one_number (jop.Narrow 0x93) there refl
        (number_at (jop.Narrow 0x93) there 0 (omega arith) (λ c. refl))) (i2s by (a.resolution m) m
        (operand numbers 0)))
    keeps _ plain.pop there = row_by by l w a m read decoded sound told at offset (jop.Stack 0x57) t x there row ranged
        (λ e. cc) refl _ refl refl refl (subst (λ ks. RowAgrees by l (a.resolution m) m (jop.Stack 0x57) ks ([]))
        (taken_one (jop.Stack 0x57) there refl) (pop by l (a.resolution m) m (cell_at 0)
        (on_both l 0 (typed.operand cells 0 ∷ []) numbers)))
    keeps _ plain.pop2 there = row_by by l w a m read decoded sound told at offset (jop.Stack 0x58) t x there row ranged
        (λ e. cc) refl _ refl refl refl (subst (λ ks. RowAgrees by l (a.resolution m) m (jop.Stack 0x58) ks ([]))
        (taken_two (jop.Stack 0x58) there refl) (pop2 by l (a.resolution m) m (cell_at 0) (cell_at 1)
        (on_both l 0 (typed.operand cells 0 ∷ typed.operand cells 1 ∷ []) numbers)))
    keeps _ plain.dup there = row_by by l w a m read decoded sound told at offset (jop.Stack 0x59) t x there row ranged
        (λ e. cc) refl _ refl refl refl (subst (λ ks. RowAgrees by l (a.resolution m) m (jop.Stack 0x59) ks (cell_at 0
        ∷ cell_at 0 ∷ [])) (taken_one (jop.Stack 0x59) there refl) (dup by l (a.resolution m) m (cell_at 0)
        (on_both l 0 (typed.operand cells 0 ∷ []) numbers)))
    keeps _ plain.dup_x1 there = row_by by l w a m read decoded sound told at offset (jop.Stack 0x5A) t x there row
        ranged (λ e. cc) refl _ refl refl refl (subst (λ ks. RowAgrees by l (a.resolution m) m (jop.Stack 0x5A) ks
        (cell_at 0 ∷ cell_at 1 ∷ cell_at 0 ∷ [])) (taken_two (jop.Stack 0x5A) there refl) (dup_x1 by l (a.resolution m)
        m (cell_at 0) (cell_at 1) (on_both l 0 (typed.operand cells 0 ∷ typed.operand cells 1 ∷ []) numbers)))
    keeps _ plain.dup_x2 there = row_by by l w a m read decoded sound told at offset (jop.Stack 0x5B) t x there row
        ranged (λ e. cc) refl _ refl refl refl (subst (λ ks. RowAgrees by l (a.resolution m) m (jop.Stack 0x5B) ks
        (cell_at 0 ∷ cell_at 1 ∷ cell_at 2 ∷ cell_at 0 ∷ [])) (taken_three (jop.Stack 0x5B) there refl)
        (dup_x2 by l (a.resolution m) m (cell_at 0) (cell_at 1) (cell_at 2) (on_both l 0 (typed.operand cells 0
        ∷ typed.operand cells 1 ∷ typed.operand cells 2 ∷ []) numbers)))
    keeps _ plain.dup2 there = row_by by l w a m read decoded sound told at offset (jop.Stack 0x5C) t x there row ranged
        (λ e. cc) refl _ refl refl refl (subst (λ ks. RowAgrees by l (a.resolution m) m (jop.Stack 0x5C) ks (cell_at 0
        ∷ cell_at 1 ∷ cell_at 0 ∷ cell_at 1 ∷ [])) (taken_two (jop.Stack 0x5C) there refl) (dup2 by l (a.resolution m) m
        (cell_at 0) (cell_at 1) (on_both l 0 (typed.operand cells 0 ∷ typed.operand cells 1 ∷ []) numbers)))
    keeps _ plain.dup2_x1 there = row_by by l w a m read decoded sound told at offset (jop.Stack 0x5D) t x there row
        ranged (λ e. cc) refl _ refl refl refl (subst (λ ks. RowAgrees by l (a.resolution m) m (jop.Stack 0x5D) ks
        (cell_at 0 ∷ cell_at 1 ∷ cell_at 2 ∷ cell_at 0 ∷ cell_at 1 ∷ [])) (taken_three (jop.Stack 0x5D) there refl)
        (dup2_x1 by l (a.resolution m) m (cell_at 0) (cell_at 1) (cell_at 2) (on_both l 0 (typed.operand cells 0
        ∷ typed.operand cells 1 ∷ typed.operand cells 2 ∷ []) numbers)))
    keeps _ plain.dup2_x2 there = row_by by l w a m read decoded sound told at offset (jop.Stack 0x5E) t x there row
        ranged (λ e. cc) refl _ refl refl refl (subst (λ ks. RowAgrees by l (a.resolution m) m (jop.Stack 0x5E) ks
        (cell_at 0 ∷ cell_at 1 ∷ cell_at 2 ∷ cell_at 3 ∷ cell_at 0 ∷ cell_at 1 ∷ [])) (taken_four (jop.Stack 0x5E) there
        refl) (dup2_x2 by l (a.resolution m) m (cell_at 0) (cell_at 1) (cell_at 2) (cell_at 3)
        (on_both l 0 (typed.operand cells 0 ∷ typed.operand cells 1 ∷ typed.operand cells 2 ∷ typed.operand cells 3
        ∷ []) numbers)))
    keeps _ plain.swap there = row_by by l w a m read decoded sound told at offset (jop.Stack 0x5F) t x there row ranged
        (λ e. cc) refl _ refl refl refl (subst (λ ks. RowAgrees by l (a.resolution m) m (jop.Stack 0x5F) ks (cell_at 1
        ∷ cell_at 0 ∷ [])) (taken_two (jop.Stack 0x5F) there refl) (swap by l (a.resolution m) m (cell_at 0) (cell_at 1)
        (on_both l 0 (typed.operand cells 0 ∷ typed.operand cells 1 ∷ []) numbers)))
    keeps _ (plain.iload {k = k}) there =
        let is = number_is (typed.operand local_cells k) (not_false (is_number (typed.operand local_cells k))
        (wrong_local (jop.Load false k) there)) in
        on_locals_by by l w a m read decoded sound told at offset (jop.Load false k) t x there row ranged (λ e. cc) refl
        _ refl refl (iload by l (a.resolution m) m locals k (operand x.locals k) (local_is (jop.Load false k) k
        there refl Number is))
    keeps _ (plain.aload {k = k}) there =
        let is = reference_is (typed.operand local_cells k) (not_false (is_reference (typed.operand local_cells k))
        (wrong_local (jop.Load true k) there)) in
        on_locals_by by l w a m read decoded sound told at offset (jop.Load true k) t x there row ranged (λ e. cc) refl
        _ refl refl
        (subst (λ c. RowOnLocals by l (a.resolution m) m (jop.Load true k) [] (kind_of_cell l (as_reference c) full
        ∷ []) locals locals) (sym is.1)
        (aload by l (a.resolution m) m locals k (is_one_of l is.0) (local_is (jop.Load true k) k there refl (Refs is.0)
        is.1)))
    keeps _ (plain.istore {k = k}) there =
        on_locals_by by l w a m read decoded sound told at offset (jop.Store false k) t x there row ranged (λ e. cc)
        refl _ refl refl
        (subst (λ ks. RowOnLocals by l (a.resolution m) m (jop.Store false k) ks [] locals
        (kinds l (slice_set local_cells k Number) (slice_set x.locals k (stored false x.stack))))
        (one_number (jop.Store false k) there refl (number_at (jop.Store false k) there 0 (omega arith)
        (λ c. refl)))
        (subst (λ s. RowOnLocals by l (a.resolution m) m (jop.Store false k) (Range (operand numbers 0) ∷ []) [] locals
        (kinds l (slice_set local_cells k Number) (slice_set x.locals k s))) (sym (stored_is x.stack))
        (subst (λ ls. RowOnLocals by l (a.resolution m) m (jop.Store false k) (Range (operand numbers 0) ∷ []) [] locals
        ls) (sym (locals_set (jop.Store false k) k there refl Number (operand numbers 0)))
        (istore by l (a.resolution m) m locals k (kinds_low (jop.Store false k) k there refl) (operand numbers 0)))))
    keeps _ (plain.astore {k = k}) there =
        let top = reference_at (jop.Store true k) there 0 (omega arith) (λ c. refl) in
        on_locals_by by l w a m read decoded sound told at offset (jop.Store true k) t x there row ranged (λ e. cc) refl
        _ refl refl
        (subst (λ ks. RowOnLocals by l (a.resolution m) m (jop.Store true k) ks [] locals
        (kinds l (slice_set local_cells k (as_reference (typed.operand cells 0))) (slice_set x.locals k full)))
        (one_reference (jop.Store true k) there refl top.0 top.1)
        (subst (λ c. RowOnLocals by l (a.resolution m) m (jop.Store true k) (Refers (is_one_of l top.0) ∷ []) [] locals
        (kinds l (slice_set local_cells k (as_reference c)) (slice_set x.locals k full))) (sym top.1)
        (subst (λ ls. RowOnLocals by l (a.resolution m) m (jop.Store true k) (Refers (is_one_of l top.0) ∷ []) [] locals
        ls) (sym (locals_set (jop.Store true k) k there refl (Refs top.0) full))
        (astore by l (a.resolution m) m locals k (kinds_low (jop.Store true k) k there refl) (is_one_of l top.0)))))
    keeps _ (plain.iinc {k = k} {z = z} small) there =
        let is = number_is (typed.operand local_cells k) (not_false (is_number (typed.operand local_cells k))
        (wrong_local (jop.Inc k z) there)) in
        on_locals_by by l w a m read decoded sound told at offset (jop.Inc k z) t x there row ranged (λ e. cc) refl _
        refl refl
        (subst (λ s. RowOnLocals by l (a.resolution m) m (jop.Inc k z) [] [] locals
        (kinds l (slice_set local_cells k Number) (slice_set x.locals k (add_row (operand x.locals k) s))))
        (sym (exactly_is z (short_is_word z small)))
        (subst (λ ls. RowOnLocals by l (a.resolution m) m (jop.Inc k z) [] [] locals ls)
        (sym (locals_set (jop.Inc k z) k there refl Number (add_row (operand x.locals k) (span z z))))
        (iinc by l (a.resolution m) m locals k (operand x.locals k) z (local_is (jop.Inc k z) k there refl Number is)
        small)))
    keeps _ (plain.ifeq {target = target}) there = jump_by by l w a m read decoded sound told at offset
        (jop.If 0x99 target) t x there row ranged refl _ refl refl refl refl (test_one 0x99 target there refl refl
        (ifeq by l (a.resolution m) m target (operand numbers 0) (compared 0x99 target there refl 0 (omega arith))))
    keeps _ (plain.ifne {target = target}) there = jump_by by l w a m read decoded sound told at offset
        (jop.If 0x9A target) t x there row ranged refl _ refl refl refl refl (test_one 0x9A target there refl refl
        (ifne by l (a.resolution m) m target (operand numbers 0) (compared 0x9A target there refl 0 (omega arith))))
    keeps _ (plain.iflt {target = target}) there = jump_by by l w a m read decoded sound told at offset
        (jop.If 0x9B target) t x there row ranged refl _ refl refl refl refl (test_one 0x9B target there refl refl
        (iflt by l (a.resolution m) m target (operand numbers 0) (compared 0x9B target there refl 0 (omega arith))))
    keeps _ (plain.ifge {target = target}) there = jump_by by l w a m read decoded sound told at offset
        (jop.If 0x9C target) t x there row ranged refl _ refl refl refl refl (test_one 0x9C target there refl refl
        (ifge by l (a.resolution m) m target (operand numbers 0) (compared 0x9C target there refl 0 (omega arith))))
    keeps _ (plain.ifgt {target = target}) there = jump_by by l w a m read decoded sound told at offset
        (jop.If 0x9D target) t x there row ranged refl _ refl refl refl refl (test_one 0x9D target there refl refl
        (ifgt by l (a.resolution m) m target (operand numbers 0) (compared 0x9D target there refl 0 (omega arith))))
    keeps _ (plain.ifle {target = target}) there = jump_by by l w a m read decoded sound told at offset
        (jop.If 0x9E target) t x there row ranged refl _ refl refl refl refl (test_one 0x9E target there refl refl
        (ifle by l (a.resolution m) m target (operand numbers 0) (compared 0x9E target there refl 0 (omega arith))))
    keeps _ (plain.if_icmpeq {target = target}) there = jump_by by l w a m read decoded sound told at offset
        (jop.If 0x9F target) t x there row ranged refl _ refl refl refl refl (test_two 0x9F target there refl refl
        (if_icmpeq by l (a.resolution m) m target (operand numbers 1) (operand numbers 0) (compared 0x9F target there
        refl 1 (omega arith)) (compared 0x9F target there refl 0 (omega arith))))
    keeps _ (plain.if_icmpne {target = target}) there = jump_by by l w a m read decoded sound told at offset
        (jop.If 0xA0 target) t x there row ranged refl _ refl refl refl refl (test_two 0xA0 target there refl refl
        (if_icmpne by l (a.resolution m) m target (operand numbers 1) (operand numbers 0) (compared 0xA0 target there
        refl 1 (omega arith)) (compared 0xA0 target there refl 0 (omega arith))))
    keeps _ (plain.if_icmplt {target = target}) there = jump_by by l w a m read decoded sound told at offset
        (jop.If 0xA1 target) t x there row ranged refl _ refl refl refl refl (test_two 0xA1 target there refl refl
        (if_icmplt by l (a.resolution m) m target (operand numbers 1) (operand numbers 0) (compared 0xA1 target there
        refl 1 (omega arith)) (compared 0xA1 target there refl 0 (omega arith))))
    keeps _ (plain.if_icmpge {target = target}) there = jump_by by l w a m read decoded sound told at offset
        (jop.If 0xA2 target) t x there row ranged refl _ refl refl refl refl (test_two 0xA2 target there refl refl
        (if_icmpge by l (a.resolution m) m target (operand numbers 1) (operand numbers 0) (compared 0xA2 target there
        refl 1 (omega arith)) (compared 0xA2 target there refl 0 (omega arith))))
    keeps _ (plain.if_icmpgt {target = target}) there = jump_by by l w a m read decoded sound told at offset
        (jop.If 0xA3 target) t x there row ranged refl _ refl refl refl refl (test_two 0xA3 target there refl refl
        (if_icmpgt by l (a.resolution m) m target (operand numbers 1) (operand numbers 0) (compared 0xA3 target there
        refl 1 (omega arith)) (compared 0xA3 target there refl 0 (omega arith))))
    keeps _ (plain.if_icmple {target = target}) there = jump_by by l w a m read decoded sound told at offset
        (jop.If 0xA4 target) t x there row ranged refl _ refl refl refl refl (test_two 0xA4 target there refl refl
        (if_icmple by l (a.resolution m) m target (operand numbers 1) (operand numbers 0) (compared 0xA4 target there
        refl 1 (omega arith)) (compared 0xA4 target there refl 0 (omega arith))))
    keeps _ (plain.if_acmpeq {target = target}) there = jump_by by l w a m read decoded sound told at offset
        (jop.If 0xA5 target) t x there row ranged refl _ refl refl refl refl (test_references_two 0xA5 target there refl
        refl (if_acmpeq by l (a.resolution m) m target))
    keeps _ (plain.if_acmpne {target = target}) there = jump_by by l w a m read decoded sound told at offset
        (jop.If 0xA6 target) t x there row ranged refl _ refl refl refl refl (test_references_two 0xA6 target there refl
        refl (if_acmpne by l (a.resolution m) m target))
    keeps _ (plain.ifnull {target = target}) there = jump_by by l w a m read decoded sound told at offset
        (jop.If 0xC6 target) t x there row ranged refl _ refl refl refl refl (test_reference 0xC6 target there refl refl
        (ifnull by l (a.resolution m) m target))
    keeps _ (plain.ifnonnull {target = target}) there = jump_by by l w a m read decoded sound told at offset
        (jop.If 0xC7 target) t x there row ranged refl _ refl refl refl refl (test_reference 0xC7 target there refl refl
        (ifnonnull by l (a.resolution m) m target))
    keeps _ (plain.goto {target = target}) there = jump_only_by by l w a m read decoded sound told at offset
        (jop.Goto target) t x there row ranged _ refl refl refl refl (goto_only target) (goto by l (a.resolution m) m
        target)
    keeps _ (plain.tableswitch {other = other} {low = low} {targets = more}) there =
        table_keeps other low more there (table_cases (written_place (tb by l w a m read decoded sound) m) low more)
        refl
    keeps _ (plain.lookupswitch {other = other} {cases = cases}) there =
        lookup_keeps other cases there (pair_cases (written_place (tb by l w a m read decoded sound) m) cases) refl
