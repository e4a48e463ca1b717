-- A call of a method that is not in int mode goes out alike, whatever the mode of what it reaches.
use Rattle.std.proofs.Common.{◌≡◌, ◌<◌, ◌≤◌, ◌+◌, ◌-◌, ℕ, zero, suc, Bool, true, false, List, [], ◌∷◌, ◌++◌, length}
use Rattle.std.proofs.Common.{take, drop, reverse, get_or, nat_lt, slice_get, Option, Some, None, refl, sym, ap, subst}
use Rattle.std.proofs.Common.{◌∙◌, arith}
use Rattle.std.specs.Prelude.{if◌then◌else◌, ◌==◌}
use Rattle.std.specs.List.{AllZip, AllByRecursion}
use Rattle.std.proofs.lemmas.Bool.Decides.{nat_tests}
use Rattle.std.proofs.lemmas.List.{append-nil, append_assoc, reverse-reverse, take_more}
use Rattle.cjc_bytes.specs.Descriptor.{Part}
use Rattle.cjc_bytes.specs.declared.fault.MemberId.{MemberId}
use Rattle.cjc_bytes.proofs.Gets.{taken_length}
use Rattle.cjc_range.specs.Span.{Span}
use Rattle.cjc_code.specs.declared.insn.JInsn.{JInsn}
use Rattle.cjc_code.specs.declared.insn.JOp.{JOp}
use Rattle.cjc_code.specs.declared.insn.JOp.TheVariants as jop
use Rattle.cjc_script.specs.Sorts.{Shape, Sort, Int, sort_of}
use Rattle.cjc_world.specs.Classes.{Class}
use Rattle.cjc_types.specs.Fixpoint.Tables.{HasRow}
use Rattle.cjc_types.specs.declared.cell.Cell.{Cell}
use Rattle.cjc_types.specs.declared.cell.Cell.TheVariants.{Refs, Unusable}
use Rattle.cjc_types.specs.declared.state.Stack.TheVariants as stacks
use Rattle.cjc_types.specs.declared.state.State.{State}
use Rattle.cjc_types.specs.Rules.{is_value_of, is_of, receiver_class}
use Rattle.cjc_types.specs.Search.{cells_of}
use Rattle.cjc_types.specs.Steps as typed
use Rattle.cjc_types.specs.Steps.{receivers}
use Rattle.cjc_types.specs.Types.{parts}
use Rattle.cjc_intervals.specs.Bounds.{an_argument}
use Rattle.cjc_intervals.specs.Frames.{RangeState, spans_of}
use Rattle.cjc_intervals.specs.Steps.{operand}
use Rattle.cjc_ncode.specs.declared.narrow.NInsn.{NInsn}
use Rattle.cjc_ncode.specs.declared.narrow.NInsn.TheVariants as insns
use Rattle.cjc_ncode.specs.ByLabel.{Callee, Named}
use Rattle.cjc_ncode.specs.Written.{called, nargs_of}
use Rattle.cjc_jvm_semantics.specs.Linked.{Method, Linked}
use Rattle.cjc_narrow_proof.specs.Selection.Callees.{Names}
use Rattle.cjc_narrow_proof.specs.Selection.Objects.{class_of}
use Rattle.cjc_narrow_proof.specs.Selection.Relation.{Kind, Refers}
use Rattle.cjc_narrow_proof.specs.Selection.Replies.{result_kinds}
use Rattle.cjc_narrow_proof.specs.Selection.Rows.{is_word_sort}
use Rattle.cjc_narrow_proof.specs.Tables.Analysis.{Analysis, CatchesAreTold, IsAlone, IsDecoded, IsRead, IsSound}
use Rattle.cjc_narrow_proof.specs.Tables.Analysis.{TypesAreTold, table_of}
use Rattle.cjc_narrow_proof.specs.Selection.Tables.{Point}
use Rattle.cjc_narrow_proof.specs.Tables.Calls.{IsWhole, IsWordDesc, types_of, count_of}
use Rattle.cjc_narrow_proof.specs.Tables.Kinds.{is_one_of, kind_of_cell, kinds, point_at, point_of}
use Rattle.cjc_narrow_proof.specs.Tables.Pairs.{StandsAlone, with_open}
use Rattle.cjc_narrow_proof.proofs.TablesLaws.Arrivals.{is_cells}
use Rattle.cjc_narrow_proof.proofs.TablesLaws.Points.{point_from, point_under}
use Rattle.cjc_narrow_proof.proofs.SelectionLaws.Callees.{call_written}
use Rattle.cjc_narrow_proof.proofs.TablesLaws.Called.{signature_is}
use Rattle.cjc_narrow_proof.proofs.TablesLaws.Passed.{IsPassed, one_passed, passed_for, result_given, word_result}
use Rattle.cjc_narrow_proof.proofs.TablesLaws.Plain.{t, Stands, IsRow, typed_here, word, within}
use Rattle.cjc_narrow_proof.proofs.TablesLaws.Resolved.{of_reference, same_long}
use Rattle.cjc_narrow_proof.proofs.TablesLaws.Rows.{first_there, stack_before, rest, roomy_wider, arrives_wider}
use Rattle.cjc_narrow_proof.proofs.TablesLaws.Rows.{catches_here}
use Rattle.cjc_narrow_proof.proofs.TablesLaws.Told.{kinds_append}
use Rattle.cjc_int_runs.proofs.HandOver.{onto_is}
use Rattle.cjc_int_runs.specs.ByModes.{ShortRule, calls_out}
use Rattle.cjc_int_runs.specs.Calls.{onto}
use Rattle.cjc_int_runs.specs.IntFrames.{IntBody, StandsByMode}
use Rattle.cjc_int_runs.specs.Modes.{CallReaches, below_params}
use Rattle.cjc_int_alike.specs.Calls.{AreGiven, IsIntCalled, IsPassedInt, on_class, on_receiver}
use Rattle.cjc_int_alike.proofs.Callees.{passes_words}
use Rattle.cjc_int_alike.proofs.Passed.{given_word}

operand_taken : (cs : List Cell) (n k : ℕ) → k < n → typed.operand (take n cs) k ≡ typed.operand cs k
operand_taken [] zero k h = refl
operand_taken [] (suc n) k h = refl
operand_taken (c ∷ cs) zero k h = absurd (omega (arith, h))
operand_taken (c ∷ cs) (suc n) zero h = refl
operand_taken (c ∷ cs) (suc n) (suc k) h = operand_taken cs n k (omega (arith, h))

all_words : (ps : List Part) → AllByRecursion (λ p. is_word_sort (sort_of p) ≡ true) ps → (k : ℕ) (d : Part)
    → k < length ps → is_word_sort (sort_of (get_or ps k d)) ≡ true
all_words [] h k d lt = absurd (omega (arith, lt))
all_words (p ∷ ps) h zero d lt = h.0
all_words (p ∷ ps) h (suc k) d lt = all_words ps h.1 k d (omega (arith, lt))

all_given : (l : Named) (ps : List Part) (ks : List Kind) → AllZip (IsPassed l) ps ks → AllZip (IsPassedInt l) ps ks
all_given l [] [] h = tt
all_given l [] (k ∷ ks) h = absurd h
all_given l (p ∷ ps) [] h = absurd h
all_given l (p ∷ ps) (k ∷ ks) h = (given_word l p h.0, all_given l ps ks h.1)

module _ (by : Linked) (l : Named) (w : List Class) (a : Analysis) (bodies : Method → Option IntBody)
    (results : Method → Option Sort) (m : Method) (read : IsRead a m)
    (decoded : IsDecoded (let f = a.found m in f.body)) (sound : IsSound w (let r = a.resolution m
    in r.constant) (a.found m)) (told : CatchesAreTold by l a m) (types : TypesAreTold w l)
    (at offset : ℕ) (cells local_cells : List Cell) (x : RangeState) (ranged : IsAlone a m at x)
    (row : IsRow by l w a m read decoded sound told at offset cells local_cells x ranged) where
  abbrev StandsHere : JOp → Type 0
  StandsHere op = Stands by l w a m read decoded sound told at offset cells local_cells x ranged op

  abbrev state : State
  state = t by l w a m read decoded sound told at offset cells local_cells x ranged

  abbrev Short : JOp → Type 0
  Short op = ShortRule by l (table_of l a) bodies results m at (point_of l state x) (record { at = offset; op = op })

  abbrev numbers : List Span
  numbers = spans_of x.stack

  -- the arguments without a receiver, the last on top
  abbrev on_top : (desc : List ℕ) → List Kind
  on_top desc = kinds l (take (count_of desc) cells) numbers

  -- the first one first
  abbrev given : (desc : List ℕ) → List Kind
  given desc = reverse (on_top desc)

  module _ (op : ℕ) (id : MemberId) (named : Callee) (desc : IsWordDesc id.desc) (names : Names (a.resolution m) op id
      named) (there : StandsHere (jop.Call op id)) where
    abbrev call_op : JOp
    call_op = jop.Call op id

    abbrev insn : NInsn
    insn = if op == 0xB9 then insns.Interface (nargs_of id) ((let r = a.resolution m in r.interface) id)
        else called (a.resolution m) op id

    abbrev count : ℕ
    count = count_of id.desc

    abbrev result : Part
    result = let d = parts id.desc in d.result

    abbrev gives_back : List Kind
    gives_back = let types = types_of id.desc in result_kinds l types.result

    abbrev restHere : List Kind
    restHere = rest by l w a m read decoded sound told at offset call_op state x there row ranged

    enough : count + receivers op ≤ length cells
    enough = let h = typed_here by l w a m read decoded sound told at offset cells local_cells x ranged row call_op
        there in h.there

    taken_long : length (take count cells) ≡ count
    taken_long = let h = enough in taken_length count cells (omega (arith, h))

    passed : AllZip (IsPassed l) (let d = parts id.desc in d.params) (given id.desc)
    passed = passed_for l (let d = parts id.desc in d.params) result (take count cells) numbers (sym taken_long)
        (λ k lt. subst (λ c. IsPassed l (get_or (let d = parts id.desc in d.params) (count - 1 - k) result)
        (kind_of_cell l c (operand numbers k))) (sym (operand_taken cells count k lt)) (argument k lt))
      where
        argument : (k : ℕ) → k < count → IsPassed l (get_or (let d = parts id.desc in d.params) (count - 1 - k) result)
            (kind_of_cell l (typed.operand cells k) (operand numbers k))
        argument k lt =
            let h = typed_here by l w a m read decoded sound told at offset cells local_cells x ranged row call_op there
            in
            let p = get_or (let d = parts id.desc in d.params) (count - 1 - k) result in
            let low : nat_lt k count ≡ true = grind (arith, nat_tests, lt) in
            let accepted : is_value_of w p (typed.operand cells k) ≡ true =
            ap (λ b. if b then is_value_of w p (typed.operand cells k)
            else is_of w (receiver_class w (let f = a.found m in f.body) op id) (typed.operand cells k)) (sym low)
            ∙ h.operands k (omega (arith, lt)) in
            one_passed w l types p (typed.operand cells k) (operand numbers k) (all_words (let d = parts id.desc
            in d.params) desc.params (count - 1 - k) result (omega (arith, lt))) accepted
            (word by l w a m read decoded sound told at offset cells local_cells x ranged row call_op there k)
            (λ rule s bound. within by l w a m read decoded sound told at offset cells local_cells x ranged row call_op
            there rule k s (an_argument lt bound))

    passed_int : AreGiven l id.desc (given id.desc)
    passed_int = all_given l (let d = parts id.desc in d.params) (given id.desc) passed

    -- with these below the arguments
    by_stack : (receiver : Option (Shape (List ℕ) → Bool))
        → on_top id.desc ++ below_params receiver [] ≡ kinds l (take (typed.takes call_op) cells) numbers
        → CallReaches by l (StandsByMode l (table_of l a) bodies) results a.narrowed a.may_throw (class_of m) op id
        named
        (types_of id.desc) (given id.desc) receiver → Short call_op
    by_stack receiver is reaches =
        let wider = result_given l result (drop (typed.takes call_op) numbers) desc.result in
        calls_out op id named (types_of id.desc) (given id.desc) restHere receiver insn (signature_is id.desc desc)
        stack
        (passes_words l (let d = parts id.desc in d.params) (given id.desc) desc.params passed_int)
        (first_there by l w a m read decoded sound told at offset call_op state x there row ranged insn [] refl)
        (λ ls store vs. (let h = call_written by l (a.resolution m) m op id named names (λ o. 0) insn refl 0 at 0 vs []
        ls [] store l.memory in h.named_side))
        (λ words memory ws. (let h = call_written by l (a.resolution m) m op id named names (λ o. 0) insn refl _ at _ []
        ws [] words (record { heap = by.heap; statics = by.statics }) memory in h.narrow_side))
        (λ e. (let one : is_word_sort Int ≡ true = word_result result desc.result Int e in cc))
        (arrives_wider by l w a m read decoded sound told at offset call_op state x there row ranged refl refl
        (same_long result) refl gives_back wider)
        (roomy_wider by l w a m read decoded sound told at offset call_op state x there row ranged gives_back wider
        (same_long result))
        (catches_here by l w a m read decoded sound told at offset call_op state x there row ranged 0 refl) reaches
      where
        onto_rest : (receiver : Option (Shape (List ℕ) → Bool)) → (on_top id.desc ++ below_params receiver [])
            ++ restHere ≡ onto (given id.desc) (below_params receiver restHere)
        onto_rest None = sym (onto_is (given id.desc) restHere ∙ ap (λ ks. ks ++ restHere) (reverse-reverse
            (on_top id.desc) ∙ sym (append-nil (on_top id.desc))))
        onto_rest (Some receives) = sym (onto_is (given id.desc) (Refers receives ∷ restHere)
            ∙ ap (λ ks. ks ++ Refers receives ∷ restHere) (reverse-reverse (on_top id.desc))
            ∙ sym (append_assoc (on_top id.desc) (Refers receives ∷ []) restHere))

        stack : kinds l cells numbers ≡ onto (given id.desc) (below_params receiver restHere)
        stack = stack_before by l w a m read decoded sound told at offset call_op state x there row ranged
            ∙ ap (λ ks. ks ++ restHere) (sym is) ∙ onto_rest receiver

    module _ (has_receiver : receivers op ≡ 1) where
      receiver_is : is_of w (receiver_class w (let f = a.found m in f.body) op id) (typed.operand cells count) ≡ true
      receiver_is =
          let h = typed_here by l w a m read decoded sound told at offset cells local_cells x ranged row call_op there
          in
          let no : nat_lt count count ≡ false = grind (arith, nat_tests) in
          let p = get_or (let d = parts id.desc in d.params) (count - 1 - count) result in
          ap (λ b. if b then is_value_of w p (typed.operand cells count)
          else is_of w (receiver_class w (let f = a.found m in f.body) op id) (typed.operand cells count)) (sym no)
          ∙ h.operands count (omega (arith, has_receiver))

      receiver_below : (names : List (List ℕ)) → typed.operand cells count ≡ Refs names
          → on_top id.desc ++ Refers (is_one_of l names) ∷ [] ≡ kinds l (take (typed.takes call_op) cells) numbers
      receiver_below names is =
          let h = enough in
          let one : count + 1 ≡ typed.takes call_op = omega (arith, has_receiver) in
          let long = taken_long in
          let here : 0 + length (take count cells) ≡ count = omega (arith, long) in
          sym (ap (λ n. kinds l (take n cells) numbers) (sym one)
          ∙ ap (λ cs. kinds l cs numbers) (take_more cells count Unusable (omega (arith, h, has_receiver)))
          ∙ kinds_append l 0 (take count cells) (typed.operand cells count ∷ []) numbers
          ∙ ap (λ n. on_top id.desc ++ kind_of_cell l (typed.operand cells count) (operand numbers n) ∷ []) here
          ∙ ap (λ c. on_top id.desc ++ kind_of_cell l c (operand numbers count) ∷ []) is)

      by_receiver : ((names : List (List ℕ)) → typed.operand cells count ≡ Refs names → (params : List Kind)
          → AreGiven l id.desc params → CallReaches by l (StandsByMode l (table_of l a) bodies) results a.narrowed
          a.may_throw (class_of m) op id named (types_of id.desc) params (Some (is_one_of l names))) → Short call_op
      by_receiver reaches =
          let on = of_reference w (receiver_class w (let f = a.found m in f.body) op id) (typed.operand cells count)
          receiver_is in
          by_stack (Some (is_one_of l on.0)) (receiver_below on.0 on.1) (reaches on.0 on.1 (given id.desc) passed_int)

  pub short_called : (op : JOp) → IsIntCalled by l (StandsByMode l (table_of l a) bodies) results a.narrowed a.may_throw
      (a.resolution m) m cells op → ((opcode : ℕ) (id : MemberId) → op ≡ jop.Call opcode id → IsWordDesc id.desc)
      → StandsHere op → Short op
  short_called _ (on_class {id = id} named desc names reaches) words there =
      let word = words 0xB8 id refl in
      by_stack 0xB8 id named word names there None (none_below id) (reaches (given id.desc) (passed_int 0xB8 id named
      word names there))
    where
      none_below : (id : MemberId) → on_top id.desc ++ [] ≡ kinds l (take (typed.takes (jop.Call 0xB8 id)) cells)
          numbers
      none_below id =
          let none : count_of id.desc + 0 ≡ count_of id.desc = omega arith in
          append-nil (on_top id.desc) ∙ ap (λ n. kinds l (take n cells) numbers) (sym none)
  short_called _ (on_receiver {op = op} {id = id} named desc names has_receiver reaches) words there =
      by_receiver op id named (words op id refl) names there has_receiver reaches

-- ---- at a point of the table

-- A call that stands in no pair goes out, where both sides reach the same by it.
pub call_goes_out : (by : Linked) (l : Named) (w : List Class) (a : Analysis) (bodies : Method → Option IntBody)
    (results : Method → Option Sort) (m : Method) → IsWhole by l w a m → TypesAreTold w l → (at : ℕ) (i : JInsn)
    (p : Point) → StandsAlone (a.resolution m) (let f = a.found m in let b = f.body in b.insns) (a.opened m) at
    → slice_get (let f = a.found m in let b = f.body in b.insns) at ≡ Some i
    → (let tb = table_of l a in tb.point m at ≡ Some p) → ((u : State) → HasRow (let f = a.found m in f.types) at u
    → IsIntCalled by l (StandsByMode l (table_of l a) bodies) results a.narrowed a.may_throw (a.resolution m) m
    (cells_of u.stack) i.op) → ((opcode : ℕ) (id : MemberId) → i.op ≡ jop.Call opcode id → IsWordDesc id.desc)
    → ShortRule by l (table_of l a) bodies results m at p i
call_goes_out by l w a bodies results m whole types at i p alone there known is words =
    let f = a.found m in
    let q = point_under (point_at l f.types f.ranges at) (a.opened m at) p known in
    let h = point_from l (slice_get f.types at) (slice_get f.ranges at) q.0 q.1 in
    let u = h.typed in
    let cells = is_cells l w (let r = a.resolution m in r.constant) f whole.sound at u h.has_types in
    let row : HasRow f.types at (record { stack = stacks.Cells (cells_of u.stack); locals = u.locals }) =
    subst (λ s. HasRow f.types at (record { stack = s; locals = u.locals })) cells h.has_types in
    subst (λ q. ShortRule by l (table_of l a) bodies results m at q i)
    (sym (q.2 ∙ ap (λ o. with_open o q.0) alone.before ∙ h.is))
    (short_called by l w a bodies results m whole.read whole.decoded whole.sound whole.told types at i.at
    (cells_of u.stack) u.locals h.ranged (record { row = h.has_ranges; stands = alone }) row i.op (is u h.has_types)
    words there)
