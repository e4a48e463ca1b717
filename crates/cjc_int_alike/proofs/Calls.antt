-- A call in int mode is typed.
use Rattle.std.proofs.Common.{◌≡◌, ◌<◌, ◌≤◌, ◌+◌, ◌-◌, ℕ, zero, suc, Bool, true, false, List, [], ◌∷◌, ◌++◌, length}
use Rattle.std.proofs.Common.{take, drop, reverse, get_or, nat_lt, Option, Some, None, refl, sym, ap, subst}
use Rattle.std.proofs.Common.{◌∙◌, arith}
use Rattle.std.specs.Prelude.{if◌then◌else◌}
use Rattle.std.specs.List.{AllByRecursion}
use Rattle.std.proofs.lemmas.Bool.Decides.{nat_tests}
use Rattle.std.proofs.lemmas.List.{append-nil, append_assoc, reverse-reverse, take_more}
use Rattle.cjc_bytes.specs.Descriptor.{Part}
use Rattle.cjc_bytes.specs.declared.fault.MemberId.{MemberId}
use Rattle.cjc_bytes.proofs.Gets.{taken_length}
use Rattle.cjc_range.specs.Span.{Span}
use Rattle.cjc_code.specs.declared.insn.JOp.{JOp}
use Rattle.cjc_code.specs.declared.insn.JOp.TheVariants as jop
use Rattle.cjc_script.specs.Sorts.{Shape, Sort, sort_of, signature_of}
use Rattle.cjc_world.specs.Classes.{Class}
use Rattle.cjc_types.specs.Fixpoint.Tables.{HasRow}
use Rattle.cjc_types.specs.declared.cell.Cell.{Cell}
use Rattle.cjc_types.specs.declared.cell.Cell.TheVariants.{Refs, Unusable}
use Rattle.cjc_types.specs.declared.state.State.{State}
use Rattle.cjc_types.specs.Rules.{is_value_of, is_of, receiver_class}
use Rattle.cjc_types.specs.Steps as typed
use Rattle.cjc_types.specs.Steps.{receivers}
use Rattle.cjc_types.specs.Types.{parts}
use Rattle.cjc_intervals.specs.Bounds.{an_argument}
use Rattle.cjc_intervals.specs.Frames.{RangeState, spans_of}
use Rattle.cjc_intervals.specs.Steps.{operand}
use Rattle.cjc_card_semantics.specs.Bytecode.Machine.{Start}
use Rattle.cjc_ncode.specs.declared.narrow.NMethod.{NMethod}
use Rattle.cjc_ncode.specs.ByLabel.{Callee, Named}
use Rattle.cjc_ncode.specs.Written.{Resolution}
use Rattle.cjc_ncode.specs.IntCode.IntCode.{is_by_scratch, scratch_pairs, scratch_pairs_by}
use Rattle.cjc_jvm_semantics.specs.Linked.{Method, Linked}
use Rattle.cjc_jvm_semantics.specs.Machine.{Frame}
use Rattle.cjc_narrow_proof.specs.Selection.Callees.{Names}
use Rattle.cjc_narrow_proof.specs.Selection.Calls.{NFrame}
use Rattle.cjc_narrow_proof.specs.Selection.Objects.{class_of}
use Rattle.cjc_narrow_proof.specs.Selection.Relation.{Kind, Refers, NMemory}
use Rattle.cjc_narrow_proof.specs.Selection.Replies.{result_kinds}
use Rattle.cjc_narrow_proof.specs.Tables.Analysis.{Found, TypesAreTold}
use Rattle.cjc_narrow_proof.specs.Tables.Calls.{types_of, count_of}
use Rattle.cjc_narrow_proof.specs.Tables.Kinds.{is_one_of, kind_of_cell, kinds}
use Rattle.cjc_narrow_proof.proofs.TablesLaws.Resolved.{of_reference, same_long}
use Rattle.cjc_narrow_proof.proofs.TablesLaws.Told.{kinds_append}
use Rattle.cjc_int_runs.proofs.Aside.{onto_long}
use Rattle.cjc_int_runs.proofs.HandOver.{onto_is}
use Rattle.cjc_int_runs.specs.Calls.{onto}
use Rattle.cjc_int_runs.specs.Fields.{has_values}
use Rattle.cjc_int_runs.specs.Modes.{CallReaches, below_params}
use Rattle.cjc_int_runs.specs.Typed.{call_typed}
use Rattle.cjc_int_alike.specs.Calls.{IsIntDesc, IsPassedInt, AreGiven, IsIntCalled, on_class, on_receiver}
use Rattle.cjc_int_alike.specs.Method.{IsIntWhole, int_reached}
use Rattle.cjc_int_alike.proofs.Passed.{one_passed_int, passed_for, passes_from, long_from, result_given}
use Rattle.cjc_int_alike.proofs.Plain.{Stands, IsRow, typed_here, word, within}
use Rattle.cjc_int_alike.proofs.Plain as plain
use Rattle.cjc_int_alike.proofs.Resolved.{bound_binds}
use Rattle.cjc_int_alike.proofs.Returns.{signature_is}
use Rattle.cjc_int_alike.proofs.Rows.{Typed, stack_before, rest, room_before, room_left, knows_behind, is_taken}
use Rattle.cjc_int_alike.proofs.Written.{reached_there, pairs_there}

operand_taken : (cs : List Cell) (n k : ℕ) → k < n → typed.operand (take n cs) k ≡ typed.operand cs k
operand_taken [] zero k h = refl
operand_taken [] (suc n) k h = refl
operand_taken (c ∷ cs) zero k h = absurd (omega (arith, h))
operand_taken (c ∷ cs) (suc n) zero h = refl
operand_taken (c ∷ cs) (suc n) (suc k) h = operand_taken cs n k (omega (arith, h))

all_values : (ps : List Part) → AllByRecursion (λ p. has_values (sort_of p) ≡ true) ps → (k : ℕ) (d : Part)
    → k < length ps → has_values (sort_of (get_or ps k d)) ≡ true
all_values [] h k d lt = absurd (omega (arith, lt))
all_values (p ∷ ps) h zero d lt = h.0
all_values (p ∷ ps) h (suc k) d lt = all_values ps h.1 k d (omega (arith, lt))

module _ (by : Linked) (l : Named) (Here : NMemory → Frame → NFrame → Type 0) (results : Method → Option Sort)
    (narrowed : Method → Start NMethod) (may_throw : Shape (List ℕ) → Bool) (w : List Class) (r : Resolution)
    (f : Found) (code : NMethod) (m : Method) (whole : IsIntWhole by l may_throw w r f m) (types : TypesAreTold w l)
    (at offset : ℕ) (cells local_cells : List Cell) (x : RangeState) (ranged : HasRow f.ranges at x)
    (row : IsRow by l w r f m whole.decoded whole.sound at offset cells local_cells x ranged) where
  abbrev StandsHere : JOp → Type 0
  StandsHere op = Stands by l w r f m whole.decoded whole.sound at offset cells local_cells x ranged op

  abbrev t : State
  t = plain.t by l w r f m whole.decoded whole.sound at offset cells local_cells x ranged

  abbrev TypedHere : (op : JOp) → StandsHere op → Type 0
  TypedHere op there = Typed by l Here results narrowed may_throw w r f code m whole at offset op t x there row ranged

  abbrev numbers : List Span
  numbers = spans_of x.stack

  abbrev locals : List Kind
  locals = kinds l local_cells x.locals

  -- the arguments without a receiver, the last on top
  abbrev on_top : (desc : List ℕ) → List Kind
  on_top desc = kinds l (take (count_of desc) cells) numbers

  -- the first one first
  abbrev given : (desc : List ℕ) → List Kind
  given desc = reverse (on_top desc)

  module _ (op : ℕ) (id : MemberId) (callee : Callee) (desc : IsIntDesc id.desc) (names : Names r op id callee)
      (there : StandsHere (jop.Call op id)) where
    abbrev call_op : JOp
    call_op = jop.Call op id

    abbrev count : ℕ
    count = count_of id.desc

    abbrev result : Part
    result = let d = parts id.desc in d.result

    abbrev gives : List Kind
    gives = let types = types_of id.desc in result_kinds l types.result

    abbrev restHere : List Kind
    restHere = rest by l Here results narrowed may_throw w r f code m whole at offset call_op t x there row ranged

    enough : count + receivers op ≤ length cells
    enough = let h = typed_here by l w r f m whole.decoded whole.sound at offset cells local_cells x ranged row call_op
        there in h.there

    taken_long : length (take count cells) ≡ count
    taken_long = let h = enough in taken_length count cells (omega (arith, h))

    -- each is passed for its parameter
    passed : AreGiven l id.desc (given id.desc)
    passed = passed_for l (let d = parts id.desc in d.params) result (take count cells) numbers (sym taken_long)
        (λ k lt. subst (λ c. IsPassedInt l (get_or (let d = parts id.desc in d.params) (count - 1 - k) result)
        (kind_of_cell l c (operand numbers k))) (sym (operand_taken cells count k lt)) (argument k lt))
      where
        argument : (k : ℕ) → k < count → IsPassedInt l (get_or (let d = parts id.desc in d.params) (count - 1 - k)
            result) (kind_of_cell l (typed.operand cells k) (operand numbers k))
        argument k lt =
            let h = typed_here by l w r f m whole.decoded whole.sound at offset cells local_cells x ranged row call_op
            there in
            let p = get_or (let d = parts id.desc in d.params) (count - 1 - k) result in
            let low : nat_lt k count ≡ true = grind (arith, nat_tests, lt) in
            let accepted : is_value_of w p (typed.operand cells k) ≡ true =
            ap (λ b. if b then is_value_of w p (typed.operand cells k)
            else is_of w (receiver_class w f.body op id) (typed.operand cells k)) (sym low)
            ∙ h.operands k (omega (arith, lt)) in
            one_passed_int w l types p (typed.operand cells k) (operand numbers k) (all_values (let d = parts id.desc
            in d.params) desc.params (count - 1 - k) result (omega (arith, lt))) accepted
            (word by l w r f m whole.decoded whole.sound at offset cells local_cells x ranged row call_op there k)
            (λ rule s bound. within by l w r f m whole.decoded whole.sound at offset cells local_cells x ranged row
            call_op there rule k s (bound_binds bound) (an_argument lt bound))

    given_long : length (given id.desc) ≡ count
    given_long = long_from l (let d = parts id.desc in d.params) (given id.desc) passed

    -- a call by scratch pairs has as many parameters as the method has pairs, or fewer
    pairs : is_by_scratch (let types = types_of id.desc in types.params) ≡ true
        → length (let types = types_of id.desc in types.params) ≤ scratch_pairs (int_reached f)
    pairs is =
        let k = reached_there f.ranges 0 f.body.insns f.types at (record { at = offset; op = call_op }) t there row in
        let h : scratch_pairs_by (signature_of id.desc) ≤ scratch_pairs (int_reached f) =
        pairs_there (int_reached f) k.0 _ k.1 in
        let same : scratch_pairs_by (signature_of id.desc) ≡ length (let types = types_of id.desc in types.params) =
        ap scratch_pairs_by (signature_is id.desc desc)
        ∙ ap (λ b. if b then length (let types = types_of id.desc in types.params) else 0) is in
        omega (arith, h, same)

    -- with these below the arguments
    by_stack : (receiver : Option (Shape (List ℕ) → Bool))
        → on_top id.desc ++ below_params receiver [] ≡ kinds l (take (typed.takes call_op) cells) numbers
        → CallReaches by l Here results narrowed may_throw (class_of m) op id callee (types_of id.desc) (given id.desc)
        receiver → TypedHere call_op there
    by_stack receiver is reaches =
        let wider = result_given l result (drop (typed.takes call_op) numbers) desc.result in
        call_typed op id callee (types_of id.desc) (given id.desc) restHere receiver refl stack
        (signature_is id.desc desc) names (passes_from l (let d = parts id.desc in d.params) (given id.desc) passed)
        pairs room
        (knows_behind by l Here results narrowed may_throw w r f code m whole at offset call_op t x there row ranged
        refl (same_long result) gives wider)
        (room_left by l Here results narrowed may_throw w r f code m whole at offset call_op t x there row ranged
        (same_long result) gives wider)
        (is_taken by l Here results narrowed may_throw w r f code m whole at offset call_op t x there row ranged)
        reaches
      where
        onto_rest : (receiver : Option (Shape (List ℕ) → Bool)) → (on_top id.desc ++ below_params receiver [])
            ++ restHere ≡ onto (given id.desc) (below_params receiver restHere)
        onto_rest None = sym (onto_is (given id.desc) restHere ∙ ap (λ ks. ks ++ restHere) (reverse-reverse
            (on_top id.desc) ∙ sym (append-nil (on_top id.desc))))
        onto_rest (Some receives) = sym (onto_is (given id.desc) (Refers receives ∷ restHere)
            ∙ ap (λ ks. ks ++ Refers receives ∷ restHere) (reverse-reverse (on_top id.desc))
            ∙ sym (append_assoc (on_top id.desc) (Refers receives ∷ []) restHere))

        stack : kinds l cells numbers ≡ onto (given id.desc) (below_params receiver restHere)
        stack = stack_before by l Here results narrowed may_throw w r f code m whole at offset call_op t x there row
            ranged ∙ ap (λ ks. ks ++ restHere) (sym is) ∙ onto_rest receiver

        room : length (given id.desc) + length (below_params receiver restHere) ≤ m.max_stack
        room =
            let high = room_before by l Here results narrowed may_throw w r f code m whole at offset call_op t x there
            row ranged in
            let same = ap length (ap (λ ks. ks ++ restHere) (sym is) ∙ onto_rest receiver) in
            let long = onto_long (given id.desc) (below_params receiver restHere) in
            omega (arith, high, same, long)

    -- ---- on a receiver

    module _ (has_receiver : receivers op ≡ 1) where
      pub receiver_is : is_of w (receiver_class w f.body op id) (typed.operand cells count) ≡ true
      receiver_is =
          let h = typed_here by l w r f m whole.decoded whole.sound at offset cells local_cells x ranged row call_op
          there in
          let no : nat_lt count count ≡ false = grind (arith, nat_tests) in
          let p = get_or (let d = parts id.desc in d.params) (count - 1 - count) result in
          ap (λ b. if b then is_value_of w p (typed.operand cells count)
          else is_of w (receiver_class w f.body op id) (typed.operand cells count)) (sym no)
          ∙ h.operands count (omega (arith, has_receiver))

      receiver_below : (names : List (List ℕ)) → typed.operand cells count ≡ Refs names
          → on_top id.desc ++ Refers (is_one_of l names) ∷ [] ≡ kinds l (take (typed.takes call_op) cells) numbers
      receiver_below names is =
          let h = enough in
          let one : count + 1 ≡ typed.takes call_op = omega (arith, has_receiver) in
          let long = taken_long in
          let here : 0 + length (take count cells) ≡ count = omega (arith, long) in
          sym (ap (λ n. kinds l (take n cells) numbers) (sym one)
          ∙ ap (λ cs. kinds l cs numbers) (take_more cells count Unusable (omega (arith, h, has_receiver)))
          ∙ kinds_append l 0 (take count cells) (typed.operand cells count ∷ []) numbers
          ∙ ap (λ n. on_top id.desc ++ kind_of_cell l (typed.operand cells count) (operand numbers n) ∷ []) here
          ∙ ap (λ c. on_top id.desc ++ kind_of_cell l c (operand numbers count) ∷ []) is)

      by_receiver : ((names : List (List ℕ)) → typed.operand cells count ≡ Refs names → (params : List Kind)
          → AreGiven l id.desc params → CallReaches by l Here results narrowed may_throw (class_of m) op id callee
          (types_of id.desc) params (Some (is_one_of l names))) → TypedHere call_op there
      by_receiver reaches =
          let on = of_reference w (receiver_class w f.body op id) (typed.operand cells count) receiver_is in
          by_stack (Some (is_one_of l on.0)) (receiver_below on.0 on.1) (reaches on.0 on.1 (given id.desc) passed)

  pub called_typed : (op : JOp) → IsIntCalled by l Here results narrowed may_throw r m cells op
      → (there : StandsHere op) → TypedHere op there
  called_typed _ (on_class {id = id} callee desc names reaches) there =
      by_stack 0xB8 id callee desc names there None (none_below id) (reaches (given id.desc) (passed 0xB8 id callee desc
      names there))
    where
      none_below : (id : MemberId) → on_top id.desc ++ [] ≡ kinds l (take (typed.takes (jop.Call 0xB8 id)) cells)
          numbers
      none_below id =
          let none : count_of id.desc + 0 ≡ count_of id.desc = omega arith in
          append-nil (on_top id.desc) ∙ ap (λ n. kinds l (take n cells) numbers) (sym none)
  called_typed _ (on_receiver {op = op} {id = id} callee desc names has_receiver reaches) there =
      by_receiver op id callee desc names there has_receiver reaches
