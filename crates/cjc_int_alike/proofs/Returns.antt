-- Returns and athrow in int mode are typed.
use Rattle.std.proofs.Common.{◌≡◌, ℕ, Bool, true, false, List, [], ◌∷◌, ◌++◌, Option}
use Rattle.std.proofs.Common.{Some, None, refl, sym, ap, subst, ◌∙◌, arith}
use Rattle.std.specs.Prelude.{codes, if◌then◌else◌, option_and_then}
use Rattle.std.specs.List.{list_all}
use Rattle.cjc_bytes.specs.Descriptor.{Part}
use Rattle.cjc_bytes.specs.declared.descriptor.Kind.{Kind as PartKind}
use Rattle.cjc_bytes.specs.declared.descriptor.Kind.TheVariants as kinds
use Rattle.cjc_bytes.proofs.Bools.{not_false}
use Rattle.cjc_range.specs.Span.{Within, byte_range, short_range}
use Rattle.cjc_code.specs.declared.insn.JOp.{JOp}
use Rattle.cjc_code.specs.declared.insn.JOp.TheVariants as jop
use Rattle.cjc_script.specs.Sorts.{Shape, OfClass, Sort, Boolean, Byte, Short, Int, Reference, sort_of, sort_by}
use Rattle.cjc_script.specs.Sorts.{result_by, reference_to, shape_named, signature_by, signature_of}
use Rattle.cjc_world.specs.Classes.{Class}
use Rattle.cjc_world.specs.Subtype.{is_subtype}
use Rattle.cjc_types.specs.Fixpoint.Tables.{HasRow}
use Rattle.cjc_types.specs.declared.cell.Cell.{Cell}
use Rattle.cjc_types.specs.declared.cell.Cell.TheVariants.{Refs}
use Rattle.cjc_types.specs.declared.state.State.{State}
use Rattle.cjc_types.specs.Rules.{is_number, is_of, is_value, returns}
use Rattle.cjc_types.specs.Steps as typed
use Rattle.cjc_types.specs.Types.{parts}
use Rattle.cjc_intervals.specs.Bounds.{a_result, a_short, a_byte, a_boolean}
use Rattle.cjc_intervals.specs.Frames.{RangeState, spans_of}
use Rattle.cjc_intervals.specs.Steps.{operand}
use Rattle.cjc_intervals.specs.Values.{boolean_range}
use Rattle.cjc_card_semantics.specs.Bytecode.Machine.{Start}
use Rattle.cjc_ncode.specs.declared.narrow.NMethod.{NMethod}
use Rattle.cjc_ncode.specs.ByLabel.{Named}
use Rattle.cjc_ncode.specs.Written.{Resolution}
use Rattle.cjc_ncode.specs.IntCode.IntCode as written
use Rattle.cjc_jvm_semantics.specs.Linked.{Method, Linked}
use Rattle.cjc_jvm_semantics.specs.Machine.{Frame}
use Rattle.cjc_narrow_proof.specs.Selection.Calls.{NFrame}
use Rattle.cjc_narrow_proof.specs.Selection.Relation.{Kind, Range, Refers, NMemory}
use Rattle.cjc_narrow_proof.specs.Tables.Analysis.{Found, TypesAreTold}
use Rattle.cjc_narrow_proof.specs.Tables.Calls.{types_of}
use Rattle.cjc_narrow_proof.specs.Tables.Kinds.{is_one_of}
use Rattle.cjc_narrow_proof.proofs.TablesLaws.Plain.{number_is}
use Rattle.cjc_narrow_proof.proofs.TablesLaws.Resolved.{of_reference}
use Rattle.cjc_narrow_proof.proofs.TablesLaws.Values.{passes}
use Rattle.cjc_int_mode.specs.Written.{before, int_frame, result_by as result_by_signature}
use Rattle.cjc_int_runs.specs.IntFrames.{ResultFits, no_value, a_number, a_reference}
use Rattle.cjc_int_runs.specs.Rows.{IsIntReturn, int_return, short_return, nothing_return}
use Rattle.cjc_int_runs.specs.Rows as rows
use Rattle.cjc_int_runs.specs.Relation.{type_range}
use Rattle.cjc_int_runs.specs.Typed.{return_typed, throw_typed}
use Rattle.cjc_int_alike.specs.Calls.{IsIntDesc, GivesResult, MayThrowThrowables, is_some_result}
use Rattle.cjc_int_alike.specs.Method.{IsIntWhole}
use Rattle.cjc_int_alike.proofs.Plain.{Stands, IsRow, typed_here, within, one_number, one_reference}
use Rattle.cjc_int_alike.proofs.Plain as plain
use Rattle.cjc_int_alike.proofs.Rows.{Typed, stack_before, rest, is_taken}

pub signature_is : (desc : List ℕ) → IsIntDesc desc → signature_of desc ≡ Some (types_of desc)
signature_is desc d = ap (option_and_then signature_by) d.is_desc ∙ ap (λ b. if b then Some (types_of desc)
    else None) d.is_method

result_some : (k : PartKind) (p : Part) → returns 0xB0 k ≡ true → is_some_result k (sort_of p) ≡ true
    → k ≡ p.kind → (shape : Shape (List ℕ)) × ((sort_of p ≡ Reference shape) × (shape_named p.class ≡ Some shape))
result_some kinds.Bool p e some is = cc
result_some kinds.Byte p e some is = cc
result_some kinds.Short p e some is = cc
result_some kinds.Int p e some is = cc
result_some kinds.Other p e some is = cc
result_some kinds.Ref p e some is = go (shape_named p.class) refl some
  where
    sort_is : sort_of p ≡ reference_to (shape_named p.class)
    sort_is = ap (λ k. sort_by k p.class) (sym is)

    go : (o : Option (Shape (List ℕ))) → shape_named p.class ≡ o → is_some_result kinds.Ref (sort_of p) ≡ true
        → (shape : Shape (List ℕ)) × ((sort_of p ≡ Reference shape) × (shape_named p.class ≡ Some shape))
    go None named some =
        let none : false ≡ true = sym (ap (is_some_result kinds.Ref) (sort_is ∙ ap reference_to named)) ∙ some in cc
    go (Some shape) named some = (shape, (sort_is ∙ ap reference_to named, named))
result_some kinds.Void p e some is = cc

module _ (by : Linked) (l : Named) (Here : NMemory → Frame → NFrame → Type 0) (results : Method → Option Sort)
    (narrowed : Method → Start NMethod) (may_throw : Shape (List ℕ) → Bool) (w : List Class) (r : Resolution)
    (f : Found) (code : NMethod) (m : Method) (whole : IsIntWhole by l may_throw w r f m) (types : TypesAreTold w l)
    (at offset : ℕ) (cells local_cells : List Cell) (x : RangeState) (ranged : HasRow f.ranges at x)
    (row : IsRow by l w r f m whole.decoded whole.sound at offset cells local_cells x ranged) where
  abbrev StandsHere : JOp → Type 0
  StandsHere op = Stands by l w r f m whole.decoded whole.sound at offset cells local_cells x ranged op

  abbrev t : State
  t = plain.t by l w r f m whole.decoded whole.sound at offset cells local_cells x ranged

  abbrev TypedHere : (op : JOp) → StandsHere op → Type 0
  TypedHere op there = Typed by l Here results narrowed may_throw w r f code m whole at offset op t x there row ranged

  abbrev restHere : (op : JOp) → StandsHere op → List Kind
  restHere op there = rest by l Here results narrowed may_throw w r f code m whole at offset op t x there row ranged

  abbrev result : Part
  result = let d = parts f.body.desc in d.result

  -- ---- returns

  module _ (gives : GivesResult results f m) where
    frame_result : (int_frame f.body).result ≡ results m
    frame_result = ap result_by_signature (signature_is f.body.desc gives.desc) ∙ sym gives.given

    is_kind : (opcode : ℕ) → StandsHere (jop.Return opcode) → returns opcode result.kind ≡ true
    is_kind opcode there = let h = typed_here by l w r f m whole.decoded whole.sound at offset cells local_cells x
        ranged row (jop.Return opcode) there in not_false (returns opcode result.kind) h.result

    -- a number of the method's type
    abbrev Numbers : Type 0
    Numbers = IsIntReturn by l (int_frame f.body) r m (before (jop.Return 0xAC) t (Some x)) (jop.Return 0xAC)
        (Range (operand (spans_of x.stack) 0) ∷ []) × ResultFits l (results m) (Range (operand (spans_of x.stack) 0)
        ∷ [])

    numbers_fit : (k : PartKind) → result.kind ≡ k → returns 0xAC k ≡ true → StandsHere (jop.Return 0xAC) → Numbers
    numbers_fit k is e there = go k is e
      where
        result_is : (k : PartKind) → result.kind ≡ k → result_by result.kind result ≡ result_by k (record result {
          kind = k;
        })
        result_is k is = ap (λ k. result_by k (record result { kind = k })) is

        gives_it : (given_as : Sort) → result_by result.kind result ≡ Some given_as → results m ≡ Some given_as
        gives_it given_as e = gives.given ∙ e

        fits : (given_as : Sort) → result_by result.kind result ≡ Some given_as → ResultFits l (results m)
            (Range (operand (spans_of x.stack) 0) ∷ [])
        fits given_as e = subst (λ o. ResultFits l o (Range (operand (spans_of x.stack) 0) ∷ [])) (sym (gives_it
            given_as e))
            a_number

        by_word : (given_as : Sort) → result_by result.kind result ≡ Some given_as → written.is_short given_as ≡ true
            → Within (operand (spans_of x.stack) 0) (type_range given_as) → Numbers
        by_word given_as e word inside = (
          short_return _ given_as _ (frame_result ∙ gives_it given_as e) word inside,
          fits given_as e,
        )

        go : (k : PartKind) → result.kind ≡ k → returns 0xAC k ≡ true → Numbers
        go kinds.Bool is e = by_word Boolean (result_is kinds.Bool is) refl (within by l w r f m whole.decoded
            whole.sound at offset cells local_cells x ranged row (jop.Return 0xAC) there 609 0 boolean_range refl
            (a_result (a_boolean is)))
        go kinds.Byte is e = by_word Byte (result_is kinds.Byte is) refl (within by l w r f m whole.decoded
            whole.sound at offset cells local_cells x ranged row (jop.Return 0xAC) there 608 0 byte_range refl
            (a_result (a_byte is)))
        go kinds.Short is e = by_word Short (result_is kinds.Short is) refl (within by l w r f m whole.decoded
            whole.sound at offset cells local_cells x ranged row (jop.Return 0xAC) there 607 0 short_range refl
            (a_result (a_short is)))
        go kinds.Int is e = (
          int_return _ _ (frame_result ∙ gives_it Int (result_is kinds.Int is)),
          fits Int
              (result_is kinds.Int is),
        )
        go kinds.Other is e = cc
        go kinds.Ref is e = cc
        go kinds.Void is e = cc

    number_result : (k : PartKind) (class : List ℕ) (c : Cell) → returns 0xAC k ≡ true → is_value w k class c ≡ true
        → is_number c ≡ true
    number_result kinds.Bool class c e h = h
    number_result kinds.Byte class c e h = h
    number_result kinds.Short class c e h = h
    number_result kinds.Int class c e h = h
    number_result kinds.Other class c e h = cc
    number_result kinds.Ref class c e h = cc
    number_result kinds.Void class c e h = cc

    pub number_return : (there : StandsHere (jop.Return 0xAC)) → TypedHere (jop.Return 0xAC) there
    number_return there =
        let op = jop.Return 0xAC in
        let h = typed_here by l w r f m whole.decoded whole.sound at offset cells local_cells x ranged row op there in
        let is = number_is (typed.operand cells 0) (number_result result.kind result.class (typed.operand cells 0)
        (is_kind 0xAC there) (h.operands 0 (omega arith))) in
        let top = one_number by l w r f m whole.decoded whole.sound at offset cells local_cells x ranged row op there
        refl is in
        let fit = numbers_fit result.kind refl (is_kind 0xAC there) there in
        return_typed (Range (operand (spans_of x.stack) 0) ∷ []) (restHere op there)
        (stack_before by l Here results narrowed may_throw w r f code m whole at offset op t x there row ranged
        ∙ ap (λ ks. ks ++ restHere op there) (sym top)) fit.0 frame_result fit.1

    reference_kind : (k : PartKind) → returns 0xB0 k ≡ true → k ≡ kinds.Ref
    reference_kind kinds.Bool e = cc
    reference_kind kinds.Byte e = cc
    reference_kind kinds.Short e = cc
    reference_kind kinds.Int e = cc
    reference_kind kinds.Other e = cc
    reference_kind kinds.Ref e = refl
    reference_kind kinds.Void e = cc

    pub reference_return : (there : StandsHere (jop.Return 0xB0)) → TypedHere (jop.Return 0xB0) there
    reference_return there =
        let op = jop.Return 0xB0 in
        let h = typed_here by l w r f m whole.decoded whole.sound at offset cells local_cells x ranged row op there in
        let kind = reference_kind result.kind (is_kind 0xB0 there) in
        let value : is_of w result.class (typed.operand cells 0) ≡ true =
        subst (λ k. is_value w k result.class (typed.operand cells 0) ≡ true) kind (h.operands 0 (omega arith)) in
        let is = of_reference w result.class (typed.operand cells 0) value in
        let top = one_reference by l w r f m whole.decoded whole.sound at offset cells local_cells x ranged row op there
        refl is.0 is.1 in
        let some = result_some result.kind result (is_kind 0xB0 there) (let d = gives.desc in d.result) refl in
        let shape = some.0 in
        let sort : results m ≡ Some (Reference shape) = gives.given ∙ ap (λ k. result_by k result) kind
        ∙ ap Some some.1.0 in
        return_typed (Refers (is_one_of l is.0) ∷ []) (restHere op there)
        (stack_before by l Here results narrowed may_throw w r f code m whole at offset op t x there row ranged
        ∙ ap (λ ks. ks ++ restHere op there) (sym top))
        (reference_return_row shape (frame_result ∙ sort) (is_one_of l is.0)) frame_result
        (subst (λ o. ResultFits l o (Refers (is_one_of l is.0) ∷ [])) (sym sort)
        (a_reference (passes w l types result.class shape some.1.1 is.0 (ap (is_of w result.class) (sym is.1) ∙
        value))))
      where
        reference_return_row : (shape : Shape (List ℕ)) → (int_frame f.body).result ≡ Some (Reference shape)
            → (within : Shape (List ℕ) → Bool) → IsIntReturn by l (int_frame f.body) r m
            (before (jop.Return 0xB0) t (Some x)) (jop.Return 0xB0) (Refers within ∷ [])
        reference_return_row shape e within = rows.reference_return _ shape within e

    void_kind : (k : PartKind) → returns 0xB1 k ≡ true → k ≡ kinds.Void
    void_kind kinds.Bool e = cc
    void_kind kinds.Byte e = cc
    void_kind kinds.Short e = cc
    void_kind kinds.Int e = cc
    void_kind kinds.Other e = cc
    void_kind kinds.Ref e = cc
    void_kind kinds.Void e = refl

    pub plain_return : (there : StandsHere (jop.Return 0xB1)) → TypedHere (jop.Return 0xB1) there
    plain_return there =
        let op = jop.Return 0xB1 in
        let none : results m ≡ None = gives.given ∙ ap (λ k. result_by k result) (void_kind result.kind (is_kind 0xB1
        there)) in
        return_typed [] (restHere op there)
        (stack_before by l Here results narrowed may_throw w r f code m whole at offset op t x there row ranged)
        (nothing_return _ (frame_result ∙ none)) frame_result
        (subst (λ o. ResultFits l o []) (sym none) no_value)

  -- ---- athrow

  pub throws_on : MayThrowThrowables by l Here results narrowed may_throw r m → (there : StandsHere jop.Throw)
      → TypedHere jop.Throw there
  throws_on may there =
      let op = jop.Throw in
      let h = typed_here by l w r f m whole.decoded whole.sound at offset cells local_cells x ranged row op there in
      let accepted = h.operands 0 (omega arith) in
      let is = of_reference w (codes "java/lang/Throwable") (typed.operand cells 0) accepted in
      let top = one_reference by l w r f m whole.decoded whole.sound at offset cells local_cells x ranged row op there
      refl is.0 is.1 in
      throw_typed (is_one_of l is.0) (restHere op there) refl
      (stack_before by l Here results narrowed may_throw w r f code m whole at offset op t x there row ranged
      ∙ ap (λ ks. ks ++ restHere op there) (sym top))
      (λ kind passing. may kind (passes w l types (codes "java/lang/Throwable")
      (OfClass (codes "java/lang/Throwable")) refl is.0 (all_of is.0 is.1 accepted) kind passing))
      (is_taken by l Here results narrowed may_throw w r f code m whole at offset op t x there row ranged)
    where
      all_of : (names : List (List ℕ)) → typed.operand cells 0 ≡ Refs names
          → is_of w (codes "java/lang/Throwable") (typed.operand cells 0) ≡ true
          → list_all (λ name. is_subtype w name (codes "java/lang/Throwable")) names ≡ true
      all_of names e h = ap (is_of w (codes "java/lang/Throwable")) (sym e) ∙ h
