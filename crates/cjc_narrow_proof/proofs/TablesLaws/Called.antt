-- Each call keeps its rule.
use Rattle.std.proofs.Common.{◌≡◌, ◌<◌, ◌≤◌, ◌+◌, ◌-◌, ℕ, zero, suc, Bool, true, false, not, ◌||◌, List, [], ◌∷◌, ◌++◌}
use Rattle.std.proofs.Common.{map, length, take, drop, reverse, replicate, get_or, Some, None, nat_lt, cond, refl, sym}
use Rattle.std.proofs.Common.{ap, subst, ◌∙◌, arith}
use Rattle.std.specs.Prelude.{if◌then◌else◌, ◌==◌, option_and_then}
use Rattle.std.specs.List.{AllZip, AllByRecursion}
use Rattle.std.proofs.lemmas.Bool.Decides.{nat_tests}
use Rattle.std.proofs.lemmas.List.{reverse-append, reverse-reverse, take_more}
use Rattle.cjc_bytes.specs.AccessFlags.{is_static}
use Rattle.cjc_bytes.specs.Descriptor.{Part}
use Rattle.cjc_bytes.specs.declared.fault.MemberId.{MemberId}
use Rattle.cjc_bytes.proofs.Gets.{taken_length}
use Rattle.cjc_range.specs.Span.{Span, full}
use Rattle.cjc_code.specs.declared.insn.JOp.{JOp}
use Rattle.cjc_code.specs.declared.insn.JOp.TheVariants as jop
use Rattle.cjc_script.specs.Sorts.{Shape, signature_by, signature_of, sort_of, result_by}
use Rattle.cjc_world.specs.Classes.{Class}
use Rattle.cjc_types.specs.declared.cell.Cell.{Cell}
use Rattle.cjc_types.specs.declared.cell.Cell.TheVariants.{Refs, Unusable}
use Rattle.cjc_types.specs.Rules.{is_value_of, is_of, receiver_class}
use Rattle.cjc_types.specs.Types.{parts, value_of}
use Rattle.cjc_types.specs.Flow.{arguments}
use Rattle.cjc_types.specs.Steps as typed
use Rattle.cjc_types.specs.Steps.{receivers}
use Rattle.cjc_card_semantics.specs.Bytecode.Machine.{Within as WithinPackage, Abroad}
use Rattle.cjc_ncode.specs.declared.narrow.NInsn.{NInsn}
use Rattle.cjc_ncode.specs.declared.narrow.NInsn.TheVariants as insns
use Rattle.cjc_ncode.specs.Written.{nargs_of, called}
use Rattle.cjc_ncode.specs.ByLabel.{Callee, Named}
use Rattle.cjc_jvm_semantics.specs.Linked.{Method, Linked, OnClass, Inside}
use Rattle.cjc_jvm_semantics.specs.Linked as linked
use Rattle.cjc_intervals.specs.Frames.{RangeState, spans_of}
use Rattle.cjc_intervals.specs.Values.{range_of}
use Rattle.cjc_intervals.specs.Steps.{operand}
use Rattle.cjc_intervals.specs.Bounds.{an_argument}
use Rattle.cjc_narrow_proof.specs.Selection.Relation.{Kind, Refers, Free, more_types, AllWider, one_wider, IsMadeOf}
use Rattle.cjc_narrow_proof.specs.Selection.Rows.{HasRoom, is_word_sort}
use Rattle.cjc_narrow_proof.specs.Selection.Calls.{first_locals, IsNarrowed}
use Rattle.cjc_narrow_proof.specs.Selection.Callees.{Names}
use Rattle.cjc_narrow_proof.specs.Selection.Replies.{result_kinds, IsImport}
use Rattle.cjc_narrow_proof.specs.Selection.Tables.{MayRaise, class_of_code, spot, Arrives}
use Rattle.cjc_narrow_proof.specs.Selection.Reached.{IsCallAt, MayBeCalled, MayBeAnswered, MaySelectOn, IsAnswered}
use Rattle.cjc_narrow_proof.specs.Selection.Reached as reached_spec
use Rattle.cjc_narrow_proof.specs.Selection.Runs.{Rule}
use Rattle.cjc_narrow_proof.proofs.SelectionLaws.Callees.{call_written}
use Rattle.cjc_narrow_proof.proofs.SelectionLaws.Reached.{static_rule, import_rule, object_rule}
use Rattle.cjc_narrow_proof.specs.Tables.Kinds.{is_named, is_one_of, kind_of_cell, kinds, point_of}
use Rattle.cjc_narrow_proof.specs.Tables.Analysis.{Analysis, IsAlone, IsDecoded, IsSound, IsRead, CatchesAreTold}
use Rattle.cjc_narrow_proof.specs.Tables.Analysis.{TypesAreTold}
use Rattle.cjc_narrow_proof.specs.Tables.Analysis.{declared_kinds, table_of}
use Rattle.cjc_narrow_proof.specs.Tables.Calls.{IsWordDesc, types_of, count_of, IsReachedBy, IsAsked, IsStaticNamed}
use Rattle.cjc_narrow_proof.specs.Tables.Calls.{IsObjectNamed, IsSelected, IsCalled}
use Rattle.cjc_narrow_proof.specs.Tables.Calls as call
use Rattle.cjc_narrow_proof.proofs.TablesLaws.Told.{kinds_append}
use Rattle.cjc_narrow_proof.proofs.TablesLaws.Begins.{begins}
use Rattle.cjc_narrow_proof.proofs.TablesLaws.Resolved.{of_reference, same_long}
use Rattle.cjc_narrow_proof.proofs.TablesLaws.Passed.{IsPassed, one_passed, passed_for, passes_from, short_from}
use Rattle.cjc_narrow_proof.proofs.TablesLaws.Passed.{long_from, begins_wider, result_given, word_result}
use Rattle.cjc_narrow_proof.proofs.TablesLaws.Rows.{all_wider_itself, all_wider_through, wider_append}
use Rattle.cjc_narrow_proof.proofs.TablesLaws.Rows.{first_there, stack_before, rest, roomy_wider, arrives_wider}
use Rattle.cjc_narrow_proof.proofs.TablesLaws.Rows.{catches_here}
use Rattle.cjc_narrow_proof.proofs.TablesLaws.Plain.{t, Stands, IsRow, typed_here, word, within}
use Rattle.cjc_narrow_proof.proofs.TablesLaws.Methods.{wider_length}

-- ---- descriptors

pub signature_is : (desc : List ℕ) → IsWordDesc desc → signature_of desc ≡ Some (types_of desc)
signature_is desc d = ap (option_and_then signature_by) d.is_desc ∙ ap (λ b. if b then Some (types_of desc)
    else None) d.is_method

pub each_sort : (ps : List Part) → length (map sort_of ps) ≡ length ps
each_sort [] = refl
each_sort (p ∷ ps) = ap suc (each_sort ps)

-- ---- the method that begins

-- the interval of a parameter
range_there : (ps : List Part) (j : ℕ) (d : Part) → j < length ps → operand (map range_of ps) j
    ≡ range_of (get_or ps j d)
range_there [] j d lt = absurd (omega (arith, lt))
range_there (p ∷ ps) zero d lt = refl
range_there (p ∷ ps) (suc j) d lt = range_there ps j d (omega (arith, lt))

module _ (by : Linked) (l : Named) (w : List Class) (a : Analysis) where
  -- What is known of the arguments is known where the method begins.
  pub callee_begins : (on : Bool) (desc : List ℕ) (callee : Method) → IsWordDesc desc
      → IsReachedBy by l w a on desc callee → (ks params : List Kind) → AllZip (IsPassed l) (let d = parts desc
      in d.params) ks
      → params ≡ (if on then Refers (is_one_of l ((let f = a.found callee in let b = f.body in b.class) ∷ [])) ∷ ks
      else ks) → Arrives (table_of l a) callee 0 (let s = a.narrowed callee in s.at) [] (first_locals callee params)
  callee_begins on desc callee word reached ks params passed is =
      let whole = reached.whole in
      let there = begins by l w a callee whole.read whole.decoded whole.sound whole.begins in
      let wider = subst (λ js. AllWider js (declared_kinds l (let f = a.found callee in f.body))) (sym is)
      (declared on (is_static (let f = a.found callee in let b = f.body in b.flags)) refl reached.flags) in
      record {
        point = there.point;
        is_reached = there.is_reached;
        place = there.place;
        stack = there.stack;
        all_there = there.all_there;
        locals = all_wider_through (subst (λ n. AllWider (first_locals callee params)
            (declared_kinds l (let f = a.found callee in f.body) ++ replicate (callee.max_locals - n) Free))
            (as_long wider) (wider_append wider (all_wider_itself (replicate (callee.max_locals - length params)
            Free)))) there.locals;
      }
    where
      of_class : List Cell
      of_class = Refs ((let f = a.found callee in let b = f.body in b.class) ∷ []) ∷ []

      ps : List Part
      ps = let d = parts desc in d.params

      as_long : {ks js : List Kind} → AllWider ks js → length ks ≡ length js
      as_long h = wider_length h

      same_params : (let f = a.found callee in let b = f.body in let d = parts b.desc in d.params) ≡ ps
      same_params = ap (λ n. (let d = parts n in d.params)) reached.desc

      declared : (on is : Bool) → is_static (let f = a.found callee in let b = f.body in b.flags) ≡ is → is ≡ not on
          → AllWider (if on then Refers (is_one_of l ((let f = a.found callee in let b = f.body in b.class) ∷ [])) ∷ ks
          else ks) (declared_kinds l (let f = a.found callee in f.body))
      declared true true flags e = cc
      declared false false flags e = cc
      declared false true flags e =
          subst (λ b. AllWider ks (kinds l ((cond b [] of_class) ++ map value_of (let f = a.found callee
          in let b = f.body in let d = parts b.desc in d.params)) ((cond b [] (full ∷ []))
          ++ map range_of (let f = a.found callee in let b = f.body in let d = parts b.desc in d.params))))
          (sym flags)
          (subst (λ qs. AllWider ks (kinds l (map value_of qs) (map range_of qs))) (sym same_params)
          (begins_wider l ps ks (map range_of ps) 0 word.params passed (λ j d lt. (let e : 0 + j ≡ j = omega arith
          in ap (operand (map range_of ps)) e ∙ range_there ps j d lt))))
      declared true false flags e =
          subst (λ b. AllWider (Refers (is_one_of l ((let f = a.found callee in let b = f.body in b.class) ∷ []))
          ∷ ks) (kinds l ((cond b [] of_class) ++ map value_of (let f = a.found callee in let b = f.body
          in let d = parts b.desc in d.params)) ((cond b [] (full ∷ [])) ++ map range_of (let f = a.found callee
          in let b = f.body in let d = parts b.desc in d.params)))) (sym flags)
          (subst (λ qs. AllWider (Refers (is_one_of l ((let f = a.found callee in let b = f.body in b.class) ∷ []))
          ∷ ks) (kinds l (of_class ++ map value_of qs) (full ∷ map range_of qs))) (sym same_params)
          (one_wider (more_types (λ kind e. e)) (begins_wider l ps ks (full ∷ map range_of ps) 1 word.params passed
          (λ j d lt. (let e : 1 + j ≡ suc j = omega arith in ap (operand (full ∷ map range_of ps)) e
          ∙ range_there ps j d lt)))))

  -- as many arguments as it takes
  pub callee_narrowed : (on : Bool) (desc : List ℕ) (callee : Method) (count : ℕ) → IsReachedBy by l w a on desc callee
      → count ≡ (if on then suc (count_of desc) else count_of desc) → IsNarrowed a.narrowed count callee
  callee_narrowed on desc callee count reached is = subst (λ n. IsNarrowed a.narrowed n callee) (sym (is
      ∙ sym (many on (is_static (let f = a.found callee in let b = f.body in b.flags)) refl reached.flags)))
      (let whole = reached.whole in whole.is_narrowed)
    where
      each : (qs : List Part) → length (map value_of qs) ≡ length qs
      each [] = refl
      each (q ∷ qs) = ap suc (each qs)

      all : (let f = a.found callee in let b = f.body in let d = parts b.desc in length (map value_of d.params))
          ≡ count_of desc
      all = each (let f = a.found callee in let b = f.body in let d = parts b.desc in d.params)
          ∙ ap count_of reached.desc

      many : (on is : Bool) → is_static (let f = a.found callee in let b = f.body in b.flags) ≡ is → is ≡ not on
          → (let f = a.found callee in length (arguments f.body)) ≡ (if on then suc (count_of desc) else count_of desc)
      many true true flags e = cc
      many false false flags e = cc
      many false true flags e =
          ap (λ b. length ((cond b [] (Refs ((let f = a.found callee in let b = f.body in b.class) ∷ []) ∷ []))
          ++ map value_of (let f = a.found callee in let b = f.body in let d = parts b.desc in d.params))) flags ∙ all
      many true false flags e =
          ap (λ b. length ((cond b [] (Refs ((let f = a.found callee in let b = f.body in b.class) ∷ []) ∷ []))
          ++ map value_of (let f = a.found callee in let b = f.body in let d = parts b.desc in d.params))) flags
          ∙ ap suc all

-- ---- a call

module _ (by : Linked) (l : Named) (w : List Class) (a : Analysis) (m : Method) (read : IsRead a m)
    (decoded : IsDecoded (let f = a.found m in f.body)) (sound : IsSound w (let r = a.resolution m
    in r.constant) (a.found m)) (told : CatchesAreTold by l a m) (types : TypesAreTold w l) (may_raise : MayRaise l
    (table_of l a)) (answered : IsAnswered by l (table_of l a))
    (at offset : ℕ) (cells local_cells : List Cell) (x : RangeState) (ranged : IsAlone a m at x)
    (row : IsRow by l w a m read decoded sound told at offset cells local_cells x ranged) where
  abbrev KeepsHere : JOp → Type 0
  KeepsHere op = Rule by l (table_of l a) m at (point_of l (t by l w a m read decoded sound told at offset cells
      local_cells x ranged) x) (record { at = offset; op = op })

  abbrev StandsHere : JOp → Type 0
  StandsHere op = Stands by l w a m read decoded sound told at offset cells local_cells x ranged op

  abbrev numbers : List Span
  numbers = spans_of x.stack

  abbrev locals : List Kind
  locals = kinds l local_cells x.locals

  -- the arguments without a receiver, the last on top
  abbrev on_top : (desc : List ℕ) → List Kind
  on_top desc = kinds l (take (count_of desc) cells) numbers

  -- the first one first
  abbrev given : (desc : List ℕ) → List Kind
  given desc = reverse (on_top desc)

  module _ (op : ℕ) (id : MemberId) (named : Callee) (desc : IsWordDesc id.desc) (names : Names (a.resolution m) op id
      named) (there : StandsHere (jop.Call op id)) where
    abbrev call_op : JOp
    call_op = jop.Call op id

    abbrev insn : NInsn
    insn = if op == 0xB9 then insns.Interface (nargs_of id) ((let r = a.resolution m in r.interface) id)
        else called (a.resolution m) op id

    abbrev count : ℕ
    count = count_of id.desc

    abbrev result : Part
    result = let d = parts id.desc in d.result

    abbrev results : List Kind
    results = let types = types_of id.desc in result_kinds l types.result

    enough : count + receivers op ≤ length cells
    enough = let h = typed_here by l w a m read decoded sound told at offset cells local_cells x ranged row call_op
        there in h.there

    taken_long : length (take count cells) ≡ count
    taken_long = let h = enough in taken_length count cells (omega (arith, h))

    operand_taken : (cs : List Cell) (n k : ℕ) → k < n → typed.operand (take n cs) k ≡ typed.operand cs k
    operand_taken [] zero k h = refl
    operand_taken [] (suc n) k h = refl
    operand_taken (c ∷ cs) zero k h = absurd (omega (arith, h))
    operand_taken (c ∷ cs) (suc n) zero h = refl
    operand_taken (c ∷ cs) (suc n) (suc k) h = operand_taken cs n k (omega (arith, h))

    all_words : (ps : List Part) → AllByRecursion (λ p. is_word_sort (sort_of p) ≡ true) ps → (k : ℕ) (d : Part)
        → k < length ps → is_word_sort (sort_of (get_or ps k d)) ≡ true
    all_words [] h k d lt = absurd (omega (arith, lt))
    all_words (p ∷ ps) h zero d lt = h.0
    all_words (p ∷ ps) h (suc k) d lt = all_words ps h.1 k d (omega (arith, lt))

    -- each is passed for its parameter
    passed : AllZip (IsPassed l) (let d = parts id.desc in d.params) (given id.desc)
    passed = passed_for l (let d = parts id.desc in d.params) result (take count cells) numbers (sym taken_long)
        (λ k lt. subst (λ c. IsPassed l (get_or (let d = parts id.desc in d.params) (count - 1 - k) result)
        (kind_of_cell l c (operand numbers k))) (sym (operand_taken cells count k lt)) (argument k lt))
      where
        argument : (k : ℕ) → k < count → IsPassed l (get_or (let d = parts id.desc in d.params) (count - 1 - k) result)
            (kind_of_cell l (typed.operand cells k) (operand numbers k))
        argument k lt =
            let h = typed_here by l w a m read decoded sound told at offset cells local_cells x ranged row call_op there
            in
            let p = get_or (let d = parts id.desc in d.params) (count - 1 - k) result in
            let low : nat_lt k count ≡ true = grind (arith, nat_tests, lt) in
            let accepted : is_value_of w p (typed.operand cells k) ≡ true =
            ap (λ b. if b then is_value_of w p (typed.operand cells k)
            else is_of w (receiver_class w (let f = a.found m in f.body) op id) (typed.operand cells k)) (sym low)
            ∙ h.operands k (omega (arith, lt)) in
            one_passed w l types p (typed.operand cells k) (operand numbers k) (all_words (let d = parts id.desc
            in d.params) desc.params (count - 1 - k) result (omega (arith, lt))) accepted
            (word by l w a m read decoded sound told at offset cells local_cells x ranged row call_op there k)
            (λ rule s bound. within by l w a m read decoded sound told at offset cells local_cells x ranged row call_op
            there rule k s (an_argument lt bound))

    given_long : length (given id.desc) ≡ count
    given_long = long_from l (let d = parts id.desc in d.params) (given id.desc) passed

    -- what is written, with what stays on the stack
    facts : (params : List Kind) → reverse params ≡ kinds l (take (typed.takes call_op) cells) numbers
        → IsCallAt by l (table_of l a) m at (point_of l (t by l w a m read decoded sound told at offset cells
        local_cells x ranged) x) (record { at = offset; op = call_op }) op id named params
    facts params is = record {
      ks = rest by l w a m read decoded sound told at offset call_op (t by l w a m read decoded sound told at offset
          cells local_cells x ranged) x there row ranged;
      insn = insn;
      is_call = refl;
      stack = stack_before by l w a m read decoded sound told at offset call_op (t by l w a m read decoded sound told at
          offset cells local_cells x ranged) x there row ranged
          ∙ ap (λ ks. ks ++ rest by l w a m read decoded sound told at offset call_op (t by l w a m read decoded sound
          told at offset cells local_cells x ranged) x there row ranged) (sym is);
      is_written = first_there by l w a m read decoded sound told at offset call_op (t by l w a m read decoded sound
          told at offset cells local_cells x ranged) x there row ranged insn [] refl;
      is_named = λ room next vs ws ls words store memory. call_written by l (a.resolution m) m op id named names
          (λ o. 0) insn refl room at next vs ws ls words store memory;
      catches = catches_here by l w a m read decoded sound told at offset call_op (t by l w a m read decoded sound told
          at offset cells local_cells x ranged) x there row ranged 0 refl;
    }

    -- where the caller goes on with a result
    resumes : MayBeAnswered (table_of l a) m at results (rest by l w a m read decoded sound told at offset call_op
        (t by l w a m read decoded sound told at offset cells local_cells x ranged) x there row ranged) locals
    resumes =
        let wider = result_given l result (drop (typed.takes call_op) numbers) desc.result in
        record {
          resumes = arrives_wider by l w a m read decoded sound told at offset call_op (t by l w a m read decoded sound
              told at offset cells local_cells x ranged) x there row ranged refl refl (same_long result) refl results
              wider;
          has_room = roomy_wider by l w a m read decoded sound told at offset call_op (t by l w a m read decoded sound
              told at offset cells local_cells x ranged) x there row ranged results wider (same_long result);
        }

    -- a method of the package begins, and gives what its descriptor says
    may_be_called : (on : Bool) (callee : Method) → IsReachedBy by l w a on id.desc callee → (params : List Kind)
        → params ≡ (if on then Refers (is_one_of l ((let f = a.found callee in let b = f.body in b.class) ∷ []))
        ∷ given id.desc else given id.desc)
        → MayBeCalled (table_of l a) m at params (rest by l w a m read decoded sound told at offset call_op
        (t by l w a m read decoded sound told at offset cells local_cells x ranged) x there row ranged) locals
        callee
    may_be_called on callee reached params is =
        let back = resumes in
        let whole = reached.whole in
        let gives : results ≡ a.results callee =
        sym (whole.given ∙ ap (λ n. (let d = parts n in result_kinds l (result_by d.result.kind d.result)))
        reached.desc) in
        record {
          enters = callee_begins by l w a on id.desc callee desc reached (given id.desc) params passed is;
          resumes = subst (λ ks. Arrives (table_of l a) m (at + 1) (spot (table_of l a) m at + 1) (ks
              ++ rest by l w a m read decoded sound told at offset call_op (t by l w a m read decoded sound told at
              offset cells local_cells x ranged) x there row ranged) locals) gives back.resumes;
          has_room = subst (λ ks. HasRoom (ks ++ rest by l w a m read decoded sound told at offset call_op
              (t by l w a m read decoded sound told at offset cells local_cells x ranged) x there row ranged)
              m.max_stack (let n = a.narrowed m in let code = n.code in code.max_stack)) gives back.has_room;
        }

    -- an imported method is given words that are the same on both sides
    is_import : (event : MemberId) → IsAsked by l id.desc event
        → IsImport by l id event (types_of id.desc) (given id.desc)
    is_import event asked = record {
      desc = asked.desc;
      has_types = signature_is id.desc desc;
      passes = passes_from l (let d = parts id.desc in d.params) (given id.desc) passed;
      short = short_from l (let d = parts id.desc in d.params) (given id.desc) passed;
      one_word = word_result result desc.result;
      asks = asked.asks;
    }

    -- ---- on a receiver

    module _ (has_receiver : receivers op ≡ 1) where
      receiver_is : is_of w (receiver_class w (let f = a.found m in f.body) op id) (typed.operand cells count) ≡ true
      receiver_is =
          let h = typed_here by l w a m read decoded sound told at offset cells local_cells x ranged row call_op there
          in
          let no : nat_lt count count ≡ false = grind (arith, nat_tests) in
          let p = get_or (let d = parts id.desc in d.params) (count - 1 - count) result in
          ap (λ b. if b then is_value_of w p (typed.operand cells count)
          else is_of w (receiver_class w (let f = a.found m in f.body) op id) (typed.operand cells count)) (sym no)
          ∙ h.operands count (omega (arith, has_receiver))

      receiver_below : (names : List (List ℕ)) → typed.operand cells count ≡ Refs names
          → reverse (Refers (is_one_of l names) ∷ given id.desc) ≡ kinds l (take (typed.takes call_op) cells) numbers
      receiver_below names is =
          let h = enough in
          let one : count + 1 ≡ typed.takes call_op = omega (arith, has_receiver) in
          let long = taken_long in
          let here : 0 + length (take count cells) ≡ count = omega (arith, long) in
          reverse-append (Refers (is_one_of l names) ∷ []) (given id.desc)
          ∙ ap (λ ks. ks ++ Refers (is_one_of l names) ∷ []) (reverse-reverse (on_top id.desc))
          ∙ sym (ap (λ n. kinds l (take n cells) numbers) (sym one)
          ∙ ap (λ cs. kinds l cs numbers) (take_more cells count Unusable (omega (arith, h, has_receiver)))
          ∙ kinds_append l 0 (take count cells) (typed.operand cells count ∷ []) numbers
          ∙ ap (λ n. on_top id.desc ++ kind_of_cell l (typed.operand cells count) (operand numbers n) ∷ []) here
          ∙ ap (λ c. on_top id.desc ++ kind_of_cell l c (operand numbers count) ∷ []) is)

  -- ---- the rules

  a_static : (id : MemberId) (named : Callee) → IsStaticNamed l a m id named → (callee : Method)
      → by.call (class_of_code m) 0xB8 id ≡ Some (OnClass (Inside callee)) → l.reached named None
      ≡ WithinPackage (a.narrowed callee) → IsReachedBy by l w a false id.desc callee → StandsHere (jop.Call 0xB8 id)
      → KeepsHere (jop.Call 0xB8 id)
  unfolding facts parts
  a_static id named is callee by_name narrow reached there =
      let none : count_of id.desc + 0 ≡ count_of id.desc = omega arith in
      let long = given_long 0xB8 id named is.desc is.names there in
      let before : reverse (given id.desc) ≡ kinds l (take (typed.takes (jop.Call 0xB8 id)) cells) numbers =
      reverse-reverse (on_top id.desc) ∙ ap (λ n. kinds l (take n cells) numbers) (sym none) in
      static_rule by l (table_of l a) may_raise m at _ _ 0xB8 id named (given id.desc) (facts 0xB8 id named is.desc
      is.names there (given id.desc) before)
      (record {
        types = types_of id.desc;
        callee = callee;
        by_name = by_name;
        has_types = signature_is id.desc is.desc;
        passes = passes_from l (let d = parts id.desc in d.params) (given id.desc) (passed 0xB8 id named is.desc
            is.names there);
        narrow_class = is.on_class;
        narrow_words = is.words ∙ ap Some (sym long);
        narrow_reached = narrow;
        is_narrowed = callee_narrowed by l w a false id.desc callee (length (given id.desc)) reached long;
      })
      (may_be_called 0xB8 id named is.desc is.names there false callee reached (given id.desc) refl)

  an_import : (id : MemberId) (named : Callee) → IsStaticNamed l a m id named → (event : MemberId)
      → by.call (class_of_code m) 0xB8 id ≡ Some (OnClass (linked.Abroad event)) → l.reached named None ≡ Abroad event
      → IsAsked by l id.desc event → StandsHere (jop.Call 0xB8 id) → KeepsHere (jop.Call 0xB8 id)
  unfolding facts parts
  an_import id named is event by_name narrow asked there =
      let none : count_of id.desc + 0 ≡ count_of id.desc = omega arith in
      let long = given_long 0xB8 id named is.desc is.names there in
      let before : reverse (given id.desc) ≡ kinds l (take (typed.takes (jop.Call 0xB8 id)) cells) numbers =
      reverse-reverse (on_top id.desc) ∙ ap (λ n. kinds l (take n cells) numbers) (sym none) in
      import_rule by l (table_of l a) may_raise answered m at _ _ 0xB8 id event named (types_of id.desc) (given id.desc)
      (facts 0xB8 id named is.desc is.names there (given id.desc) before)
      (record {
        is = is_import 0xB8 id named is.desc is.names there event asked;
        by_name = by_name;
        narrow_class = is.on_class;
        narrow_words = is.words ∙ ap Some (sym long);
        narrow_reached = narrow;
      })
      (resumes 0xB8 id named is.desc is.names there)

  on_receiver : (op : ℕ) (id : MemberId) (named : Callee) → (is : IsObjectNamed by l a m op id named)
      → ((names : List (List ℕ)) → typed.operand cells (count_of id.desc) ≡ Refs names → (kind : Shape (List ℕ))
      → is_one_of l names kind ≡ true → IsMadeOf l kind → IsSelected by l w a id named is.selected kind)
      → StandsHere (jop.Call op id) → KeepsHere (jop.Call op id)
  unfolding facts parts
  on_receiver op id named is selects there =
      let receiver = receiver_is op id named is.desc is.names there is.has_receiver in
      let on = of_reference w (receiver_class w (let f = a.found m in f.body) op id)
      (typed.operand cells (count_of id.desc)) receiver in
      let receives = is_one_of l on.0 in
      let long = given_long op id named is.desc is.names there in
      let all_long : length (Refers receives ∷ given id.desc) ≡ suc (count_of id.desc) = ap suc long in
      object_rule by l (table_of l a) may_raise answered m at _ _ op id named receives (types_of id.desc)
      (given id.desc) (facts op id named is.desc is.names there (Refers receives ∷ given id.desc)
      (receiver_below op id named is.desc is.names there is.has_receiver on.0 on.1))
      (record {
        selected = is.selected;
        by_name = is.by_name;
        has_types = signature_is id.desc is.desc;
        passes = passes_from l (let d = parts id.desc in d.params) (given id.desc) (passed op id named is.desc is.names
            there);
        narrow_object = is.on_an_object;
        narrow_words = is.words ∙ ap Some (let e : 1 + count_of id.desc ≡ suc (count_of id.desc) = omega arith in e
            ∙ sym all_long);
      })
      (λ kind passes made. select on.0 kind all_long (selects on.0 on.1 kind passes made))
    where
      select : (names : List (List ℕ)) (kind : Shape (List ℕ)) → length (Refers (is_one_of l names) ∷ given id.desc)
          ≡ suc (count_of id.desc) → IsSelected by l w a id named is.selected kind
          → MaySelectOn by l (table_of l a) m at id named (is_one_of l names) (types_of id.desc) (given id.desc)
          (rest by l w a m read decoded sound told at offset (jop.Call op id) (t by l w a m read decoded sound told
          at offset cells local_cells x ranged) x there row ranged) locals is.selected kind
      select names kind all_long (call.inside callee by_name narrow reached receiver) =
          let class = (let f = a.found callee in let b = f.body in b.class) in
          reached_spec.inside
          (record {
            callee = callee;
            by_name = by_name;
            narrow = narrow;
            is_narrowed = callee_narrowed by l w a true
                id.desc callee (length (Refers (is_one_of l names) ∷ given id.desc)) reached all_long;
          })
          (is_one_of l (class ∷ [])) (ap (λ b. b || false) receiver)
          (may_be_called op id named is.desc is.names there true callee reached (Refers (is_one_of l (class ∷ []))
          ∷ given id.desc) refl)
      select names kind all_long (call.abroad event by_name narrow asked) =
          reached_spec.abroad (record {
            event = event;
            is = is_import op id named is.desc is.names there event asked;
            by_name = by_name;
            narrow = narrow;
          }) (resumes op id named is.desc is.names there)

  pub called_rule : (op : JOp) → IsCalled by l w a m cells op → StandsHere op → KeepsHere op
  called_rule _ (call.a_static {id = id} named is callee by_name narrow reached) there =
      a_static id named is callee by_name narrow reached there
  called_rule _ (call.an_import {id = id} named is event by_name narrow asked) there =
      an_import id named is event by_name narrow asked there
  called_rule _ (call.on_receiver {op = op} {id = id} named is selects) there = on_receiver op id named is selects there
