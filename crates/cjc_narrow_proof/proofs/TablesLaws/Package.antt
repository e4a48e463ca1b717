-- A package keeps the rules of whole runs: its instructions, and the entries of scripts.
use Rattle.std.proofs.Common.{◌≡◌, ◌+◌, ℕ, suc, Bool, ◌||◌, true, false, List, [], ◌∷◌, map, length, slice_get, Option}
use Rattle.std.proofs.Common.{Some, None, refl, sym, ap, subst, ◌∙◌, arith}
use Rattle.std.specs.List.{AllZip, AllByRecursion}
use Rattle.cjc_bytes.specs.Descriptor.{Part}
use Rattle.cjc_bytes.specs.declared.fault.MemberId.{MemberId}
use Rattle.cjc_bytes.specs.declared.descriptor.Kind.{Kind as PartKind}
use Rattle.cjc_bytes.proofs.Gets.{get_below, get_inside}
use Rattle.cjc_bytes.specs.declared.descriptor.Kind.TheVariants as part_kinds
use Rattle.cjc_range.specs.Span.{Span, Within, byte_range, short_range}
use Rattle.cjc_intervals.specs.Values.{boolean_range}
use Rattle.cjc_range.proofs.Order.{within_refl}
use Rattle.cjc_code.specs.declared.insn.JInsn.{JInsn}
use Rattle.cjc_script.specs.declared.script.Entry.{Entry}
use Rattle.cjc_script.specs.Sorts.{Shape, Sort, Boolean, Byte, Short, Reference, shape_named, sort_by, sort_of}
use Rattle.cjc_script.specs.Sorts.{reference_to, result_by}
use Rattle.cjc_world.specs.Classes.{Class}
use Rattle.cjc_types.specs.Types.{parts}
use Rattle.cjc_card_semantics.specs.Bytecode.Machine as narrow
use Rattle.cjc_ncode.specs.ByLabel.{Named, by_label}
use Rattle.cjc_jvm_semantics.specs.Linked.{Method, Linked}
use Rattle.cjc_jvm_semantics.specs.Machine.{State, begins}
use Rattle.cjc_narrow_proof.specs.Selection.Relation.{Kind, Range, Wider}
use Rattle.cjc_narrow_proof.specs.Selection.Rows.{kind_of, is_word_sort}
use Rattle.cjc_narrow_proof.specs.Selection.Calls.{NState, is_number_sort}
use Rattle.cjc_narrow_proof.specs.Selection.Results.{AreShort}
use Rattle.cjc_narrow_proof.specs.Selection.Results as short
use Rattle.cjc_narrow_proof.specs.Selection.Replies.{StatesAgree, result_kinds}
use Rattle.cjc_narrow_proof.specs.Selection.Entries.{kinds_of, entry_kinds, IsEntry, MayEnter}
use Rattle.cjc_narrow_proof.specs.Selection.Entries as entries_spec
use Rattle.cjc_narrow_proof.specs.Selection.Reached.{MayBegin}
use Rattle.cjc_narrow_proof.specs.Selection.Tables.{Point}
use Rattle.cjc_narrow_proof.specs.Selection.Runs.{Begins, IsFine}
use Rattle.cjc_narrow_proof.proofs.SelectionLaws.Reached.{entry_rule, no_entry_rule}
use Rattle.cjc_narrow_proof.specs.Tables.Kinds.{is_one_of, point_at}
use Rattle.cjc_narrow_proof.specs.Tables.Analysis.{Analysis, table_of}
use Rattle.cjc_narrow_proof.specs.Tables.Calls.{is_word_result, types_of, IsReachedBy}
use Rattle.cjc_narrow_proof.specs.Tables.Package.{IsEntered, IsScripted, IsPackage}
use Rattle.cjc_narrow_proof.specs.Tables.Package as supported_by
use Rattle.cjc_narrow_proof.proofs.TablesLaws.Passed.{IsPassed, number, reference, boolean_short, byte_short}
use Rattle.cjc_narrow_proof.proofs.TablesLaws.Rows.{wider_itself}
use Rattle.cjc_narrow_proof.proofs.TablesLaws.Called.{signature_is, each_sort, callee_begins, callee_narrowed}
use Rattle.cjc_narrow_proof.proofs.TablesLaws.Points.{point_from, point_under, rule_at}

-- ---- what a script gives

module _ (l : Named) where
  -- a value that fits is passed as its type says
  kind_passed : (p : Part) → is_word_sort (sort_of p) ≡ true → IsPassed l p (kind_of l (sort_of p))
  kind_passed p word = go p.kind refl word
    where
      of_reference : (o : Option (Shape (List ℕ))) → sort_of p ≡ reference_to o → is_word_sort (reference_to o) ≡ true
          → IsPassed l p (kind_of l (sort_of p))
      of_reference None is word = cc
      of_reference (Some shape) is word = subst (λ sort. IsPassed l p (kind_of l sort)) (sym is)
          (reference shape is (subst (λ sort. Wider (kind_of l (Reference shape)) (kind_of l sort)) (sym is)
          (wider_itself (kind_of l (Reference shape)))))

      of_number : (sort : Sort) (s : Span) → sort_of p ≡ sort → is_number_sort sort ≡ true → kind_of l sort ≡ Range s
          → Within s short_range → IsPassed l p (kind_of l (sort_of p))
      of_number sort s is numeric kind small =
          let here : kind_of l (sort_of p) ≡ Range s = ap (kind_of l) is ∙ kind in
          subst (IsPassed l p) (sym here) (number (ap is_number_sort is ∙ numeric) small (subst (Wider (Range s))
          (sym here) (wider_itself (Range s))))

      go : (k : PartKind) → p.kind ≡ k → is_word_sort (sort_by k p.class) ≡ true → IsPassed l p (kind_of l (sort_of p))
      go part_kinds.Bool is word = of_number Boolean boolean_range (ap (λ k. sort_by k p.class) is) refl refl
          boolean_short
      go part_kinds.Byte is word = of_number Byte byte_range (ap (λ k. sort_by k p.class) is) refl refl byte_short
      go part_kinds.Short is word = of_number Short short_range (ap (λ k. sort_by k p.class) is) refl refl
          (within_refl short_range)
      go part_kinds.Int is word = cc
      go part_kinds.Other is word = cc
      go part_kinds.Ref is word = of_reference (shape_named p.class) (ap (λ k. sort_by k p.class) is) word
      go part_kinds.Void is word = cc

  all_kinds_passed : (ps : List Part) → AllByRecursion (λ p. is_word_sort (sort_of p) ≡ true) ps
      → AllZip (IsPassed l) ps (kinds_of l (map sort_of ps))
  all_kinds_passed [] h = tt
  all_kinds_passed (p ∷ ps) h = (kind_passed p h.0, all_kinds_passed ps h.1)

  -- a result of one word is the same on both sides
  short_result : (p : Part) → is_word_result p.kind (sort_of p) ≡ true → AreShort (result_kinds l (result_by p.kind p))
  short_result p word = go p.kind refl word
    where
      of_passed : {k : Kind} → IsPassed l p k → AreShort (k ∷ [])
      of_passed (number sort small wider) = short.a_number small short.no_cell
      of_passed (reference kind is wider) = short.a_reference short.no_cell

      some : is_word_sort (sort_of p) ≡ true → AreShort (kind_of l (sort_of p) ∷ [])
      some word = of_passed (kind_passed p word)

      go : (k : PartKind) → p.kind ≡ k → is_word_result k (sort_of p) ≡ true → AreShort (result_kinds l (result_by k p))
      go part_kinds.Bool is word = some word
      go part_kinds.Byte is word = some word
      go part_kinds.Short is word = some word
      go part_kinds.Int is word = some word
      go part_kinds.Other is word = some word
      go part_kinds.Ref is word = some word
      go part_kinds.Void is word = short.no_cell

-- ---- entries

module _ (by : Linked) (l : Named) (w : List Class) (a : Analysis) (id : MemberId) (is : IsEntered by l w a id) where
  -- what the receivers of a method pass
  abbrev receivers_of : Method → Shape (List ℕ) → Bool
  receivers_of m = is_one_of l ((let f = a.found m in let b = f.body in b.class) ∷ [])

  entry_is : IsEntry by l a.narrowed id (types_of id.desc) receivers_of
  entry_is = record {
    has_types = signature_is id.desc is.desc;
    given = is.given;
    called = is.called;
    sent = is.sent;
    receives = λ kind m made found. ap (λ b. b || false) (is.receives kind m made found);
    called_narrowed = λ m found. callee_narrowed by l w a false id.desc m (length (map sort_of (let d = parts id.desc
        in d.params))) (is.is_called m found) (each_sort (let d = parts id.desc in d.params));
    sent_narrowed = λ kind m made found. callee_narrowed by l w a true id.desc m
        (1 + length (map sort_of (let d = parts id.desc in d.params))) (is.is_sent kind m made found)
        (let e : 1 + length (map sort_of (let d = parts id.desc in d.params))
        ≡ suc (length (map sort_of (let d = parts id.desc in d.params))) = omega arith in e
        ∙ ap suc (each_sort (let d = parts id.desc in d.params)));
  }

  short_results : (on : Bool) (m : Method) → IsReachedBy by l w a on id.desc m → AreShort (a.results m)
  short_results on m reached =
      let whole = reached.whole in
      subst AreShort (sym (whole.given
      ∙ ap (λ n. (let d = parts n in result_kinds l (result_by d.result.kind d.result))) reached.desc))
      (short_result l (let d = parts id.desc in d.result) (let word = is.desc in word.result))

  may_begin : (on : Bool) (m : Method) → MayEnter by l id on m
      → MayBegin (table_of l a) (entry_kinds on l receivers_of (types_of id.desc) m) m
  may_begin _ m (entries_spec.is_called found) =
      let reached = is.is_called m found in
      let word = is.desc in
      record {
        enters = callee_begins by l w a false id.desc m is.desc reached
            (kinds_of l (map sort_of (let d = parts id.desc in d.params))) _ (all_kinds_passed l (let d = parts id.desc
            in d.params) word.params) refl;
        short = short_results false m reached;
      }
  may_begin _ m (entries_spec.is_sent kind made found) =
      let reached = is.is_sent kind m made found in
      let word = is.desc in
      record {
        enters = callee_begins by l w a true id.desc m is.desc reached
            (kinds_of l (map sort_of (let d = parts id.desc in d.params))) _ (all_kinds_passed l (let d = parts id.desc
            in d.params) word.params) refl;
        short = short_results true m reached;
      }

-- ---- all of it

pub package_is_fine : (by : Linked) (l : Named) (w : List Class) (a : Analysis) → IsPackage by l w a
    → IsFine by l (table_of l a)
package_is_fine by l w a is = record {
  rules = λ m at p known i there. (let whole = is.methods m at p known in rule_at by l w a m whole.read
      whole.decoded whole.sound whole.told is.types is.arrays whole.given is.throwables is.exceptions is.answered
      (is.supported m whole) at i p (subst (λ insns. slice_get insns at ≡ Some i) whole.read.insns there) known);
  is_there = λ m at p known. there m at p known;
  entries = λ e entries s t same. begun e entries s t same (is.scripted e.method);
  exceptions = is.exceptions;
  starts = is.starts;
}
  where
    there : (m : Method) (at : ℕ) (p : Point) → (let tb = table_of l a in tb.point m at ≡ Some p) → (i : JInsn)
        × (slice_get m.insns at ≡ Some i)
    there m at p known =
        let whole = is.methods m at p known in
        let q = point_under (let f = a.found m in point_at l f.types f.ranges at) (a.opened m at) p known in
        let h = point_from l (slice_get (let f = a.found m in f.types) at) (slice_get (let f = a.found m
        in f.ranges) at) q.0 q.1 in
        let lt = get_below (let f = a.found m in f.types) at (Some h.typed) h.has_types in
        let sized = whole.sound.types.sized in
        let i = get_inside (let f = a.found m in let b = f.body in b.insns) at (omega (arith, lt, sized)) in
        (i.0, subst (λ insns. slice_get insns at ≡ Some i.0) (sym whole.read.insns) i.1)

    begun : (e : Entry) (entries : List Entry) (s : State) (t : NState) → StatesAgree l s t
        → IsScripted by l w a e.method → Begins by l (table_of l a) t.notes (begins by [] (e ∷ entries) s)
        (narrow.begins (by_label l) [] (e ∷ entries) t)
    begun e entries s t same (supported_by.no_method none) = no_entry_rule by l (table_of l a) e entries
        is.answered.acts none s t same
    begun e entries s t same (supported_by.methods entered) =
        entry_rule by l (table_of l a) (types_of (let id = e.method in id.desc)) (receivers_of by l w a e.method
        entered) e entries is.answered.acts (entry_is by l w a e.method entered) (may_begin by l w a e.method
        entered e.virtual_call) s t same
