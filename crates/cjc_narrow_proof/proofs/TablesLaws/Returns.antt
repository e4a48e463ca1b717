-- Returns keep their rule.
use Rattle.std.proofs.Common.{◌≡◌, ◌<◌, ◌+◌, ℕ, true, List, [], ◌∷◌, ◌++◌, length, take, drop}
use Rattle.std.proofs.Common.{slice_get, Option, Some, refl, sym, ap, subst, ◌∙◌, arith}
use Rattle.cjc_bytes.specs.Descriptor.{Part}
use Rattle.cjc_bytes.specs.declared.descriptor.Kind.{Kind as PartKind}
use Rattle.cjc_bytes.proofs.Bools.{not_false}
use Rattle.cjc_bytes.specs.declared.descriptor.Kind.TheVariants as kinds
use Rattle.cjc_range.specs.Span.{Span, Within}
use Rattle.cjc_code.specs.declared.insn.JOp.TheVariants as jop
use Rattle.cjc_world.specs.Classes.{Class}
use Rattle.cjc_types.specs.declared.cell.Cell.{Cell}
use Rattle.cjc_types.specs.declared.cell.Cell.TheVariants.{Number, Refs, Unusable}
use Rattle.cjc_types.specs.declared.state.State.{State}
use Rattle.cjc_types.specs.Rules.{is_number, is_reference, is_value, is_value_of, returns}
use Rattle.cjc_types.specs.Steps as typed
use Rattle.cjc_types.specs.Types.{parts}
use Rattle.cjc_ncode.specs.ByLabel.{Named}
use Rattle.cjc_jvm_semantics.specs.Linked.{Method, Linked}
use Rattle.cjc_intervals.specs.Frames.{RangeState, spans_of}
use Rattle.cjc_intervals.specs.Steps.{operand}
use Rattle.cjc_intervals.specs.Bounds.{a_result}
use Rattle.cjc_script.specs.Sorts.{result_by}
use Rattle.cjc_narrow_proof.specs.Selection.Relation.{Kind, Range, Refers, AllWider, none_wider}
use Rattle.cjc_narrow_proof.specs.Selection.Jumps.{ReturnAgrees}
use Rattle.cjc_narrow_proof.specs.Selection.Replies.{result_kinds}
use Rattle.cjc_narrow_proof.specs.Selection.Runs.{Rule}
use Rattle.cjc_narrow_proof.proofs.SelectionLaws.Branches.{ireturn, areturn, returns as void_return}
use Rattle.cjc_narrow_proof.proofs.SelectionLaws.KeptRows.{return_rule}
use Rattle.cjc_narrow_proof.specs.Tables.Kinds.{is_one_of, kind_of_cell, kinds, kinds_from, point_of}
use Rattle.cjc_narrow_proof.specs.Tables.Analysis.{Analysis, IsAlone, IsDecoded, IsSound, IsRead, CatchesAreTold}
use Rattle.cjc_narrow_proof.specs.Tables.Analysis.{TypesAreTold}
use Rattle.cjc_narrow_proof.specs.Tables.Analysis.{IsGiven}
use Rattle.cjc_narrow_proof.proofs.TablesLaws.Values.{result_wider}
use Rattle.cjc_narrow_proof.proofs.TablesLaws.Methods.{tb}
use Rattle.cjc_narrow_proof.proofs.TablesLaws.Rows.{first_there, before, rest, stack_before}
use Rattle.cjc_narrow_proof.proofs.TablesLaws.Plain.{t, numbers, Stands, IsRow, typed_here, word, within}
use Rattle.cjc_narrow_proof.proofs.TablesLaws.Plain.{number_is, reference_is, one_number, one_reference}

-- the results of a return are of its kind
number_result : (w : List Class) (k : PartKind) (class : List ℕ) (c : Cell) → returns 0xAC k ≡ true
    → is_value w k class c ≡ true → is_number c ≡ true
number_result w kinds.Bool class c e h = h
number_result w kinds.Byte class c e h = h
number_result w kinds.Short class c e h = h
number_result w kinds.Int class c e h = h
number_result w kinds.Other class c e h = cc
number_result w kinds.Ref class c e h = cc
number_result w kinds.Void class c e h = cc

reference_result : (w : List Class) (k : PartKind) (class : List ℕ) (c : Cell) → returns 0xB0 k ≡ true
    → is_value w k class c ≡ true → is_reference c ≡ true
reference_result w kinds.Bool class c e h = cc
reference_result w kinds.Byte class c e h = cc
reference_result w kinds.Short class c e h = cc
reference_result w kinds.Int class c e h = cc
reference_result w kinds.Other class c e h = cc
reference_result w kinds.Ref class Number e h = cc
reference_result w kinds.Ref class (Refs names) e h = refl
reference_result w kinds.Ref class Unusable e h = cc
reference_result w kinds.Void class c e h = cc

no_result : (l : Named) (p : Part) (k : PartKind) → returns 0xB1 k ≡ true → result_kinds l (result_by k p) ≡ []
no_result l p kinds.Bool e = cc
no_result l p kinds.Byte e = cc
no_result l p kinds.Short e = cc
no_result l p kinds.Int e = cc
no_result l p kinds.Other e = cc
no_result l p kinds.Ref e = cc
no_result l p kinds.Void e = refl

module _ (by : Linked) (l : Named) (w : List Class) (a : Analysis) (m : Method) (read : IsRead a m)
    (decoded : IsDecoded (let f = a.found m in f.body)) (sound : IsSound w (let r = a.resolution m
    in r.constant) (a.found m)) (told : CatchesAreTold by l a m) (types : TypesAreTold w l) (given : IsGiven l a m)
    (at offset : ℕ) (cells local_cells : List Cell) (x : RangeState) (ranged : IsAlone a m at x)
    (row : IsRow by l w a m read decoded sound told at offset cells local_cells x ranged) where
  abbrev result : Part
  result = let f = a.found m in let b = f.body in (parts b.desc).result

  abbrev KeepsHere : (opcode : ℕ) → Type 0
  KeepsHere opcode = Rule by l (tb by l w a m read decoded sound) m at (point_of l (t by l w a m read decoded sound told
      at offset cells local_cells x ranged) x) (record { at = offset; op = jop.Return opcode })

  abbrev StandsHere : (opcode : ℕ) → Type 0
  StandsHere opcode = Stands by l w a m read decoded sound told at offset cells local_cells x ranged (jop.Return opcode)

  is_kind : (opcode : ℕ) → StandsHere opcode → returns opcode result.kind ≡ true
  is_kind opcode there = let h = typed_here by l w a m read decoded sound told at offset cells local_cells x ranged row
      (jop.Return opcode) there in not_false (returns opcode result.kind) h.result

  is_given : (opcode : ℕ) → StandsHere opcode → 0 < typed.takes (jop.Return opcode)
      → AllWider (kind_of_cell l (typed.operand cells 0) (operand (spans_of x.stack) 0) ∷ []) (a.results m)
  is_given opcode there some =
      let h = typed_here by l w a m read decoded sound told at offset cells local_cells x ranged row (jop.Return opcode)
      there in
      subst (λ ks. AllWider (kind_of_cell l (typed.operand cells 0) (operand (spans_of x.stack) 0) ∷ []) ks) (sym given)
      (result_wider w l types result (typed.operand cells 0) (operand (spans_of x.stack) 0) (h.operands 0 some)
      (word by l w a m read decoded sound told at offset cells local_cells x ranged row (jop.Return opcode) there 0)
      (λ rule s bound. within by l w a m read decoded sound told at offset cells local_cells x ranged row
      (jop.Return opcode) there rule 0 s (a_result bound)))

  pub number_return : StandsHere 0xAC → KeepsHere 0xAC
  number_return there =
      let h = typed_here by l w a m read decoded sound told at offset cells local_cells x ranged row (jop.Return 0xAC)
      there in
      let is = number_is (typed.operand cells 0) (number_result w result.kind result.class (typed.operand cells 0)
      (is_kind 0xAC there) (h.operands 0 (omega arith))) in
      let top = one_number by l w a m read decoded sound told at offset cells local_cells x ranged row (jop.Return 0xAC)
      there refl is in
      return_rule by l (tb by l w a m read decoded sound) m at (point_of l (t by l w a m read decoded sound told at
      offset cells local_cells x ranged) x) _ (Range (operand (spans_of x.stack) 0) ∷ []) _ _ refl
      (first_there by l w a m read decoded sound told at offset (jop.Return 0xAC) (t by l w a m read decoded sound told
      at offset cells local_cells x ranged) x there row ranged _ [] refl)
      (ireturn by l (a.resolution m) m (operand (spans_of x.stack) 0))
      (stack_before by l w a m read decoded sound told at offset (jop.Return 0xAC) (t by l w a m read decoded sound told
      at offset cells local_cells x ranged) x there row ranged
      ∙ ap (λ ks. ks ++ rest by l w a m read decoded sound told at offset (jop.Return 0xAC)
      (t by l w a m read decoded sound told at offset cells local_cells x ranged) x there row ranged) (sym top))
      (subst (λ c. AllWider (kind_of_cell l c (operand (spans_of x.stack) 0) ∷ []) (a.results m)) is
      (is_given 0xAC there (omega arith)))

  pub reference_return : StandsHere 0xB0 → KeepsHere 0xB0
  reference_return there =
      let h = typed_here by l w a m read decoded sound told at offset cells local_cells x ranged row (jop.Return 0xB0)
      there in
      let is = reference_is (typed.operand cells 0) (reference_result w result.kind result.class (typed.operand cells 0)
      (is_kind 0xB0 there) (h.operands 0 (omega arith))) in
      let top = one_reference by l w a m read decoded sound told at offset cells local_cells x ranged row
      (jop.Return 0xB0) there refl is.0 is.1 in
      return_rule by l (tb by l w a m read decoded sound) m at (point_of l (t by l w a m read decoded sound told at
      offset cells local_cells x ranged) x) _ (Refers (is_one_of l is.0) ∷ []) _ _ refl
      (first_there by l w a m read decoded sound told at offset (jop.Return 0xB0) (t by l w a m read decoded sound told
      at offset cells local_cells x ranged) x there row ranged _ [] refl)
      (areturn by l (a.resolution m) m (is_one_of l is.0))
      (stack_before by l w a m read decoded sound told at offset (jop.Return 0xB0) (t by l w a m read decoded sound told
      at offset cells local_cells x ranged) x there row ranged
      ∙ ap (λ ks. ks ++ rest by l w a m read decoded sound told at offset (jop.Return 0xB0)
      (t by l w a m read decoded sound told at offset cells local_cells x ranged) x there row ranged) (sym top))
      (subst (λ c. AllWider (kind_of_cell l c (operand (spans_of x.stack) 0) ∷ []) (a.results m)) is.1
      (is_given 0xB0 there (omega arith)))

  pub plain_return : StandsHere 0xB1 → KeepsHere 0xB1
  plain_return there =
      return_rule by l (tb by l w a m read decoded sound) m at (point_of l (t by l w a m read decoded sound told at
      offset cells local_cells x ranged) x) _ [] _ _ refl
      (first_there by l w a m read decoded sound told at offset (jop.Return 0xB1) (t by l w a m read decoded sound told
      at offset cells local_cells x ranged) x there row ranged _ [] refl)
      (void_return by l (a.resolution m) m) refl
      (subst (λ ks. AllWider [] ks) (sym (given ∙ no_result l result result.kind (is_kind 0xB1 there))) none_wider)
