-- What the look-ups of both sides say of a call: whom it names, what it takes and gives, and whom it may reach.
use Rattle.std.specs.Prelude.{◌≡◌, ℕ, ◌+◌, Bool, true, false, not, List, length, map, Option, Some, None}
use Rattle.std.specs.List.{AllByRecursion}
use Rattle.cjc_bytes.specs.AccessFlags.{is_static}
use Rattle.cjc_bytes.specs.declared.fault.MemberId.{MemberId}
use Rattle.cjc_bytes.specs.declared.descriptor.Kind.{Kind as PartKind}
use Rattle.cjc_bytes.specs.declared.descriptor.Kind.TheVariants as part_kinds
use Rattle.cjc_code.specs.declared.insn.JOp.{JOp}
use Rattle.cjc_code.specs.declared.insn.JOp.TheVariants as jop
use Rattle.cjc_code.specs.Jvm as jvm
use Rattle.cjc_script.specs.Sorts.{Shape, Sort, Reference, Signature, shape_name, sort_of, result_by}
use Rattle.cjc_world.specs.Classes.{Class}
use Rattle.cjc_types.specs.declared.cell.Cell.{Cell}
use Rattle.cjc_types.specs.declared.cell.Cell.TheVariants.{Refs}
use Rattle.cjc_types.specs.Types.{parts}
use Rattle.cjc_types.specs.Flow.{arguments}
use Rattle.cjc_types.specs.Steps.{operand, receivers}
use Rattle.cjc_card_semantics.specs.Bytecode.Machine.{Within, Abroad}
use Rattle.cjc_ncode.specs.ByLabel.{Callee, Named, on_object}
use Rattle.cjc_jvm_semantics.specs.Linked.{Method, Linked, OnClass, OnObject, Inside}
use Rattle.cjc_jvm_semantics.specs.Linked as linked
use Rattle.cjc_narrow_proof.specs.Selection.Relation.{IsMadeOf}
use Rattle.cjc_narrow_proof.specs.Selection.Rows.{is_word_sort}
use Rattle.cjc_narrow_proof.specs.Selection.Calls.{IsNarrowed}
use Rattle.cjc_narrow_proof.specs.Selection.Callees.{Names}
use Rattle.cjc_narrow_proof.specs.Selection.Replies.{AsksAlike}
use Rattle.cjc_narrow_proof.specs.Selection.Tables.{class_of_code}
use Rattle.cjc_narrow_proof.specs.Tables.Kinds.{is_named, is_one_of}
use Rattle.cjc_narrow_proof.specs.Tables.Analysis.{Analysis, IsDecoded, IsSound, IsRead, CatchesAreTold, IsGiven}
use Rattle.cjc_narrow_proof.specs.Tables.Analysis.{HasRoomToBegin}
use Rattle.cjc_narrow_proof.specs.Tables.Names.{IsDesc}

-- ---- descriptors

-- a result of one word, or none
abbrev pub is_word_result : PartKind → Sort → Bool
is_word_result part_kinds.Void type = true
is_word_result kind type = is_word_sort type

-- The descriptor of a method whose parameters are one word each, and its result, where it has one.
pub record IsWordDesc (desc : List ℕ) : Type 0 where
  pub is_desc : IsDesc desc
  pub is_method : (let d = parts desc in d.is_method) ≡ true
  pub params : AllByRecursion (λ p. is_word_sort (sort_of p) ≡ true) (let d = parts desc in d.params)
  pub result : (let d = parts desc in let r = d.result in is_word_result r.kind (sort_of r)) ≡ true

-- its types
abbrev pub types_of : List ℕ → Signature
types_of desc = let d = parts desc in record {
  params = map sort_of d.params;
  result = (let r = d.result
      in result_by r.kind r);
}

-- how many parameters it has
abbrev pub count_of : List ℕ → ℕ
count_of desc = let d = parts desc in length d.params

-- ---- methods

-- A method of the package that has code: its tables, what is written for it, and what its callers are given, go
-- together.
pub record IsWhole (by : Linked) (l : Named) (w : List Class) (a : Analysis) (m : Method) : Type 0 where
  pub read : IsRead a m
  pub decoded : IsDecoded (let f = a.found m in f.body)
  pub sound : IsSound w (let r = a.resolution m in r.constant) (a.found m)
  pub told : CatchesAreTold by l a m
  pub given : IsGiven l a m
  pub begins : HasRoomToBegin (let f = a.found m in f.body)
  pub is_narrowed : IsNarrowed a.narrowed (let f = a.found m in length (arguments f.body)) m

-- A method with this descriptor, which has a receiver or none.
pub record IsReachedBy (by : Linked) (l : Named) (w : List Class) (a : Analysis) (has_receiver : Bool)
    (written : List ℕ) (callee : Method) : Type 0 where
  pub whole : IsWhole by l w a callee
  pub desc : (let f = a.found callee in let b = f.body in b.desc) ≡ written
  pub flags : (let f = a.found callee in let b = f.body in is_static b.flags) ≡ not has_receiver

-- An imported method, as its event names it: what is of the type of its result is told alike.
pub record IsAsked (by : Linked) (l : Named) (written : List ℕ) (event : MemberId) : Type 0 where
  pub desc : event.desc ≡ written
  pub asks : (kind : Shape (List ℕ)) → (let types = types_of written in types.result) ≡ Some (Reference kind)
      → AsksAlike by l kind

-- ---- calls

-- Code of m names a static method by a member, and what narrow code names for it takes as many words.
pub record IsStaticNamed (l : Named) (a : Analysis) (m : Method) (id : MemberId) (named : Callee) : Type 0 where
  pub desc : IsWordDesc id.desc
  pub names : Names (a.resolution m) jvm.invokestatic id named
  pub on_class : on_object named ≡ false
  pub words : l.words named ≡ Some (count_of id.desc)

-- Code of m names a method by an opcode that calls on a receiver.
pub record IsObjectNamed (by : Linked) (l : Named) (a : Analysis) (m : Method) (op : ℕ) (id : MemberId)
    (named : Callee) : Type 0 where
  pub desc : IsWordDesc id.desc
  pub names : Names (a.resolution m) op id named
  pub has_receiver : receivers op ≡ 1
  pub on_an_object : on_object named ≡ true
  pub words : l.words named ≡ Some (1 + count_of id.desc)
  pub selected : List ℕ → Option linked.Callee
  pub by_name : by.call (class_of_code m) op id ≡ Some (OnObject selected)

-- What both sides select on a receiver of a type: a method of the package that is declared by a class which it is of,
-- or an imported one.
pub data IsSelected (by : Linked) (l : Named) (w : List Class) (a : Analysis) (id : MemberId) (named : Callee)
    (selected : List ℕ → Option linked.Callee) (kind : Shape (List ℕ)) : Type 0 where
  inside : (callee : Method) → selected (shape_name kind) ≡ Some (Inside callee) → l.reached named (Some kind)
      ≡ Within (a.narrowed callee) → IsReachedBy by l w a true id.desc callee → is_named l (let f = a.found callee
      in let b = f.body in b.class) kind ≡ true
      → IsSelected by l w a id named selected kind
  abroad : (event : MemberId) → selected (shape_name kind) ≡ Some (linked.Abroad event) → l.reached named (Some kind)
      ≡ Abroad event → IsAsked by l id.desc event → IsSelected by l w a id named selected kind

-- A call in code of m, on a stack of these types: of a static method of the package, of an imported one, or on a
-- receiver each of whose types
-- selects one.
pub data IsCalled (by : Linked) (l : Named) (w : List Class) (a : Analysis) (m : Method) (cells : List Cell) : JOp
    → Type 0 where
  a_static : {id : MemberId} (named : Callee) → IsStaticNamed l a m id named → (callee : Method)
      → by.call (class_of_code m) jvm.invokestatic id ≡ Some (OnClass (Inside callee)) → l.reached named None
      ≡ Within (a.narrowed callee) → IsReachedBy by l w a false id.desc callee
      → IsCalled by l w a m cells (jop.Call jvm.invokestatic id)
  an_import : {id : MemberId} (named : Callee) → IsStaticNamed l a m id named → (event : MemberId)
      → by.call (class_of_code m) jvm.invokestatic id ≡ Some (OnClass (linked.Abroad event)) → l.reached named None
      ≡ Abroad event → IsAsked by l id.desc event
      → IsCalled by l w a m cells (jop.Call jvm.invokestatic id)
  on_receiver : {op : ℕ} {id : MemberId} (named : Callee) → (call : IsObjectNamed by l a m op id named)
      → ((names : List (List ℕ)) → operand cells (count_of id.desc) ≡ Refs names → (kind : Shape (List ℕ))
      → is_one_of l names kind ≡ true → IsMadeOf l kind → IsSelected by l w a id named call.selected kind)
      → IsCalled by l w a m cells (jop.Call op id)
