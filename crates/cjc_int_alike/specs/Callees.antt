-- The methods of a package, in int mode or not, that calls and entries begin.
use Rattle.std.specs.Prelude.{◌≡◌, ◌+◌, ℕ, Bool, true, false, not, List, Option, Some, None, option_map}
use Rattle.cjc_bytes.specs.AccessFlags.{is_static}
use Rattle.cjc_bytes.specs.declared.fault.MemberId.{MemberId}
use Rattle.cjc_code.specs.ClassFile.Code.{CodeTree}
use Rattle.cjc_code.specs.Jvm as jvm
use Rattle.cjc_code.specs.declared.insn.JOp.{JOp}
use Rattle.cjc_code.specs.declared.insn.JOp.TheVariants as jop
use Rattle.cjc_script.specs.Sorts.{Shape, Sort, result_by, shape_name}
use Rattle.cjc_world.specs.Classes.{Class}
use Rattle.cjc_types.specs.declared.cell.Cell.{Cell}
use Rattle.cjc_types.specs.declared.cell.Cell.TheVariants.{Refs}
use Rattle.cjc_types.specs.Steps.{operand, receivers}
use Rattle.cjc_types.specs.Types.{parts}
use Rattle.cjc_card_semantics.specs.Bytecode.Arguments.{widths}
use Rattle.cjc_card_semantics.specs.Bytecode.Machine.{Start, Within, Abroad}
use Rattle.cjc_ncode.specs.declared.narrow.NMethod.{NMethod}
use Rattle.cjc_ncode.specs.ByLabel.{Callee, Named, on_object}
use Rattle.cjc_ncode.specs.Written.{Resolution}
use Rattle.cjc_jvm_semantics.specs.Linked.{Method, Linked, Inside, OnClass, OnObject}
use Rattle.cjc_jvm_semantics.specs.Linked as linked
use Rattle.cjc_narrow_proof.specs.Selection.Callees.{Names}
use Rattle.cjc_narrow_proof.specs.Selection.Entries.{IsNoEntry}
use Rattle.cjc_narrow_proof.specs.Selection.Objects.{class_of}
use Rattle.cjc_narrow_proof.specs.Selection.Relation.{IsMadeOf}
use Rattle.cjc_narrow_proof.specs.Tables.Analysis.{Analysis, HasRoomToBegin}
use Rattle.cjc_narrow_proof.specs.Tables.Calls.{IsWhole, IsWordDesc, IsAsked, types_of, count_of}
use Rattle.cjc_narrow_proof.specs.Tables.Kinds.{is_named, is_one_of}
use Rattle.cjc_int_mode.specs.Written.{written_in_int_mode}
use Rattle.cjc_int_runs.specs.IntFrames.{IntBody}
use Rattle.cjc_int_runs.specs.Scripted.{AreAsked}
use Rattle.cjc_int_alike.specs.Calls.{GivesResult, IsIntDesc}
use Rattle.cjc_int_alike.specs.Method.{IsIntWhole, int_body}

-- how a method begins for which this code is written
abbrev pub start_with : NMethod → Start NMethod
start_with n = record { code = n; at = 0; nargs = n.nargs; max_locals = n.max_locals; is_abstract = false }

-- what is written in int mode for a method, by its tables
abbrev pub int_code : Analysis → CodeTree → Method → NMethod
int_code a tree m = let f = a.found m in written_in_int_mode (a.resolution m) tree f.body f.types f.ranges

module _ (by : Linked) (l : Named) (w : List Class) (a : Analysis) (bodies : Method → Option IntBody)
    (results : Method → Option Sort) where
  -- A method in int mode: its tables, the code that is written by them, how narrow code begins it, and what its callers
  -- are given, go together.
  pub record IsIntBegun (m : Method) : Type 0 where
    pub whole : IsIntWhole by l a.may_throw w (a.resolution m) (a.found m) m
    pub tree : CodeTree
    pub catches : tree.catches ≡ (let f = a.found m in let b = f.body in b.catches)
    pub max_stack : tree.max_stack ≡ (let f = a.found m in let b = f.body in b.max_stack)
    pub body : bodies m ≡ Some (int_body l (a.resolution m) (a.found m) (int_code a tree m))
    pub has_code : m.is_abstract ≡ false
    pub starts : a.narrowed m ≡ start_with (int_code a tree m)
    pub gives : GivesResult results (a.found m) m
    pub begins : HasRoomToBegin (let f = a.found m in f.body)

  -- A method that is not in int mode, with parameters and a result of one word each.
  pub record IsShortBegun (m : Method) : Type 0 where
    pub whole : IsWhole by l w a m
    pub no_body : bodies m ≡ None
    pub desc : IsWordDesc (let f = a.found m in let b = f.body in b.desc)
    pub given : results m ≡ (let f = a.found m in let b = f.body in let d = parts b.desc in let p = d.result
        in result_by p.kind p)

  -- a method of the package that has code
  pub data IsBegunByMode (m : Method) : Type 0 where
    begun_in_int_mode : IsIntBegun m → IsBegunByMode m
    begun_in_short_mode : IsShortBegun m → IsBegunByMode m

  -- A method with this descriptor, which has a receiver or none.
  pub record IsReachedByMode (has_receiver : Bool) (written : List ℕ) (callee : Method) : Type 0 where
    pub begun : IsBegunByMode callee
    pub desc : (let f = a.found callee in let b = f.body in b.desc) ≡ written
    pub flags : (let f = a.found callee in let b = f.body in is_static b.flags) ≡ not has_receiver

  -- ---- calls

  -- What both sides select on a receiver of a type: a method of the package that is declared by a class which it is of,
  -- or an imported one.
  pub data IsSelectedByMode (id : MemberId) (named : Callee) (selected : List ℕ → Option linked.Callee)
      (kind : Shape (List ℕ)) : Type 0 where
    selects_method : (callee : Method) → selected (shape_name kind) ≡ Some (Inside callee) → l.reached named (Some kind)
        ≡ Within (a.narrowed callee) → IsReachedByMode true id.desc callee → is_named l (let f = a.found callee
        in let b = f.body in b.class) kind ≡ true → IsSelectedByMode id named selected kind
    selects_import : (event : MemberId) → selected (shape_name kind) ≡ Some (linked.Abroad event)
        → l.reached named (Some kind) ≡ Abroad event → IsAsked by l id.desc event
        → IsSelectedByMode id named selected kind

  -- A call in code of m, on a stack of these types: of a static method of the package, of an imported one, or on a
  -- receiver each of whose types selects one.
  pub data IsCalledByMode (r : Resolution) (m : Method) (cells : List Cell) : JOp → Type 0 where
    calls_method : {id : MemberId} (named : Callee) → IsIntDesc id.desc → Names r jvm.invokestatic id named
        → on_object named ≡ false → l.words named ≡ Some (widths (let types = types_of id.desc in types.params))
        → (callee : Method) → by.call (class_of m) jvm.invokestatic id ≡ Some (OnClass (Inside callee))
        → l.reached named None ≡ Within (a.narrowed callee) → IsReachedByMode false id.desc callee
        → IsCalledByMode r m cells (jop.Call jvm.invokestatic id)
    calls_import : {id : MemberId} (named : Callee) → IsIntDesc id.desc → Names r jvm.invokestatic id named
        → on_object named ≡ false → l.words named ≡ Some (widths (let types = types_of id.desc in types.params))
        → (event : MemberId) → by.call (class_of m) jvm.invokestatic id ≡ Some (OnClass (linked.Abroad event))
        → l.reached named None ≡ Abroad event → IsAsked by l id.desc event
        → IsCalledByMode r m cells (jop.Call jvm.invokestatic id)
    calls_on_receiver : {op : ℕ} {id : MemberId} (named : Callee) → IsIntDesc id.desc → Names r op id named
        → receivers op ≡ 1 → on_object named ≡ true → l.words named
        ≡ Some (widths (let types = types_of id.desc in types.params) + 1) → (selected : List ℕ → Option linked.Callee)
        → by.call (class_of m) op id ≡ Some (OnObject selected)
        → ((names : List (List ℕ)) → operand cells (count_of id.desc) ≡ Refs names → (kind : Shape (List ℕ))
        → is_one_of l names kind ≡ true → IsMadeOf l kind → IsSelectedByMode id named selected kind)
        → IsCalledByMode r m cells (jop.Call op id)

  -- ---- scripts

  -- A member that scripts may call or send: both sides find the same methods of the package, with this descriptor,
  -- which are sent to objects of the classes that declare them.
  pub record IsEnteredByMode (id : MemberId) : Type 0 where
    pub desc : IsIntDesc id.desc
    pub given : AreAsked by l (let types = types_of id.desc in types.params)
    pub called : l.called id ≡ option_map a.narrowed (by.entry id)
    pub sent : (kind : Shape (List ℕ)) → l.sent kind id ≡ option_map a.narrowed (by.sent (shape_name kind) id)
    pub is_called : (m : Method) → by.entry id ≡ Some m → IsReachedByMode false id.desc m
    pub is_sent : (kind : Shape (List ℕ)) (m : Method) → IsMadeOf l kind → by.sent (shape_name kind) id ≡ Some m
        → IsReachedByMode true id.desc m
    pub receives : (kind : Shape (List ℕ)) (m : Method) → IsMadeOf l kind → by.sent (shape_name kind) id ≡ Some m
        → is_named l (let f = a.found m in let b = f.body in b.class) kind ≡ true

  -- A member of a script is one of these, or no method is found for it.
  pub data IsScriptedByMode (id : MemberId) : Type 0 where
    script_finds_none : IsNoEntry by l id → IsScriptedByMode id
    script_finds : IsEnteredByMode id → IsScriptedByMode id
