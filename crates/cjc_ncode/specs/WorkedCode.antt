-- Methods made by hand, with their look-ups: p/B extends p/A, p/T has static methods.
use Rattle.std.specs.Prelude.{ℕ, List, [], ◌∷◌, Option, Some, None, Bool, true, false, replicate, ◌==◌, ◌&&◌, ◌||◌}
use Rattle.std.specs.Prelude.{if◌then◌else◌, pos, codes}
use Rattle.std.specs.Str.{bytes_eq}
use Rattle.cjc_code.specs.Bytes.declared.fault.MemberId.{MemberId}
use Rattle.cjc_code.specs.ClassFile.Code.{CodeTree}
use Rattle.cjc_code.specs.ClassFile.declared.tree.Catch.{Catch}
use Rattle.cjc_code.specs.declared.insn.JInsn.{JInsn}
use Rattle.cjc_code.specs.declared.insn.JOp.{JOp}
use Rattle.cjc_code.specs.declared.insn.JOp.TheVariants as jop
use Rattle.cjc_card_semantics.specs.Script.declared.value.Value.{Value}
use Rattle.cjc_card_semantics.specs.Script.declared.script.Entry.{Entry}
use Rattle.cjc_card_semantics.specs.Script.declared.script.Script.{Script}
use Rattle.cjc_card_semantics.specs.Script.declared.report.Note.{Note}
use Rattle.cjc_card_semantics.specs.Script.declared.report.Outcome.{Outcome}
use Rattle.cjc_card_semantics.specs.Script.declared.report.Report.{Report}
use Rattle.cjc_card_semantics.specs.Script.declared.report.Thing.{Thing}
use Rattle.cjc_card_semantics.specs.Script.Sorts.{Shape, OfClass}
use Rattle.cjc_card_semantics.specs.Bytecode.Calculations.{Fault, Arithmetic}
use Rattle.cjc_card_semantics.specs.Bytecode.Machine.{Start, Reached, Nowhere, Within}
use Rattle.cjc_ncode.specs.declared.narrow.NInsn.{NInsn}
use Rattle.cjc_ncode.specs.declared.narrow.NInsn.TheVariants as insns
use Rattle.cjc_ncode.specs.declared.narrow.NMethod.{NMethod}
use Rattle.cjc_ncode.specs.declared.narrow.PairRole.TheVariants.{Alone, Opens, Closes}
use Rattle.cjc_ncode.specs.declared.narrow.PoolKey.TheVariants as keys
use Rattle.cjc_ncode.specs.Written.{Resolution}
use Rattle.cjc_ncode.specs.ByLabel.{Callee, Fixed, OnObject, Named}

-- a member
abbrev pub id : (class name desc : List ℕ) → MemberId
id class name desc = record { class = class; name = name; desc = desc }

-- a method without handlers and further locals
abbrev pub method : (max_stack nargs : ℕ) → List NInsn → NMethod
method max_stack nargs insns = record {
  insns = insns;
  from = [];
  catches = [];
  max_stack = max_stack;
  nargs = nargs;
  max_locals = 0;
  widest = 0;
}

-- the field of p/B
abbrev pub field : MemberId
field = id (codes "p/B") (codes "s") (codes "S")

-- sload_0 invokestatic g sreturn
abbrev pub f : NMethod
f = method 1 1 (insns.Op 0x1C ∷ insns.Named 0x8D (keys.StaticMethod (id (codes "p/T") (codes "g") (codes "(S)S")))
    ∷ insns.Op 0x78 ∷ [])

-- sload_0 sconst_1 sadd sreturn
abbrev pub g : NMethod
g = method 2 1 (insns.Op 0x1C ∷ insns.Op 0x04 ∷ insns.Op 0x41 ∷ insns.Op 0x78 ∷ [])

-- new B invokevirtual A.v sreturn
abbrev pub h : NMethod
h = method 1 0 (insns.Named 0x8F (keys.Class (codes "p/B"))
    ∷ insns.Named 0x8B (keys.Virtual (id (codes "p/A") (codes "v") (codes "()S"))) ∷ insns.Op 0x78 ∷ [])

-- sload_0 sload_0 sdiv sreturn; pop sconst_3 sreturn under a handler for ArithmeticException
abbrev pub e : NMethod
e = record (method 2 1 (insns.Op 0x1C ∷ insns.Op 0x1C ∷ insns.Op 0x47 ∷ insns.Op 0x78 ∷ insns.Op 0x3B ∷ insns.Op 0x06
    ∷ insns.Op 0x78 ∷ [])) {
      catches = record { start = 0; end = 4; target = 4; class = Some (codes "java/lang/ArithmeticException"); at = 0 }
          ∷ [];
    }

-- new B dup bspush 5 putfield_s getfield_s sreturn
abbrev pub w : NMethod
w = method 3 0 (insns.Named 0x8F (keys.Class (codes "p/B")) ∷ insns.Op 0x3D ∷ insns.Push 0x10 (pos 5)
    ∷ insns.Named 0x89 (keys.Field field) ∷ insns.Named 0x85 (keys.Field field) ∷ insns.Op 0x78 ∷ [])

-- nop alone
abbrev pub x : NMethod
x = method 0 0 (insns.Op 0x00 ∷ [])

-- B.v gives 2
abbrev pub v : NMethod
v = method 1 1 (insns.Op 0x05 ∷ insns.Op 0x78 ∷ [])

-- all of these methods
abbrev pub methods : List NMethod
methods = f ∷ g ∷ h ∷ e ∷ w ∷ x ∷ v ∷ []

-- how a method begins
abbrev pub start : NMethod → Start NMethod
start m = record { code = m; at = 0; nargs = m.nargs; max_locals = m.max_locals; is_abstract = false }

-- the static method of a name
abbrev pub method_named : List ℕ → Option NMethod
method_named name =
    if bytes_eq name (codes "f") then Some f else if bytes_eq name (codes "g") then Some g
    else if bytes_eq name (codes "h") then Some h else if bytes_eq name (codes "e") then Some e
    else if bytes_eq name (codes "w") then Some w else if bytes_eq name (codes "x") then Some x else None

-- the same as it begins
abbrev pub started : Option NMethod → Option (Start NMethod)
started None = None
started (Some m) = Some (start m)

-- a call of it
abbrev pub within : Option NMethod → Reached NMethod
within None = Nowhere
within (Some m) = Within (start m)

-- p/B stands below p/A
abbrev pub is_below : Shape (List ℕ) → Shape (List ℕ) → Bool
is_below (OfClass a) (OfClass b) = bytes_eq a b || (bytes_eq a (codes "p/B") && bytes_eq b (codes "p/A"))
is_below a b = false

-- a virtual call reaches B.v
abbrev pub reached : Callee → Option (Shape (List ℕ)) → Reached NMethod
reached (Fixed on m) kind = within (method_named m.name)
reached (OnObject m) kind = within (Some v)
reached callee kind = Nowhere

-- each call takes one word
abbrev pub words : Callee → Option ℕ
words (Fixed on m) = Some 1
words (OnObject m) = Some 1
words callee = None

-- the only exception that is there
abbrev pub fault_name : Fault → Option (List ℕ)
fault_name Arithmetic = Some (codes "java/lang/ArithmeticException")
fault_name fault = None

-- the fields of a class
abbrev pub fields : List ℕ → Option (List MemberId)
fields name = Some (if bytes_eq name (codes "p/B") then field ∷ [] else [])

-- the look-ups
abbrev pub linked : Named
linked = record {
  is_of = is_below;
  fields = fields;
  reached = reached;
  words = words;
  fault = fault_name;
  class_named = λ name. Some name;
  imported = λ name. None;
  throwable = λ name. None;
  called = λ m. started (method_named m.name);
  sent = λ kind m. None;
  memory = record { heap = []; statics = [] };
}

-- ---- scripts

-- an entry that calls a method of p/T
abbrev pub call : (name desc : List ℕ) → List Value → Entry
call name desc args = record {
  number = 0;
  acts = [];
  virtual_call = false;
  method = id (codes "p/T") name desc;
  args = args;
}

-- entries alone
abbrev pub script : List Entry → Script
script entries = record { entries = entries; answers = [] }

-- a report without static cells
abbrev pub ends : List Note → List Thing → Outcome → (spent : ℕ) → Report
ends notes heap outcome spent = record { notes = notes; statics = []; heap = heap; outcome = outcome; spent = spent }

-- ---- code of class files

-- names that stand for themselves
abbrev pub resolution : Resolution
resolution = record {
  field = λ f. f;
  constant = λ f. None;
  is_near = λ f. false;
  virtual = keys.Virtual;
  special = keys.StaticMethod;
  static = keys.StaticMethod;
  interface = λ m. m;
  role = λ offset. Alone;
}

-- the same, where the instructions at 0 and 1 are a pair
abbrev pub paired : Resolution
paired = record resolution { role = λ offset. if offset == 0 then Opens else (if offset == 1 then Closes else Alone) }

-- an instruction at its offset
abbrev pub at : ℕ → JOp → JInsn
at offset op = record { at = offset; op = op }

-- code with handlers
abbrev pub code : (max_stack max_locals : ℕ) → List Catch → CodeTree
code max_stack max_locals catches = record {
  max_stack = max_stack;
  max_locals = max_locals;
  bytes = [];
  catches = catches;
}

-- aload_0 getfield ireturn
abbrev pub reads_own : List JInsn
reads_own = at 0 (jop.Load true 0) ∷ at 1 (jop.Field false (id (codes "p/B") (codes "s") (codes "S")))
    ∷ at 4 (jop.Return 0xAC) ∷ []

-- iload_0 iconst_1 iadd i2s ireturn
abbrev pub one_more : List JInsn
one_more = at 0 (jop.Load false 0) ∷ at 1 (jop.Number (pos 1)) ∷ at 2 (jop.Arith 0x60) ∷ at 3 (jop.Narrow 0x93)
    ∷ at 4 (jop.Return 0xAC) ∷ []

-- iload_0 iload_0 idiv i2s ireturn; pop iconst_1 ireturn; pop iconst_2 ireturn; pop iconst_3 ireturn
abbrev pub divides : List JInsn
divides =
    at 0 (jop.Load false 0) ∷ at 1 (jop.Load false 0) ∷ at 2 (jop.Arith 0x6C) ∷ at 3 (jop.Narrow 0x93)
    ∷ at 4 (jop.Return 0xAC)
    ∷ at 5 (jop.Stack 0x57) ∷ at 6 (jop.Number (pos 1)) ∷ at 7 (jop.Return 0xAC)
    ∷ at 8 (jop.Stack 0x57) ∷ at 9 (jop.Number (pos 2)) ∷ at 10 (jop.Return 0xAC)
    ∷ at 11 (jop.Stack 0x57) ∷ at 12 (jop.Number (pos 3)) ∷ at 13 (jop.Return 0xAC) ∷ []

-- the handlers of that method
abbrev pub divides_catches : List Catch
divides_catches =
    record { start = 2; end = 3; target = 5; class = Some (codes "java/lang/ClassCastException") }
    ∷ record { start = 3; end = 4; target = 8; class = None }
    ∷ record { start = 0; end = 4; target = 11; class = None } ∷ []

-- iload_0 and a tableswitch from 32767 to 32768, whose second case is outside 16 bits; a return that nothing reaches;
-- iinc and a jump back
abbrev pub jumps : List JInsn
jumps =
    at 0 (jop.Load false 0) ∷ at 1 (jop.TableSwitch 24 (pos 32767) (25 ∷ 24 ∷ [])) ∷ at 24 (jop.Return 0xB1)
    ∷ at 25 (jop.Inc 0 (pos 200)) ∷ at 28 (jop.Goto 0) ∷ at 31 (jop.Return 0xB1) ∷ []

-- a table in which so many instructions are reached
abbrev pub all : ℕ → List (Option ℕ)
all n = replicate n (Some 0)
