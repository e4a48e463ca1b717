-- What the machine by name asks of class files and export files: one record of look-ups.
use Rattle.std.specs.Prelude.{ℕ, List, Option, Bool, ℤ}
use Rattle.cjc_code.specs.Bytes.declared.fault.MemberId.{MemberId}
use Rattle.cjc_code.specs.ClassFile.declared.tree.Catch.{Catch}
use Rattle.cjc_code.specs.declared.insn.JInsn.{JInsn}
use Rattle.cjc_script.specs.declared.report.FieldValue.{FieldValue}
use Rattle.cjc_script.specs.declared.report.Thing.{Thing}

-- a method of a class file, by the class that declares it; an abstract one has no instructions
pub record Method : Type 0 where
  pub id : MemberId
  pub is_abstract : Bool
  pub max_stack : ℕ
  pub max_locals : ℕ
  pub insns : List JInsn
  pub catches : List Catch

-- a field that code names, as it is found
pub data ResolvedField : Type 0 where
  -- reading it gives its value, and nothing is put into it
  Constant : (value : ℤ) → ResolvedField
  Static : (field : MemberId) → ResolvedField
  Instance : (field : MemberId) → ResolvedField

-- what a call reaches: a method of a class file, or an imported one by the member that its event names
pub data Callee : Type 0 where
  Inside : (method : Method) → Callee
  Abroad : (event : MemberId) → Callee

-- a call whose member is found
pub data Call : Type 0 where
  -- without receiver
  OnClass : (callee : Callee) → Call
  -- by the type of its receiver; none where that is not of the class that is asked for, or nothing is selected
  OnObject : (selected : List ℕ → Option Callee) → Call

-- The look-ups. Types are named by a class's name or an array's descriptor.
pub record Linked : Type 0 where
  -- What the code of the class `holder` names: a field; a member that an instruction of this opcode calls; the fields
  -- of a new object of a class, a superclass's before its own. None where it is not found, or is of another kind.
  pub field : (holder : List ℕ) → MemberId → Option ResolvedField
  pub call : (holder : List ℕ) → (op : ℕ) → MemberId → Option Call
  pub made : (holder : List ℕ) → (class : List ℕ) → Option (List MemberId)
  -- Whether some file has a class, and whether a type is of another: asked by the code of a class, or by the script.
  pub is_there : (asker : Option (List ℕ)) → (class : List ℕ) → Bool
  pub subtype : (asker : Option (List ℕ)) → (sub sup : List ℕ) → Bool
  -- what a script names: a static method that is called, one that is sent to an object of a type, an imported class
  -- that is no interface
  pub entry : MemberId → Option Method
  pub sent : (type : List ℕ) → MemberId → Option Method
  pub is_imported : (class : List ℕ) → Bool
  -- the static cells and the heap before the first entry
  pub statics : List FieldValue
  pub heap : List Thing
