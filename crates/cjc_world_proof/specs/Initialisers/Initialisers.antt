-- What the machine by name does at the code of one initialiser.
use Rattle.std.specs.Prelude.{◌≡◌, ℕ, List, [], ◌∷◌, slice_get, Option, Some, None, true}
use Rattle.cjc_world.specs.ClassFile.declared.tree.ClassTree.{ClassTree}
use Rattle.cjc_world.specs.ClassFile.declared.tree.FieldTree.{FieldTree}
use Rattle.cjc_clinit.specs.Bytecode.declared.insn.JInsn.{JInsn}
use Rattle.cjc_jvm_semantics.specs.LowerScript.declared.value.Value.{Value}
use Rattle.cjc_jvm_semantics.specs.LowerScript.declared.report.FieldValue.{FieldValue}
use Rattle.cjc_clinit.specs.Fields.{is_cell, is_reference}
use Rattle.cjc_clinit.specs.Image.{field_id, own_field}
use Rattle.cjc_clinit.specs.Initialiser.{Put}
use Rattle.cjc_jvm_semantics.specs.Effects.{Leave, Store, effect, is_kind, value_in}
use Rattle.cjc_jvm_semantics.specs.Linked.{Linked, Method}
use Rattle.cjc_world_proof.specs.Initialisers.Statements.{Reaches, store_with}

-- the heap and the static cells after these statements of an initialiser of the class, one after the other
abbrev pub store_after : ClassTree → Store → List Put → Store
store_after c store [] = store
store_after c store (p ∷ puts) = store_after c (store_with store (own_field c p.field) p.contents) puts

-- Each static field of the class that is no constant has a cell, which holds a reference where its type is a class or
-- an array,
-- and else a number.
abbrev pub HasCells : ClassTree → List FieldValue → Type 0
HasCells c statics = (k : ℕ) (f : FieldTree) → slice_get c.fields k ≡ Some f → is_cell f ≡ true → (old : Value)
    × (value_in statics (field_id c.name f) ≡ Some old) × (is_kind (is_reference f.desc) old ≡ true)

-- From a place on with an empty stack, instruction after instruction, up to a return.
pub record Returns (l : Linked) (m : Method) (locals : List (Option Value)) (at : ℕ) (before after : Store) :
    Type 0 where
  pub later : ℕ
  pub left : List Value
  pub runs : Reaches l m locals at [] before later left after
  pub insn : JInsn
  pub is_there : slice_get m.insns later ≡ Some insn
  pub leaves : effect l m later locals after insn.op left ≡ Leave None
