-- What the machine by name does at the code of all initialisers of a package, one after the other, before any entry of
-- a script.
use Rattle.std.specs.Prelude.{◌≡◌, ℕ, List, [], ◌∷◌, ◌++◌, replicate, slice_get, Option, Some, None, is_some, Bool}
use Rattle.std.specs.Prelude.{true, if◌then◌else◌, ℤ}
use Rattle.cjc_world.specs.ClassFile.declared.tree.ClassTree.{ClassTree}
use Rattle.cjc_world.specs.ClassFile.declared.tree.FieldTree.{FieldTree}
use Rattle.cjc_world.specs.ClassFile.declared.tree.MethodTree.{MethodTree}
use Rattle.cjc_clinit.specs.Bytecode.declared.method_code.MethodCode.{MethodCode}
use Rattle.cjc_jvm_semantics.specs.LowerScript.declared.value.Value.{Value}
use Rattle.cjc_jvm_semantics.specs.LowerScript.declared.value.Value.TheVariants.{Num}
use Rattle.cjc_jvm_semantics.specs.LowerScript.declared.report.FieldValue.{FieldValue}
use Rattle.cjc_jvm_semantics.specs.LowerScript.Sorts.{field_sort, zero_of}
use Rattle.cjc_world.specs.Files.{Files}
use Rattle.cjc_clinit.specs.Fields.{is_cell, is_reference, number_kind}
use Rattle.cjc_clinit.specs.Image.{field_id, initialised}
use Rattle.cjc_clinit.specs.Initialiser.{ops_of}
use Rattle.cjc_jvm_semantics.specs.Effects.{Store, is_kind}
use Rattle.cjc_jvm_semantics.specs.Linked.{Linked, Method}
use Rattle.cjc_jvm_semantics.specs.OnePackage.{method_by}
use Rattle.cjc_world_proof.specs.Initialisers.Initialisers.{HasCells, Returns}
use Rattle.cjc_world_proof.specs.Initialisers.Statements.{HaveRoomFor}

-- ---- before any initialiser

-- a ConstantValue of a type of numbers, or 0 or null
abbrev pub value_or : Bool → Option ℤ → Value → Value
value_or true (Some z) zero = Num z
value_or number value zero = zero

-- what a static field holds before any initialiser
abbrev pub first_value : FieldTree → Value
first_value f = value_or (is_some (number_kind f.desc)) f.constant (zero_of (field_sort f.desc))

-- the static cells of a class, in the order of its fields
abbrev pub first_in : (class : List ℕ) → List FieldTree → List FieldValue
first_in class [] = []
first_in class (f ∷ fields) = if is_cell f then record { field = field_id class f; value = first_value f }
    ∷ first_in class fields else first_in class fields

-- the static cells of a package, in the order of its classes and fields
abbrev pub first_cells : List ClassTree → List FieldValue
first_cells [] = []
first_cells (c ∷ classes) = first_in c.name c.fields ++ first_cells classes

-- no arrays, and each static field as its file says
abbrev pub first_store : List ClassTree → Store
first_store classes = record { heap = []; statics = first_cells classes }

-- ---- what holds of packages

-- The type of each static field with a cell is one that values have: where it names a class or an array, the field is
-- null at
-- first, and else 0.
abbrev pub HaveTypes : Files → Type 0
HaveTypes files = (n k : ℕ) (c : ClassTree) (f : FieldTree) → slice_get files.classes n ≡ Some c → slice_get c.fields k
    ≡ Some f → is_cell f ≡ true → is_kind (is_reference f.desc) (zero_of (field_sort f.desc)) ≡ true

-- the method of a class, with the instructions that were read of its code
abbrev pub method_with : ClassTree → MethodTree → MethodCode → Method
method_with c m code = record (method_by c m m.code) { insns = code.insns }

-- each initialiser has room for the operands of its instructions, as it has where 503 is not broken
abbrev pub HaveRoom : Files → List MethodCode → Type 0
HaveRoom files codes = (index : ℕ) (code : MethodCode) (c : ClassTree) (m : MethodTree) → slice_get codes index
    ≡ Some code → initialised files code ≡ Some c → slice_get c.methods code.method ≡ Some m
    → (let method = method_with c m code in HaveRoomFor method.max_stack (ops_of code.insns))

-- each class of the package has its cells
abbrev pub AllHaveCells : Files → List FieldValue → Type 0
AllHaveCells files statics = (n : ℕ) (c : ClassTree) → slice_get files.classes n ≡ Some c → HasCells c statics

-- ---- all initialisers

-- The initialisers among these codes, one after the other, each from its first instruction to its return.
pub data AllReturn (files : Files) (l : Linked) : (before : Store) → List MethodCode → (after : Store) → Type 0 where
  none : {store : Store} → AllReturn files l store [] store
  other : {before after : Store} {code : MethodCode} {codes : List MethodCode} → initialised files code ≡ None
      → AllReturn files l before codes after → AllReturn files l before (code ∷ codes) after
  one : {before mid after : Store} {code : MethodCode} {codes : List MethodCode} (c : ClassTree) (m : MethodTree)
      → initialised files code ≡ Some c → slice_get c.methods code.method ≡ Some m
      → Returns l (method_with c m code) (let method = method_with c m code in replicate method.max_locals None) 0
      before mid → AllReturn files l mid codes after → AllReturn files l before (code ∷ codes) after
