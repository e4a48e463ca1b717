-- What is selected for packages made by hand, all of whose instructions are reached, and its bytes.
use Rattle.std.specs.Prelude.{ℕ, List, [], ◌∷◌, map, flat_map, Option, Some, None, Bool, true}
use Rattle.cjc_examples.specs.Bytes.declared.fault.MemberId.{MemberId}
use Rattle.cjc_examples.specs.ClassFile.Code.{CodeTree}
use Rattle.cjc_examples.specs.ClassFile.declared.tree.ClassTree.{ClassTree}
use Rattle.cjc_examples.specs.ClassFile.declared.tree.MethodTree.{MethodTree}
use Rattle.cjc_examples.specs.Bytecode.declared.insn.JInsn.{JInsn}
use Rattle.cjc_examples.specs.Bytecode.Decoded.{decoded}
use Rattle.cjc_examples.specs.World.Files.{Files}
use Rattle.cjc_examples.specs.CapRead.declared.tree.Handler.{Handler}
use Rattle.cjc_examples.specs.CardSemantics.Machine.Loaded.{Loaded}
use Rattle.cjc_examples.specs.NCode.declared.narrow.NMethod.{NMethod}
use Rattle.cjc_examples.specs.NCode.declared.narrow.PoolKey.{PoolKey}
use Rattle.cjc_examples.specs.NCode.PoolOrder.{pool_order}
use Rattle.cjc_examples.specs.NCode.Lowering.Package.{all_bytes, all_handlers}
use Rattle.cjc_examples.specs.LowerNarrow.Rows.Selected.{near_fields, selected_code}
use Rattle.cjc_examples.specs.LowerNarrow.Written.Rows.{rows_by}
use Rattle.cjc_examples.specs.Narrow.Laid.{naming, placed_from}

-- each instruction is reached
abbrev pub all_reached : List JInsn → List Bool
all_reached insns = map (λ i. true) insns

-- of a method with code, where these instance fields have an index of one byte
abbrev pub of_code : Files → (near : List MemberId) → ClassTree → MethodTree → CodeTree → NMethod
of_code files near class method tree = let insns = decoded class method tree in selected_code files near class method
    tree insns (rows_by (all_reached insns))

-- a method without code has none
abbrev pub of_method : Files → (near : List MemberId) → ClassTree → MethodTree → Option CodeTree → List NMethod
of_method files near class method None = []
of_method files near class method (Some tree) = of_code files near class method tree ∷ []

-- of the methods of a class
abbrev pub of_class : Files → (near : List MemberId) → ClassTree → List NMethod
of_class files near class = flat_map (λ m. of_method files near class m m.code) class.methods

-- of all classes
abbrev pub of_package : Files → (near : List MemberId) → List NMethod
of_package files near = flat_map (of_class files near) files.classes

-- the keys that the methods need
abbrev pub keys : Files → List PoolKey
keys files = pool_order (of_package files [])

-- Selected again, by the pool that they need.
abbrev pub selected : Files → List NMethod
selected files = of_package files (near_fields (keys files))

-- The bytes of the methods one behind the other, from an offset on.
abbrev pub bytes : Files → Loaded → (offset : ℕ) → List ℕ
bytes files loaded offset = all_bytes (naming loaded (keys files)) (placed_from (naming loaded (keys files)) offset
    (selected files))

-- their handlers
abbrev pub handlers : Files → Loaded → (offset : ℕ) → List Handler
handlers files loaded offset = all_handlers (naming loaded (keys files)) (placed_from (naming loaded (keys files))
    offset (selected files))
