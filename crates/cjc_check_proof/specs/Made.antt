-- How the methods of a package that is converted come to their code.
use Rattle.std.specs.Prelude.{◌≡◌, ℕ, ◌<◌, List, [], length, slice_get, Option, Some, true}
use Rattle.cjc_bytes.specs.declared.fault.MemberId.{MemberId}
use Rattle.cjc_world.specs.ClassFile.Code.{CodeTree}
use Rattle.cjc_world.specs.ClassFile.declared.tree.ClassTree.{ClassTree}
use Rattle.cjc_world.specs.ClassFile.declared.tree.MethodTree.{MethodTree}
use Rattle.cjc_components.specs.Bytecode.declared.method_code.MethodCode.{MethodCode}
use Rattle.cjc_world.specs.Files.{Files}
use Rattle.cjc_pool.specs.Types.declared.state.State.{State}
use Rattle.cjc_pool.specs.Types.Flow.{body_of}
use Rattle.cjc_pool.specs.Types.Tables.{IsLeastTable, IsMethodOf}
use Rattle.cjc_ncode.specs.Lowering.Naming.{Naming}
use Rattle.cjc_pool.specs.Narrow.Rows.Selected.{selected_code}
use Rattle.cjc_pool.specs.Narrow.Written.Rows.{has_rows, rows_by}
use Rattle.cjc_pool.specs.Layout.Legal.{IsLeast}
use Rattle.cjc_pool.specs.Emit.Emitted.{CanBeWritten, placed_at}
use Rattle.cjc_components.specs.Package.{LaidMethod}

-- An abstract method has no code. That of any other is what is selected for a method whose code has a byte, of the
-- instructions that
-- its least type table reaches, where bytes can say it.
pub data IsMade (n : Naming) (files : Files) (m : LaidMethod) : Type 0 where
  without_code : m.is_abstract ≡ true → (let code = m.code in code.insns ≡ [])
      → (let code = m.code in code.catches ≡ []) → (let code = m.code in IsLeast code.insns m.wide) → IsMade n files m
  by_selection : {code : MethodCode} {class : ClassTree} {method : MethodTree} {tree : CodeTree}
      → IsMethodOf files code class method tree
      → {rows : List (Option State)} → IsLeastTable (body_of class method tree code.insns) rows → 0 < length tree.bytes
      → (near : List MemberId) → m.code ≡ selected_code files near class method tree code.insns
      (rows_by (has_rows rows)) → CanBeWritten n (placed_at 0 m.code m.wide) → IsMade n files m

-- so do all of these
abbrev pub AllAreMade : Naming → Files → List LaidMethod → Type 0
AllAreMade n files ms = (k : ℕ) (m : LaidMethod) → slice_get ms k ≡ Some m → IsMade n files m
