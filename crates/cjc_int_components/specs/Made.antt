-- How the methods of a package come to their code, some of them in int mode.
use Rattle.std.specs.Prelude.{◌≡◌, ℕ, ◌<◌, List, length, slice_get, Option, Some}
use Rattle.cjc_int_narrow.specs.Bytes.declared.fault.MemberId.{MemberId}
use Rattle.cjc_int_narrow.specs.ClassFile.Code.{CodeTree}
use Rattle.cjc_int_narrow.specs.ClassFile.declared.tree.ClassTree.{ClassTree}
use Rattle.cjc_int_narrow.specs.ClassFile.declared.tree.MethodTree.{MethodTree}
use Rattle.cjc_int_narrow.specs.World.Files.{Files}
use Rattle.cjc_int_narrow.specs.Bytecode.declared.method_code.MethodCode.{MethodCode}
use Rattle.cjc_check_proof.specs.Types.Flow.{body_of}
use Rattle.cjc_check_proof.specs.Types.Tables.{IsLeastTable, IsMethodOf}
use Rattle.cjc_check_proof.specs.Types.declared.state.State.{State}
use Rattle.cjc_check_proof.specs.Intervals.Frames.{RangeState}
use Rattle.cjc_ncode.specs.Lowering.Naming.{Naming}
use Rattle.cjc_int_narrow.specs.LowerNarrow.Rows.Resolved.{resolution}
use Rattle.cjc_check_proof.specs.LowerEmit.Emitted.{CanBeWritten, placed_at}
use Rattle.cjc_check_proof.specs.LowerComponents.Package.{LaidMethod}
use Rattle.cjc_int_narrow.specs.LowerIntMode.Written.{written_in_int_mode}
use Rattle.cjc_check_proof.specs.Made.{IsMade}

-- A method that is not in int mode is made as in a package without int mode. The code of any other is what is written
-- in int mode for a method whose code has a byte, of the instructions that its least type table reaches, where bytes
-- can say it.
pub data IsMadeByMode (n : Naming) (files : Files) (m : LaidMethod) : Type 0 where
  in_short_mode : IsMade n files m → IsMadeByMode n files m
  in_int_mode : {code : MethodCode} {class : ClassTree} {method : MethodTree} {tree : CodeTree}
      → IsMethodOf files code class method tree
      → {rows : List (Option State)} → IsLeastTable (body_of class method tree code.insns) rows → 0 < length tree.bytes
      → (near : List MemberId) (ranges : List (Option RangeState)) → m.code
      ≡ written_in_int_mode (resolution files near class.name) tree (body_of class method tree code.insns) rows ranges
      → CanBeWritten n (placed_at 0 m.code m.wide) → IsMadeByMode n files m

-- so do all of these
abbrev pub AllAreMadeByMode : Naming → Files → List LaidMethod → Type 0
AllAreMadeByMode n files ms = (k : ℕ) (m : LaidMethod) → slice_get ms k ≡ Some m → IsMadeByMode n files m
