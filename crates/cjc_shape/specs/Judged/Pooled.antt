-- The methods of a tested package as they are selected by the indices of the pool that they need.
use Rattle.std.specs.Prelude.{◌≡◌, ◌≤◌, ℕ, List, [], length, slice_get, Option, Some, Bool, true, false}
use Rattle.cjc_exported.specs.Bytes.declared.fault.MemberId.{MemberId}
use Rattle.cjc_exported.specs.ClassFile.Code.{CodeTree}
use Rattle.cjc_exported.specs.ClassFile.declared.tree.ClassTree.{ClassTree}
use Rattle.cjc_exported.specs.ClassFile.declared.tree.MethodTree.{MethodTree}
use Rattle.cjc_methods.specs.Bytecode.declared.method_code.MethodCode.{MethodCode}
use Rattle.cjc_judge.specs.declared.judged.Judged.{Judged}
use Rattle.cjc_methods.specs.Narrow.Rows.Selected.{near_fields}
use Rattle.cjc_narrow_proof.specs.NCode.declared.narrow.NInsn.{NInsn}
use Rattle.cjc_narrow_proof.specs.NCode.declared.narrow.NMethod.{NMethod}
use Rattle.cjc_methods.specs.LowerPool.Pool.{IsPool, PoolView, most_entries}
use Rattle.cjc_methods.specs.Tokens.Rules.{token_breaks}
use Rattle.cjc_methods.specs.Tokens.Tokens.{assigned}
use Rattle.cjc_methods.specs.Types.declared.table.TypeTable.{TypeTable}
use Rattle.cjc_methods.specs.Subset.Ints.{code_works_on_int}
use Rattle.cjc_exported.specs.World.Files.{Files}
use Rattle.cjc_intervals.specs.Frames.{RangeState}
use Rattle.cjc_methods.specs.LowerIntPackage.LowerIntMode.Room.{IsRoom}
use Rattle.cjc_methods.specs.LowerIntPackage.LowerIntMode.declared.modes.Mode.{Mode}
use Rattle.cjc_methods.specs.LowerIntPackage.LowerIntMode.declared.modes.Mode.TheVariants as modes
use Rattle.cjc_methods.specs.Types.declared.state.State.{State}
use Rattle.cjc_methods.specs.Types.Flow.{Body, body_of}
use Rattle.cjc_methods.specs.Working.ByMode.{selected_by}
use Rattle.cjc_shape.specs.Judged.Tested.{IsOne, states}

-- A method can be selected in a mode: in short mode where it does not work on int, in int mode where there is room.
abbrev pub CanBeIn : Mode → Files → MethodCode → Body → List (Option State) → Type 0
CanBeIn modes.Short files code b types = code_works_on_int files code ≡ false
CanBeIn modes.Int files code b types = IsRoom b types modes.Int true

-- The narrow code of one of the package's methods by its mode, of the instructions that its table reaches, where these
-- instance fields have an index of one byte.
pub record IsSelected (judged : Judged) (near : List MemberId) (narrow : NMethod) : Type 0 where
  pub code : MethodCode
  pub class : ClassTree
  pub method : MethodTree
  pub tree : CodeTree
  pub table : TypeTable
  pub one : IsOne judged code class method tree table
  pub mode : Mode
  pub ranges : List (Option RangeState)
  pub can : CanBeIn mode judged.world code (body_of class method tree code.insns) (states code class method tree table)
  pub is : narrow ≡ selected_by mode judged.world near code class method tree (states code class method tree table)
      ranges

-- The pool is that of these methods, by the tokens of a package that breaks neither 413 nor 414, and each of them that
-- has an instruction is selected by its indices.
pub record ArePooled (judged : Judged) (applets : Bool) (methods : List NMethod) (pool : PoolView) : Type 0 where
  pub tokens : token_breaks applets judged.world ≡ []
  pub few : length pool.keys ≤ most_entries
  pub is_pool : IsPool judged.world (assigned applets judged.world) methods pool
  pub each : (k : ℕ) (narrow : NMethod) → slice_get methods k ≡ Some narrow → (place : ℕ) (insn : NInsn)
      → slice_get narrow.insns place ≡ Some insn → IsSelected judged (near_fields pool.keys) narrow
