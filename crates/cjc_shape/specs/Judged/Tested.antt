-- Packages that were tested for the rules that selection rests on, and their methods with their types.
use Rattle.std.specs.Prelude.{◌≡◌, ℕ, ◌≤◌, ◌<◌, ◌^◌, List, length, slice_get, Some, true, Option}
use Rattle.std.specs.List.{AllByRecursion, list_any}
use Rattle.cjc_exported.specs.ClassFile.Code.{CodeTree}
use Rattle.cjc_exported.specs.ClassFile.declared.tree.ClassTree.{ClassTree}
use Rattle.cjc_exported.specs.ClassFile.declared.tree.MethodTree.{MethodTree}
use Rattle.cjc_methods.specs.Bytecode.declared.method_code.MethodCode.{MethodCode}
use Rattle.cjc_judge.specs.declared.groups.Group.{Group}
use Rattle.cjc_judge.specs.declared.groups.Group.TheVariants as groups
use Rattle.cjc_judge.specs.declared.judged.Judged.{Judged}
use Rattle.cjc_judge.specs.Judged.{IsJudged}
use Rattle.cjc_judge.specs.Types.{asks_types}
use Rattle.cjc_methods.specs.List.Listed.{ListTree}
use Rattle.cjc_methods.specs.Types.declared.state.State.{State}
use Rattle.cjc_methods.specs.Types.declared.table.TypeTable.{TypeTable}
use Rattle.cjc_methods.specs.Types.Flow.{body_of}
use Rattle.cjc_methods.specs.Types.Tables.{IsMethodOf, rows_of}

-- each file is of 512 MiB at most
abbrev pub AreFiles : List (List ℕ) → Type 0
AreFiles files = (k : ℕ) (bytes : List ℕ) → slice_get files k ≡ Some bytes → AllByRecursion (λ b. b < 256) bytes
    × (length bytes ≤ 2 ^ 29)

-- The package breaks no rule of the groups, among which are limits and types.
pub record IsTested (list : ListTree) (files : List (List ℕ)) (judged : Judged) : Type 0 where
  pub tested : List Group
  pub judged_by : IsJudged list files tested judged
  pub limits : (i : ℕ) × (slice_get tested i ≡ Some groups.Limits)
  pub types : list_any asks_types tested ≡ true
  pub are_files : AreFiles files

-- One of its methods with code, and the types that were found for it.
pub record IsOne (judged : Judged) (code : MethodCode) (class : ClassTree) (method : MethodTree) (tree : CodeTree)
    (table : TypeTable) : Type 0 where
  pub place : ℕ
  pub is_code : slice_get judged.codes place ≡ Some code
  pub is_table : slice_get judged.types place ≡ Some table
  pub is_method : IsMethodOf judged.world code class method tree

-- the states before its instructions
abbrev pub states : MethodCode → ClassTree → MethodTree → CodeTree → TypeTable → List (Option State)
states code class method tree table = rows_of (body_of class method tree code.insns) table
