-- An answer with its broken rule as a refusal.
use Rattle.std.specs.Prelude.{◌≡◌, ◌⊎◌, ℕ, List, Result, Ok, Err}
use Rattle.cjc_bytes.specs.declared.fault.Fault.{Fault}
use Rattle.cjc_bytes.specs.declared.fault.Fault.TheVariants as faults
use Rattle.cjc_classfile.specs.declared.tree.ClassTree.{ClassTree}
use Rattle.cjc_classfile.specs.declared.tree.MethodTree.{MethodTree}
use Rattle.cjc_types.specs.declared.inference.InferError.{InferError}
use Rattle.cjc_types.specs.declared.inference.InferError.TheVariants as errors
use Rattle.cjc_types.specs.declared.table.TypeTable.{TypeTable}
use Rattle.cjc_types.specs.Tables.{refusal_in}

-- The same table, or the refusal of the same broken rule, unless memory ran out on either side.
abbrev pub ToldAs : (file : List ℕ) → ClassTree → MethodTree → Result TypeTable InferError → Result TypeTable Fault
    → Type 0
ToldAs file class method (Ok table) result = result ≡ Ok table
ToldAs file class method (Err (errors.Broken broken)) result =
    (result ≡ Err (faults.Refused (refusal_in file class method broken))) ⊎ (result ≡ Err faults.NoMemory)
ToldAs file class method (Err errors.NoMemory) result = result ≡ Err faults.NoMemory
