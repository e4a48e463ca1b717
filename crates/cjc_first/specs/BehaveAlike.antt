-- When components do what class files do.
use Rattle.std.specs.Prelude.{◌≢◌, ◌⊎◌, ℕ, ◌+◌, ◌*◌, List}
use Rattle.cjc_capread.specs.declared.tree.CapTree.{CapTree}
use Rattle.cjc_first.specs.TokenMachine.Naming.{loaded}
use Rattle.cjc_first.specs.TokenMachine.ByToken
use Rattle.cjc_classfile.specs.declared.tree.ClassTree.{ClassTree}
use Rattle.cjc_export.specs.declared.tree.ExportTree.{ExportTree}
use Rattle.cjc_first.specs.NameMachine.Linked.{linked}
use Rattle.cjc_first.specs.NameMachine.ByName
use Rattle.cjc_script.specs.declared.report.Outcome.TheVariants.{Running, Stuck}
use Rattle.cjc_script.specs.declared.report.Report.{Report}
use Rattle.cjc_script.specs.declared.script.Script.{Script}
use Rattle.cjc_script.specs.Agree.{Agree, IsBegun}

-- the report of n instructions of the class files, run by name
abbrev pub by_name : List ClassTree → List ExportTree → Script → ℕ → Report
by_name classes exports script n = ByName.run (linked classes exports) script n

-- the report of n instructions of the components, run by token
abbrev pub by_token : List ClassTree → List ExportTree → CapTree → Script → ℕ → Report
by_token classes exports cap script n = ByToken.run (loaded cap exports classes) script n

-- The two runs of one script make the same imported calls and end alike.
pub record RunAlike (classes : List ClassTree) (exports : List ExportTree) (cap : CapTree) (script : Script) : Type 0 where
  -- Of the notes of any two runs, one is the beginning of the other.
  pub notes : (n m : ℕ) → IsBegun (by_name classes exports script n).notes (by_token classes exports cap script m).notes ⊎ IsBegun (by_token classes exports cap script m).notes (by_name classes exports script n).notes
  -- Where the run by name of n instructions is over, the run by token of 3n shows the same.
  pub ends : (n : ℕ) → (by_name classes exports script n).outcome ≢ Running → Agree (by_token classes exports cap script (3 * n)) (by_name classes exports script n)
  -- Where the run by token of n instructions is over, the run by name of 65,536 (n + 1) shows the same.
  pub ends_only : (n : ℕ) → (by_token classes exports cap script n).outcome ≢ Running → Agree (by_name classes exports script (65536 * (n + 1))) (by_token classes exports cap script n)
  -- Neither is ever stuck.
  pub never_stuck : (n at : ℕ) → ((by_name classes exports script n).outcome ≢ Stuck at) × ((by_token classes exports cap script n).outcome ≢ Stuck at)

-- The class files and the components behave alike for every script.
abbrev pub BehaveAlike : List ClassTree → List ExportTree → CapTree → Type 0
BehaveAlike classes exports cap = (script : Script) → RunAlike classes exports cap script
