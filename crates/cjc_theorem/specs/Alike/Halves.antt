-- The two halves of what is promised of a package, and how short its code is. Between the class files, run by name, and
-- the components, run by token, stands the narrow code that is selected, run by label (Java Card Virtual Machine
-- Specification 2.2.2, chapter 7).
use Rattle.std.specs.Prelude.{◌≡◌, ◌≢◌, ℕ, ◌≤◌, List, Bool, false, Option, Some, slice_get}
use Rattle.cjc_jvm_semantics.specs.CapRead.declared.tree.CapTree.{CapTree}
use Rattle.cjc_token_proof.specs.CardSemantics.Bytecode.Runs.{Agree}
use Rattle.cjc_token_proof.specs.CardSemantics.Machine.ByToken.{run as run_by_token}
use Rattle.cjc_token_proof.specs.CheckRules.Complete.{Complete, complete}
use Rattle.cjc_token_proof.specs.Clinit.Image.{IsImage}
use Rattle.cjc_components.specs.Bytecode.PackageCodes.{all_codes}
use Rattle.cjc_components.specs.Package.{LaidMethod, Package, pool}
use Rattle.cjc_components.specs.Paired.Naming.{loaded_of}
use Rattle.cjc_shape_proof.specs.LowerJudge.Rules.{has_applets}
use Rattle.cjc_jvm_semantics.specs.ByName.{run as run_by_name}
use Rattle.cjc_jvm_semantics.specs.Linked.{Method}
use Rattle.cjc_jvm_semantics.specs.OnePackage.{is_initialiser, method_at}
use Rattle.cjc_token_proof.specs.Layout.Legal.{IsLegal}
use Rattle.cjc_token_proof.specs.Layout.Sizes.{code_size}
use Rattle.cjc_token_proof.specs.List.Listed.{ListTree}
use Rattle.cjc_token_proof.specs.Narrow.Rows.Package.{code_of, run as run_narrow}
use Rattle.cjc_token_proof.specs.Narrow.Rows.Selected.{near_fields}
use Rattle.cjc_token_proof.specs.Script.declared.report.Outcome.TheVariants.{Stuck}
use Rattle.cjc_token_proof.specs.Script.declared.report.Report.{Report}
use Rattle.cjc_token_proof.specs.Script.declared.script.Script.{Script}
use Rattle.cjc_shape_proof.specs.LowerShape.Whole.Conversion.{AreLeast}
use Rattle.cjc_token_proof.specs.WrittenCalls.Standing.{laid_code}
use Rattle.cjc_token_proof.specs.Types.declared.state.State.{State}
use Rattle.cjc_world.specs.declared.found.Found.{Found}

-- ---- the runs

-- The run of n instructions of the narrow code that a package has in Method, from what its initialisers leave in static
-- fields.
abbrev pub run_by_label : Package → Script → ℕ → Report
run_by_label p script n = run_narrow p.files p.image (laid_code p) script n

-- The narrow code that a package has in Method is what is selected for its methods, and it behaves as the class files
-- do: for every script the notes of any two runs are one the beginning of the other; where the run by name of n
-- instructions is over, the run by label of at least 2n has the same notes, outcome, heap and static cells, and where
-- the run by label of n is over, the run by name of at least 65,536 (n + 1) has; and neither is ever stuck.
pub record CodeBehavesAlike (p : Package) : Type 0 where
  -- the rows of the least tables of methods
  pub rows : Method → List (Option State)
  pub are_least : AreLeast p.files rows
  -- of each method but an initialiser, which is not written, the code is selected by its rows
  pub selected : (f : Found) (m : Method) → method_at p.files f ≡ Some m
      → (let id = m.id in is_initialiser id.name ≡ false)
      → laid_code p m ≡ code_of p.files (near_fields (pool p)) rows m
  pub is_image : (let w = p.files in IsImage p.files (all_codes w.classes) p.image)
  pub alike : (script : Script) → Agree 2 (run_by_name p.files p.image script) (run_by_label p script)

-- These components, of which only Applet and Export may be absent, run by token with names from the class files, give
-- the report of that narrow code, for every script and every number of instructions, and neither is ever stuck.
pub record ComponentsRunAsCode (list : ListTree) (p : Package) (cap : CapTree) : Type 0 where
  pub components : Complete
  pub are_components : complete cap ≡ Some components
  pub equal : (script : Script) (n : ℕ)
      → run_by_token (loaded_of (has_applets list) p.files p.image components) script n ≡ run_by_label p script n
  pub never_stuck : (script : Script) (n at : ℕ) → ((run_by_label p script n).outcome ≢ Stuck at)
      × ((run_by_token (loaded_of (has_applets list) p.files p.image components) script n).outcome ≢ Stuck at)

-- ---- the bytes

-- The choice of wide jumps that is written for each method is legal, and under no legal one has its narrow code fewer
-- bytes.
abbrev pub HasFewestBytes : Package → Type 0
HasFewestBytes p =
    (k : ℕ) (m : LaidMethod) → slice_get p.methods k ≡ Some m
    → (let code = m.code in IsLegal code.insns m.wide) × ((other : List Bool)
    → (let code = m.code in IsLegal code.insns other → code_size code.insns m.wide ≤ code_size code.insns other))
