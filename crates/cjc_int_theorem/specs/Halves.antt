-- The first half of what is promised of a package, whichever of its methods are in int mode: its narrow code, each method
-- by its mode, behaves as the class files do.
use Rattle.std.specs.Prelude.{◌≡◌, false, Some}
use Rattle.cjc_check_proof.specs.TokenProof.WrittenCalls.Standing.{laid_code}
use Rattle.cjc_classes.specs.Clinit.Image.{IsImage}
use Rattle.cjc_classes.specs.JvmSemantics.Linked.{Method}
use Rattle.cjc_classes.specs.JvmSemantics.OnePackage.{is_initialiser, method_at}
use Rattle.cjc_classes.specs.List.Listed.{ListTree}
use Rattle.cjc_classes.specs.Narrow.Rows.Selected.{near_fields}
use Rattle.cjc_components.specs.Bytecode.PackageCodes.{all_codes}
use Rattle.cjc_components.specs.Package.{Package, pool}
use Rattle.cjc_int_components.specs.Modes.{Tables}
use Rattle.cjc_int_components.specs.Written.{code_in}
use Rattle.cjc_jvm_semantics.specs.ByName.{run as run_by_name}
use Rattle.cjc_narrow_proof.specs.CardSemantics.Bytecode.Runs.{Agree}
use Rattle.cjc_narrow_proof.specs.Script.declared.script.Script.{Script}
use Rattle.cjc_shape.specs.Whole.Conversion.{HasModes}
use Rattle.cjc_theorem.specs.Alike.Halves.{run_by_label}
use Rattle.cjc_world.specs.declared.found.Found.{Found}

-- The narrow code that a package has in Method is what is selected for its methods by their modes, and it behaves as the
-- class files do: for every script the notes of any two runs are one the beginning of the other; where the run by name
-- of n instructions is over, the run by label of at least 4,096 n has the same notes, outcome, heap and static cells,
-- and where the run by label of n is over, the run by name of at least 65,536 (n + 1) has; and neither is ever stuck.
pub record CodeByModesBehavesAlike (list : ListTree) (p : Package) : Type 0 where
  -- the least tables of methods, and their modes by these
  pub tables : Tables
  pub are_its : HasModes list.ints p.files tables
  -- of each method but an initialiser, which is not written, the code is selected by its tables and mode
  pub selected : (f : Found) (m : Method) → method_at p.files f ≡ Some m
      → (let id = m.id in is_initialiser id.name ≡ false)
      → laid_code p m ≡ code_in p.files (near_fields (pool p)) tables (tables.mode m) m
  pub is_image : (let w = p.files in IsImage p.files (all_codes w.classes) p.image)
  pub alike : (script : Script) → Agree 4096 (run_by_name p.files p.image script) (run_by_label p script)
