use Rattle.std.proofs.Common.{List, subst}
use Rattle.cjc_jvm_semantics.specs.ByName.{run as run_by_name}
use Rattle.cjc_classes.specs.List.Listed.{ListTree}
use Rattle.cjc_classes.specs.Narrow.Rows.Selected.{near_fields}
use Rattle.cjc_check_proof.specs.TokenProof.Tables.Loading.{loaded}
use Rattle.cjc_check_proof.specs.TokenProof.WrittenCalls.Standing.{laid_code}
use Rattle.cjc_components.specs.Bytecode.declared.method_code.MethodCode.{MethodCode}
use Rattle.cjc_components.specs.Package.{Package, pool}
use Rattle.cjc_narrow_proof.specs.CardSemantics.Bytecode.Runs.{Agree}
use Rattle.cjc_narrow_proof.specs.CardSemantics.Machine.ByToken.{run as run_by_token}
use Rattle.cjc_narrow_proof.specs.NCode.ByLabel as labels
use Rattle.cjc_narrow_proof.specs.Script.declared.script.Script.{Script}
use Rattle.cjc_narrow_proof.specs.NCode.ByLabel.{Named}
use Rattle.cjc_theorem.proofs.AlikeLaws.Agreeing.{agree_also}
use Rattle.cjc_theorem.proofs.SoundRuns.Lookups.{same_look_ups}
use Rattle.cjc_theorem.specs.Alike.Halves.{run_by_label}
use Rattle.cjc_int_alike.specs.ByModes.{codes_by_mode}
use Rattle.cjc_int_components.specs.Modes.{Tables}
use Rattle.cjc_int_theorem.specs.Alike.{BehavesByModes}
use Rattle.cjc_int_theorem.proofs.SameCode.{same_code}
use Rattle.cjc_int_theorem.proofs.alike.components_by_modes_behave_as_class_files.Goals as goal

pub returns-clause-code : goal.returns-clause-code
returns-clause-code c = λ list codes t p is tables in_int_mode are. same_code list codes t p is tables in_int_mode are

labels_agree : goal.After-packages_by_modes_run_alike → (list : ListTree) (codes : List MethodCode) (t : Tables)
    (p : Package) → BehavesByModes list codes t p → (script : Script)
    → Agree 4096 (λ n. run_by_name p.files p.image script n) (λ n. run_by_label p script n)
labels_agree c list codes t p is script =
    let near = near_fields (pool p) in
    subst (λ (l : Named). Agree 4096 (λ n. run_by_name p.files p.image script n) (λ n. labels.run l script n))
    (same_look_ups p.files p.image (codes_by_mode p.files p.image near is.tables is.in_int_mode) (laid_code p)
    (same_code list codes t p is.converted is.tables is.in_int_mode is.are_its))
    (c.packages_by_modes_run_alike.ensures.runs p.files p.image near is.tables is.in_int_mode is.narrowed script)

pub returns-clause-labels : goal.returns-clause-labels
returns-clause-labels = labels_agree

pub returns-clause-runs : goal.returns-clause-runs
returns-clause-runs c = λ list codes t p is script.
    (let agree = labels_agree c list codes t p is script in
    agree_also 4096 4096 (λ n m le. le) (λ n. run_by_name p.files p.image script n) (λ n. run_by_label p script n)
    (λ n. run_by_token (loaded p) script n) agree
    (λ n. c.components_by_modes_run_by_token.ensures list codes t p is.converted is.sends script n
    (λ at. (agree.never_stuck n at).1)))
