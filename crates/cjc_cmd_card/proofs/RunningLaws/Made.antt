-- From what was tested to what runs start from.
use Rattle.std.proofs.Common.{◌≡◌, ℕ, List, [], sym, subst, Some, Ok}
use Rattle.cjc_card.specs.CapRead.declared.tree.CapTree.{CapTree}
use Rattle.cjc_cmd_check.proofs.CheckingLaws.Sizes.{small_cap}
use Rattle.cjc_cmd_check.specs.Folder.Breaks.{ArePartsShort, cap_in, part_breaks}
use Rattle.cjc_cmd_jvm.specs.Judge.Judged.{IsJudged}
use Rattle.cjc_cmd_jvm.specs.Judge.declared.judged.Judged.{Judged}
use Rattle.cjc_cmd_jvm.specs.LowerScriptText.Scripted.{ScriptTree, scripted}
use Rattle.cjc_pairing.specs.CheckRules.Consistent.{Consistent}
use Rattle.cjc_cmd_card.specs.declared.running.input.Input.{Input}
use Rattle.cjc_cmd_card.specs.declared.running.ready.Ready.{Ready}
use Rattle.cjc_cmd_card.specs.Running.Ready.{IsReady, tested}
use Rattle.cjc_cmd_card.proofs.RunningLaws.Whole.{twelve_sizes, whole_of}

abbrev pub ready_of : Judged → CapTree → ScriptTree → Ready
ready_of judged cap script = record { judged = judged; cap = cap; script = script }

pub is_ready : (input : Input) (name : List ℕ) (judged : Judged) (cap checked : CapTree) (script : ScriptTree)
    → ArePartsShort input.parts → IsJudged input.list input.files tested judged → part_breaks input.parts ≡ []
    → cap_in input.parts ≡ Some cap → checked ≡ cap → Consistent cap (let world = judged.world in world.exports)
    → scripted name input.script ≡ Ok script → IsReady input name (ready_of judged checked script)
is_ready input name judged cap checked script short is_judged unbroken is_cap same consistent is_script =
    let w = whole_of cap (let world = judged.world in world.exports) (twelve_sizes input.parts cap is_cap) consistent
    (small_cap input.parts cap short is_cap) in
    subst (λ (c : CapTree). IsReady input name (ready_of judged c script)) (sym same) (record {
      judged = is_judged;
      unbroken = unbroken;
      cap = is_cap;
      whole = w.whole;
      complete_is = w.complete_is;
      small = w.small;
      consistent = consistent;
      script = is_script;
    })
