-- What the code and its proofs keep for themselves; a reader of the contracts may pass over it.
use Rattle.std.specs.Prelude.{[]}
use Rattle.cjc_cmd_card.specs.Running.Ready.{IsReady}
use Rattle.cjc_cmd_card.specs.declared.running.input.Input.{Input}
use Rattle.cjc_cmd_card.specs.declared.running.ready.Ready.{Ready}
use Rattle.cjc_cmd_card.specs.CapRead.declared.tree.CapTree.{CapTree}
use Rattle.cjc_cmd_card.specs.LowerScriptText.Scripted.{ScriptTree}
use Rattle.cjc_verify_theorem.specs.Judge.declared.judged.Judged.{Judged}

-- what was tested, with a script
abbrev pub ready_of : Judged → CapTree → ScriptTree → Ready
ready_of judged cap script = record { judged = judged; cap = cap; script = script }

-- The package and the components were tested, with the script of no lines.
pub record AreChecked (input : Input) (judged : Judged) (cap : CapTree) : Type 0 where
  pub script : ScriptTree
  pub is_ready : IsReady input [] (ready_of judged cap script)
