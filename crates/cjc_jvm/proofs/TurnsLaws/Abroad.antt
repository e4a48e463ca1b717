-- Imported calls and their answers.
use Rattle.std.proofs.Common.{◌≡◌, ℕ, List, ◌∷◌, ap, ◌∙◌, Bool}
use Rattle.std.specs.Prelude.{Option, if◌then◌else◌}
use Rattle.cjc_jvm_step.specs.Script.declared.script.Answer.{Answer}
use Rattle.cjc_jvm_step.specs.Script.declared.report.Outcome.TheVariants.{Unfit}
use Rattle.cjc_jvm_step.specs.Script.declared.report.Thing.{Thing}
use Rattle.cjc_jvm_step.specs.Script.Sorts.{Sort}
use Rattle.cjc_jvm_step.specs.CardSemantics.Bytecode.Runs.{Move, Over}
use Rattle.cjc_jvm_semantics.specs.Linked.{Linked}
use Rattle.cjc_jvm_semantics.specs.Machine.{Frame, State, report, heap_of, with_heap, after_acts, after_answer}
use Rattle.cjc_jvm_semantics.specs.Machine.{after_reply}

-- the state after an answer's acts
abbrev pub with_answer : (answers : List Answer) → (heap : List Thing) → (before : List Frame) → State → State
with_answer answers heap before s = with_heap heap (record s { frames = before; answers = answers })

-- the next answer, after acts that fit or do not
pub answer_by : (l : Linked) (a : Answer) (rest : List Answer) (result : Option Sort) (f : Frame) (outer : List Frame)
    (s : State) (heap : List Thing) (done : Bool) → s.answers ≡ a ∷ rest
    → ((number : ℕ) (t : State) (go : State → Move State) → after_acts l a.acts number (with_heap (heap_of s) t) go
    ≡ (if done then go (with_heap heap t) else Over (report (Unfit number) (with_heap heap t)))) → (before : List Frame)
    → after_answer l s.answers result f outer (record s { frames = before }) ≡ (if done
    then after_reply l a.reply a.number result f outer (with_answer rest heap before s)
    else Over (report (Unfit a.number) (with_answer rest heap before s)))
answer_by l a rest result f outer s heap done e acts before =
    ap (λ left. after_answer l left result f outer (record s { frames = before })) e
    ∙ acts a.number (record s { frames = before; answers = rest }) (λ t. after_reply l a.reply a.number result f outer
    t)
