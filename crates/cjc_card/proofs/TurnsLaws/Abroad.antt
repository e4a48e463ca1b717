-- Imported calls and their answers.
use Rattle.std.proofs.Common.{◌≡◌, ℕ, List, ◌∷◌, ap, ◌∙◌, Bool}
use Rattle.std.specs.Prelude.{Option, if◌then◌else◌}
use Rattle.cjc_script.specs.declared.script.Answer.{Answer}
use Rattle.cjc_script.specs.declared.report.Outcome.TheVariants.{Unfit}
use Rattle.cjc_script.specs.Sorts.{Sort}
use Rattle.cjc_card_semantics.specs.Bytecode.Machine.{Ended, turn_after_answer, turn_after_acts, turn_after_reply}
use Rattle.cjc_card_semantics.specs.Bytecode.Machine.{with_heap}
use Rattle.cjc_card_semantics.specs.Machine.Loaded.{Loaded}
use Rattle.cjc_card_semantics.specs.Machine.ByToken.{by_token}
use Rattle.cjc_card.specs.Acts.States.{FrameByToken, HeapByToken, StateByToken, TurnByToken}
use Rattle.cjc_card.specs.States.{heap_of}

-- the state after an answer's acts
abbrev pub with_answer : Loaded → List Answer → HeapByToken → (had : List FrameByToken) → StateByToken → StateByToken
with_answer l answers heap had s = with_heap (by_token l) heap (record s { frames = had; answers = answers })

-- the next answer, after acts that fit or do not
pub answer_by : (l : Loaded) (a : Answer) (rest : List Answer) (result : Option Sort) (f : FrameByToken)
    (outer : List FrameByToken) (s : StateByToken) (heap : HeapByToken) (done : Bool) → s.answers ≡ a ∷ rest
    → ((number : ℕ) (t : StateByToken) (go : StateByToken → TurnByToken)
    → turn_after_acts (by_token l) a.acts number (with_heap (by_token l) (heap_of s) t) go ≡ (if done
    then go (with_heap (by_token l) heap t) else Ended (Unfit number) (with_heap (by_token l) heap t)))
    → (had : List FrameByToken) → turn_after_answer (by_token l) s.answers result f outer (record s { frames = had })
    ≡ (if done then turn_after_reply (by_token l) a.reply a.number result f outer (with_answer l rest heap had s)
    else Ended (Unfit a.number) (with_answer l rest heap had s))
answer_by l a rest result f outer s heap done e acts had =
    ap (λ (left : List Answer). turn_after_answer (by_token l) left result f outer (record s { frames = had })) e
    ∙ acts a.number (record s { frames = had; answers = rest }) (λ t. turn_after_reply (by_token l) a.reply a.number
    result f outer t)
