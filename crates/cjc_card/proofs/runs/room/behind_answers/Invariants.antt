use Rattle.std.proofs.Common.{◌≡◌, ◌+◌, length, take}
use Rattle.std.specs.List.{sum_by}
use Rattle.cjc_card.proofs.runs.room.behind_answers.Given as goal

abbrev pub invariant-loop-answer : goal.invariant-loop-answer
invariant-loop-answer l = l.rest + sum_by (λ a. length a.acts) (take l.answer-index l.answers) ≡ l.left
