use Rattle.cjc_card_semantics.proofs.BytecodeLaws.Longer.{over_stays, notes_grow}
use Rattle.cjc_card_semantics.specs.Machine.ByToken.{by_token, start}
use Rattle.cjc_card_semantics.proofs.machine.runs_only_grow.Goals as goal

pub returns-clause-over : goal.returns-clause-over
returns-clause-over c = λ l script m n le over. over_stays (by_token l) m n (start l script) le over

pub returns-clause-notes : goal.returns-clause-notes
returns-clause-notes c = λ l script m n le. notes_grow (by_token l) m n (start l script) le
