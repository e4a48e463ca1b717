use Rattle.cjc_components.specs.Package.{world}
use Rattle.cjc_token_proof.proofs.TablesLaws.Clean.{has_named, kept}
use Rattle.cjc_token_proof.proofs.TablesLaws.Order.{own_names}
use Rattle.cjc_token_proof.proofs.tables.classes_keep_rules.Goals as goal

pub returns-clause-rules : goal.returns-clause-rules
returns-clause-rules c = λ list p sound x d e. kept list p.files sound d (has_named (world p) x d e)

pub returns-clause-order : goal.returns-clause-order
returns-clause-order c = λ list p sound. own_names list p.files sound
