use Rattle.cjc_components.specs.Package.{world}
use Rattle.cjc_token_proof.proofs.TablesLaws.Clean.{has_named}
use Rattle.cjc_token_proof.proofs.TablesLaws.Named.{has_entry, has_info, has_none}
use Rattle.cjc_token_proof.proofs.tables.names_are_placed.Goals as goal

pub returns-clause-own : goal.returns-clause-own
returns-clause-own c = λ list p sound x d e own. has_info list p sound d (has_named (world p) x d e) own

pub returns-clause-file : goal.returns-clause-file
returns-clause-file c = λ list p sound x d e im. has_entry list p sound d (has_named (world p) x d e) im

pub returns-clause-none : goal.returns-clause-none
returns-clause-none c = λ list p sound x e. has_none list p sound x e
