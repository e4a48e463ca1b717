use Rattle.cjc_token_proof.proofs.TablesLaws.Fields.{token_is}
use Rattle.cjc_token_proof.proofs.TablesLaws.Objects.{has_objects}
use Rattle.cjc_token_proof.proofs.tables.objects_are_told.Goals as goal

pub returns-clause-tokens : goal.returns-clause-tokens
returns-clause-tokens c = λ list p sound n i t f is_class e h. token_is list p sound n t is_class i f e h

pub returns-clause-objects : goal.returns-clause-objects
returns-clause-objects c = λ list p sound typed x fields h. has_objects list p sound typed x fields h
