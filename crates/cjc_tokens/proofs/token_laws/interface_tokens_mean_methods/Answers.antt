use Rattle.cjc_tokens.proofs.TokenLaws.Meant.{found_method, found_by_token, has_token}
use Rattle.cjc_tokens.proofs.token_laws.interface_tokens_mean_methods.Goals as goal

pub returns-clause-found : goal.returns-clause-found
returns-clause-found c = λ w class acyclic named t s e. found_method w acyclic class named t s e

pub returns-clause-assigned : goal.returns-clause-assigned
returns-clause-assigned c = λ applets files n class acyclic named there interface t s low e. found_by_token applets
    files n class acyclic named there interface t s low e

pub returns-clause-listed : goal.returns-clause-listed
returns-clause-listed c = λ w class m is. has_token w class m is
