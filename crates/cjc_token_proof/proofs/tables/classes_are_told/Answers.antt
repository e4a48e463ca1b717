use Rattle.cjc_token_proof.proofs.TablesLaws.Above.{says_kinds}
use Rattle.cjc_token_proof.proofs.TablesLaws.Tables.{kinds_agree, names_agree}
use Rattle.cjc_token_proof.proofs.TablesLaws.Telling.{has_lang, says_names}
use Rattle.cjc_token_proof.proofs.tables.classes_are_told.Goals as goal

pub returns-clause-kinds : goal.returns-clause-kinds
returns-clause-kinds c = λ list p sound. says_kinds list p sound

pub returns-clause-subtypes : goal.returns-clause-subtypes
returns-clause-subtypes c = λ list p sound. kinds_agree list p sound

pub returns-clause-names : goal.returns-clause-names
returns-clause-names c = λ list p sound. says_names list p sound

pub returns-clause-language : goal.returns-clause-language
returns-clause-language c = λ list p sound. has_lang list p sound

pub returns-clause-agree : goal.returns-clause-agree
returns-clause-agree c = λ list p sound. names_agree list p sound
