use Rattle.cjc_joint_whole.proofs.WholeLaws.TokensThrough.{listed_tokens, meant_tokens}
use Rattle.cjc_joint_whole.proofs.exports.imported_tokens_are_the_exporters.Goals as goal

pub returns-clause-listed : goal.returns-clause-listed
returns-clause-listed c = λ packages linked q r p e here there x c known import kind h same own. listed_tokens packages
    linked q r p e here there x c known import kind h same own

pub returns-clause-meant : goal.returns-clause-meant
returns-clause-meant c = λ packages linked q r p e here there x c known import kind h same all once. meant_tokens packages
    linked q r p e here there x c known import kind h same all once
