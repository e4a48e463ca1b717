use Rattle.cjc_group.proofs.Decided.{grouped_spelt, spelt_grouped, grouped_broken, broken_grouped, one_group}
use Rattle.cjc_group.proofs.Decided.{one_refusal, not_both, always_one}
use Rattle.cjc_group.proofs.read.groups.Goals as goal

pub returns-clause-spells : goal.returns-clause-spells
returns-clause-spells c = λ name text ps. (grouped_spelt name text ps, spelt_grouped name text ps)

pub returns-clause-breaks : goal.returns-clause-breaks
returns-clause-breaks c = λ name text r. (grouped_broken name text r, broken_grouped name text r)

pub returns-clause-packages : goal.returns-clause-packages
returns-clause-packages c = λ text ps qs. one_group text ps qs

pub returns-clause-refusal : goal.returns-clause-refusal
returns-clause-refusal c = λ name text r s. one_refusal name text r s

pub returns-clause-both : goal.returns-clause-both
returns-clause-both c = λ name text ps r. not_both name text ps r

pub returns-clause-either : goal.returns-clause-either
returns-clause-either c = λ name text. always_one name text
