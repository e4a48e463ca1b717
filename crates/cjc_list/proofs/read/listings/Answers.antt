use Rattle.cjc_list.proofs.Decided.{listed_spelt, spelt_listed, listed_broken, broken_listed, one_list, one_refusal}
use Rattle.cjc_list.proofs.Decided.{not_both, always_one}
use Rattle.cjc_list.proofs.read.listings.Goals as goal

pub returns-clause-spells : goal.returns-clause-spells
returns-clause-spells c = λ name text t. (listed_spelt name text t, spelt_listed name text t)

pub returns-clause-breaks : goal.returns-clause-breaks
returns-clause-breaks c = λ name text r. (listed_broken name text r, broken_listed name text r)

pub returns-clause-list : goal.returns-clause-list
returns-clause-list c = λ name text s t. one_list name text s t

pub returns-clause-refusal : goal.returns-clause-refusal
returns-clause-refusal c = λ name text r s. one_refusal name text r s

pub returns-clause-both : goal.returns-clause-both
returns-clause-both c = λ name text t r. not_both name text t r

pub returns-clause-either : goal.returns-clause-either
returns-clause-either c = λ name text. always_one name text
