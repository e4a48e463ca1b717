use Rattle.cjc_verify_proof.proofs.GrowthLaws.{pushed_extends, zeros_pushed, nulls_pushed}
use Rattle.cjc_verify_proof.proofs.growth.new_arrays_keep_heaps.Goals as goal

pub returns-clause-extends : goal.returns-clause-extends
returns-clause-extends c = pushed_extends

pub returns-clause-numbers : goal.returns-clause-numbers
returns-clause-numbers c = zeros_pushed

pub returns-clause-references : goal.returns-clause-references
returns-clause-references c = nulls_pushed
