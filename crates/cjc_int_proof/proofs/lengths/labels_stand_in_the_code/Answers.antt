use Rattle.cjc_int_proof.proofs.Leads.{all_labels_stand}
use Rattle.cjc_int_proof.proofs.lengths.labels_stand_in_the_code.Goals as goal

pub returns : goal.returns
returns c = all_labels_stand
