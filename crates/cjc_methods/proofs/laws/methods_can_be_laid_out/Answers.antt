use Rattle.cjc_methods.proofs.Laid.{all_whole}
use Rattle.cjc_methods.proofs.laws.methods_can_be_laid_out.Goals as goal

pub returns : goal.returns
returns c = λ files codes types modes ready sized t told near members own. all_whole files codes types modes ready t
    told sized near members own
