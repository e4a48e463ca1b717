use Rattle.cjc_written_calls.proofs.Held.{methods_held}
use Rattle.cjc_written_calls.proofs.methods_stand.Goals as goal

pub returns : goal.returns
returns c = λ p ready. methods_held c.layouts_are_laid_out.ensures.forms c.layouts_are_laid_out.ensures.offsets p ready
