use Rattle.cjc_emit.proofs.EmitLaws.Said.{layout_laid, layout_written}
use Rattle.cjc_emit.proofs.emit_laws.layouts_can_be_said.Goals as goal

pub returns-clause-written : goal.returns-clause-written
returns-clause-written c = layout_written

pub returns-clause-laid_out : goal.returns-clause-laid_out
returns-clause-laid_out c = layout_laid
