use Rattle.cjc_narrow_proof.proofs.SelectionLaws.Drops.{nop, i2s}
use Rattle.cjc_narrow_proof.proofs.selection.nothing_changes_no_word.Goals as goal

pub returns-clause-nop : goal.returns-clause-nop
returns-clause-nop c = nop

pub returns-clause-i2s : goal.returns-clause-i2s
returns-clause-i2s c = i2s
