use Rattle.cjc_first.proofs.form.+is_tail.Given as goal

abbrev pub decreases-is_tail : goal.decreases-is_tail
decreases-is_tail l = l.params
