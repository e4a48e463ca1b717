use Rattle.cjc_judge.proofs.ranges.numbers.verdict_of.Goals as goal

pub verdict_by-requires-clause-ranging : goal.verdict_by-requires-clause-ranging
verdict_by-requires-clause-ranging c = c.in_ok-ranging.ensures
