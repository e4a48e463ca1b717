use Rattle.cjc_tests_rules.specs.Tables.NameLaws.{names_stay}
use Rattle.cjc_types.proofs.Fixpoint.Marked.{marks_are}
use Rattle.cjc_tests_rules.proofs.TablesLaws.Meeting.{names_meet}
use Rattle.cjc_tests_rules.proofs.tables.names.met.Goals as goal

pub solve-requires-clause-marks : goal.solve-requires-clause-marks
solve-requires-clause-marks c = rw (c.in_ok-marks.ensures, ← c.requires.sized) (marks_are c.args.marked.now
    (λ lt. c.begins.ensures c.if-not-begins.false))

pub solve-requires-clause-stays : goal.solve-requires-clause-stays
solve-requires-clause-stays c = names_stay c.args.names.now c.args.code.now

pub solve-requires-clause-meets : goal.solve-requires-clause-meets
solve-requires-clause-meets c = rw c.in_ok-marks.ensures (names_meet c.args.names.now c.args.code.now c.args.marked.now
    c.requires.sized (c.all_go.ensures c.if-not-all_go.false))
