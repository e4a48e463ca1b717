use Rattle.std.proofs.Common.{length}
use Rattle.cjc_types.proofs.FixpointAllMarked.{all_are, all_meet}
use Rattle.cjc_tests_rules.specs.Flows.Names.{name_flow}
use Rattle.cjc_tests_rules.specs.Flows.NameLaws.{names_stay}
use Rattle.cjc_tests_rules.proofs.flows.gives.Goals as goal

pub solve-requires-clause-marks : goal.solve-requires-clause-marks
solve-requires-clause-marks c = rw c.in_ok-marks.ensures (all_are (length c.args.code.now))

pub solve-requires-clause-stays : goal.solve-requires-clause-stays
solve-requires-clause-stays c = names_stay c.args.names.now c.args.code.now

pub solve-requires-clause-meets : goal.solve-requires-clause-meets
solve-requires-clause-meets c = rw c.in_ok-marks.ensures (all_meet (name_flow c.args.names.now c.args.code.now)
    (length c.args.code.now) (names_stay c.args.names.now c.args.code.now))
