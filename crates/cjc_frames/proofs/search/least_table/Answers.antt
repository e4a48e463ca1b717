use Rattle.std.proofs.Common.{length}
use Rattle.cjc_fixpoint.proofs.AllMarked.{all_are, all_meet}
use Rattle.cjc_frames.specs.Flow.{frame_flow}
use Rattle.cjc_frames.specs.Working.FlowLaws.{frame_flow_stays}
use Rattle.cjc_frames.proofs.search.least_table.Goals as goal

pub solve-requires-clause-marks : goal.solve-requires-clause-marks
solve-requires-clause-marks c = rw c.in_ok-marks.ensures (all_are c.places-places.result)

pub solve-requires-clause-stays : goal.solve-requires-clause-stays
solve-requires-clause-stays c = rw c.places-places.ensures (frame_flow_stays c.args.method.now)

pub solve-requires-clause-meets : goal.solve-requires-clause-meets
solve-requires-clause-meets c = rw (c.in_ok-marks.ensures, c.places-places.ensures)
    (all_meet (frame_flow c.args.method.now)
    (length (let m = c.args.method.now in m.steps)) (frame_flow_stays c.args.method.now))
