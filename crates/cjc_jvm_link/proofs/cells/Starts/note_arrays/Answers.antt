use Rattle.std.proofs.Common.{◌∙◌}
use Rattle.cjc_jvm_link.specs.Starts.{start_in}
use Rattle.cjc_jvm_link.proofs.Starting.{arrays_step}
use Rattle.cjc_jvm_link.proofs.cells.Starts.note_arrays.Goals as goal

pub loop-place-preserved : goal.loop-place-preserved
loop-place-preserved c = λ id.
    c.in_ok-note.ensures id
    ∙ arrays_step c.args.arrays.now c.loop-place.place c.index-arrays-place.result id (start_in c.loop-place.self id)
    c.loop-place-test.true c.index-arrays-place.is (c.loop-place.invariant id)
