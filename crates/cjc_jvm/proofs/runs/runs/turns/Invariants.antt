use Rattle.std.proofs.Common.{◌≡◌, ◌≤◌, ◌+◌, ◌-◌}
use Rattle.cjc_jvm_step.specs.CardSemantics.Bytecode.Runs
use Rattle.cjc_jvm_semantics.specs.Machine.{device}
use Rattle.cjc_jvm.specs.States.{with_frame, objects_at_most}
use Rattle.cjc_jvm.proofs.runs.runs.turns.Given as goal

abbrev pub invariant-loop-i : goal.invariant-loop-i
invariant-loop-i g l =
    let device_of = device (g.L.LookUps.linked l.links) in
    record {
      same : Runs.run device_of l.n l.fn.machine ≡ Runs.run device_of (l.n - l.i) (with_frame l.top l.machine);
      most : objects_at_most l.machine ≤ objects_at_most l.fn.machine + l.i;
      spent : l.machine.spent ≤ l.fn.machine.spent + l.i;
    }
