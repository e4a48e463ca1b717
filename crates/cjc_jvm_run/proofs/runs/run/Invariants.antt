use Rattle.std.proofs.Common.{◌≡◌, ◌≤◌, ◌+◌, ◌-◌}
use Rattle.cjc_bytecode.specs.Runs
use Rattle.cjc_by_name.specs.Machine
use Rattle.cjc_by_name.specs.Machine.{device, start}
use Rattle.cjc_turns.specs.States.{with_frame, objects_at_most}
use Rattle.cjc_jvm_run.proofs.runs.run.Given as goal

abbrev pub invariant-loop-i : goal.invariant-loop-i
invariant-loop-i g l =
    let linked = g.L.LookUps.linked l.links in
    record {
      same : Machine.run linked l.script l.n ≡ Runs.run (device linked) (l.n - l.i) (with_frame l.top l.machine);
      most : objects_at_most l.machine ≤ objects_at_most (start linked l.script) + l.i;
      spent : l.machine.spent ≤ l.i;
    }
