use Rattle.std.proofs.Common.{◌≡◌, ◌≤◌, ◌+◌, ℕ, drop, length}
use Rattle.cjc_jvm_step.specs.CardSemantics.Bytecode.Runs.{Move}
use Rattle.cjc_jvm_semantics.specs.Machine.{State, after_acts, with_heap}
use Rattle.cjc_jvm.proofs.acts.acts.perform.Given as goal

abbrev pub invariant-loop-one : goal.invariant-loop-one
invariant-loop-one g l =
    let linked = g.L.LookUps.linked l.links in
    record {
      acts : (number : ℕ) (s : State) (go : State → Move State)
          → after_acts linked l.acts number (with_heap l.fn.heap s) go ≡ after_acts linked (drop l.one-index l.acts)
          number (with_heap l.heap s) go;
      len : length l.heap ≤ length l.fn.heap + l.one-index;
    }
