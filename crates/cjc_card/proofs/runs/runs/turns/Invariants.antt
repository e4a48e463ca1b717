use Rattle.std.proofs.Common.{◌≡◌, ◌≤◌, ◌+◌, ◌-◌}
use Rattle.cjc_card_semantics.specs.Bytecode.Machine
use Rattle.cjc_card_semantics.specs.Machine.ByToken.{by_token}
use Rattle.cjc_card.specs.States.{with_frame, objects_at_most}
use Rattle.cjc_card.proofs.runs.runs.turns.Given as goal

abbrev pub invariant-loop-i : goal.invariant-loop-i
invariant-loop-i g l =
    let set = by_token (g.L.LookUps.loaded l.links) in
    record {
      same : Machine.run set l.n l.fn.machine ≡ Machine.run set (l.n - l.i) (with_frame l.top l.machine);
      most : objects_at_most l.machine ≤ objects_at_most l.fn.machine + l.i;
      spent : l.machine.spent ≤ l.fn.machine.spent + l.i;
    }
