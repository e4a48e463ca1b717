use Rattle.std.proofs.Common.{◌≡◌, ◌-◌, drop, length, option_map}
use Rattle.cjc_types.specs.declared.table.Frame.{Frame}
use Rattle.cjc_flow.proofs.Arriving.{all}
use Rattle.cjc_flow.proofs.arrival.arrived_cells.Given as goal

abbrev pub invariant-loop-i : goal.invariant-loop-i
invariant-loop-i l = l.arrived ≡ drop (length l.stack - l.i) (all (option_map (λ (f : Frame). f.stack) l.frame) l.rounds
    l.stack)
