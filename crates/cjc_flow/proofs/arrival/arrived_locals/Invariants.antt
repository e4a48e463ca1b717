use Rattle.std.proofs.Common.{◌≡◌, take, option_map}
use Rattle.cjc_types.specs.declared.table.Frame.{Frame}
use Rattle.cjc_flow.proofs.Arriving.{all}
use Rattle.cjc_flow.proofs.arrival.arrived_locals.Given as goal

abbrev pub invariant-loop-k : goal.invariant-loop-k
invariant-loop-k l = l.arrived.items ≡ take l.k (all (option_map (λ (f : Frame). f.locals) l.frame) l.rounds l.locals)
