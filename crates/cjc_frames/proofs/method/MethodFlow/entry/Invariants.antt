use Rattle.std.proofs.Common.{◌≡◌, ◌++◌, replicate}
use Rattle.cjc_types.specs.declared.cell.Cell.TheVariants.{Unusable}
use Rattle.cjc_frames.proofs.method.MethodFlow.entry.Given as goal

abbrev pub invariant-loop : goal.invariant-loop
invariant-loop l = l.locals.items ≡ l.initial.locals.items ++ replicate l.counter Unusable
