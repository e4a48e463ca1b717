use Rattle.std.proofs.Common.{◌≡◌, ◌++◌, replicate}
use Rattle.cjc_range.specs.Span.{full}
use Rattle.cjc_flow.proofs.entry.first.Given as goal

abbrev pub invariant-loop : goal.invariant-loop
invariant-loop l = l.locals.items ≡ l.initial.locals.items ++ replicate l.counter full
