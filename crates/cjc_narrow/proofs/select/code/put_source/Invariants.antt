use Rattle.std.proofs.Common.{◌≡◌, ◌++◌, replicate}
use Rattle.cjc_narrow.proofs.select.code.put_source.Given as goal

abbrev pub invariant-loop : goal.invariant-loop
invariant-loop l = l.from ≡ l.fn.from ++ replicate l.counter l.place
