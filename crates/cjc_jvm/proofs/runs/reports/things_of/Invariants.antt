use Rattle.std.proofs.Common.{◌≡◌, take}
use Rattle.cjc_jvm.proofs.runs.reports.things_of.Given as goal

abbrev pub invariant-loop-k : goal.invariant-loop-k
invariant-loop-k l = l.things ≡ take l.k l.heap
