use Rattle.std.proofs.Common.{◌≡◌, ◌++◌, drop}
use Rattle.cjc_narrow.specs.Written.Working.Places.{starts}
use Rattle.cjc_narrow.proofs.written.places.starts.Given as goal

abbrev pub invariant-loop-k : goal.invariant-loop-k
invariant-loop-k l = l.row ++ starts l.before (drop l.k l.insns) (drop l.k l.reaches) (drop l.k l.roles)
    ≡ starts 0 l.insns l.reaches l.roles
