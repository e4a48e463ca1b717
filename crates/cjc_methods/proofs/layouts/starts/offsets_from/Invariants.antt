use Rattle.std.proofs.Common.{◌≡◌, ◌++◌, drop}
use Rattle.cjc_methods.specs.Layouts.Working.Offsets.{offsets_from}
use Rattle.cjc_methods.proofs.layouts.starts.offsets_from.Given as goal

abbrev pub invariant-loop-k : goal.invariant-loop-k
invariant-loop-k l = l.row ++ offsets_from l.at (drop l.k l.codes) (drop l.k l.laid) ≡ offsets_from l.first l.codes
    l.laid
