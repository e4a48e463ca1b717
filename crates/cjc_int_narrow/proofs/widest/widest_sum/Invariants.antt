use Rattle.std.proofs.Common.{◌≡◌, ◌+◌, drop}
use Rattle.cjc_ncode.specs.IntCode.IntCode.{widest_sum}
use Rattle.cjc_narrow.specs.Select.Working.Names.{resolution_of}
use Rattle.cjc_int_narrow.specs.Reached.{reached_by}
use Rattle.cjc_int_narrow.specs.Working.Walks.{all_widest}
use Rattle.cjc_int_narrow.proofs.widest.widest_sum.Given as goal

abbrev pub invariant-loop-k : goal.invariant-loop-k
invariant-loop-k l =
    let r = resolution_of l.names in
    l.total + all_widest r (drop l.k l.insns) (drop l.k l.befores) ≡ widest_sum l.frame r (reached_by l.insns l.befores)
