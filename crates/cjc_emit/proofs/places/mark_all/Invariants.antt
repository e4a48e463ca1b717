use Rattle.std.proofs.Common.{◌≡◌, ◌++◌, drop}
use Rattle.cjc_emit.specs.Working.{all_marked}
use Rattle.cjc_emit.proofs.places.mark_all.Given as goal

abbrev pub invariant-loop-k : goal.invariant-loop-k
invariant-loop-k l = record {
  ones : l.ones ++ all_marked 1 l.head l.places l.k (drop l.k l.insns) ≡ l.fn.ones
      ++ all_marked 1 l.head l.places 0 l.insns;
  twos : l.twos ++ all_marked 2 l.head l.places l.k (drop l.k l.insns) ≡ l.fn.twos
      ++ all_marked 2 l.head l.places 0 l.insns;
}
