use Rattle.std.proofs.Common.{◌≡◌, ◌++◌, drop, length}
use Rattle.cjc_ncode.specs.IntCode.IntCode.{sources, written_from}
use Rattle.cjc_narrow.specs.Select.Working.Names.{resolution_of}
use Rattle.cjc_narrow.specs.Written.Labels.{place_of}
use Rattle.cjc_int_narrow.specs.Reached.{places_by, reached_by}
use Rattle.cjc_int_narrow.specs.Working.Walks.{starts}
use Rattle.cjc_int_narrow.proofs.code.put_all.Given as goal

abbrev pub invariant-loop-k : goal.invariant-loop-k
invariant-loop-k l =
    let r = resolution_of l.names in
    let p = place_of l.places in
    record {
      insns : l.out ++ written_from l.frame r p (length l.out) (reached_by (drop l.k l.insns) (drop l.k l.befores))
          ≡ l.fn.out ++ written_from l.frame r p (length l.fn.out) (reached_by l.insns l.befores);
      from : l.from ++ sources l.frame r (reached_by (drop l.k l.insns) (drop l.k l.befores))
          (places_by l.k (drop l.k l.insns) (drop l.k l.befores))
          ≡ l.fn.from ++ sources l.frame r (reached_by l.insns l.befores) (places_by 0 l.insns l.befores);
      starts : l.counts ++ starts l.frame r (length l.out) (drop l.k l.insns) (drop l.k l.befores)
          ≡ l.fn.counts ++ starts l.frame r (length l.fn.out) l.insns l.befores;
    }
