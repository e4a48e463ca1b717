use Rattle.std.proofs.Common.{◌≡◌, max, drop}
use Rattle.cjc_ncode.specs.IntCode.IntCode.{scratch_pairs}
use Rattle.cjc_int_narrow.specs.Reached.{reached_by}
use Rattle.cjc_int_narrow.proofs.scratch.most_pairs.Given as goal

abbrev pub invariant-loop-k : goal.invariant-loop-k
invariant-loop-k l = max l.pairs (scratch_pairs (reached_by (drop l.k l.insns) (drop l.k l.befores)))
    ≡ scratch_pairs (reached_by l.insns l.befores)
