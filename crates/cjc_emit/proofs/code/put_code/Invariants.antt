use Rattle.std.proofs.Common.{◌≡◌, ◌++◌, drop}
use Rattle.cjc_emit.specs.Working.{all_written, label_at}
use Rattle.cjc_emit.proofs.code.put_code.Given as goal

abbrev pub invariant-loop-k : goal.invariant-loop-k
invariant-loop-k g l = l.out ++ all_written (g.P.PoolLookup.pool_keys l.pool) (g.P.PoolLookup.method_token l.pool)
    (label_at l.places l.end) l.places l.k (drop l.k l.insns) (drop l.k l.wide) ≡ l.fn.out
    ++ all_written (g.P.PoolLookup.pool_keys l.pool) (g.P.PoolLookup.method_token l.pool) (label_at l.places l.end)
    l.places 0 l.insns l.wide
