use Rattle.cjc_emit.proofs.Steps.{step_written}
use Rattle.cjc_emit.specs.Working.{label_at}
use Rattle.cjc_emit.proofs.code.put_code.Goals as goal

pub loop-k-preserved : goal.loop-k-preserved
loop-k-preserved g c = step_written (g.P.PoolLookup.pool_keys c.args.pool.now) (g.P.PoolLookup.method_token
    c.args.pool.now) (label_at c.args.places.now c.args.end) c.args.places.now c.args.insns.now c.args.wide.now
    c.loop-k.k c.index-insns-k.result c.loop-k.out c.put.new.out _ c.loop-k-test.true c.requires.wide c.index-insns-k.is
    c.loop-k.invariant c.in_ok-put.ensures
