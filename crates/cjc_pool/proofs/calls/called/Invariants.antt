use Rattle.std.proofs.Common.{◌≡◌, [], drop}
use Rattle.std.specs.List.{flat_map}
use Rattle.indexmap.specs.IndexSet.{insert_all}
use Rattle.cjc_narrow.specs.LowerNCode.PoolOrder.{same_key}
use Rattle.cjc_pool.specs.Working.Calls.{method_calls}
use Rattle.cjc_pool.proofs.calls.called.Given as goal

abbrev pub invariant-loop-method : goal.invariant-loop-method
invariant-loop-method l = insert_all same_key l.calls (flat_map method_calls (drop l.method-index l.methods))
    ≡ insert_all same_key [] (flat_map method_calls l.methods)
