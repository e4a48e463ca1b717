use Rattle.std.proofs.Common.{◌≡◌, drop}
use Rattle.std.specs.List.{flat_map}
use Rattle.indexmap.specs.IndexSet.{insert_all}
use Rattle.cjc_ncode.specs.PoolOrder.{same_key}
use Rattle.cjc_ncode.specs.PoolOrder.{method_keys}
use Rattle.cjc_narrow.specs.Keys.Working.Walk.{wanted}
use Rattle.cjc_narrow.proofs.keys.walk.add_methods.Given as goal

abbrev pub invariant-loop-method : goal.invariant-loop-method
invariant-loop-method l = insert_all same_key l.numbers (flat_map (wanted l.fields method_keys)
    (drop l.method-index l.methods)) ≡ insert_all same_key l.fn.numbers (flat_map (wanted l.fields method_keys)
    l.methods)
