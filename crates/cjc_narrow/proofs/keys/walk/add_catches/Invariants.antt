use Rattle.std.proofs.Common.{◌≡◌, drop}
use Rattle.std.specs.List.{flat_map}
use Rattle.indexmap.specs.IndexSet.{insert_all}
use Rattle.cjc_ncode.specs.PoolOrder.{same_key}
use Rattle.cjc_narrow.specs.Keys.Working.Walk.{catch_keys, wanted}
use Rattle.cjc_narrow.proofs.keys.walk.add_catches.Given as goal

abbrev pub invariant-loop-catch : goal.invariant-loop-catch
invariant-loop-catch l = insert_all same_key l.numbers (flat_map (wanted l.fields catch_keys)
    (drop l.catch-index l.catches)) ≡ insert_all same_key l.fn.numbers (flat_map (wanted l.fields catch_keys) l.catches)
