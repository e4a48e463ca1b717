use Rattle.std.proofs.Common.{◌≡◌, [], true, false, ap, ◌∙◌}
use Rattle.std.specs.List.{flat_map}
use Rattle.indexmap.specs.IndexSet.{insert_all}
use Rattle.cjc_ncode.specs.PoolOrder.{any_exception, method_keys, same_key}
use Rattle.cjc_narrow.specs.Keys.Working.Walk.{wanted}
use Rattle.cjc_narrow.proofs.KeysLaws.Walks.{in_pool_order}
use Rattle.cjc_narrow.proofs.keys.walk.number.Goals as goal

pub returns : goal.returns
returns c =
    let methods = c.args.methods.now in
    c.in_ok-add_methods-2.ensures
    ∙ (ap (λ ks. insert_all same_key ks (flat_map (wanted false method_keys) methods))
    (c.in_ok-add_methods.ensures
    ∙ ap (λ ks. insert_all same_key ks (flat_map (wanted true method_keys) methods))
    (c.in_ok-add_exception.ensures ∙ ap (λ ks. insert_all same_key ks (any_exception methods)) c.new-numbers.ensures))
    ∙ in_pool_order methods)
