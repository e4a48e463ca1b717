use Rattle.std.proofs.Common.{◌≡◌, ℕ, List, ap, ◌∙◌, map}
use Rattle.std.specs.List.{flat_map}
use Rattle.cjc_components.specs.LowerCheckRules.Spots.{starts}
use Rattle.cjc_components.specs.LowerCheckRules.Complete.{type_size}
use Rattle.cjc_components.specs.LowerClassOrder.Supers.Working.Walk.{with_all}
use Rattle.cjc_components.specs.Types.{desc_of_key, type_descriptor}
use Rattle.cjc_classes.specs.ClassInfo.Refs.{ref_of}
use Rattle.cjc_classes.specs.TypeInfo.Working.Descs.{descs_at, nibbles_of_each}
use Rattle.cjc_classes.proofs.TypeInfo.Order.{table_is}
use Rattle.cjc_classes.proofs.type_info.types.Types.of.Goals as goal

pub returns : goal.returns
returns c = λ p h.
    let refs = ref_of c.args.refs.now in
    let classes = flat_map (nibbles_of_each refs (descs_at c.args.world.now)) c.args.order.now in
    let keys = flat_map (nibbles_of_each refs desc_of_key) c.args.keys.now in
    table_is p c.args.world.now c.args.order.now c.args.keys.now refs c.put_classes.new.self c.in_ok-starts.starts h
    (c.in_ok-put_classes.ensures ∙ ap (λ (ks : List (List ℕ)). with_all ks classes) (c.in_ok-put_keys.ensures
    ∙ ap (λ (ks : List (List ℕ)). with_all ks keys) c.new.ensures.empty))
    (c.in_ok-starts.ensures ∙ ap (λ n. starts type_size n (map type_descriptor c.put_classes.new.self))
    c.in_ok-first_start.ensures)
