use Rattle.std.proofs.Common.{List, ◌+◌, ap, ◌∙◌, length, ◌==◌, None}
use Rattle.cjc_capread.specs.declared.tree.ClassDescriptor.{ClassDescriptor}
use Rattle.cjc_capread.specs.declared.tree.PoolEntry.{PoolEntry}
use Rattle.cjc_check_rules.specs.ClassRefs.{pool_count_at}
use Rattle.cjc_check_rules.specs.Described.{all_ascend, types_in_pool}
use Rattle.cjc_check_rules.specs.Spots.{first, in_info, unless}
use Rattle.cjc_check_rules.proofs.Firsts.{joined}
use Rattle.cjc_check_tables.proofs.links.described.described_spot.Goals as goal

pub returns : goal.returns
returns c =
    let info = c.args.names.now.parts.now.class.now in
    let d = c.args.names.now.parts.now.descriptor.now in
    let methods = c.all_ascend-methods.ensures ∙ ap (λ (ds : List ClassDescriptor). first (all_ascend info None 1 ds))
    c.items.ensures in
    let count = c.count_spot-count.ensures
    ∙ ap (λ (es : List PoolEntry). first (unless (length d.pool_types == length es) (in_info 11 (pool_count_at d))))
    c.items-entries.ensures in
    let pool = c.types_in_pool-pool.ensures
    ∙ ap (λ (es : List PoolEntry). first (types_in_pool d (pool_count_at d + 2) d.pool_types es))
    c.items-entries.ensures in
    let two = c.earlier.ensures ∙ joined _ _ _ _ c.classes_in_order-classes.ensures methods in
    let three = c.earlier-2.ensures ∙ joined _ _ _ _ two c.types_in_classes-members.ensures in
    let four = c.earlier-3.ensures ∙ joined _ _ _ _ three count in
    c.earlier-4.ensures ∙ joined _ _ _ _ four pool
