-- Descriptor has the classes of Class in order, by 718.
use Rattle.std.proofs.Common.{◌≡◌, [], ◌==◌, ◌++◌, length}
use Rattle.std.specs.Prelude.{◌+◌, None}
use Rattle.cjc_check_rules.specs.ClassRefs.{pool_count_at}
use Rattle.cjc_check_rules.specs.Complete.{Complete, described_size}
use Rattle.cjc_check_rules.specs.Described.{all_ascend, all_starts, classes_in_order, descriptor_spots, types_in_class}
use Rattle.cjc_check_rules.specs.Described.{types_in_pool}
use Rattle.cjc_check_rules.specs.Spots.{along, in_info, unless}
use Rattle.cjc_bytes.proofs.Lists.{none_left}

pub ordered : (c : Complete) → descriptor_spots c ≡ [] → (let d = c.descriptor in classes_in_order d.classes
    (all_starts c.class)) ≡ []
ordered q clean =
    let d = q.descriptor in
    let e = q.pool in
    let order = classes_in_order d.classes (all_starts q.class) in
    let methods = all_ascend q.class None 1 d.classes in
    let types = along described_size (types_in_class d) 1 d.classes in
    let many = unless (length d.pool_types == length e.entries) (in_info 11 (pool_count_at d)) in
    let entries = types_in_pool d (pool_count_at d + 2) d.pool_types e.entries in
    none_left order methods (none_left (order ++ methods) types (none_left (order ++ methods ++ types) many
    (none_left (order ++ methods ++ types ++ many) entries clean)))
