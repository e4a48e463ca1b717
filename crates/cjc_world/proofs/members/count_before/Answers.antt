use Rattle.std.proofs.Common.{rules}
use Rattle.std.specs.Ordering.{is_lt}
use Rattle.std.proofs.lemmas.List.Sorted.{IsPartitionPoint-from_clause}
use Rattle.cjc_world.specs.Rules.{members}
use Rattle.cjc_world.specs.Working.Known.{class_of}
use Rattle.cjc_world.specs.Working.Members.{id_at, id_cmp}
use Rattle.cjc_world.proofs.Called.{parted}
use Rattle.cjc_world.proofs.members.count_before.Goals as goal

pub returns-clause-point : goal.returns-clause-point
returns-clause-point c =
    let ms = members c.args.field (class_of c.args.class) in
    IsPartitionPoint-from_clause (λ p. is_lt (id_cmp (id_at ms p) (c.args.name.now, c.args.desc.now))) _ _
    c.partition_point.ensures.partitioned (parted ms c.args.places.now c.requires c.args.name.now c.args.desc.now)
    (λ a r q k. search rules)
