use Rattle.std.proofs.Common.{◌≡◌, ◌++◌, map}
use Rattle.std.specs.List.{AllByRecursion}
use Rattle.std.specs.Vec.Iter.{into_iter_items}
use Rattle.cjc_card_link.specs.Group.{group_part}
use Rattle.cjc_card_link.proofs.Gathering.{HasSmallClass}
use Rattle.cjc_card_link.proofs.tables.packages_of.Given as goal

abbrev pub invariant-loop-part : goal.invariant-loop-part
invariant-loop-part l =
    (l.packages ++ map group_part (into_iter_items l.part-iterator)
    ≡ map group_part (into_iter_items l.initial.part-iterator))
    × AllByRecursion HasSmallClass (into_iter_items l.part-iterator)
