use Rattle.std.proofs.Common.{◌≡◌, drop}
use Rattle.std.specs.List.{list_all}
use Rattle.cjc_world.specs.Classes.{all_classes}
use Rattle.cjc_world.specs.Subtype.{is_subtype}
use Rattle.cjc_types.proofs.rules.are_of.Given as goal

abbrev pub invariant-loop-name : goal.invariant-loop-name
invariant-loop-name l = list_all (λ name. is_subtype (all_classes l.world) name l.class) (drop l.name-index l.types)
    ≡ list_all (λ name. is_subtype (all_classes l.world) name l.class) l.types
