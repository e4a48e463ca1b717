use Rattle.std.proofs.Common.{◌≡◌, drop}
use Rattle.std.specs.List.{list_any}
use Rattle.cjc_world.specs.Classes.{all_classes}
use Rattle.cjc_world.specs.Rules.{is_type_missing}
use Rattle.cjc_world.proofs.class_index.ClassIndex.is_any_missing.Given as goal

abbrev pub invariant-loop-i : goal.invariant-loop-i
invariant-loop-i l = list_any (λ p. is_type_missing (all_classes l.self) p.class) (drop l.i l.desc.params)
    ≡ list_any (λ p. is_type_missing (all_classes l.self) p.class) l.desc.params
