use Rattle.std.proofs.Common.{◌≡◌, sym, subst}
use Rattle.cjc_types.specs.World.Classes.{all_classes}
use Rattle.cjc_types.specs.Flow.{Body}
use Rattle.cjc_types.specs.Tables.{IsTypeTable}
use Rattle.cjc_tests_rules.proofs.calls.frames_are_given.Goals as goal

pub new-walk-requires : goal.new-walk-requires
new-walk-requires c =
    let of = c.in_ok-code.ensures in (
      all_classes c.in_ok-world.world,
      subst (λ (b : Body). IsTypeTable (all_classes c.in_ok-world.world) b c.in_ok-types.types)
          (sym (c.new-method.ensures of.0 of.1 of.2 of.3)) (c.in_ok-types.ensures.inferred of.0 of.1 of.2 of.3),
    )
