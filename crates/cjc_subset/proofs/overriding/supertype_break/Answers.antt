use Rattle.std.proofs.Common.{List, sym, subst, ◌∙◌}
use Rattle.std.specs.Prelude.{IfOk, option_map}
use Rattle.cjc_world.specs.Classes.{all_classes}
use Rattle.cjc_world.specs.Working.Known.{class_of}
use Rattle.cjc_bytes.specs.Breaks.{Break, IsFirstOf}
use Rattle.cjc_bytes.specs.Told.{break_of}
use Rattle.cjc_subset.proofs.Supertypes.{supertypes_above, supertypes_not_above}
use Rattle.cjc_subset.proofs.overriding.supertype_break.Goals as goal

pub returns-then-is_inherited : goal.returns-then-is_inherited
returns-then-is_inherited c = λ f e. subst (λ (bs : List Break). IfOk c.class_against.result
    (λ b. IsFirstOf bs (option_map break_of b))) (supertypes_above (all_classes c.args.world.now) f c.args.class.now
    (class_of c.args.known) (sym c.is_inherited.ensures ∙ c.if-is_inherited.true)) (c.class_against.ensures f e)

pub returns-else-is_inherited : goal.returns-else-is_inherited
returns-else-is_inherited c = λ f e. supertypes_not_above (all_classes c.args.world.now) f c.args.class.now
    (class_of c.args.known) (sym c.is_inherited.ensures ∙ c.if-is_inherited.false)
