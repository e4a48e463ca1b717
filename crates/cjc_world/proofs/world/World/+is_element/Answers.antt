use Rattle.std.proofs.Common.{sym, ap, ◌∙◌}
use Rattle.cjc_world.specs.Classes.{all_classes}
use Rattle.cjc_world.specs.Lookup.{object}
use Rattle.cjc_world.specs.Subtype.{is_subclass}
use Rattle.cjc_world.proofs.Subtypes.{element_object}
use Rattle.cjc_world.proofs.world.World.+is_element.Goals as goal

pub returns-then-starts-3 : goal.returns-then-starts-3
returns-then-starts-3 t c =
    c.is_subclass.ensures ∙ ap (λ name. is_subclass (all_classes c.args.self.now) object name) c.inner.ensures
    ∙ element_object (all_classes c.args.self.now) c.args.sub.now c.args.sup.now (sym c.eq.ensures ∙ c.if-eq.false)
    (sym c.starts.ensures ∙ c.if-starts.true) (sym c.starts-then-starts.ensures ∙ c.if-starts-2.false)
    (sym c.starts-else-starts-2.ensures ∙ c.if-starts-3.true)
