use Rattle.std.proofs.Common.{◌≡◌, false, sym, ap, ◌∙◌}
use Rattle.cjc_world.specs.Classes.{all_classes}
use Rattle.cjc_subset.specs.declared.kinds.Kinds.{Kinds}
use Rattle.cjc_subset.specs.Working.Kinds.{kinds_of, may_break}
use Rattle.cjc_subset.proofs.Unmet.{nothing_broken}
use Rattle.cjc_subset.proofs.overriding.package_break.Goals as goal

pub returns-else-may_break : goal.returns-else-may_break
returns-else-may_break c = λ f e.
    let own = c.args.class.now in
    let other = c.args.other.now in
    let unmet : may_break (kinds_of own) (kinds_of other) ≡ false =
    ap (λ (k : Kinds). may_break k (kinds_of other)) (sym c.requires.own) ∙ ap (λ (k : Kinds). may_break c.args.own k)
    (sym c.requires.kinds) ∙ sym c.may_break.ensures ∙ c.if-may_break.false in
    nothing_broken (all_classes c.args.world.now) f own other unmet
