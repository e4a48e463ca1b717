use Rattle.std.proofs.Common.{◌∙◌, ap}
use Rattle.std.proofs.lemmas.Option.{slice_get-get_or}
use Rattle.cjc_world.specs.Classes.{all_classes}
use Rattle.cjc_world.specs.Added.{added_at, added_to}
use Rattle.cjc_tokens.proofs.line.added_to.Goals as goal

pub returns : goal.returns
unfolding added_at
returns c = λ d.
    c.items.ensures ∙ c.added.ensures ∙ ap (added_to (all_classes c.args.world.now) c.args.class)
    (slice_get-get_or c.args.world.now.classes c.args.class d c.requires)
