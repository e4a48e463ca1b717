use Rattle.std.proofs.Common.{◌∙◌, ◌++◌, [], ◌∷◌, map, ap}
use Rattle.cjc_world.specs.Classes.{all_classes}
use Rattle.cjc_world.specs.Working.Known.{class_of}
use Rattle.cjc_world.specs.Working.Places.{at_places}
use Rattle.cjc_tokens.proofs.listed.with_supers.Goals as goal

pub returns : goal.returns
returns c =
    let w = all_classes c.args.world.now in
    let k = class_of c.args.class in
    c.in_ok-put_places.ensures
    ∙ ap (λ cs. map class_of cs ++ at_places w c.items.result.now) (c.in_ok-push.ensures.items
    ∙ ap (λ cs. cs ++ c.args.class ∷ []) c.new-classes.ensures.items)
    ∙ ap (λ ps. k ∷ at_places w ps) c.items.ensures
    ∙ ap (λ cs. k ∷ cs) c.in_ok-places.ensures
