use Rattle.std.proofs.Common.{◌∙◌, map, ap}
use Rattle.cjc_world.specs.Added.{methods_of}
use Rattle.cjc_world.specs.Classes.{all_classes}
use Rattle.cjc_world.specs.Working.Known.{class_of}
use Rattle.cjc_world.specs.Working.Places.{at_places}
use Rattle.cjc_tokens.specs.Members.{signature_of}
use Rattle.cjc_tokens.specs.Slots.{with_new}
use Rattle.cjc_tokens.specs.Working.{signs}
use Rattle.cjc_tokens.proofs.Once.{asked-once}
use Rattle.cjc_tokens.proofs.interfaces.put_above.Goals as goal

pub returns : goal.returns
returns c =
    let w = all_classes c.args.world.now in
    let k = class_of c.args.class in
    let old = signs c.args.row.now.items in
    let are_supertypes = c.lookup_laws.ensures.are_supertypes w c.acyclic.ensures in
    c.in_ok-put_places.ensures
    ∙ ap (λ ps. with_new old (map signature_of (methods_of (at_places w ps)))) c.items.ensures
    ∙ ap (λ cs. with_new old (map signature_of (methods_of cs))) c.in_ok-places.ensures
    ∙ asked-once w k.supers k.interfaces (are_supertypes k.supers) (are_supertypes k.interfaces) old
