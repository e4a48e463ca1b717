use Rattle.std.proofs.Common.{◌∙◌, ◌++◌, List, ap}
use Rattle.cjc_verify.proofs.KnownMethods.{facts_are}
use Rattle.cjc_verify.specs.Working.Methods.{known_among}
use Rattle.cjc_verify.specs.declared.methods.KnownMethod.{KnownMethod}
use Rattle.cjc_verify.proofs.methods.known_methods.Goals as goal

pub returns : goal.returns
returns c = λ p is_files is_classes.
    let files = c.args.world.now in
    c.in_ok-put_among.ensures
    ∙ ap (λ (ks : List KnownMethod). ks ++ known_among files c.args.order.now c.args.classes.now) c.new-row.ensures
    ∙ facts_are p files c.args.order.now c.args.classes.now is_files is_classes c.requires
