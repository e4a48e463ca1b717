use Rattle.std.proofs.Common.{◌∙◌, sym, ap}
use Rattle.cjc_world.specs.Classes.{all_classes}
use Rattle.cjc_world.specs.Files.{Files}
use Rattle.cjc_components.specs.Descriptor.{method_in}
use Rattle.cjc_methods.specs.Working.Spots.{spot_in}
use Rattle.cjc_methods.proofs.words.method_spot.Goals as goal

pub returns : goal.returns
returns c = λ p k e is.
    let f = c.args.member in
    let m = method_in (all_classes c.args.world.now) k f.member in
    c.spot_in.ensures k m is (c.method_in-method.ensures k is)
    ∙ ap (λ (files : Files). spot_in files k f m c.args.offset) (sym e)
