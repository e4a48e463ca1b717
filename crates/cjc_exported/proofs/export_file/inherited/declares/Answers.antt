use Rattle.std.proofs.Common.{◌∙◌, ap}
use Rattle.std.specs.Prelude.{is_some}
use Rattle.cjc_world.specs.Working.Known.{class_of}
use Rattle.cjc_components.specs.LowerTokens.Working.{signature_in}
use Rattle.cjc_exported.proofs.ExportFile.Methods.{has-declared}
use Rattle.cjc_exported.proofs.export_file.inherited.declares.Goals as goal

pub returns : goal.returns
returns c = let k = class_of c.args.class in c.is_some.ensures ∙ ap is_some c.place.ensures
    ∙ has-declared k.methods (signature_in c.args.slot.now)
