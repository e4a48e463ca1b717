use Rattle.std.proofs.Common.{◌∙◌, ap, sym}
use Rattle.std.specs.Prelude.{option_map}
use Rattle.cjc_world.specs.Working.Known.{class_of}
use Rattle.cjc_exported.specs.ExportFile.Working.Sources.{world_in}
use Rattle.cjc_exported.proofs.ExportFile.Methods.{numbered-at}
use Rattle.cjc_exported.proofs.export_file.source.Source.method_meant.Goals as goal

pub method_in-requires : goal.method_in-requires
method_in-requires c = numbered-at (world_in c.args.self.now) c.args.found.imported c.args.found.class
    (class_of c.in_ok-class.class) (sym c.class_at.ensures ∙ ap (option_map class_of) c.in_ok-class.was)
