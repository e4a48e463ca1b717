use Rattle.std.proofs.Common.{◌∙◌, ◌+◌, ap, length}
use Rattle.cjc_world.specs.Added.{added}
use Rattle.cjc_world.specs.Working.Known.{class_of}
use Rattle.cjc_components.specs.ExportFile.{added_from, inherited, methods_from}
use Rattle.cjc_exported.specs.ExportFile.Working.Sources.{given_from, package_in, world_in}
use Rattle.cjc_exported.proofs.ExportFile.Methods.{given-added}
use Rattle.cjc_exported.proofs.ExportFile.Piles.{piled-three}
use Rattle.cjc_exported.proofs.export_file.class.methods.Goals as goal

pub returns : goal.returns
returns c =
    let k = class_of c.args.class in
    let p = package_in c.args.source.now in
    let w = world_in c.args.source.now in
    let behind = length k.fields + length k.methods in
    piled-three c.new-methods.result c.put_own.new.methods c.put_given.new.methods c.put_inherited_methods.new.methods
    (methods_from p k (length k.fields) k.methods) (given_from p k behind c.given.result.now) (added_from p k behind
    (added w k)) (inherited w k)
    c.new-methods.ensures c.in_ok-put_own.ensures c.in_ok-put_given.ensures (ap (given_from p k behind) c.given.ensures
    ∙ given-added p k k.name behind (added w k)) c.in_ok-put_inherited_methods.ensures
