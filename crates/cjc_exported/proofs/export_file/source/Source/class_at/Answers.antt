use Rattle.std.proofs.Common.{◌∙◌, ap, sym, true, false}
use Rattle.std.specs.Prelude.{option_map, slice_get}
use Rattle.cjc_world.specs.Classes.{class_at}
use Rattle.cjc_world.specs.Working.Known.{class_of}
use Rattle.cjc_exported.specs.ExportFile.Working.Sources.{world_in}
use Rattle.cjc_exported.proofs.ExportFile.Methods.{class-by-number}
use Rattle.cjc_exported.proofs.export_file.source.Source.class_at.Goals as goal

pub returns-then-found : goal.returns-then-found
returns-then-found c =
    let s = c.args.self.now in
    let n = c.args.found.class in
    ap (option_map class_of) (c.class_in.ensures ∙ ap (λ xs. slice_get xs n) c.as_slice.ensures.value)
    ∙ class-by-number s.world.now true s.imported.items n c.requires.imported
    ∙ ap (λ b. class_at (world_in s) b n) (sym c.if-found.true)

pub returns-else-found : goal.returns-else-found
returns-else-found c =
    let s = c.args.self.now in
    let n = c.args.found.class in
    ap (option_map class_of) (c.class_in-else-found.ensures
    ∙ ap (λ xs. slice_get xs n) c.as_slice-else-found.ensures.value)
    ∙ class-by-number s.world.now false s.declared.items n c.requires.declared
    ∙ ap (λ b. class_at (world_in s) b n) (sym c.if-found.false)
