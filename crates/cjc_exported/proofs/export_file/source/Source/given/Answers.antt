use Rattle.std.proofs.Common.{◌≡◌, ◌≤◌, ◌∙◌, ap, sym, subst, false, length, map}
use Rattle.std.specs.Prelude.{Some}
use Rattle.cjc_world.specs.Added.{added_at, named_by}
use Rattle.cjc_world.specs.Classes.{class_at}
use Rattle.cjc_world.specs.Working.Known.{class_of}
use Rattle.cjc_exported.specs.ExportFile.Working.Sources.{world_in}
use Rattle.cjc_exported.proofs.ExportFile.Methods.{added-declared}
use Rattle.cjc_components.proofs.VTableSlotNames.{added-none, ids_past}
use Rattle.cjc_exported.proofs.export_file.source.Source.given.Goals as goal

pub returns-then-is_imported : goal.returns-then-is_imported
returns-then-is_imported c =
    let k = class_of c.args.class in
    ap (map (named_by k.name)) (sym (added-none (world_in c.args.self.now) k (sym c.is_imported.ensures
    ∙ c.if-is_imported.true)))

pub returns-then-number-items : goal.returns-then-number-items
returns-then-number-items c =
    let k = class_of c.args.class in
    let files = c.args.self.now.world.now in
    let there : class_at (world_in c.args.self.now) false k.number ≡ Some k =
    ap (λ b. class_at (world_in c.args.self.now) b k.number) (sym (sym c.is_imported.ensures
    ∙ c.if-is_imported.false)) ∙ c.requires in
    c.items-then-number-items.ensures ∙ c.added.ensures ∙ ap (added_at files) c.number-number.ensures
    ∙ added-declared files k there

pub returns-else-number-items : goal.returns-else-number-items
returns-else-number-items c =
    let k = class_of c.args.class in
    let files = c.args.self.now.world.now in
    let there : class_at (world_in c.args.self.now) false k.number ≡ Some k =
    ap (λ b. class_at (world_in c.args.self.now) b k.number) (sym (sym c.is_imported.ensures
    ∙ c.if-is_imported.false)) ∙ c.requires in
    let past : length files.classes ≤ k.number = subst (λ n. length files.classes ≤ n) c.number-number.ensures
    (subst (λ xs. length xs ≤ c.number-number.result) (c.items.ensures ∙ c.classes.ensures) c.if-number-items.false)
    in
    sym (ids_past files k.number past) ∙ added-declared files k there
