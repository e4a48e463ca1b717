use Rattle.std.proofs.Common.{sym, ap, ◌∙◌}
use Rattle.std.specs.Prelude.{◌&&◌}
use Rattle.std.specs.List.{list_any}
use Rattle.cjc_world.specs.Classes.{Member, method_of_class, method_of_export}
use Rattle.cjc_world.specs.Added.{is_open}
use Rattle.cjc_world.specs.Working.Known.{class_of}
use Rattle.cjc_world.specs.Lookup.{is_called}
use Rattle.cjc_bytes.proofs.Quantified.{any_of_map}
use Rattle.cjc_world.proofs.class.Known.declares_open.Goals as goal

pub returns-in-Declared : goal.returns-in-Declared
returns-in-Declared c =
    let test = λ (m : Member). is_open m.flags && is_called c.args.name.now c.args.desc.now m in
    c.class_opens.ensures ∙ ap (λ ms. list_any (λ m. test (method_of_class m)) ms) c.items.ensures
    ∙ sym (any_of_map test method_of_class c.in-Declared.class.now.methods)
    ∙ ap (λ k. list_any test (class_of k).methods) (sym c.in-Declared.is)

pub returns-in-Imported : goal.returns-in-Imported
returns-in-Imported c =
    let test = λ (m : Member). is_open m.flags && is_called c.args.name.now c.args.desc.now m in
    c.export_opens.ensures ∙ ap (λ ms. list_any (λ m. test (method_of_export m)) ms) c.items-in-Imported.ensures
    ∙ sym (any_of_map test method_of_export c.in-Imported.class.now.methods)
    ∙ ap (λ k. list_any test (class_of k).methods) (sym c.in-Imported.is)
