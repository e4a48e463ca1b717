use Rattle.std.proofs.Common.{sym, ap, ◌∙◌}
use Rattle.std.specs.Prelude.{◌&&◌, position}
use Rattle.cjc_world.specs.Classes.{Member, method_of_class, method_of_export}
use Rattle.cjc_world.specs.Working.Known.{class_of}
use Rattle.cjc_world.specs.Lookup.{is_called}
use Rattle.cjc_world.proofs.Places.{position_of_map}
use Rattle.cjc_jvm_link.specs.Wanted.{passes_by}
use Rattle.cjc_jvm_link.proofs.wanted.place_where.Goals as goal

pub returns-in-Declared : goal.returns-in-Declared
returns-in-Declared c =
    let test = λ (m : Member). passes_by c.args.wanted m.flags && is_called c.args.name.now c.args.desc.now m in
    c.class_method.ensures ∙ ap (λ ms. position (λ m. test (method_of_class m)) ms) c.items.ensures
    ∙ sym (position_of_map test method_of_class c.in-Declared.class.now.methods)
    ∙ ap (λ k. position test (class_of k).methods) (sym c.in-Declared.is)

pub returns-in-Imported : goal.returns-in-Imported
returns-in-Imported c =
    let test = λ (m : Member). passes_by c.args.wanted m.flags && is_called c.args.name.now c.args.desc.now m in
    c.export_method.ensures ∙ ap (λ ms. position (λ m. test (method_of_export m)) ms) c.items-in-Imported.ensures
    ∙ sym (position_of_map test method_of_export c.in-Imported.class.now.methods)
    ∙ ap (λ k. position test (class_of k).methods) (sym c.in-Imported.is)
