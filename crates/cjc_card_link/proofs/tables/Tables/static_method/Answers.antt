use Rattle.std.proofs.Common.{ap, sym, ◌∙◌}
use Rattle.std.specs.Prelude.{option_and_then}
use Rattle.cjc_card_semantics.specs.Machine.Classes.{import_of}
use Rattle.cjc_card_semantics.specs.Machine.Operations.{method_through, static_method}
use Rattle.cjc_card_link.specs.Tables.{loaded_of}
use Rattle.cjc_card_link.proofs.tables.Tables.static_method.Goals as goal

pub returns-in-Some : goal.returns-in-Some
returns-in-Some c =
    let l = loaded_of c.args.self.now in
    let o = c.in-Outside in
    c.method_through.ensures
    ∙ ap (option_and_then (method_through l c.args.on_object o.class o.token)) (c.in-Some.ensures
    ∙ ap (λ n. import_of l c.args.part n) c.from.ensures)
    ∙ ap (static_method l c.args.part c.args.on_object) (sym o.is)

pub returns-in-None : goal.returns-in-None
returns-in-None c =
    let l = loaded_of c.args.self.now in
    let o = c.in-Outside in
    ap (option_and_then (method_through l c.args.on_object o.class o.token)) (c.in-None.ensures
    ∙ ap (λ n. import_of l c.args.part n) c.from.ensures)
    ∙ ap (static_method l c.args.part c.args.on_object) (sym o.is)
