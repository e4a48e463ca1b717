use Rattle.std.proofs.Common.{ap, ◌∙◌}
use Rattle.cjc_card_semantics.specs.Machine.Classes.{external}
use Rattle.cjc_card_link.specs.Tables.{loaded_of}
use Rattle.cjc_card_link.proofs.Outer.{outer_by, through_file}
use Rattle.cjc_card_link.proofs.tables.Tables.method_through.Goals as goal

pub returns-in-Some : goal.returns-in-Some
returns-in-Some c =
    let t = c.args.self.now in
    c.outer_of.ensures
    ∙ ap (outer_by c.args.on_object c.args.token) (c.in-Some.ensures ∙ ap (λ n. external (loaded_of t) n c.args.class)
    c.from.ensures)
    ∙ through_file t.part t.exported c.args.on_object c.args.import c.args.class c.args.token

pub returns-in-None : goal.returns-in-None
returns-in-None c =
    let t = c.args.self.now in
    ap (outer_by c.args.on_object c.args.token) (c.in-None.ensures ∙ ap (λ n. external (loaded_of t) n c.args.class)
    c.from.ensures)
    ∙ through_file t.part t.exported c.args.on_object c.args.import c.args.class c.args.token
