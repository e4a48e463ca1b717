use Rattle.std.proofs.Common.{ap, sym, ◌∙◌}
use Rattle.cjc_card_semantics.specs.CapRead.declared.tree.ClassRef.TheVariants.{Outside}
use Rattle.cjc_card_semantics.specs.Machine.Classes.{class_of}
use Rattle.cjc_card_link.specs.Tables.{loaded_of}
use Rattle.cjc_card_link.proofs.tables.Tables.class_in.Goals as goal

pub returns-in-Outside : goal.returns-in-Outside
returns-in-Outside c =
    let l = loaded_of c.args.self.now in
    let o = c.in-Outside in
    c.class_outside.ensures
    ∙ ap (λ n. class_of l c.args.part (Outside n o.class)) c.from.ensures
    ∙ ap (class_of l c.args.part) (sym o.is)
