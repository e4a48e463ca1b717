use Rattle.std.proofs.Common.{List, map, ap, ◌∙◌}
use Rattle.cjc_card_semantics.specs.CapRead.declared.tree.ClassEntry.{ClassEntry}
use Rattle.cjc_card_semantics.specs.CapRead.declared.tree.InterfaceEntry.{InterfaceEntry}
use Rattle.cjc_card_semantics.specs.Machine.Classes.{IsClass, IsInterface, info_steps}
use Rattle.cjc_card_link.proofs.Stepping.{info_steps-append, summed}
use Rattle.cjc_card_link.proofs.steps.infos_steps.Goals as goal

pub returns : goal.returns
returns c =
    summed c.sum.result _ _ (info_steps (map IsInterface c.args.class.now.interfaces))
    (info_steps (map IsClass c.args.class.now.classes)) _
    (c.in_ok-interfaces.ensures ∙ ap (λ (is : List InterfaceEntry). info_steps (map IsInterface is)) c.items.ensures)
    (c.in_ok-classes.ensures ∙ ap (λ (cs : List ClassEntry). info_steps (map IsClass cs)) c.items-2.ensures)
    (info_steps-append (map IsInterface c.args.class.now.interfaces) (map IsClass c.args.class.now.classes))
    c.sum.ensures
