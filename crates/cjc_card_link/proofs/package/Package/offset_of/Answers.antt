use Rattle.std.proofs.Common.{ap, ◌∙◌}
use Rattle.cjc_card_semantics.specs.CapRead.declared.tree.ClassInfo.{ClassInfo}
use Rattle.cjc_card_semantics.specs.Machine.Classes.{offset_from, offset_of}
use Rattle.cjc_card_semantics.specs.Machine.Loaded.{Part}
use Rattle.cjc_card_link.specs.Infos.{infos_in}
use Rattle.cjc_card_link.proofs.package.Package.offset_of.Goals as goal

pub returns-clause-offset : goal.returns-clause-offset
returns-clause-offset c =
    c.offset_of.ensures.offset
    ∙ ap (λ (k : ClassInfo). offset_from 2 (infos_in k) c.args.number) c.self.invariant.are_infos
    ∙ ap (λ (q : Part). offset_of q c.args.number) c.self.view_is
