use Rattle.std.proofs.Common.{length, ap, ◌∙◌}
use Rattle.cjc_card_semantics.specs.CapRead.declared.tree.ClassInfo.{ClassInfo}
use Rattle.cjc_card_semantics.specs.Machine.Classes.{infos}
use Rattle.cjc_card_semantics.specs.Machine.Loaded.{Part}
use Rattle.cjc_card_link.specs.Infos.{infos_in}
use Rattle.cjc_card_link.proofs.package.Package.count.Goals as goal

pub returns : goal.returns
returns c =
    c.count.ensures.count
    ∙ ap (λ (k : ClassInfo). length (infos_in k)) c.self.invariant.are_infos
    ∙ ap (λ (q : Part). length (infos q)) c.self.view_is
