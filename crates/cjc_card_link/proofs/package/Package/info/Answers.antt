use Rattle.std.proofs.Common.{ap, ◌∙◌}
use Rattle.std.specs.Prelude.{option_and_then, slice_get}
use Rattle.cjc_card_semantics.specs.CapRead.declared.tree.ClassInfo.{ClassInfo}
use Rattle.cjc_card_semantics.specs.Machine.Classes.{info_at, number_from}
use Rattle.cjc_card_semantics.specs.Machine.Loaded.{Part}
use Rattle.cjc_card_link.specs.Infos.{infos_in}
use Rattle.cjc_card_link.proofs.package.Package.info.Goals as goal

pub returns-clause-at : goal.returns-clause-at
returns-clause-at c =
    c.at.ensures.at
    ∙ ap (λ (k : ClassInfo). option_and_then (slice_get (infos_in k)) (number_from 2 (infos_in k) c.args.offset))
    c.self.invariant.are_infos
    ∙ ap (λ (q : Part). info_at q c.args.offset) c.self.view_is
