use Rattle.std.proofs.Common.{ap, ◌∙◌}
use Rattle.std.specs.Prelude.{option_and_then, slice_get}
use Rattle.cjc_card_semantics.specs.CapRead.declared.tree.ClassInfo.{ClassInfo}
use Rattle.cjc_card_semantics.specs.Machine.Classes.{number_from, number_of}
use Rattle.cjc_card_semantics.specs.Machine.Loaded.{Part}
use Rattle.std.specs.Option.{option_copied}
use Rattle.cjc_card_link.specs.Infos.{infos_in}
use Rattle.cjc_card_link.proofs.ByPlace.{names_found}
use Rattle.cjc_card_link.proofs.package.Package.names.Goals as goal

pub returns-in-Some : goal.returns-in-Some
returns-in-Some c =
    names_found c.self.inside.part.classes.now c.args.self.now c.args.offset c.in-Some.number
    (option_copied c.names_at.result) c.names_at.ensures
    (c.in-Some.ensures.number ∙ ap (λ (k : ClassInfo). number_from 2 (infos_in k) c.args.offset)
    c.self.invariant.are_infos ∙ ap (λ (q : Part). number_of q c.args.offset) c.self.view_is)
    (ap (λ (q : Part). q.classes) c.self.view_is)

pub returns-in-None : goal.returns-in-None
returns-in-None c =
    ap (λ o. option_and_then (slice_get c.args.self.now.classes) o)
    (c.in-None.ensures.number ∙ ap (λ (k : ClassInfo). number_from 2 (infos_in k) c.args.offset)
    c.self.invariant.are_infos ∙ ap (λ (q : Part). number_of q c.args.offset) c.self.view_is)
