use Rattle.std.proofs.Common.{ap, ◌∙◌}
use Rattle.std.specs.Prelude.{option_and_then}
use Rattle.cjc_card_semantics.specs.CapRead.declared.tree.ClassInfo.{ClassInfo}
use Rattle.cjc_card_semantics.specs.Machine.Classes.{number_named, offset_from, offset_of}
use Rattle.cjc_card_semantics.specs.Machine.Loaded.{Part}
use Rattle.cjc_card_link.specs.Infos.{infos_in}
use Rattle.cjc_card_link.proofs.ByPlace.{named_place}
use Rattle.cjc_card_link.proofs.package.Package.offset_named.Goals as goal

pub returns-in-Some-clause-offset : goal.returns-in-Some-clause-offset
returns-in-Some-clause-offset c =
    let n = c.in-Some.number in
    c.offset_of.ensures.offset
    ∙ ap (λ (k : ClassInfo). offset_from 2 (infos_in k) n) c.self.invariant.are_infos
    ∙ ap (λ (q : Part). offset_of q n) c.self.view_is
    ∙ ap (option_and_then (offset_of c.args.self.now)) (c.in-Some.ensures ∙ c.self.invariant.are_names c.args.name.now
    ∙ named_place c.self.inside.part.classes.now c.args.name.now
    ∙ ap (λ (q : Part). number_named q.classes c.args.name.now) c.self.view_is)

pub returns-in-None-clause-offset : goal.returns-in-None-clause-offset
returns-in-None-clause-offset c =
    ap (option_and_then (offset_of c.args.self.now)) (c.in-None.ensures ∙ c.self.invariant.are_names c.args.name.now
    ∙ named_place c.self.inside.part.classes.now c.args.name.now
    ∙ ap (λ (q : Part). number_named q.classes c.args.name.now) c.self.view_is)
