use Rattle.std.proofs.Common.{◌∙◌}
use Rattle.cjc_card_link.proofs.InfoPlaces.{offset_is_small}
use Rattle.cjc_card_link.proofs.infos.Infos.number_of.Goals as goal

pub returns-clause-small : goal.returns-clause-small
returns-clause-small c = offset_is_small c.self.inside.class.now c.args.offset c.get.result c.self.invariant.small
    (c.get.ensures ∙ c.self.invariant.by_offset c.args.offset)
