use Rattle.cjc_clinit.proofs.OneImage.{one-image}
use Rattle.cjc_clinit.proofs.Settled.{either-way, not-both, one-offset, one-effect, whole, fronts}
use Rattle.cjc_clinit.proofs.laws.initialisers.Goals as goal

pub returns-clause-either : goal.returns-clause-either
returns-clause-either c = either-way

pub returns-clause-not_both : goal.returns-clause-not_both
returns-clause-not_both c = not-both

pub returns-clause-one_offset : goal.returns-clause-one_offset
returns-clause-one_offset c = one-offset

pub returns-clause-one_effect : goal.returns-clause-one_effect
returns-clause-one_effect c = one-effect

pub returns-clause-one_image : goal.returns-clause-one_image
returns-clause-one_image c = one-image

pub returns-clause-whole : goal.returns-clause-whole
returns-clause-whole c = whole

pub returns-clause-front : goal.returns-clause-front
returns-clause-front c = fronts
