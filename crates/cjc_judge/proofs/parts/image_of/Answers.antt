use Rattle.cjc_judge.proofs.Unbroken.{image_refused}
use Rattle.cjc_judge.proofs.parts.image_of.Goals as goal

pub unreachable-requires : goal.unreachable-requires
unreachable-requires c = image_refused _ _ _ _ c.in-Err-Refused.field-0-is c.in-Err-Refused.ensures.refused c.requires
