use Rattle.std.proofs.Common.{refl}
use Rattle.cjc_ncode.proofs.keys_stand_in_order.Goals as goal

pub returns : goal.returns
returns c = refl
