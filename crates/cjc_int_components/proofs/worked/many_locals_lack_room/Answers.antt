use Rattle.std.proofs.Common.{arith}
use Rattle.cjc_int_narrow.specs.LowerIntMode.Room.{many_words}
use Rattle.cjc_int_components.proofs.worked.many_locals_lack_room.Goals as goal

pub returns : goal.returns
returns c b types many = many_words (omega (arith, many))
