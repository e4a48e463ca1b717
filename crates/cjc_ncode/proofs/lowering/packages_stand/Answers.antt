use Rattle.cjc_ncode.proofs.LoweringLaws.Packed.{bytes_stand, handlers_stand}
use Rattle.cjc_ncode.proofs.lowering.packages_stand.Goals as goal

pub returns-clause-bytes : goal.returns-clause-bytes
returns-clause-bytes c = bytes_stand

pub returns-clause-handlers : goal.returns-clause-handlers
returns-clause-handlers c = handlers_stand
