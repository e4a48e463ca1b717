use Rattle.cjc_types.proofs.TypeLaws.Lowered.{below_closed, least_closed}
use Rattle.cjc_types.proofs.type_laws.closed_laws.Goals as goal

pub returns-clause-closed : goal.returns-clause-closed
returns-clause-closed c = least_closed

pub returns-clause-least : goal.returns-clause-least
returns-clause-least c = λ b xs ys is few closed. below_closed b xs ys is few closed
