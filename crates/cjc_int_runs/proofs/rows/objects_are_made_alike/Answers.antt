use Rattle.cjc_int_runs.proofs.NewThings.{new, booleans, bytes, shorts, arrays_of_ints, anewarray}
use Rattle.cjc_int_runs.proofs.rows.objects_are_made_alike.Goals as goal

pub returns-clause-new : goal.returns-clause-new
returns-clause-new c = new

pub returns-clause-booleans : goal.returns-clause-booleans
returns-clause-booleans c = λ by l f pairs r m b ls within s small. booleans by l f pairs r m b ls within s small

pub returns-clause-bytes : goal.returns-clause-bytes
returns-clause-bytes c = λ by l f pairs r m b ls within s small. bytes by l f pairs r m b ls within s small

pub returns-clause-shorts : goal.returns-clause-shorts
returns-clause-shorts c = λ by l f pairs r m b ls within s small. shorts by l f pairs r m b ls within s small

pub returns-clause-ints : goal.returns-clause-ints
returns-clause-ints c = λ by l f pairs r m b ls within s small. arrays_of_ints by l f pairs r m b ls within s small

pub returns-clause-anewarray : goal.returns-clause-anewarray
returns-clause-anewarray c = λ by l f pairs r m b ls within s small. anewarray by l f pairs r m b ls within s small
