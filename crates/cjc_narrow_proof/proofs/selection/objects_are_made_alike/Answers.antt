use Rattle.cjc_narrow_proof.proofs.SelectionLaws.News.{new, booleans, bytes, shorts, anewarray}
use Rattle.cjc_narrow_proof.proofs.selection.objects_are_made_alike.Goals as goal

pub returns-clause-new : goal.returns-clause-new
returns-clause-new c = λ by l r m class within made passes. new by l r m class within made passes

pub returns-clause-booleans : goal.returns-clause-booleans
returns-clause-booleans c = λ by l r m s small within passes. booleans by l r m s small within passes

pub returns-clause-bytes : goal.returns-clause-bytes
returns-clause-bytes c = λ by l r m s small within passes. bytes by l r m s small within passes

pub returns-clause-shorts : goal.returns-clause-shorts
returns-clause-shorts c = λ by l r m s small within passes. shorts by l r m s small within passes

pub returns-clause-anewarray : goal.returns-clause-anewarray
returns-clause-anewarray c = λ by l r m s small within class there passes. anewarray by l r m s small within class there
    passes
