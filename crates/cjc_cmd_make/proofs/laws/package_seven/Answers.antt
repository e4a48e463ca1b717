use Rattle.std.proofs.Common.{refl}
use Rattle.std.specs.Fmt.{digits}
use Rattle.cjc_cmd_make.specs.Package.Numbers.{number_at, below}
use Rattle.cjc_cmd_make.proofs.laws.package_seven.Goals as goal

pub returns-clause-numbers : goal.returns-clause-numbers
unfolding number_at
returns-clause-numbers c = refl

pub returns-clause-list : goal.returns-clause-list
unfolding below digits
returns-clause-list c = refl

pub returns-clause-script : goal.returns-clause-script
unfolding below digits
returns-clause-script c = refl
