use Rattle.std.proofs.Common.{refl, arith}
use Rattle.cjc_judge.proofs.Firsts.{file_family, file_low, file_or_later}
use Rattle.cjc_judge.proofs.Whole.{few_lines}
use Rattle.cjc_judge.proofs.laws.files_first.Goals as goal

pub returns-clause-files : goal.returns-clause-files
returns-clause-files c = λ list files b read breaks.
    let low = file_low list.lines files b breaks in
    let few = few_lines list list.lines refl read in
    (file_family list.lines files b breaks, omega (arith, low, few))

pub returns-clause-others : goal.returns-clause-others
returns-clause-others c = file_or_later
