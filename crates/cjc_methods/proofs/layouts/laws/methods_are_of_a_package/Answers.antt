use Rattle.std.proofs.Common.{◌∙◌}
use Rattle.cjc_methods.proofs.LayoutsLaws.Kept.{codes_of, is_package, members_of}
use Rattle.cjc_methods.proofs.layouts.laws.methods_are_of_a_package.Goals as goal

pub returns-clause-package : goal.returns-clause-package
returns-clause-package c = λ list files insns image is_image t members is_members narrow is_narrow m of. is_package
    list files insns image is_image t members is_members narrow is_narrow m of

pub returns-clause-parts : goal.returns-clause-parts
returns-clause-parts c = λ files members narrow m of. (
  members_of m.codes m.laid of.laid.count ∙ of.by_members,
  codes_of m.codes m.laid of.laid.count ∙ of.by_codes,
)
