use Rattle.cjc_joint_whole.proofs.WholeLaws.Listed.{lists_methods}
use Rattle.cjc_joint_whole.proofs.exports.converted_packages_list_methods.Goals as goal

pub returns-clause-entries : goal.returns-clause-entries
returns-clause-entries c = λ list files judged p is. c.unbound_entries_are_own.ensures list files judged p
    (c.converted_packages_are_laid_out.ensures list files judged p is) is.plain
    (c.converted_classes_keep_rules.ensures.interfaces list files judged p is)

pub returns-clause-lists : goal.returns-clause-lists
returns-clause-lists c = λ list files judged p is. lists_methods p (returns-clause-entries c list files judged p is)
