use Rattle.cjc_shape_proof.specs.LowerJudge.Rules.{settings_of}
use Rattle.cjc_shape_proof.proofs.WrittenLaws.Checked.{files_sound, is_kept}
use Rattle.cjc_theorem.proofs.AlikeLaws.VirtualCalls.Supers.{super_named}
use Rattle.cjc_theorem.proofs.AlikeLaws.VirtualCalls.Words.{exports_have_one_access, super_takes}
use Rattle.cjc_theorem.proofs.alike.virtual_calls.super_calls_are_named.Goals as goal

pub returns-clause-named : goal.returns-clause-named
returns-clause-named c = λ list codes p is class id of class_here plain hit told visible.
    let its = is.checked in
    let kept = is_kept list codes p its (λ l fs none fine. c.package_laws.ensures.unbroken l fs codes
    (settings_of list) none fine) in
    let keeps = c.package_laws.ensures.keeps list.name p.files codes (settings_of list) kept in
    let none = c.package_laws.ensures.unbroken list.name p.files codes (settings_of list) its.unbroken its.checks in
    let access = c.methods_keep_flags.ensures.access list.name p codes (settings_of list) (files_sound list codes p its)
    none (exports_have_one_access p its.plain) in
    let rules = keeps.rules in
    super_named list codes p is (c.lookup_laws.ensures.are_supertypes _ rules.acyclic)
    (c.lookup_laws.ensures.one_supertypes _) keeps
    (c.asked_methods_have_tokens.ensures _ rules keeps.interfaces access)
    (λ d m there. c.interface_tokens_mean_methods.ensures.listed _ d m there) class id of class_here plain hit told
    visible

pub returns-clause-words : goal.returns-clause-words
returns-clause-words c = λ list codes p is class id of. super_takes list codes p is class id of
