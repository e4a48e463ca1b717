use Rattle.cjc_shape.specs.LowerJudge.Rules.{settings_of}
use Rattle.cjc_shape_proof.proofs.WrittenLaws.Files.{is_kept}
use Rattle.cjc_shape_proof.proofs.WrittenLaws.Worlds.{no_static_methods, own_solid, own_subtypes, own_tokens}
use Rattle.cjc_shape_proof.proofs.written.converted_classes_keep_rules.Goals as goal

pub returns-clause-keeps : goal.returns-clause-keeps
returns-clause-keeps c = λ list files judged p is.
    c.package_laws.ensures.keeps list.name p.files judged.codes (settings_of list) (is_kept list files judged p is
    (λ l fs none fine. c.package_laws.ensures.unbroken l fs judged.codes (settings_of list) none fine))

pub returns-clause-subtypes : goal.returns-clause-subtypes
returns-clause-subtypes c = own_subtypes

pub returns-clause-tokens : goal.returns-clause-tokens
returns-clause-tokens c = own_tokens

pub returns-clause-code : goal.returns-clause-code
returns-clause-code c = own_solid

pub returns-clause-interfaces : goal.returns-clause-interfaces
returns-clause-interfaces c = no_static_methods
