use Rattle.cjc_narrow_proof.proofs.LawsLaws.Whole.{converted, has_tables}
use Rattle.cjc_narrow_proof.proofs.laws.unbroken_packages_are_converted.Goals as goal

pub returns-clause-methods : goal.returns-clause-methods
returns-clause-methods c = λ list files codes settings is spelt tables m h. has_tables list files codes settings is
    spelt tables m h

pub returns-clause-whole : goal.returns-clause-whole
returns-clause-whole c = λ list files codes settings is spelt image near tables left. converted list files codes
    settings is spelt image near tables left
