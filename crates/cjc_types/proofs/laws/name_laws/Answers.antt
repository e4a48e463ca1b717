use Rattle.cjc_types.proofs.Among.{least_among, refs_whole}
use Rattle.cjc_types.proofs.laws.name_laws.Goals as goal

pub returns-clause-among : goal.returns-clause-among
returns-clause-among c = λ names b xs h is place x row. least_among names b xs h is place x row

pub returns-clause-whole : goal.returns-clause-whole
returns-clause-whole c = λ names types own set h. refs_whole names types own set h
