use Rattle.std.proofs.Common.{length}
use Rattle.cjc_bytes.proofs.Laws.{one_value, one_place, spelt_or_broken, decided, reading_is}
use Rattle.cjc_capread.specs.Component.{component}
use Rattle.cjc_capread.proofs.component.readings.Goals as goal

pub returns-clause-one_tree : goal.returns-clause-one_tree
returns-clause-one_tree c = λ tag s t bytes. one_value (component tag (length bytes)) bytes s t

pub returns-clause-one_place : goal.returns-clause-one_place
returns-clause-one_place c = λ tag j k bytes. one_place (component tag (length bytes)) bytes j k

pub returns-clause-not_both : goal.returns-clause-not_both
returns-clause-not_both c = λ tag t k bytes. spelt_or_broken (component tag (length bytes)) bytes t k

pub returns-clause-one_of_them : goal.returns-clause-one_of_them
returns-clause-one_of_them c = λ tag bytes. decided (component tag (length bytes)) bytes

pub returns-clause-reading : goal.returns-clause-reading
returns-clause-reading c = λ tag bytes. reading_is (component tag (length bytes)) bytes
