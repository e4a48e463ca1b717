use Rattle.cjc_cmd_convert.proofs.ConversionLaws.OneTree.{one_tree}
use Rattle.cjc_cmd_convert.proofs.ConversionLaws.Spelt.{files_are}
use Rattle.cjc_cmd_convert.proofs.conversion.halves.converted_files_spell_one_package.Goals as goal
use Rattle.cjc_convert.proofs.ShapeOne.{one_package}
use Rattle.cjc_int_theorem.specs.Components.{components_by_modes}

pub returns-clause-some : goal.returns-clause-some
returns-clause-some c = λ list files made is. (is.whole, is.is_package)

pub returns-clause-one : goal.returns-clause-one
returns-clause-one c = λ list files made is p q one other. one_package list files is.judged is.sound p q one
    other

pub returns-clause-files : goal.returns-clause-files
returns-clause-files c = λ list files trees spell p of. files_are list files trees spell of.spelt.trees
    of.spelt.is_world.0 p.files of.spelt.world_is

pub returns-clause-components : goal.returns-clause-components
returns-clause-components c = λ list files made is cap spelt. one_tree c.readings.ensures.one_tree cap
    (let of = is.is_package in components_by_modes of.tables is.whole) made.caps spelt is.caps_spelt
