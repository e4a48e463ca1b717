use Rattle.std.proofs.Common.{ℕ, List, sym, subst}
use Rattle.cjc_cmd_convert.proofs.ConversionLaws.Spelt.{exports_are_fair}
use Rattle.cjc_cmd_convert.proofs.conversion.halves.both_halves_are_kept.Goals as goal
use Rattle.cjc_convert.specs.Components.Package.{Package}
use Rattle.cjc_convert.specs.Conversion.{IsConvertedByModes}
use Rattle.cjc_convert.specs.declared.conversion.Converted.{Converted}
use Rattle.cjc_convert.specs.Judge.Spelt.{FileTree, SpellTrees, exports_of}
use Rattle.cjc_convert.specs.List.Listed.{ListTree}
use Rattle.cjc_int_theorem.specs.Halves.{CodeByModesBehavesAlike}
use Rattle.cjc_theorem.specs.Alike.Halves.{ComponentsRunAsCode}
use Rattle.cjc_theorem.specs.FairExports.Fair.{ExportsAreFair}

-- the export files beside the package of a conversion
beside : (list : ListTree) (files : List (List ℕ)) (made : Converted) (is : IsConvertedByModes list files made)
    (trees : List FileTree) → SpellTrees list.lines files trees → ExportsAreFair (exports_of trees)
    → (let p = is.whole in let world = p.files in ExportsAreFair world.exports)
beside list files made is trees spell fair =
    let spelt = is.is_package.spelt in
    exports_are_fair list files trees spell spelt.trees spelt.is_world.0 (let p = is.whole in p.files) spelt.world_is
    fair

pub returns-clause-code : goal.returns-clause-code
returns-clause-code c = λ list files made read is trees spell fair p of.
    subst (CodeByModesBehavesAlike list) (c.converted_files_spell_one_package.ensures.one list files made is is.whole p
    is.is_package of)
    (c.halves_are_kept_by_modes.ensures.code list files is.judged read is.sound is.whole is.is_package is.limits
    (beside list files made is trees spell fair))

pub returns-clause-short : goal.returns-clause-short
returns-clause-short c = λ list files made read is p of. c.selected_code_behaves_alike.ensures list files is.judged read
    is.sound p of

pub returns-clause-components : goal.returns-clause-components
returns-clause-components c = λ list files made read is trees spell fair p of cap spelt.
    let laws = c.converted_files_spell_one_package.ensures in
    subst (λ (q : Package). ComponentsRunAsCode list q cap) (laws.one list files made is is.whole p is.is_package of)
    (subst (ComponentsRunAsCode list is.whole) (sym (laws.components list files made is cap spelt))
    (c.halves_are_kept_by_modes.ensures.components list files is.judged read is.sound is.whole is.is_package is.limits
    (beside list files made is trees spell fair)))

pub returns-clause-bytes : goal.returns-clause-bytes
returns-clause-bytes c = c.written_code_has_fewest_bytes.ensures.packages
