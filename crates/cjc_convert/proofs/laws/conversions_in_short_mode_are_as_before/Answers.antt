use Rattle.cjc_convert.proofs.ConversionLaws.Flags.{same_components}
use Rattle.cjc_convert.proofs.ConversionLaws.Short.{to_modes, to_short}
use Rattle.cjc_convert.proofs.laws.conversions_in_short_mode_are_as_before.Goals as goal

pub returns-clause-short : goal.returns-clause-short
returns-clause-short c = λ list files made is short.
    let law = c.packages_in_short_mode_are_as_before.ensures in
    to_short list files made is (law.short list files is.judged is.sound is.whole is.is_package short)
    (law.words list files is.judged is.sound is.whole is.is_package short)
    (law.modes list files is.judged is.sound is.whole is.is_package short)

pub returns-clause-by_modes : goal.returns-clause-by_modes
returns-clause-by_modes c = λ list files made is.
    let law = c.packages_in_short_mode_are_as_before.ensures in
    let of = law.by_modes list files is.judged is.sound is.whole is.is_package in
    let short = is.is_package.short in
    to_modes list files made is of (law.words list files is.judged is.sound is.whole of short)
    (law.modes list files is.judged is.sound is.whole of short)

pub returns-clause-components : goal.returns-clause-components
returns-clause-components c = λ list files made is short.
    let law = c.packages_in_short_mode_are_as_before.ensures in
    same_components is.is_package.tables is.whole
    (law.modes list files is.judged is.sound is.whole is.is_package short)
