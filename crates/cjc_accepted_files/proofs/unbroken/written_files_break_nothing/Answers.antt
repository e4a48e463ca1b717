use Rattle.cjc_accepted_files.proofs.UnbrokenLaws.{none_broken}
use Rattle.cjc_accepted_files.proofs.unbroken.written_files_break_nothing.Goals as goal
use Rattle.cjc_cmd_convert.proofs.ConversionLaws.Spelt.{exports_are_fair}
use Rattle.cjc_components.specs.Limits.{else_of, form_breaks, of_methods, size_breaks}
use Rattle.cjc_int_theorem.specs.Limits.{word_breaks_by_modes}
use Rattle.cjc_shape_proof.proofs.CheckProofLimits.{after_first}

pub returns-clause-read : goal.returns-clause-read
returns-clause-read c = λ list files made read is.
    let of = is.is_package in
    let p = is.whole in
    let sizes = after_first (form_breaks p) (size_breaks p) (after_first (of_methods p (word_breaks_by_modes of.tables p))
    (else_of (form_breaks p) (size_breaks p)) is.limits) in
    c.written_files_are_read_back.ensures.read list files is.judged p
    (c.converted_packages_are_judged.ensures.laid list files is.judged read is.sound p of is.limits) sizes of.tables
    made.caps is.caps is.caps_spelt

pub returns-clause-unbroken : goal.returns-clause-unbroken
returns-clause-unbroken c = λ list files made read is trees spell fair.
    let judged = is.judged in
    let of = is.is_package in
    let t = of.tables in
    let p = is.whole in
    let spelt = of.spelt in
    let own = exports_are_fair list files trees spell spelt.trees spelt.is_world.0 p.files spelt.world_is fair in
    let law = c.converted_packages_are_judged.ensures in
    let by_modes = law.judged list files judged read is.sound p of is.limits own in
    let laid = law.laid list files judged read is.sound p of is.limits in
    let folder = c.written_files_are_read_back.ensures in
    none_broken list files judged is.sound t p by_modes.same c.consistent_where_unbroken.ensures.unbroken
    of.is_package.image
    (c.converted_packages_behave_alike.ensures.consistent list files judged read is.sound p of is.limits own)
    (c.written_components_are_paired.ensures list files judged p laid (law.files list files judged read is.sound p of
    is.limits own)) made.caps
    (folder.short list files judged p laid by_modes.sizes t made.caps is.caps)
    (folder.unbroken t p made.caps is.caps_spelt) (folder.components t p made.caps is.caps_spelt)
