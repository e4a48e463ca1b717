use Rattle.std.proofs.Common.{◌≡◌, [], ap, subst, ◌∙◌, Some}
use Rattle.cjc_accepted_files.proofs.short.written_files_in_short_mode_are_as_before.Goals as goal
use Rattle.cjc_cmd_convert.proofs.ConversionLaws.Spelt.{exports_are_fair}
use Rattle.cjc_components.specs.Limits.{limit_breaks}
use Rattle.cjc_components.specs.LowerCapRead.declared.tree.CapTree.{CapTree}
use Rattle.cjc_components.specs.Package.{Package}
use Rattle.cjc_shape_proof.specs.LowerJudge.Rules.{settings_of}
use Rattle.cjc_shape_proof.specs.LowerShape.Whole.Conversion.{IsPackageOf}
use Rattle.cjc_theorem.proofs.AlikeLaws.Converted.{is_converted, own_checks, own_package, same_by_modes}

pub returns-clause-converted : goal.returns-clause-converted
returns-clause-converted c = λ list files made read is short trees spell fair.
    let judged = is.judged in
    let p = is.whole in
    let of = is.is_package in
    let its = of.spelt in
    let own = exports_are_fair list files trees spell its.trees its.is_world.0 p.files its.world_is fair in
    let before = c.conversions_in_short_mode_are_as_before.ensures.short list files made is short in
    let as_before = before.0 in
    let laid = subst (IsPackageOf list files) before.1 as_before.is_package in
    let limits = subst (λ (q : Package). limit_breaks q ≡ []) before.1 as_before.limits in
    let laws = c.fair_exports_are_sound.ensures in
    let codes = judged.codes in
    let settings = settings_of list in
    let same = same_by_modes list files judged read is.sound p of in
    let sound = own_package list files judged read is.sound p same in
    let checks = own_checks list files judged read is.sound p same in
    is_converted list files judged read is.sound p laid limits
    (laws.sound list.name p.files codes settings sound checks) (laws.plain list.name p.files codes settings checks) (laws.agree list.name p sound own)

pub returns-clause-components : goal.returns-clause-components
returns-clause-components c = λ list files made is short.
    let of = is.is_package in
    c.written_files_are_read_back.ensures.components of.tables is.whole made.caps is.caps_spelt
    ∙ ap (λ (cap : CapTree). Some cap) (c.conversions_in_short_mode_are_as_before.ensures.components list files made is
    short)
