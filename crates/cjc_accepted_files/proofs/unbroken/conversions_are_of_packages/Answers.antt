use Rattle.std.proofs.Common.{sym, subst}
use Rattle.cjc_accepted_files.proofs.unbroken.conversions_are_of_packages.Goals as goal
use Rattle.cjc_cmd_convert.proofs.ConversionLaws.Spelt.{exports_are_fair, files_are}
use Rattle.cjc_shape_proof.specs.LowerJudge.Rules.{settings_of}
use Rattle.cjc_theorem.proofs.AlikeLaws.Converted.{is_converted, own_checks, own_package, same_files}
use Rattle.cjc_theorem.specs.Alike.Alike.{NoneInIntMode}

pub returns : goal.returns
returns c = λ list files made read by_modes trees spell fair none.
    let its = by_modes.is_package.spelt in
    let there = files_are list files trees spell its.trees its.is_world.0 by_modes.whole.files its.world_is in
    let as_before = c.conversions_in_short_mode_are_as_before.ensures.short list files made by_modes
    (subst (NoneInIntMode list) (sym there) none) in
    let is = as_before.0 in
    let laws = c.fair_exports_are_sound.ensures in
    let judged = is.judged in
    let p = is.whole in
    let settings = settings_of list in
    let same = same_files list files judged read is.sound p is.is_package in
    let own = own_package list files judged read is.sound p same in
    let checks = own_checks list files judged read is.sound p same in
    let spelt = is.is_package.spelt in (
      is,
      as_before.1,
      is_converted list files judged read is.sound p is.is_package is.limits
          (laws.sound list.name p.files judged.codes settings own checks)
          (laws.plain list.name p.files judged.codes settings checks)
          (laws.agree list.name p own (exports_are_fair list files trees spell spelt.trees spelt.is_world.0 p.files
          spelt.world_is fair)),
    )
