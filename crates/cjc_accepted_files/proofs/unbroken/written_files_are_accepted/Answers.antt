use Rattle.std.proofs.Common.{◌≡◌, sym, ap, subst, ◌∙◌, [], Some}
use Rattle.cjc_accepted_files.proofs.unbroken.written_files_are_accepted.Goals as goal
use Rattle.cjc_cmd_card.proofs.BytesPlain.{same_some}
use Rattle.cjc_cmd_convert.proofs.ConversionLaws.Spelt.{exports_are_fair}
use Rattle.cjc_components.specs.Components.{components_of}
use Rattle.cjc_components.specs.Limits.{else_of, form_breaks, of_methods, size_breaks}
use Rattle.cjc_components.specs.LowerCapRead.declared.tree.CapTree.{CapTree}
use Rattle.cjc_components.specs.LowerCheckRules.Complete.{complete}
use Rattle.cjc_int_theorem.proofs.Judged.{converted}
use Rattle.cjc_int_theorem.specs.Components.{components_by_modes}
use Rattle.cjc_int_theorem.specs.Limits.{limit_breaks_by_modes, word_breaks_by_modes}
use Rattle.cjc_shape_proof.proofs.CheckProofLimits.{after_first}

pub returns : goal.returns
returns c = λ list files made read is trees spell fair spelt spelt_is image is_image cap cap_is whole whole_is.
    let judged = is.judged in
    let of = is.is_package in
    let p = is.whole in
    let its = of.spelt in
    let own = exports_are_fair list files trees spell its.trees its.is_world.0 p.files its.world_is fair in
    let law = c.converted_packages_are_judged.ensures in
    let laid = law.laid list files judged read is.sound p of is.limits in
    let q = laid.is_package in
    let sizes = after_first (form_breaks p) (size_breaks p) (after_first (of_methods p (word_breaks_by_modes of.tables p))
    (else_of (form_breaks p) (size_breaks p)) is.limits) in
    let limits : limit_breaks_by_modes q.tables p ≡ [] = ap (λ ws. else_of ws (else_of (form_breaks p) (size_breaks p)))
    laid.words ∙ ap (λ fs. else_of fs (size_breaks p)) laid.forms ∙ sizes in
    let by_modes = law.judged list files judged read is.sound p q limits own in
    let readable = c.packages_by_modes_are_readable.ensures list files judged p laid (converted list files judged
    q.tables p by_modes) in
    let same : cap ≡ components_by_modes of.tables p = same_some (sym cap_is
    ∙ c.written_files_are_read_back.ensures.components of.tables p made.caps is.caps_spelt) in
    let there : complete (components_of p) ≡ Some whole = subst (λ (u : CapTree). complete u ≡ Some whole) same whole_is
    in
    c.written_components_are_accepted.ensures list files judged p readable.0
    (c.packages_by_modes_are_accepted.ensures list files judged p readable.0 readable.1) spelt spelt_is image is_image
    whole there
