use Rattle.std.specs.Prelude.{option_map}
use Rattle.std.proofs.Common.{ap, subst, ◌∙◌}
use Rattle.cjc_classes.specs.Emit.Emitted.{CanBeWritten, placed_at}
use Rattle.std.proofs.lemmas.Option.{slice_get-map}
use Rattle.cjc_components.specs.Package.{LaidMethod, codes, has_applets, tokens}
use Rattle.cjc_shape.proofs.PreparedLaws.Sound.{is_tested}
use Rattle.cjc_check_proof.specs.TokenProof.Tables.Loading.{naming}
use Rattle.cjc_shape_proof.proofs.WrittenLaws.WholeLaws.Emittable.{pooled}
use Rattle.cjc_shape_proof.proofs.WrittenLaws.Made.{whole_at, written_at}
use Rattle.cjc_shape_proof.proofs.WrittenLaws.Ready.{one_ready}
use Rattle.cjc_shape_proof.proofs.WrittenLaws.Shaping.{has_pool, layout_for, layout_is, layout_wide, pool_of, short_at}
use Rattle.cjc_shape_proof.proofs.written.converted_methods_are_ready.Goals as goal

pub returns : goal.returns
returns c = λ list files judged p is there k m e.
    let moded = c.packages_in_short_mode_are_as_before.ensures.by_modes list files judged is.sound p is.is_package in
    let words = c.packages_in_short_mode_are_as_before.ensures.words list files judged is.sound p moded
    (let of = is.is_package in of.short) ∙ is.words in
    let pool = pool_of judged.world (tokens p) (codes p) in
    let made = has_pool judged.world (tokens p) (codes p) in
    let named = ((c.converted_methods_are_emittable.ensures list files judged is.sound p moded words is.forms pool
    made).each k m e).named in
    let w = written_at list files judged p is k m e in
    let whole = whole_at list files judged is.sound p moded c.methods_can_be_laid_out.ensures k m e in
    let can = (c.pooled_methods_are_emittable.ensures.emittable list files judged (is_tested list files judged is.sound)
    (has_applets p) (codes p) pool (pooled list files judged is.sound p moded words is.forms pool made)
    (naming p) (record { index = λ key i f. named.index key i f; token = λ id t f. named.token id t f }) k m.code
    (slice_get-map (λ (x : LaidMethod). x.code) p.methods k ∙ ap (option_map (λ (x : LaidMethod). x.code)) e)
    (layout_for m.code m.wide) (layout_is m.code m.wide w.wide)
    (short_at list files judged is.sound p moded is.forms k m e)).written in
    one_ready (naming p) m (subst (λ v. CanBeWritten (naming p) (placed_at 0 m.code v)) (layout_wide m.code m.wide) can)
    whole.lies (λ j i f. there.names k m e j i f) (λ j d f. there.catches k m e j d f)
