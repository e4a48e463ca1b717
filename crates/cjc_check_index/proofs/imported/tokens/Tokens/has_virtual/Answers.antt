use Rattle.std.proofs.Common.{◌∙◌, sym, arith}
use Rattle.cjc_check_rules.specs.ExportFile.Supers.{classes_of, has_virtual}
use Rattle.cjc_check_rules.specs.Classes.{imported}
use Rattle.cjc_check_index.proofs.ImportedLaws.Answers.{virtuals_told, answer_by_token_is}
use Rattle.cjc_check_index.proofs.imported.tokens.Tokens.has_virtual.Goals as goal

pub returns-then-is_class : goal.returns-then-is_class
returns-then-is_class c =
    let exports = c.args.names.now.exports.now in
    let o = imported exports c.args.import c.args.class in
    let fits = c.ranges.token.fits in
    c.answer_by_token.ensures ∙ answer_by_token_is (has_virtual (classes_of exports)) (classes_of exports)
    c.items.result.now c.args.token c.place-place.result o (omega (arith, fits)) (c.items.ensures
    ∙ c.requires.kept.virtuals) c.place-place.ensures
    ∙ virtuals_told exports o c.args.token (sym c.names-is_class.ensures ∙ c.if-is_class.true)
