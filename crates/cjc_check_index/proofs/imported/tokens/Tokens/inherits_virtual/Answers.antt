use Rattle.std.proofs.Common.{◌∙◌, sym, arith}
use Rattle.cjc_check_rules.specs.ExportFile.Supers.{classes_of, inherits_virtual}
use Rattle.cjc_check_rules.specs.Classes.{imported}
use Rattle.cjc_check_index.proofs.ImportedLaws.Answers.{inherited_told, answer_by_token_is}
use Rattle.cjc_check_index.proofs.imported.tokens.Tokens.inherits_virtual.Goals as goal

pub returns-then-is_class : goal.returns-then-is_class
returns-then-is_class c =
    let exports = c.args.names.now.exports.now in
    let o = imported exports c.args.import c.args.class in
    let fits = c.ranges.token.fits in
    c.answer_by_token.ensures ∙ answer_by_token_is (inherits_virtual (classes_of exports)) (classes_of exports)
    c.items.result.now c.args.token c.place-place.result o (omega (arith, fits)) (c.items.ensures
    ∙ c.requires.kept.inherited) c.place-place.ensures
    ∙ inherited_told exports o c.args.token (sym c.names-is_class.ensures ∙ c.if-is_class.true)
