use Rattle.std.proofs.Common.{◌∙◌, arith}
use Rattle.cjc_check_rules.specs.ExportFile.Supers.{classes_of}
use Rattle.cjc_check_rules.specs.Classes.{imported}
use Rattle.cjc_check_index.specs.Imported.Tokens.{static_field}
use Rattle.cjc_check_index.proofs.ImportedLaws.Answers.{static_fields_told, answer_of_class_is}
use Rattle.cjc_check_index.proofs.imported.tokens.Tokens.has_static_field.Goals as goal

pub returns : goal.returns
returns c =
    let exports = c.args.names.now.exports.now in
    let o = imported exports c.args.import c.args.class in
    let fits = c.ranges.token.fits in
    c.answer_of_class.ensures ∙ answer_of_class_is static_field (classes_of exports) c.items.result.now c.args.token
    c.place.result o (omega (arith, fits)) (c.items.ensures ∙ c.requires.kept.static_fields) c.place.ensures
    ∙ static_fields_told o c.args.token
