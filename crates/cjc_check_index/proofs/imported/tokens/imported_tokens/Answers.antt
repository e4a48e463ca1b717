use Rattle.std.proofs.Common.{◌≡◌, ◌∙◌, ap, List, true}
use Rattle.cjc_check_rules.specs.ExportFile.declared.tree.ExportClass.{ExportClass}
use Rattle.cjc_check_rules.specs.ExportFile.Supers.{classes_of, has_virtual, inherits_virtual}
use Rattle.cjc_check_index.specs.Imported.Tokens.{by_token, each_class, has_field, static_field, static_method}
use Rattle.cjc_check_index.specs.Imported.Working.Rows.{lists_field, lists_method}
use Rattle.cjc_check_index.proofs.ImportedLaws.Answers.{each_class_same, static_fields_are, static_methods_are}
use Rattle.cjc_check_index.proofs.imported.tokens.imported_tokens.Goals as goal

pub returns : goal.returns
returns c =
    let all = c.in_ok-all.ensures.all in
    let classes = classes_of c.args.exports.now in
    let one : c.items.result.now ≡ classes = c.items.ensures ∙ all in
    record {
      starts = c.in_ok-all.ensures.starts;
      virtuals = c.in_ok-upwards.ensures.virtuals ∙ ap (λ (cs : List ExportClass). by_token (has_virtual cs) cs) one;
      inherited = c.in_ok-upwards.ensures.inherited ∙ ap (λ (cs : List ExportClass). by_token (inherits_virtual cs) cs)
          one;
      fields = c.in_ok-upwards.ensures.fields ∙ ap (λ (cs : List ExportClass). by_token (has_field cs) cs) one;
      static_methods = c.in_ok-static_methods.ensures ∙ ap (λ (cs : List ExportClass). each_class (lists_method true)
          cs) (c.items-2.ensures ∙ all) ∙ each_class_same (lists_method true) static_method static_methods_are classes;
      static_fields = c.in_ok-static_fields.ensures ∙ ap (λ (cs : List ExportClass). each_class (lists_field true) cs)
          (c.items-3.ensures ∙ all) ∙ each_class_same (lists_field true) static_field static_fields_are classes;
    }
