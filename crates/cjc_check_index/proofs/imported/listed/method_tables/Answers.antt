use Rattle.std.proofs.Common.{◌≡◌, ◌∙◌, ap, map, List, ◌==◌}
use Rattle.std.specs.Prelude.{◌&&◌}
use Rattle.std.specs.List.{list_any}
use Rattle.cjc_check_rules.specs.ExportFile.declared.tree.ExportClass.{ExportClass}
use Rattle.cjc_check_rules.specs.ExportFile.declared.tree.ExportMethod.{ExportMethod}
use Rattle.cjc_check_index.specs.Imported.Tokens.{all_tokens}
use Rattle.cjc_check_index.specs.Imported.Working.Rows.{is_asked, lists_method}
use Rattle.cjc_check_index.proofs.ImportedLaws.Loops.{map_more, map_all}
use Rattle.cjc_check_index.proofs.imported.listed.method_tables.Goals as goal

pub loop-listed-preserved : goal.loop-listed-preserved
loop-listed-preserved c =
    let e : c.listed.inside.class.now ≡ c.listed-item.result = cc in
    map_more (λ (x : ExportClass). map (λ token. lists_method c.args.unbound token x) all_tokens)
    c.loop-listed.listed-index c.listed-item.result _ c.args.classes.now c.loop-listed.tables _
    c.loop-listed-test.true c.listed-item.is
    (c.in_ok-methods_of.ensures ∙ ap (λ (xs : List ExportMethod). map (λ token. list_any (λ y. is_asked c.args.unbound y
    && y.token == token) xs) all_tokens) c.items.ensures
    ∙ ap (λ (x : ExportClass). map (λ token. lists_method c.args.unbound token x) all_tokens) e)
    c.in_ok-push.ensures.ok c.loop-listed.invariant

pub returns : goal.returns
returns c = map_all (λ (x : ExportClass). map (λ token. lists_method c.args.unbound token x) all_tokens)
    c.loop-listed.listed-index c.args.classes.now c.loop-listed.tables c.loop-listed-test.false c.loop-listed.invariant
