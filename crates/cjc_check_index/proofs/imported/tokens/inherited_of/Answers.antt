use Rattle.std.proofs.Common.{List, ℕ, Bool, ap, map, ◌∙◌}
use Rattle.cjc_check_rules.specs.ExportFile.Supers.{lists_virtual}
use Rattle.cjc_check_index.specs.Imported.Tokens.{all_tokens}
use Rattle.cjc_check_index.specs.Imported.Working.Graph.{above_of}
use Rattle.cjc_check_index.specs.Imported.Working.Rows.{is_any_marked}
use Rattle.cjc_check_index.proofs.ImportedLaws.Closure.{inherited_rows}
use Rattle.cjc_check_index.proofs.imported.tokens.inherited_of.Goals as goal

pub returns : goal.returns
returns c = λ classes above virtuals.
    c.in_ok-rows.ensures
    ∙ ap (λ (places : List (List ℕ)). map (λ (marks : List Bool). map (is_any_marked marks) places) c.args.virtuals.now)
    above
    ∙ ap (λ (rows : List (List Bool)). map (λ (marks : List Bool). map (is_any_marked marks) (above_of classes)) rows)
    virtuals
    ∙ inherited_rows lists_virtual classes all_tokens
