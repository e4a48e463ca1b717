use Rattle.std.proofs.Common.{◌<◌, ◌^◌, List, length, ap, ◌∙◌, subst}
use Rattle.cjc_card_semantics.specs.ExportFile.declared.tree.ExportTree.{ExportTree}
use Rattle.cjc_card_semantics.specs.Machine.Classes.{info_count}
use Rattle.cjc_card_semantics.specs.Machine.Loaded.{Part}
use Rattle.cjc_card_link.proofs.tables.Tables.over.Goals as goal

pub returns-clause-kept : goal.returns-clause-kept
returns-clause-kept c = record {
  few = subst (λ (qs : List Part). length qs < 2 ^ 32) c.items.ensures c.in_ok-count.ensures.few;
  counts = c.in_ok-count.ensures.count ∙ ap info_count c.items.ensures;
  small = c.in_ok-count.ensures.small;
}

pub returns-clause-of : goal.returns-clause-of
returns-clause-of c = ap (λ (ts : List ExportTree). record { parts = c.args.packages; trees = ts })
    c.in_ok-exported.ensures
