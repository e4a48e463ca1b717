use Rattle.std.proofs.Common.{List, ap, ◌∙◌}
use Rattle.cjc_card_semantics.specs.Machine.Loaded.{Loaded, Part}
use Rattle.cjc_card_link.proofs.tables.Tables.of_group.Goals as goal

pub returns-clause-of : goal.returns-clause-of
returns-clause-of c =
    let over : List Part → Loaded = λ qs. record { parts = qs; trees = c.args.trees.now } in
    c.in_ok-tables.ensures.of ∙ ap over c.in_ok-packages.ensures
