use Rattle.std.proofs.Common.{List, [], ◌∷◌, ◌++◌, ap, ◌∙◌}
use Rattle.cjc_card_semantics.specs.Machine.Loaded.{Import, Loaded, Part}
use Rattle.cjc_card_link.specs.Group.{part_with}
use Rattle.cjc_card_link.proofs.tables.Tables.new.Goals as goal

pub returns-clause-of : goal.returns-clause-of
returns-clause-of c =
    let over : List Part → Loaded = λ qs. record { parts = qs; trees = c.args.trees.now } in
    c.in_ok-tables.ensures.of
    ∙ ap over (c.in_ok-push.ensures.ok ∙ ap (λ (qs : List Part). qs ++ c.in_ok-package.package ∷ [])
    c.new-packages.ensures)
    ∙ ap (λ (q : Part). over (q ∷ [])) (c.in_ok-package.ensures ∙ ap (λ (is : List Import). part_with is c.args.part)
    c.in_ok-imports.ensures)
