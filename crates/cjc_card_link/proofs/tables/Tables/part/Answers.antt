use Rattle.std.proofs.Common.{ap, ◌∙◌, Some}
use Rattle.cjc_card_semantics.specs.Machine.Loaded.{Part}
use Rattle.cjc_card_link.proofs.tables.Tables.part.Goals as goal

pub returns-in-Some : goal.returns-in-Some
returns-in-Some c = (
  c.in-Some.package.now.imports,
  ap (λ (q : Part). Some q) c.part.ensures ∙ c.in-Some.ensures,
)

pub returns-in-None : goal.returns-in-None
returns-in-None c = c.in-None.ensures
