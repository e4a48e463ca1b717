use Rattle.std.proofs.Common.{sym, ap, ◌∙◌}
use Rattle.cjc_card_semantics.specs.Machine.Loaded.{Part}
use Rattle.cjc_card_link.specs.Group.{part_with}
use Rattle.cjc_card_link.proofs.package.Package.part.Goals as goal

pub returns : goal.returns
returns c = sym (ap (λ (q : Part). part_with q.imports c.self.inside.part) c.self.view_is) ∙ c.self.view_is
