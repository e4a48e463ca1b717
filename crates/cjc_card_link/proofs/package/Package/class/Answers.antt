use Rattle.std.proofs.Common.{ap}
use Rattle.cjc_card_semantics.specs.Machine.Loaded.{Part}
use Rattle.cjc_card_link.proofs.package.Package.class.Goals as goal

pub returns : goal.returns
returns c = ap (λ (q : Part). q.class) c.self.view_is
