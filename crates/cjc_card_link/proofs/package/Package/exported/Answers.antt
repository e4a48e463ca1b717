use Rattle.std.proofs.Common.{ap, ◌∙◌}
use Rattle.std.specs.Prelude.{slice_get}
use Rattle.cjc_card_semantics.specs.Machine.Loaded.{Part}
use Rattle.cjc_card_link.proofs.package.Package.exported.Goals as goal

pub returns : goal.returns
returns c = c.exported_at.ensures ∙ ap (λ (q : Part). slice_get q.exports c.args.token) c.self.view_is
