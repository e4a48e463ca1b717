use Rattle.cjc_export_laws.proofs.Classes.{export_fits}
use Rattle.cjc_export_laws.proofs.export_file_fits.Goals as goal

pub returns : goal.returns
returns c = λ p h stands. export_fits p h stands (c.few_classes.ensures p h.few) (λ k e at. c.tokens_are_places.ensures p k e at)
