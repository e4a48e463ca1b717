use Rattle.cjc_exported.proofs.ExportLaws.Classes.{export_fits}
use Rattle.cjc_exported.proofs.export_laws.export_file_fits.Goals as goal

pub returns : goal.returns
returns c = λ p h stands. export_fits p h stands (c.few_classes.ensures p h.few) (λ k e at. c.tokens_are_places.ensures
    p k e at)
