use Rattle.cjc_exported.proofs.ExportFile.Tokened.{token-is-place}
use Rattle.cjc_exported.proofs.export_file.laws.tokens_are_places.Goals as goal

pub returns : goal.returns
returns c p k class at = token-is-place p k class at
