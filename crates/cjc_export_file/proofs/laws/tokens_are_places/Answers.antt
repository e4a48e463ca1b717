use Rattle.cjc_export_file.proofs.Tokened.{token-is-place}
use Rattle.cjc_export_file.proofs.laws.tokens_are_places.Goals as goal

pub returns : goal.returns
returns c p k class at = token-is-place p k class at
