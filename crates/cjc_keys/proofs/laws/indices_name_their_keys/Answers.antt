use Rattle.cjc_keys.proofs.Indices.{key_at, needed}
use Rattle.cjc_keys.proofs.laws.indices_name_their_keys.Goals as goal

pub returns : goal.returns
returns c = record { named = key_at; needed = needed }
