use Rattle.cjc_narrow.proofs.KeysLaws.Indices.{key_at, needed}
use Rattle.cjc_narrow.proofs.keys.laws.indices_name_their_keys.Goals as goal

pub returns : goal.returns
returns c = record { named = key_at; needed = needed }
