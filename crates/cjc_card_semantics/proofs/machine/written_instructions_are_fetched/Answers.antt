use Rattle.cjc_card_semantics.proofs.MachineLaws.Fetching.{fetch_written}
use Rattle.cjc_card_semantics.proofs.machine.written_instructions_are_fetched.Goals as goal

pub returns : goal.returns
returns c = fetch_written
