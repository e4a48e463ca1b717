use Rattle.cjc_card.proofs.Fetching.{fetch_written}
use Rattle.cjc_card.proofs.written_instructions_are_fetched.Goals as goal

pub returns : goal.returns
returns c = fetch_written
