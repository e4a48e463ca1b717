use Rattle.cjc_card_frame.proofs.FetchLaws.Fetching.{by_bytes}
use Rattle.cjc_card_frame.proofs.fetch.fetch.fetched_by_bytes.Goals as goal

pub returns : goal.returns
returns c = λ l code part at e. by_bytes l code part at e
