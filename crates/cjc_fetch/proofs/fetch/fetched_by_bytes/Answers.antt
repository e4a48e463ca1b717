use Rattle.cjc_fetch.proofs.Fetching.{by_bytes}
use Rattle.cjc_fetch.proofs.fetch.fetched_by_bytes.Goals as goal

pub returns : goal.returns
returns c = λ l code part at e. by_bytes l code part at e
