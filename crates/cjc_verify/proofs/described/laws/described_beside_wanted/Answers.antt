use Rattle.cjc_verify.proofs.DescribedLaws.Spots.{arrays_beside_wanted, described_beside_wanted}
use Rattle.cjc_verify.proofs.described.laws.described_beside_wanted.Goals as goal

pub returns : goal.returns
returns c = record { described = described_beside_wanted; arrays = arrays_beside_wanted }
