use Rattle.cjc_accepted_proof.proofs.DescribedLaws.{described_none}
use Rattle.cjc_accepted_proof.proofs.described.descriptor_says_what_the_package_says.Goals as goal

pub returns : goal.returns
returns c p typed near card named = described_none p card named (c.members_have_types.ensures p typed)
    (c.pool_entries_have_types.ensures.each p near)
