use Rattle.std.proofs.Common.{refl}
use Rattle.cjc_code.specs.Bytes.Spots.{after, bad_at, types_from, parts_of, desc_of}
use Rattle.cjc_ncode.proofs.int_code.instructions_are_written.Goals as goal

pub returns-clause-last_parameter : goal.returns-clause-last_parameter
unfolding after bad_at types_from parts_of desc_of
returns-clause-last_parameter c = refl

pub returns-clause-by_scratch : goal.returns-clause-by_scratch
unfolding after bad_at types_from parts_of desc_of
returns-clause-by_scratch c = refl

pub returns-clause-pairs : goal.returns-clause-pairs
unfolding after bad_at types_from parts_of desc_of
returns-clause-pairs c = refl
