use Rattle.std.proofs.Common.{refl}
use Rattle.cjc_bytes.specs.Spots.{after, bad_at, types_from, parts_of, desc_of}
use Rattle.cjc_script.proofs.numbers_fit_their_types.Goals as goal

pub returns-clause-boolean : goal.returns-clause-boolean
unfolding after bad_at types_from parts_of desc_of
returns-clause-boolean c = refl

pub returns-clause-byte : goal.returns-clause-byte
unfolding after bad_at types_from parts_of desc_of
returns-clause-byte c = refl

pub returns-clause-past_byte : goal.returns-clause-past_byte
unfolding after bad_at types_from parts_of desc_of
returns-clause-past_byte c = refl

pub returns-clause-short : goal.returns-clause-short
unfolding after bad_at types_from parts_of desc_of
returns-clause-short c = refl

pub returns-clause-past_short : goal.returns-clause-past_short
unfolding after bad_at types_from parts_of desc_of
returns-clause-past_short c = refl

pub returns-clause-number : goal.returns-clause-number
unfolding after bad_at types_from parts_of desc_of
returns-clause-number c = refl

pub returns-clause-null : goal.returns-clause-null
unfolding after bad_at types_from parts_of desc_of
returns-clause-null c = refl

pub returns-clause-other_class : goal.returns-clause-other_class
unfolding after bad_at types_from parts_of desc_of
returns-clause-other_class c = refl

pub returns-clause-no_value : goal.returns-clause-no_value
unfolding after bad_at types_from parts_of desc_of
returns-clause-no_value c = refl
