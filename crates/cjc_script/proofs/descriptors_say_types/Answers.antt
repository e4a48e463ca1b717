use Rattle.std.proofs.Common.{refl}
use Rattle.cjc_bytes.specs.Spots.{after, bad_at, types_from, parts_of, desc_of}
use Rattle.cjc_script.proofs.descriptors_say_types.Goals as goal

pub returns-clause-method : goal.returns-clause-method
unfolding after bad_at types_from parts_of desc_of
returns-clause-method c = refl

pub returns-clause-result : goal.returns-clause-result
unfolding after bad_at types_from parts_of desc_of
returns-clause-result c = refl

pub returns-clause-field : goal.returns-clause-field
unfolding after bad_at types_from parts_of desc_of
returns-clause-field c = refl

pub returns-clause-arrays_of_arrays : goal.returns-clause-arrays_of_arrays
unfolding after bad_at types_from parts_of desc_of
returns-clause-arrays_of_arrays c = refl

pub returns-clause-long : goal.returns-clause-long
unfolding after bad_at types_from parts_of desc_of
returns-clause-long c = refl

pub returns-clause-of_field : goal.returns-clause-of_field
unfolding after bad_at types_from parts_of desc_of
returns-clause-of_field c = refl

pub returns-clause-broken : goal.returns-clause-broken
unfolding after bad_at types_from parts_of desc_of
returns-clause-broken c = refl

pub returns-clause-array : goal.returns-clause-array
unfolding after bad_at types_from parts_of desc_of
returns-clause-array c = refl

pub returns-clause-class : goal.returns-clause-class
unfolding after bad_at types_from parts_of desc_of
returns-clause-class c = refl
