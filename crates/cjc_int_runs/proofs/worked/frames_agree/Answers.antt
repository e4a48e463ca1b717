use Rattle.std.proofs.Common.{refl, [], ◌∷◌, arith}
use Rattle.std.specs.Prelude.{Some, None, pos, negsuc}
use Rattle.std.specs.Int.{int_wrap}
use Rattle.std.proofs.lemmas.Int.{ints}
use Rattle.cjc_script.specs.declared.value.Value.TheVariants.{Num, Null}
use Rattle.cjc_int_runs.specs.Relation.{number, reference, bottom, to_null, number_local, reference_local, no_local}
use Rattle.cjc_int_runs.specs.Relation.{one_more, one_word, two_words, nothing}
use Rattle.cjc_int_runs.proofs.worked.frames_agree.Goals as goal

pub returns-clause-stack : goal.returns-clause-stack
unfolding int_wrap
returns-clause-stack c = number refl (record { above = omega (arith, ints); below = omega (arith, ints) })
    (reference to_null bottom)

pub returns-clause-locals : goal.returns-clause-locals
unfolding int_wrap
returns-clause-locals c = record {
  arguments = Some Null ∷ None ∷ Some (Num (pos 7)) ∷ [];
  own = Some Null ∷ None ∷ Some (Num (negsuc 0)) ∷ Some (Num (pos 0)) ∷ [];
  scratch = [];
  are = refl;
  argument_words = refl;
  own_words = refl;
  scratch_words = refl;
  agree = reference_local to_null (number_local refl (record {
    above = omega (arith, ints);
    below = omega (arith, ints);
  }) no_local);
}

pub returns-clause-arguments : goal.returns-clause-arguments
unfolding int_wrap
returns-clause-arguments c = one_more (one_word refl (record {
  above = omega (arith, ints);
  below = omega (arith, ints);
}) (record { above = omega (arith, ints); below = omega (arith, ints) })) (one_more (two_words refl (record {
  above =
      omega (arith, ints);
  below = omega (arith, ints);
})) nothing)

pub returns-clause-least : goal.returns-clause-least
unfolding int_wrap
returns-clause-least c = refl

pub returns-clause-greatest : goal.returns-clause-greatest
unfolding int_wrap
returns-clause-greatest c = refl
