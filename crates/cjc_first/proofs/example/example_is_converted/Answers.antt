use Rattle.std.proofs.Common.{◌≡◌, refl, [], ◌∷◌, inr, arith}
use Rattle.std.specs.Prelude.{Ok}
use Rattle.cjc_bytes.specs.Format.{repeated, raw}
use Rattle.cjc_bytes.specs.Reading.{front, digits}
use Rattle.cjc_bytes.specs.Found.{each}
use Rattle.cjc_bytes.specs.Spots.{desc_of, parts_of, bad_at, after, types_from}
use Rattle.cjc_code.specs.Table.{row}
use Rattle.cjc_code.specs.Instruction.{operand, operands, opcode_at, behind_opcode, behind_first, instruction}
use Rattle.cjc_code.specs.Cut.{cut_rest, cut}
use Rattle.cjc_code.specs.Unfit.{marks, starts, unfit_code}
use Rattle.cjc_code.specs.Named.{named, all_named}
use Rattle.cjc_code.specs.Decoded.{decoding, least}
use Rattle.cjc_first.specs.Selected.{selected, selected_code, header}
use Rattle.cjc_first.specs.Converted.{tree_for}
use Rattle.cjc_first.specs.Example.{example_line, example_class, example_code, example_method, example_insns}
use Rattle.cjc_first.specs.FirstForm.{IsFirstForm, IsSumCode, IsSumMethod}
use Rattle.std.specs.Int.{int_wrap}
use Rattle.cjc_first.proofs.example.example_is_converted.Goals as goal

are_decoded : decoding example_class example_method example_code ≡ Ok example_insns
unfolding row operand operands opcode_at behind_opcode behind_first instruction cut_rest cut marks starts unfit_code named all_named least decoding repeated raw front digits each desc_of parts_of bad_at after types_from
are_decoded = refl

pub returns-clause-decoded : goal.returns-clause-decoded
returns-clause-decoded c = are_decoded

is_sum_code : IsSumCode 1 example_code example_insns
is_sum_code = record {
  length = omega arith;
  is_sum = refl;
  some_stack = omega arith;
  stack_for_two = λ e. omega arith;
  stack = omega arith;
  params_fit = omega arith;
  locals = omega arith;
  size = omega arith;
  catches = refl;
}

is_sum_method : IsSumMethod 1 example_method example_code example_insns
is_sum_method = record {
  flags = refl;
  name = record { bytes = refl; some = omega arith };
  name_length = omega arith;
  desc = refl;
  few = omega arith;
  has_code = refl;
  is_sum = is_sum_code;
}

is_first_form : IsFirstForm example_line example_class
is_first_form = record {
  short_name = omega arith;
  major = (omega arith, omega arith);
  pool = refl;
  flags = inr refl;
  superclass = refl;
  interfaces = refl;
  fields = refl;
  part = 84 ∷ [];
  name = refl;
  name_length = omega arith;
  is_part = record { bytes = refl; some = omega arith };
  method = example_method;
  methods = refl;
  code = example_code;
  insns = example_insns;
  are_decoded = are_decoded;
  params = 1;
  is_sum = is_sum_method;
}

pub returns-clause-method : goal.returns-clause-method
unfolding selected selected_code header tree_for int_wrap is_first_form
returns-clause-method c = (is_first_form, refl)
