-- The checker computes what the codes are decoded to.
use Rattle.std.proofs.Common.{refl}
use Rattle.cjc_bytes.specs.Format.{repeated, raw}
use Rattle.cjc_bytes.specs.Reading.{front, digits}
use Rattle.cjc_bytes.specs.Found.{each}
use Rattle.cjc_bytes.specs.Spots.{desc_of, parts_of, bad_at, after, types_from}
use Rattle.cjc_code.specs.Table.{row}
use Rattle.cjc_code.specs.Instruction.{operand, operands, opcode_at, wide_opcode_at, behind_opcode, behind_first}
use Rattle.cjc_code.specs.Instruction.{instruction}
use Rattle.cjc_code.specs.Cut.{cut_rest, cut}
use Rattle.cjc_code.specs.Unfit.{marks, starts, unfit_code}
use Rattle.cjc_code.specs.Named.{named, all_named}
use Rattle.cjc_code.specs.Decoded.{least, decoding}
use Rattle.cjc_code.proofs.laws.samples.Goals as goal

pub returns-clause-unfit : goal.returns-clause-unfit
unfolding row operand operands opcode_at wide_opcode_at behind_opcode behind_first instruction cut_rest cut marks starts
    unfit_code named all_named least decoding repeated raw front digits each desc_of parts_of bad_at after types_from
returns-clause-unfit c = refl

pub returns-clause-unsupported : goal.returns-clause-unsupported
unfolding row operand operands opcode_at wide_opcode_at behind_opcode behind_first instruction cut_rest cut marks starts
    unfit_code named all_named least decoding repeated raw front digits each desc_of parts_of bad_at after types_from
returns-clause-unsupported c = refl

pub returns-clause-good : goal.returns-clause-good
unfolding row operand operands opcode_at wide_opcode_at behind_opcode behind_first instruction cut_rest cut marks starts
    unfit_code named all_named least decoding repeated raw front digits each desc_of parts_of bad_at after types_from
returns-clause-good c = refl

pub returns-clause-others : goal.returns-clause-others
unfolding row operand operands opcode_at wide_opcode_at behind_opcode behind_first instruction cut_rest cut marks starts
    unfit_code named all_named least decoding repeated raw front digits each desc_of parts_of bad_at after types_from
returns-clause-others c = refl
