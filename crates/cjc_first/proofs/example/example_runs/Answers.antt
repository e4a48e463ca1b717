use Rattle.std.proofs.Common.{refl}
use Rattle.std.specs.Int.{int_wrap}
use Rattle.cjc_bytes.specs.Format.{repeated, raw}
use Rattle.cjc_bytes.specs.Reading.{front, digits}
use Rattle.cjc_bytes.specs.Found.{each}
use Rattle.cjc_bytes.specs.Spots.{desc_of, parts_of, bad_at, after, types_from}
use Rattle.cjc_code.specs.Table.{row}
use Rattle.cjc_code.specs.Instruction.{operand, operands, opcode_at, behind_opcode, behind_first, instruction}
use Rattle.cjc_code.specs.Cut.{cut_rest, cut}
use Rattle.cjc_code.specs.Unfit.{marks, starts, unfit_code}
use Rattle.cjc_code.specs.Named.{named, all_named}
use Rattle.cjc_first.specs.TokenMachine.Naming.{loaded, header as read_header}
use Rattle.cjc_first.specs.TokenMachine.Rows.{fetch}
use Rattle.cjc_code.specs.Decoded.{least, decoding, decoded}
use Rattle.cjc_first.specs.NameMachine.ByName.{does}
use Rattle.cjc_first.specs.NameMachine.Linked.{declared_methods}
use Rattle.cjc_first.specs.Scripts.Types.{signature}
use Rattle.cjc_first.specs.Selected.{selected, selected_code, header}
use Rattle.cjc_first.specs.Converted.{tree_for}
use Rattle.cjc_first.proofs.example.example_runs.Goals as goal

pub returns-clause-named : goal.returns-clause-named
unfolding row operand operands opcode_at behind_opcode behind_first instruction cut_rest cut marks starts unfit_code named all_named least decoding repeated raw front digits each desc_of parts_of bad_at after types_from decoded int_wrap declared_methods signature does
returns-clause-named c = refl

pub returns-clause-by_token : goal.returns-clause-by_token
unfolding loaded tree_for selected selected_code header read_header fetch int_wrap signature
returns-clause-by_token c = refl
