use Rattle.std.proofs.Common.{refl}
use Rattle.std.specs.Int.{int_wrap}
use Rattle.cjc_bytes.specs.Format.{before}
use Rattle.cjc_bytes.specs.Reading.{read_file, digits, front}
use Rattle.cjc_card.specs.Naming.{loaded, header as read_header}
use Rattle.cjc_card.specs.Rows.{fetch}
use Rattle.cjc_code.specs.Cut.{cut, instruction}
use Rattle.cjc_code.specs.Table.{row_of}
use Rattle.cjc_ncode.specs.ByName.{does}
use Rattle.cjc_ncode.specs.Linked.{declared_methods}
use Rattle.cjc_script.specs.Types.{signature}
use Rattle.cjc_convert.specs.Selected.{selected, selected_code, header}
use Rattle.cjc_convert.specs.Converted.{tree_for}
use Rattle.cjc_convert.proofs.example.example_acts_run.Goals as goal

pub returns-clause-named : goal.returns-clause-named
unfolding cut instruction read_file digits front row_of before int_wrap declared_methods signature does
returns-clause-named c = refl

pub returns-clause-by_token : goal.returns-clause-by_token
unfolding loaded tree_for selected selected_code header read_header fetch int_wrap signature
returns-clause-by_token c = refl
