use Rattle.cjc_int_selection.proofs.Naming.{all_named}
use Rattle.cjc_int_selection.proofs.code.written_code_names_what_is_named.Goals as goal

pub returns : goal.returns
returns c f r code reached places k insn e = all_named r f code reached places k insn e
