use Rattle.cjc_narrow.specs.Resolved.{resolution}
use Rattle.cjc_ncode.specs.Written.{place_in, reached}
use Rattle.cjc_written.specs.Rows.{rows_by}
use Rattle.cjc_select_laws.proofs.Formed.{all_formed}
use Rattle.cjc_select_laws.proofs.selected_code_is_formed.Goals as goal

pub returns : goal.returns
returns c = λ n files near class method tree insns flags k insn e.
    all_formed n (resolution files near class.name) (place_in (resolution files near class.name) (reached insns (rows_by flags))) (reached insns (rows_by flags)) k insn e
