use Rattle.cjc_subset.specs.Checks.{insn_breaks}
use Rattle.cjc_bytes.proofs.Firsts.{at_same}
use Rattle.cjc_subset.proofs.checking.insn_break.Goals as goal

pub returns : goal.returns
unfolding insn_breaks
returns c = λ f d i m e. c.first-2.ensures _ _ (c.first.ensures _ _ (at_same 301 _ c.names_unsupported.ensures e
    c.broken-unsupported.ensures) (at_same 302 _ c.needs_ints.ensures e c.broken-int.ensures))
    (at_same 310 _ c.names_variable.ensures e c.broken-variable.ensures)
