use Rattle.cjc_subset.specs.Names.{insn_breaks}
use Rattle.cjc_bytes.proofs.Firsts.{at_same}
use Rattle.cjc_subset.proofs.naming.insn_break.Goals as goal

pub returns : goal.returns
unfolding insn_breaks
returns c = λ f i e.
    let there = c.first.ensures _ _ (at_same 203 _ c.names_missing.ensures e c.broken-missing.ensures)
    (at_same 205 _ c.names_unfound.ensures e c.broken-unfound.ensures) in
    let kinds = c.first-2.ensures _ _ there (at_same 205 _ c.names_other_kind-other.ensures e
    c.broken-other_kind.ensures) in
    c.first-3.ensures _ _ kinds (at_same 206 _ c.names_unfit.ensures e c.broken-unfit.ensures)
