use Rattle.std.proofs.Common.{◌≡◌, ℕ, ◌<◌, ◌≤◌, ◌∙◌, Bool, List, cond, ltb, length, set, get_or, true, ap, arith}
use Rattle.cjc_code.specs.declared.raw.Raw.{Raw}
use Rattle.cjc_code.specs.Unfit.{starts}
use Rattle.cjc_code.proofs.Marks.{marks_next, marks_end}
use Rattle.cjc_code.proofs.starts.starts.Goals as goal

abbrev put : List Bool → ℕ → List Bool
put old p = cond (ltb p (length old)) (set old p true) old

pub loop-insn-preserved : goal.loop-insn-preserved
loop-insn-preserved c =
    let insns = c.args.cut.now.insns in
    let i = c.loop-insn.insn-index in
    let d = c.insn-item.result in
    let old = c.loop-insn.starts.items in
    let new = c.marked-starts.result.items in
    let here : d ≡ get_or insns i d = c.insn-item.is ∙ ap (λ (rs : List Raw). get_or rs i d) c.items-insn-items.ensures
    in
    let same : c.from.result ≡ (get_or insns i d).at = c.from.ensures ∙ ap (λ (r : Raw). r.at) here in
    let lt : i < length insns = omega (arith, ap length c.items-insn-items.ensures) in
    marks_next insns i d c.args.size old new lt (c.marked-starts.ensures ∙ ap (put old) same) c.loop-insn.invariant

pub returns : goal.returns
unfolding starts
returns c =
    let insns = c.args.cut.now.insns in
    let old = c.loop-insn.starts.items in
    let le : length insns ≤ c.loop-insn.insn-index = omega (arith, ap length c.items-insn-items.ensures) in
    c.marked.ensures ∙ marks_end insns c.loop-insn.insn-index c.args.cut.now.stop c.args.size old le
    c.loop-insn.invariant
