use Rattle.std.proofs.Common.{ℕ, ◌+◌, ◌*◌, ◌≤◌, arith}
use Rattle.std.proofs.lemmas.Bool.Decides.{nat_tests}
use Rattle.cjc_examples.specs.Layout.Working.{switch_size}
use Rattle.cjc_examples.proofs.LowerLayout.Opcodes.{size_some, size_zero}
use Rattle.cjc_tests_selection.proofs.code.whole.size_bound.Goals as goal

table_bound : (op cases : ℕ) → switch_size op cases ≤ 11 + 6 * cases
table_bound op cases = grind (arith, nat_tests)

pub returns-then-length-eq0 : goal.returns-then-length-eq0
returns-then-length-eq0 c =
    let e = size_zero c.args.opcode c.args.cases c.length_of-length.result c.length_of-length.ensures
    c.if-length-eq0.true in
    let b = table_bound c.args.opcode c.args.cases in omega (arith, e, b)

pub returns-else-length-eq0 : goal.returns-else-length-eq0
returns-else-length-eq0 c =
    let e = size_some c.args.opcode c.args.cases c.length_of-length.result c.length_of-length.ensures
    c.if-length-eq0.false in omega (arith, e, c.from.ensures)
