use Rattle.std.proofs.Common.{◌≡◌, ◌<◌, ◌∙◌, ℕ, List, length, sym, arith}
use Rattle.std.proofs.lemmas.Slice.Eq.{bytes_eq-Decides}
use Rattle.cjc_types.proofs.Same.{same_more, same_end}
use Rattle.cjc_types.proofs.recent.are_same.Goals as goal

pub loop-i-preserved : goal.loop-i-preserved
loop-i-preserved c =
    let test = c.if-left-right.false in
    let more = c.loop-i-test.true in
    let sized : length c.args.left.now ≡ length c.args.right.now = omega (arith, test) in
    let lt : c.loop-i.i < length c.args.left.now = omega (arith, more) in
    let answer = c.ne.ensures in
    let equal = c.if-ne.false in
    let texts : c.items.result.now ≡ c.items-in-loop-i.result.now = grind (arith, bytes_eq-Decides, answer, equal) in
    let same : c.index-left-i.result ≡ c.index-right-i.result = sym c.items.ensures ∙ texts ∙ c.items-in-loop-i.ensures
    in
    same_more c.args.left.now c.args.right.now c.loop-i.i c.index-left-i.result c.index-right-i.result lt sized
    c.index-left-i.is c.index-right-i.is same c.loop-i.invariant
