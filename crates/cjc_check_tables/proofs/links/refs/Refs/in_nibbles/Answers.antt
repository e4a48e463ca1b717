use Rattle.std.proofs.Common.{ℕ, List, ◌+◌, ◌-◌, ap, arith, drop, take, length, get_or, Bool}
use Rattle.std.proofs.lemmas.List.{take_rest}
use Rattle.cjc_capread.specs.declared.tree.ClassRef.{ClassRef}
use Rattle.cjc_check_index.specs.Lookup.Indexed.{names_as}
use Rattle.cjc_check_tables.proofs.LinksLaws.Nibbles.{nibbles_more, nibbles_all, width_le}
use Rattle.cjc_check_tables.proofs.links.refs.Refs.in_nibbles.Goals as goal

pub loop-i-preserved : goal.loop-i-preserved
loop-i-preserved c =
    let test : ClassRef → Bool = names_as c.args.self.now.want c.args.self.now.names.now.parts.now.class.now
    c.args.self.now.names.now.exports.now in
    let xs = c.args.nibbles.now in
    let i = c.loop-i.i in
    let rest : List ℕ = take (length xs - i) (drop i xs) in
    let w = width_le (get_or rest 0 0) in
    let e = c.nibble_width-i.ensures in
    let lt = c.loop-i-test.true in (
      omega (arith, w, e, lt),
      rw c.earlier-least.ensures (nibbles_more test c.args.at i xs rest _ c.loop-i.least
          c.in_front.result _ lt (take_rest xs i) (ap (λ (n : ℕ). i + n) e) c.in_front.ensures c.loop-i.invariant.1),
    )

pub returns : goal.returns
returns c = nibbles_all (names_as c.args.self.now.want c.args.self.now.names.now.parts.now.class.now
    c.args.self.now.names.now.exports.now) c.args.at c.loop-i.i c.args.nibbles.now c.loop-i.least _ c.loop-i-test.false
    c.loop-i.invariant.1
