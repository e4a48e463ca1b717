use Rattle.std.proofs.Common.{◌≡◌, ◌≤◌, ◌-◌, List, [], ◌∷◌, ◌++◌, ℕ, length, take, drop, reverse, ◌∙◌, ap, arith}
use Rattle.cjc_types.specs.declared.cell.Cell.{Cell}
use Rattle.cjc_types.specs.Working.Parts.{bottom_up}
use Rattle.cjc_types.proofs.Parts.{reverse_kept_above, next_part, last_part}
use Rattle.cjc_types.proofs.operands.Operands.below.Goals as goal

pub loop-left-preserved : goal.loop-left-preserved
loop-left-preserved c =
    let before = c.loop-left.parts.items in
    let after = c.pop.new.self.items in
    let part : List Cell = c.in-Some.part in
    let is : before ≡ after ++ part ∷ [] = c.in-Some.ensures.items in
    let cells : c.into_vec-own.result.items ≡ part = c.into_vec-own.ensures ∙ c.in_ok-copied_cells.ensures
    ∙ c.items-in-loop-left.ensures in
    let count : c.len-in-loop-left.result ≡ length c.loop-left.own.items = c.len-in-loop-left.ensures
    ∙ c.loop-left.own.ok.0 in
    let test = c.len.ensures in
    let again = c.len-in-loop-left.ensures in
    let over = c.loop-left-test.true in
    let past : c.len-in-loop-left.result ≤ c.loop-left.left = omega (arith, test, again, over) in
    let whole = last_part before after part is in
    let deep = c.loop-left.invariant.deep in
    let fits = c.loop-left.invariant.fits in
    let one = ap length c.items.ensures in
    let two = ap length cells in
    record {
      rest = next_part before after part c.loop-left.own.items c.into_vec-own.result.items c.loop-left.left
          c.len-in-loop-left.result is cells count past ∙ c.loop-left.invariant.rest;
      deep = omega (arith, whole, deep, one);
      fits = omega (arith, whole, deep, one, two, fits);
    }

pub returns : goal.returns
returns c =
    let deep : List Cell = bottom_up c.loop-left.parts.items in
    let own = c.loop-left.own.items in
    let count : c.len-2.result ≡ length own = c.len-2.ensures ∙ c.loop-left.own.ok.0 in
    let test = c.len.ensures ∙ c.loop-left.own.ok.0 in
    let under = c.loop-left-test.false in
    let inside : c.loop-left.left ≤ length own = omega (arith, test, under) in
    ap (λ (zs : List Cell). reverse (deep ++ zs)) (c.truncate.ensures.items
    ∙ ap (λ (n : ℕ). take (n - c.loop-left.left) own) count)
    ∙ reverse_kept_above deep own c.loop-left.left inside
    ∙ c.loop-left.invariant.rest
    ∙ ap (drop c.args.count) c.self.view_is
