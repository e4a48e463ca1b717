use Rattle.std.proofs.Common.{◌≡◌, ℕ, List, ◌≤◌, ap, sym, ◌∙◌, arith, length, length-drop, map, subst, drop}
use Rattle.std.specs.List.Sorted.{IsNonDecreasing}
use Rattle.std.proofs.lemmas.Slice.{between_to_end}
use Rattle.cjc_check.specs.declared.codes.code.At.{At}
use Rattle.cjc_check.proofs.CodesLaws.Rises.{walked_rise}
use Rattle.cjc_check.proofs.codes.cutting.behind_header.Goals as goal

pub returns-in_ok-starts-in-Whole-clause-within : goal.returns-in_ok-starts-in-Whole-clause-within
returns-in_ok-starts-in-Whole-clause-within c =
    let bs = c.args.bytes.now in
    let size = c.args.header.size in
    let w = rw c.in-Whole.is at c.in_ok-insns.ensures.within in
    let is = rw c.in-Whole.is at c.in_ok-insns.ensures.is in
    let e = between_to_end bs size (length bs) (omega arith) in
    let count : c.args.count ≤ length (drop size bs) = subst (λ (ys : List ℕ). c.args.count ≤ length ys) e w.0 in
    let n = length-drop size bs in
    let h = c.requires.small in
    let h2 = c.requires.within in
    let same = c.in_ok-starts-in-Whole.ensures ∙ ap (λ (xs : List At). map (λ a. a.at) xs) c.items.ensures in (
      omega arith,
      omega (arith, count, n, h2),
      record {
        insns = w.1;
        starts = same;
        rise = subst IsNonDecreasing (sym same) (walked_rise _ _ _ _ c.in-Whole.insns is);
        first = omega (arith, h, h2);
        end = omega (arith, count, n, h, h2);
      },
    )
