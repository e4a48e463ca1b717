use Rattle.std.proofs.Common.{◌≡◌, Bool, true, List, length, slice_set, sym, ap, ◌∙◌, subst}
use Rattle.std.proofs.lemmas.List.{length-set, take_all}
use Rattle.cjc_classfile.specs.declared.tree.Catch.{Catch}
use Rattle.cjc_types.specs.Repeats.{IsFrom, CoverAlike}
use Rattle.cjc_types.specs.Working.RepeatLaws.{alike_more}
use Rattle.cjc_types.proofs.repeats.bounds.Goals as goal

pub loop-catch-preserved : goal.loop-catch-preserved
loop-catch-preserved c =
    let old : List Bool = c.loop-catch.bounds.items in
    let p = c.place_from-start.result in
    let q = c.place_from-end.result in
    let is : c.put_bound-in-loop-catch.new.bounds.items ≡ slice_set (slice_set old p true) q true =
    c.put_bound-in-loop-catch.ensures ∙ ap (λ (zs : List Bool). slice_set zs q true) c.put_bound.ensures in
    let start : IsFrom c.args.insns.now c.catch-item.result.start p = subst (λ n. IsFrom c.args.insns.now n p)
    c.from.ensures c.place_from-start.ensures in
    let end : IsFrom c.args.insns.now c.catch-item.result.end q = subst (λ n. IsFrom c.args.insns.now n q)
    c.from-in-loop-catch.ensures c.place_from-end.ensures in
    record {
      sized = ap length is ∙ length-set (slice_set old p true) q true ∙ length-set old p true
          ∙ c.loop-catch.invariant.sized;
      alike = alike_more c.args.insns.now c.args.catches.now c.loop-catch.catch-index c.catch-item.result p q old
          c.put_bound-in-loop-catch.new.bounds.items c.loop-catch.invariant.sized c.loop-catch-test.true c.catch-item.is
          start end is c.loop-catch.invariant.alike;
    }

pub returns : goal.returns
returns c =
    subst (λ (bs : List Bool). CoverAlike c.args.insns.now bs c.args.catches.now) (sym c.of.ensures)
    (subst (λ (cs : List Catch). CoverAlike c.args.insns.now c.loop-catch.bounds.items cs)
    (take_all c.loop-catch.catch-index c.args.catches.now c.loop-catch-test.false) c.loop-catch.invariant.alike)
