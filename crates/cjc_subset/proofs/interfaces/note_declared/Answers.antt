use Rattle.std.proofs.Common.{◌+◌, List, ℕ, drop, sym, ap, ◌∙◌}
use Rattle.std.specs.List.{flat_map}
use Rattle.cjc_code.specs.ClassFile.declared.tree.ClassTree.{ClassTree}
use Rattle.cjc_world.specs.Classes.{all_classes, declared}
use Rattle.cjc_subset.specs.Limits.{listed_above, noted}
use Rattle.cjc_subset.proofs.Noted.{list_on, lists_done}
use Rattle.cjc_subset.proofs.interfaces.note_declared.Goals as goal

pub loop-other-preserved : goal.loop-other-preserved
loop-other-preserved c =
    let f = λ (d : ClassTree). listed_above (all_classes c.args.world.now) c.args.class.now (declared 0 d) in
    ap (λ (ks : List (List ℕ)). noted ks (flat_map f (drop (c.loop-other.other-index + 1) c.args.others.now)))
    (c.in_ok-note_above.ensures)
    ∙ sym (list_on f c.args.others.now c.loop-other.other-index c.loop-other.known c.other-item.result
    c.loop-other-test.true c.other-item.is)
    ∙ c.loop-other.invariant

pub returns : goal.returns
returns c =
    let f = λ (d : ClassTree). listed_above (all_classes c.args.world.now) c.args.class.now (declared 0 d) in
    sym (lists_done f c.args.others.now c.loop-other.other-index c.loop-other.known c.loop-other-test.false)
    ∙ c.loop-other.invariant
