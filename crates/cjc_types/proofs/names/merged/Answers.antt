use Rattle.std.proofs.Common.{◌≡◌, ◌≤◌, ◌⊎◌, ◌∙◌, ℕ, List, inl, inr, length, refl, subst}
use Rattle.std.specs.Result.{IfOk}
use Rattle.cjc_types.specs.Names.{union}
use Rattle.cjc_types.specs.Working.Merging.{merged_next, merged_within, merged_end}
use Rattle.cjc_types.proofs.names.merged.Goals as goal
use Rattle.cjc_types.proofs.names.merged.Goals.{then-loop-i-test+else-k-right, else-loop-i-test}

pub loop-i-preserved : goal.loop-i-preserved
loop-i-preserved c =
    let within = merged_within c.in_ok-order.order c.loop-i.i c.loop-i.k (length c.args.left.now)
    (length c.args.right.now) c.steps_left-i.result c.steps_right-k.result c.loop-i-test.true c.if-k-right.true
    c.steps_left-i.ensures c.steps_right-k.ensures in
    record {
      left = within.0;
      right = within.1;
      union = merged_next c.args.left.now c.args.right.now c.loop-i.set.items c.put_lesser.new.set.items c.loop-i.i
          c.loop-i.k c.index-left-i.result c.index-right-k.result c.index-left-i.result c.index-right-k.result
          c.in_ok-order.order
          c.steps_left-i.result c.steps_right-k.result c.requires c.loop-i-test.true c.if-k-right.true c.index-left-i.is
          c.index-right-k.is refl refl
          c.in_ok-order.ensures.order c.in_ok-order.ensures.put c.steps_left-i.ensures c.steps_right-k.ensures
          ∙ c.loop-i.invariant.union;
    }

pub returns : goal.returns
returns c =
    let over : (length c.args.left.now ≤ c.loop-i.i) ⊎ (length c.args.right.now ≤ c.loop-i.k) =
    elim c.loop-i-test.branch [
      | then-loop-i-test+else-k-right w ↦ inr w.if-k-right.false
      | else-loop-i-test w ↦ inl w.loop-i-test.false
    ] in
    let whole : c.of.result ≡ union c.args.left.now c.args.right.now =
    merged_end c.args.left.now c.args.right.now c.loop-i.set.items c.put_rest.new.set.items c.of.result c.loop-i.i
    c.loop-i.k c.requires over c.loop-i.invariant.union c.in_ok-put_rest.ensures
    (c.of.ensures ∙ c.shrink_to_fit.ensures.items ∙ c.in_ok-put_rest-2.ensures) in
    subst (λ (zs : List (List ℕ)). IfOk c.new.result (λ set. set ≡ zs)) whole c.new.ensures
