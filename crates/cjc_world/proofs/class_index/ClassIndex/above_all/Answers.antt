use Rattle.std.proofs.Common.{◌≡◌, true, sym, ap, subst, arith, ◌∙◌}
use Rattle.std.specs.Prelude.{is_some, slice_get}
use Rattle.std.specs.List.{list_all}
use Rattle.cjc_world.specs.Classes.{all_classes}
use Rattle.cjc_world.specs.Working.Tables.{IsPart, is_row}
use Rattle.cjc_world.proofs.Filling.{closer-still, reached-none, reached-next, filled, reached-part, all-acyclic}
use Rattle.cjc_world.proofs.class_index.ClassIndex.above_all.Goals as goal

pub loop-step-init : goal.loop-step-init
loop-step-init c = record {
  count = c.in_ok-rows.ensures.count ∙ c.count-count.ensures;
  right = λ x p a e g. let h : is_row (slice_get c.in_ok-rows.rows.items p) ≡ true = ap is_row g in let n =
      c.in_ok-rows.ensures.none p in absurd cc;
  reached = reached-none (all_classes c.args.self.now) c.in_ok-rows.rows.items;
}

pub loop-step-preserved : goal.loop-step-preserved
loop-step-preserved c =
    let w = all_classes c.args.self.now in
    let closer = closer-still w c.loop-step.rows.items c.pass.new.rows.items c.pass_back.new.rows.items 0
    c.count-count.result 0 0 c.in_ok-pass.ensures c.in_ok-pass_back.ensures in
    record {
      count = closer.count ∙ c.loop-step.invariant.count;
      right = closer.right c.loop-step.invariant.right;
      reached = reached-next w c.loop-step.rows.items c.pass_back.new.rows.items c.loop-step._step c.count-count.result
          c.count-count.ensures closer c.loop-step.invariant.reached;
    }

pub returns-then-all_there-clause-part : goal.returns-then-all_there-clause-part
returns-then-all_there-clause-part c =
    subst (λ rows. IsPart (all_classes c.args.self.now) rows) (sym c.of.ensures)
    (filled (all_classes c.args.self.now) c.loop-step.rows.items c.loop-step.invariant.right c.loop-step.invariant.count
    (ap (list_all is_some) (sym c.deref.ensures.value) ∙ sym c.all_there.ensures ∙ c.if-all_there.true))

pub returns-then-all_there-clause-all : goal.returns-then-all_there-clause-all
returns-then-all_there-clause-all c = λ all. all-acyclic (all_classes c.args.self.now) c.loop-step.rows.items
    c.loop-step.invariant.right c.loop-step.invariant.count (ap (list_all is_some) (sym c.of.ensures) ∙ all)

pub returns-clause-part : goal.returns-clause-part
returns-clause-part c =
    let n = c.count-count.ensures in
    subst (λ rows. IsPart (all_classes c.args.self.now) rows) (sym c.of-2.ensures)
    (reached-part (all_classes c.args.self.now) c.loop-step.rows.items c.loop-step._step c.loop-step.invariant.right
    c.loop-step.invariant.reached (omega arith))

pub returns-clause-all : goal.returns-clause-all
returns-clause-all c = λ all. all-acyclic (all_classes c.args.self.now) c.loop-step.rows.items
    c.loop-step.invariant.right c.loop-step.invariant.count (ap (list_all is_some) (sym c.of-2.ensures) ∙ all)
