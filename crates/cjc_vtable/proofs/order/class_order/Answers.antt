use Rattle.std.proofs.Common.{◌≡◌, ◌∙◌, ◌-◌, ◌+◌, ◌<◌, ℕ, List, Bool, sym, ap, subst, length, arith, true, false, All}
use Rattle.std.specs.Prelude.{slice_get}
use Rattle.std.specs.Prelude.{replicate}
use Rattle.std.proofs.lemmas.List.{length-replicate, length-set}
use Rattle.std.proofs.lemmas.Option.{slice_get_within}
use Rattle.cjc_classfile.specs.declared.tree.ClassTree.{ClassTree}
use Rattle.cjc_world.specs.Classes.{all_classes}
use Rattle.cjc_world.specs.Order.{in_order, next}
use Rattle.cjc_vtable.specs.Working.Standing.{IsBegun, IsClass, IsMarked, class_count, numbered_from}
use Rattle.cjc_vtable.proofs.Standing.{begun-init, begun-end, begun-on, begun-full, class-more, next-class, next-numbered, taken, taken-below, marked-more, no-marks}
use Rattle.cjc_vtable.proofs.order.class_order.Goals as goal

pub loop-init : goal.loop-init
loop-init c =
    let empty = c.new-order.ensures.items in
    let n = length c.listed_classes-classes.result.now in
    let blank : c.in_ok-marks.marks.items ≡ replicate n false = c.in_ok-marks.ensures.items_if_clones_equal (λ y e. e) in
    record {
      begun = subst (λ (q : List ℕ). IsBegun (all_classes c.args.world.now) c.args.world.now.classes q (length c.listed_classes-classes.result.now - 0) (in_order (all_classes c.args.world.now) false)) (sym empty)
          (begun-init c.args.world.now c.listed_classes-classes.result.now c.listed_classes-classes.ensures);
      classes = subst (λ (q : List ℕ). All (IsClass c.args.world.now) q) (sym empty) (λ k d lt. absurd (omega arith));
      marked = subst (λ (ms : List Bool). IsMarked c.new-order.result.items ms) (sym blank) (subst (λ (q : List ℕ). IsMarked q (replicate n false)) (sym empty) (no-marks n));
      long = ap length blank ∙ length-replicate n false;
    }

pub returns-in-None-clause-order : goal.returns-in-None-clause-order
returns-in-None-clause-order c =
    let w = all_classes c.args.world.now in
    let p = c.loop.order.items in
    let marked = subst (λ (ms : List Bool). IsMarked p ms) (sym c.deref.ensures.value) c.loop.invariant.marked in
    let none = c.in-None.ensures w p (c.items.ensures ∙ c.in_ok-listed.ensures) marked in
    begun-end w c.args.world.now.classes p (length c.listed_classes-classes.result.now) c.loop.counter (in_order w false)
    (next-numbered c.args.world.now p ∙ ap (λ (q : List ClassTree). next w false p (numbered_from 0 q)) (sym c.listed_classes-classes.ensures) ∙ none)
    c.loop.invariant.begun

pub index_mut-requires : goal.index_mut-requires
index_mut-requires c =
    let w = all_classes c.args.world.now in
    let p = c.loop.order.items in
    let marked = subst (λ (ms : List Bool). IsMarked p ms) (sym c.deref.ensures.value) c.loop.invariant.marked in
    let some = c.in-Some.ensures w p (c.items.ensures ∙ c.in_ok-listed.ensures) marked in
    let within = slice_get_within c.listed_classes-classes.result.now c.in-Some.number some.0 some.1 in
    subst (λ n. c.in-Some.number < n) (sym c.loop.invariant.long ∙ sym (ap length c.deref.ensures.value) ∙ c.deref.ensures.len) within

pub loop-preserved : goal.loop-preserved
loop-preserved c =
    let w = all_classes c.args.world.now in
    let classes = c.listed_classes-classes.result.now in
    let trees = c.args.world.now.classes in
    let p = c.loop.order.items in
    let m = c.in-Some.number in
    let more = c.in_ok-push-in-Some.ensures.items in
    let marked = subst (λ (ms : List Bool). IsMarked p ms) (sym c.deref.ensures.value) c.loop.invariant.marked in
    let some = c.in-Some.ensures w p (c.items.ensures ∙ c.in_ok-listed.ensures) marked in
    let t = some.0 in
    let listed = ap (λ (q : List ClassTree). slice_get q m) (sym c.listed_classes-classes.ensures) ∙ some.1 in
    let below = taken-below (class_count c.args.world.now.lines) trees m t listed in
    let there = taken (class_count c.args.world.now.lines) trees m t listed in
    let is = next-numbered c.args.world.now p ∙ ap (λ (q : List ClassTree). next w false p (numbered_from 0 q)) (sym c.listed_classes-classes.ensures) ∙ some.2 in
    let within = subst (λ n. m < n) (sym c.loop.invariant.long) (slice_get_within classes m t some.1) in
    record {
      begun = subst (λ (q : List ℕ). IsBegun w trees q (length classes - (c.loop.counter + 1)) (in_order w false)) (sym more)
          (begun-on w trees p (length classes) c.loop.counter (in_order w false) m t c.loop-test.true there is c.loop.invariant.begun);
      classes = class-more c.args.world.now p c.push.new.self.items m more c.loop.invariant.classes (next-class c.args.world.now w p m t below there is);
      marked = marked-more p c.push.new.self.items c.loop.marks.items m within more c.loop.invariant.marked;
      long = length-set c.loop.marks.items m true ∙ c.loop.invariant.long;
    }

pub returns-clause-order : goal.returns-clause-order
returns-clause-order c = begun-full (all_classes c.args.world.now) c.args.world.now.classes c.loop.order.items (length c.listed_classes-classes.result.now) c.loop.counter (in_order (all_classes c.args.world.now) false) c.loop-test.false c.loop.invariant.begun
