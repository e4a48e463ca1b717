use Rattle.std.proofs.Common.{◌∙◌, ◌-◌, ◌+◌, ◌<◌, ℕ, List, [], refl, sym, ap, subst, length, get_or, map, arith, All}
use Rattle.std.specs.Prelude.{slice_get, ◌&&◌, ◌==◌}
use Rattle.std.proofs.lemmas.List.{get_or_default, length-map}
use Rattle.cjc_world.specs.ClassFile.declared.tree.ClassTree.{ClassTree}
use Rattle.cjc_world.specs.Classes.{all_classes}
use Rattle.cjc_world.specs.Order.{in_order, next}
use Rattle.cjc_order.specs.Classes.Numbers.{IsOfKind, class_count, listed_numbers, numbered_from}
use Rattle.cjc_order.specs.Classes.Queue.{AreSubs, IsBegun, IsQueue, is_kind_at}
use Rattle.cjc_order.proofs.ClassesLaws.Queues.{least-next, least-placed, least-within, next-none, queue-begun}
use Rattle.cjc_order.proofs.ClassesLaws.Standing.{begun-init, begun-end, begun-on, begun-full, next-numbered}
use Rattle.cjc_order.proofs.ClassesLaws.Standing.{next-of_kind, of_kind-more, taken, taken-below}
use Rattle.cjc_order.proofs.classes.order.class_order.Goals as goal

pub loop-init : goal.loop-init
loop-init c =
    let world = c.args.world.now in
    let i = c.args.interfaces in
    let w = all_classes world in
    let classes = c.listed_classes-classes.result.now in
    let empty = c.new-order.ensures in
    let rows = c.in_ok-listed.ensures in
    let counts = c.in_ok-counts.counts.items in
    record {
      begun = subst (λ (q : List ℕ). IsBegun w i world.classes q (length classes - 0) (in_order w i)) (sym empty)
          (begun-init world i classes c.listed_classes-classes.ensures);
      classes = subst (λ (q : List ℕ). All (IsOfKind world i) q) (sym empty) (λ k d lt. absurd (omega arith));
      queue = subst (λ (q : List ℕ). IsQueue i classes (map (listed_numbers i w) classes) q [] counts
          c.in_ok-ready.ready) (sym empty)
          (queue-begun i classes (map (listed_numbers i w) classes) counts c.in_ok-ready.ready
          (length-map classes (listed_numbers i w))
          (c.in_ok-counts.ensures ∙ ap (map (λ (row : List ℕ). length row)) (c.items-2.ensures ∙ rows))
          (λ k. c.in_ok-ready.ensures k ∙ ap (λ (ns : List ℕ). is_kind_at i classes k && (get_or ns k 0 == 0))
          c.deref.ensures.value));
    }

pub returns-in-None-clause-order : goal.returns-in-None-clause-order
returns-in-None-clause-order c =
    let world = c.args.world.now in
    let i = c.args.interfaces in
    let w = all_classes world in
    let p = c.loop.order in
    let classes = c.listed_classes-classes.result.now in
    let none = next-none w i classes (map (listed_numbers i w) classes) p c.loop.counts.items c.loop.ready refl
    c.loop.invariant.queue c.in-None.ensures.none in
    begun-end w i world.classes p (length classes) c.loop.counter (in_order w i)
    (next-numbered world i p ∙ ap (λ (q : List ClassTree). next w i p (numbered_from 0 q))
    (sym c.listed_classes-classes.ensures) ∙ none)
    c.loop.invariant.begun

pub index-requires : goal.index-requires
index-requires c =
    let w = all_classes c.args.world.now in
    let i = c.args.interfaces in
    let rows = c.items.ensures ∙ c.in_ok-listed.ensures in
    let within = least-within w i c.listed_classes-classes.result.now c.loop.order c.loop.counts.items c.loop.ready
    c.loop.invariant.queue c.in-Some.number c.in-Some.ensures.there c.in-Some.ensures.least
    c.in_ok-subs.subs.items (subst (λ (r : List (List ℕ)). AreSubs r c.in_ok-subs.subs.items) rows c.in_ok-subs.ensures)
    in
    let ok = c.in_ok-subs.subs.ok in
    subst (λ (n : ℕ). c.in-Some.number < n) (sym ok.0) within

pub count_out-requires : goal.count_out-requires
count_out-requires c =
    let w = all_classes c.args.world.now in
    let i = c.args.interfaces in
    let classes = c.listed_classes-classes.result.now in
    let rows = c.items.ensures ∙ c.in_ok-listed.ensures in
    let lists = subst (λ (r : List (List ℕ)). AreSubs r c.in_ok-subs.subs.items) rows c.in_ok-subs.ensures in
    let within = least-within w i classes c.loop.order c.loop.counts.items c.loop.ready c.loop.invariant.queue
    c.in-Some.number c.in-Some.ensures.there c.in-Some.ensures.least c.in_ok-subs.subs.items lists in
    let row = c.items-freed.ensures ∙ c.index.ensures ∙ get_or_default c.in_ok-subs.subs.items c.in-Some.number
    c.index.result.now [] within in (
      map (listed_numbers i w) classes,
      c.push.new.self,
      least-placed w i classes c.loop.order c.loop.counts.items c.loop.ready c.loop.invariant.queue c.in-Some.number
          c.in-Some.ensures.there c.in-Some.ensures.least
          c.in_ok-subs.subs.items c.items-freed.result.now c.push.new.self c.take_least.new.self lists
          c.in-Some.ensures.rest row c.in_ok-push-in-Some.ensures.ok,
    )

pub loop-preserved : goal.loop-preserved
loop-preserved c =
    let world = c.args.world.now in
    let i = c.args.interfaces in
    let w = all_classes world in
    let classes = c.listed_classes-classes.result.now in
    let p = c.loop.order in
    let m = c.in-Some.number in
    let more = c.in_ok-push-in-Some.ensures.ok in
    let rows = c.items.ensures ∙ c.in_ok-listed.ensures in
    let lists = subst (λ (r : List (List ℕ)). AreSubs r c.in_ok-subs.subs.items) rows c.in_ok-subs.ensures in
    let within = least-within w i classes p c.loop.counts.items c.loop.ready c.loop.invariant.queue m
    c.in-Some.ensures.there c.in-Some.ensures.least c.in_ok-subs.subs.items lists in
    let row = c.items-freed.ensures ∙ c.index.ensures ∙ get_or_default c.in_ok-subs.subs.items m c.index.result.now []
    within in
    let found = least-next w i classes p c.loop.counts.items c.loop.ready c.loop.invariant.queue m
    c.in-Some.ensures.there c.in-Some.ensures.least in
    let t = found.0 in
    let listed = ap (λ (q : List ClassTree). slice_get q m) (sym c.listed_classes-classes.ensures) ∙ found.1 in
    let below = taken-below (class_count world.lines) world.classes m t listed in
    let there = taken (class_count world.lines) world.classes m t listed in
    let is = next-numbered world i p ∙ ap (λ (q : List ClassTree). next w i p (numbered_from 0 q))
    (sym c.listed_classes-classes.ensures) ∙ found.2 in
    record {
      begun = subst (λ (q : List ℕ). IsBegun w i world.classes q (length classes - (c.loop.counter + 1)) (in_order w i))
          (sym more)
          (begun-on w i world.classes p (length classes) c.loop.counter (in_order w i) m t c.loop-test.true there is
          c.loop.invariant.begun);
      classes = of_kind-more world i p c.push.new.self m more c.loop.invariant.classes (next-of_kind world i p m t below
          there is);
      queue = c.in_ok-count_out-in-Some.ensures (map (listed_numbers i w) classes) c.push.new.self
          (least-placed w i classes p c.loop.counts.items c.loop.ready c.loop.invariant.queue m c.in-Some.ensures.there
          c.in-Some.ensures.least
          c.in_ok-subs.subs.items c.items-freed.result.now c.push.new.self c.take_least.new.self lists
          c.in-Some.ensures.rest row more);
    }

pub returns-clause-order : goal.returns-clause-order
returns-clause-order c =
    let world = c.args.world.now in
    begun-full (all_classes world) c.args.interfaces world.classes c.loop.order
    (length c.listed_classes-classes.result.now) c.loop.counter (in_order (all_classes world) c.args.interfaces)
    c.loop-test.false c.loop.invariant.begun
