use Rattle.std.proofs.Common.{false, ◌∙◌, [], sym, ap, subst, refl, ◌<◌}
use Rattle.std.specs.List.{flat_map}
use Rattle.cjc_world.specs.Classes.{all_classes}
use Rattle.cjc_world.specs.Supertypes.{supertypes}
use Rattle.cjc_order.specs.Supers.Working.Walk.{AreDone, interfaces_from, supers_in, interfaces_in, size}
use Rattle.cjc_order.proofs.SupersLaws.Sets.{put_old, was_there}
use Rattle.cjc_order.proofs.SupersLaws.Walks.{IsAt, HasAdded, one_more, one_done, one_above, passed, interfaces_added}
use Rattle.cjc_order.proofs.SupersLaws.Walks.{with_listed, not_listed, less_supers, less_interfaces, above_supers}
use Rattle.cjc_order.proofs.SupersLaws.Walks.{above_interfaces}
use Rattle.cjc_order.proofs.supers.upwards.+put_interfaces.Goals as goal

pub put_interfaces-requires : goal.put_interfaces-requires
put_interfaces-requires t c =
    let w = all_classes c.args.world.now in
    let names = c.args.names.now in
    let i = c.loop-name.name-index in
    let x = c.items-name.result.now in
    let supers = c.supers_of.result.now in
    let at : IsAt names i x = record {
      item = c.name-item.result;
      inside = c.loop-name-test.true;
      is = c.name-item.is;
      name = c.items-name.ensures;
    } in
    let are = c.supers_of.ensures ∙ ap supers_in c.class_named-class.ensures.named in (
      subst (λ n. size (supertypes w supers) < n) c.decreases (less_supers w c.requires.acyclic names i x supers at
          are),
      (
        c.requires.acyclic,
        above_supers w c.requires.acyclic (interfaces_from w false) names i x c.loop-name.came c.put.new.self
            c.loop-name.seen c.loop-name.seen [] supers at c.in_ok-is_new.ensures.put refl are
            c.loop-name.invariant.2,
      ),
    )

pub put_interfaces-requires-then-is_new : goal.put_interfaces-requires-then-is_new
put_interfaces-requires-then-is_new t c =
    let w = all_classes c.args.world.now in
    let names = c.args.names.now in
    let i = c.loop-name.name-index in
    let x = c.items-name.result.now in
    let interfaces = c.interfaces_of.result.now in
    let at : IsAt names i x = record {
      item = c.name-item.result;
      inside = c.loop-name-test.true;
      is = c.name-item.is;
      name = c.items-name.ensures;
    } in
    let are = c.interfaces_of.ensures ∙ ap interfaces_in c.class_named-class.ensures.named in (
      subst (λ n. size (supertypes w interfaces) < n) c.decreases (less_interfaces w c.requires.acyclic names i x
          interfaces at are),
      (
        c.requires.acyclic,
        above_interfaces w c.requires.acyclic (interfaces_from w false) names i x c.loop-name.came c.put.new.self
            c.put_interfaces.new.came c.loop-name.seen c.put_interfaces.new.seen
            (flat_map (interfaces_from w false) c.supers_of.result.now) interfaces at c.in_ok-is_new.ensures.put
            c.in_ok-put_interfaces.ensures.put are c.loop-name.invariant.2 c.in_ok-put_interfaces.ensures.done,
      ),
    )

pub loop-name-preserved : goal.loop-name-preserved
loop-name-preserved t c =
    let w = all_classes c.args.world.now in
    let adds = interfaces_from w false in
    let all = interfaces_from w c.args.listed in
    let acyclic = c.requires.acyclic in
    let names = c.args.names.now in
    let i = c.loop-name.name-index in
    let x = c.items-name.result.now in
    let at : IsAt names i x = record {
      item = c.name-item.result;
      inside = c.loop-name-test.true;
      is = c.name-item.is;
      name = c.items-name.ensures;
    } in
    let came = c.loop-name.came in
    let old = c.loop-name.seen in
    let after = c.if-is_new.came in
    let seen = c.if-is_new.seen in
    let new = c.if-listed.seen in
    let begun = c.in_ok-is_new.ensures.put in
    let unlisted : HasAdded (interfaces_from w false) (interfaces_from w false) x came old after seen =
    elim c.if-is_new.branch [
      | goal.then-is_new+in_ok-put_interfaces+in_ok-put_interfaces-2 b ↦ interfaces_added w acyclic x came
          c.put.new.self
          b.put_interfaces.new.came after old b.put_interfaces.new.seen seen b.supers_of.result.now
          b.interfaces_of.result.now begun (b.supers_of.ensures ∙ ap supers_in b.class_named-class.ensures.named)
          (b.interfaces_of.ensures ∙ ap interfaces_in b.class_named-class.ensures.named)
          b.in_ok-put_interfaces.ensures.put b.in_ok-put_interfaces.ensures.done
          (b.seen-is ∙ b.in_ok-put_interfaces-2.ensures.put)
          (subst (λ s. AreDone (interfaces_from w false) b.put_interfaces.new.came after s) (sym b.seen-is)
          (subst (λ s. AreDone (interfaces_from w false) b.put_interfaces.new.came s
          b.put_interfaces-then-is_new.new.seen) (sym b.came-is) b.in_ok-put_interfaces-2.ensures.done))
      | goal.else-is_new b ↦
          let there = was_there came x (sym c.in_ok-is_new.ensures.new ∙ b.if-is_new.false) in
          passed w acyclic (interfaces_from w false) names i x came old after seen at c.loop-name.invariant.2 there
          (b.came-is ∙ put_old came c.put.new.self x begun there) b.seen-is
    ] in
    let added : HasAdded (interfaces_from w false) (interfaces_from w c.args.listed) x came old after new =
    elim c.if-listed.branch [
      | goal.then-listed+in_ok-put b ↦ subst (λ l. HasAdded (interfaces_from w false) (interfaces_from w l) x came old
          after
          new) (sym b.if-listed.true) (with_listed w acyclic x came old after seen new unlisted
          (b.seen-is ∙ b.in_ok-put.ensures.put))
      | goal.else-listed b ↦ subst (λ l. HasAdded (interfaces_from w false) (interfaces_from w l) x came old after new)
          (sym b.if-listed.false) (not_listed w x came old after seen new unlisted b.seen-is)
    ] in (
      one_more adds all names i x came old after new _ at added c.loop-name.invariant.0,
      one_done adds all x _ came old after new added c.loop-name.invariant.1,
      one_above w adds all x names came old after new added c.loop-name.invariant.2,
    )
