use Rattle.std.proofs.Common.{◌∙◌, [], ◌∷◌, sym, ap, subst, ◌<◌}
use Rattle.cjc_world.specs.Classes.{all_classes}
use Rattle.cjc_world.specs.Supertypes.{supertypes}
use Rattle.cjc_order.specs.Supers.Working.Walk.{AreDone, upwards_from, supers_in, size}
use Rattle.cjc_order.proofs.SupersLaws.Sets.{put_old, was_there}
use Rattle.cjc_order.proofs.SupersLaws.Walks.{IsAt, HasAdded, one_more, one_done, one_above, passed, upwards_added}
use Rattle.cjc_order.proofs.SupersLaws.Walks.{less_supers, above_supers}
use Rattle.cjc_order.proofs.supers.upwards.+put_upwards.Goals as goal

pub put_upwards-requires : goal.put_upwards-requires
put_upwards-requires t c =
    let w = all_classes c.args.world.now in
    let names = c.args.names.now in
    let i = c.loop-name.name-index in
    let x = c.items-name.result.now in
    let supers = c.supers_of.result.now in
    let at : IsAt names i x = record {
      item = c.name-item.result;
      inside = c.loop-name-test.true;
      is = c.name-item.is;
      name = c.items-name.ensures;
    } in
    let are = c.supers_of.ensures ∙ ap supers_in c.class_named-class.ensures.named in
    let begun = c.in_ok-is_new.ensures.put in (
      subst (λ n. size (supertypes w supers) < n) c.decreases (less_supers w c.requires.acyclic names i x supers at
          are),
      (
        c.requires.acyclic,
        above_supers w c.requires.acyclic (upwards_from w) names i x c.loop-name.seen c.put.new.self c.loop-name.seen
            c.put.new.self (x ∷ []) supers at begun begun are c.loop-name.invariant.2,
      ),
    )

pub loop-name-preserved : goal.loop-name-preserved
loop-name-preserved t c =
    let w = all_classes c.args.world.now in
    let acyclic = c.requires.acyclic in
    let names = c.args.names.now in
    let i = c.loop-name.name-index in
    let x = c.items-name.result.now in
    let at : IsAt names i x = record {
      item = c.name-item.result;
      inside = c.loop-name-test.true;
      is = c.name-item.is;
      name = c.items-name.ensures;
    } in
    let old = c.loop-name.seen in
    let new = c.if-is_new.seen in
    let begun = c.in_ok-is_new.ensures.put in
    let added : HasAdded (upwards_from w) (upwards_from w) x old old new new = elim c.if-is_new.branch [
      | goal.then-is_new+in_ok-put_upwards b ↦ upwards_added w acyclic x old c.put.new.self new b.supers_of.result.now
          begun
          (b.supers_of.ensures ∙ ap supers_in b.class_named-class.ensures.named)
          (b.seen-is ∙ b.in_ok-put_upwards.ensures.put)
          (subst (λ s. AreDone (upwards_from w) c.put.new.self s s) (sym b.seen-is) b.in_ok-put_upwards.ensures.done)
      | goal.else-is_new b ↦
          let there = was_there old x (sym c.in_ok-is_new.ensures.new ∙ b.if-is_new.false) in
          let same = b.seen-is ∙ put_old old c.put.new.self x begun there in
          passed w acyclic (upwards_from w) names i x old old new new at c.loop-name.invariant.2 there same same
    ] in (
      one_more (upwards_from w) (upwards_from w) names i x old old new new _ at added c.loop-name.invariant.0,
      one_done (upwards_from w) (upwards_from w) x _ old old new new added c.loop-name.invariant.1,
      one_above w (upwards_from w) (upwards_from w) x names old old new new added c.loop-name.invariant.2,
    )
