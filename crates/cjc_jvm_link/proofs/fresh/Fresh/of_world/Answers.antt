use Rattle.std.proofs.Common.{◌≡◌, ◌<◌, ◌+◌, ◌∷◌, [], rules, sym, subst}
use Rattle.cjc_world.specs.Classes.{all_classes}
use Rattle.cjc_world.specs.Working.Known.{class_of}
use Rattle.cjc_jvm_link.specs.Fresh.{HasEach}
use Rattle.cjc_jvm_link.proofs.Keeping.{has_step, has_all}
use Rattle.cjc_jvm_link.proofs.fresh.Fresh.of_world.Goals as goal

pub loop-class-preserved : goal.loop-class-preserved
loop-class-preserved c =
    let w = all_classes c.args.world.now in
    let class = class_of c.in-Some.class in
    let old = c.loop-class.fresh in
    let new = c.put_classes.new.self in
    let next : c.in-Some-checked_add.next ≡ c.loop-class.place + 1 = search rules in
    let has : HasEach w new (class.name ∷ []) = subst (HasEach w new) c.name_of.ensures c.in_ok-put_classes.ensures.has
    in
    record {
      fresh = c.in_ok-put_classes.ensures.fresh;
      has = λ p d h e. has_step w old new c.loop-class.place class c.loop-class.invariant.has
          c.in_ok-put_classes.ensures.keeps (sym c.in-Some.ensures.at) has p (subst (λ n. p < n) next h) d e;
    }

pub returns-clause-all : goal.returns-clause-all
returns-clause-all c = has_all (all_classes c.args.world.now) c.loop-class.fresh c.loop-class.place
    (sym c.in_default.ensures.at) c.loop-class.invariant.has
