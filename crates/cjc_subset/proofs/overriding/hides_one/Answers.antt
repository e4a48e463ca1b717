use Rattle.std.proofs.Common.{◌<◌, ◌≤◌, [], sym, subst, ◌∙◌}
use Rattle.std.specs.Prelude.{◌&&◌}
use Rattle.cjc_world.specs.Classes.{Member}
use Rattle.cjc_world.specs.Working.Known.{class_of}
use Rattle.cjc_world.specs.Lookup.{is_called}
use Rattle.cjc_subset.specs.Overriding.{is_out_of_sight}
use Rattle.cjc_subset.proofs.Any.{any_here, any_on, any_end}
use Rattle.cjc_subset.proofs.overriding.hides_one.Goals as goal

nobody : Member
nobody = record { flags = 0; name = []; desc = []; token = 0 }

pub returns-then-hides_at : goal.returns-then-hides_at
returns-then-hides_at c =
    let p = λ (k : Member). is_called c.args.name.now c.args.desc.now k
    && is_out_of_sight (class_of c.args.known).is_imported c.args.flags k.flags in
    let within = subst (λ n. c.loop-place.place < n) c.member_count-place-end.ensures c.loop-place-test.true in
    any_here p (class_of c.args.known).methods c.loop-place.place nobody _ within (sym c.if-hides_at.true
    ∙ c.hides_at.ensures nobody) c.loop-place.invariant

pub loop-place-preserved : goal.loop-place-preserved
loop-place-preserved c =
    let p = λ (k : Member). is_called c.args.name.now c.args.desc.now k
    && is_out_of_sight (class_of c.args.known).is_imported c.args.flags k.flags in
    let within = subst (λ n. c.loop-place.place < n) c.member_count-place-end.ensures c.loop-place-test.true in
    any_on p (class_of c.args.known).methods c.loop-place.place nobody _ within (sym c.if-hides_at.false
    ∙ c.hides_at.ensures nobody) c.loop-place.invariant

pub returns : goal.returns
returns c =
    let p = λ (k : Member). is_called c.args.name.now c.args.desc.now k
    && is_out_of_sight (class_of c.args.known).is_imported c.args.flags k.flags in
    let past = subst (λ n. n ≤ c.loop-place.place) c.member_count-place-end.ensures c.loop-place-test.false in
    any_end p (class_of c.args.known).methods c.loop-place.place _ past c.loop-place.invariant
