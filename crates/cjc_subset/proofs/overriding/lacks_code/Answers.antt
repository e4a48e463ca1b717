use Rattle.std.proofs.Common.{◌<◌, ◌≤◌, [], sym, ap, subst, ◌∙◌}
use Rattle.std.specs.Prelude.{◌&&◌, not}
use Rattle.std.specs.List.{list_any}
use Rattle.cjc_world.specs.Classes.{Member, all_classes}
use Rattle.cjc_world.specs.Working.Known.{class_of}
use Rattle.cjc_subset.specs.Overriding.{has_no_code}
use Rattle.cjc_subset.proofs.Any.{any_here, any_on, any_end}
use Rattle.cjc_subset.proofs.overriding.lacks_code.Goals as goal

nobody : Member
nobody = record { flags = 0; name = []; desc = []; token = 0 }

pub returns-then-branch : goal.returns-then-branch
returns-then-branch c =
    let d = class_of c.args.known in
    let p = λ (k : Member). has_no_code (all_classes c.args.world.now) c.args.class.now d k in
    let within = subst (λ n. c.loop-place.place < n) c.member_count-place-end.ensures c.loop-place-test.true in
    let concrete = sym c.is_abstract.ensures ∙ c.if-is_abstract.false in
    any_here p d.methods c.loop-place.place nobody (list_any p d.methods) within (sym c.if-branch.true
    ∙ c.in_ok-lacks_code_at.ensures nobody) c.loop-place.invariant
    ∙ sym (ap (λ b. not b && list_any p d.methods) concrete)

pub loop-place-preserved : goal.loop-place-preserved
loop-place-preserved c =
    let d = class_of c.args.known in
    let p = λ (k : Member). has_no_code (all_classes c.args.world.now) c.args.class.now d k in
    let within = subst (λ n. c.loop-place.place < n) c.member_count-place-end.ensures c.loop-place-test.true in
    any_on p d.methods c.loop-place.place nobody (list_any p d.methods) within (sym c.if-branch.false
    ∙ c.in_ok-lacks_code_at.ensures nobody) c.loop-place.invariant

pub returns : goal.returns
returns c =
    let d = class_of c.args.known in
    let p = λ (k : Member). has_no_code (all_classes c.args.world.now) c.args.class.now d k in
    let past = subst (λ n. n ≤ c.loop-place.place) c.member_count-place-end.ensures c.loop-place-test.false in
    let concrete = sym c.is_abstract.ensures ∙ c.if-is_abstract.false in
    any_end p d.methods c.loop-place.place (list_any p d.methods) past c.loop-place.invariant
    ∙ sym (ap (λ b. not b && list_any p d.methods) concrete)
