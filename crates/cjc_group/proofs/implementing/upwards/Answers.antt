use Rattle.std.proofs.Common.{ℕ, ◌+◌, ◌-◌, List, [], ◌∷◌, ◌++◌, sym, ap, ◌∙◌}
use Rattle.cjc_world.specs.ClassFile.declared.tree.ClassTree.{ClassTree}
use Rattle.cjc_group.specs.Implementing.{Declared, class_limit, upwards}
use Rattle.cjc_group.proofs.Chains.{upwards_next, upwards_stops, upwards_ends}
use Rattle.cjc_group.proofs.implementing.upwards.Goals as goal

pub loop-done-init : goal.loop-done-init
loop-done-init c = ap (λ (xs : List Declared). xs ++ upwards c.args.group.now class_limit c.args.name.now)
    c.new-line.ensures

pub returns-in-None : goal.returns-in-None
returns-in-None c = upwards_stops c.args.group.now c.loop-done.line c.loop-done.done c.loop-done.next.now
    (upwards c.args.group.now class_limit c.args.name.now) c.loop-done-test.true (sym c.in-None.ensures)
    c.loop-done.invariant

pub loop-done-preserved : goal.loop-done-preserved
loop-done-preserved c =
    let group = c.args.group.now in
    let n = c.loop-done.done in
    let d = c.in-Some.class in
    let rest = upwards_next group c.loop-done.line n c.loop-done.next.now d (upwards group class_limit c.args.name.now)
    c.loop-done-test.true (sym c.in-Some.ensures) c.loop-done.invariant in
    let super = c.items-next.ensures ∙ ap (λ (k : ClassTree). k.superclass) c.class.ensures in
    ap (λ (xs : List Declared). xs ++ upwards group (class_limit - (n + 1)) c.items-next.result.now)
    c.in_ok-push-in-Some.ensures.ok
    ∙ ap (λ (x : List ℕ). (c.loop-done.line ++ d ∷ []) ++ upwards group (class_limit - (n + 1)) x) super ∙ rest

pub returns : goal.returns
returns c = upwards_ends c.args.group.now c.loop-done.line c.loop-done.done c.loop-done.next.now
    (upwards c.args.group.now class_limit c.args.name.now) c.loop-done-test.false c.loop-done.invariant
