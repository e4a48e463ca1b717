use Rattle.cjc_bytes.specs.declared.breaks.BrokenAt.{BrokenAt}
use Rattle.cjc_bytes.specs.Told.{break_of}
use Rattle.cjc_narrow.specs.Types.Flow.{body_of}
use Rattle.cjc_judge.specs.Rules.{HasWrongTypes}
use Rattle.cjc_judge.proofs.Typed.{unbroken_method, broken_method, inferred_none, answered_alone, broken_this}
use Rattle.cjc_judge.proofs.judging.type_break.Goals as goal

pub returns-in_ok-push-in-Ok-clause-first : goal.returns-in_ok-push-in-Ok-clause-first
returns-in_ok-push-in-Ok-clause-first c =
    let m = c.requires in
    unbroken_method HasWrongTypes c.args.world.now c.args.code.now m.0 m.1 m.2 m.3 (λ x h. inferred_none c.in-Ok.table x
    (c.in-Ok.ensures.breaks m.0 m.1 m.2 m.3 x h))

pub returns-in_ok-push-in-Ok-clause-types : goal.returns-in_ok-push-in-Ok-clause-types
returns-in_ok-push-in-Ok-clause-types c = (
  c.in-Ok.table,
  c.in_ok-push-in-Ok.ensures.ok,
  λ class method tree of. c.in-Ok.ensures.inferred class method tree of,
)

pub returns-in-Err-Broken-clause-first : goal.returns-in-Err-Broken-clause-first
returns-in-Err-Broken-clause-first c =
    let m = c.requires in
    let x = c.in-Err-Broken.broken in
    let this = broken_this (λ (y : BrokenAt). HasWrongTypes c.args.world.now m.1
    (body_of m.0 m.1 m.2 c.args.code.now.insns) y) x c.in-Err-Broken.field-0 c.in-Err-Broken.field-0-is
    (c.in-Err-Broken.ensures.broken m.0 m.1 m.2 m.3) in
    broken_method HasWrongTypes c.args.world.now c.args.code.now m.0 m.1 m.2 m.3 x (break_of c.method_break.result)
    (c.method_break.ensures m.0 m.1 m.2 m.3) this
    (λ y h. let k = rw c.in-Err-Broken.field-0-is at c.in-Err-Broken.ensures.breaks m.0 m.1 m.2 m.3 y h
    in answered_alone x y k)
