use Rattle.std.proofs.Common.{◌≡◌, ◌∙◌, sym, subst, Bool, Some, None}
use Rattle.cjc_bytes.specs.Told.{break_of}
use Rattle.cjc_narrow.specs.Types.Flow.{body_of}
use Rattle.cjc_judge.specs.OutOfRange.{IsVerdict}
use Rattle.cjc_judge.specs.Rules.{HasWrongNumbers}
use Rattle.cjc_judge.proofs.Typed.{unbroken_method, broken_method}
use Rattle.cjc_judge.proofs.judging.range_break.Goals as goal

pub returns-in-None-clause-first : goal.returns-in-None-clause-first
returns-in-None-clause-first c =
    let m = c.requires.code in
    let files = c.args.world.now in
    let code = c.args.code.now in
    let told = subst (λ (i : Bool). IsVerdict i files (body_of m.0 m.1 m.2 code.insns) c.in_ok-told.told)
    (c.may_be_int-may.ensures m.0 m.1 m.2 m.3) (c.in_ok-told.ensures m.0 m.1 m.2 m.3) in
    unbroken_method (HasWrongNumbers c.args.ints) files code m.0 m.1 m.2 m.3
    (λ x h. let e : None ≡ Some x = sym c.in-None.is ∙ told.breaks x h in absurd cc)

pub returns-in-None-clause-modes : goal.returns-in-None-clause-modes
returns-in-None-clause-modes c = (
  c.in_ok-told.told.mode,
  c.in_ok-push.ensures.ok,
  λ class method tree of.
      let told = subst (λ (i : Bool). IsVerdict i c.args.world.now (body_of class method tree c.args.code.now.insns)
      c.in_ok-told.told) (c.may_be_int-may.ensures class method tree of) (c.in_ok-told.ensures class method tree of) in
      told.mode,
)

pub returns-in-Some-clause-first : goal.returns-in-Some-clause-first
returns-in-Some-clause-first c =
    let m = c.requires.code in
    let files = c.args.world.now in
    let code = c.args.code.now in
    let x = c.in-Some.broken in
    let told = subst (λ (i : Bool). IsVerdict i files (body_of m.0 m.1 m.2 code.insns) c.in_ok-told.told)
    (c.may_be_int-may.ensures m.0 m.1 m.2 m.3) (c.in_ok-told.ensures m.0 m.1 m.2 m.3) in
    let this = rw c.in-Some.is at told.broken in
    broken_method (HasWrongNumbers c.args.ints) files code m.0 m.1 m.2 m.3 x (break_of c.method_break.result)
    (c.method_break.ensures m.0 m.1 m.2 m.3) this
    (λ y h. let e : Some x ≡ Some y = sym c.in-Some.is ∙ told.breaks y h in let f : x ≡ y = cc in sym f)

pub returns-in-Some-clause-modes : goal.returns-in-Some-clause-modes
returns-in-Some-clause-modes c = (
  c.in_ok-told.told.mode,
  c.in_ok-push.ensures.ok,
  λ class method tree of.
      let told = subst (λ (i : Bool). IsVerdict i c.args.world.now (body_of class method tree c.args.code.now.insns)
      c.in_ok-told.told) (c.may_be_int-may.ensures class method tree of) (c.in_ok-told.ensures class method tree of) in
      told.mode,
)
