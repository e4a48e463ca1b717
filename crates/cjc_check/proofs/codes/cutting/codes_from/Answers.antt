use Rattle.std.proofs.Common.{◌≡◌, ℕ, List, ◌+◌, ◌-◌, ◌++◌, ◌∷◌, [], ap, sym, ◌∙◌, arith, length, length-drop, map}
use Rattle.std.proofs.Common.{subst, drop}
use Rattle.std.proofs.lemmas.Bool.Decides.{nat_tests}
use Rattle.std.proofs.lemmas.Slice.{between_to_end}
use Rattle.cjc_check_rules.specs.Codes.{codes_from}
use Rattle.cjc_check.specs.declared.codes.code.Body.{Body}
use Rattle.cjc_check.specs.Codes.Bodies.{AreBodies, IsBody, code_of}
use Rattle.cjc_check.specs.Codes.Working.Steps.{behind}
use Rattle.cjc_check.proofs.CodesLaws.Kept.{each_more}
use Rattle.cjc_check.proofs.CodesLaws.Walks.{cut_all, cut_more, cut_over}
use Rattle.cjc_capread.proofs.BytesGets.{same_item}
use Rattle.cjc_check.proofs.codes.cutting.codes_from.Goals as goal

pub loop-method-preserved : goal.loop-method-preserved
loop-method-preserved c =
    let body = c.in-Whole.body in
    let rest = c.loop-method.rest.now in
    let at = c.loop-method.at in
    let i = c.loop-method.method-index in
    let ms = c.args.methods.now in
    let w = rw c.in-Whole.is at c.in_ok-body.ensures.within in
    let s = rw c.in-Whole.is at c.in_ok-body.ensures.is in
    let w0 = w.0 in
    let w1 = w.1 in
    let h = c.loop-method.invariant in
    let h0 = h.place in
    let d = between_to_end rest (body.end - at) (length rest) (omega arith) in
    let n = length-drop (body.end - at) rest in
    let p : c.push.new.self ≡ c.loop-method.bodies ++ body ∷ [] = c.in_ok-push-in-Whole.ensures.ok in
    let later = drop (i + 1) ms in
    record {
      place = ap (λ (ys : List ℕ). body.end + length ys) d ∙ omega (arith, n, w0, w1, h0);
      walked =
          ap (λ (ys : List ℕ). behind (map code_of c.push.new.self) (codes_from body.end later ys)) d
          ∙ ap (λ (bs : List Body). behind (map code_of bs) (codes_from body.end later (drop (body.end - at) rest))) p
          ∙ cut_more at i _ ms rest c.loop-method.bodies body _ _ c.loop-method-test.true
          (same_item ms i _ c.loop-method-test.true) (s later) h.walked;
      kept = subst AreBodies (sym p) (each_more IsBody c.loop-method.bodies body h.kept w.2);
    }

pub returns-then-is_empty-clause-is : goal.returns-then-is_empty-clause-is
returns-then-is_empty-clause-is c = cut_all c.loop-method.at c.loop-method.method-index c.args.methods.now
    c.loop-method.rest.now c.loop-method.bodies _ c.loop-method-test.false (let h = c.if-is_empty.ensures
    in grind (arith, nat_tests, h)) c.loop-method.invariant.walked

pub returns-clause-is : goal.returns-clause-is
returns-clause-is c = cut_over c.loop-method.at c.loop-method.method-index c.args.methods.now c.loop-method.rest.now
    c.loop-method.bodies _ c.loop-method-test.false (let h = c.if-is_empty.ensures in grind (arith, nat_tests, h))
    c.loop-method.invariant.walked
