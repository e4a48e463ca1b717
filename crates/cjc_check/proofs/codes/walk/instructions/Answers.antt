use Rattle.std.proofs.Common.{◌≡◌, ℕ, List, ◌+◌, ◌-◌, ◌≤◌, ◌<◌, ap, sym, ◌∙◌, arith, length, length-append, length-drop}
use Rattle.std.proofs.Common.{length-take, map, take, drop, subst, min, refl, ◌++◌, ◌∷◌, []}
use Rattle.std.proofs.lemmas.List.{take_min}
use Rattle.std.proofs.lemmas.Slice.{between_to_end}
use Rattle.cjc_capread.specs.Decode.{decode}
use Rattle.cjc_check_rules.specs.Codes.{instructions}
use Rattle.cjc_check.specs.declared.codes.code.At.{At}
use Rattle.cjc_check.specs.Codes.Bodies.{AllAt, IsAt, placed_of}
use Rattle.cjc_check.specs.Codes.Working.Steps.{behind}
use Rattle.cjc_check.proofs.CodesLaws.Kept.{each_more}
use Rattle.cjc_check.proofs.CodesLaws.Walks.{walk_more, walk_ends, walk_all}
use Rattle.cjc_check.proofs.codes.walk.instructions.Goals as goal

pub loop-left-preserved : goal.loop-left-preserved
loop-left-preserved c =
    let i = c.in-Some.insn in
    let rest = c.loop-left.rest.now in
    let front = c.in-Some.ensures.front in
    let within = front.within in
    let some = front.some in
    let taken = length-take c.min-size.result rest in
    let least = c.min-size.ensures in
    let h = c.loop-left.invariant in
    let fits : i.size ≤ length rest = omega (arith, within, taken) in
    let small : i.size ≤ c.loop-left.left = omega (arith, within, taken, least) in
    let a : At = record { at = c.loop-left.at; insn = i } in
    let p : c.push.new.self ≡ c.loop-left.insns ++ a ∷ [] = c.in_ok-push-in-Some.ensures.ok in
    let l : length c.push.new.self ≡ length c.loop-left.insns + 1 = ap (λ (xs : List At). length xs) p
    ∙ length-append c.loop-left.insns (a ∷ []) in
    let d = between_to_end rest i.size (length rest) (omega arith) in
    let n = length-drop i.size rest in
    let h1 = h.steps in
    let h2 = h.place in
    let h3 = h.passed in
    let steps : c.args.count - length c.push.new.self ≡ c.args.count - length c.loop-left.insns - 1 = omega (arith, l)
    in
    record {
      steps = omega (arith, l, small, some, h1);
      place = ap (λ ys. c.loop-left.at + i.size + length ys) d ∙ omega (arith, n, fits, h2);
      passed = ap (λ ys. c.args.count + length ys) d ∙ omega (arith, n, fits, small, h3);
      walked =
          ap (λ ys. behind (map placed_of c.push.new.self) (instructions (c.args.count - length c.push.new.self)
          (c.loop-left.left - i.size) (c.loop-left.at + i.size) ys)) d
          ∙ ap (λ k. behind (map placed_of c.push.new.self) (instructions k (c.loop-left.left - i.size)
          (c.loop-left.at + i.size) (drop i.size rest))) steps
          ∙ ap (λ xs. behind (map placed_of xs) (instructions (c.args.count - length c.loop-left.insns - 1)
          (c.loop-left.left - i.size) (c.loop-left.at + i.size) (drop i.size rest))) p
          ∙ walk_more (c.args.count - length c.loop-left.insns) c.loop-left.left c.loop-left.at rest c.loop-left.insns a
          _ c.decode.result
          (omega (arith, h1)) (omega arith) refl front.size (c.decode.ensures.is ∙ ap (λ k. decode (take k rest)) least
          ∙ ap decode (take_min c.loop-left.left rest)) c.in-Some.is h.walked;
      kept = subst AllAt (sym p) (each_more IsAt c.loop-left.insns a h.kept (record {
        shape = front.shape;
        matches = front.matches;
        size = front.size;
        room = omega (arith, fits, h2);
      }));
    }

pub returns-in-None-clause-is : goal.returns-in-None-clause-is
returns-in-None-clause-is c =
    let h = c.loop-left.invariant in
    let h1 = h.steps in
    let rest = c.loop-left.rest.now in
    walk_ends (c.args.count - length c.loop-left.insns) c.loop-left.left c.loop-left.at rest c.loop-left.insns _
    c.decode.result
    (omega (arith, h1)) (omega arith) (c.decode.ensures.is ∙ ap (λ k. decode (take k rest)) c.min-size.ensures
    ∙ ap decode (take_min c.loop-left.left rest)) c.in-None.is h.walked

pub returns-clause-is : goal.returns-clause-is
returns-clause-is c = walk_all (c.args.count - length c.loop-left.insns) c.loop-left.left c.loop-left.at
    c.loop-left.rest.now c.loop-left.insns _ (omega arith) c.loop-left.invariant.walked
