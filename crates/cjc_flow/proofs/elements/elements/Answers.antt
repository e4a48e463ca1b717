use Rattle.std.proofs.Common.{◌≡◌, ◌+◌, List, Some, length, slice_get, option_map, sym, ap, ◌∙◌, subst, arith}
use Rattle.std.proofs.lemmas.List.{take_all}
use Rattle.std.proofs.lemmas.Option.{slice_get-get_or}
use Rattle.cjc_types.specs.Bytecode.declared.insn.JInsn.{JInsn}
use Rattle.cjc_fixpoint.specs.Walks.{Walking}
use Rattle.cjc_types.specs.declared.state.State.{State}
use Rattle.cjc_types.specs.Tables.{rows_of, state_of}
use Rattle.cjc_flow.specs.Working.Given.{elements_of}
use Rattle.cjc_flow.proofs.Loading.{elements_step, elements_few}
use Rattle.cjc_flow.proofs.elements.elements.Goals as goal

pub loop-place-preserved : goal.loop-place-preserved
loop-place-preserved c =
    let method = c.args.method.now in
    let rows = rows_of method c.args.types.now in
    let insn = c.index-insns-place.result in
    let there : slice_get method.insns c.loop-place.place ≡ Some insn =
    subst (λ (is : List JInsn). slice_get is c.loop-place.place ≡ Some insn) c.requires.insns
    (slice_get-get_or c.args.insns.now c.loop-place.place insn c.loop-place-test.true
    ∙ ap Some (sym c.index-insns-place.is)) in
    record {
      walk = c.in_ok-advance.ensures.ok ∙ ap (λ (s : Walking State). record { at = s.at + 1; rows = s.rows })
          c.loop-place.invariant.walk;
      done = elements_step method.insns rows c.loop-place.place insn (option_map state_of c.frame.result.now)
          c.element_at.result c.loop-place.elements c.push.new.self there
          (subst (λ (s : Walking State). slice_get s.rows s.at ≡ Some (option_map state_of c.frame.result.now))
          c.loop-place.invariant.walk c.frame.ensures) c.element_at.ensures c.loop-place.invariant.done
          c.in_ok-push.ensures.ok;
    }

pub returns : goal.returns
returns c =
    let method = c.args.method.now in
    let rows = rows_of method c.args.types.now in
    let few = elements_few method.insns rows in
    let over = c.loop-place-test.false in
    let same = ap length c.requires.insns in
    c.loop-place.invariant.done ∙ take_all c.loop-place.place (elements_of method.insns rows) (omega (
      arith,
      few,
      over,
      same,
    ))
