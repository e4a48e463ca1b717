use Rattle.std.proofs.Common.{◌≡◌, ◌+◌, List, slice_get, get_or, Some, option_map, sym, ap, ◌∙◌, subst}
use Rattle.std.proofs.lemmas.Option.{slice_get-get_or}
use Rattle.cjc_flow.specs.LowerFixpoint.Walks.{Walking}
use Rattle.cjc_flow.specs.Bytecode.declared.insn.JInsn.{JInsn}
use Rattle.cjc_flow.specs.LowerTypes.declared.state.State.{State}
use Rattle.cjc_flow.specs.LowerTypes.Tables.{rows_of, state_of}
use Rattle.cjc_int_mode.specs.Working.Pairs.{pairs_from}
use Rattle.cjc_int_mode.proofs.Places.{counted_on, none_counted}
use Rattle.cjc_int_mode.proofs.space.pairs_where_usable.Goals as goal

pub returns-in-None : goal.returns-in-None
returns-in-None c =
    let rows = rows_of c.args.method.now c.args.types.now in
    let insns = c.insns-insns.result.now in
    let place = c.loop-place.place in
    let insn = get_or insns place c.index-insns-place.result in
    none_counted insns rows place insn (option_map state_of c.frame.result.now)
    (slice_get-get_or insns place c.index-insns-place.result c.loop-place-test.true)
    (subst (λ (s : Walking State). slice_get s.rows s.at ≡ Some (option_map state_of c.frame.result.now))
    c.loop-place.invariant.walk c.frame.ensures)
    c.loop-place.pairs _ c.loop-place.invariant.pairs (sym c.in_ok-more.ensures ∙ c.in-None.is)
    ∙ ap (λ (is : List JInsn). pairs_from 0 is rows) c.insns-insns.ensures

pub loop-place-preserved : goal.loop-place-preserved
loop-place-preserved c =
    let rows = rows_of c.args.method.now c.args.types.now in
    let insns = c.insns-insns.result.now in
    let place = c.loop-place.place in
    let insn = get_or insns place c.index-insns-place.result in
    record {
      walk = c.in_ok-advance-in-Some.ensures.ok ∙ ap (λ (s : Walking State). record { at = s.at + 1; rows = s.rows })
          c.loop-place.invariant.walk;
      pairs = counted_on insns rows place insn (option_map state_of c.frame.result.now)
          (slice_get-get_or insns place c.index-insns-place.result c.loop-place-test.true)
          (subst (λ (s : Walking State). slice_get s.rows s.at ≡ Some (option_map state_of c.frame.result.now))
          c.loop-place.invariant.walk c.frame.ensures)
          c.loop-place.pairs _ c.loop-place.invariant.pairs c.in-Some.more (sym c.in_ok-more.ensures ∙ c.in-Some.is);
    }
