use Rattle.std.proofs.Common.{◌≡◌, ◌+◌, List, drop, slice_get, Option, Some, option_map, sym, ap, ◌∙◌, subst}
use Rattle.std.proofs.lemmas.List.{drop_all}
use Rattle.std.proofs.lemmas.Option.{slice_get-get_or}
use Rattle.cjc_types.specs.Bytecode.declared.insn.JInsn.{JInsn}
use Rattle.cjc_fixpoint.specs.Walks.{Walking}
use Rattle.cjc_types.specs.declared.state.State.{State}
use Rattle.cjc_types.specs.Tables.{rows_of, state_of}
use Rattle.cjc_intervals.specs.Frames.{RangeState}
use Rattle.cjc_flow.specs.Tests.Working.Search.{first_from}
use Rattle.cjc_flow.proofs.TestsLaws.First.{found_here, found_later}
use Rattle.cjc_flow.proofs.tests.passing.first_found.Goals as goal

pub returns-in-Some-clause-first : goal.returns-in-Some-clause-first
returns-in-Some-clause-first c = λ constant numbers values.
    let b = c.args.method.now in
    let types = rows_of b c.args.types.now in
    let ranges = c.walk-rows.result.rows in
    let insn = c.index-insns-place.result in
    found_here c.args.tested b c.args.insns.now types ranges c.loop-place.place insn
    (option_map state_of c.frame.result.now)
    c.row.result.now
    (slice_get-get_or c.args.insns.now c.loop-place.place insn c.loop-place-test.true
    ∙ ap Some (sym c.index-insns-place.is))
    (subst (λ (s : Walking State). slice_get s.rows s.at ≡ Some (option_map state_of c.frame.result.now))
    c.loop-place.invariant.frames c.frame.ensures)
    (subst (λ (s : Walking RangeState). slice_get s.rows s.at ≡ Some c.row.result.now) c.loop-place.invariant.rows
    c.row.ensures)
    _ c.loop-place.invariant.first c.in-Some.rule (sym (c.row_rule.ensures b (sym c.requires.desc)) ∙ c.in-Some.is)
    ∙ ap (λ (rs : List (Option RangeState)). first_from c.args.tested b 0 c.args.insns.now types rs)
    (ap (λ (s : Walking RangeState). s.rows) (c.walk-rows.ensures constant numbers values))

pub loop-place-preserved : goal.loop-place-preserved
loop-place-preserved c =
    let b = c.args.method.now in
    let types = rows_of b c.args.types.now in
    let ranges = c.walk-rows.result.rows in
    let insn = c.index-insns-place.result in
    record {
      frames = c.in_ok-advance-in-None.ensures.ok ∙ ap (λ (s : Walking State). record { at = s.at + 1; rows = s.rows })
          c.loop-place.invariant.frames;
      rows = c.in_ok-advance-in-None-2.ensures.ok ∙ ap (λ (s : Walking RangeState). record {
        at = s.at + 1;
        rows = s.rows;
      }) c.loop-place.invariant.rows;
      first = found_later c.args.tested b c.args.insns.now types ranges c.loop-place.place insn
          (option_map state_of c.frame.result.now) c.row.result.now
          (slice_get-get_or c.args.insns.now c.loop-place.place insn c.loop-place-test.true
          ∙ ap Some (sym c.index-insns-place.is))
          (subst (λ (s : Walking State). slice_get s.rows s.at ≡ Some (option_map state_of c.frame.result.now))
          c.loop-place.invariant.frames c.frame.ensures)
          (subst (λ (s : Walking RangeState). slice_get s.rows s.at ≡ Some c.row.result.now) c.loop-place.invariant.rows
          c.row.ensures)
          _ c.loop-place.invariant.first (sym (c.row_rule.ensures b (sym c.requires.desc)) ∙ c.in-None.is);
    }

pub returns-clause-first : goal.returns-clause-first
returns-clause-first c = λ constant numbers values.
    let b = c.args.method.now in
    let types = rows_of b c.args.types.now in
    let ranges = c.walk-rows.result.rows in
    let place = c.loop-place.place in
    sym (ap (λ (is : List JInsn). first_from c.args.tested b place is (drop place types) (drop place ranges))
    (drop_all place c.args.insns.now c.loop-place-test.false))
    ∙ c.loop-place.invariant.first
    ∙ ap (λ (rs : List (Option RangeState)). first_from c.args.tested b 0 c.args.insns.now types rs)
    (ap (λ (s : Walking RangeState). s.rows) (c.walk-rows.ensures constant numbers values))
