use Rattle.std.proofs.Common.{◌≡◌, ◌+◌, List, slice_get, get_or, Option, Some, option_map, ap, ◌∙◌, subst}
use Rattle.std.proofs.lemmas.Option.{slice_get-get_or}
use Rattle.cjc_int_mode.specs.Fixpoint.Walks.{Walking}
use Rattle.cjc_narrow.specs.Types.declared.state.State.{State}
use Rattle.cjc_narrow.specs.Types.Tables.{rows_of, state_of}
use Rattle.cjc_int_mode.specs.Intervals.Frames.{RangeState}
use Rattle.cjc_int_narrow.specs.Select.{rows_before}
use Rattle.cjc_int_narrow.proofs.Tables.{rows_next, rows_end}
use Rattle.cjc_int_narrow.proofs.known.rows_before.Goals as goal

pub loop-place-preserved : goal.loop-place-preserved
loop-place-preserved c =
    let types = rows_of c.args.method.now c.args.types.now in
    let ranges = c.walk-ranges.result.rows in
    let place = c.loop-place.place in
    let insn = get_or c.args.insns.now place c.index-insns-place.result in
    record {
      frames = c.in_ok-advance.ensures.ok ∙ ap (λ (s : Walking State). record { at = s.at + 1; rows = s.rows })
          c.loop-place.invariant.frames;
      ranges = c.in_ok-advance-2.ensures.ok ∙ ap (λ (s : Walking RangeState). record {
        at = s.at + 1;
        rows = s.rows;
      }) c.loop-place.invariant.ranges;
      known = rows_next ranges c.args.insns.now types place insn
          (option_map state_of c.frame.result.now) c.row.result.now
          (slice_get-get_or c.args.insns.now place c.index-insns-place.result c.loop-place-test.true)
          (subst (λ (s : Walking State). slice_get s.rows s.at ≡ Some (option_map state_of c.frame.result.now))
          c.loop-place.invariant.frames c.frame.ensures)
          (subst (λ (s : Walking RangeState). slice_get s.rows s.at ≡ Some c.row.result.now)
          c.loop-place.invariant.ranges c.row.ensures)
          c.loop-place.rows _ _ _ c.in_ok-push.ensures.ok c.in_ok-before_at.ensures c.loop-place.invariant.known;
    }

pub returns : goal.returns
returns c = λ constant numbers values.
    let types = rows_of c.args.method.now c.args.types.now in
    rows_end c.walk-ranges.result.rows c.args.insns.now types c.loop-place.place _ _ c.loop-place-test.false
    c.loop-place.invariant.known
    ∙ ap (λ (rs : List (Option RangeState)). rows_before rs 0 c.args.insns.now types)
    (ap (λ (s : Walking RangeState). s.rows) (c.walk-ranges.ensures constant numbers values))
