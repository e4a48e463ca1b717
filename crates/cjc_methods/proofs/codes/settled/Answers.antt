use Rattle.std.proofs.Common.{◌≡◌, ◌∙◌, arith, false, length, sym, ap, get_or}
use Rattle.std.specs.Prelude.{slice_get, slice_set, Some}
use Rattle.std.proofs.lemmas.Option.{slice_get-get_or}
use Rattle.cjc_narrow.specs.Rows.Selected.{near_fields}
use Rattle.cjc_int_package.specs.Written.{code_by_mode_at}
use Rattle.cjc_world.specs.declared.found.Found.{Found}
use Rattle.cjc_methods.proofs.Mixed.{all_mixed, keep_mixed, length_mixed, mixed, none_mixed, put_mixed}
use Rattle.cjc_methods.proofs.codes.settled.Goals as goal
use Rattle.cjc_methods.proofs.codes.settled.Goals.{then-place-len+then-not-keeps_code+in_ok-codes, else-place-len}
use Rattle.cjc_methods.proofs.codes.settled.Goals.{else-place-len-via-then-place-len+else-not-keeps_code}
use Rattle.cjc_methods.proofs.codes.settled.Goals.{else-place-len-via-else-place-len}

pub loop-place-init : goal.loop-place-init
loop-place-init c = λ t keys told e. e ∙ sym (none_mixed (code_by_mode_at c.args.world.now (near_fields
    c.args.pool.now) t) (code_by_mode_at c.args.world.now (near_fields keys) t) c.args.members.now)

pub loop-place-preserved : goal.loop-place-preserved
loop-place-preserved c = λ t keys told e.
    let members = c.args.members.now in
    let k = c.loop-place.place in
    let f = code_by_mode_at c.args.world.now (near_fields c.args.pool.now) t in
    let g = code_by_mode_at c.args.world.now (near_fields keys) t in
    let old = c.loop-place.invariant t keys told e in
    let m : Found = get_or members k (record { imported = false; class = 0; member = 0 }) in
    let at : slice_get members k ≡ Some m = slice_get-get_or members k (record {
      imported = false;
      class = 0;
      member = 0;
    }) c.loop-place-test.true in
    elim c.if-place-len.branch [
      | then-place-len+then-not-keeps_code+in_ok-codes w ↦ ap (λ v. v.items) w.codes-is
          ∙ ap (λ xs. slice_set xs k w.in_ok-codes.field-0) old
          ∙ ap (slice_set (mixed f g k members) k) (w.in_ok-codes.ensures t told)
          ∙ put_mixed f g k members m at
      | else-place-len w ↦ ap (λ v. v.items) w.codes-is ∙ old ∙ elim w.else-place-len.branch [
        | else-place-len-via-then-place-len+else-not-keeps_code w' ↦ keep_mixed f g k members m at
            (w'.keeps_code.ensures t (near_fields keys) (near_fields c.args.pool.now) told w'.if-not-keeps_code.false)
        | else-place-len-via-else-place-len w' ↦ absurd (let same = ap length old ∙ length_mixed f g k members in
            let past = w'.if-place-len.false in let in_time = c.loop-place-test.true in let len = c.len.ensures in
            omega (arith, same, past, in_time, len))
      ]
    ]

pub returns : goal.returns
returns c = λ t keys told e.
    let members = c.args.members.now in
    let f = code_by_mode_at c.args.world.now (near_fields c.args.pool.now) t in
    let g = code_by_mode_at c.args.world.now (near_fields keys) t in
    c.of.ensures ∙ c.loop-place.invariant t keys told (c.into_vec-codes.ensures ∙ e)
    ∙ all_mixed f g c.loop-place.place members c.loop-place-test.false
