use Rattle.std.proofs.Common.{◌∙◌, rules}
use Rattle.std.specs.Int.{w32}
use Rattle.std.specs.Prelude.{FitsSigned}
use Rattle.std.proofs.lemmas.Int.{to_z-of_z}
use Rattle.cjc_narrow.specs.Written.Labels.{place_of}
use Rattle.cjc_narrow.proofs.WrittenLaws.Cases.{in_place_of, table_next}
use Rattle.cjc_narrow.proofs.written.switches.table_cases.Goals as goal

pub loop-target-preserved : goal.loop-target-preserved
loop-target-preserved c =
    let place = place_of c.args.places.now in
    let fits : FitsSigned w32 c.next_value-value.result = search rules in
    in_place_of place _ _ _ _ _ _ c.in_ok-put_case.ensures (to_z-of_z w32 c.next_value-value.result fits
    ∙ c.next_value-value.ensures)
    (table_next place c.loop-target.cases _ c.args.targets.now c.loop-target.target-index 0 _ c.loop-target-test.true
    c.loop-target.invariant)
