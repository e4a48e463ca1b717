use Rattle.std.proofs.Common.{◌≡◌, ◌++◌, drop}
use Rattle.std.specs.Prelude.{map}
use Rattle.cjc_narrow.specs.Rows.Selected.{near_fields}
use Rattle.cjc_int_package.specs.Modes.{Tables}
use Rattle.cjc_int_package.specs.Written.{code_by_mode_at}
use Rattle.cjc_methods.specs.Ready.{AreTold}
use Rattle.cjc_methods.proofs.selecting.codes_at.Given as goal

abbrev pub invariant-loop-member : goal.invariant-loop-member
invariant-loop-member l =
    (t : Tables) → AreTold l.world l.sources.codes.now l.sources.types.now l.sources.modes.now t
    → l.out ++ map (code_by_mode_at l.world (near_fields l.pool) t) (drop l.member-index l.members)
    ≡ map (code_by_mode_at l.world (near_fields l.pool) t) l.members
