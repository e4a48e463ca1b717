use Rattle.std.proofs.Common.{◌≡◌, List}
use Rattle.std.specs.Prelude.{map}
use Rattle.cjc_pool.specs.NCode.declared.narrow.PoolKey.{PoolKey}
use Rattle.cjc_narrow.specs.Rows.Selected.{near_fields}
use Rattle.cjc_int_package.specs.Modes.{Tables}
use Rattle.cjc_int_package.specs.Written.{code_by_mode_at}
use Rattle.cjc_methods.specs.Ready.{AreTold}
use Rattle.cjc_methods.proofs.Mixed.{mixed}
use Rattle.cjc_methods.proofs.codes.settled.Given as goal

abbrev pub invariant-loop-place : goal.invariant-loop-place
invariant-loop-place l =
    (t : Tables) (keys : List PoolKey) → AreTold l.world l.sources.codes.now l.sources.types.now l.sources.modes.now t
    → l.initial.codes.items ≡ map (code_by_mode_at l.world (near_fields keys) t) l.members
    → l.codes.items ≡ mixed (code_by_mode_at l.world (near_fields l.pool) t)
    (code_by_mode_at l.world (near_fields keys) t) l.place l.members
