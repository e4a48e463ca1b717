use Rattle.std.proofs.Common.{◌≡◌, drop}
use Rattle.std.specs.List.{list_any}
use Rattle.cjc_int_package.specs.Components.{is_in_int_mode}
use Rattle.cjc_int_package.specs.Modes.{Tables}
use Rattle.cjc_pool.specs.JvmSemantics.OnePackage.{method_at}
use Rattle.cjc_world.specs.declared.found.Found.{Found}
use Rattle.cjc_methods.specs.Ready.{AreTold}
use Rattle.cjc_methods.proofs.modes.any_in_int_mode.Given as goal

abbrev pub invariant-loop-member : goal.invariant-loop-member
invariant-loop-member l =
    (t : Tables) → AreTold l.world l.codes l.types l.modes t
    → list_any (λ (f : Found). is_in_int_mode t (method_at l.world f)) (drop l.member-index l.members)
    ≡ list_any (λ (f : Found). is_in_int_mode t (method_at l.world f)) l.members
