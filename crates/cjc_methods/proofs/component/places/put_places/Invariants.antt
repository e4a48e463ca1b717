use Rattle.std.proofs.Common.{◌≡◌, ◌+◌, ◌++◌, drop}
use Rattle.std.specs.Prelude.{map}
use Rattle.cjc_methods.proofs.component.places.put_places.Given as goal

abbrev pub invariant-loop-place : goal.invariant-loop-place
invariant-loop-place l = l.out ++ map (λ x. l.at + x) (drop l.place-index l.places) ≡ l.initial.out
    ++ map (λ x. l.at + x) l.places
