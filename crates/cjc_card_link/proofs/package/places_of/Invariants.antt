use Rattle.std.proofs.Common.{◌≡◌, ℕ, List, drop}
use Rattle.std.specs.Str.{bytes_eq}
use Rattle.cjc_card_semantics.specs.Machine.Classes.{or_else}
use Rattle.cjc_card_link.specs.Indices.{first_place, place_under}
use Rattle.cjc_card_link.proofs.Places.{place_from}
use Rattle.cjc_card_link.proofs.package.places_of.Given as goal

abbrev pub invariant-loop-class : goal.invariant-loop-class
invariant-loop-class l =
    (l.number ≡ l.class-index)
    × ((x : List ℕ) → or_else (place_under l.places x) (place_from (λ d. bytes_eq d.name x) l.class-index
    (drop l.class-index l.classes)) ≡ first_place (λ d. bytes_eq d.name x) l.classes)
