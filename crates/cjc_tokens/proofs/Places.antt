-- How many items a list has whose items are mapped.
use Rattle.std.proofs.Common.{◌≡◌, List, length}
use Rattle.std.specs.Prelude.{map}
use Rattle.std.proofs.lemmas.List.{length-map}

pub length_of_methods : {A B : Type 0} (f : A → B) (xs : List A) → length (map f xs) ≡ length xs
length_of_methods f xs = length-map xs f
