use Rattle.std.proofs.Common.{FitsSigned, ◌∙◌, ap, unwrap_or, pos}
use Rattle.std.specs.Int.{w32}
use Rattle.std.proofs.lemmas.Int.{to_z-of_z}
use Rattle.cjc_range.specs.Landmarks.{landmark_above}
use Rattle.cjc_range.proofs.landmarks.landmark_above.Goals as goal

pub returns : goal.returns
unfolding landmark_above
returns c =
    let f : FitsSigned w32 c.args.end = c.ranges.end in
    let g : FitsSigned w32 c.unwrap_or.result = record { sfits = c.unwrap_or.type_inv } in
    let found = simp to_z-of_z at c.first_above.ensures in
    to_z-of_z w32 c.unwrap_or.result g ∙ c.unwrap_or.ensures ∙ ap (λ o. unwrap_or o (pos 2147483647)) found
