use Rattle.std.proofs.Common.{FitsSigned, ◌∙◌, ap, unwrap_or, negsuc}
use Rattle.std.specs.Int.{w32}
use Rattle.std.proofs.lemmas.Int.{to_z-of_z}
use Rattle.cjc_range.specs.Landmarks.{landmark_below}
use Rattle.cjc_range.proofs.landmarks.landmark_below.Goals as goal

pub returns : goal.returns
unfolding landmark_below
returns c =
    let f : FitsSigned w32 c.args.end = c.ranges.end in
    let g : FitsSigned w32 c.unwrap_or.result = record { sfits = c.unwrap_or.type_inv } in
    let found = simp to_z-of_z at c.last_below.ensures in
    to_z-of_z w32 c.unwrap_or.result g ∙ c.unwrap_or.ensures ∙ ap (λ o. unwrap_or o (negsuc 2147483647)) found
