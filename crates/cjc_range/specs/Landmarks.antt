-- The landmarks, to which intervals are rounded outwards.
use Rattle.std.specs.Prelude.{ℤ, pos, negsuc, ◌≤ℤ◌, int_le, List, [], ◌∷◌, reverse, unwrap_or, Contains}
use Rattle.std.specs.List.{find}
use Rattle.cjc_range.specs.Span.{Span, span}

-- ascending
abbrev pub landmarks : List ℤ
landmarks =
    negsuc 2147483647 ∷ negsuc 65535 ∷ negsuc 32767 ∷ negsuc 127 ∷ negsuc 0 ∷ pos 0 ∷ pos 1 ∷ pos 127 ∷ pos 255
    ∷ pos 32767 ∷ pos 65535 ∷ pos 2147483647 ∷ []

-- the nearest landmark that is not below z, and the nearest that is not above z
unfoldable pub landmark_above : ℤ → ℤ
landmark_above z = unwrap_or (find (λ m. int_le z m) landmarks) (pos 2147483647)

-- the nearest landmark that is not above z; the least one where all are above
unfoldable pub landmark_below : ℤ → ℤ
landmark_below z = unwrap_or (find (λ m. int_le m z) (reverse landmarks)) (negsuc 2147483647)

-- both ends moved outwards to the nearest landmarks
abbrev pub round_row : Span → Span
round_row s = span (landmark_below s.low) (landmark_above s.high)

-- the number is a landmark
abbrev pub IsLandmark : ℤ → Type 0
IsLandmark z = Contains landmarks z

-- r has landmarks for ends, holds s, and lies inside each such span that holds s
pub record IsRounded (s r : Span) : Type 0 where
  pub low : IsLandmark r.low
  pub high : IsLandmark r.high
  pub low_outwards : r.low ≤ℤ s.low
  pub high_outwards : s.high ≤ℤ r.high
  pub low_nearest : (m : ℤ) → IsLandmark m → m ≤ℤ s.low → m ≤ℤ r.low
  pub high_nearest : (m : ℤ) → IsLandmark m → s.high ≤ℤ m → r.high ≤ℤ m
