-- What the code tells of a broken rule.
use Rattle.std.specs.Prelude.{ℕ, List, [], ◌∷◌, ◌++◌}
use Rattle.cjc_subset.specs.declared.broken.Break.{Break}
use Rattle.cjc_subset.specs.declared.broken.Part.{Part}
use Rattle.cjc_subset.specs.declared.broken.Part.TheVariants as parts
use Rattle.cjc_subset.specs.declared.broken.Spot.{Spot as Place}
use Rattle.cjc_subset.specs.Places.{Spot, broken_at}
use Rattle.cjc_world.specs.Rules.{Break as Broken}

abbrev pub text_of : Part → List ℕ
text_of parts.Whole = []
text_of (parts.Field name desc) = name.now ++ 58 ∷ desc.now
text_of (parts.Method name desc) = name.now ++ desc.now

abbrev pub spot_of : Place → Spot
spot_of s = record { file = s.file; file_name = s.file_name.now; class = s.class; class_name = s.class_name.now; member = s.member; text = text_of s.part; offset = s.offset }

abbrev pub break_of : Break → Broken
break_of b = broken_at (spot_of b.spot) b.rule
