-- Which static images can be written: their numbers are of the types of their fields and arrays.
use Rattle.std.specs.Prelude.{◌≡◌, [], All, Bool, false, true, ℤ}
use Rattle.cjc_components.specs.LowerScript.declared.value.Value.TheVariants.{Num}
use Rattle.cjc_components.specs.LowerScript.Sorts.{Sort, field_sort, fits, sort_by}
use Rattle.cjc_world.specs.declared.image.ArrayCell.{ArrayCell}
use Rattle.cjc_world.specs.declared.image.ValueCell.{ValueCell}
use Rattle.cjc_world.specs.declared.image.StaticImage.{StaticImage}

-- a number of a type
abbrev pub is_number_of : Sort → ℤ → Bool
is_number_of sort z = fits (λ k shape. false) sort (Num z)

-- the items of an array
abbrev pub FitsArray : ArrayCell → Type 0
FitsArray a = All (λ z. is_number_of (sort_by a.kind []) z ≡ true) a.items

-- the number of a field
abbrev pub FitsValue : ValueCell → Type 0
FitsValue v = let f = v.field in is_number_of (field_sort f.desc) v.value ≡ true

-- of all an image's
pub record AreFit (image : StaticImage) : Type 0 where
  pub arrays : All FitsArray image.arrays
  pub values : All FitsValue image.others
