-- The static field image: reference cells, and the bytes behind them (Java Card Virtual Machine Specification 2.2.2,
-- section 6.10).
use Rattle.std.specs.Prelude.{ℕ, zero, suc, ◌+◌, ◌-◌, ◌*◌, ◌/◌, ◌%◌, List, [], ◌∷◌, ◌++◌, length, map, drop, replicate}
use Rattle.std.specs.Prelude.{Option, Some, None, option_and_then, option_map, nat_le, ◌==◌, if◌then◌else◌, slice_get}
use Rattle.std.specs.Prelude.{slice_set, ℤ}
use Rattle.std.specs.Int.{w8, w16, w32, cast_signed, cast_unsigned}
use Rattle.cjc_capread.specs.Decode.{two_bytes, four_bytes}
use Rattle.cjc_capread.specs.declared.tree.ArrayInit.{ArrayInit}
use Rattle.cjc_capread.specs.declared.tree.StaticField.{StaticField}
use Rattle.cjc_script.specs.declared.value.Value.{Value}
use Rattle.cjc_script.specs.declared.value.Value.TheVariants.{Num, Null, Obj}
use Rattle.cjc_script.specs.Sorts.{Element, Booleans, Bytes, Shorts, Ints}
use Rattle.cjc_card_semantics.specs.Bytecode.Effects.{Letter, Reference, Byte, Short, Int, HeapObject, Numbers, Memory}
use Rattle.cjc_card_semantics.specs.Machine.Loaded.{Part, Loaded}
use Rattle.cjc_card_semantics.specs.Machine.Classes.{Class, Field}

-- the reference cells, of two bytes each, and the bytes behind them
pub record Image : Type 0 where
  pub references : List Value
  pub bytes : List ℕ

-- a static cell by its package and its offset in that package's image
pub record StaticCell : Type 0 where
  pub part : ℕ
  pub offset : ℕ

-- ---- reading and writing

-- the number of a reference cell by its offset
abbrev pub cell_number : (offset : ℕ) → Option ℕ
cell_number offset = if offset % 2 == 0 then Some (offset / 2) else None

-- the bytes of an image from an offset behind its reference cells on
abbrev pub bytes_at : Image → (offset : ℕ) → Option (List ℕ)
bytes_at i offset =
    if nat_le (2 * length i.references) offset then Some (drop (offset - 2 * length i.references) i.bytes) else None

-- a number, high bytes first
abbrev pub number_in : Letter → List ℕ → Option Value
number_in Byte (a ∷ bytes) = Some (Num (cast_signed w8 a))
number_in Short (a ∷ b ∷ bytes) = Some (Num (cast_signed w16 (256 * a + b)))
number_in Int (a ∷ b ∷ c ∷ d ∷ bytes) = Some (Num (cast_signed w32 (16777216 * a + 65536 * b + 256 * c + d)))
number_in letter bytes = None

-- what the cell at an offset holds, by a letter
abbrev pub cell_in : Letter → Image → (offset : ℕ) → Option Value
cell_in Reference i offset = option_and_then (slice_get i.references) (cell_number offset)
cell_in letter i offset = option_and_then (number_in letter) (bytes_at i offset)

-- what a cell holds
abbrev pub get_static : Letter → StaticCell → List Image → Option Value
get_static letter s images = option_and_then (λ i. cell_in letter i s.offset) (slice_get images s.part)

-- the bytes of a number, by a letter
abbrev pub number_bytes : Letter → Value → List ℕ
number_bytes Byte (Num z) = cast_unsigned w8 z ∷ []
number_bytes Short (Num z) = two_bytes (cast_unsigned w16 z)
number_bytes Int (Num z) = four_bytes (cast_unsigned w32 z)
number_bytes letter value = []

-- bytes with others in their place
abbrev pub overwritten : List ℕ → (at : ℕ) → List ℕ → List ℕ
overwritten bytes at [] = bytes
overwritten bytes at (b ∷ new) = overwritten (slice_set bytes at b) (at + 1) new

-- an image with another value in a cell
abbrev pub cell_put : Letter → Value → Image → (offset : ℕ) → Image
cell_put Reference v i offset = record i { references = slice_set i.references (offset / 2) v }
cell_put letter v i offset = record i {
  bytes = overwritten i.bytes (offset - 2 * length i.references)
      (number_bytes letter v);
}

-- the same where the cell is there
abbrev pub image_put : Letter → StaticCell → Value → List Image → Image → Option (List Image)
image_put letter s v images i = option_map (λ old. slice_set images s.part (cell_put letter v i s.offset))
    (cell_in letter i s.offset)

-- the images with another value in a cell that is there
abbrev pub put_static : Letter → StaticCell → Value → List Image → Option (List Image)
put_static letter s v images = option_and_then (image_put letter s v images) (slice_get images s.part)

-- ---- at the start

-- boolean 2, byte 3, short 4, int 5
abbrev pub element_of : (type : ℕ) → Element
element_of type = if type == 2 then Booleans else (if type == 3 then Bytes else (if type == 4 then Shorts else Ints))

-- the elements that bytes spell, high bytes first
abbrev pub elements : Element → List ℕ → List ℤ
elements Booleans (a ∷ bytes) = cast_signed w8 a ∷ elements Booleans bytes
elements Bytes (a ∷ bytes) = cast_signed w8 a ∷ elements Bytes bytes
elements Shorts (a ∷ b ∷ bytes) = cast_signed w16 (256 * a + b) ∷ elements Shorts bytes
elements Ints (a ∷ b ∷ c ∷ d ∷ bytes) = cast_signed w32 (16777216 * a + 65536 * b + 256 * c + d) ∷ elements Ints bytes
elements element bytes = []

-- an array that the image lists
abbrev pub first_array : ArrayInit → HeapObject Class Field
first_array a = let element = element_of a.type_ in Numbers element (elements element a.values)

-- the arrays of all packages
abbrev pub first_arrays : List Part → List (HeapObject Class Field)
first_arrays [] = []
first_arrays (part ∷ parts) = (let s = part.statics in map first_array s.array_inits) ++ first_arrays parts

-- so many objects from a number on
abbrev pub objects_from : (number count : ℕ) → List Value
objects_from k zero = []
objects_from k (suc n) = Obj k ∷ objects_from (k + 1) n

-- arrays stand first among the reference cells, and the numbers that are not 0 last; the package's first array has this
-- number
abbrev pub first_image : (number : ℕ) → StaticField → Image
first_image k s =
    let arrays = length s.array_inits in
    record {
      references = objects_from k arrays ++ replicate (s.reference_count - arrays) Null;
      bytes = replicate s.default_value_count 0 ++ s.values;
    }

-- the images of all packages, where the first array has this number
abbrev pub first_images : (number : ℕ) → List Part → List Image
first_images k [] = []
first_images k (part ∷ parts) = first_image k part.statics ∷ first_images (k + (let s = part.statics
    in length s.array_inits)) parts

-- The heap and the static cells before the first entry: the arrays of all packages, package by package.
abbrev pub first_memory : Loaded → Memory Class Field (List Image)
first_memory l = record { heap = first_arrays l.parts; statics = first_images 0 l.parts }
