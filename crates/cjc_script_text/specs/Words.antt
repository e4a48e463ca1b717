-- What the words of a script's line say: numbers, objects, values, methods and arrays.
use Rattle.std.specs.Prelude.{ℕ, ◌-◌, List, [], ◌∷◌, length, take, drop, position, slice_index, Option, Some, None}
use Rattle.std.specs.Prelude.{option_map, option_and_then, Bool, false, ◌==◌, ◌&&◌, ◌||◌, if◌then◌else◌, ℤ, pos, neg_ℤ}
use Rattle.std.specs.Prelude.{codes}
use Rattle.std.specs.Str.{bytes_eq}
use Rattle.cjc_list.specs.Bytes.declared.fault.MemberId.{MemberId}
use Rattle.cjc_list.specs.Bytes.Descriptor.{Parts}
use Rattle.cjc_list.specs.Bytes.Spots.{desc_of}
use Rattle.cjc_list.specs.Bytes.Text.{is_filled, short_decimal}
use Rattle.cjc_list.specs.Grammar.{is_name}
use Rattle.cjc_script.specs.declared.value.Value.{Value}
use Rattle.cjc_script.specs.declared.value.Value.TheVariants.{Num, Null, Obj}

-- the first, or else the second
abbrev pub or_else : {A : Type 0} → Option A → Option A → Option A
or_else (Some a) other = Some a
or_else None other = other

-- A number is one to ten digits with a value to 2147483647, or `-` (45) and one to ten digits with a value to
-- 2147483648.
abbrev pub number_of : List ℕ → Option ℤ
number_of [] = None
number_of (b ∷ digits) =
    if b == 45 then option_map (λ n. neg_ℤ (pos n)) (short_decimal 10 2147483648 digits)
    else option_map (λ n. pos n) (short_decimal 10 2147483647 (b ∷ digits))

-- An object is `@` (64) and its number, one to ten digits with a value to 4294967295.
abbrev pub reference_of : List ℕ → Option ℕ
reference_of [] = None
reference_of (b ∷ digits) = if b == 64 then short_decimal 10 4294967295 digits else None

-- A value is `null`, an object or a number.
abbrev pub value_of : List ℕ → Option Value
value_of word =
    if bytes_eq word (codes "null") then Some Null
    else or_else (option_map (λ k. Obj k) (reference_of word)) (option_map (λ z. Num z) (number_of word))

-- a value of each word
unfoldable pub values_of : List (List ℕ) → Option (List Value)
values_of [] = Some []
values_of (w ∷ ws) = option_and_then (λ v. option_map (λ vs. v ∷ vs) (values_of ws)) (value_of w)

-- whether a descriptor that parses is a method's
abbrev pub of_method : Option Parts → Bool
of_method None = false
of_method (Some d) = d.is_method

-- whether the bytes are a method's descriptor
abbrev pub is_method : List ℕ → Bool
is_method desc = of_method (desc_of desc)

-- a method by its class, name and descriptor, where the name is not empty
abbrev pub method_by : (class name desc : List ℕ) → Option MemberId
method_by class name desc =
    if is_filled name && (is_method desc && is_name class) then Some (record {
      class = class;
      name = name;
      desc = desc;
    }) else None

-- A method of a class is its name and its descriptor, which begins at the first `(` (40).
unfoldable pub method_of : (class text : List ℕ) → Option MemberId
method_of class text = option_and_then (λ n. method_by class (take n text) (drop n text)) (position (λ b. b == 40) text)

-- the name of a class, and `;` (59)
abbrev pub is_class_end : List ℕ → Bool
is_class_end rest = (slice_index rest (length rest - 1) == 59) && is_name (take (length rest - 1) rest)

-- what stands behind `[` (91): Z, B, S, I, or L, the name of a class and `;`
abbrev pub is_element : List ℕ → Bool
is_element [] = false
is_element (b ∷ []) = (b == 90) || (b == 66) || (b == 83) || (b == 73)
is_element (b ∷ c ∷ rest) = (b == 76) && is_class_end (c ∷ rest)

-- the descriptor of an array that a script makes
abbrev pub is_array : List ℕ → Bool
is_array [] = false
is_array (b ∷ rest) = (b == 91) && is_element rest
