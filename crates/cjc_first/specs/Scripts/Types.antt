-- The types of a method's parameters and of its result, as its descriptor says them (Java Virtual Machine Specification, 4.3).
use Rattle.std.specs.Prelude.{ℕ, List, [], ◌∷◌, ◌++◌, Option, Some, None, Bool, true, false, ◌==◌, if◌then◌else◌}

-- A type of a value. A reference has the name of its class, or an array's descriptor. Char, long, float, double, arrays
-- of these and arrays of arrays are types that no value has here.
pub data Sort : Type 0 where
  Boolean : Sort
  Byte : Sort
  Short : Sort
  Int : Sort
  Reference : (name : List ℕ) → Sort
  NoValue : Sort

pub record Signature : Type 0 where
  pub params : List Sort
  pub result : Option Sort

-- the bytes of a descriptor cut behind each type and each parenthesis
abbrev pub pieces : (begun : List ℕ) (in_name : Bool) → List ℕ → List (List ℕ)
pieces begun in_name [] = []
pieces begun true (c ∷ bytes) =
    if c == 59 then (begun ++ c ∷ []) ∷ pieces [] false bytes else pieces (begun ++ c ∷ []) true bytes
pieces begun false (c ∷ bytes) =
    if c == 91 then pieces (begun ++ c ∷ []) false bytes
    else (if c == 76 then pieces (begun ++ c ∷ []) true bytes else (begun ++ c ∷ []) ∷ pieces [] false bytes)

-- what stands before a ; at the end
abbrev pub put_first : ℕ → Option (List ℕ) → Option (List ℕ)
put_first c None = None
put_first c (Some name) = Some (c ∷ name)

abbrev pub closed_name : List ℕ → Option (List ℕ)
closed_name [] = None
closed_name (c ∷ []) = if c == 59 then Some [] else None
closed_name (c ∷ d ∷ name) = put_first c (closed_name (d ∷ name))

abbrev pub class_type : Option (List ℕ) → Sort
class_type None = NoValue
class_type (Some name) = Reference name

-- the type of one byte: B, I, S, Z
abbrev pub base : ℕ → Sort
base c = if c == 66 then Byte else (if c == 73 then Int else (if c == 83 then Short else (if c == 90 then Boolean else NoValue)))

-- an array's type, where its elements can be values and are no arrays
abbrev pub array_of : List ℕ → Sort → Sort
array_of desc NoValue = NoValue
array_of desc element = Reference desc

abbrev pub element_of : List ℕ → Sort
element_of (c ∷ []) = base c
element_of (c ∷ name) = if c == 76 then class_type (closed_name name) else NoValue
element_of [] = NoValue

abbrev pub sort_of : List ℕ → Sort
sort_of (c ∷ []) = base c
sort_of (c ∷ name) = if c == 76 then class_type (closed_name name) else (if c == 91 then array_of (c ∷ name) (element_of name) else NoValue)
sort_of [] = NoValue

-- a result: nothing for V
abbrev pub result_of : List ℕ → Option Sort
result_of (c ∷ []) = if c == 86 then None else Some (base c)
result_of piece = Some (sort_of piece)

abbrev pub onto : Sort → Option Signature → Option Signature
onto kind None = None
onto kind (Some s) = Some (record s { params = kind ∷ s.params })

abbrev pub is_close : List ℕ → Bool
is_close (c ∷ []) = c == 41
is_close piece = false

-- parameters, ) and the result
abbrev pub closed : List (List ℕ) → Option Signature
closed (r ∷ []) = Some (record { params = []; result = result_of r })
closed pieces = None

abbrev pub params_of : List (List ℕ) → Option Signature
params_of [] = None
params_of (p ∷ pieces) = if is_close p then closed pieces else onto (sort_of p) (params_of pieces)

abbrev pub opened : ℕ → List ℕ → Option Signature
opened c bytes = if c == 40 then params_of (pieces [] false bytes) else None

-- the types of a method's descriptor, where it is one
unfoldable pub signature : List ℕ → Option Signature
signature [] = None
signature (c ∷ bytes) = opened c bytes
