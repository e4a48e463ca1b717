-- Operands of an instruction read as what they are: unsigned or signed, of one byte or two, a local.
use Rattle.std.specs.Prelude.{ℕ, nat_lt, if◌then◌else◌, List, [], ◌∷◌, Option, Some, None, ℤ, pos, negsuc, ◌+ℤ◌}
use Rattle.cjc_code.specs.declared.table.Family.{Family}
use Rattle.cjc_code.specs.declared.table.Family.TheVariants as family

-- the first number and the second; every instruction that is asked for them has them
abbrev pub first : List ℤ → ℤ
first [] = pos 0
first (z ∷ zs) = z

-- the second number
abbrev pub second : List ℤ → ℤ
second [] = pos 0
second (z ∷ zs) = first zs

-- a number of two bytes or one without sign, which such an operand always is
abbrev pub u16_of : ℤ → ℕ
u16_of (pos n) = if nat_lt n 65536 then n else 0
u16_of (negsuc n) = 0

-- a number of one byte without sign, which such an operand always is
abbrev pub u8_of : ℤ → ℕ
u8_of (pos n) = if nat_lt n 256 then n else 0
u8_of (negsuc n) = 0

-- a number of two bytes with sign, which such an operand always is
abbrev pub i16_of : ℤ → ℤ
i16_of (pos n) = if nat_lt n 32768 then pos n else pos 0
i16_of (negsuc n) = if nat_lt n 32768 then negsuc n else pos 0

-- where a jump goes: its offset counts from the place of its instruction
abbrev pub target : (at : ℕ) → (offset : ℤ) → ℤ
target at offset = pos at +ℤ offset

-- the second of each two numbers
abbrev pub seconds : List ℤ → List ℤ
seconds (value ∷ offset ∷ zs) = offset ∷ seconds zs
seconds zs = []

-- the offsets to which an instruction may jump
abbrev pub offsets : Family → List ℤ → List ℤ
offsets family.If zs = first zs ∷ []
offsets family.Goto zs = first zs ∷ []
offsets family.UnsupportedJump zs = first zs ∷ []
offsets family.TableSwitch (other ∷ low ∷ high ∷ zs) = other ∷ zs
offsets family.LookupSwitch (other ∷ pairs ∷ zs) = other ∷ seconds zs
offsets _ zs = []

-- the local that an instruction loads, stores or changes
abbrev pub local : Family → List ℤ → Option ℕ
local (family.Load refs) zs = Some (u16_of (first zs))
local (family.LoadAt refs n) zs = Some n
local (family.Store refs) zs = Some (u16_of (first zs))
local (family.StoreAt refs n) zs = Some n
local family.Inc zs = Some (u16_of (first zs))
local family.UnsupportedLocal zs = Some (u16_of (first zs))
local (family.UnsupportedLocalAt n) zs = Some n
local family.Ret zs = Some (u16_of (first zs))
local _ zs = None
