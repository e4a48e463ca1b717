-- The header of a method in Method's info (Java Card Virtual Machine Specification 2.2.2, section 6.9.2).
use Rattle.std.specs.Prelude.{ℕ, ◌/◌, ◌%◌, List, [], ◌∷◌, Option, Some, None, Bool, ◌==◌, if◌then◌else◌}

-- what a header says, and how many bytes it has
pub record MethodHeader : Type 0 where
  pub max_stack : ℕ
  -- the words of the arguments, the receiver counted
  pub nargs : ℕ
  -- the further cells of locals
  pub max_locals : ℕ
  pub is_abstract : Bool
  pub size : ℕ

-- ACC_EXTENDED and ACC_ABSTRACT among the flags, which are the high nibble of the first byte; other flags say nothing
abbrev pub is_extended : (first : ℕ) → Bool
is_extended first = first / 0x80 % 2 == 1

-- no code follows
abbrev pub is_abstract : (first : ℕ) → Bool
is_abstract first = first / 0x40 % 2 == 1

-- two bytes of nibbles
abbrev pub short_header : (first second : ℕ) → MethodHeader
short_header first second = record {
  max_stack = first % 16;
  nargs = second / 16;
  max_locals = second % 16;
  is_abstract = is_abstract first;
  size = 2;
}

-- three bytes behind the flags
abbrev pub extended_header : (first max_stack : ℕ) → List ℕ → Option MethodHeader
extended_header first max_stack (nargs ∷ max_locals ∷ bytes) =
    Some (record {
      max_stack = max_stack;
      nargs = nargs;
      max_locals = max_locals;
      is_abstract = is_abstract first;
      size = 4;
    })
extended_header first max_stack bytes = None

-- The header at the front of these bytes; None where they end in it.
abbrev pub method_header : List ℕ → Option MethodHeader
method_header (first ∷ second ∷ bytes) =
    if is_extended first then extended_header first second bytes else Some (short_header first second)
method_header bytes = None
