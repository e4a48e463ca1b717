-- The methods of Method, cut into headers and whole instructions (Java Card Virtual Machine Specification 2.2.2, 6.9.2
-- and chapter 7).
use Rattle.std.specs.Prelude.{ℕ, zero, suc, ◌+◌, ◌-◌, ◌*◌, List, [], ◌∷◌, length, take, drop, Bool, ◌==◌, if◌then◌else◌}
use Rattle.std.specs.Prelude.{Option, Some, None, Result, Ok, Err}
use Rattle.cjc_capread.specs.declared.tree.MethodDescriptor.{MethodDescriptor}
use Rattle.cjc_capread.specs.Decode.{Instruction, decode, size}
use Rattle.cjc_capread.specs.MethodHeader.{MethodHeader, method_header}
use Rattle.cjc_check_rules.specs.Spots.{ComponentPlace, in_info, Placed}
use Rattle.cjc_check_rules.specs.Complete.{Complete}
use Rattle.cjc_check_rules.specs.Members.{class_methods}

-- the code of a method: whether it is abstract, where it begins and ends in bytes from the start of the info of Method,
-- and its
-- instructions
pub record Code : Type 0 where
  pub is_abstract : Bool
  pub first : ℕ
  pub end : ℕ
  pub instructions : List (Placed Instruction)

-- ---- cutting: what is cut, or where that ends

-- one more in front
abbrev pub onto : {A : Type 0} → A → Result (List A) ℕ → Result (List A) ℕ
onto x (Ok xs) = Ok (x ∷ xs)
onto x (Err at) = Err at

-- an instruction, and what follows it
abbrev pub with_instruction : (at : ℕ) → Option Instruction → (Instruction → Result (List (Placed Instruction)) ℕ)
    → Result (List (Placed Instruction)) ℕ
with_instruction at None go = Err at
with_instruction at (Some i) go = onto (record { at = at; item = i }) (go i)

-- The instructions that a number of bytes at the front of these are, the first at this offset, in so many steps at
-- most; else the
-- offset of the first that is none or is cut.
unfoldable pub instructions : (steps count at : ℕ) → List ℕ → Result (List (Placed Instruction)) ℕ
instructions zero count at bytes = Ok []
instructions (suc n) zero at bytes = Ok []
instructions (suc n) (suc count) at bytes =
    with_instruction at (decode (take (suc count) bytes)) (λ i. instructions n (suc count - size i) (at + size i)
    (drop (size i) bytes))

-- the code of a method, and what follows it
abbrev pub with_code : MethodHeader → (first count : ℕ) → Result (List (Placed Instruction)) ℕ
    → (go : Result (List Code) ℕ) → Result (List Code) ℕ
with_code h first count (Err at) go = Err at
with_code h first count (Ok is) go = onto (record {
  is_abstract = h.is_abstract;
  first = first;
  end = first + count;
  instructions = is;
}) go

-- a method whose header stands at this offset and says this, and what follows it
abbrev pub with_header : (at : ℕ) → MethodDescriptor → List ℕ → Option MethodHeader
    → (go : ℕ → List ℕ → Result (List Code) ℕ) → Result (List Code) ℕ
with_header at m bytes None go = Err at
with_header at m bytes (Some h) go =
    with_code h (at + h.size) m.bytecode_count
    (instructions m.bytecode_count m.bytecode_count (at + h.size) (drop h.size bytes))
    (go (at + h.size + m.bytecode_count) (drop (h.size + m.bytecode_count) bytes))

-- The codes of methods that stand one behind the other from an offset on and fill the bytes; else the first offset
-- where they do not.
unfoldable pub codes_from : (at : ℕ) → List MethodDescriptor → List ℕ → Result (List Code) ℕ
codes_from at [] [] = Ok []
codes_from at [] (b ∷ bytes) = Err at
codes_from at (m ∷ ms) bytes =
    if m.offset == at then with_header at m bytes (method_header bytes) (λ next rest. codes_from next ms rest)
    else Err at

-- the methods stand behind the number of handlers and the handlers of eight bytes each
abbrev pub methods_begin : Complete → ℕ
methods_begin c = 1 + 8 * length c.method.handlers

-- the codes of all methods of classes, or the offset where Method is not filled by them
abbrev pub cut : Complete → Result (List Code) ℕ
cut c = codes_from (methods_begin c) (class_methods c) c.method.methods

-- no place where everything is cut, else the offset in Method where it ends
abbrev pub where_cut_ends : Result (List Code) ℕ → List ComponentPlace
where_cut_ends (Ok codes) = []
where_cut_ends (Err at) = in_info 7 at ∷ []

-- 709. The methods, cut by the counts of Descriptor, fill the bytes of Method and are whole instructions. Broken is the
-- end of the
-- method before, where a method stands elsewhere by Descriptor; a header or an instruction that is cut or none; or the
-- first byte left over.
abbrev pub whole_spots : Complete → List ComponentPlace
whole_spots c = where_cut_ends (cut c)

-- the codes that were cut; none where cutting ended early
abbrev pub all_codes : Result (List Code) ℕ → List Code
all_codes (Ok codes) = codes
all_codes (Err at) = []

-- the codes of all methods, none where 709 is false
abbrev pub codes : Complete → List Code
codes c = all_codes (cut c)
