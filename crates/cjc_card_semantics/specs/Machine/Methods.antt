-- Methods in Method's info: where code begins and ends, its instructions and its handlers (Java Card Virtual Machine
-- Specification 2.2.2, section 6.9).
use Rattle.std.specs.Prelude.{ℕ, zero, suc, ◌+◌, ◌-◌, ◌*◌, length, List, [], ◌∷◌, drop, Option, Some, None}
use Rattle.std.specs.Prelude.{option_and_then, option_map, Bool, true, false, nat_le, nat_lt, ◌==◌, ◌&&◌, if◌then◌else◌}
use Rattle.std.specs.Prelude.{slice_get}
use Rattle.cjc_capread.specs.declared.tree.ClassRef.{ClassRef}
use Rattle.cjc_capread.specs.declared.tree.ClassRef.TheVariants.{Inside, Outside}
use Rattle.cjc_capread.specs.declared.tree.ClassDescriptor.{ClassDescriptor}
use Rattle.cjc_capread.specs.declared.tree.MethodDescriptor.{MethodDescriptor}
use Rattle.cjc_capread.specs.declared.tree.Handler.{Handler}
use Rattle.cjc_capread.specs.declared.tree.PoolEntry.{PoolEntry}
use Rattle.cjc_capread.specs.Decode.{Instruction, decode, size}
use Rattle.cjc_capread.specs.MethodHeader.{MethodHeader, method_header}
use Rattle.cjc_script.specs.Sorts.{Shape, OfClass}
use Rattle.cjc_card_semantics.specs.Bytecode.Meanings.{meaning}
use Rattle.cjc_card_semantics.specs.Bytecode.Machine.{Start, Fetched}
use Rattle.cjc_card_semantics.specs.Machine.Loaded.{Part, Loaded}
use Rattle.cjc_card_semantics.specs.Machine.Classes.{Class, Field, Info, IsClass, info_at, or_else, is_of}
use Rattle.cjc_card_semantics.specs.Machine.Statics.{StaticCell}
use Rattle.cjc_card_semantics.specs.Machine.Operations.{Callee, operation, class_at}

-- a method's code: its package, the greatest height of its stack, the offsets where its code begins and ends
pub record Code : Type 0 where
  pub part : ℕ
  pub room : ℕ
  pub first : ℕ
  pub end : ℕ

-- ---- methods by offset

-- a class, no interface
abbrev pub is_class_info : Option Info → Bool
is_class_info (Some (IsClass c)) = true
is_class_info info = false

-- a class_ref to a class of the package
abbrev pub is_class_at : Part → ClassRef → Bool
is_class_at part (Inside offset) = is_class_info (info_at part offset)
is_class_at part (Outside «package» token) = false

-- the method at an offset
abbrev pub method_among : List MethodDescriptor → (offset : ℕ) → Option MethodDescriptor
method_among [] offset = None
method_among (m ∷ methods) offset = if m.offset == offset then Some m else method_among methods offset

-- what Descriptor says of the method at an offset; the offsets of an interface's methods say nothing
abbrev pub described : Part → List ClassDescriptor → (offset : ℕ) → Option MethodDescriptor
described part [] offset = None
described part (d ∷ descriptors) offset =
    if is_class_at part d.this_class then or_else (method_among d.methods offset) (described part descriptors offset)
    else described part descriptors offset

-- where the methods begin: behind the number of handlers and the handlers, of eight bytes each
abbrev pub methods_begin : Part → ℕ
methods_begin part = let m = part.method in 1 + 8 * length m.handlers

-- the bytes of Method's info from an offset on, which is not among the handlers
abbrev pub bytes_from : Part → (offset : ℕ) → List ℕ
bytes_from part offset =
    if nat_le (methods_begin part) offset then (let m = part.method in drop (offset - methods_begin part) m.methods)
    else []

-- how a method begins, by its header and its length
abbrev pub start_at : (part offset : ℕ) → MethodHeader → MethodDescriptor → Start Code
start_at p offset h m = record {
  code = record { part = p; room = h.max_stack; first = offset + h.size; end = offset + h.size + m.bytecode_count };
  at = offset + h.size;
  nargs = h.nargs;
  max_locals = h.max_locals;
  is_abstract = h.is_abstract;
}

-- the method at an offset of a package
abbrev pub start_in : (part offset : ℕ) → Part → Option (Start Code)
start_in p offset part =
    option_and_then (λ h. option_map (start_at p offset h) (described part part.descriptor offset))
    (method_header (bytes_from part offset))

-- The method of a package whose header stands at an offset, and which Descriptor lists there.
abbrev pub start_of : Loaded → (part offset : ℕ) → Option (Start Code)
start_of l p offset = option_and_then (start_in p offset) (slice_get l.parts p)

-- ---- instructions

-- an instruction with its operands resolved
abbrev pub fetched_as : Loaded → (part : ℕ) → List PoolEntry → (at : ℕ) → Instruction
    → Fetched Class Field StaticCell Callee
fetched_as l p pool at i = record {
  operation = operation l p pool at (meaning i.opcode) i.operands i.table;
  next = at + size i;
}

-- an instruction that ends inside the code
abbrev pub fetched_within : Loaded → Code → (at : ℕ) → Part → Instruction
    → Option (Fetched Class Field StaticCell Callee)
fetched_within l code at part i = if nat_le (at + size i) code.end then Some (fetched_as l code.part part.pool at i)
    else None

-- one that begins there too
abbrev pub fetched_in : Loaded → Code → (at : ℕ) → Part → Option (Fetched Class Field StaticCell Callee)
fetched_in l code at part =
    if nat_le code.first at then option_and_then (fetched_within l code at part) (decode (bytes_from part at)) else None

-- The instruction at an offset, where all of it lies in its method's code.
abbrev pub fetch : Loaded → Code → (at : ℕ) → Option (Fetched Class Field StaticCell Callee)
fetch l code at = option_and_then (fetched_in l code at) (slice_get l.parts code.part)

-- ---- handlers

-- the offset lies in the handler's range
abbrev pub covers : Handler → (at : ℕ) → Bool
covers h at = nat_le h.start at && nat_lt at (h.start + h.length)

-- the exception is of the class
abbrev pub is_caught : Loaded → Shape Class → Option Class → Bool
is_caught l kind None = false
is_caught l kind (Some c) = is_of l kind (OfClass c)

-- catch index 0 takes any exception
abbrev pub takes : Loaded → (part : ℕ) → List PoolEntry → (index : ℕ) → Shape Class → Bool
takes l p pool zero kind = true
takes l p pool (suc k) kind = is_caught l kind (class_at l p (slice_get pool (suc k)))

-- In table order; a handler that covers the offset and does not take the exception ends the search where its stop bit
-- is set.
abbrev pub handler_among : Loaded → (part : ℕ) → List PoolEntry → List Handler → (at : ℕ) → Shape Class → Option ℕ
handler_among l p pool [] at kind = None
handler_among l p pool (h ∷ handlers) at kind =
    if covers h at
    then (if takes l p pool h.catch_index kind then Some h.handler else (if h.stop then None
    else handler_among l p pool handlers at kind))
    else handler_among l p pool handlers at kind

-- the handler among those of a package
abbrev pub handler_in : Loaded → Code → (at : ℕ) → Shape Class → Part → Option ℕ
handler_in l code at kind part = let m = part.method in handler_among l code.part part.pool m.handlers at kind

-- the handler that takes an exception of a type at an offset
abbrev pub handler : Loaded → Code → (at : ℕ) → Shape Class → Option ℕ
handler l code at kind = option_and_then (handler_in l code at kind) (slice_get l.parts code.part)
