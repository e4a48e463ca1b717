-- The lengths of methods by offset, read off Descriptor.
use Rattle.std.specs.Prelude.{◌≡◌, ◌+◌, ◌<◌, ◌^◌, ℕ, List, [], ◌∷◌, Bool, false, if◌then◌else◌, Option, Some, None}
use Rattle.std.specs.Prelude.{option_and_then, option_map, slice_get}
use Rattle.cjc_card_semantics.specs.CapRead.declared.tree.ClassDescriptor.{ClassDescriptor}
use Rattle.cjc_card_semantics.specs.CapRead.declared.tree.ClassInfo.{ClassInfo}
use Rattle.cjc_card_semantics.specs.CapRead.declared.tree.ClassRef.{ClassRef}
use Rattle.cjc_card_semantics.specs.CapRead.declared.tree.ClassRef.TheVariants.{Inside, Outside}
use Rattle.cjc_card_semantics.specs.CapRead.declared.tree.MethodDescriptor.{MethodDescriptor}
use Rattle.cjc_card_semantics.specs.CapRead.MethodHeader.{MethodHeader}
use Rattle.cjc_card_semantics.specs.Bytecode.Machine.{Start}
use Rattle.cjc_card_semantics.specs.Machine.Classes.{number_from, or_else}
use Rattle.cjc_card_semantics.specs.Machine.Methods.{Code, is_class_info, method_among}
use Rattle.cjc_card_link.specs.declared.indices.Numbers.{Numbers}
use Rattle.cjc_card_link.specs.Indices.{number_under}
use Rattle.cjc_card_link.specs.Infos.{infos_in}

-- a class_ref to a class of the package
abbrev pub is_class_ref : ClassInfo → ClassRef → Bool
is_class_ref c (Inside offset) = is_class_info (option_and_then (slice_get (infos_in c)) (number_from 2 (infos_in c)
    offset))
is_class_ref c (Outside «package» token) = false

-- the bytes of its code
abbrev pub bytes_of : MethodDescriptor → ℕ
bytes_of m = m.bytecode_count

-- those of the method at an offset, among the methods of a class
abbrev pub bytes_in : ClassInfo → ClassDescriptor → (offset : ℕ) → Option ℕ
bytes_in c d x = if is_class_ref c d.this_class then option_map bytes_of (method_among d.methods x) else None

-- among those of several
abbrev pub bytes_among : ClassInfo → List ClassDescriptor → (offset : ℕ) → Option ℕ
bytes_among c [] x = None
bytes_among c (d ∷ descriptors) x = or_else (bytes_in c d x) (bytes_among c descriptors x)

-- a method of a package by the offset of its header, its header and the bytes of its code
abbrev pub started : (part offset : ℕ) → MethodHeader → (bytes : ℕ) → Start Code
started p offset h n = record {
  code = record { part = p; room = h.max_stack; first = offset + h.size; end = offset + h.size + n };
  at = offset + h.size;
  nargs = h.nargs;
  max_locals = h.max_locals;
  is_abstract = h.is_abstract;
}

-- Offsets and lengths are far below 2^32.
abbrev pub AreSmall : Numbers → Type 0
AreSmall counts = (x n : ℕ) → number_under counts x ≡ Some n → (x < 2 ^ 30) × (n < 2 ^ 30)
