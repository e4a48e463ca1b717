-- Access flags of classes, fields and methods (Java Virtual Machine Specification, sections 4.1, 4.5 and 4.6; of export
-- files Java Card Virtual Machine Specification 2.2.2, sections 5.7 to 5.9).
use Rattle.std.specs.Prelude.{ℕ, Bool, nat_lt, bit_and}

-- ACC_PUBLIC: may be accessed from outside its package
abbrev pub acc_public : ℕ
acc_public = 0x0001

-- ACC_PRIVATE: of a member that only its class accesses
abbrev pub acc_private : ℕ
acc_private = 0x0002

-- ACC_PROTECTED: of a member that subclasses may access too
abbrev pub acc_protected : ℕ
acc_protected = 0x0004

-- ACC_STATIC: of a member that belongs to the class and not to each object
abbrev pub acc_static : ℕ
acc_static = 0x0008

-- ACC_FINAL: no subclass of a class, no later write to a field, no overriding of a method
abbrev pub acc_final : ℕ
acc_final = 0x0010

-- of a class
abbrev pub acc_super : ℕ
acc_super = 0x0020

-- of a method
abbrev pub acc_synchronized : ℕ
acc_synchronized = 0x0020

-- of a field
abbrev pub acc_volatile : ℕ
acc_volatile = 0x0040

-- of a field
abbrev pub acc_transient : ℕ
acc_transient = 0x0080

-- of a method
abbrev pub acc_native : ℕ
acc_native = 0x0100

-- ACC_INTERFACE: an interface, not a class
abbrev pub acc_interface : ℕ
acc_interface = 0x0200

-- ACC_ABSTRACT: a class without instances, or a method without code
abbrev pub acc_abstract : ℕ
acc_abstract = 0x0400

-- of a method
abbrev pub acc_strict : ℕ
acc_strict = 0x0800

-- of an exported class
abbrev pub acc_shareable : ℕ
acc_shareable = 0x0800

-- ACC_SYNTHETIC: made by a compiler, not present in the source
abbrev pub acc_synthetic : ℕ
acc_synthetic = 0x1000

-- ACC_ANNOTATION: of an interface that is an annotation type
abbrev pub acc_annotation : ℕ
acc_annotation = 0x2000

-- ACC_ENUM: an enum type, or a field that holds an element of one
abbrev pub acc_enum : ℕ
acc_enum = 0x4000

-- whether flags have one
abbrev pub has : ℕ → ℕ → Bool
has flags flag = nat_lt 0 (bit_and flags flag)

-- whether ACC_PUBLIC is among the flags
abbrev pub is_public : ℕ → Bool
is_public flags = has flags acc_public

-- whether ACC_PRIVATE is among the flags
abbrev pub is_private : ℕ → Bool
is_private flags = has flags acc_private

-- whether ACC_PROTECTED is among the flags
abbrev pub is_protected : ℕ → Bool
is_protected flags = has flags acc_protected

-- whether ACC_STATIC is among the flags
abbrev pub is_static : ℕ → Bool
is_static flags = has flags acc_static

-- whether ACC_FINAL is among the flags
abbrev pub is_final : ℕ → Bool
is_final flags = has flags acc_final

-- whether ACC_INTERFACE is among the flags
abbrev pub is_interface : ℕ → Bool
is_interface flags = has flags acc_interface

-- whether ACC_ABSTRACT is among the flags
abbrev pub is_abstract : ℕ → Bool
is_abstract flags = has flags acc_abstract
