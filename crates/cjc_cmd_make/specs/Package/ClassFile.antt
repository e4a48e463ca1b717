-- A class file without interfaces, fields and attributes of its own, whose methods have code without exception
-- table, and its bytes (Java Virtual Machine Specification, chapter 4).
use Rattle.std.specs.Prelude.{ℕ, ◌+◌, ◌%◌, ◌^◌, List, [], ◌∷◌, ◌++◌, length}
use Rattle.std.specs.List.{flat_map}
use Rattle.std.specs.Int.{w16, w32, to_be_bytes}
use Rattle.cjc_cmd_make.specs.declared.package.instruction.Instruction.{Instruction}
use Rattle.cjc_cmd_make.specs.declared.package.instruction.Instruction.TheVariants.{Alone, Followed}
use Rattle.cjc_cmd_make.specs.declared.package.class_file.Method.{Method}
use Rattle.cjc_cmd_make.specs.Package.Code.{CodeAttribute}

-- the low two bytes of a number, the high one first: a u2
abbrev pub two : ℕ → List ℕ
two n = to_be_bytes w16 (n % 2 ^ 16)

-- the low four bytes of a number: a u4
abbrev pub four : ℕ → List ℕ
four n = to_be_bytes w32 (n % 2 ^ 32)

-- an entry of the constant pool (section 4.4); an index of an entry counts from 1
pub data Constant : Type 0 where
  -- CONSTANT_Utf8: a text
  utf8 : List ℕ → Constant
  -- CONSTANT_Class: the index of its name
  class : ℕ → Constant
  -- CONSTANT_Methodref: the indices of its class, and of its name and type
  methodref : ℕ → ℕ → Constant
  -- CONSTANT_NameAndType: the indices of its name and of its descriptor
  name_and_type : ℕ → ℕ → Constant

-- an entry: its tag, and what it says (sections 4.4.1, 4.4.2, 4.4.6 and 4.4.7)
abbrev pub constant_bytes : Constant → List ℕ
constant_bytes (utf8 text) = 1 ∷ [] ++ (two (length text) ++ text)
constant_bytes (class name) = 7 ∷ [] ++ two name
constant_bytes (methodref owner member) = 10 ∷ [] ++ (two owner ++ two member)
constant_bytes (name_and_type name desc) = 12 ∷ [] ++ (two name ++ two desc)

-- an instruction: its opcode, and the two bytes behind it where it has some (chapter 6)
abbrev pub instruction_bytes : Instruction → List ℕ
instruction_bytes (Alone opcode) = opcode ∷ []
instruction_bytes (Followed opcode operand) = opcode ∷ [] ++ two operand

-- a class: its constant pool, flags, the indices of itself and of its superclass, and its methods (section 4.1)
pub record ClassFile : Type 0 where
  pub constants : List Constant
  pub flags : ℕ
  pub this_class : ℕ
  pub super_class : ℕ
  pub methods : List Method

-- the bytes of instructions
abbrev pub code_bytes : List Instruction → List ℕ
code_bytes instructions = flat_map instruction_bytes instructions

-- attribute_name_index, attribute_length, max_stack, max_locals, code_length, code, exception_table_length,
-- attributes_count
unfoldable pub attribute_bytes : CodeAttribute → List ℕ
attribute_bytes c =
    two c.name ++ (four (12 + length (code_bytes c.instructions)) ++ (two c.max_stack ++ (two c.max_locals
    ++ (four (length (code_bytes c.instructions)) ++ (code_bytes c.instructions ++ (two 0 ++ two 0))))))

-- access_flags, name_index, descriptor_index, attributes_count, the attribute
unfoldable pub method_bytes : Method → List ℕ
method_bytes m = two m.flags ++ (two m.name ++ (two m.desc ++ (two 1 ++ attribute_bytes m.code)))

-- magic, minor_version, major_version (Java SE 8), constant_pool_count and the constant pool, access_flags, this_class,
-- super_class, interfaces_count, fields_count, methods_count and the methods, attributes_count
unfoldable pub file_bytes : ClassFile → List ℕ
file_bytes c =
    four 0xCAFEBABE ++ (two 0 ++ (two 52 ++ (two (1 + length c.constants) ++ (flat_map constant_bytes c.constants
    ++ (two c.flags ++ (two c.this_class ++ (two c.super_class ++ (two 0 ++ (two 0
    ++ (two (length c.methods) ++ (flat_map method_bytes c.methods ++ two 0)))))))))))
