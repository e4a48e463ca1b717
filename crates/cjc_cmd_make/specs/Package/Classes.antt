-- The classes that are made, each as the items of its file.
use Rattle.std.specs.Prelude.{ℕ, ◌+◌, ◌-◌, ◌%◌, ◌==◌, if◌then◌else◌, List, [], ◌∷◌, ◌++◌, codes, decimal}
use Rattle.cjc_cmd_card.specs.Bytes.AccessFlags.{acc_public, acc_static, acc_super}
use Rattle.cjc_cmd_card.specs.Bytecode.Jvm as jvm
use Rattle.cjc_cmd_make.specs.declared.package.instruction.Instruction.{Instruction}
use Rattle.cjc_cmd_make.specs.declared.package.instruction.Instruction.TheVariants.{Alone, Followed}
use Rattle.cjc_cmd_make.specs.declared.package.class_file.Method.{Method}
use Rattle.cjc_cmd_make.specs.Package.ClassFile.{Constant, utf8, class, methodref, name_and_type, ClassFile, file_bytes}
use Rattle.cjc_cmd_make.specs.Package.Numbers.{addend, mask}

-- class i is Ci of package gen/p
abbrev pub class_name : ℕ → List ℕ
class_name i = codes "gen/p/C" ++ decimal i

-- the superclass is the class before it; every fourth class, the first among them, has java/lang/Object
abbrev pub superclass_name : ℕ → List ℕ
superclass_name i = if i % 4 == 0 then codes "java/lang/Object" else class_name (i - 1)

-- ---- instructions (Java Virtual Machine Specification, chapter 6)

-- push local variable 0, a reference
abbrev pub aload_0 : Instruction
aload_0 = Alone jvm.aload_0

-- push local variable 0, a number
abbrev pub iload_0 : Instruction
iload_0 = Alone jvm.iload_0

-- push local variable 1, a number
abbrev pub iload_1 : Instruction
iload_1 = Alone jvm.iload_1

-- push a number of 16 bits
abbrev pub sipush : ℕ → Instruction
sipush n = Followed jvm.sipush n

-- add two numbers
abbrev pub iadd : Instruction
iadd = Alone jvm.iadd

-- exclusive or of two numbers
abbrev pub ixor : Instruction
ixor = Alone jvm.ixor

-- cut a number to 16 bits
abbrev pub i2s : Instruction
i2s = Alone jvm.i2s

-- end with a number as the result
abbrev pub ireturn : Instruction
ireturn = Alone jvm.ireturn

-- end without result
abbrev pub return_void : Instruction
return_void = Alone jvm.return

-- make an object of the class at an index
abbrev pub new_object : ℕ → Instruction
new_object c = Followed jvm.new c

-- push the top of the stack once more
abbrev pub dup : Instruction
dup = Alone jvm.dup

-- call the constructor at an index
abbrev pub invokespecial : ℕ → Instruction
invokespecial m = Followed jvm.invokespecial m

-- call the virtual method at an index
abbrev pub invokevirtual : ℕ → Instruction
invokevirtual m = Followed jvm.invokevirtual m

-- ---- the class

-- The constant pool. Each constant stands once, in the order in which the items behind the pool first need it, and
-- behind
-- the constants that it names.
abbrev pub constants : (name superclass : List ℕ) → List Constant
constants name superclass =
    utf8 name  -- 1
    ∷ class 1  -- 2: the class
    ∷ utf8 superclass  -- 3
    ∷ class 3  -- 4: its superclass
    ∷ utf8 (codes "<init>")  -- 5
    ∷ utf8 (codes "()V")  -- 6
    ∷ utf8 (codes "Code")  -- 7
    ∷ name_and_type 5 6  -- 8
    ∷ methodref 4 8  -- 9: the superclass's constructor
    ∷ utf8 (codes "m")  -- 10
    ∷ utf8 (codes "(S)S")  -- 11
    ∷ utf8 (codes "f")  -- 12
    ∷ methodref 2 8  -- 13: the constructor
    ∷ name_and_type 10 11  -- 14
    ∷ methodref 2 14  -- 15: m
    ∷ []

-- the public constructor, which calls the superclass's
abbrev pub constructor : Method
constructor = record {
  flags = acc_public;
  name = 5;
  desc = 6;
  code = record {
    name = 7;
    max_stack = 1;
    max_locals = 1;
    instructions = aload_0 ∷ invokespecial 9 ∷ return_void
        ∷ [];
  };
}

-- the public `m(S)S`, which adds and combines numbers of the class
abbrev pub mixes : (addend mask : ℕ) → Method
mixes addend mask = record {
  flags = acc_public;
  name = 10;
  desc = 11;
  code = record {
    name = 7;
    max_stack = 2;
    max_locals = 2;
    instructions = iload_1 ∷ sipush addend ∷ iadd ∷ i2s
        ∷ sipush mask ∷ ixor ∷ i2s ∷ ireturn ∷ [];
  };
}

-- the public static `f(S)S`, which calls m of a new object
abbrev pub calls : Method
calls = record {
  flags = acc_public + acc_static;
  name = 12;
  desc = 11;
  code = record {
    name = 7;
    max_stack = 2;
    max_locals = 1;
    instructions = new_object 2 ∷ dup ∷ invokespecial 13
        ∷ iload_0 ∷ invokevirtual 15 ∷ ireturn ∷ [];
  };
}

-- a class of these names, whose m uses these numbers
abbrev pub class_named : (name superclass : List ℕ) (addend mask : ℕ) → ClassFile
class_named name superclass addend mask = record {
  constants = constants name superclass;
  flags = acc_public + acc_super;
  this_class = 2;
  super_class = 4;
  methods = constructor ∷ mixes addend mask ∷ calls ∷ [];
}

-- class i, whose m uses these numbers
abbrev pub class_with : (i addend mask : ℕ) → ClassFile
class_with i addend mask = class_named (class_name i) (superclass_name i) addend mask

-- the file of class i of a package made from a number
abbrev pub class_file : (given i : ℕ) → List ℕ
class_file given i = file_bytes (class_with i (addend given i) (mask given i))
