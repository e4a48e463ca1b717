-- The trees of the classes that are made (Java Virtual Machine Specification, chapter 4).
use Rattle.std.specs.Prelude.{ℕ, ◌%◌, ◌^◌, List, [], ◌∷◌, ◌++◌, Some, codes}
use Rattle.std.specs.Int.{w16, to_be_bytes}
use Rattle.cjc_cmd_card.specs.Bytes.declared.fault.MemberId.{MemberId}
use Rattle.cjc_cmd_card.specs.ClassFile.declared.tree.ClassTree.{ClassTree}
use Rattle.cjc_cmd_card.specs.ClassFile.declared.tree.MethodTree.{MethodTree}
use Rattle.cjc_cmd_card.specs.ClassFile.PoolItem.{PoolItem, Class, Method, Other}

-- a method by its class, name and descriptor
abbrev pub member : (class name desc : List ℕ) → MemberId
member class name desc = record { class = class; name = name; desc = desc }

-- a method with flags and code, and no handler
abbrev pub method : (flags : ℕ) (name desc : List ℕ) (max_stack max_locals : ℕ) → List ℕ → MethodTree
method flags name desc max_stack max_locals bytes = record {
  flags = flags;
  name = name;
  desc = desc;
  code = Some (record { max_stack = max_stack; max_locals = max_locals; bytes = bytes; catches = [] });
}

-- a number in two bytes
abbrev pub two : ℕ → List ℕ
two n = to_be_bytes w16 (n % 2 ^ 16)

-- the methods: the constructor calls that of the superclass; m adds a and combines with b; f calls m of a new object
abbrev pub methods : (a b : ℕ) → List MethodTree
methods a b =
    method 0x0001 (codes "<init>") (codes "()V") 1 1 (0x2A ∷ 0xB7 ∷ 0 ∷ 9 ∷ 0xB1 ∷ [])
    ∷ method 0x0001 (codes "m") (codes "(S)S") 2 2 (0x1B ∷ 0x11 ∷ [] ++ two a ++ 0x60 ∷ 0x93 ∷ 0x11 ∷ [] ++ two b
    ++ 0x82 ∷ 0x93 ∷ 0xAC ∷ [])
    ∷ method 0x0009 (codes "f") (codes "(S)S") 2 1 (0xBB ∷ 0 ∷ 2 ∷ 0x59 ∷ 0xB7 ∷ 0 ∷ 13 ∷ 0x1A ∷ 0xB6 ∷ 0 ∷ 15 ∷ 0xAC
    ∷ [])
    ∷ []

-- what the entries of the constant pool mean to code, by their indices from 0: the class at 2, its superclass at 4, the
-- constructors that are called at 9 and 13, m at 15
abbrev pub pool : (name superclass : List ℕ) → List PoolItem
pool name superclass =
    Other ∷ Other ∷ Class name ∷ Other ∷ Class superclass ∷ Other ∷ Other ∷ Other ∷ Other
    ∷ Method (member superclass (codes "<init>") (codes "()V"))
    ∷ Other ∷ Other ∷ Other
    ∷ Method (member name (codes "<init>") (codes "()V"))
    ∷ Other
    ∷ Method (member name (codes "m") (codes "(S)S"))
    ∷ []

-- a class of these names and numbers
abbrev pub class_tree : (name superclass : List ℕ) (a b : ℕ) → ClassTree
class_tree name superclass a b = record {
  major = 52;
  flags = 0x0021;
  name = name;
  superclass = superclass;
  interfaces = [];
  pool = pool name superclass;
  fields = [];
  methods = methods a b;
}
