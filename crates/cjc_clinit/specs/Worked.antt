-- A class, its initialisers, and what they put.
use Rattle.std.specs.Prelude.{ℕ, ◌+◌, List, [], ◌∷◌, ◌++◌, Option, Some, None, true, ℤ, pos, codes}
use Rattle.cjc_bytes.specs.declared.fault.MemberId.{MemberId}
use Rattle.cjc_bytes.specs.declared.descriptor.Kind.TheVariants as kinds
use Rattle.cjc_subset.specs.LowerClassFile.declared.tree.ClassTree.{ClassTree}
use Rattle.cjc_subset.specs.LowerClassFile.declared.tree.FieldTree.{FieldTree}
use Rattle.cjc_subset.specs.LowerBytecode.declared.insn.JInsn.{JInsn}
use Rattle.cjc_subset.specs.LowerBytecode.declared.insn.JOp.{JOp}
use Rattle.cjc_subset.specs.LowerBytecode.declared.insn.JOp.TheVariants as jop
use Rattle.cjc_subset.specs.LowerBytecode.declared.method_code.MethodCode.{MethodCode}
use Rattle.cjc_subset.specs.LowerWorld.declared.image.StaticImage.{StaticImage}
use Rattle.cjc_subset.specs.LowerWorld.Files.{Files}
use Rattle.cjc_clinit.specs.declared.stage.Held.{Held}
use Rattle.cjc_clinit.specs.declared.stage.Held.TheVariants as held
use Rattle.cjc_clinit.specs.Initialiser.{IsInitialiser, IsWrongAt}
use Rattle.cjc_clinit.specs.Image.{IsImage}

-- a field of p/T
abbrev pub id : (name desc : List ℕ) → MemberId
id name desc = record { class = codes "p/T"; name = name; desc = desc }

-- a field of a class file, with the number of its ConstantValue where it has one
abbrev pub field : (flags : ℕ) → (name desc : List ℕ) → Option ℤ → FieldTree
field flags name desc value = record { flags = flags; name = name; desc = desc; constant = value }

-- static byte[] t; static Object o; static boolean z; static short s; static final short c = 9; static short v = 5
abbrev pub fields : List FieldTree
fields =
    field 8 (codes "t") (codes "[B") None
    ∷ field 8 (codes "o") (codes "Ljava/lang/Object;") None
    ∷ field 8 (codes "z") (codes "Z") None
    ∷ field 8 (codes "s") (codes "S") None
    ∷ field 0x18 (codes "c") (codes "S") (Some (pos 9))
    ∷ field 8 (codes "v") (codes "S") (Some (pos 5))
    ∷ []

-- a class with these fields and an initialiser
abbrev pub class_t : ClassTree
class_t = record {
  major = 52;
  flags = 0x21;
  name = codes "p/T";
  superclass = codes "java/lang/Object";
  interfaces = [];
  pool = [];
  fields = fields;
  methods = record { flags = 8; name = codes "<clinit>"; desc = codes "()V"; code = None } ∷ [];
}

-- the package
abbrev pub files : Files
files = record {
  package_name = codes "p";
  lines = record { class_file = true; name = codes "T.class" } ∷ [];
  classes = class_t ∷ [];
  exports = [];
}

-- instructions, each of which is told by its number in place of its offset
abbrev pub numbered : ℕ → List JOp → List JInsn
numbered n [] = []
numbered n (op ∷ ops) = record { at = n; op = op } ∷ numbered (n + 1) ops

-- the initialiser of these instructions
abbrev pub initialiser : List JOp → List MethodCode
initialiser ops = record { class = 0; method = 0; insns = numbered 0 ops } ∷ []

-- the instructions are an initialiser
abbrev pub IsRight : List JOp → Type 0
IsRight ops = IsInitialiser files 0 class_t (numbered 0 ops)

-- the number of the first instruction with which these are no initialiser
abbrev pub IsWrong : List JOp → (number : ℕ) → Type 0
IsWrong ops number = IsWrongAt files 0 class_t (numbered 0 ops) number

-- the image after this initialiser
abbrev pub IsImageAfter : List JOp → StaticImage → Type 0
IsImageAfter ops image = IsImage files (initialiser ops) image

-- ---- instructions

-- an instruction that puts a number on the stack
abbrev pub number : ℕ → JOp
number n = jop.Number (pos n)

-- putstatic of a field of p/T
abbrev pub put : (name desc : List ℕ) → JOp
put name desc = jop.Static true (id name desc)

-- the return of a method without result
abbrev pub return : JOp
return = jop.Return 0xB1

-- a new array of so many bytes
abbrev pub new_bytes : ℕ → List JOp
new_bytes n = number n ∷ jop.NewArray 8 ∷ []

-- a byte into the array
abbrev pub byte_at : (index value : ℕ) → List JOp
byte_at i z = jop.Stack 0x59 ∷ number i ∷ number z ∷ jop.ArrayStore 0x54 ∷ []

-- t = {1, 2, 3}; o = null; s = 7
abbrev pub statements : List JOp
statements = new_bytes 3 ++ byte_at 0 1 ++ byte_at 1 2 ++ byte_at 2 3 ++ (put (codes "t") (codes "[B") ∷ jop.Null
    ∷ put (codes "o") (codes "Ljava/lang/Object;") ∷ number 7 ∷ put (codes "s") (codes "S") ∷ return ∷ [])

-- what it leaves
abbrev pub statements_image : StaticImage
statements_image = record {
  arrays = record { field = id (codes "t") (codes "[B"); kind = kinds.Byte; items = pos 1 ∷ pos 2 ∷ pos 3 ∷ [] } ∷ [];
  nulls = id (codes "o") (codes "Ljava/lang/Object;") ∷ [];
  zeros = id (codes "z") (codes "Z") ∷ [];
  others = record { field = id (codes "s") (codes "S"); value = pos 7 } ∷ record {
    field = id (codes "v") (codes "S");
    value = pos 5;
  } ∷ [];
}

-- what the fields hold then
abbrev pub statements_held : List Held
statements_held = held.Array ∷ held.Null ∷ held.Nothing ∷ held.Number (pos 7) ∷ held.Nothing ∷ held.Nothing ∷ []

-- v = 0
abbrev pub replaced_image : StaticImage
replaced_image = record {
  arrays = [];
  nulls = id (codes "t") (codes "[B") ∷ id (codes "o") (codes "Ljava/lang/Object;") ∷ [];
  zeros = id (codes "z") (codes "Z") ∷ id (codes "s") (codes "S") ∷ id (codes "v") (codes "S") ∷ [];
  others = [];
}

-- what the fields hold after it
abbrev pub replaced_held : List Held
replaced_held = held.Nothing ∷ held.Nothing ∷ held.Nothing ∷ held.Nothing ∷ held.Nothing ∷ held.Number (pos 0) ∷ []
