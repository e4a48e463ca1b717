-- The narrow code of a method of a package, and of all its methods, by which instructions their least tables reach.
use Rattle.std.specs.Prelude.{Bool, List, [], ◌∷◌, ◌++◌, take, Option}
use Rattle.cjc_types.specs.Bytes.declared.fault.MemberId.{MemberId}
use Rattle.cjc_types.specs.ClassFile.Code.{CodeTree}
use Rattle.cjc_types.specs.ClassFile.declared.tree.ClassTree.{ClassTree}
use Rattle.cjc_types.specs.ClassFile.declared.tree.MethodTree.{MethodTree}
use Rattle.cjc_types.specs.Bytecode.declared.insn.JInsn.{JInsn}
use Rattle.cjc_types.specs.Flow.{body_of}
use Rattle.cjc_types.specs.World.Files.{Files}
use Rattle.cjc_ncode.specs.declared.narrow.NMethod.{NMethod}
use Rattle.cjc_ncode.specs.declared.narrow.PoolKey.{PoolKey}
use Rattle.cjc_ncode.specs.declared.narrow.PoolKey.TheVariants as keys
use Rattle.cjc_ncode.specs.Written.{Resolution, narrow_method}
use Rattle.cjc_narrow.specs.Pairs.Roles.{with_pairs}
use Rattle.cjc_narrow.specs.Rows.Resolved.{resolution, argument_words}
use Rattle.cjc_narrow.specs.Written.Rows.{has_rows}

-- what its names stand for, and the roles of its instructions
abbrev pub paired : Files → (near : List MemberId) → ClassTree → MethodTree → CodeTree → List JInsn
    → (reached : List Bool)
    → Resolution
paired files near class method tree insns reached = with_pairs (resolution files near class.name)
    (body_of class method tree insns) reached

-- The narrow method of a method of a class: its names stand for what the files say, and its instructions are those that
-- have a row, each pair of an aload_0 and a field instruction of its own object written as one.
abbrev pub selected_code : {A : Type 0} → Files → (near : List MemberId) → ClassTree → MethodTree → CodeTree
    → List JInsn → List (Option A) → NMethod
selected_code files near class method tree insns rows =
    narrow_method (paired files near class method tree insns (has_rows rows)) tree
    (argument_words method.flags method.desc) insns rows

-- ---- fields with an index of one byte

-- an instance field that a key names
abbrev pub field_of_key : PoolKey → List MemberId
field_of_key (keys.Field f) = f ∷ []
field_of_key key = []

-- those of some keys
abbrev pub fields_of_keys : List PoolKey → List MemberId
fields_of_keys [] = []
fields_of_keys (key ∷ rest) = field_of_key key ++ fields_of_keys rest

-- The instance fields whose keys stand at an index of at most 255 in the order of a pool.
abbrev pub near_fields : List PoolKey → List MemberId
near_fields pool = fields_of_keys (take 256 pool)
