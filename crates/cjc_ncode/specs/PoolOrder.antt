-- The keys of the constant pool in its order: the class of any exception where a handler with a catch type is written,
-- then instance fields, then all others, each once where it is seen first.
use Rattle.std.specs.Prelude.{ℕ, List, [], ◌∷◌, ◌++◌, flat_map, filter, Option, Some, None, Bool, true, false, not}
use Rattle.std.specs.Prelude.{◌&&◌, if◌then◌else◌, codes}
use Rattle.std.specs.List.{list_any}
use Rattle.std.specs.Str.{bytes_eq}
use Rattle.cjc_code.specs.Bytes.declared.fault.MemberId.{MemberId}
use Rattle.cjc_ncode.specs.declared.narrow.NInsn.{NInsn}
use Rattle.cjc_ncode.specs.declared.narrow.NInsn.TheVariants as insns
use Rattle.cjc_ncode.specs.declared.narrow.NMethod.{NMethod}
use Rattle.cjc_ncode.specs.declared.narrow.PoolKey.{PoolKey}
use Rattle.cjc_ncode.specs.declared.narrow.PoolKey.TheVariants as keys

-- the same class, name and descriptor
abbrev pub same_member : MemberId → MemberId → Bool
same_member a b = bytes_eq a.class b.class && (bytes_eq a.name b.name && bytes_eq a.desc b.desc)

-- the same kind and name
abbrev pub same_key : PoolKey → PoolKey → Bool
same_key (keys.Class a) (keys.Class b) = bytes_eq a b
same_key (keys.Field a) (keys.Field b) = same_member a b
same_key (keys.Virtual a) (keys.Virtual b) = same_member a b
same_key (keys.Super a) (keys.Super b) = same_member a b
same_key (keys.StaticField a) (keys.StaticField b) = same_member a b
same_key (keys.StaticMethod a) (keys.StaticMethod b) = same_member a b
same_key a b = false

-- the key of a class that is named
abbrev pub class_key : Option (List ℕ) → List PoolKey
class_key None = []
class_key (Some name) = keys.Class name ∷ []

-- what an instruction names
abbrev pub insn_keys : NInsn → List PoolKey
insn_keys (insns.Named op key) = key ∷ []
insn_keys (insns.Interface nargs method) = keys.Class method.class ∷ []
insn_keys (insns.TypeTest op kind class) = class_key class
insn_keys insn = []

-- of a method first its operands and then its catch types
abbrev pub method_keys : NMethod → List PoolKey
method_keys m = flat_map insn_keys m.insns ++ flat_map (λ c. class_key c.class) m.catches

-- there is a catch type
abbrev pub is_some : Option (List ℕ) → Bool
is_some None = false
is_some (Some name) = true

-- some handler has a catch type
abbrev pub has_catch_type : NMethod → Bool
has_catch_type m = list_any (λ c. is_some c.class) m.catches

-- an instance field
abbrev pub is_field : PoolKey → Bool
is_field (keys.Field f) = true
is_field key = false

-- each once, where it stands first
abbrev pub once : (seen rest : List PoolKey) → List PoolKey
once seen [] = []
once seen (k ∷ rest) = if list_any (same_key k) seen then once seen rest else k ∷ once (k ∷ seen) rest

-- entry 0 where some handler has a catch type
abbrev pub any_exception : List NMethod → List PoolKey
any_exception methods = if list_any has_catch_type methods then keys.Class (codes "java/lang/Object") ∷ [] else []

-- The keys of the pool that these methods need, in its order.
abbrev pub pool_order : List NMethod → List PoolKey
pool_order methods =
    let seen = flat_map method_keys methods in
    once [] (any_exception methods ++ filter is_field seen ++ filter (λ k. not (is_field k)) seen)
