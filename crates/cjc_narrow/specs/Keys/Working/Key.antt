-- Keys as the code compares and hashes them.
use Rattle.std.specs.Prelude.{ℕ, List, [], ◌++◌}
use Rattle.std.specs.Hash as writes
use Rattle.cjc_types.specs.Bytes.declared.fault.MemberId.{MemberId}
use Rattle.cjc_ncode.specs.declared.narrow.PoolKey.{PoolKey}
use Rattle.cjc_ncode.specs.declared.narrow.PoolKey.TheVariants as keys
use Rattle.cjc_narrow.specs.declared.keys.key.Name.{Name}
use Rattle.cjc_narrow.specs.declared.keys.key.Name.TheVariants as names
use Rattle.cjc_narrow.specs.declared.keys.key.Kind.{Kind}
use Rattle.cjc_narrow.specs.declared.keys.key.Kind.TheVariants as kinds

-- the key of names that are lent
abbrev pub key_named : Name → PoolKey
key_named (names.Class class) = keys.Class class.now
key_named (names.Field member) = keys.Field member.now
key_named (names.Virtual member) = keys.Virtual member.now
key_named (names.Super member) = keys.Super member.now
key_named (names.StaticField member) = keys.StaticField member.now
key_named (names.StaticMethod member) = keys.StaticMethod member.now

-- a key as a set has it
abbrev pub key_of : Kind → PoolKey
key_of (kinds.Lent name) = key_named name
key_of (kinds.Kept key) = key

-- the class, the name and the descriptor of a key
abbrev pub member_of : PoolKey → MemberId
member_of (keys.Class c) = record { class = c; name = []; desc = [] }
member_of (keys.Field m) = m
member_of (keys.Virtual m) = m
member_of (keys.Super m) = m
member_of (keys.StaticField m) = m
member_of (keys.StaticMethod m) = m

-- what is fed to a hasher
abbrev pub fed : PoolKey → writes.HashWrites
fed key = let m = member_of key in writes.slice writes.u8 m.class ++ (writes.slice writes.u8 m.name
    ++ writes.slice writes.u8 m.desc)
