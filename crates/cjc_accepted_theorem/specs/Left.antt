-- What is left to show of the entries of a converted package's pool.
use Rattle.std.specs.Prelude.{◌≡◌, ℕ, List, Some, slice_get, true}
use Rattle.std.specs.List.{AllByRecursion}
use Rattle.cjc_verified_proof.specs.Components.Names.{names}
use Rattle.cjc_verified_proof.specs.Components.Package.{Package, pool, world}
use Rattle.cjc_verified_proof.specs.Components.Types.{desc_of_key}
use Rattle.cjc_verified_proof.specs.NCode.Lowering.Naming.{entry_of}
use Rattle.cjc_verified_proof.specs.NCode.declared.narrow.PoolKey.{PoolKey}
use Rattle.cjc_verified_proof.specs.NCode.declared.narrow.PoolKey.TheVariants as keys
use Rattle.cjc_verified_proof.specs.Verify.Named.{named_desc}
use Rattle.cjc_verified_proof.specs.World.Classes.{Class, class_named}
use Rattle.cjc_accepted_proof.specs.Written.{written_pair}

-- the entry of a key names a member of the key's descriptor
abbrev pub NamesItsDesc : Package → PoolKey → Type 0
NamesItsDesc p key = AllByRecursion (λ (desc : List ℕ). named_desc (written_pair p) (entry_of (names p) key)
    ≡ Some desc) (desc_of_key key)

-- An instance field, a virtual method, one of a superclass, or a static method, constructor or private method of an
-- imported class.
abbrev pub IsLeft : Package → PoolKey → Type 0
IsLeft p (keys.Class c) = ⊥
IsLeft p (keys.Field f) = Unit {0}
IsLeft p (keys.Virtual m) = Unit {0}
IsLeft p (keys.Super m) = Unit {0}
IsLeft p (keys.StaticField f) = ⊥
IsLeft p (keys.StaticMethod m) = (c : Class) × (class_named (world p) m.class ≡ Some c) × (c.is_imported ≡ true)

-- The entries of these name members of their keys' descriptors.
abbrev pub OthersAreNamed : Package → Type 0
OthersAreNamed p = (k : ℕ) (key : PoolKey) → slice_get (pool p) k ≡ Some key → IsLeft p key → NamesItsDesc p key
