-- What the keys of a pool name, calls of virtual methods and of those of superclasses as code names them.
use Rattle.std.specs.List.{AllByRecursion}
use Rattle.cjc_bytes.specs.declared.fault.MemberId.{MemberId}
use Rattle.cjc_ncode.specs.ByLabel.{OnObject, OnSuper}
use Rattle.cjc_ncode.specs.declared.narrow.PoolKey.{PoolKey}
use Rattle.cjc_ncode.specs.declared.narrow.PoolKey.TheVariants as keys
use Rattle.cjc_components.specs.Package.{Package, pool, world}
use Rattle.cjc_check_proof.specs.Code.Members.{IsNamed as NamesMember}
use Rattle.cjc_token_proof.specs.WrittenCalls.Calls.{IsNamed}

-- A key names what a call names, or a class or member that is there.
pub data IsThere (p : Package) : PoolKey → Type 0 where
  called : {m : MemberId} → IsNamed (world p) (OnObject m) → IsThere p (keys.Virtual m)
  called_above : {m : MemberId} → IsNamed (world p) (OnSuper m) → IsThere p (keys.Super m)
  member : {key : PoolKey} → NamesMember p key → IsThere p key

-- so it is with all keys of the pool
abbrev pub AllAreThere : Package → Type 0
AllAreThere p = AllByRecursion (IsThere p) (pool p)
