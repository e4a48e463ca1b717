-- What is written of one method after the other.
use Rattle.std.specs.Prelude.{◌≡◌, ℕ, List, position, unwrap_or, Bool, if◌then◌else◌}
use Rattle.cjc_pool.specs.NCode.declared.narrow.PoolKey.{PoolKey}
use Rattle.cjc_pool.specs.NCode.PoolOrder.{same_key}
use Rattle.cjc_pool.specs.NCode.Lowering.Naming.{Naming}
use Rattle.cjc_components.specs.Methods.{with_abstract}

-- the index of each key is its place among these, 0 of others
abbrev pub IsIndexed : List PoolKey → Naming → Type 0
IsIndexed ks n = (key : PoolKey) → n.index key ≡ unwrap_or (position (same_key key) ks) 0

-- the bytes of a method, with ACC_ABSTRACT where it is a header alone
abbrev pub flagged : (is_abstract : Bool) → List ℕ → List ℕ
flagged is_abstract bytes = if is_abstract then with_abstract bytes else bytes
