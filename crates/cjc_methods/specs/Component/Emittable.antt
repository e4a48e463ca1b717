-- Methods of a package that can be emitted by its pool.
use Rattle.std.specs.Prelude.{◌≡◌, ℕ, slice_get, Some}
use Rattle.cjc_pool.specs.Emit.Emitted.{IsEmittable}
use Rattle.cjc_pool.specs.Pool.{PoolView, token_in}
use Rattle.cjc_components.specs.Package.{LaidMethod, Package}
use Rattle.cjc_components.specs.Package as packages
use Rattle.cjc_components.specs.Names.{names}

-- The pool has the package's keys in their order, and what each of its methods names.
pub record AreEmittable (p : Package) (pool : PoolView) : Type 0 where
  pub keys : pool.keys ≡ packages.pool p
  pub each : (k : ℕ) (m : LaidMethod) → slice_get p.methods k ≡ Some m → IsEmittable pool.keys (token_in pool) (names p)
      m.code m.wide
