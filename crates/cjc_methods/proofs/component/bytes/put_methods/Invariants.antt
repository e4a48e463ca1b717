use Rattle.std.proofs.Common.{◌≡◌, ◌++◌, drop, map}
use Rattle.std.specs.List.{flat_map}
use Rattle.cjc_pool.specs.NCode.Lowering.Package.{all_bytes}
use Rattle.cjc_components.specs.Components.{places_in}
use Rattle.cjc_components.specs.Methods.{placed_methods}
use Rattle.cjc_components.specs.Names.{names}
use Rattle.cjc_components.specs.Package.{Package}
use Rattle.cjc_methods.specs.Layouts.Laid.{laid_methods}
use Rattle.cjc_methods.specs.Component.Emittable.{AreEmittable}
use Rattle.cjc_methods.proofs.component.bytes.put_methods.Given as goal

abbrev pub invariant-loop-k : goal.invariant-loop-k
invariant-loop-k l = record {
  bytes : (p : Package) → p.methods ≡ laid_methods l.methods → l.offsets ≡ map (λ q. q.offset) (placed_methods p)
      → AreEmittable p l.pool → l.out ++ all_bytes (names p) (drop l.k (placed_methods p)) ≡ l.fn.out
      ++ all_bytes (names p) (placed_methods p);
  ones : (p : Package) → p.methods ≡ laid_methods l.methods → l.offsets ≡ map (λ q. q.offset) (placed_methods p)
      → AreEmittable p l.pool → l.ones ++ flat_map (places_in p 1) (drop l.k (placed_methods p)) ≡ l.fn.ones
      ++ flat_map (places_in p 1) (placed_methods p);
  twos : (p : Package) → p.methods ≡ laid_methods l.methods → l.offsets ≡ map (λ q. q.offset) (placed_methods p)
      → AreEmittable p l.pool → l.twos ++ flat_map (places_in p 2) (drop l.k (placed_methods p)) ≡ l.fn.twos
      ++ flat_map (places_in p 2) (placed_methods p);
}
