use Rattle.std.proofs.Common.{◌≡◌, ◌++◌, drop, map}
use Rattle.cjc_pool.specs.NCode.Lowering.Package.{all_handlers}
use Rattle.cjc_components.specs.Methods.{placed_methods}
use Rattle.cjc_components.specs.Names.{names}
use Rattle.cjc_components.specs.Package.{Package}
use Rattle.cjc_methods.specs.Layouts.Laid.{laid_methods}
use Rattle.cjc_methods.specs.Component.Emittable.{AreEmittable}
use Rattle.cjc_methods.proofs.component.handlers.all_handlers.Given as goal

abbrev pub invariant-loop-k : goal.invariant-loop-k
invariant-loop-k l = (p : Package) → p.methods ≡ laid_methods l.methods
    → l.offsets ≡ map (λ q. q.offset) (placed_methods p) → AreEmittable p l.pool
    → l.out ++ all_handlers (names p) (drop l.k (placed_methods p)) ≡ all_handlers (names p) (placed_methods p)
