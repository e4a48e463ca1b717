-- Packages whose methods are those of their classes.
use Rattle.std.specs.Prelude.{◌≡◌, map}
use Rattle.cjc_world.specs.Order.{method_order}
use Rattle.cjc_components.specs.Package.{Package, world}

-- the methods of Method are those of the package's classes, in their order
abbrev pub HasMethods : Package → Type 0
HasMethods p = map (λ m. m.member) p.methods ≡ method_order (world p)
