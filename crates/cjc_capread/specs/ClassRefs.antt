-- When references to classes are the same.
use Rattle.std.specs.Prelude.{ℕ, Bool, false, ◌==◌, ◌&&◌}
use Rattle.cjc_capread.specs.declared.tree.ClassRef.{ClassRef}
use Rattle.cjc_capread.specs.declared.tree.ClassRef.TheVariants.{Inside, Outside}

-- of this package, at this offset
abbrev pub is_inside : ClassRef → ℕ → Bool
is_inside (Inside o) offset = o == offset
is_inside (Outside imported class) offset = false

-- whether both name one class: the same offset in this package, or the same class token of the same imported package
abbrev pub same_class : ClassRef → ClassRef → Bool
same_class (Inside a) (Inside b) = a == b
same_class (Outside p a) (Outside q b) = p == q && a == b
same_class _ _ = false
