use Rattle.std.proofs.Common.{◌≡◌, length, take}
use Rattle.std.specs.List.{flat_map}
use Rattle.cjc_capwrite.specs.Size.{capped}
use Rattle.cjc_capwrite.specs.Package.{imported_package_bytes}
use Rattle.cjc_capwrite.proofs.sizes.packages_size.Given as goal

abbrev pub invariant-loop-imported : goal.invariant-loop-imported
invariant-loop-imported l =
    l.size ≡ capped (length (flat_map imported_package_bytes (take l.imported-index l.packages)))
