use Rattle.std.proofs.Common.{◌≡◌, ◌++◌, take}
use Rattle.std.specs.List.{flat_map}
use Rattle.cjc_capwrite.specs.Package.{imported_package_bytes}
use Rattle.cjc_capwrite.proofs.package.put_packages.Given as goal

abbrev pub invariant-loop-imported : goal.invariant-loop-imported
invariant-loop-imported l = l.out ≡ l.fn.out ++ flat_map imported_package_bytes (take l.imported-index l.packages)
