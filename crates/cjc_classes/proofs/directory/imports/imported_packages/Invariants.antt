use Rattle.std.proofs.Common.{◌≡◌, take, map}
use Rattle.cjc_components.specs.Components.{imported_package}
use Rattle.cjc_classes.proofs.directory.imports.imported_packages.Given as goal

abbrev pub invariant-loop-tree : goal.invariant-loop-tree
invariant-loop-tree l = l.packages ≡ map imported_package (take l.tree-index l.exports)
