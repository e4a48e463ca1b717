-- A package of which the list and the files alone count. The export file says nothing else of it.
use Rattle.std.specs.Prelude.{[]}
use Rattle.cjc_components.specs.LowerList.Listed.{ListTree}
use Rattle.cjc_world.specs.Files.{Files}
use Rattle.cjc_components.specs.Package.{Package}

-- a list and files as a package with an empty static field image and no methods
abbrev pub plain : ListTree → Files → Package
plain list files = record {
  list = list;
  files = files;
  image = record { arrays = []; nulls = []; zeros = []; others = [] };
  methods = [];
}
