-- What several packages have together, one package or file more.
use Rattle.std.specs.Prelude.{List, [], ◌∷◌, ◌++◌, ◌||◌, if◌then◌else◌}
use Rattle.cjc_world.specs.ExportFile.declared.tree.ExportTree.{ExportTree}
use Rattle.cjc_world.specs.declared.image.StaticImage.{StaticImage}
use Rattle.cjc_world.specs.Files.{Files}
use Rattle.cjc_jvm_semantics.specs.Group.{is_among, is_of_group}

-- one export file more, where it is of no package of the group and none of these is of its package
abbrev pub with_outside : (group : List Files) → (seen : List ExportTree) → ExportTree → List ExportTree
with_outside group seen t = if is_of_group group t.name || is_among seen t.name then seen else seen ++ t ∷ []

-- what the static cells of one package more hold at first
abbrev pub with_image : StaticImage → StaticImage → StaticImage
with_image joint image = record {
  arrays = joint.arrays ++ image.arrays;
  nulls = joint.nulls ++ image.nulls;
  zeros = joint.zeros ++ image.zeros;
  others = joint.others ++ image.others;
}

-- the export files outside, once these are kept and those follow
abbrev pub kept_by : (group : List Files) → (seen : List ExportTree) → List ExportTree → List ExportTree
kept_by group seen [] = seen
kept_by group seen (t ∷ trees) = kept_by group (with_outside group seen t) trees
