-- Groups of one package or of several, with export files; those of one package stand in the order of Import.
use Rattle.std.specs.Prelude.{ℕ, zero, suc, ◌+◌, List, [], ◌∷◌, length, map}
use Rattle.cjc_card_semantics.specs.ExportFile.declared.tree.ExportTree.{ExportTree}
use Rattle.cjc_card_semantics.specs.Machine.Loaded.{Import, OfFile, OfGroup, Part, Loaded}
use Rattle.cjc_card_frame.specs.Kinds.{cell_name_of}
use Rattle.cjc_card_link.specs.declared.part.GroupPart.{GroupPart}
use Rattle.cjc_card_link.specs.declared.part.Import.{Import as ImportData}
use Rattle.cjc_card_link.specs.declared.part.Import.TheVariants as imports
use Rattle.cjc_card_link.specs.declared.part.Part.{Part as PartData}
use Rattle.cjc_card_link.specs.Names.{class_names_of}

-- so many export files by their numbers, from one on
abbrev pub files_from : (number count : ℕ) → List Import
files_from k zero = []
files_from k (suc n) = OfFile k ∷ files_from (k + 1) n

-- what a package imports, as code tells it
abbrev pub import_of : ImportData → Import
import_of (imports.OfGroup part) = OfGroup part
import_of (imports.OfFile tree) = OfFile tree

-- the components of a package with its imports
abbrev pub part_with : List Import → PartData → Part
part_with imports p = record {
  method = p.method.now;
  pool = p.pool.now;
  class = p.class.now;
  descriptor = p.descriptor.now;
  exports = p.exports.now;
  statics = p.statics.now;
  imports = imports;
  classes = map class_names_of p.classes.now;
  cells = map cell_name_of p.cells.now;
}

-- those of a package that imports so many others, all outside
abbrev pub part_of : (imports : ℕ) → PartData → Part
part_of n p = part_with (files_from 0 n) p

-- one package by itself
abbrev pub alone : PartData → List ExportTree → Loaded
alone p trees = record { parts = part_of (length trees) p ∷ []; trees = trees }

-- a package of a group
abbrev pub group_part : GroupPart → Part
group_part p = part_with (map import_of p.imports) p.part

-- several packages, with the export files of what is outside
abbrev pub group_of : List GroupPart → List ExportTree → Loaded
group_of parts trees = record { parts = map group_part parts; trees = trees }
