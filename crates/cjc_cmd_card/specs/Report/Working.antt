-- The components that are run, as they are kept.
use Rattle.std.specs.Prelude.{◌≡◌, ◌⊎◌, List, [], ◌∷◌, length, map, Some}
use Rattle.cjc_cmd_check.specs.Bytes.Breaks.{IsFirstRefusal}
use Rattle.cjc_cmd_check.specs.Bytes.declared.fault.Fault.{Fault}
use Rattle.cjc_cmd_check.specs.Bytes.declared.fault.Fault.TheVariants as faults
use Rattle.cjc_pairing.specs.CardSemantics.Machine.Loaded.{Loaded}
use Rattle.cjc_card.specs.CardLink.Group.{files_from}
use Rattle.cjc_card.specs.CardLink.Names.{class_names_of}
use Rattle.cjc_card.specs.CardLink.declared.names.ClassNames.{ClassNames}
use Rattle.cjc_pairing.specs.CardFrame.Kinds.{cell_name_of}
use Rattle.cjc_pairing.specs.CardFrame.declared.parts.kinds.CellName.{CellName}
use Rattle.cjc_cmd_card.specs.declared.running.ready.Ready.{Ready}
use Rattle.cjc_pairing.specs.Clinit.Image.{IsImage}
use Rattle.cjc_pairing.specs.ExportFile.declared.tree.ExportTree.{ExportTree}
use Rattle.cjc_shape.specs.Components.Paired.Naming.{exported_in}
use Rattle.cjc_shape.specs.Components.Paired.Pairs.{pair_breaks}
use Rattle.cjc_pairing.specs.CheckRules.Complete.{Complete, complete}
use Rattle.cjc_pairing.specs.World.declared.image.StaticImage.{StaticImage}

-- components with names, alone with the export files that they import
abbrev pub alone_with : Complete → List ClassNames → List CellName → List ExportTree → Loaded
alone_with c classes cells trees =
    let pool = c.pool in
    let descriptor = c.descriptor in
    record {
      parts = record {
        method = c.method;
        pool = pool.entries;
        class = c.class;
        descriptor = descriptor.classes;
        exports = exported_in c.export;
        statics = c.statics;
        imports = files_from 0 (length trees);
        classes = map class_names_of classes;
        cells = map cell_name_of cells;
      } ∷ [];
      trees = trees;
    }

-- The first break of 719 by the image of the package and the components, where it is what ended a run; or memory ran
-- out.
pub record IsPairBreak (ready : Ready) (e : Fault) : Type 0 where
  pub whole : Complete
  pub whole_is : complete ready.cap ≡ Some whole
  pub image : StaticImage
  pub is_image : (let judged = ready.judged in IsImage judged.world judged.codes image)
  pub first : (let judged = ready.judged in IsFirstRefusal (pair_breaks judged.world image whole) e)

-- so it is, or memory ran out before
abbrev pub IsPairFault : Ready → Fault → Type 0
IsPairFault ready e = (e ≡ faults.NoMemory) ⊎ IsPairBreak ready e
