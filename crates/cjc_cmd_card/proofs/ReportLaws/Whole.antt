-- What is run of a complete package.
use Rattle.std.proofs.Common.{◌≡◌, ℕ, ◌+◌, List, [], ◌∷◌, length, map, refl, ap, ◌∙◌, Bool}
use Rattle.std.specs.Prelude.{flat_map}
use Rattle.cjc_pairing.specs.CardSemantics.Machine.Loaded.{OfFile}
use Rattle.cjc_card.specs.CardLink.Group.{files_from}
use Rattle.cjc_card.specs.CardLink.Names.{class_names_of}
use Rattle.cjc_card.specs.CardLink.declared.names.ClassNames.{ClassNames}
use Rattle.cjc_pairing.specs.CardFrame.Kinds.{cell_name_of}
use Rattle.cjc_pairing.specs.CardFrame.declared.parts.kinds.CellName.{CellName}
use Rattle.cjc_pairing.specs.ExportFile.declared.tree.ExportTree.{ExportTree}
use Rattle.cjc_shape.specs.Components.Paired.Naming as naming
use Rattle.cjc_shape.specs.Components.Paired.Naming.{cells_in, class_names, exported_in, loaded_of}
use Rattle.cjc_pairing.specs.CheckRules.Complete.{Complete}
use Rattle.cjc_shape.specs.Tokens.Tokens.{assigned}
use Rattle.cjc_pairing.specs.World.Classes.{all_classes}
use Rattle.cjc_pairing.specs.World.Files.{Files}
use Rattle.cjc_pairing.specs.World.Order.{class_order}
use Rattle.cjc_pairing.specs.World.declared.image.StaticImage.{StaticImage}
use Rattle.cjc_cmd_card.specs.Report.Working.{alone_with}

files_numbered : (k : ℕ) (trees : List ExportTree) → files_from k (length trees) ≡ naming.files_from k trees
files_numbered k [] = refl
files_numbered k (t ∷ trees) = ap (λ is. OfFile k ∷ is) (files_numbered (k + 1) trees)

pub loaded_so : (applets : Bool) (files : Files) (image : StaticImage) (c : Complete) (names : List ClassNames)
    (cells : List CellName) (trees : List ExportTree)
    → map class_names_of names ≡ map (class_names files (assigned applets files)) (class_order (all_classes files))
    → map cell_name_of cells ≡ flat_map (cells_in image) files.classes → trees ≡ files.exports
    → alone_with c names cells trees ≡ loaded_of applets files image c
loaded_so applets files image c names cells trees named celled exported =
    let imports = files_numbered 0 trees ∙ ap (naming.files_from 0) exported in
    let pool = c.pool in
    let descriptor = c.descriptor in
    λ i. record {
      parts = record {
        method = c.method;
        pool = pool.entries;
        class = c.class;
        descriptor = descriptor.classes;
        exports = exported_in c.export;
        statics = c.statics;
        imports = imports i;
        classes = named i;
        cells = celled i;
      } ∷ [];
      trees = exported i;
    }
