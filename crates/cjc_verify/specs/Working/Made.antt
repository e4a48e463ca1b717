-- What is made of a package before its components are tested.
use Rattle.std.specs.Prelude.{◌≡◌, ℕ, List, [], ◌∷◌, length, map, flat_map, Some}
use Rattle.cjc_card_acts.specs.CardFrame.Kinds.{cell_name_of}
use Rattle.cjc_card_acts.specs.CardFrame.declared.parts.kinds.CellName.{CellName}
use Rattle.cjc_card_calls.specs.LowerCardLink.Group.{files_from}
use Rattle.cjc_card_calls.specs.LowerCardLink.Names.{class_names_of}
use Rattle.cjc_card_calls.specs.LowerCardLink.declared.names.ClassNames.{ClassNames}
use Rattle.cjc_card_acts.specs.CardSemantics.Machine.Loaded.{Loaded}
use Rattle.cjc_check_rules.specs.Complete.{Complete}
use Rattle.cjc_check_rules.specs.Described.{all_starts}
use Rattle.cjc_classes.specs.ClassInfo.Refs.{ref_of}
use Rattle.cjc_classes.specs.LowerComponents.Paired.Naming.{cells_in, class_names, exported_in}
use Rattle.cjc_world.specs.ExportFile.declared.tree.ExportTree.{ExportTree}
use Rattle.cjc_classes.specs.ClassOrder.Classes.Numbers.{declared_at}
use Rattle.cjc_methods.specs.Tokens.Tokens.{Assigned}
use Rattle.cjc_world.specs.Classes.{Class, all_classes}
use Rattle.cjc_world.specs.Files.{Files}
use Rattle.cjc_world.specs.Order.{class_order}
use Rattle.cjc_world.specs.declared.image.StaticImage.{StaticImage}
use Rattle.cjc_verify.specs.Pairs.{Pair, class_ref}
use Rattle.cjc_verify.specs.Working.Methods.{facts}
use Rattle.cjc_verify.specs.declared.checker.Made.{Made}

-- components with names, alone with the export files that they import
abbrev pub alone_with : Complete → List ClassNames → List CellName → List ExportTree → Loaded
alone_with c classes cells trees =
    let pool = c.pool in
    let descriptor = c.descriptor in
    record {
      parts = record {
        method = c.method;
        pool = pool.entries;
        class = c.class;
        descriptor = descriptor.classes;
        exports = exported_in c.export;
        statics = c.statics;
        imports = files_from 0 (length trees);
        classes = map class_names_of classes;
        cells = map cell_name_of cells;
      } ∷ [];
      trees = trees;
    }

-- what is made is that of the package and of the components
pub record IsMade (c : Complete) (files : Files) (tokens : Assigned) (image : StaticImage) (m : Made) : Type 0 where
  pub in_order : map (λ (k : Class). Some k) (class_order (all_classes files)) ≡ map (declared_at files.classes) m.order
  pub begin : m.starts ≡ all_starts c.class
  pub refs : (p : Pair) → p.files ≡ files → p.components ≡ c → (name : List ℕ) → ref_of m.refs name ≡ class_ref p name
  pub methods : (p : Pair) → p.files ≡ files → p.components ≡ c → m.methods ≡ facts p
  pub classes : map class_names_of m.classes ≡ map (class_names files tokens) (class_order (all_classes files))
  pub cells : map cell_name_of m.cells ≡ flat_map (cells_in image) files.classes
