-- What tables are made of is what the machine is given of a package.
use Rattle.std.proofs.Common.{◌≡◌, ℕ, ◌+◌, List, [], ◌∷◌, length, map, refl, sym, ap, ◌∙◌, Bool}
use Rattle.std.specs.Prelude.{flat_map}
use Rattle.cjc_card_acts.specs.CardFrame.Kinds.{cell_name_of}
use Rattle.cjc_card_acts.specs.CardFrame.declared.parts.kinds.CellName.{CellName}
use Rattle.cjc_card_calls.specs.LowerCardLink.Group.{files_from}
use Rattle.cjc_card_calls.specs.LowerCardLink.Names.{class_names_of}
use Rattle.cjc_card_calls.specs.LowerCardLink.Tables.{loaded_of as loaded_in}
use Rattle.cjc_card_calls.specs.LowerCardLink.declared.names.ClassNames.{ClassNames}
use Rattle.cjc_card_calls.specs.LowerCardLink.declared.tables.Tables.{Tables}
use Rattle.cjc_card_acts.specs.CardSemantics.Machine.Loaded.{Loaded, OfFile}
use Rattle.cjc_pairing.specs.CheckIndex.Lookup.Parts.{complete_of}
use Rattle.cjc_pairing.specs.CheckIndex.declared.lookup.parts.Parts.{Parts}
use Rattle.cjc_check_rules.specs.Complete.{Complete}
use Rattle.cjc_classes.specs.LowerComponents.Paired.Naming as naming
use Rattle.cjc_classes.specs.LowerComponents.Paired.Naming.{cells_in, class_names, exported_in, loaded_of}
use Rattle.cjc_world.specs.ExportFile.declared.tree.ExportTree.{ExportTree}
use Rattle.cjc_methods.specs.Tokens.Tokens.{Assigned, assigned}
use Rattle.cjc_world.specs.Classes.{all_classes}
use Rattle.cjc_world.specs.Files.{Files}
use Rattle.cjc_world.specs.Order.{class_order}
use Rattle.cjc_world.specs.declared.image.StaticImage.{StaticImage}
use Rattle.cjc_verify.specs.Pairs.{Pair, pair_of}
use Rattle.cjc_verify.specs.Working.Made.{IsMade, alone_with}
use Rattle.cjc_verify.specs.Working.Ready.{pair_by}
use Rattle.cjc_verify.specs.declared.checker.Made.{Made}

files_numbered : (k : ℕ) (trees : List ExportTree) → files_from k (length trees) ≡ naming.files_from k trees
files_numbered k [] = refl
files_numbered k (t ∷ trees) = ap (λ is. OfFile k ∷ is) (files_numbered (k + 1) trees)

loaded_so : (applets : Bool) (files : Files) (image : StaticImage) (c : Complete) (names : List ClassNames)
    (cells : List CellName)
    → map class_names_of names ≡ map (class_names files (assigned applets files)) (class_order (all_classes files))
    → map cell_name_of cells ≡ flat_map (cells_in image) files.classes
    → alone_with c names cells files.exports ≡ loaded_of applets files image c
loaded_so applets files image c names cells named celled =
    let imports = files_numbered 0 files.exports in
    let pool = c.pool in
    let descriptor = c.descriptor in
    λ i. record {
      parts = record {
        method = c.method;
        pool = pool.entries;
        class = c.class;
        descriptor = descriptor.classes;
        exports = exported_in c.export;
        statics = c.statics;
        imports = imports i;
        classes = named i;
        cells = celled i;
      } ∷ [];
      trees = files.exports;
    }

-- tables of a part with names are those of the components with what was made
pub loaded_kept : (c : Complete) (tables : Tables) (m : Made) (part : Loaded) (names : List ClassNames)
    (cells : List CellName) (trees exports : List ExportTree) → loaded_in tables ≡ part
    → part ≡ alone_with c names cells trees → names ≡ m.classes → cells ≡ m.cells → trees ≡ exports
    → loaded_in tables ≡ alone_with c m.classes m.cells exports
loaded_kept c tables m part names cells trees exports of alone same_names same_cells same_trees =
    of ∙ alone
    ∙ ap (λ (ns : List ClassNames). alone_with c ns cells trees) same_names
    ∙ ap (λ (cs : List CellName). alone_with c m.classes cs trees) same_cells
    ∙ ap (alone_with c m.classes m.cells) same_trees

-- components beside a package as code is lent them are the pair of the contract
pub same_pair : (applets : Bool) (files : Files) (tokens : Assigned) (image : StaticImage) (parts : Parts)
    (tables : Tables) (m : Made) → tokens ≡ assigned applets files → IsMade (complete_of parts) files tokens image m
    → loaded_in tables ≡ alone_with (complete_of parts) m.classes m.cells files.exports
    → pair_by files tokens image parts tables ≡ pair_of applets files image (complete_of parts)
same_pair applets files tokens image parts tables m is made loaded =
    let c = complete_of parts in
    let named = made.classes
    ∙ ap (λ (t : Assigned). map (class_names files t) (class_order (all_classes files))) is in
    let whole = loaded ∙ loaded_so applets files image c m.classes m.cells named made.cells in
    λ i. record { files = files; tokens = is i; image = image; components = c; loaded = whole i }
