-- The reads of a folder in which the files of a conversion stand.
use Rattle.std.proofs.Common.{◌≡◌, ◌≤◌, ◌<◌, ◌^◌, ℕ, refl, sym, ap, subst, ◌∙◌, arith, Bool, false, cond}
use Rattle.std.proofs.Common.{All, List, [], ◌∷◌, ◌++◌, codes, length, map, Option, Some, None, append_assoc}
use Rattle.std.proofs.lemmas.Bool.{le-ltb}
use Rattle.std.proofs.lemmas.List.{append-nil}
use Rattle.std.proofs.lemmas.List.Elements.{All-cons, All-nil}
use Rattle.std.specs.FinMap.{get}
use Rattle.std.specs.Prelude.{IfSome}
use Rattle.cjc_components.specs.LowerCapWrite.Writable.{IsSpelt}
use Rattle.cjc_components.specs.LowerCapWrite.declared.files.CapFiles.{CapFiles}
use Rattle.cjc_cmd_card.specs.CmdCheck.Folder.Breaks.{ArePartsShort, IsShort}
use Rattle.cjc_cmd_card.specs.CmdCheck.Folder.Reads.{component_name, plan_behind_header, plan_of_others, plan_of_parts}
use Rattle.cjc_cmd_card.specs.CmdCheck.Folder.Reads.{tags_of}
use Rattle.cjc_cmd_card.specs.CmdCheck.declared.folder.folder.Parts.{Parts}
use Rattle.cjc_cmd_convert.specs.Publication.{below, files_made, named}
use Rattle.cjc_cmd_convert.specs.Publication as made
use Rattle.cjc_components.specs.Package.{Package}
use Rattle.cjc_shelf.proofs.CommandLaws.Gathering.{on_complete, verdict-then}
use Rattle.cjc_shelf.specs.Command.Plan.{Verdict, at_file, complete, for_each, has, read_behind, read_each, too_long}
use Rattle.cjc_shelf.specs.Command.Plan.{verdict}
use Rattle.cjc_shelf.specs.Command.Publish.{Stand}
use Rattle.cjc_shelf.specs.Shelf.{Files, longest_file}
use Rattle.cjc_shelf.specs.declared.command.status.File.{File}
use Rattle.cjc_int_theorem.specs.Components.{components_by_modes}
use Rattle.cjc_shape_proof.specs.LowerIntPackage.Modes.{Tables}
use Rattle.cjc_accepted_files.proofs.FolderLaws.{tag_where, tags_are, tags_there}
use Rattle.cjc_accepted_files.proofs.LengthsLaws.{AreShort}
use Rattle.cjc_accepted_files.specs.Folder.{others, parts_of, where_there}

-- ---- files that stand

-- a file that is there and not too long is read
at_there : {X : Type 0} (name : List ℕ) (next : List ℕ → Verdict X) (o : Option (List ℕ)) (bytes : List ℕ)
    → o ≡ Some bytes → length bytes ≤ longest_file → at_file name next o ≡ next bytes
at_there name next o bytes there short =
    ap (at_file name next) there
    ∙ ap (λ (b : Bool). cond b (too_long name) (next bytes)) (le-ltb longest_file (length bytes) short)

-- The files of these names are there, and none is too long.
abbrev AllThere : Files → List (List ℕ) → List (List ℕ) → Type 0
AllThere told [] files = files ≡ []
AllThere told (name ∷ names) [] = ⊥
AllThere told (name ∷ names) (bytes ∷ files) =
    (get told name ≡ Some bytes) × (length bytes ≤ longest_file) × AllThere told names files

each_there : (told : Files) (front names files : List (List ℕ)) → AllThere told names files
    → verdict told (for_each (λ f. false) read_behind front names) ≡ complete (front ++ files)
each_there told front [] files none =
    ap (λ (all : List (List ℕ)). complete all) (sym (append-nil front) ∙ ap (λ more. front ++ more) (sym none))
each_there told front (name ∷ names) [] all = absurd all
each_there told front (name ∷ names) (bytes ∷ files) (there, short, more) =
    at_there name (λ b. verdict told (for_each (λ f. false) read_behind (front ++ b ∷ []) names)) (get told name) bytes
    there short
    ∙ each_there told (front ++ bytes ∷ []) names files more
    ∙ ap (λ (all : List (List ℕ)). complete all) (append_assoc front (bytes ∷ []) files)

-- ---- the files of a conversion

module _ (told : Files) (dir : List ℕ) where
  -- these files stand in the folder
  abbrev StandThere : List File → Type 0
  StandThere files = Stand told (map (below dir) files)

  -- Export, where it is there, and Descriptor
  abbrev last_files : Option (List ℕ) → List ℕ → List File
  last_files export descriptor =
      made.where_there (codes "Export.cap") export ++ (named (codes "Descriptor.cap") descriptor ∷ [])

  last_there : (export : Option (List ℕ)) (descriptor : List ℕ) (rest : List File)
      → IfSome export (λ bytes. length bytes ≤ longest_file) → length descriptor ≤ longest_file
      → StandThere (last_files export descriptor ++ rest)
      → AllThere told (map (component_name dir) (tag_where 10 export ++ 11 ∷ []))
      (where_there export ++ descriptor ∷ [])
  last_there None descriptor rest e d s = (s.0, d, refl)
  last_there (Some bytes) descriptor rest e d s = (s.0, e, (s.1.0, d, refl))

  module _ (caps : CapFiles) (short : AreShort caps) (rest : List File) where
    -- the files behind Applet
    abbrev first_files : List File
    first_files = named (codes "Import.cap") caps.import ∷ named (codes "ConstantPool.cap") caps.pool
        ∷ named (codes "Class.cap") caps.class ∷ []

    abbrev next_files : List File
    next_files = named (codes "Method.cap") caps.method ∷ named (codes "StaticField.cap") caps.statics
        ∷ named (codes "RefLocation.cap") caps.locations ∷ []

    middle_there : StandThere (first_files ++ next_files ++ last_files caps.export caps.descriptor ++ rest)
        → AllThere told (map (component_name dir) (4 ∷ 5 ∷ 6 ∷ 7 ∷ 8 ∷ 9 ∷ tag_where 10 caps.export ++ 11 ∷ []))
        (caps.import ∷ caps.pool ∷ caps.class ∷ caps.method ∷ caps.statics ∷ caps.locations
        ∷ where_there caps.export ++ caps.descriptor ∷ [])
    middle_there s =
        let last = last_there caps.export caps.descriptor rest short.export short.descriptor s.1.1.1.1.1.1 in (
          s.0,
          short.import,
          (
            s.1.0,
            short.pool,
            (
              s.1.1.0,
              short.class,
              (
                s.1.1.1.0,
                short.method,
                (s.1.1.1.1.0, short.statics, (s.1.1.1.1.1.0, short.locations, last)),
              ),
            ),
          ),
        )

    others_there : (applet : Option (List ℕ)) → IfSome applet (λ bytes. length bytes ≤ longest_file)
        → StandThere (made.where_there (codes "Applet.cap") applet ++ first_files ++ next_files
        ++ made.where_there (codes "Export.cap") caps.export ++ (named (codes "Descriptor.cap") caps.descriptor ∷ [])
        ++ rest)
        → AllThere told (map (component_name dir) (tags_there applet caps.export))
        (where_there applet
        ++ (caps.import ∷ caps.pool ∷ caps.class ∷ caps.method ∷ caps.statics ∷ caps.locations
        ∷ where_there caps.export ++ caps.descriptor ∷ []))
    others_there None a s = middle_there s
    others_there (Some bytes) a s = (s.0, a, middle_there s.1)

  module _ (t : Tables) (p : Package) (caps : CapFiles) (spelt : IsSpelt (components_by_modes t p) caps) (short : AreShort caps)
      (name export : List ℕ) (s : StandThere (files_made name caps export)) where
    all_there : AllThere told (map (component_name dir) (tags_of caps.directory)) (others caps)
    all_there =
        subst (λ tags. AllThere told (map (component_name dir) tags) (others caps)) (sym (tags_are t p caps spelt))
        (others_there caps short (named (made.last_part name ++ codes ".exp") export ∷ []) caps.applet short.applet
        s.1.1)

    abbrev parts_with : List (List ℕ) → Parts
    parts_with all = record {
      header = caps.header;
      directory = caps.directory;
      tags = tags_of caps.directory;
      others = all;
    }

    others_read : verdict told (plan_of_others dir caps.header caps.directory) ≡ complete (parts_of caps)
    others_read =
        let names = map (component_name dir) (tags_of caps.directory) in
        verdict-then told (read_each names) (λ all. has (parts_with all))
        ∙ ap (λ v. on_complete v (λ all. complete (parts_with all))) (each_there told [] names (others caps) all_there)

    pub parts_read : verdict told (plan_of_parts dir) ≡ complete (parts_of caps)
    parts_read =
        at_there (component_name dir 1) (λ header. verdict told (plan_behind_header dir header)) (get told
        (component_name dir 1)) caps.header s.0 short.header
        ∙ at_there (component_name dir 2) (λ directory. verdict told (plan_of_others dir caps.header directory))
        (get told (component_name dir 2)) caps.directory s.1.0 short.directory
        ∙ others_read

-- ---- lengths of four bytes

four_bytes : (bytes : List ℕ) → length bytes ≤ longest_file → length bytes < 2 ^ 32
four_bytes bytes le = let near : length bytes ≤ 262144 = le in omega (arith, near)

one_more : (bytes : List ℕ) (files : List (List ℕ)) → length bytes ≤ longest_file → All IsShort files
    → All IsShort (bytes ∷ files)
one_more bytes files le rest = All-cons IsShort bytes files (four_bytes bytes le) rest

where_short : (o : Option (List ℕ)) (files : List (List ℕ)) → IfSome o (λ bytes. length bytes ≤ longest_file)
    → All IsShort files → All IsShort (where_there o ++ files)
where_short None files le rest = rest
where_short (Some bytes) files le rest = one_more bytes files le rest

pub parts_short : (caps : CapFiles) → AreShort caps → ArePartsShort (parts_of caps)
parts_short caps short =
    let last = caps.descriptor ∷ [] in
    let export = where_there caps.export ++ last in
    let locations = caps.locations ∷ export in
    let statics = caps.statics ∷ locations in
    let method = caps.method ∷ statics in
    let class = caps.class ∷ method in
    let pool = caps.pool ∷ class in
    let import = caps.import ∷ pool in
    record {
      header = four_bytes caps.header short.header;
      directory = four_bytes caps.directory short.directory;
      others = where_short caps.applet import short.applet (one_more caps.import pool short.import (one_more caps.pool
          class short.pool (one_more caps.class method short.class (one_more caps.method statics short.method
          (one_more caps.statics locations short.statics (one_more caps.locations export short.locations
          (where_short caps.export last short.export (one_more caps.descriptor [] short.descriptor
          (All-nil IsShort)))))))));
    }
