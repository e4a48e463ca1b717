-- What is loaded of packages that were tested is what their group is.
use Rattle.std.proofs.Common.{◌≡◌, ℕ, ◌<◌, ◌^◌, List, [], ◌∷◌, length, map, refl, sym, ap, subst, ◌∙◌, Bool, Some}
use Rattle.std.specs.Prelude.{flat_map, Result, Ok, Err, IfOk}
use Rattle.cjc_group.proofs.BytesPlain.{the_same}
use Rattle.cjc_cmd_card.specs.CardFrame.Kinds.{cell_name_of}
use Rattle.cjc_cmd_card.specs.CardFrame.declared.parts.kinds.CellName.{CellName}
use Rattle.cjc_cmd_card.specs.CardLink.Group.{alone, files_from, group_of, group_part, part_with}
use Rattle.cjc_cmd_card.specs.CardLink.Names.{class_names_of}
use Rattle.cjc_cmd_card.specs.CardLink.declared.names.ClassNames.{ClassNames}
use Rattle.cjc_cmd_card.specs.CardLink.declared.part.GroupPart.{GroupPart}
use Rattle.cjc_cmd_card.specs.CardLink.declared.part.Part.{Part as PartData}
use Rattle.cjc_link_semantics.specs.CardSemantics.Machine.ByToken.{run}
use Rattle.cjc_link_semantics.specs.CardSemantics.Machine.Loaded.{Import, Loaded, Part}
use Rattle.cjc_link_semantics.specs.CheckRules.Complete.{Complete, complete}
use Rattle.cjc_link_semantics.specs.Components.Paired.Naming.{cells_in, class_names, loaded_of, part_of}
use Rattle.cjc_cmd_card.proofs.ReportLaws.Whole.{loaded_so}
use Rattle.cjc_cmd_card.specs.Report.Working.{alone_with}
use Rattle.cjc_cmd_card.specs.declared.running.input.Input.{Input}
use Rattle.cjc_cmd_link.proofs.Numbers.{package_is}
use Rattle.cjc_cmd_link.specs.ByToken.{AreParts, IsByToken, IsPart, applets_of, import_for}
use Rattle.cjc_cmd_link.specs.Members.{AreTested, IsTested}
use Rattle.cjc_cmd_link.specs.Runs.{report_by_token}
use Rattle.cjc_cmd_link.specs.Working.{AreMade, IsMade, world_of, worlds_of}
use Rattle.cjc_cmd_link.specs.declared.members.Tested.{Tested}
use Rattle.cjc_link_semantics.specs.ExportFile.declared.tree.ExportTree.{ExportTree}
use Rattle.cjc_cmd_card.specs.LowerJudge.Rules.{has_applets}
use Rattle.cjc_link_semantics.specs.JvmSemantics.Group.{joint_exports}
use Rattle.cjc_link_semantics.specs.Loaded.{Member, files_of, group_loaded, import_as, import_by, part_in}
use Rattle.cjc_link_semantics.specs.Together.{images_of}
use Rattle.cjc_link_semantics.specs.Script.declared.report.Report.{Report}
use Rattle.cjc_cmd_card.specs.LowerScriptText.Scripted.{ScriptTree}
use Rattle.cjc_link_semantics.specs.Tokens.Tokens.{assigned}
use Rattle.cjc_group.specs.World.Classes.{all_classes}
use Rattle.cjc_group.specs.World.Files.{Files}
use Rattle.cjc_group.specs.World.Order.{class_order}
use Rattle.cjc_group.specs.World.declared.image.StaticImage.{StaticImage}

-- ---- one package

front_of : Part → List Part → Part
front_of d [] = d
front_of d (p ∷ parts) = p

-- a package with what it imports
abbrev pub importing : List Import → Part → Part
importing imports p = record p { imports = imports }

-- components with names are those of the package, whatever they import
pub part_so : (applets : Bool) (files : Files) (image : StaticImage) (c : Complete) (p : PartData)
    (names : List ClassNames) (cells : List CellName) (imports : List Import)
    → ((trees : List ExportTree) → alone p trees ≡ alone_with c names cells trees)
    → map class_names_of names ≡ map (class_names files (assigned applets files)) (class_order (all_classes files))
    → map cell_name_of cells ≡ flat_map (cells_in image) files.classes
    → part_with imports p ≡ importing imports (part_of applets files image c)
unfolding front_of
part_so applets files image c p names cells imports alike named celled =
    let whole : alone p files.exports ≡ loaded_of applets files image c = alike files.exports
    ∙ loaded_so applets files image c names cells files.exports named celled refl in
    let first : part_with (files_from 0 (length files.exports)) p ≡ part_of applets files image c =
    ap (λ (l : Loaded). front_of (part_of applets files image c) l.parts) whole in
    ap (importing imports) first

-- ---- all packages

cons_head : {A : Type 0} (x y : A) (xs ys : List A) → x ∷ xs ≡ y ∷ ys → x ≡ y
cons_head x y xs ys e = cc

cons_tail : {A : Type 0} (x y : A) (xs ys : List A) → x ∷ xs ≡ y ∷ ys → xs ≡ ys
cons_tail x y xs ys e = cc

map_same : {A B : Type 0} (f g : A → B) → ((x : A) → f x ≡ g x) → (xs : List A) → map f xs ≡ map g xs
map_same f g same [] = refl
map_same f g same (x ∷ xs) = ap (λ y. y ∷ map f xs) (same x) ∙ ap (λ ys. g x ∷ ys) (map_same f g same xs)

-- what was tested twice is one
one_whole : (i : Input) (t : Tested) (image : StaticImage) (m : Member) (c : Complete) → IsMade i t image
    → IsTested i m → complete t.ready.cap ≡ Some c → c ≡ m.components
one_whole i t image m c made tested is =
    let cap : tested.ready.cap ≡ t.ready.cap = the_same tested.ready.cap t.ready.cap (sym tested.is_ready.cap
    ∙ made.is_ready.cap) in
    the_same c m.components (sym is ∙ sym (ap complete cap) ∙ tested.components)

module _ (all : List Member) (outside : List ExportTree) where
  import_same : (worlds : List Files) → files_of all ≡ worlds → (t : ExportTree)
      → import_for worlds outside t ≡ import_by all outside t
  import_same worlds files t =
      ap (λ ws. import_for ws outside t) (sym files) ∙ ap (import_as outside t.name) (package_is all t.name)

  part_is : (i : Input) (t : Tested) (image : StaticImage) (m : Member) (p : GroupPart) (worlds : List Files)
      → files_of all ≡ worlds → IsMade i t image → IsTested i m → m.files ≡ world_of t → m.image ≡ image
      → IsPart worlds outside t image p → group_part p ≡ part_in all outside m
  part_is i t image m p worlds files made tested world same_image part =
      let applets : applets_of t ≡ m.applets = ap (λ (x : Input). let list = x.list in has_applets list) made.input_is
      ∙ sym tested.applets in
      let whole = one_whole i t image m part.whole made tested part.whole_is in
      let imports : map (import_for worlds outside) (let w = world_of t in w.exports)
      ≡ map (import_by all outside) (let f = m.files in f.exports) =
      map_same (import_for worlds outside) (import_by all outside) (import_same worlds files) (let w = world_of t
      in w.exports)
      ∙ ap (λ (w : Files). map (import_by all outside) w.exports) (sym world) in
      part.is
      ∙ ap (λ a. importing (map (import_for worlds outside) (let w = world_of t in w.exports))
      (part_of a (world_of t) image part.whole)) applets
      ∙ ap (λ w. importing (map (import_for worlds outside) (let v = world_of t in v.exports))
      (part_of m.applets w image part.whole)) (sym world)
      ∙ ap (λ j. importing (map (import_for worlds outside) (let w = world_of t in w.exports))
      (part_of m.applets m.files j part.whole)) (sym same_image)
      ∙ ap (λ c. importing (map (import_for worlds outside) (let w = world_of t in w.exports))
      (part_of m.applets m.files m.image c)) whole
      ∙ ap (λ is. importing is (part_of m.applets m.files m.image m.components)) imports

  parts_are : (worlds : List Files) → files_of all ≡ worlds → (inputs : List Input) (ts : List Tested)
      (images : List StaticImage) (group : List Member) (parts : List GroupPart) → AreMade inputs ts images
      → AreTested inputs group → files_of group ≡ worlds_of ts → images_of group ≡ images
      → AreParts worlds outside ts images parts → map group_part parts ≡ map (part_in all outside) group
  parts_are worlds files [] [] [] [] [] made tested ws js are = refl
  parts_are worlds files [] [] [] [] (p ∷ parts) made tested ws js are = absurd are
  parts_are worlds files [] [] [] (m ∷ group) parts made tested ws js are = absurd tested
  parts_are worlds files [] [] (j ∷ images) group parts made tested ws js are = absurd made
  parts_are worlds files [] (t ∷ ts) images group parts made tested ws js are = absurd made
  parts_are worlds files (i ∷ inputs) [] images group parts made tested ws js are = absurd made
  parts_are worlds files (i ∷ inputs) (t ∷ ts) [] group parts made tested ws js are = absurd made
  parts_are worlds files (i ∷ inputs) (t ∷ ts) (j ∷ images) [] parts made tested ws js are = absurd tested
  parts_are worlds files (i ∷ inputs) (t ∷ ts) (j ∷ images) (m ∷ group) [] made tested ws js are = absurd are
  parts_are worlds files (i ∷ inputs) (t ∷ ts) (j ∷ images) (m ∷ group) (p ∷ parts) made tested ws js are =
      let one = part_is i t j m p worlds files made.0 tested.0 (cons_head m.files (world_of t) (files_of group)
      (worlds_of ts) ws) (cons_head m.image j (images_of group) images js) are.0 in
      let rest = parts_are worlds files inputs ts images group parts made.1 tested.1 (cons_tail m.files (world_of t)
      (files_of group) (worlds_of ts) ws) (cons_tail m.image j (images_of group) images js) are.1 in
      ap (λ q. q ∷ map group_part parts) one ∙ ap (λ qs. part_in all outside m ∷ qs) rest

loaded_is : (inputs : List Input) (ts : List Tested) (images : List StaticImage) (group : List Member)
    (parts : List GroupPart) (outside : List ExportTree) → AreMade inputs ts images → AreTested inputs group
    → files_of group ≡ worlds_of ts → images_of group ≡ images → outside ≡ joint_exports (worlds_of ts)
    → AreParts (worlds_of ts) outside ts images parts → group_of parts outside ≡ group_loaded group
loaded_is inputs ts images group parts outside made tested ws js is are =
    let loaded : List Part → List ExportTree → Loaded = λ ps ts. record { parts = ps; trees = ts } in
    let trees : outside ≡ joint_exports (files_of group) = is ∙ sym (ap joint_exports ws) in
    ap (λ ps. loaded ps outside) (parts_are group outside (worlds_of ts) ws inputs ts images group parts made tested ws
    js are)
    ∙ ap (λ es. loaded (map (part_in group es) group) es) trees

pub token_report : {E : Type 0} (ts : List Tested) (images : List StaticImage) (parts : List GroupPart)
    (outside : List ExportTree) (tree : ScriptTree) (n : ℕ) (result : Result Report E)
    → outside ≡ joint_exports (worlds_of ts) → AreParts (worlds_of ts) outside ts images parts
    → IfOk result (λ report. report ≡ run (group_of parts outside) tree n) → IfOk result (IsByToken ts images tree n)
token_report ts images parts outside tree n (Ok report) is are ran = λ inputs group made tested ws js.
    ran ∙ ap (λ l. run l tree n) (loaded_is inputs ts images group parts outside made tested ws js is are)
token_report ts images parts outside tree n (Err e) is are ran = tt

-- what is known of each group of these is the report of one
pub reported : (ts : List Tested) (images : List StaticImage) (tree : ScriptTree) (n : ℕ) (report : Report)
    (inputs : List Input) → AreMade inputs ts images → IsByToken ts images tree n report → (group : List Member)
    → AreTested inputs group → files_of group ≡ worlds_of ts → images_of group ≡ images
    → report ≡ report_by_token group tree n
reported ts images tree n report inputs made is group tested ws js = is inputs group made tested ws js
