-- A conversion that is done keeps its promise.
use Rattle.std.proofs.Common.{◌≡◌, ℕ, Bool, true, false, List, [], ◌∷◌, ◌++◌, map, Option, Some}
use Rattle.std.proofs.Common.{None, IfSome, IsSomeAnd, Result, Ok, Err, refl, sym, ap, subst, ◌∙◌}
use Rattle.std.proofs.lemmas.List.{append-nil, append_assoc}
use Rattle.std.specs.FinMap.{get}
use Rattle.cjc_shelf.specs.Bytes.Format.{FileSpells}
use Rattle.cjc_shelf.specs.Bytes.declared.fault.Refusal.{Refusal}
use Rattle.cjc_shelf.specs.Bytes.declared.settings.FileLine.{FileLine}
use Rattle.cjc_shelf.specs.Shelf.{Files, Shelved}
use Rattle.cjc_shelf.specs.Sink.{Sunk}
use Rattle.cjc_cmd_compat.specs.List.Listed.{ListTree, listed}
use Rattle.cjc_cmd_compat.specs.ClassFile.ClassFile.{class_file}
use Rattle.cjc_cmd_compat.specs.ClassFile.declared.tree.ClassTree.{ClassTree}
use Rattle.cjc_cmd_verify.specs.Judge.Spelt.{FileTree, SpellTrees, classes_of, exports_of, of_class, of_export}
use Rattle.cjc_cmd_compat.specs.ExportFile.ExportFile.{export_file}
use Rattle.cjc_cmd_compat.specs.ExportFile.declared.tree.ExportTree.{ExportTree}
use Rattle.cjc_shelf.specs.Command.Plan.{◌>>=◌, has, Verdict, verdict, for_each, read_behind, read_each}
use Rattle.cjc_shelf.specs.Command.Plan.{unless_refused, absent, too_long, refused, complete}
use Rattle.cjc_shelf.proofs.CommandLaws.Gathering.{verdict-then, on_complete}
use Rattle.cjc_shelf.specs.Command.Publish.{written_files, IsWritten, Stand}
use Rattle.cjc_shelf.specs.declared.command.status.File.{File}
use Rattle.cjc_shelf.specs.Command.Answer.{IsReady, Answers, Acts}
use Rattle.cjc_shelf.specs.declared.command.status.Status.{Status}
use Rattle.cjc_shelf.specs.declared.command.status.Status.TheVariants as status
use Rattle.cjc_shelf.specs.declared.command.status.Todo.{Todo}
use Rattle.cjc_cmd_compat.proofs.ListDecided.{listed_spelt}
use Rattle.cjc_cmd_link.specs.Runs.{report_by_name, report_by_token}
use Rattle.cjc_run.proofs.LinkRan.{keeps_link}
use Rattle.cjc_run.specs.Request.{Request, card, check, compat, convert, jvm, link, linkjvm, make, verify}
use Rattle.cjc_run.specs.Command.{command_of}
use Rattle.cjc_cmd_make.specs.CmdConvert.Publication.{files_made, below}
use Rattle.cjc_run.specs.Convert.{names_of, plan_of_files, plan_of_list, plan_of_convert}
use Rattle.cjc_run.specs.Promise.{SpellStep, SpellClasses, ExportStep, SpellExports, Converts, Promised}
use Rattle.cjc_run.proofs.Standing.{stand_made}
use Rattle.cjc_run.proofs.Got.{at_got, same_complete}
use Rattle.cjc_run.proofs.CardRan.{keeps_card}
use Rattle.cjc_run.proofs.Versions.{keeps_compared}
use Rattle.cjc_run.proofs.Ran.{keeps_run}
use Rattle.cjc_run.proofs.Summed.{keeps_made}
use Rattle.cjc_run.proofs.Tested.{keeps_tested}
use Rattle.cjc_run.proofs.Typed.{keeps_typed}

-- ---- what was read

-- The files of these names have these bytes.
abbrev pub AllGot : Files → List (List ℕ) → List (List ℕ) → Type 0
AllGot files [] all = all ≡ []
AllGot files (name ∷ names) [] = ⊥
AllGot files (name ∷ names) (bytes ∷ all) = (get files name ≡ Some bytes) × AllGot files names all

each_got : (files : Files) (front names all : List (List ℕ))
    → verdict files (for_each (λ f. false) read_behind front names) ≡ complete all → (back : List (List ℕ))
    × (all ≡ front ++ back) × AllGot files names back
each_got files front [] all e = ([], sym (same_complete front all e) ∙ sym (append-nil front), refl)
each_got files front (name ∷ names) all e =
    let got = at_got name (λ bytes. verdict files (for_each (λ f. false) read_behind (front ++ bytes ∷ []) names))
    (get files name) all e in
    let more = each_got files (front ++ got.0 ∷ []) names all got.2 in
    (got.0 ∷ more.0, more.1 ∙ append_assoc front (got.0 ∷ []) more.0, (got.1, more.2))

then_got : {X Y : Type 0} (v : Verdict X) (f : X → Verdict Y) (y : Y) → on_complete v f ≡ complete y → (x : X)
    × (v ≡ complete x) × (f x ≡ complete y)
then_got (absent name) f y e = absurd cc
then_got (too_long name) f y e = absurd cc
then_got (refused r) f y e = absurd cc
then_got (complete x) f y e = (x, refl, e)

files_got : (files : Files) (list : ListTree) (x : ListTree × List (List ℕ)) → verdict files (plan_of_files list)
    ≡ complete x → (x ≡ (list, x.1)) × AllGot files (names_of list) x.1
files_got files list x e =
    let split = then_got (verdict files (read_each (names_of list))) (λ all. verdict files (has (list, all))) x
    (sym (verdict-then files (read_each (names_of list)) (λ all. has (list, all))) ∙ e) in
    let is : (list, split.0) ≡ x = same_complete (list, split.0) x split.2 in
    let got = each_got files [] (names_of list) split.0 split.1 in
    let all : AllGot files (names_of list) split.0 = subst (AllGot files (names_of list)) (sym got.1) got.2 in
    subst (λ (y : ListTree × List (List ℕ)). (y ≡ (list, y.1)) × AllGot files (names_of list) y.1) is (refl, all)

-- What was read before a conversion: the list and its files.
pub record IsGot (files : Files) (name : List ℕ) (x : ListTree × List (List ℕ)) : Type 0 where
  pub text : List ℕ
  pub text_is : get files name ≡ Some text
  pub listed_is : listed name text ≡ Ok x.0
  pub all : AllGot files (names_of x.0) x.1

list_got : (files : Files) (r : Result ListTree Refusal) (x : ListTree × List (List ℕ))
    → verdict files (unless_refused r >>= plan_of_files) ≡ complete x
    → (r ≡ Ok x.0) × AllGot files (names_of x.0) x.1
list_got files (Err r) x e = absurd cc
list_got files (Ok list) x e =
    let got = files_got files list x e in
    let same : list ≡ x.0 = sym (ap (λ (y : ListTree × List (List ℕ)). y.0) got.0) in
    (ap (λ (l : ListTree). Ok l) same, subst (λ (l : ListTree). AllGot files (names_of l) x.1) same got.1)

pub convert_got : (files : Files) (name : List ℕ) (x : ListTree × List (List ℕ)) → verdict files (plan_of_convert name)
    ≡ complete x → IsGot files name x
convert_got files name x e =
    let got = at_got name (λ text. verdict files (plan_of_list name text)) (get files name) x e in
    let list = list_got files (listed name got.0) x got.2 in
    record { text = got.0; text_is = got.1; listed_is = list.0; all = list.1 }

-- ---- what the files spell

step_class : (c : Bool) (o : Option (List ℕ)) (bytes : List ℕ) (rest : List ClassTree → Type 0) (tree : ClassTree)
    (trees : List ClassTree) → c ≡ true → o ≡ Some bytes
    → FileSpells class_file tree bytes → rest trees → SpellStep c o rest (tree ∷ trees)
step_class true (Some b) bytes rest tree trees c o f r = (subst (FileSpells class_file tree) (let e = o in cc) f, r)
step_class true None bytes rest tree trees c o f r = absurd cc
step_class false o bytes rest tree trees c e f r = absurd cc

no_class : (c : Bool) (o : Option (List ℕ)) (rest : List ClassTree → Type 0) (trees : List ClassTree) → c ≡ false
    → rest trees → SpellStep c o rest trees
no_class true o rest trees c r = absurd cc
no_class false o rest trees c r = r

step_export : (c : Bool) (o : Option (List ℕ)) (bytes : List ℕ) (rest : List ExportTree → Type 0) (tree : ExportTree)
    (trees : List ExportTree) → c ≡ false → o ≡ Some bytes
    → FileSpells export_file tree bytes → rest trees → ExportStep c o rest (tree ∷ trees)
step_export false (Some b) bytes rest tree trees c o f r = (subst (FileSpells export_file tree) (let e = o in cc) f, r)
step_export false None bytes rest tree trees c o f r = absurd cc
step_export true o bytes rest tree trees c e f r = absurd cc

no_export : (c : Bool) (o : Option (List ℕ)) (rest : List ExportTree → Type 0) (trees : List ExportTree) → c ≡ true
    → rest trees → ExportStep c o rest trees
no_export true o rest trees c r = r
no_export false o rest trees c r = absurd cc

-- the files that were read are those of the shelf
classes_spelt : (files : Files) (lines : List FileLine) (all : List (List ℕ)) (trees : List FileTree)
    → AllGot files (map (λ line. line.name) lines) all
    → SpellTrees lines all trees → SpellClasses files lines (classes_of trees)
classes_spelt files [] all trees got (none, no_trees) = ap classes_of no_trees
classes_spelt files (line ∷ lines) [] trees got s = absurd s
classes_spelt files (line ∷ lines) (bytes ∷ all) [] got s = absurd s
classes_spelt files (line ∷ lines) (bytes ∷ all) (of_class tree ∷ trees) (here, more) ((is, f), s) =
    step_class line.class_file (get files line.name) bytes (SpellClasses files lines) tree (classes_of trees) is here f
    (classes_spelt files lines all trees more s)
classes_spelt files (line ∷ lines) (bytes ∷ all) (of_export tree ∷ trees) (here, more) ((is, f), s) =
    no_class line.class_file (get files line.name) (SpellClasses files lines) (classes_of trees) is
    (classes_spelt files lines all trees more s)

exports_spelt : (files : Files) (lines : List FileLine) (all : List (List ℕ)) (trees : List FileTree)
    → AllGot files (map (λ line. line.name) lines) all
    → SpellTrees lines all trees → SpellExports files lines (exports_of trees)
exports_spelt files [] all trees got (none, no_trees) = ap exports_of no_trees
exports_spelt files (line ∷ lines) [] trees got s = absurd s
exports_spelt files (line ∷ lines) (bytes ∷ all) [] got s = absurd s
exports_spelt files (line ∷ lines) (bytes ∷ all) (of_class tree ∷ trees) (here, more) ((is, f), s) =
    no_export line.class_file (get files line.name) (SpellExports files lines) (exports_of trees) is
    (exports_spelt files lines all trees more s)
exports_spelt files (line ∷ lines) (bytes ∷ all) (of_export tree ∷ trees) (here, more) ((is, f), s) =
    step_export line.class_file (get files line.name) bytes (SpellExports files lines) tree (exports_of trees) is here f
    (exports_spelt files lines all trees more s)

-- ---- the whole

keeps : (name dir : List ℕ) (files : Files) (new : Shelved) (todo : Todo)
    → IsReady (command_of (convert name dir)) (Some files) todo → IsWritten (Some files) todo new
    → IsSomeAnd new.files (Converts name dir files)
keeps name dir files new todo ready written =
    let x = ready.inputs in
    let got = convert_got files name x ready.read in
    let made = ready.made.0 in
    let kept = ready.made.2 in
    let all : List File = map (below dir) (files_made x.0.package made.caps made.export) in
    let after : written_files todo.files files ≡ written_files all files =
    ap (λ (t : Todo). written_files t.files files) ready.made.3 in
    subst (λ (o : Option Files). IsSomeAnd o (Converts name dir files)) (sym written) (record {
      text = got.text;
      list = x.0;
      classes = classes_of kept.trees;
      exports = exports_of kept.trees;
      made = made;
      cap = kept.cap;
      text_is = got.text_is;
      list_is = listed_spelt name got.text x.0 got.listed_is;
      class_files = classes_spelt files x.0.lines x.1 kept.trees got.all kept.spell;
      export_files = exports_spelt files x.0.lines x.1 kept.trees got.all kept.spell;
      stand = subst (λ (fs : Files). Stand fs all) (sym after) (stand_made dir x.0.package files made.caps made.export);
      spelt = kept.spelt;
      consistent = kept.consistent;
      alike = kept.alike;
    })

keeps_told : (name dir : List ℕ) (told : Option Files) (new : Shelved) (todo : Todo)
    → IsReady (command_of (convert name dir)) told todo → IsWritten told todo new
    → IfSome told (λ before. IsSomeAnd new.files (Converts name dir before))
keeps_told name dir None new todo ready written = tt
keeps_told name dir (Some files) new todo ready written = keeps name dir files new todo ready written

promised_done : (r : Request) (old new : Shelved) (from to : Sunk) → Answers (command_of r) old new from to status.Done
    → Promised r old new from to
promised_done (convert name dir) old new from to t = keeps_told name dir old.files new t.0 t.1 t.2
promised_done (check name dir) old new from to t = keeps_tested name dir old new from to t.0 t.1 t.2 t.3
promised_done (jvm name script n) old new from to t = keeps_run name script n old new from to t.0 t.1 t.2 t.3
promised_done (card name dir script n) old new from to t = keeps_card name dir script n old new from to t.0 t.1 t.2 t.3
promised_done (make number size) old new from to t = keeps_made number size old new from to t.0 t.1 t.2 t.3
promised_done (verify name dir) old new from to t = keeps_typed name dir old new from to t.0 t.1 t.2 t.3
promised_done (link name script n) old new from to t =
    keeps_link (λ group tree. report_by_token group tree n) name script old new from to t.0 t.1 t.2 t.3
promised_done (linkjvm name script n) old new from to t =
    keeps_link (λ group tree. report_by_name group tree n) name script old new from to t.0 t.1 t.2 t.3
promised_done (compat old_name new_name) old new from to t =
    keeps_compared old_name new_name old new from to t.0 t.1 t.2 t.3

pub promised : (r : Request) (old new : Shelved) (from to : Sunk) (answer : Status)
    → Acts (command_of r) old new from to answer → answer ≡ status.Done
    → Promised r old new from to
promised r old new from to answer a done =
    promised_done r old new from to (subst (λ (s : Status). Answers (command_of r) old new from to s) done a.answers)
