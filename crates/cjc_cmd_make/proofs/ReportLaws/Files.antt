-- Files that are added to a shelf one behind the other.
use Rattle.std.proofs.Common.{◌≡◌, ℕ, ◌+◌, ◌<◌, ◌≤◌, List, [], ◌∷◌, length, get_or, drop, sym, ap, ◌∙◌}
use Rattle.std.proofs.lemmas.List.{drop_all}
use Rattle.std.specs.FinMap.{insert}
use Rattle.cjc_cmd_convert.proofs.ShelfAhead.{written_files-append}
use Rattle.cjc_cmd_card.specs.Shelf.Command.Publish.{written_files}
use Rattle.cjc_cmd_card.specs.Shelf.declared.command.status.File.{File}
use Rattle.cjc_cmd_make.specs.declared.package.made.Made.{Made}
use Rattle.cjc_cmd_make.specs.Report.Package.{class_file_name, list_name, named_classes, named_files, package_files}
use Rattle.cjc_cmd_make.specs.Report.Package.{script_name}
use Rattle.cjc_cmd_convert.specs.Publication.{named}
use Rattle.cjc_cmd_card.specs.Shelf.Memory.{files_of, with_file}
use Rattle.cjc_cmd_card.specs.Shelf.Shelf.{Files, Shelved}
use Rattle.cjc_cmd_convert.proofs.BytesGets.{drop_next}

-- what a shelf tells that got one file more
pub with_one : (old new : Shelved) (name bytes : List ℕ) → new ≡ with_file name bytes old
    → files_of new ≡ insert (files_of old) name bytes
with_one old new name bytes e = ap files_of e

-- ---- files with names

pub files_next : (list : List File) (i : ℕ) (file : File) (s t total : Files) → i < length list
    → file ≡ get_or list i file → t ≡ insert s file.name file.bytes
    → written_files (drop i list) s ≡ total → written_files (drop (i + 1) list) t ≡ total
files_next list i file s t total lt is added so_far = ap (written_files (drop (i + 1) list)) added
    ∙ sym (ap (λ l. written_files l s) (drop_next list i file lt is)) ∙ so_far

pub files_end : (list : List File) (i : ℕ) (s total : Files) → length list ≤ i → written_files (drop i list) s ≡ total
    → s ≡ total
files_end list i s total le so_far = sym (ap (λ l. written_files l s) (drop_all i list le)) ∙ so_far

-- ---- class files by their numbers

pub classes_next : (classes : List (List ℕ)) (i : ℕ) (bytes : List ℕ) (s t total : Files) → i < length classes
    → bytes ≡ get_or classes i bytes → t ≡ insert s (class_file_name i) bytes
    → written_files (named_classes i (drop i classes)) s ≡ total
    → written_files (named_classes (i + 1) (drop (i + 1) classes)) t ≡ total
classes_next classes i bytes s t total lt is added so_far =
    ap (written_files (named_classes (i + 1) (drop (i + 1) classes))) added
    ∙ sym (ap (λ l. written_files (named_classes i l) s) (drop_next classes i bytes lt is)) ∙ so_far

pub classes_end : (classes : List (List ℕ)) (i : ℕ) (s total : Files) → length classes ≤ i
    → written_files (named_classes i (drop i classes)) s ≡ total → s ≡ total
classes_end classes i s total le so_far = sym (ap (λ l. written_files (named_classes i l) s) (drop_all i classes le))
    ∙ so_far

-- ---- a whole package

-- the list was added, then the files that it names, and then the script
pub package_added : (made : Made) (none first more all : Files) → first ≡ insert none list_name made.list
    → more ≡ written_files (named_files made.files) first → all ≡ insert more script_name made.script
    → all ≡ written_files (package_files made) none
package_added made none first more all a b c =
    c
    ∙ ap (λ (fs : Files). insert fs script_name made.script) (b ∙ ap (written_files (named_files made.files)) a)
    ∙ sym (written_files-append (named_files made.files) (named script_name made.script ∷ []) (insert none list_name
    made.list))
