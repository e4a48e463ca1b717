-- The package that is made from a number and a size, whole: list, files and script.
use Rattle.std.specs.Prelude.{ℕ, ◌∷◌, map}
use Rattle.cjc_cmd_make.specs.declared.package.made.Made.{Made}
use Rattle.cjc_cmd_make.specs.Package.Classes.{class_file}
use Rattle.cjc_cmd_make.specs.Package.Lang.{lang_file}
use Rattle.cjc_cmd_make.specs.Package.Numbers.{below}
use Rattle.cjc_cmd_make.specs.Package.Texts.{list_text, script_text}

-- so many classes made from a number: the list, its files in the order of its lines, and the script
abbrev pub package_of : (number size : ℕ) → Made
package_of number size = record {
  list = list_text size;
  files = lang_file ∷ map (class_file number) (below size);
  script = script_text size;
}
