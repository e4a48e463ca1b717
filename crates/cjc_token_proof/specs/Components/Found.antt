-- Whether a class of a name is in some file, of the package or imported.
use Rattle.std.specs.Prelude.{◌≡◌, ℕ, List, true, is_some, option_map}
use Rattle.cjc_card_semantics.specs.Machine.Classes.{Own, external_from, or_else}
use Rattle.cjc_components.specs.Package.{Package}
use Rattle.cjc_components.specs.Names.{class_offset}

-- A class file of the package or an export file has a class of this name.
abbrev pub IsFound : Package → (name : List ℕ) → Type 0
IsFound p name = is_some (or_else (option_map (Own 0) (class_offset p name)) (let files = p.files
    in external_from 0 files.exports name)) ≡ true
