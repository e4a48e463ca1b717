-- What of a package its methods, its list and its export file are known by, where rules 311, 414 and 415 are tested.
use Rattle.std.specs.Prelude.{◌≡◌, ℕ, List, length, map}
use Rattle.cjc_world.specs.ExportFile.Written.{constants}
use Rattle.cjc_world.specs.declared.found.Found.{Found}
use Rattle.cjc_world.specs.Files.{Files}
use Rattle.cjc_pool.specs.NCode.declared.narrow.NMethod.{NMethod}
use Rattle.cjc_components.specs.Package.{Package, codes}
use Rattle.cjc_components.specs.ExportFile.{export_of}

-- The package has a list of this name, these files, these members with these codes as its methods, and an export file
-- whose pool has so many entries.
pub record IsTold (list : List ℕ) (files : Files) (members : List Found) (narrow : List NMethod) (exported : ℕ)
    (p : Package) : Type 0 where
  pub by_list : (let l = p.list in l.name ≡ list)
  pub by_files : p.files ≡ files
  pub by_members : map (λ m. m.member) p.methods ≡ members
  pub by_codes : codes p ≡ narrow
  pub by_export : exported ≡ length (constants (export_of p))
