-- The names of classes in the class files and export files, and what they name on the card.
use Rattle.std.specs.Prelude.{◌≡◌, ℕ, List, [], ◌∷◌, Some, None, true, false, codes}
use Rattle.cjc_bytes.specs.AccessFlags.{is_interface}
use Rattle.cjc_world.specs.ExportFile.declared.tree.ExportClass.{ExportClass}
use Rattle.cjc_card_semantics.specs.Bytecode.Calculations.{Fault}
use Rattle.cjc_card_semantics.specs.Bytecode.Renaming.{option_as}
use Rattle.cjc_card_semantics.specs.Machine.Calls.{imported, throwable}
use Rattle.cjc_card_semantics.specs.Machine.Classes.{Own, External, class_named as class_on_card, fault_class}
use Rattle.cjc_card_semantics.specs.Machine.Classes.{fault_name, external, external_named, name_of, number_named}
use Rattle.cjc_card_semantics.specs.Machine.Classes.{offset_of}
use Rattle.cjc_card_semantics.specs.Machine.Loaded.{Part}
use Rattle.cjc_world.specs.Classes.{Class, class_named}
use Rattle.cjc_components.specs.LowerNarrow.Rows.Package.{name_there, plain_import, throwable_import}
use Rattle.cjc_components.specs.LowerNarrow.Rows.Package
use Rattle.cjc_ncode.specs.Lowering.Naming.{Naming}
use Rattle.cjc_token_proof.specs.ByToken.Supers.{has_class}

-- A class of the package has the name of its info, and no export file names it.
pub record SaysOwnName (n : Naming) (part : Part) (x : List ℕ) : Type 0 where
  pub number : ℕ
  pub offset : ℕ
  pub numbered : number_named part.classes x ≡ Some number
  pub at : offset_of part number ≡ Some offset
  pub on_card : n.class x ≡ Own 0 offset
  pub in_no_file : external_named n.loaded x ≡ None

-- An imported class has its name in an export file, with its flags, and no info has it.
pub record SaysFileName (n : Naming) (part : Part) (x : List ℕ) (c : Class) : Type 0 where
  pub tree : ℕ
  pub token : ℕ
  pub entry : ExportClass
  pub on_card : n.class x ≡ External tree token
  pub found : external_named n.loaded x ≡ Some (External tree token)
  pub there : external n.loaded tree token ≡ Some entry
  pub name : entry.name ≡ x
  pub flags : is_interface entry.flags ≡ is_interface c.flags
  pub has_no_info : number_named part.classes x ≡ None

-- The names of infos and of export files are those of the package that is loaded alone.
pub record SaysNames (w : List Class) (n : Naming) (part : Part) : Type 0 where
  pub alone : (let l = n.loaded in l.parts ≡ part ∷ [])
  pub own : (x : List ℕ) (c : Class) → class_named w x ≡ Some c → c.is_imported ≡ false → SaysOwnName n part x
  pub file : (x : List ℕ) (c : Class) → class_named w x ≡ Some c → c.is_imported ≡ true → SaysFileName n part x c
  pub none : (x : List ℕ) → class_named w x ≡ None → (number_named part.classes x ≡ None)
      × (external_named n.loaded x ≡ None)

-- A name of a class of one of several packages is that class on the card, and no export file has it.
pub record StandsInside (n : Naming) (x : List ℕ) : Type 0 where
  pub named : class_on_card n.loaded x ≡ Some (n.class x)
  pub in_no_file : external_named n.loaded x ≡ None
  pub name : name_of n.loaded (n.class x) ≡ x

-- A name of a class of an export file is that class, with its flags.
pub record StandsOutside (n : Naming) (x : List ℕ) (c : Class) : Type 0 where
  pub named : class_on_card n.loaded x ≡ Some (n.class x)
  pub found : external_named n.loaded x ≡ Some (n.class x)
  pub name : name_of n.loaded (n.class x) ≡ x
  pub tree : ℕ
  pub token : ℕ
  pub entry : ExportClass
  pub on_card : n.class x ≡ External tree token
  pub there : external n.loaded tree token ≡ Some entry
  pub flags : is_interface entry.flags ≡ is_interface c.flags

-- Each name means its class on the card, among several packages and export files, and no other name is there.
pub record NamesStand (w : List Class) (n : Naming) : Type 0 where
  pub own : (x : List ℕ) (c : Class) → class_named w x ≡ Some c → c.is_imported ≡ false → StandsInside n x
  pub file : (x : List ℕ) (c : Class) → class_named w x ≡ Some c → c.is_imported ≡ true → StandsOutside n x c
  pub none : (x : List ℕ) → class_named w x ≡ None → (class_on_card n.loaded x ≡ None)
      × (external_named n.loaded x ≡ None)

-- some export file has the class
pub record IsImport (w : List Class) (x : List ℕ) : Type 0 where
  pub class : Class
  pub there : class_named w x ≡ Some class
  pub imported : class.is_imported ≡ true

-- Export files have java/lang/Throwable and the exceptions of the machine's own.
pub record HasLang (w : List Class) : Type 0 where
  pub throwable : IsImport w (codes "java/lang/Throwable")
  pub faults : (f : Fault) → IsImport w (fault_name f)

-- What names of scripts, exceptions and reports stand for is the same by the files and on the card.
pub record NamesAgree (w : List Class) (n : Naming) : Type 0 where
  pub class_named : (x : List ℕ) → class_on_card n.loaded x ≡ option_as n.class (name_there w x)
  pub imported : (x : List ℕ) → imported n.loaded x ≡ option_as n.class (plain_import w x)
  pub throwable : (x : List ℕ) → throwable n.loaded x ≡ option_as n.class (throwable_import w x)
  pub fault : (f : Fault) → fault_class n.loaded f ≡ option_as n.class (name_there w (Package.fault_name f))
  pub name : (x : List ℕ) → has_class w x ≡ true → name_of n.loaded (n.class x) ≡ x
