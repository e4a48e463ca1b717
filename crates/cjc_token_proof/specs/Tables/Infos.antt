-- Where the class of a name is on the card: an info of the package, or a class of an export file.
use Rattle.std.specs.Prelude.{◌≡◌, ℕ, List, Some, None, slice_get}
use Rattle.cjc_world.specs.ExportFile.declared.tree.ExportClass.{ExportClass}
use Rattle.cjc_world.specs.ExportFile.declared.tree.ExportTree.{ExportTree}
use Rattle.cjc_card_semantics.specs.Machine.Classes.{Own, External, external, external_named, info_of, names_of}
use Rattle.cjc_card_semantics.specs.Machine.Classes.{number_named, number_of, offset_of}
use Rattle.cjc_card_semantics.specs.CapRead.declared.tree.ClassRef.TheVariants.{Inside, Outside}
use Rattle.cjc_world.specs.Classes.{Class, imported}
use Rattle.cjc_world.specs.Order.{class_order}
use Rattle.cjc_components.specs.Package.{Package, tokens, world}
use Rattle.cjc_components.specs.Names.{class_at, class_ref}
use Rattle.cjc_components.specs.Paired.Naming.{class_names}
use Rattle.cjc_token_proof.specs.Tables.Loading.{info_for, loaded, part}

-- A class or interface of the package has an info and names, by its number in the order of Class, and no export file
-- has its name.
pub record HasInfo (p : Package) (c : Class) : Type 0 where
  pub number : ℕ
  pub offset : ℕ
  pub ordered : slice_get (class_order (world p)) number ≡ Some c
  pub on_card : class_at p c.name ≡ Own 0 offset
  pub ref : class_ref p c.name ≡ Inside offset
  pub numbered : number_of (part p) offset ≡ Some number
  pub at : offset_of (part p) number ≡ Some offset
  pub named : (let q = part p in number_named q.classes c.name ≡ Some number)
  pub info : info_of (loaded p) 0 offset ≡ Some (info_for p c)
  pub names : names_of (loaded p) 0 offset ≡ Some (class_names p.files (tokens p) c)
  pub in_no_file : external_named (loaded p) c.name ≡ None

-- A class of an export file is found there by its name and by its token, and no info has its name.
pub record HasEntry (p : Package) (c : Class) : Type 0 where
  pub file : ℕ
  pub tree : ExportTree
  pub entry : ExportClass
  pub number : ℕ
  pub in_list : (let files = p.files in slice_get files.exports file ≡ Some tree)
  pub on_card : class_at p c.name ≡ External file entry.token
  pub ref : class_ref p c.name ≡ Outside file entry.token
  pub found : external_named (loaded p) c.name ≡ Some (External file entry.token)
  pub there : external (loaded p) file entry.token ≡ Some entry
  pub class : c ≡ imported number entry
  pub has_no_info : (let q = part p in number_named q.classes c.name ≡ None)

-- A name of no file is no class on the card.
pub record HasNone (p : Package) (x : List ℕ) : Type 0 where
  pub on_card : class_at p x ≡ Own 0 0
  pub in_no_file : external_named (loaded p) x ≡ None
  pub has_no_info : (let q = part p in number_named q.classes x ≡ None)
