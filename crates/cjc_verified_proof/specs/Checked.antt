-- Packages whose components the type checker passes.
use Rattle.std.specs.Prelude.{◌≡◌, ℕ, nat_lt, length, List, [], slice_get, Some}
use Rattle.cjc_verify.specs.List.Listed.{ListTree}
use Rattle.cjc_check_rules.specs.ClassRefs.{class_ref_spots, super_spots}
use Rattle.cjc_check_rules.specs.Codes.{whole_spots}
use Rattle.cjc_check_rules.specs.Complete.{Complete}
use Rattle.cjc_check_rules.specs.Described.{descriptor_spots}
use Rattle.cjc_check_rules.specs.Handlers.{handler_spots}
use Rattle.cjc_check_rules.specs.Instructions.{index_spots, jump_spots}
use Rattle.cjc_check_rules.specs.PoolEntries.{pool_spots}
use Rattle.cjc_check_rules.specs.Statics.{image_spots}
use Rattle.cjc_world.specs.ExportFile.declared.tree.ExportTree.{ExportTree}
use Rattle.cjc_world.specs.ExportFile.Writable.{IsWritable}
use Rattle.cjc_intervals.specs.Bytecode.declared.method_code.MethodCode.{MethodCode}
use Rattle.cjc_world.specs.declared.image.StaticImage.{StaticImage}
use Rattle.cjc_world.specs.Files.{Files}
use Rattle.cjc_verify.specs.Clinit.Image.{IsImage}
use Rattle.cjc_token_proof.specs.LowerWorldProof.Initialisers.Values.{StandOnce}
use Rattle.cjc_components.specs.Paired.Pairs.{ArePaired}
use Rattle.cjc_token_proof.specs.Tables.Sound.{IsSound, AreTyped, AreFieldDescs}
use Rattle.cjc_verify.specs.Pairs.{Pair, pair_of}
use Rattle.cjc_verify.specs.Verified.{IsVerified}
use Rattle.cjc_verified_proof.specs.Entries.{AreCounted, AreRefs}
use Rattle.cjc_verified_proof.specs.PackageTypes.{HasNoObject, StaticInInterfaces}

-- A package by its list, its read files, the code of its methods and what its static fields hold at first, with
-- components.
pub record Checked : Type 0 where
  pub name : List ℕ
  pub list : ListTree
  pub files : Files
  pub codes : List MethodCode
  pub image : StaticImage
  pub components : Complete

-- the components beside the package
abbrev pub pair : Checked → Pair
pair c = let l = c.list in pair_of (nat_lt 0 (length l.applets)) c.files c.image c.components

-- The files keep the rules of classes and fields, and the image is that of the initialisers; 705, 716, 718 and 719 are
-- not broken, and no rule of the type checker is.
pub record IsChecked (c : Checked) : Type 0 where
  pub sound : IsSound c.name c.files
  pub typed : AreTyped c.files
  pub descs : AreFieldDescs c.files
  pub static_ones : StaticInInterfaces c.files
  pub no_object : (let p = pair c in HasNoObject p.loaded)
  pub initialised : IsImage c.files c.codes c.image
  pub once : StandOnce c.files c.codes
  pub supers : (let f = c.files in super_spots c.components f.exports) ≡ []
  pub cells : (let p = c.components in image_spots p.statics) ≡ []
  pub described : descriptor_spots c.components ≡ []
  pub paired : ArePaired c.files c.image c.components
  pub verified : IsVerified (pair c)

-- Methods, instructions, handlers and entries are those of a package: 704 and 709 to 712 are not broken, nor the rule
-- of
-- what entries name; entries and Descriptor name what bytes spell, and export files are written so.
pub record HasCode (c : Checked) : Type 0 where
  pub class_refs : (let f = c.files in class_ref_spots c.components f.exports) ≡ []
  pub whole : whole_spots c.components ≡ []
  pub jumps : jump_spots c.components ≡ []
  pub indices : index_spots c.components ≡ []
  pub handlers : handler_spots c.components ≡ []
  pub refs : AreRefs c.components
  pub counted : AreCounted c.files
  pub pool : (let f = c.files in pool_spots c.components f.exports) ≡ []
  pub written : (e : ℕ) (t : ExportTree) → (let f = c.files in slice_get f.exports e) ≡ Some t → IsWritable t
