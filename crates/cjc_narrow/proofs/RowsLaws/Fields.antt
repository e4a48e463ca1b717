-- Fields as code names them, by name and in narrow code.
use Rattle.std.proofs.Common.{◌≡◌, ◌+◌, refl, Bool, true, false, List}
use Rattle.std.specs.Prelude.{Option, Some, None, option_map, option_and_then, if◌then◌else◌, ℤ}
use Rattle.cjc_types.specs.Bytes.declared.fault.MemberId.{MemberId}
use Rattle.cjc_types.specs.Bytes.AccessFlags.{is_static}
use Rattle.cjc_jvm_semantics.specs.LowerScript.Sorts.{Signature, signature_of}
use Rattle.cjc_types.specs.World.declared.found.Found.{Found}
use Rattle.cjc_types.specs.World.declared.image.StaticImage.{StaticImage}
use Rattle.cjc_types.specs.World.Files.{Files}
use Rattle.cjc_types.specs.World.Classes.{Class, all_classes}
use Rattle.cjc_types.specs.World.Lookup.{find_field}
use Rattle.cjc_ncode.specs.Written.{words_by}
use Rattle.cjc_jvm_semantics.specs.Linked.{ResolvedField, Constant, Static, Instance}
use Rattle.cjc_jvm_semantics.specs.OnePackage.{ResolvedMember, of_class, field_hit, field_by, constant_at}
use Rattle.cjc_jvm_semantics.specs.ByName.{linked}
use Rattle.cjc_narrow.specs.Rows.Resolved.{by_owner, resolution, parameter_words}
use Rattle.cjc_narrow.specs.Rows.Names.{FieldsAgreeIn, IsCounted}

module _ (files : Files) (w : List Class) (id : MemberId) where
  -- by name, and the two halves of what is written
  abbrev by_name : Option Found → Option ResolvedField
  by_name found = option_and_then (λ f. option_map (field_by (constant_at files f) id) (field_hit w f)) found

  abbrev written_field : Option Found → MemberId
  written_field found = by_owner id (option_and_then (field_hit w) found)

  abbrev written_constant : Option Found → Option ℤ
  written_constant found = option_and_then (constant_at files) found

  static_or : (b : Bool) (x f : MemberId) → Some (if b then Static x else Instance x) ≡ Some (Static f) → x ≡ f
  static_or true x f e = cc
  static_or false x f e = cc

  instance_or : (b : Bool) (x f : MemberId) → Some (if b then Static x else Instance x) ≡ Some (Instance f) → x ≡ f
  instance_or true x f e = cc
  instance_or false x f e = cc

  no_constant : (b : Bool) (x : MemberId) (z : ℤ) → Some (if b then Static x else Instance x) ≡ Some (Constant z)
      → None ≡ Some z
  no_constant true x z e = cc
  no_constant false x z e = cc

  constant_hit : (hit : Option ResolvedMember) (value : Option ℤ) (z : ℤ) → option_map (field_by value id) hit
      ≡ Some (Constant z) → value ≡ Some z
  constant_hit None value z e = cc
  constant_hit (Some hit) (Some v) z e = cc
  constant_hit (Some hit) None z e = no_constant (is_static hit.flags) (let owner = hit.owner in of_class owner.name id)
      z e

  static_hit : (hit : Option ResolvedMember) (value : Option ℤ) (f : MemberId) → option_map (field_by value id) hit
      ≡ Some (Static f) → (value ≡ None) × (by_owner id hit ≡ f)
  static_hit None value f e = cc
  static_hit (Some hit) (Some v) f e = cc
  static_hit (Some hit) None f e = (
    refl,
    static_or (is_static hit.flags) (let owner = hit.owner
        in of_class owner.name id) f e,
  )

  instance_hit : (hit : Option ResolvedMember) (value : Option ℤ) (f : MemberId) → option_map (field_by value id) hit
      ≡ Some (Instance f) → by_owner id hit ≡ f
  instance_hit None value f e = cc
  instance_hit (Some hit) (Some v) f e = cc
  instance_hit (Some hit) None f e = instance_or (is_static hit.flags) (let owner = hit.owner in of_class owner.name id)
      f e

  constant_found : (found : Option Found) (z : ℤ) → by_name found ≡ Some (Constant z) → written_constant found ≡ Some z
  constant_found None z e = cc
  constant_found (Some f) z e = constant_hit (field_hit w f) (constant_at files f) z e

  static_found : (found : Option Found) (g : MemberId) → by_name found ≡ Some (Static g)
      → (written_constant found ≡ None) × (written_field found ≡ g)
  static_found None g e = cc
  static_found (Some f) g e = static_hit (field_hit w f) (constant_at files f) g e

  instance_found : (found : Option Found) (g : MemberId) → by_name found ≡ Some (Instance g) → written_field found ≡ g
  instance_found None g e = cc
  instance_found (Some f) g e = instance_hit (field_hit w f) (constant_at files f) g e

pub fields_agree : (files : Files) (image : StaticImage) (near : List MemberId) → FieldsAgreeIn files image near
unfolding linked resolution
fields_agree files image near holder id = record {
  constant = constant_found files (all_classes files) id (find_field (all_classes files) id.class id.name id.desc);
  static = static_found files (all_classes files) id (find_field (all_classes files) id.class id.name id.desc);
  instance = instance_found files (all_classes files) id (find_field (all_classes files) id.class id.name id.desc);
}

pub counted : (m : MemberId) → IsCounted m
counted m = by (signature_of m.desc)
  where
    by : (types : Option Signature) → words_by types ≡ 1 + parameter_words types
    by None = refl
    by (Some types) = refl
