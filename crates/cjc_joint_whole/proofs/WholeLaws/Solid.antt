-- What each package of a group keeps by itself, as one that breaks no rule.
use Rattle.std.proofs.Common.{◌≡◌, ℕ, List, Some, false, subst}
use Rattle.std.specs.Prelude.{slice_get}
use Rattle.cjc_bytes.specs.declared.settings.Settings.{Settings}
use Rattle.cjc_components.specs.Bytecode.declared.method_code.MethodCode.{MethodCode}
use Rattle.cjc_world.specs.Classes.{Class, all_classes, class_named}
use Rattle.cjc_world.specs.Files.{Files}
use Rattle.cjc_world.specs.Subtype.{starts}
use Rattle.cjc_narrow_proof.specs.Laws.Unbroken.{AreSpelt}
use Rattle.cjc_narrow_proof.proofs.LawsLaws.ClassNames.{each_name}
use Rattle.cjc_narrow_proof.proofs.TablesLaws.Spelt.{class_read}
use Rattle.cjc_shape_proof.specs.WorldProof.Calls.Solid.{IsSolid}
use Rattle.cjc_token_proof.proofs.WorldProofSolid.{solid}
use Rattle.cjc_joint_theorem.specs.Members.{Member, files_of}
use Rattle.cjc_joint_theorem.proofs.MembersLaws.Worlds.{member_at}
use Rattle.cjc_joint_whole.specs.Whole.{AreWholeWith, IsReadPackage}

module _ (list : List ℕ) (files : Files) (codes : List MethodCode) (settings : Settings)
    (whole : IsReadPackage list files codes settings) where
  pub spelt : AreSpelt files
  spelt = record { package_name = whole.package_name; exports = (let s = whole.sound in s.names) }

  plain : (x : List ℕ) (c : Class) → class_named (all_classes files) x ≡ Some c → starts 91 x ≡ false
  plain x c e = let h = class_read x (each_name files list (let u = whole.unbroken in u.listed) (let u = whole.unbroken
      in u.world) spelt x c e) in h.no_array

  pub is_solid : IsSolid files
  is_solid = solid list files codes settings (record {
    world = (let u = whole.unbroken in u.world);
    checks = (let u = whole.unbroken in u.checks);
    read = whole.read;
    sound = whole.sound;
  }) plain

module _ {K : _} (members : List Member) (is : AreWholeWith K members) where
  pub solid_at : (q : ℕ) (p : Member) → slice_get members q ≡ Some p → IsSolid p.files
  solid_at q p at = let one = is.each q p at in is_solid one.list p.files one.codes one.settings one.whole

  pub each_solid : (q : ℕ) (f : Files) → slice_get (files_of members) q ≡ Some f → IsSolid f
  each_solid q f at = let m = member_at members q f at in subst IsSolid m.2 (solid_at q m.0 m.1)
