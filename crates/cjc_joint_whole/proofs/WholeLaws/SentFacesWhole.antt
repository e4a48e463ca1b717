-- Packages that break no rule, as members of a group, have for methods of interfaces what scripts that send them rest
-- on.
use Rattle.std.proofs.Common.{◌≡◌, ℕ, zero, suc, refl, sym, ap, subst, ◌∙◌, Bool, true, false, List, [], ◌∷◌, Some}
use Rattle.std.proofs.Common.{inr, ⊎_elim}
use Rattle.std.specs.Prelude.{◌||◌, slice_get}
use Rattle.cjc_bytes.specs.AccessFlags.{is_abstract, is_interface}
use Rattle.cjc_components.specs.Package.{Package, world}
use Rattle.cjc_joint_proof.specs.JointPackages.{files_together}
use Rattle.cjc_joint_theorem.specs.Members.{Member, files_of}
use Rattle.cjc_joint_theorem.specs.Together.Homes.{joint_world}
use Rattle.cjc_joint_theorem.proofs.MembersLaws.Worlds.{member_at}
use Rattle.cjc_jvm_semantics.specs.Group.{is_open, own_where}
use Rattle.cjc_jvm_semantics.specs.OnePackage.{is_constructor, is_initialiser}
use Rattle.cjc_token_proof.specs.WrittenSends.Sends.{ExportsSend}
use Rattle.cjc_world.specs.Classes.{Class, Member as WorldMember, all_classes, class_named}
use Rattle.cjc_world.specs.Files.{Files}
use Rattle.cjc_world.specs.Lookup.{first}
use Rattle.cjc_world.specs.Supertypes.{line}
use Rattle.cjc_world.specs.Upwards.{Below}
use Rattle.cjc_world.specs.declared.found.Found.{Found}
use Rattle.cjc_joint_whole.specs.SentFaces.{FacesStand}
use Rattle.cjc_joint_whole.specs.Told.{IsDeclaredAbove, IsToldAbove}
use Rattle.cjc_joint_whole.specs.Whole.{AreWholeWith}
use Rattle.cjc_joint_whole.proofs.WholeLaws.Implemented.{interface_has}
use Rattle.cjc_joint_whole.proofs.WholeLaws.OwnKept.{interface_open, kept_at}
use Rattle.cjc_joint_whole.proofs.WholeLaws.Sources.{source}

neither : (a b : Bool) → a ≡ false → b ≡ false → (a || b) ≡ false
neither false false e f = refl
neither true b e f = absurd cc
neither false true e f = absurd cc

files_there : (packages : List Package) (q : ℕ) (p : Package) → slice_get packages q ≡ Some p
    → slice_get (files_together packages) q ≡ Some p.files
files_there [] q p e = cc
files_there (x ∷ packages) zero p e = let is : x ≡ p = cc in ap (λ (y : Package). Some y.files) is
files_there (x ∷ packages) (suc q) p e = files_there packages q p e

module _ {K : _} (members : List Member) (is : AreWholeWith K members) (tell : IsToldAbove members) where
  -- in the joint world of these files, a class file of which objects may be has a method for each of an interface
  abbrev AreImplementedIn : List Files → Type 0
  AreImplementedIn group = (x : List ℕ) (c : Class) → class_named (joint_world group) x ≡ Some c
      → c.is_imported ≡ false → is_interface c.flags ≡ false → is_abstract c.flags ≡ false → (k : ℕ) (z : Class)
      (m : WorldMember) → class_named (joint_world group) z.name ≡ Some z → is_interface z.flags ≡ true
      → Below (joint_world group) x z.name → slice_get z.methods k ≡ Some m → is_open m.flags ≡ true
      → is_constructor m.name ≡ false → is_initialiser m.name ≡ false → (f : Found)
      × (first (own_where is_open m.name m.desc) (line (joint_world group) x) ≡ Some f)

  are_implemented : AreImplementedIn (files_of members)
  are_implemented x c named mine plain made k z m named_z it way there open_one ordinary initial =
      interface_has members is tell (record { class = x; name = m.name; desc = m.desc }) initial ordinary
      (neither (is_constructor m.name) (is_initialiser m.name) ordinary initial) z named_z it k m there refl refl
      open_one x (record { class = c; named = named; no_interface = plain; made = inr made }) mine way

  module _ (packages : List Package) (same : files_of members ≡ files_together packages)
      (sends : (q : ℕ) (p : Package) → slice_get packages q ≡ Some p → ExportsSend p) where
    -- the member of the files of a package
    its_member : (q : ℕ) (p : Package) → slice_get packages q ≡ Some p → (g : Member)
        × (slice_get members q ≡ Some g) × (g.files ≡ p.files)
    its_member q p here = member_at members q p.files (ap (λ (group : List Files). slice_get group q) same
        ∙ files_there packages q p here)

    opened : (q k : ℕ) (p : Package) (y : List ℕ) (i : Class) (m : WorldMember) → slice_get packages q ≡ Some p
        → class_named (world p) y ≡ Some i → is_interface i.flags ≡ true → slice_get i.methods k ≡ Some m
        → is_initialiser m.name ≡ false → is_open m.flags ≡ true
    opened q k p y i m here known it there initial =
        let g = its_member q p here in
        interface_open (let r = g.0 in r.files) (kept_at members is q g.0 g.1) y i k m
        (subst (λ (f : Files). class_named (all_classes f) y ≡ Some i) (sym g.2) known) it there initial

    declared : (q k : ℕ) (p : Package) (y : List ℕ) (i : Class) (m : WorldMember) → slice_get packages q ≡ Some p
        → class_named (world p) y ≡ Some i → is_interface i.flags ≡ true → slice_get i.methods k ≡ Some m
        → is_open m.flags ≡ true → is_constructor m.name ≡ false
        → (d : IsDeclaredAbove (joint_world (files_together packages)) y m.name m.desc)
        × ((let c = d.class in is_interface c.flags) ≡ true)
    declared q k p y i m here known it there open_one ordinary =
        let g = its_member q p here in
        let s = source members is tell q g.0 g.1 y i (subst (λ (f : Files). class_named (all_classes f) y ≡ Some i)
        (sym g.2) known) k m there open_one ordinary in
        subst (λ (group : List Files). (d : IsDeclaredAbove (joint_world group) y m.name m.desc)
        × ((let c = d.class in is_interface c.flags) ≡ true)) same (
          s.0,
          ⊎_elim (λ one. one.1 ∙ it) (λ bare. bare.0) s.1,
        )

    pub faces_stand : FacesStand packages
    faces_stand = record {
      sends = sends;
      opened = opened;
      declared = declared;
      implemented = subst AreImplementedIn same are_implemented;
    }
