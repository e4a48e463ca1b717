-- Virtual methods that a package of a group reads of classes which it imports are public or protected: another package
-- lists no other, and files from outside have none.
use Rattle.std.proofs.Common.{◌≡◌, ℕ, ◌+◌, refl, sym, ap, ◌∙◌, Bool, true, false, List, Some, ⊎_elim}
use Rattle.std.specs.Prelude.{slice_get}
use Rattle.cjc_bytes.specs.AccessFlags.{is_interface}
use Rattle.cjc_bytes.proofs.Gets.{mapped_at}
use Rattle.cjc_components.specs.Package.{Package}
use Rattle.cjc_joint_proof.specs.JointPackages.{AreLinked, IsLinked, files_together, to_outside, to_package}
use Rattle.cjc_joint_proof.specs.JointTables.{world_together}
use Rattle.cjc_joint_proof.specs.Worlds.{before}
use Rattle.cjc_joint_proof.proofs.ClassLaws.{kept_in, number_in, together_at, token_in}
use Rattle.cjc_joint_proof.proofs.StandLaws.{Inside, Outside, stands}
use Rattle.cjc_joint_theorem.proofs.OrderedLaws.Standing.{Stands, class_stands, from_outside, of_member, own_class}
use Rattle.cjc_jvm_semantics.specs.Group.{is_of_group}
use Rattle.cjc_token_proof.proofs.WrittenCalls.Facts.{Facts}
use Rattle.cjc_token_proof.specs.Tables.Infos.{HasEntry}
use Rattle.cjc_tokens.specs.Members.{is_exposed, is_virtual}
use Rattle.cjc_world.specs.Classes.{Class, Member, class_named, declared, method_of_export}
use Rattle.cjc_world.specs.Files.{Files}
use Rattle.cjc_joint_whole.specs.Selected.{SelectTogether}
use Rattle.cjc_joint_whole.proofs.WholeLaws.TokenMeans.{ImportsAreExposed}
use Rattle.cjc_joint_whole.proofs.WholeLaws.TokensThrough.{listed_exposed}

clash : {b : Bool} → b ≡ true → b ≡ false → ⊥
clash e g = let no : true ≡ false = sym e ∙ g in cc

module _ (packages : List Package) (is : SelectTogether packages) (facts : (q : ℕ) (p : Package)
    → slice_get packages q ≡ Some p → Facts p) where
  abbrev group : List Files
  group = files_together packages

  linked : AreLinked packages
  linked = is.linked

  pub imports_exposed : (q : ℕ) (p : Package) → slice_get packages q ≡ Some p → ImportsAreExposed p
  imports_exposed q p it y d i m named import plain at virtual =
      by h (linked.imports q h.file p h.tree (record { member = it; file = h.in_list }))
    where
      h : HasEntry p d
      h = let f = facts q p it in f.file y d named import

      never : (h : HasEntry p d) → is_of_group group (let t = h.tree in t.name) ≡ false → (k : Class)
          → class_named (world_together packages) y ≡ Some k → k.is_imported ≡ false → ⊥
      never h out k known own = ⊎_elim inside beside (stands packages linked y k known)
        where
          inside : Inside packages linked y k → ⊥
          inside i =
              let no = linked.no_own (number_in packages linked q p it y d named h out) i.part h.tree i.«package»
              (declared i.place i.tree) y (let a = h.entry in a.token) (kept_in packages linked q p it y d named h out)
              (token_in packages linked q p it y d named h out) i.here i.there in
              clash no refl

          beside : Outside packages linked y k → ⊥
          beside o = clash (ap (λ (c : Class). c.is_imported) o.is) own

      outside : (h : HasEntry p d) → is_of_group group (let t = h.tree in t.name) ≡ false → (c k : Class)
          → Stands group q p.files c k → class_named (world_together packages) y ≡ Some k → c.is_imported ≡ true
          → is_interface c.flags ≡ false → slice_get c.methods i ≡ Some m → is_exposed m.flags ≡ true
      outside h out _ _ (own_class n t own) known far ground has = absurd (clash far refl)
      outside h out _ _ (from_outside a b x there) known far ground has =
          let z = mapped_at method_of_export x.methods i m has in
          ap (λ (k : Member). is_exposed k.flags) (sym z.2)
          ∙ is.exposed b i x z.0 there ground z.1 (ap is_virtual z.2 ∙ virtual)
      outside h out _ _ (of_member a x j k f t lt own name kind) known far ground has =
          absurd (never h out (declared (before group j + k) t) known refl)

      by : (h : HasEntry p d) → IsLinked packages q h.tree → is_exposed m.flags ≡ true
      by h (to_package r e before there same) =
          listed_exposed packages linked q r p e it there y d named import plain h same
          (let s = is.each r e there in s.own) i m at virtual
      by h (to_outside out) =
          let hs = class_stands group is.ordered q p.files (together_at packages linked q p it) y d named in
          outside h out d hs.class hs.stands hs.named import plain at
