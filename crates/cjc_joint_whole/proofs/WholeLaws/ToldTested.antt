-- What rules that are tested give of each package of a group by itself, and so of the export file that is written for
-- it: of virtual methods it lists those that its classes mean by their tokens, and of these each public or protected
-- one.
use Rattle.std.proofs.Common.{◌≡◌, ℕ, List, [], Some, subst, sym}
use Rattle.std.specs.Prelude.{slice_get}
use Rattle.cjc_bytes.specs.declared.settings.Settings.{Settings}
use Rattle.cjc_components.specs.Bytecode.declared.method_code.MethodCode.{MethodCode}
use Rattle.cjc_components.specs.Package.{Package}
use Rattle.cjc_shape_proof.specs.WorldProof.Calls.Solid.{IsSolid}
use Rattle.cjc_token_proof.specs.Subset.Checks.{check_breaks}
use Rattle.cjc_token_proof.specs.Tables.Sound.{IsSound}
use Rattle.cjc_vtable.specs.Kept.{IsKept, Keeps}
use Rattle.cjc_vtable.proofs.Clean.{breaks_none}
use Rattle.cjc_vtable.proofs.Keeping.{keeps}
use Rattle.cjc_world.proofs.Settled.{AreSupertypes-one, supertypes-AreSupertypes}
use Rattle.cjc_world.specs.Classes.{all_classes}
use Rattle.cjc_world.specs.ExportFile.declared.tree.ExportTree.{ExportTree}
use Rattle.cjc_world.specs.Files.{Files}
use Rattle.cjc_joint_theorem.specs.Members.{Member}
use Rattle.cjc_joint_theorem.proofs.MembersLaws.Worlds.{files_at}
use Rattle.cjc_joint_whole.specs.Entries.{MeantAreListed, VirtualAreOwn}
use Rattle.cjc_joint_whole.specs.Whole.{AreWholeWith, IsWrittenFor}
use Rattle.cjc_joint_whole.proofs.WholeLaws.Solid.{solid_at}
use Rattle.cjc_joint_whole.proofs.WholeLaws.VirtualEntries.{meant_are_listed, virtual_are_own}

-- Files that break no rule of one package, and what that gives of their classes.
pub record IsTested (files : Files) : Type 0 where
  pub list : List ℕ
  pub codes : List MethodCode
  pub settings : Settings
  pub sound : IsSound list files
  pub checks : check_breaks list files codes settings ≡ []
  pub solid : IsSolid files
  pub keeps : Keeps (all_classes files)

module _ {K : _} (members : List Member) (is : AreWholeWith K members) where
  pub tested_at : (q : ℕ) (p : Member) → slice_get members q ≡ Some p → IsTested p.files
  tested_at q p at =
      let one = is.each q p at in
      let whole = one.whole in
      let u = whole.unbroken in
      let all = is.sound.each q p.files (files_at members q p at) in
      let s = all.sound in
      let solid = solid_at members is q p at in
      let order = solid.ordered in
      let its : IsKept one.list p.files one.codes one.settings = record {
        unbroken = breaks_none one.list p.files one.codes one.settings u.world u.checks;
        read = s.read;
        agree = one.agree;
      } in
      record {
        list = one.list;
        codes = one.codes;
        settings = one.settings;
        sound = record { classes = s.classes; exports = s.exports; read = s.read; names = s.names; unbroken = u.world };
        checks = u.checks;
        solid = solid;
        keeps = keeps one.list p.files one.codes one.settings its order.acyclic
            (supertypes-AreSupertypes (all_classes p.files) order.acyclic) (AreSupertypes-one (all_classes p.files));
      }

  module _ (j : ℕ) (m : Member) (at : slice_get members j ≡ Some m) (t : ExportTree) (written : IsWrittenFor m.files t)
    where
      abbrev exporter : Package
      exporter = written.exporter

      tested : IsTested (let p = exporter in p.files)
      tested = subst IsTested (sym written.same_files) (tested_at j m at)

      -- of virtual methods the export file lists those that the classes mean
      pub virtuals_of : VirtualAreOwn written.exporter
      virtuals_of =
          let k = tested in
          let s = k.solid in
          let all = k.keeps in
          virtual_are_own k.list exporter k.codes k.settings k.sound k.checks s.ordered all.rules

      -- and each public or protected one
      pub meant_of : MeantAreListed written.exporter
      meant_of =
          let k = tested in
          let s = k.solid in
          let all = k.keeps in
          meant_are_listed k.list exporter k.codes k.settings k.sound k.checks s.ordered all.rules
