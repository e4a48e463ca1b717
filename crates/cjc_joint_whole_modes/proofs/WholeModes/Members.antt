-- Packages by the modes of their methods that break no rule are members of a group.
use Rattle.std.proofs.Common.{ℕ, Bool, List}
use Rattle.cjc_jvm_semantics.specs.Linked.{Method}
use Rattle.cjc_joint_theorem.specs.Members.{Member}
use Rattle.cjc_joint_modes.specs.Members.{AreMembersByModes}
use Rattle.cjc_joint_whole.proofs.WholeLaws.Imports.{imports_told}
use Rattle.cjc_joint_whole.proofs.WholeLaws.Members.{specials_stay}
use Rattle.cjc_joint_whole_modes.specs.Whole.{AreWholeByModes}
use Rattle.cjc_joint_whole_modes.proofs.WholeModes.Reached.{reached_by_mode}

pub are_members : (members : List Member) (modes : ℕ → Method → Bool) → AreWholeByModes members modes
    → AreMembersByModes members modes
are_members members modes is = record {
  each = λ q p at. (let one = is.each q p at in let coded = one.coded in coded.narrowed);
  sound = is.sound;
  outside = is.outside;
  imports = imports_told members is;
  told = is.told;
  specials = λ q p at m has. specials_stay members is q p at m (let t = p.tables in t.types m)
      (λ place i x there row. reached_by_mode members modes is q p at m place i x there row);
  int_specials = λ q p at m has. specials_stay members is q p at m (let t = p.tables in t.types m)
      (λ place i x there row. reached_by_mode members modes is q p at m place i x there row);
}
