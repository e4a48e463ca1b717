use Rattle.cjc_components.specs.Package.{Package}
use Rattle.cjc_shape_proof.proofs.WrittenLaws.Checked.{own_solid}
use Rattle.cjc_shape_proof.specs.LowerJudge.declared.judged.Judged.{Judged}
use Rattle.cjc_shape_proof.specs.Written.Checked.{IsOfFiles}
use Rattle.cjc_joint_whole.specs.ByModes.{IsWrittenByModes}
use Rattle.cjc_joint_whole.proofs.modes.packages_by_modes_are_grouped.Goals as goal

of_files : goal.After-packages_of_files_name_faces → (p : Package) (x : IsWrittenByModes p)
    → IsOfFiles x.list (let j = x.judged in j.codes) p
of_files c p x = let j = x.judged in c.packages_by_modes_are_of_files.ensures x.list j.codes x.tables p x.converted

pub returns : goal.returns
returns c = λ packages keeps written fair open_ones known.
    let alone = c.packages_by_modes_select_alone.ensures in
    let own = c.packages_of_files_name_faces.ensures in
    record {
      keeps = keeps;
      each = λ q p here. (let x = written q p here in
          alone.selects x.list x.files x.judged x.tables p x.laid x.converted x.sends);
      above = λ q p here. (let x = written q p here in let j = x.judged in
          alone.above x.list j.codes x.tables p x.converted x.kinds);
      ordered = λ q p here. (let x = written q p here in let j = x.judged in let k = x.converted in
          let s = own_solid x.list j.codes p k.checked in s.ordered);
      fair = fair;
      open_interfaces = open_ones;
      faces = λ q p here. (let x = written q p here in let j = x.judged in
          own.faces x.list j.codes p (of_files c p x));
      access = λ q p here. (let x = written q p here in let j = x.judged in
          own.access x.list j.codes p (of_files c p x));
      known = known;
    }
