use Rattle.std.proofs.Common.{List, subst, sym}
use Rattle.cjc_joint_files.proofs.reports.ready_packages_run_alike.Goals as goal
use Rattle.cjc_link_semantics.specs.Loaded.{Member}
use Rattle.cjc_link_semantics.specs.Together.{BehaveAlike}

pub returns : goal.returns
returns c = λ input name script group tree packages first starts few ready of fair.
    let law = c.ready_packages_are_written_together.ensures in
    let members = law.members input name script group tree packages ready of in
    let together = law.together input name script group tree packages ready of in
    record {
      members = members;
      alike = subst (λ (g : List Member). BehaveAlike g) (sym members)
          (c.written_packages_run_alike.ensures packages first starts few together fair);
    }
