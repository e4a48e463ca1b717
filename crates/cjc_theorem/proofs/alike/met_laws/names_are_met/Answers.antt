use Rattle.cjc_shape_proof.proofs.WrittenLaws.OfFiles.{is_of_files}
use Rattle.cjc_theorem.proofs.alike.met_laws.names_are_met.Goals as goal

pub returns-clause-met : goal.returns-clause-met
returns-clause-met c = λ list files judged p laid is. record {
  access = c.files_keep_promises.ensures.access list judged.codes p is;
  installs = c.files_keep_promises.ensures.applets list files judged p laid;
  classes = c.keys_are_known.ensures list judged.codes p is;
  types = c.types_are_known.ensures list files judged p laid is;
  members = c.members_are_there.ensures list files judged p laid is;
}

pub returns-clause-consistent : goal.returns-clause-consistent
returns-clause-consistent c = λ list files judged p is. c.converted_components_are_consistent.ensures list files judged
    p is (returns-clause-met c list files judged p (c.converted_packages_are_laid_out.ensures list files judged p is)
    (is_of_files list files judged p is))
