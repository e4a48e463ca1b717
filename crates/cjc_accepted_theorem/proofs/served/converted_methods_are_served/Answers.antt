use Rattle.cjc_accepted_theorem.proofs.ThrownLaws.{thrown}
use Rattle.cjc_accepted_theorem.proofs.served.converted_methods_are_served.Goals as goal
use Rattle.cjc_verified_proof.specs.Components.Names.{class_ref}
use Rattle.cjc_verified_proof.specs.Components.Package.{world}

pub returns : goal.returns
returns c = λ list files judged p is m b. record {
  subtypes = c.converted_packages_have_their_types.ensures.subtypes list files judged p is;
  few = c.converted_packages_have_their_types.ensures.few list files judged p is;
  arrays = c.types_of_arrays_agree.ensures (world p) (class_ref p);
  returned = b.result;
  exceptions = thrown list.name p is.runs.sound;
}
