use Rattle.cjc_accepted_modes.proofs.ReadLaws.{types_are}
use Rattle.cjc_accepted_modes.proofs.served.methods_in_int_mode_are_served.Goals as goal
use Rattle.cjc_accepted_theorem.proofs.ThrownLaws.{thrown}
use Rattle.cjc_shape_proof.proofs.WrittenLaws.Checked.{files_sound}
use Rattle.cjc_verified_proof.proofs.TokenProofOrder.{own_names}
use Rattle.cjc_verified_proof.specs.Components.Names.{class_ref}
use Rattle.cjc_verified_proof.specs.Components.Package.{world}

pub returns : goal.returns
returns c = λ list files judged t p is by_modes m k b v there.
    let of = is.of_files in
    let sound = files_sound list judged.codes p of.checked in
    let apart = own_names list.name p.files sound in
    let types = types_are list judged.codes p of apart is.methods
    (c.methods_are_cut.ensures.whole p apart is.methods is.writable)
    (c.converted_methods_begin.ensures list files judged p is)
    (c.converted_packages_have_card_types.ensures list files judged p is)
    (c.types_are_known.ensures list files judged p is.laid of) t by_modes m k b v there
    (c.converted_methods_are_read.ensures list files judged p is k v there) in
    record {
      subtypes = c.converted_packages_have_their_types.ensures.subtypes list files judged p is;
      arrays = c.types_of_arrays_agree.ensures (world p) (class_ref p);
      returned = types.result;
      exceptions = thrown list.name p sound;
    }
