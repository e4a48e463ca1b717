use Rattle.cjc_components.specs.Bytecode.PackageCodes.{all_codes}
use Rattle.cjc_shape_proof.proofs.WrittenLaws.OfFiles.{is_of_files}
use Rattle.cjc_joint_whole.proofs.WholeLaws.CodeNames.{fixed_bound, own_fields}
use Rattle.cjc_joint_whole.proofs.tokens.converted_packages_run_alone.Goals as goal

pub returns : goal.returns
returns c = λ list files judged p is sends.
    let joined = c.converted_packages_are_joined.ensures list files judged p is sends in
    let of = is_of_files list files judged p is in
    let opcodes = c.calls_have_opcodes.ensures list files judged is.sound in
    let laid = is.is_package in
    let codes = (let w = p.files in all_codes w.classes) in
    record {
      list = list.name;
      runnable = c.converted_packages_are_runnable.ensures list files judged p is joined.there;
      joined = joined;
      named = c.calls_are_named.ensures list files judged p is;
      words = c.methods_take_their_words.ensures list p.files codes laid.rows p laid.is_package;
      unbound = c.converted_packages_list_methods.ensures.entries list files judged p is;
      fields = own_fields list judged.codes p of opcodes;
      bound = fixed_bound list judged.codes p of opcodes;
    }
