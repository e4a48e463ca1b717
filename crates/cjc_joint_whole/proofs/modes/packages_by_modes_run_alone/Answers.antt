use Rattle.cjc_joint_whole.proofs.WholeLaws.CodeNames.{fixed_bound, own_fields}
use Rattle.cjc_joint_whole.proofs.modes.packages_by_modes_run_alone.Goals as goal

pub returns : goal.returns
returns c = λ list files judged t p laid is sends.
    let codes = judged.codes in
    let of = c.packages_by_modes_are_of_files.ensures list codes t p is in
    let opcodes = c.calls_of_files_have_opcodes.ensures list codes p is.checked in
    let joined = c.packages_by_modes_are_joined.ensures list codes t p is sends in
    let runnable = c.packages_by_modes_are_runnable.ensures list codes t p is joined.there in
    let checked = is.checked in
    record {
      list = list.name;
      runnable = runnable;
      joined = joined;
      named = c.calls_of_files_are_named.ensures list codes p of opcodes;
      words = c.methods_by_modes_take_their_words.ensures.words list p.files codes t p is.is_package;
      unbound = c.unbound_entries_are_own.ensures list files judged p laid checked.plain runnable.no_static;
      fields = own_fields list codes p of opcodes;
      bound = fixed_bound list codes p of opcodes;
    }
