use Rattle.cjc_int_theorem.proofs.OfFiles.{catches_own}
use Rattle.cjc_int_theorem.proofs.Methods.{are_methods, code_named}
use Rattle.cjc_int_theorem.proofs.joined.packages_by_modes_are_of_files.Goals as goal

pub returns : goal.returns
returns c = λ list codes t p is. record {
  checked = is.checked;
  methods = are_methods list codes t p is;
  names = code_named list codes t p is;
  catches = catches_own list codes t p is;
}
