use Rattle.cjc_int_components.proofs.ByTables.{int_written}
use Rattle.cjc_int_components.proofs.methods.int_methods_can_be_written.Goals as goal

pub returns : goal.returns
returns c = λ n files code class method tree is rows least ranges r m made wide few said. int_written
    files code class method tree is n m rows least ranges r made wide few said
