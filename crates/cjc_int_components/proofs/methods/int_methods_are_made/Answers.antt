use Rattle.cjc_int_components.proofs.ByTables.{int_made}
use Rattle.cjc_int_components.proofs.methods.int_methods_are_made.Goals as goal

pub returns : goal.returns
returns c = λ n files near t m w code class method tree is at mode found least there some can. int_made files
    code class method tree is n m near t w at mode found least there some can
