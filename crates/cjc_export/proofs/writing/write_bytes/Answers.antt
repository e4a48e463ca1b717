use Rattle.std.proofs.Common.{subst, sym}
use Rattle.std.specs.Prelude.{All}
use Rattle.cjc_export.specs.Writable.{ConstantFits}
use Rattle.cjc_export.proofs.Fitting.{constants_fit, counts_fit}
use Rattle.cjc_export.proofs.writing.write_bytes.Goals as goal

pub put_file-requires-clause-texts : goal.put_file-requires-clause-texts
put_file-requires-clause-texts c = subst (All ConstantFits) (sym c.in_ok-pool.ensures) (constants_fit c.args.tree.now
    c.requires)

pub put_file-requires-clause-classes : goal.put_file-requires-clause-classes
put_file-requires-clause-classes c = counts_fit c.args.tree.now c.requires
