use Rattle.cjc_subset.proofs.Clean.{clean_without_handlers}
use Rattle.cjc_subset.proofs.naming.is_clean.Goals as goal

pub returns : goal.returns
returns c = λ t f i. clean_without_handlers c.args.world.now f c.args.class.now i c.args.method.now c.args.insns.now
    (c.has_handlers.ensures c.if-has_handlers.false) (c.are_clean.ensures t f i)
