use Rattle.cjc_pool.proofs.Tokens.{few_where}
use Rattle.cjc_pool.proofs.pool.test_count.Goals as goal

pub returns-clause-few : goal.returns-clause-few
returns-clause-few c = few_where c.args.count c.answer.result _ (c.answer.ensures.ok _ c.broken.ensures)
