use Rattle.std.proofs.Common.{List, ap, ◌∙◌, to_z-of_z}
use Rattle.cjc_card_semantics.specs.CapRead.declared.tree.PoolEntry.{PoolEntry}
use Rattle.cjc_card_semantics.specs.Machine.Operations.{entry}
use Rattle.cjc_card_link.proofs.tables.Tables.pool_entry.Goals as goal

pub returns : goal.returns
returns c =
    c.entry.ensures
    ∙ ap (λ i. entry c.pool.result.now i) (to_z-of_z c.ranges.index)
    ∙ ap (λ (xs : List PoolEntry). entry xs c.args.index) c.pool.ensures
