use Rattle.std.proofs.Common.{List, Option, ap, ◌∙◌}
use Rattle.std.specs.Prelude.{slice_get}
use Rattle.cjc_card_semantics.specs.CapRead.declared.tree.PoolEntry.{PoolEntry}
use Rattle.cjc_card_semantics.specs.Machine.Loaded.{Part}
use Rattle.cjc_card_frame.specs.Kinds.{pool_in}
use Rattle.cjc_card_link.proofs.tables.Tables.entry_numbered.Goals as goal

pub returns-in-Some : goal.returns-in-Some
returns-in-Some c =
    c.entry_at.ensures ∙ ap (λ (xs : List PoolEntry). slice_get xs c.args.index) c.pool.ensures
    ∙ ap (λ (o : Option Part). slice_get (pool_in o) c.args.index) c.in-Some.ensures

pub returns-in-None : goal.returns-in-None
returns-in-None c = ap (λ (o : Option Part). slice_get (pool_in o) c.args.index) c.in-None.ensures
