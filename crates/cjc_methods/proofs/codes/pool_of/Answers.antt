use Rattle.std.proofs.Common.{ap, ◌∙◌}
use Rattle.std.specs.Prelude.{map}
use Rattle.cjc_pool.specs.NCode.PoolOrder.{pool_order}
use Rattle.cjc_narrow.specs.Rows.Selected.{near_fields}
use Rattle.cjc_int_package.specs.Written.{code_by_mode_at}
use Rattle.cjc_bytes.proofs.Options.{if_more}
use Rattle.cjc_methods.proofs.codes.pool_of.Goals as goal

pub returns : goal.returns
returns c = λ t told.
    let files = c.args.world.now in
    let members = c.args.members.now in
    let codes = c.items.ensures ∙ c.in_ok-codes.ensures t told
    ∙ ap (λ keys. map (code_by_mode_at files (near_fields keys) t) members) c.new.ensures in
    if_more (λ pool e. e ∙ ap pool_order codes) c.number.result c.number.ensures
