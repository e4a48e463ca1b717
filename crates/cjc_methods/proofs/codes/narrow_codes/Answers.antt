use Rattle.std.proofs.Common.{ap, ◌∙◌}
use Rattle.std.specs.Prelude.{map}
use Rattle.cjc_pool.specs.NCode.PoolOrder.{pool_order}
use Rattle.cjc_narrow.specs.Rows.Selected.{near_fields}
use Rattle.cjc_int_package.specs.Written.{code_by_mode_at}
use Rattle.cjc_methods.proofs.Again.{by_own_pool}
use Rattle.cjc_bytes.proofs.Options.{if_more}
use Rattle.cjc_methods.proofs.codes.narrow_codes.Goals as goal

pub returns : goal.returns
returns c = λ t told.
    let files = c.args.world.now in
    let members = c.args.members.now in
    let first = c.in_ok-first.ensures t told in
    let pool = c.in_ok-pool.ensures ∙ ap pool_order c.items-3.ensures in
    if_more (λ ns e. by_own_pool files t members _ c.in_ok-first.first ns first (e
    ∙ ap (λ keys. map (code_by_mode_at files (near_fields keys) t) members) pool))
    c.settled.result (c.settled.ensures t c.new.result told first)
