use Rattle.std.proofs.Common.{◌∙◌, ap, List, map}
use Rattle.std.specs.Prelude.{[], flat_map}
use Rattle.indexmap.specs.IndexSet.{insert_all}
use Rattle.cjc_narrow.specs.LowerNCode.PoolOrder.{pool_order, same_key}
use Rattle.cjc_narrow.specs.LowerNCode.declared.narrow.NMethod.{NMethod}
use Rattle.cjc_pool.specs.Working.Calls.{key_token, method_calls}
use Rattle.cjc_pool.proofs.Tokens.{token_found}
use Rattle.cjc_pool.proofs.pool.build.Goals as goal

pub returns-clause-made : goal.returns-clause-made
returns-clause-made c =
    let calls = c.in_ok-calls.ensures ∙ ap (λ (ms : List NMethod). insert_all same_key [] (flat_map method_calls ms))
    c.items-3.ensures in
    let tokens = c.in_ok-tokens.ensures ∙ ap (map (key_token c.args.world.now c.args.tokens.now)) (c.items-4.ensures
    ∙ c.keys-2.ensures) in
    record {
      keys = c.in_ok-numbers.ensures ∙ ap pool_order c.items.ensures;
      token = token_found c.args.world.now c.args.tokens.now c.args.methods.now c.in_ok-numbers.numbers
          c.in_ok-calls.calls c.in_ok-tokens.tokens calls tokens;
    }
