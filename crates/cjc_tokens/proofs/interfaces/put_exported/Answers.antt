use Rattle.std.proofs.Common.{◌≡◌, ◌-◌, ◌<◌, ◌≤◌, ap, map, length, arith}
use Rattle.cjc_world.specs.Classes.{method_of_export}
use Rattle.cjc_world.specs.Added.{by_token, without_initialiser}
use Rattle.cjc_tokens.specs.Members.{signature_of}
use Rattle.cjc_tokens.specs.Slots.{with_new}
use Rattle.cjc_tokens.specs.Working.{signs}
use Rattle.cjc_tokens.proofs.Asked.{by_token-next, by_token-end}
use Rattle.cjc_tokens.proofs.interfaces.put_exported.Goals as goal

pub loop-token-init : goal.loop-token-init
loop-token-init c =
    let z : length c.args.methods.now - 0 ≡ length c.args.methods.now = omega arith in
    ap (λ n. with_new (signs c.args.row.now.items)
    (map signature_of (without_initialiser (by_token n 0 (map method_of_export c.args.methods.now))))) z

pub loop-token-preserved : goal.loop-token-preserved
loop-token-preserved c =
    let lt : c.loop-token.token < length c.args.methods.now = omega arith in
    by_token-next (signs c.loop-token.row.items) (signs c.put_token.new.row.items)
    (with_new (signs c.args.row.now.items)
    (map signature_of (without_initialiser (by_token (length c.args.methods.now) 0
    (map method_of_export c.args.methods.now)))))
    (map method_of_export c.args.methods.now) (length c.args.methods.now) c.loop-token.token lt
    c.in_ok-put_token.ensures c.loop-token.invariant

pub returns : goal.returns
returns c =
    let le : length c.args.methods.now ≤ c.loop-token.token = omega arith in
    by_token-end (signs c.loop-token.row.items) (with_new (signs c.args.row.now.items)
    (map signature_of (without_initialiser (by_token (length c.args.methods.now) 0
    (map method_of_export c.args.methods.now)))))
    (map method_of_export c.args.methods.now) (length c.args.methods.now) c.loop-token.token le c.loop-token.invariant
