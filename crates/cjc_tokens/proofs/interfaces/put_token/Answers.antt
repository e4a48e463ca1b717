use Rattle.std.proofs.Common.{◌≡◌, ◌∙◌, ap, sym, map, subst}
use Rattle.std.specs.Prelude.{OnOk}
use Rattle.cjc_world.specs.Added.{without_initialiser}
use Rattle.cjc_tokens.specs.Members.{signature_of}
use Rattle.cjc_tokens.specs.Slots.{with_new}
use Rattle.cjc_tokens.specs.Working.{signs}
use Rattle.cjc_tokens.proofs.Offers.{offer-end}
use Rattle.cjc_tokens.proofs.Asked.{token-asked, with_token-none}
use Rattle.cjc_tokens.proofs.interfaces.put_token.Goals as goal

pub returns-in-None : goal.returns-in-None
returns-in-None c = sym (ap (λ q. with_new (signs c.args.row.now.items) (map signature_of (without_initialiser q)))
    (with_token-none c.args.methods.now c.args.token (sym c.in-None.ensures.place))
    ∙ offer-end (signs c.args.row.now.items))

pub returns-in-Some : goal.returns-in-Some
returns-in-Some c =
    subst (λ q. OnOk c.put_method.result (signs c.put_method.new.row.items ≡ with_new (signs c.args.row.now.items) q))
    (token-asked c.args.methods.now c.args.token c.in-Some.place c.index-methods-place.result c.items-name.result.now
    c.items-desc.result.now (sym c.in-Some.ensures.place) c.index-methods-place.is c.items-name.ensures
    c.items-desc.ensures) c.put_method.ensures
