use Rattle.std.proofs.Common.{◌≡◌, ◌∙◌, ◌+◌, ap, sym, subst, length, get_or, false, Some}
use Rattle.cjc_bytes.specs.AccessFlags.{is_interface}
use Rattle.cjc_world.specs.ClassFile.declared.tree.ClassTree.{ClassTree}
use Rattle.cjc_tokens.specs.Tokens.{Assigned, token_of_member}
use Rattle.cjc_tokens.proofs.Walks.{got-same}
use Rattle.cjc_classes.proofs.KeyTokens.Here.{shown_got, shown_neither}
use Rattle.cjc_classes.proofs.key_tokens.shown.got_here.Goals as goal

pub returns-in_default : goal.returns-in_default
returns-in_default c = λ d e own.
    shown_neither c.args.world.now c.args.number d e c.args.name.now c.args.desc.now c.items-2.result.now
    (c.items-2.ensures ∙ c.added.ensures) own (sym c.added_place.ensures.place ∙ c.in_default.is)

pub returns : goal.returns
returns c = λ d e own.
    let files = c.args.world.now in
    let n = c.args.number in
    let t = c.index-items-number.result in
    let i = c.in-Some.place in
    let same = got-same files.classes n t d e (c.index-items-number.is ∙ ap (λ xs. get_or xs n t) (c.items.ensures
    ∙ c.classes.ensures)) in
    let (applets, are) = c.requires.tokens in
    let plain = subst (λ (y : ClassTree). is_interface y.flags ≡ false) same c.in_ok-token.ensures.plain in
    let kept : token_of_member c.args.tokens.now (record {
      imported = false;
      class = n;
      member = length t.fields + length t.methods + i;
    }) ≡ Some c.in_ok-token.token =
    ap (λ ms. token_of_member c.args.tokens.now (record {
      imported = false;
      class = n;
      member = length t.fields + length ms + i;
    })) (sym c.items-methods.ensures) ∙ c.in_ok-token.ensures.token in
    shown_got files n d e c.args.name.now c.args.desc.now c.items-2.result.now (c.items-2.ensures ∙ c.added.ensures)
    applets i c.in_ok-token.token plain (sym c.added_place.ensures.place ∙ c.in-Some.is)
    (subst (λ (g : Assigned). token_of_member g (record {
      imported = false;
      class = n;
      member = length d.fields + length d.methods + i;
    }) ≡ Some c.in_ok-token.token) are
    (subst (λ (y : ClassTree). token_of_member c.args.tokens.now (record {
      imported = false;
      class = n;
      member = length y.fields + length y.methods + i;
    }) ≡ Some c.in_ok-token.token) same kept))
