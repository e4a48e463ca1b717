use Rattle.std.proofs.Common.{◌≡◌, ◌∙◌, ◌+◌, ap, sym, subst, map, length, get_or, false, Some}
use Rattle.std.specs.Prelude.{position, slice_get}
use Rattle.cjc_bytes.specs.AccessFlags.{is_interface}
use Rattle.cjc_bytes.proofs.Gets.{slice_get_at}
use Rattle.cjc_world.specs.ClassFile.declared.tree.ClassTree.{ClassTree}
use Rattle.cjc_world.specs.Classes.{method_of_class}
use Rattle.cjc_world.specs.Lookup.{is_called}
use Rattle.cjc_tokens.specs.Tokens.{Assigned, token_of_member}
use Rattle.cjc_tokens.proofs.Walks.{got-same}
use Rattle.cjc_classes.proofs.KeyTokens.Here.{hidden_missing, hidden_one, hidden_other}
use Rattle.cjc_classes.proofs.key_tokens.hidden.hidden_here.Goals as goal

pub returns-in_default : goal.returns-in_default
returns-in_default c = λ d e.
    let files = c.args.world.now in
    let n = c.args.number in
    let t = c.index-items-number.result in
    let same = got-same files.classes n t d e (c.index-items-number.is ∙ ap (λ xs. get_or xs n t) (c.items.ensures
    ∙ c.classes.ensures)) in
    let methods = c.items-methods.ensures ∙ ap (λ (x : ClassTree). x.methods) same in
    hidden_missing files n d e c.args.name.now c.args.desc.now
    (ap (λ ms. position (λ m. is_called c.args.name.now c.args.desc.now m) (map method_of_class ms)) (sym methods)
    ∙ sym c.called_place.ensures.place ∙ c.in_default.is)

pub returns-then-is_hidden : goal.returns-then-is_hidden
returns-then-is_hidden c = λ d e.
    let files = c.args.world.now in
    let n = c.args.number in
    let t = c.index-items-number.result in
    let i = c.in-Some.place in
    let x = c.index-methods-place.result in
    let same = got-same files.classes n t d e (c.index-items-number.is ∙ ap (λ xs. get_or xs n t) (c.items.ensures
    ∙ c.classes.ensures)) in
    let methods = c.items-methods.ensures ∙ ap (λ (y : ClassTree). y.methods) same in
    let place = ap (λ ms. position (λ m. is_called c.args.name.now c.args.desc.now m) (map method_of_class ms))
    (sym methods) ∙ sym c.called_place.ensures.place ∙ c.in-Some.is in
    let at = ap (λ ms. slice_get ms i) (sym methods) ∙ slice_get_at c.items-methods.result.now i x
    c.in-Some.ensures.within c.index-methods-place.is in
    let (applets, are) = c.requires.tokens in
    let plain = subst (λ (y : ClassTree). is_interface y.flags ≡ false) same c.in_ok-token.ensures.plain in
    let kept = subst (λ (y : ClassTree). token_of_member c.args.tokens.now (record {
      imported = false;
      class = n;
      member = length y.fields + 0 + i;
    }) ≡ Some c.in_ok-token.token) same c.in_ok-token.ensures.token in
    hidden_one files n d e c.args.name.now c.args.desc.now i x place at applets c.in_ok-token.token plain
    (sym c.is_hidden.ensures ∙ c.if-is_hidden.true)
    (subst (λ (g : Assigned). token_of_member g (record {
      imported = false;
      class = n;
      member = length d.fields + 0 + i;
    }) ≡ Some c.in_ok-token.token) are kept)

pub returns : goal.returns
returns c = λ d e.
    let files = c.args.world.now in
    let n = c.args.number in
    let t = c.index-items-number.result in
    let i = c.in-Some.place in
    let x = c.index-methods-place.result in
    let same = got-same files.classes n t d e (c.index-items-number.is ∙ ap (λ xs. get_or xs n t) (c.items.ensures
    ∙ c.classes.ensures)) in
    let methods = c.items-methods.ensures ∙ ap (λ (y : ClassTree). y.methods) same in
    let place = ap (λ ms. position (λ m. is_called c.args.name.now c.args.desc.now m) (map method_of_class ms))
    (sym methods) ∙ sym c.called_place.ensures.place ∙ c.in-Some.is in
    let at = ap (λ ms. slice_get ms i) (sym methods) ∙ slice_get_at c.items-methods.result.now i x
    c.in-Some.ensures.within c.index-methods-place.is in
    hidden_other files n d e c.args.name.now c.args.desc.now i x place at (sym c.is_hidden.ensures
    ∙ c.if-is_hidden.false)
