use Rattle.std.proofs.Common.{◌≡◌, ◌∙◌, ap, sym, subst, map, false, Some}
use Rattle.std.specs.Prelude.{option_map, IfOk}
use Rattle.cjc_world.specs.Classes.{all_classes, class_at, declared}
use Rattle.cjc_world.specs.Working.Known.{class_of}
use Rattle.cjc_tokens.specs.Tokens.{public_methods_of}
use Rattle.cjc_tokens.specs.Working.{signs}
use Rattle.cjc_vtable.specs.Naming.{named_where}
use Rattle.cjc_vtable.proofs.Numbers.{own_listed}
use Rattle.cjc_vtable.proofs.SlotNames.{slots-named}
use Rattle.cjc_vtable.proofs.maps.slots_of.Goals as goal

pub returns : goal.returns
returns c =
    let w = all_classes c.args.world.now in
    let n = c.args.number in
    let t = c.requires.tokens in
    let k = c.requires.class in
    let there : class_at w false n ≡ Some (class_of c.args.class) = own_listed c.args.world.now n k.0
    ∙ ap (option_map (declared n)) k.2 ∙ ap Some (sym k.3) in
    let named = slots-named c.args.world.now t.0 n (class_of c.args.class) (c.lookup_laws.ensures.are_supertypes w
    c.acyclic.ensures) there c.requires.plain in
    subst (λ q. IfOk c.named_row.result (λ row. signs row.items ≡ q)) (ap (map (named_where w))
    (c.public_methods.ensures ∙ ap (λ q. public_methods_of q n) t.1) ∙ named) c.named_row.ensures
