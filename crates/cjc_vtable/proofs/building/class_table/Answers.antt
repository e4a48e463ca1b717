use Rattle.cjc_world.specs.ClassFile.declared.tree.ClassTree.{ClassTree as Tree}
use Rattle.std.proofs.Common.{◌≡◌, ◌∙◌, ap, subst, false, map, get_or}
use Rattle.std.proofs.lemmas.Option.{get_or_from_slice_get}
use Rattle.cjc_world.specs.Classes.{all_classes, declared}
use Rattle.cjc_world.specs.Bytes.AccessFlags.{is_interface}
use Rattle.cjc_world.specs.Interfaces.{known}
use Rattle.cjc_tokens.specs.Lines.{line_at}
use Rattle.cjc_tokens.specs.Methods.{interfaces_at}
use Rattle.cjc_tokens.specs.Slots.{shown_token}
use Rattle.cjc_vtable.specs.Tables.{interface_map, methods}
use Rattle.cjc_vtable.proofs.Assigned.{public-row, package-row}
use Rattle.cjc_vtable.proofs.Tabled.{tabled}
use Rattle.cjc_vtable.proofs.building.class_table.Goals as goal

pub interface_maps-requires-clause-class : goal.interface_maps-requires-clause-class
interface_maps-requires-clause-class c =
    let n = c.args.number in
    let k = c.requires.class in
    let x = c.index-items-number.result in
    let same : x ≡ k.1 = c.index-items-number.is ∙ ap (λ q. get_or q n x) (c.items.ensures ∙ c.classes.ensures)
    ∙ get_or_from_slice_get c.args.world.now.classes n k.1 x k.2 in
    (k.0, k.1, k.2, ap (declared n) same)

pub returns : goal.returns
returns c = λ t there.
    let w = all_classes c.args.world.now in
    let n = c.args.number in
    let k = c.requires.class in
    let one : k.1 ≡ t = cc (k.2, there) in
    let plain = subst (λ (q : Tree). is_interface q.flags ≡ false) one k.3 in
    let x = c.index-items-number.result in
    let same : x ≡ t = c.index-items-number.is ∙ ap (λ q. get_or q n x) (c.items.ensures ∙ c.classes.ensures)
    ∙ get_or_from_slice_get c.args.world.now.classes n t x there in
    tabled w n t c.public_methods.result.now c.package_methods.result.now c.in_ok-public_base.public_base
    c.in_ok-package_base.package_base c.in_ok-public_base.public c.in_ok-package_base.entries
    c.in_ok-package.package c.in_ok-maps.maps
    (c.public_methods.ensures ∙ public-row c.args.world.now c.requires.tokens.0 n t there plain c.args.tokens.now
    c.requires.tokens.1)
    (c.package_methods.ensures ∙ package-row c.args.world.now c.requires.tokens.0 n t there plain c.args.tokens.now
    c.requires.tokens.1)
    c.in_ok-public_base.ensures.base
    c.in_ok-public_base.ensures.entries
    c.in_ok-package_base.ensures.base
    c.in_ok-package_base.ensures.entries
    (c.in_ok-package.ensures ∙ ap methods c.items-2.ensures)
    (c.in_ok-maps.ensures ∙ ap (λ (q : Tree). map (interface_map w (shown_token (line_at w (declared n q))))
    (known (interfaces_at w (declared n q)))) same)
