use Rattle.std.proofs.Common.{◌≡◌, ◌+◌, ◌<◌, ◌≤◌, arith, sym, ap, subst, ◌∙◌, List, length}
use Rattle.std.proofs.lemmas.Option.{slice_get_within}
use Rattle.cjc_bytes.specs.Breaks.{class_spot, member_spot}
use Rattle.cjc_bytes.specs.Order.{FilePlace, file_of}
use Rattle.cjc_bytes.specs.Refused.{method_text}
use Rattle.cjc_bytes.specs.Told.{spot_of}
use Rattle.cjc_bytes.specs.declared.settings.FileLine.{FileLine}
use Rattle.cjc_bytes.proofs.Gets.{at_is}
use Rattle.cjc_world.specs.ClassFile.declared.tree.ClassTree.{ClassTree}
use Rattle.cjc_world.specs.Classes.{Class}
use Rattle.cjc_methods.specs.Working.Spots.{spot_in}
use Rattle.cjc_methods.proofs.Own.{tree_at}
use Rattle.cjc_methods.proofs.Spotted.{moved, same_text, spot_inside, spot_outside}
use Rattle.cjc_methods.proofs.words.spot_in.Goals as goal

pub bounds-items-member : goal.bounds-items-member
bounds-items-member c =
    let (t, is, same) = tree_at c.args.world.now c.args.member c.requires in
    subst (λ (ts : List ClassTree). c.args.member.class < length ts) (sym (c.items.ensures ∙ c.classes.ensures))
    (slice_get_within c.args.world.now.classes c.args.member.class t is)

pub returns-then-member-items : goal.returns-then-member-items
returns-then-member-items c = λ k m at like.
    let files = c.args.world.now in
    let f = c.args.member in
    let s = c.args.method in
    let (t, is, same) = tree_at files f c.requires in
    let class = c.index-items-member.result in
    let tree : class ≡ t = at_is c.items.result.now files.classes f.class class t (c.items.ensures ∙ c.classes.ensures)
    is c.index-items-member.is in
    let file = c.file_of-file.ensures ∙ ap (λ (ls : List FileLine). file_of ls f.class) (c.items-2.ensures
    ∙ c.lines.ensures) in
    let name = c.items-3.ensures ∙ ap (λ (x : ClassTree). x.name) tree in
    let fields = ap (λ (xs : List _). length xs) (c.items-4.ensures ∙ ap (λ (x : ClassTree). x.fields) tree) in
    let methods = ap (λ (xs : List _). length xs) (c.items-5.ensures ∙ ap (λ (x : ClassTree). x.methods) tree) in
    let lt : f.member < length t.fields + length t.methods = omega (arith, c.if-member-items.true, fields, methods) in
    let text = same_text s.name.now s.desc.now m like.name like.desc in
    let place = file_of files.lines f.class in
    moved (spot_of c.of_class-spot.result) _ _ c.of_class-spot.ensures (c.from.result + 1) c.args.offset
    (method_text s.name.now s.desc.now)
    ∙ ap (λ (p : FilePlace). member_spot p 1 c.items-3.result.now (c.from.result + 1) (method_text s.name.now
    s.desc.now) c.args.offset) file
    ∙ ap (λ n. member_spot place 1 n (c.from.result + 1) (method_text s.name.now s.desc.now) c.args.offset) name
    ∙ ap (λ i. member_spot place 1 t.name (i + 1) (method_text s.name.now s.desc.now) c.args.offset) c.from.ensures
    ∙ ap (λ x. member_spot place 1 t.name (f.member + 1) x c.args.offset) text
    ∙ sym (ap (λ (d : Class). spot_in files d f m c.args.offset) (same k at) ∙ spot_inside files t f m c.args.offset lt)

pub returns-else-member-items : goal.returns-else-member-items
returns-else-member-items c = λ k m at like.
    let files = c.args.world.now in
    let f = c.args.member in
    let (t, is, same) = tree_at files f c.requires in
    let class = c.index-items-member.result in
    let tree : class ≡ t = at_is c.items.result.now files.classes f.class class t (c.items.ensures ∙ c.classes.ensures)
    is c.index-items-member.is in
    let file = c.file_of-file.ensures ∙ ap (λ (ls : List FileLine). file_of ls f.class) (c.items-2.ensures
    ∙ c.lines.ensures) in
    let name = c.items-3.ensures ∙ ap (λ (x : ClassTree). x.name) tree in
    let fields = ap (λ (xs : List _). length xs) (c.items-4.ensures ∙ ap (λ (x : ClassTree). x.fields) tree) in
    let methods = ap (λ (xs : List _). length xs) (c.items-5.ensures ∙ ap (λ (x : ClassTree). x.methods) tree) in
    let le : length t.fields + length t.methods ≤ f.member = omega (arith, c.if-member-items.false, fields, methods) in
    c.of_class-spot.ensures
    ∙ ap (λ (p : FilePlace). class_spot p 1 c.items-3.result.now) file
    ∙ ap (class_spot (file_of files.lines f.class) 1) name
    ∙ sym (ap (λ (d : Class). spot_in files d f m c.args.offset) (same k at) ∙ spot_outside files t f m c.args.offset
    le)
