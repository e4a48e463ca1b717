use Rattle.std.proofs.Common.{◌≡◌, ◌∙◌, List, ap}
use Rattle.std.specs.Prelude.{slice_get}
use Rattle.std.proofs.lemmas.Option.{slice_get_within}
use Rattle.cjc_bytes.specs.declared.settings.FileLine.{FileLine}
use Rattle.cjc_world.specs.ClassFile.declared.tree.ClassTree.{ClassTree}
use Rattle.cjc_world.specs.ClassFile.declared.tree.MethodTree.{MethodTree}
use Rattle.cjc_bytes.specs.Told.{file_place_of, spot_of}
use Rattle.cjc_clinit.specs.Subset.Places.{at_method}
use Rattle.cjc_bytes.specs.Breaks.{RulePlace, broken_at}
use Rattle.cjc_bytes.specs.Order.{FilePlace, file_of}
use Rattle.cjc_bytes.proofs.Gets.{at_is}
use Rattle.cjc_judge.proofs.judging.method_break.Goals as goal

pub method_spot-requires : goal.method_spot-requires
method_spot-requires c =
    let m = c.requires in
    let class = at_is c.items.result.now c.args.world.now.classes c.args.code.now.class c.index-items-code.result m.0
    (c.items.ensures ∙ c.classes.ensures) m.3.is_class c.index-items-code.is in
    slice_get_within c.index-items-code.result.methods c.args.code.now.method m.1
    (ap (λ (t : ClassTree). slice_get t.methods c.args.code.now.method) class ∙ m.3.is_method)

pub returns : goal.returns
returns c = λ k m t of.
    let files = c.args.world.now in
    let code = c.args.code.now in
    let x = c.args.broken in
    let f : FilePlace = file_place_of c.file_of-file.result in
    let lines = c.items-3.ensures ∙ c.lines.ensures in
    let file : f ≡ file_of files.lines code.class = c.file_of-file.ensures
    ∙ ap (λ (ls : List FileLine). file_of ls code.class) lines in
    let class = at_is c.items.result.now files.classes code.class c.index-items-code.result k (c.items.ensures
    ∙ c.classes.ensures) of.is_class c.index-items-code.is in
    let methods : c.items-2.result.now ≡ k.methods = c.items-2.ensures ∙ ap (λ (t : ClassTree). t.methods) class in
    let method = at_is c.items-2.result.now k.methods code.method c.index-items-place.result m methods of.is_method
    c.index-items-place.is in
    let spot : spot_of c.method_spot.result ≡ at_method (file_of files.lines code.class) k code.method m x.offset =
    c.method_spot.ensures f c.class_spot-spot.ensures
    ∙ ap (λ (p : FilePlace). at_method p c.index-items-code.result code.method c.index-items-place.result x.offset) file
    ∙ ap (λ (t : ClassTree). at_method (file_of files.lines code.class) t code.method c.index-items-place.result
    x.offset) class
    ∙ ap (λ (t : MethodTree). at_method (file_of files.lines code.class) k code.method t x.offset) method in
    ap (λ (s : RulePlace). broken_at s x.rule) spot
