use Rattle.std.proofs.Common.{◌≡◌, ◌∙◌, Bool, true, false, List, ℕ, ap, refl}
use Rattle.std.specs.Prelude.{not, ◌&&◌}
use Rattle.cjc_world.specs.ClassFile.declared.tree.ClassTree.{ClassTree}
use Rattle.cjc_world.specs.ClassFile.declared.tree.MethodTree.{MethodTree}
use Rattle.cjc_vtable.specs.LowerTokens.Members.{is_initialiser}
use Rattle.cjc_bytes.proofs.Gets.{at_is}
use Rattle.cjc_judge.proofs.judging.may_be_int.Goals as goal

-- without the line `int`
never : (ints other : Bool) → ints ≡ false → false ≡ (ints && other)
never true other off = absurd cc
never false other off = refl

-- with it
by_name : (ints : Bool) (name own : List ℕ) (is : Bool) → ints ≡ true → is ≡ is_initialiser name → name ≡ own → not is
    ≡ (ints && not (is_initialiser own))
by_name true name own is on told same = ap not (told ∙ ap is_initialiser same)
by_name false name own is on told same = absurd cc

pub returns-then-not-ints : goal.returns-then-not-ints
returns-then-not-ints c = λ k m t of. never c.args.ints (not (is_initialiser m.name)) c.if-not-ints.true

pub returns : goal.returns
returns c = λ k m t of.
    let code = c.args.code.now in
    let class = at_is c.items.result.now c.args.world.now.classes code.class c.index-items-code.result k
    (c.items.ensures ∙ c.classes.ensures) of.is_class c.index-items-code.is in
    let methods : c.items-2.result.now ≡ k.methods = c.items-2.ensures ∙ ap (λ (t : ClassTree). t.methods) class in
    let method = at_is c.items-2.result.now k.methods code.method c.index-items-code-2.result m methods of.is_method
    c.index-items-code-2.is in
    by_name c.args.ints c.items-3.result.now m.name c.is_initialiser.result c.if-not-ints.false
    c.is_initialiser.ensures (c.items-3.ensures ∙ ap (λ (t : MethodTree). t.name) method)
