use Rattle.std.proofs.Common.{◌≡◌, ◌<◌, ℕ, length, sym, ◌∙◌, arith, refl, true, false}
use Rattle.std.proofs.lemmas.Option.{slice_get_read}
use Rattle.std.specs.Prelude.{Some, slice_get}
use Rattle.std.specs.Vec.{vec_len}
use Rattle.cjc_script.specs.declared.value.Value.{Value}
use Rattle.cjc_jvm_semantics.specs.Effects.{is_same_kind}
use Rattle.cjc_jvm_semantics.specs.OnePackage.{of_class}
use Rattle.cjc_jvm_step.proofs.HeapLaws.Fields.{place_below, after_put_none, after_put_unlike, after_put_like}
use Rattle.cjc_jvm_step.proofs.heap.object.put_value.Goals as goal

pub returns-in_default-clause-put : goal.returns-in_default-clause-put
returns-in_default-clause-put c = after_put_none c.args.fields.now c.args.values.now.items (of_class c.args.class.now
    c.args.id.now) c.args.value c.requires (sym c.in_default.ensures)

pub index-requires : goal.index-requires
index-requires c =
    let v = c.args.values.now in
    let below = place_below c.args.fields.now (of_class c.args.class.now c.args.id.now) c.in-Some.place
    (sym c.in-Some.ensures) in
    let full : vec_len v ≡ length v.items = v.ok.0 in
    omega (arith, below, full, c.requires)

pub returns-then-not-is_same_kind-clause-put : goal.returns-then-not-is_same_kind-clause-put
returns-then-not-is_same_kind-clause-put c =
    let v = c.args.values.now in
    let below = place_below c.args.fields.now (of_class c.args.class.now c.args.id.now) c.in-Some.place
    (sym c.in-Some.ensures) in
    let inside : c.in-Some.place < length v.items = omega (arith, below, c.requires) in
    let there : slice_get v.items c.in-Some.place ≡ Some c.index.result.now = slice_get_read v.items (length v.items)
    c.in-Some.place c.index.result.now refl inside c.index.ensures in
    let unlike : is_same_kind c.index.result.now c.args.value ≡ false = cc in
    after_put_unlike c.args.fields.now v.items (of_class c.args.class.now c.args.id.now) c.args.value c.index.result.now
    c.in-Some.place c.requires (sym c.in-Some.ensures) there unlike

pub index_mut-requires : goal.index_mut-requires
index_mut-requires c =
    let v = c.args.values.now in
    let below = place_below c.args.fields.now (of_class c.args.class.now c.args.id.now) c.in-Some.place
    (sym c.in-Some.ensures) in
    let full : vec_len v ≡ length v.items = v.ok.0 in
    omega (arith, below, full, c.requires)

pub returns-clause-put : goal.returns-clause-put
returns-clause-put c =
    let v = c.args.values.now in
    let below = place_below c.args.fields.now (of_class c.args.class.now c.args.id.now) c.in-Some.place
    (sym c.in-Some.ensures) in
    let inside : c.in-Some.place < length v.items = omega (arith, below, c.requires) in
    let there : slice_get v.items c.in-Some.place ≡ Some c.index.result.now = slice_get_read v.items (length v.items)
    c.in-Some.place c.index.result.now refl inside c.index.ensures in
    let like : is_same_kind c.index.result.now c.args.value ≡ true = cc in
    after_put_like c.args.fields.now v.items (of_class c.args.class.now c.args.id.now) c.args.value c.index.result.now
    c.in-Some.place c.requires (sym c.in-Some.ensures) there like
