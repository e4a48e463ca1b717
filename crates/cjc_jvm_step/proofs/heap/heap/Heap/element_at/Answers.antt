use Rattle.std.proofs.Common.{◌∙◌, ap, sym}
use Rattle.std.specs.Int.{w32}
use Rattle.std.proofs.lemmas.Int.{to_z-of_z}
use Rattle.cjc_script.specs.Sorts.{shape_named}
use Rattle.cjc_jvm_semantics.specs.Effects.{only_if, serves, item_at}
use Rattle.cjc_jvm_step.specs.Heap.Kinds.{effect_moves, shape_of}
use Rattle.cjc_jvm_step.specs.Heap.Looks.{name_at, items_at}
use Rattle.cjc_jvm_step.proofs.HeapLaws.Elements.{element_by_array}
use Rattle.cjc_jvm_step.proofs.heap.heap.Heap.element_at.Goals as goal

pub returns-in-Ok-element_in-clause-found : goal.returns-in-Ok-element_in-clause-found
returns-in-Ok-element_in-clause-found c = λ go.
    let heap = c.args.self.now in
    let k = c.in-Ok.array in
    let items = c.in-Ok.items.now in
    let e = c.in-Ok-element_in.element in
    element_by_array (effect_moves c.args.moves) heap c.args.reference c.args.index c.in-Ok.kind k items
    c.in-Ok.ensures.found c.in-Ok.ensures.kind go
    ∙ ap (λ z. only_if (serves (effect_moves c.args.moves) (shape_of c.in-Ok.kind (name_at heap k)))
    (item_at items z (go k (name_at heap k) items))) (sym (to_z-of_z w32 c.args.index c.ranges.index))
    ∙ c.in-Ok-element_in.ensures.found (name_at heap k) (go k (name_at heap k) items)
    ∙ ap (λ xs. go k (name_at heap k) xs e.place e.value) (sym c.in-Ok.ensures.items)
    ∙ ap (λ a. go a (name_at heap a) (items_at heap a) e.place e.value) (sym c.in-Ok-element_in.ensures.array)

pub returns-in-Err-element_in-clause-found : goal.returns-in-Err-element_in-clause-found
returns-in-Err-element_in-clause-found c = λ go.
    let heap = c.args.self.now in
    let k = c.in-Ok.array in
    let items = c.in-Ok.items.now in
    element_by_array (effect_moves c.args.moves) heap c.args.reference c.args.index c.in-Ok.kind k items
    c.in-Ok.ensures.found c.in-Ok.ensures.kind go
    ∙ ap (λ z. only_if (serves (effect_moves c.args.moves) (shape_of c.in-Ok.kind (name_at heap k)))
    (item_at items z (go k (name_at heap k) items))) (sym (to_z-of_z w32 c.args.index c.ranges.index))
    ∙ c.in-Err-element_in.ensures.found (name_at heap k) (go k (name_at heap k) items)

pub returns-in-Err-clause-found : goal.returns-in-Err-clause-found
returns-in-Err-clause-found c = λ go.
    c.in-Err.ensures.found (λ k desc items. only_if (serves (effect_moves c.args.moves) (shape_named desc))
    (item_at items c.args.index (go k desc items)))
