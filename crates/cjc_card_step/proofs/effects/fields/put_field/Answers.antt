use Rattle.std.proofs.Common.{◌≡◌, ◌∙◌, ap, sym, drop, refl, ℕ, List, Bool, true, false}
use Rattle.std.specs.Prelude.{if◌then◌else◌, slice_get}
use Rattle.cjc_card_semantics.specs.Script.declared.value.Value.{Value}
use Rattle.cjc_card_semantics.specs.Bytecode.Effects.{Slot, Go, Object, Stick, object_in, put_slot, receiver, same_kind}
use Rattle.cjc_card_semantics.specs.Bytecode.Effects.{slot_of, slots_with, thing_of, with_thing}
use Rattle.cjc_card_semantics.specs.Machine.Classes.{Class, Field, same_field}
use Rattle.cjc_card_semantics.specs.Machine.ByToken.{classes}
use Rattle.cjc_card_frame.specs.Frame.Frames.{Words}
use Rattle.cjc_card_frame.specs.Objects.{class_of, field_of}
use Rattle.cjc_card_step.specs.Effects.Deeds.{EffectByToken, Heap, MemoryByToken, memory}
use Rattle.cjc_card_step.specs.Effects.Looks.{slots_of}
use Rattle.cjc_card_step.proofs.EffectsLaws.Places.{field_put, slot_is_put}
use Rattle.cjc_card_step.proofs.effects.fields.put_field.Goals as goal

pub returns-in-Err-clause-row : goal.returns-in-Err-clause-row
returns-in-Err-clause-row c = λ l room statics next.
    let w = c.args.cells.now in
    let heap = c.args.heap.now in
    let m : MemoryByToken = memory heap statics in
    let f = field_of c.args.field in
    let v = c.in-Some.value in
    let go : List Value → ℕ → Class → List (Slot Field) → EffectByToken = λ rest k class slots. Go next rest w.locals
    (with_thing m k (Object class (slots_with same_field slots f v))) in
    let done = c.deed_of.ensures next w m in
    record {
      same =
          c.in-Some.ensures.is (λ x below. receiver c.args.this w.locals below (λ r rest. thing_of heap r
          (λ k. object_in (λ class slots. put_slot (classes l) (slot_of same_field slots f) x (Go next rest w.locals
          (with_thing m k (Object class (slots_with same_field slots f x))))))))
          ∙ c.in-Some-receiver.ensures.is (λ r rest. thing_of heap r
          (λ k. object_in (λ class slots. put_slot (classes l) (slot_of same_field slots f) v
          (go rest k class slots))))
          ∙ field_put l heap c.in-Some-receiver.reference f v (go (drop c.in-Some-receiver.taken w.stack))
          ∙ c.in-Err.ensures.is (λ k class slots old. if same_kind old v then go (drop c.in-Some-receiver.taken w.stack)
          k class slots else Stick)
          ∙ sym done.0;
      keeps = done.1;
    }

pub returns-then-not-same_kind-clause-row : goal.returns-then-not-same_kind-clause-row
returns-then-not-same_kind-clause-row c = λ l room statics next.
    let w = c.args.cells.now in
    let heap = c.args.heap.now in
    let m : MemoryByToken = memory heap statics in
    let f = field_of c.args.field in
    let v = c.in-Some.value in
    let item = c.in-Ok.item in
    let go : List Value → ℕ → Class → List (Slot Field) → EffectByToken = λ rest k class slots. Go next rest w.locals
    (with_thing m k (Object class (slots_with same_field slots f v))) in
    let rest = drop c.in-Some-receiver.taken w.stack in
    let unlike : same_kind item.value v ≡ false = cc in
    record {
      same =
          c.in-Some.ensures.is (λ x below. receiver c.args.this w.locals below (λ r rest. thing_of heap r
          (λ k. object_in (λ class slots. put_slot (classes l) (slot_of same_field slots f) x (Go next rest w.locals
          (with_thing m k (Object class (slots_with same_field slots f x))))))))
          ∙ c.in-Some-receiver.ensures.is (λ r rest. thing_of heap r
          (λ k. object_in (λ class slots. put_slot (classes l) (slot_of same_field slots f) v
          (go rest k class slots))))
          ∙ field_put l heap c.in-Some-receiver.reference f v (go rest)
          ∙ c.in-Ok.ensures.is (λ k class slots old. if same_kind old v then go rest k class slots else Stick)
          ∙ ap (λ t. if t then go rest item.object (class_of item.class) (slots_of (slice_get heap item.object))
          else Stick) unlike;
      keeps = (refl, refl);
    }

pub returns-clause-row : goal.returns-clause-row
returns-clause-row c = λ l room statics next.
    let w = c.args.cells.now in
    let heap = c.args.heap.now in
    let m : MemoryByToken = memory heap statics in
    let f = field_of c.args.field in
    let v = c.in-Some.value in
    let item = c.in-Ok.item in
    let slots = slots_of (slice_get heap item.object) in
    let go : List Value → ℕ → Class → List (Slot Field) → EffectByToken = λ rest k class slots. Go next rest w.locals
    (with_thing m k (Object class (slots_with same_field slots f v))) in
    let rest = drop c.in-Some-receiver.taken w.stack in
    let like : same_kind item.value v ≡ true = cc in
    record {
      same =
          c.in-Some.ensures.is (λ x below. receiver c.args.this w.locals below (λ r rest. thing_of heap r
          (λ k. object_in (λ class slots. put_slot (classes l) (slot_of same_field slots f) x (Go next rest w.locals
          (with_thing m k (Object class (slots_with same_field slots f x))))))))
          ∙ c.in-Some-receiver.ensures.is (λ r rest. thing_of heap r
          (λ k. object_in (λ class slots. put_slot (classes l) (slot_of same_field slots f) v
          (go rest k class slots))))
          ∙ field_put l heap c.in-Some-receiver.reference f v (go rest)
          ∙ c.in-Ok.ensures.is (λ k class slots old. if same_kind old v then go rest k class slots else Stick)
          ∙ ap (λ t. if t then go rest item.object (class_of item.class) slots else Stick) like
          ∙ ap (λ (h : Heap). Go next rest w.locals (memory h statics)) (sym (c.put_slot.ensures
          ∙ slot_is_put heap item.object f v (class_of item.class) slots c.in-Ok.ensures.there))
          ∙ ap (λ (x : Words). Go next x.stack x.locals (memory c.put_slot.new.self statics)) (sym c.forget.ensures);
      keeps = tt;
    }
