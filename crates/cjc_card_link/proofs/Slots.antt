-- The slots of a class, put down token by token.
use Rattle.std.proofs.Common.{◌≡◌, ℕ, suc, ◌+◌, ◌-◌, ◌<◌, List, [], ◌∷◌, ◌++◌, sym, ap, ◌∙◌, arith, map, append_assoc}
use Rattle.std.proofs.lemmas.List.{map-append}
use Rattle.cjc_card_semantics.specs.Bytecode.Effects.{Slot}
use Rattle.cjc_card_semantics.specs.CapRead.declared.tree.ClassEntry.{ClassEntry}
use Rattle.cjc_card_semantics.specs.Machine.Classes.{Class, Field, slot_for, slots_from}
use Rattle.cjc_card_frame.specs.declared.heap.slots.Slot.{Slot as SlotData}
use Rattle.cjc_card_frame.specs.Objects.{slot_by}

pub slots_more : (class : Class) (c : ClassEntry) (token size : ℕ) (old new : List SlotData) (x : SlotData)
    (total : List (Slot Field)) → token < size → slot_by x ≡ slot_for class c token → new ≡ old ++ x ∷ []
    → map slot_by old ++ slots_from class c token (size - token) ≡ total → map slot_by new
    ++ slots_from class c (token + 1) (size - (token + 1)) ≡ total
slots_more class c token size old new x total lt is put so_far =
    let next : size - token ≡ suc (size - (token + 1)) = omega (arith, lt) in
    ap (λ (xs : List SlotData). map slot_by xs ++ slots_from class c (token + 1) (size - (token + 1))) put
    ∙ ap (λ (xs : List (Slot Field)). xs ++ slots_from class c (token + 1) (size - (token + 1))) (map-append slot_by old
    (x ∷ []))
    ∙ append_assoc (map slot_by old) (slot_by x ∷ []) (slots_from class c (token + 1) (size - (token + 1)))
    ∙ ap (λ (s : Slot Field). map slot_by old ++ (s ∷ slots_from class c (token + 1) (size - (token + 1)))) is
    ∙ ap (λ n. map slot_by old ++ slots_from class c token n) (sym next)
    ∙ so_far
