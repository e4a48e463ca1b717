-- The slots of an imported class are those of the class and its supers, each once.
use Rattle.std.proofs.Common.{◌≡◌, ◌∙◌, ℕ, List, [], ◌∷◌, map, refl, sym, ap, arith, Option, Some, None}
use Rattle.std.specs.Global.{Vec}
use Rattle.std.proofs.lemmas.List.{length-map}
use Rattle.cjc_world.specs.declared.found.Found.{Found}
use Rattle.cjc_world.specs.Classes.{Class}
use Rattle.cjc_world.specs.Kin.{IsKin, Kin, once, upwards}
use Rattle.cjc_world.specs.Lookup.{first}
use Rattle.cjc_tokens.specs.declared.slot.Slot.{Slot}
use Rattle.cjc_tokens.specs.Members.{Signature, all_methods, is_virtual}
use Rattle.cjc_tokens.specs.Slots.{listed_slots, meant_by, own}
use Rattle.cjc_tokens.specs.Working.{methods_in, signature_in, signs}
use Rattle.cjc_tokens.proofs.Once.{rows-once}

module _ (f : Signature → Option Found) where
  -- a slot with the method that this says
  abbrev with_method : Option Slot → Option Slot
  with_method None = None
  with_method (Some s) = Some (record { name = s.name; desc = s.desc; method = f (signature_in s) })

  signs_same : (row : List (Option Slot)) → signs (map with_method row) ≡ signs row
  signs_same [] = refl
  signs_same (None ∷ row) = ap (λ ss. None ∷ ss) (signs_same row)
  signs_same (Some s ∷ row) = ap (λ ss. Some (signature_in s) ∷ ss) (signs_same row)

  methods_are : (row : List (Option Slot)) → methods_in (map with_method row) ≡ map (meant_by f) (signs row)
  methods_are [] = refl
  methods_are (None ∷ row) = ap (λ ms. None ∷ ms) (methods_are row)
  methods_are (Some s ∷ row) = ap (λ ms. f (signature_in s) ∷ ms) (methods_are row)

pub slots_once : (w : List Class) (c : Class) (xs : List (List ℕ)) (k : Kin) (v : Vec (Option Slot)) → IsKin w xs k → signs v.items ≡ listed_slots (all_methods (c ∷ once [] (upwards k))) → signs v.items ≡ listed_slots (all_methods (c ∷ upwards k))
slots_once w c xs k v is e =
    let f : Signature → Option Found = λ s. first (own is_virtual s) (c ∷ once [] (upwards k)) in
    let told = rows-once w c xs k
    (record {
      shown = record { ptr = v.ptr; len = v.len; cap = v.cap; alloc = v.alloc; items = map (with_method f) v.items; ok = (v.ok.0 ∙ sym (length-map v.items (with_method f)), v.ok.1); small = v.small };
      hidden = record { ptr = v.ptr; len = 0; cap = v.cap; alloc = v.alloc; items = []; ok = (refl, omega arith); small = v.small };
    })
    is
    (record {
      shown_slots = signs_same f v.items ∙ e;
      shown_methods = methods_are f v.items ∙ ap (map (meant_by f)) e;
      hidden_slots_are = refl;
      hidden_methods = refl;
    }) in
    sym (signs_same f v.items) ∙ told.shown_slots
