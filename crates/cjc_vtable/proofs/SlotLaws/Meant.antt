-- Each token of a class means the method of its slot, which has the name and the descriptor of the slot.
use Rattle.std.proofs.Common.{◌≡◌, ℕ, refl, ap, ◌∙◌, false, List, [], ◌∷◌}
use Rattle.std.specs.Prelude.{Option, Some, None, slice_get}
use Rattle.cjc_world.specs.Bytes.AccessFlags.{is_interface}
use Rattle.cjc_world.specs.declared.found.Found.{Found}
use Rattle.cjc_world.specs.Classes.{Class, class_named}
use Rattle.cjc_world.specs.Supertypes.{Supertypes, supertypes, AreSupertypes}
use Rattle.cjc_tokens.specs.Members.{Signature}
use Rattle.cjc_tokens.specs.Lines.{line_of}
use Rattle.cjc_tokens.specs.Slots.{slots, hidden_slots, implementing, token}
use Rattle.cjc_tokens.proofs.Held.{token-slot}
use Rattle.cjc_vtable.specs.Dispatch.{dispatched, dispatched_hidden, tower_of}
use Rattle.cjc_vtable.specs.Laws.{KeepsRules}
use Rattle.cjc_vtable.proofs.Given.{proper-line}
use Rattle.cjc_vtable.proofs.SlotNames.{implementing-named, seen-line, slot-there}
use Rattle.cjc_vtable.proofs.Towers.{dispatched-slot, dispatched-hidden_slot, hidden_there, tower}
use Rattle.cjc_vtable.proofs.Worlds.{told-class, tower-line}
use Rattle.cjc_vtable.specs.Meant.{AreNumbered, IsMeant, IsMeantHere}

module _ (w : List Class) (are_supertypes : (xs : List (List ℕ)) → AreSupertypes w xs (supertypes w xs))
    (one_supertypes : (xs : List (List ℕ)) (j k : Supertypes) → AreSupertypes w xs j → AreSupertypes w xs k
    → j ≡ k) (rules : KeepsRules w) where
  tower-is : (x : List ℕ) → tower_of w x ≡ tower w (line_of w x)
  tower-is x = tower-line w are_supertypes one_supertypes rules (x ∷ []) (supertypes w (x ∷ [])) (are_supertypes (x
      ∷ []))

  pub open_token : AreNumbered w → (x : List ℕ) (c : Class) → class_named w x ≡ Some c → is_interface c.flags ≡ false
      → (s : Signature) (t : ℕ) → token (slots (line_of w x)) s ≡ Some t → IsMeant w x s t
  open_token numbered x c known class_here s t e = by (implementing (line_of w x) s) refl
    where
      slot : slice_get (slots (line_of w x)) t ≡ Some (Some s)
      slot = token-slot (slots (line_of w x)) s t e

      found : dispatched (tower_of w x) t ≡ implementing (line_of w x) s
      found =
          ap (λ q. dispatched q t) (tower-is x)
          ∙ dispatched-slot w (line_of w x) t s (told-class w are_supertypes one_supertypes rules x c known
          (λ im. class_here)) (proper-line w are_supertypes one_supertypes (x ∷ []) (supertypes w (x ∷ []))
          (are_supertypes (x ∷ []))) slot

      by : (o : Option Found) → implementing (line_of w x) s ≡ o → IsMeant w x s t
      by None f = absurd (slot-there (line_of w x) t s slot f)
      by (Some g) f = record {
        method = g;
        nearest = f;
        by_token = found ∙ f;
        name = implementing-named w (line_of w x) s g (seen-line w numbered (x ∷ []) (supertypes w (x ∷ []))
            (are_supertypes (x ∷ []))) f;
      }

  pub package_token : (x : List ℕ) (c : Class) → class_named w x ≡ Some c → (s : Signature) (t : ℕ)
      → token (hidden_slots (line_of w x)) s ≡ Some t → IsMeantHere w x s t
  package_token x c known s t e =
      let slot = token-slot (hidden_slots (line_of w x)) s t e in
      let proper = proper-line w are_supertypes one_supertypes (x ∷ []) (supertypes w (x ∷ [])) (are_supertypes (x
      ∷ [])) in
      let r = hidden_there (line_of w x) t s proper slot in
      record {
        method = r.0;
        nearest = r.1;
        by_token = ap (λ q. dispatched_hidden q t) (tower-is x) ∙ dispatched-hidden_slot w (line_of w x) t s proper slot
            ∙ r.1;
        own = r.2;
      }
