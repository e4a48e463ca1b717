-- What instructions ask of classes is the same by name and by token.
use Rattle.std.proofs.Common.{◌≡◌, ℕ, refl, sym, ap, ◌∙◌, true, List, [], ◌∷◌, map}
use Rattle.std.specs.Prelude.{Option, Some, None, option_map}
use Rattle.cjc_bytes.specs.declared.fault.MemberId.{MemberId}
use Rattle.cjc_bytes.proofs.Bools.{both_front}
use Rattle.cjc_script.specs.declared.value.Value.{Value}
use Rattle.cjc_card_semantics.specs.Bytecode.Effects.{Letter, IsOperand, Slot, Object, slot_of}
use Rattle.cjc_card_semantics.specs.Bytecode.Renaming.{option_as, keys, KnownHeapObject, object_known, AreAlike}
use Rattle.cjc_card_semantics.specs.Machine.ByToken
use Rattle.cjc_card_semantics.specs.Machine.Classes as card
use Rattle.cjc_card_semantics.specs.Machine.Statics.{get_static, put_static}
use Rattle.cjc_ncode.specs.ByLabel.{Named, slot_for, fresh}
use Rattle.cjc_ncode.specs.ByLabel
use Rattle.cjc_ncode.specs.PoolOrder.{same_member}
use Rattle.cjc_ncode.specs.Lowering.Naming.{Naming, field}
use Rattle.cjc_ncode.specs.Lowering.Agreement.{Cells, known_by}
use Rattle.cjc_token_proof.specs.ByToken.Cells.{fields, cell_of, image_of, is_one_of, may_access, are_cells}
use Rattle.cjc_token_proof.specs.ByToken.Cells.{same_letter, letter}
use Rattle.cjc_token_proof.specs.ByToken.Objects.{slots_of, ObjectsAgree}
use Rattle.cjc_token_proof.specs.ByToken.Classes.{Names, tests, SaysClasses}
use Rattle.cjc_token_proof.proofs.ByToken.Cells.{cells_agree}
use Rattle.cjc_token_proof.proofs.ByToken.Objects.{objects_agree}

keys_for : (own : List MemberId) → keys (map slot_for own) ≡ own
keys_for [] = refl
keys_for (f ∷ own) = ap (λ ks. f ∷ ks) (keys_for own)

module _ (n : Naming) (l : Named) (names : Names) (says : SaysClasses n l names) where
  object : (c : List ℕ) (own : List MemberId) → names.object c own ≡ true → ObjectsAgree n names.field c own
  object c own is = objects_agree n names.field c own (says.objects c own is)

  cell : (k : Letter) (f : MemberId) → may_access names.order k f ≡ true → n.cell f ≡ cell_of names.order f
  cell k f may = says.cell f (both_front (is_one_of f (fields names.order)) (same_letter (letter f) k) may)

  made_there : (c : List ℕ) (held : List (Slot MemberId)) → names.class c ≡ true → fresh l c ≡ Some held
      → card.fresh n.loaded (n.class c) ≡ Some (slots_of n c held)
  made_there c held is e = by (l.fields c) refl e
    where
      by : (o : Option (List MemberId)) → l.fields c ≡ o → option_map (map slot_for) o ≡ Some held
          → card.fresh n.loaded (n.class c) ≡ Some (slots_of n c held)
      by None h made = cc
      by (Some own) h made =
          let m = says.made c own is h in
          let a = object c own m.0 in
          let same : map slot_for own ≡ held = cc in
          a.fresh m.1 ∙ ap (λ slots. Some (slots_of n c slots)) same

  made_known : (c : List ℕ) (held : List (Slot MemberId)) → names.class c ≡ true → fresh l c ≡ Some held
      → KnownHeapObject (known_by (tests names)) (Object c held)
  made_known c held is e = by (l.fields c) refl e
    where
      by : (o : Option (List MemberId)) → l.fields c ≡ o → option_map (map slot_for) o ≡ Some held
          → KnownHeapObject (known_by (tests names)) (Object c held)
      by None h made = cc
      by (Some own) h made =
          let m = says.made c own is h in
          let same : map slot_for own ≡ held = cc in
          object_known is (ap (names.object c) (ap keys (sym same) ∙ keys_for own) ∙ m.0)

  get_there : (k : Letter) (f : MemberId) (cells : Cells) → may_access names.order k f ≡ true
      → are_cells names.statics cells ≡ true → get_static k (n.cell f) (image_of names.order cells ∷ [])
      ≡ slot_of same_member cells f
  get_there k f cells may are =
      let agree = cells_agree names.order names.statics says.statics in
      ap (λ s. get_static k s (image_of names.order cells ∷ [])) (cell k f may) ∙ agree.get k f cells may are

  put_there : (k : Letter) (f : MemberId) (v : Value) (cells : Cells) → IsOperand k v → may_access names.order k f
      ≡ true → are_cells names.statics cells ≡ true
      → put_static k (n.cell f) v (image_of names.order cells ∷ []) ≡ option_as (λ y. image_of names.order y
      ∷ []) (ByLabel.put_static cells f v)
  put_there k f v cells operand may are =
      let agree = cells_agree names.order names.statics says.statics in
      ap (λ s. put_static k s v (image_of names.order cells ∷ [])) (cell k f may)
      ∙ agree.put k f v cells operand may are

  pub classes_alike : AreAlike (known_by (tests names)) n.class (field n) (slots_of n) n.cell
      (λ cells. image_of names.order cells ∷ []) (ByLabel.classes l) (ByToken.classes n.loaded)
  classes_alike = record {
    is_of = says.kinds;
    get = λ c held f is may. let a = object c (keys held) is in a.get held f refl may;
    put = λ c held f old new is may there. let a = object c (keys held) is in a.put held f old new refl may there;
    fresh = made_there;
    fresh_known = made_known;
    bare = λ c is. let a = object c [] is in a.bare refl;
    get_static = get_there;
    put_static = put_there;
    put_known = λ k f v cells after operand may are put. let agree = cells_agree names.order names.statics says.statics
        in agree.put_known k f v cells after operand may are put;
  }
