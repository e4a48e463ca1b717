-- Values that fields, parameters and results have in int mode: what is handed over is cut to its words, and what comes
-- back is widened.
use Rattle.std.proofs.Common.{◌≡◌, ℕ, ◌+◌, ◌≤◌, refl, ap, ◌∙◌, arith, true, false, List}
use Rattle.std.proofs.Common.{[]}
use Rattle.std.proofs.Common.{◌∷◌, ◌++◌, length, drop, Option}
use Rattle.std.specs.Prelude.{◌||◌, not, if◌then◌else◌}
use Rattle.std.specs.List.{AllZip}
use Rattle.cjc_types.specs.Bytes.Descriptor.{Part}
use Rattle.cjc_types.specs.Bytes.declared.descriptor.Kind.{Kind}
use Rattle.cjc_types.specs.Bytes.declared.descriptor.Kind.TheVariants as kinds
use Rattle.cjc_types.specs.Cells.{IsCellBelow}
use Rattle.cjc_types.specs.Rules.{is_value}
use Rattle.cjc_types.specs.Types.{cell_of, is_void, result_of}
use Rattle.cjc_types.specs.World.Classes.{Class}
use Rattle.cjc_types.specs.declared.cell.Cell.{Cell}
use Rattle.cjc_types.specs.declared.cell.Cell.TheVariants.{Number, Refs, Unusable}
use Rattle.cjc_frames.specs.Acts.{Subtype, has_wrong}
use Rattle.cjc_frames.specs.declared.acts.Given.TheVariants.{ANumber, AnObject}
use Rattle.cjc_frames.specs.declared.acts.Need.{Need}
use Rattle.cjc_verify.specs.CardActs.CardTypes.{ValueType, needs_of, words as words_given}
use Rattle.cjc_verify.specs.CardActs.CardTypes as types
use Rattle.cjc_verify.specs.CardActs.Rows.{calculating}
use Rattle.cjc_accepted_proof.specs.Frames.{SubtypesAgree}
use Rattle.cjc_accepted_proof.proofs.TypesLaws.{class_passes, own_below}
use Rattle.cjc_int_accepted.specs.Acts.{cutting, taking, widening}
use Rattle.cjc_int_accepted.specs.Frames.{stack_words, words_of}
use Rattle.cjc_int_accepted.specs.Runs.{Walks}
use Rattle.cjc_int_accepted.specs.Types.{IsTypedAs, cut_words}
use Rattle.cjc_int_accepted.proofs.RowsLaws.Sound.{narrow_sound, sound_taking, widen_sound}
use Rattle.cjc_int_accepted.proofs.RowsLaws.Walks.{walk_both, walk_none, walk_one}

module _ (card_type : List ℕ → Option (List ℕ)) where
  module _ (is_of : Subtype) (w : List Class) (agree : SubtypesAgree card_type is_of w) where
    -- a value by name, cut, is one by token
    pub value_right : (kind : Kind) (class : List ℕ) (t : ValueType) → IsTypedAs card_type kind class t → is_void kind
        ≡ false → (x : Cell) → is_value w kind class x ≡ true → (rest : List Need) (s : List Cell) → has_wrong is_of
        rest
        s ≡ false → has_wrong is_of (needs_of t ++ rest) (cut_words card_type t x ++ s) ≡ false
    value_right kinds.Bool class types.Boolean typed some x e rest s f = f
    value_right kinds.Byte class types.Byte typed some x e rest s f = f
    value_right kinds.Short class types.Short typed some x e rest s f = f
    value_right kinds.Int class types.Int typed some Number e rest s f = f
    value_right kinds.Int class types.Int typed some (Refs names) e rest s f = absurd cc
    value_right kinds.Int class types.Int typed some Unusable e rest s f = absurd cc
    value_right kinds.Ref class (types.Reference type) typed some Number e rest s f = absurd cc
    value_right kinds.Ref class (types.Reference type) typed some Unusable e rest s f = absurd cc
    value_right kinds.Ref class (types.Reference type) typed some (Refs names) e rest s f =
        ap (λ b. not b || has_wrong is_of rest s) (class_passes card_type is_of w agree class type typed (Refs names) e)
        ∙ f
    value_right kinds.Void class t typed some x e rest s f = absurd cc
    value_right kind class t typed some x e rest s f = absurd typed

    -- a value has the words of its type, once it is cut
    pub value_long : (kind : Kind) (class : List ℕ) (t : ValueType) → IsTypedAs card_type kind class t → is_void kind
        ≡ false → (x : Cell) → is_value w kind class x ≡ true → length (cut_words card_type t x) ≡ length (needs_of t)
    value_long kinds.Bool class types.Boolean typed some x e = refl
    value_long kinds.Byte class types.Byte typed some x e = refl
    value_long kinds.Short class types.Short typed some x e = refl
    value_long kinds.Int class types.Int typed some Number e = refl
    value_long kinds.Int class types.Int typed some (Refs names) e = absurd cc
    value_long kinds.Int class types.Int typed some Unusable e = absurd cc
    value_long kinds.Ref class (types.Reference type) typed some Number e = absurd cc
    value_long kinds.Ref class (types.Reference type) typed some Unusable e = absurd cc
    value_long kinds.Ref class (types.Reference type) typed some (Refs names) e = refl
    value_long kinds.Void class t typed some x e = absurd cc
    value_long kind class t typed some x e = absurd typed

    module _ (most : ℕ) (base ls : List Cell) (below : AllZip IsCellBelow ls base) where
      -- it is cut
      pub value_cut : (kind : Kind) (class : List ℕ) (t : ValueType) → IsTypedAs card_type kind class t → is_void kind
          ≡ false → (x : Cell) → is_value w kind class x ≡ true → (s : List Cell) → length s + 2 ≤ most → Walks is_of
          most
          base (cutting t) ls (words_of card_type x ++ s) ls (cut_words card_type t x ++ s)
      value_cut kinds.Bool class types.Boolean typed some x e s few = number x e
        where
          number : (y : Cell) → is_value w kinds.Bool class y ≡ true → Walks is_of most base (calculating 2 1 ∷ []) ls
              (words_of card_type y ++ s) ls (Number ∷ s)
          number Number f = walk_one is_of most base (calculating 2 1) ls (Number ∷ Number ∷ s) ls (Number ∷ s)
              (narrow_sound is_of most ls s few) below refl refl
          number (Refs names) f = absurd cc
          number Unusable f = absurd cc
      value_cut kinds.Byte class types.Byte typed some x e s few = number x e
        where
          number : (y : Cell) → is_value w kinds.Byte class y ≡ true → Walks is_of most base (calculating 2 1 ∷ []) ls
              (words_of card_type y ++ s) ls (Number ∷ s)
          number Number f = walk_one is_of most base (calculating 2 1) ls (Number ∷ Number ∷ s) ls (Number ∷ s)
              (narrow_sound is_of most ls s few) below refl refl
          number (Refs names) f = absurd cc
          number Unusable f = absurd cc
      value_cut kinds.Short class types.Short typed some x e s few = number x e
        where
          number : (y : Cell) → is_value w kinds.Short class y ≡ true → Walks is_of most base (calculating 2 1 ∷ []) ls
              (words_of card_type y ++ s) ls (Number ∷ s)
          number Number f = walk_one is_of most base (calculating 2 1) ls (Number ∷ Number ∷ s) ls (Number ∷ s)
              (narrow_sound is_of most ls s few) below refl refl
          number (Refs names) f = absurd cc
          number Unusable f = absurd cc
      value_cut kinds.Int class types.Int typed some x e s few = walk_none is_of most base ls (words_of card_type x ++
          s)
      value_cut kinds.Ref class (types.Reference type) typed some x e s few = walk_none is_of most base ls (words_of
          card_type x ++ s)
      value_cut kinds.Void class t typed some x e s few = absurd cc
      value_cut kind class t typed some x e s few = absurd typed

      -- ---- what comes back

      -- the words of a result, widened
      abbrev pub back_words : ValueType → List Cell
      back_words types.Void = []
      back_words (types.Reference type) = Refs (type ∷ []) ∷ []
      back_words t = Number ∷ Number ∷ []

      pub back_below : (part : Part) (t : ValueType) → IsTypedAs card_type part.kind part.class t → AllZip IsCellBelow
          (back_words t) (stack_words card_type (result_of part))
      back_below part t typed = by part.kind part.class t typed
        where
          by : (kind : Kind) (class : List ℕ) (u : ValueType) → IsTypedAs card_type kind class u → AllZip IsCellBelow
              (back_words u) (stack_words card_type (if is_void kind then [] else cell_of kind class ∷ []))
          by kinds.Bool class types.Boolean e = (tt, (tt, tt))
          by kinds.Byte class types.Byte e = (tt, (tt, tt))
          by kinds.Short class types.Short e = (tt, (tt, tt))
          by kinds.Int class types.Int e = (tt, (tt, tt))
          by kinds.Ref class (types.Reference type) e = (own_below card_type class type e, tt)
          by kinds.Void class types.Void e = tt
          by kind class u e = absurd e

      -- an instruction takes words and gives a value
      pub value_back : (needs : List Need) (t : ValueType) (s : List Cell) → length needs ≤ length s → length s ≤ most
          → length (drop (length needs) s) + 2 ≤ most → has_wrong is_of needs s ≡ false → Walks is_of most base (taking
          needs (words_given t) true [] ∷ widening t) ls s ls (back_words t ++ drop (length needs) s)
      value_back needs types.Void s enough few left right = walk_one is_of most base (taking needs [] true []) ls s ls
          (drop
          (length needs) s) (sound_taking is_of most needs [] true [] ls s enough few (omega (arith, left)) right) below
          refl refl
      value_back needs types.Boolean s enough few left right = walk_both is_of most base (taking needs (ANumber ∷ [])
          true
          [] ∷ []) (calculating 1 2 ∷ []) ls s ls (Number ∷ drop (length needs) s) ls (Number ∷ Number ∷ drop (length
          needs)
          s) (walk_one is_of most base (taking needs (ANumber ∷ []) true []) ls s ls (Number ∷ drop (length needs) s)
          (sound_taking is_of most needs (ANumber ∷ []) true [] ls s enough few (omega (arith, left)) right) below refl
          refl) (walk_one is_of most base (calculating 1 2) ls (Number ∷ drop (length needs) s) ls (Number ∷ Number ∷
          drop
          (length needs) s) (widen_sound is_of most ls (drop (length needs) s) left) below refl refl)
      value_back needs types.Byte s enough few left right = walk_both is_of most base (taking needs (ANumber ∷ []) true
          []
          ∷ []) (calculating 1 2 ∷ []) ls s ls (Number ∷ drop (length needs) s) ls (Number ∷ Number ∷ drop (length
          needs) s)
          (walk_one is_of most base (taking needs (ANumber ∷ []) true []) ls s ls (Number ∷ drop (length needs) s)
          (sound_taking is_of most needs (ANumber ∷ []) true [] ls s enough few (omega (arith, left)) right) below refl
          refl) (walk_one is_of most base (calculating 1 2) ls (Number ∷ drop (length needs) s) ls (Number ∷ Number ∷
          drop
          (length needs) s) (widen_sound is_of most ls (drop (length needs) s) left) below refl refl)
      value_back needs types.Short s enough few left right = walk_both is_of most base (taking needs (ANumber ∷ []) true
          []
          ∷ []) (calculating 1 2 ∷ []) ls s ls (Number ∷ drop (length needs) s) ls (Number ∷ Number ∷ drop (length
          needs) s)
          (walk_one is_of most base (taking needs (ANumber ∷ []) true []) ls s ls (Number ∷ drop (length needs) s)
          (sound_taking is_of most needs (ANumber ∷ []) true [] ls s enough few (omega (arith, left)) right) below refl
          refl) (walk_one is_of most base (calculating 1 2) ls (Number ∷ drop (length needs) s) ls (Number ∷ Number ∷
          drop
          (length needs) s) (widen_sound is_of most ls (drop (length needs) s) left) below refl refl)
      value_back needs types.Int s enough few left right = walk_one is_of most base (taking needs (ANumber ∷ ANumber ∷
          [])
          true []) ls s ls (Number ∷ Number ∷ drop (length needs) s) (sound_taking is_of most needs (ANumber ∷ ANumber ∷
          [])
          true [] ls s enough few (omega (arith, left)) right) below refl refl
      value_back needs (types.Reference type) s enough few left right = walk_one is_of most base (taking needs (AnObject
          type
          ∷ []) true []) ls s ls (Refs (type ∷ []) ∷ drop (length needs) s) (sound_taking is_of most needs (AnObject
          type
          ∷ []) true [] ls s enough few (omega (arith, left)) right) below refl refl
