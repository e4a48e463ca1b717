-- The frame in which a method of Method is entered lies below the card's frame of the entry of the method of the class
-- file.
use Rattle.std.proofs.Common.{◌≡◌, ℕ, zero, suc, refl, sym, ap, subst, ◌∙◌, Bool, true, false, List, [], ◌∷◌, ◌++◌, map}
use Rattle.std.proofs.Common.{flat_map, replicate, take, Option, Some}
use Rattle.std.specs.Prelude.{if◌then◌else◌}
use Rattle.std.specs.List.{AllZip}
use Rattle.cjc_types.proofs.BytesLists.{map_append}
use Rattle.cjc_types.specs.Bytes.Descriptor.{Part}
use Rattle.cjc_types.specs.Cells.{IsCellBelow}
use Rattle.cjc_types.specs.Flow.{Body as BodyByName, arguments as arguments_by_name, entry as entry_by_name}
use Rattle.cjc_types.specs.States.{states}
use Rattle.cjc_types.specs.Types.{is_void, result_of, value_of}
use Rattle.cjc_types.specs.World.Classes.{Class}
use Rattle.cjc_types.specs.declared.cell.Cell.{Cell}
use Rattle.cjc_types.specs.declared.cell.Cell.TheVariants.{Refs, Unusable}
use Rattle.cjc_verify.specs.CardActs.CardTypes.{ValueType, words}
use Rattle.cjc_verify.specs.Narrow.Pairs.Open.{closed}
use Rattle.cjc_frames.specs.Acts.{Subtype, given}
use Rattle.cjc_frames.specs.Flow.{Body, entry}
use Rattle.cjc_frames.specs.declared.acts.Given.{Given}
use Rattle.cjc_frames.specs.declared.acts.Given.TheVariants.{AnObject}
use Rattle.cjc_accepted_proof.specs.Frames.{AreTypesFor, SubtypesAgree, card_cell, card_cells, card_state}
use Rattle.cjc_accepted_proof.proofs.KindsLaws.{result_puts}
use Rattle.cjc_accepted_proof.proofs.RowsLaws.{mapped_both, zip_both, zip_itself}
use Rattle.cjc_accepted_proof.proofs.TypesLaws.{own_below}

module _ (card_type : List ℕ → Option (List ℕ)) where
  abbrev cells : List Cell → List Cell
  cells = card_cells card_type

  -- ---- locals

  take_below : (n : ℕ) (xs ys : List Cell) → AllZip IsCellBelow xs ys → AllZip IsCellBelow (take n xs) (take n ys)
  take_below zero xs ys below = tt
  take_below (suc n) [] [] below = tt
  take_below (suc n) [] (y ∷ ys) below = absurd below
  take_below (suc n) (x ∷ xs) [] below = absurd below
  take_below (suc n) (x ∷ xs) (y ∷ ys) below = (below.0, take_below n xs ys below.1)

  cells_taken : (n : ℕ) (xs : List Cell) → cells (take n xs) ≡ take n (cells xs)
  cells_taken zero xs = refl
  cells_taken (suc n) [] = refl
  cells_taken (suc n) (x ∷ xs) = ap (λ ys. card_cell card_type x ∷ ys) (cells_taken n xs)

  unusable_cells : (n : ℕ) → cells (replicate n Unusable) ≡ replicate n Unusable
  unusable_cells zero = refl
  unusable_cells (suc n) = ap (λ ys. Unusable ∷ ys) (unusable_cells n)

  -- the arguments in the first locals
  pub entry_below : (m : Body) (b : BodyByName) → m.local_count ≡ b.max_locals → AllZip IsCellBelow (map (given [] [])
      m.arguments) (cells (arguments_by_name b)) → (let s = states m.local_count in s.Below (entry m) (card_state
      card_type closed (entry_by_name b)))
  entry_below m b same below = (
    tt,
    subst (λ n. AllZip IsCellBelow (take n (map (given [] []) m.arguments ++ replicate n Unusable)) (cells (take
        b.max_locals (arguments_by_name b ++ replicate b.max_locals Unusable)))) (sym same)
        (subst (λ zs. AllZip IsCellBelow (take b.max_locals (map (given [] []) m.arguments ++ replicate b.max_locals
        Unusable)) zs) (sym (cells_taken b.max_locals (arguments_by_name b ++ replicate b.max_locals Unusable)
        ∙ ap (take b.max_locals) (mapped_both (card_cell card_type) (arguments_by_name b) (replicate b.max_locals
        Unusable) ∙ ap (λ us. cells (arguments_by_name b) ++ us) (unusable_cells b.max_locals))))
        (take_below b.max_locals (map (given [] []) m.arguments ++ replicate b.max_locals Unusable)
        (cells (arguments_by_name b) ++ replicate b.max_locals Unusable) (zip_both (map (given [] []) m.arguments)
        (replicate b.max_locals Unusable) (cells (arguments_by_name b)) (replicate b.max_locals Unusable) below
        (zip_itself (replicate b.max_locals Unusable))))),
  )

  -- ---- arguments

  module _ (is_of : Subtype) (w : List Class) (agree : SubtypesAgree card_type is_of w) where
    one_below : (part : Part) (t : ValueType) → AreTypesFor card_type (part ∷ []) (t ∷ []) → AllZip IsCellBelow (map
        (given [] []) (words t)) (cells (value_of part ∷ []))
    one_below part t typed = subst (λ v. AllZip IsCellBelow (map (given [] []) (words t)) (cells (if v then []
        else value_of part ∷ []))) typed.1 (result_puts card_type is_of w agree part t typed.0 [] [])

    params_below : (ps : List Part) (ts : List ValueType) → AreTypesFor card_type ps ts → AllZip IsCellBelow (map (given
        [] []) (flat_map words ts)) (cells (map value_of ps))
    params_below [] [] typed = tt
    params_below [] (t ∷ ts) typed = absurd typed
    params_below (part ∷ ps) [] typed = absurd typed
    params_below (part ∷ ps) (t ∷ ts) typed = subst (λ xs. AllZip IsCellBelow xs (cells (value_of part ∷ map value_of
        ps))) (sym (map_append (given [] []) (words t) (flat_map words ts))) (zip_both (map (given [] []) (words t))
        (map (given [] []) (flat_map words ts)) (cells (value_of part ∷ [])) (cells (map value_of ps)) (one_below part t
        (typed.0, typed.1, tt)) (params_below ps ts typed.2))

    -- the receiver and the parameters
    pub arguments_below : (static : Bool) (class holder : List ℕ) → card_type class ≡ Some holder → (ps : List Part)
        (ts : List ValueType) → AreTypesFor card_type ps ts → AllZip IsCellBelow (map (given [] []) ((if static then []
        else AnObject holder ∷ []) ++ flat_map words ts)) (cells ((if static then [] else Refs (class ∷ []) ∷ [])
        ++ map value_of ps))
    arguments_below true class holder e ps ts typed = params_below ps ts typed
    arguments_below false class holder e ps ts typed = (
      own_below card_type class holder e,
      params_below ps ts typed,
    )
