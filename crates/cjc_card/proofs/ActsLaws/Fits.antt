-- Types of arrays and objects that are there, and what is put into arrays.
use Rattle.std.proofs.Common.{◌≡◌, ℕ, ℤ, pos, List, refl, sym, ap, ◌∙◌, Bool, true, false}
use Rattle.std.specs.Prelude.{Option, Some, None, option_map, slice_get, slice_set, nat_lt, length, ◌&&◌, if◌then◌else◌}
use Rattle.cjc_script.specs.declared.value.Value.{Value}
use Rattle.cjc_script.specs.declared.value.Value.TheVariants.{Num, Null, Obj}
use Rattle.cjc_script.specs.Sorts.{Shape, Element, element_sort, fits}
use Rattle.cjc_card_semantics.specs.Bytecode.Effects.{HeapObject, Numbers, References, Object, shape}
use Rattle.cjc_card_semantics.specs.Bytecode.Machine.{item_fits, object_fits, put_item, thing_fits, with_array}
use Rattle.cjc_card_semantics.specs.Bytecode.Machine.{with_item}
use Rattle.cjc_card_semantics.specs.Machine.Loaded.{Loaded}
use Rattle.cjc_card_semantics.specs.Machine.Classes.{Class, Field, is_of}
use Rattle.cjc_card_semantics.specs.Machine.ByToken.{by_token}
use Rattle.cjc_card.specs.Acts.States.{HeapByToken}

module _ (l : Loaded) where
  -- an array or object of a type
  pub fits_there : (thing : Option (HeapObject Class Field)) (sub kind : Shape Class)
      → Some sub ≡ option_map shape thing → thing_fits (by_token l) thing (Some kind) ≡ is_of l sub kind
  unfolding by_token
  fits_there None sub kind e = absurd cc
  fits_there (Some t) sub kind e = let same : sub ≡ shape t = cc e in ap (λ s. is_of l s kind) (sym same)

  -- none of the number
  pub fits_nothing : (thing : Option (HeapObject Class Field)) (kind : Option (Shape Class))
      → None ≡ option_map shape thing → thing_fits (by_token l) thing kind ≡ false
  fits_nothing None kind e = refl
  fits_nothing (Some t) kind e = absurd cc

  -- no type of the name
  pub fits_no_type : (thing : Option (HeapObject Class Field)) → thing_fits (by_token l) thing None ≡ false
  fits_no_type None = refl
  fits_no_type (Some t) = refl
