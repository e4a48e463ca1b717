-- The pool of methods that are selected again.
use Rattle.std.proofs.Common.{◌≡◌, refl, sym, ap, ◌∙◌, List, [], ◌∷◌}
use Rattle.std.specs.Prelude.{map}
use Rattle.cjc_types.specs.Bytes.declared.fault.MemberId.{MemberId}
use Rattle.cjc_types.specs.World.Classes.{all_classes}
use Rattle.cjc_types.specs.World.Files.{Files}
use Rattle.cjc_ncode.specs.PoolOrder.{has_catch_type, method_keys, pool_order}
use Rattle.cjc_types.specs.Flow.{body_of}
use Rattle.cjc_narrow.proofs.KeysLaws.Indices.{same_pool}
use Rattle.cjc_narrow.specs.Rows.Forms.{FormsOnly}
use Rattle.cjc_narrow.specs.Rows.Resolved.{is_near, resolution}
use Rattle.cjc_narrow.proofs.RowsLaws.Handlers.{forms_only, same_keys, same_types}
use Rattle.cjc_narrow.specs.Written.Rows.{rows_by}
use Rattle.cjc_narrow.specs.Select.Forms.{Selection, all_selected, code_selected}

module _ (files : Files) (before after : List MemberId) where
  -- of one method
  only_forms : (s : Selection) → (let class = s.class in FormsOnly (resolution files before class.name)
      (is_near (all_classes files) after) (body_of class s.method s.code s.insns) (rows_by s.reached))
  only_forms s = let class = s.class in forms_only (body_of class s.method s.code s.insns) (rows_by s.reached)
      (resolution files before class.name) (is_near (all_classes files) after)

  keys_of : (s : Selection) → method_keys (code_selected files before s) ≡ method_keys (code_selected files after s)
  unfolding resolution
  keys_of s = same_keys (code_selected files before s) (code_selected files after s) (sym (only_forms s).keys)
      (sym (only_forms s).classes)

  types_of : (s : Selection) → has_catch_type (code_selected files before s)
      ≡ has_catch_type (code_selected files after s)
  unfolding resolution
  types_of s = same_types (code_selected files before s) (code_selected files after s) (sym (only_forms s).classes)

  all_keys : (methods : List Selection) → map method_keys (all_selected files before methods)
      ≡ map method_keys (all_selected files after methods)
  all_keys [] = refl
  all_keys (s ∷ methods) =
      ap (λ ks. ks ∷ map method_keys (all_selected files before methods)) (keys_of s)
      ∙ ap (λ rest. method_keys (code_selected files after s) ∷ rest) (all_keys methods)

  all_types : (methods : List Selection) → map has_catch_type (all_selected files before methods)
      ≡ map has_catch_type (all_selected files after methods)
  all_types [] = refl
  all_types (s ∷ methods) =
      ap (λ b. b ∷ map has_catch_type (all_selected files before methods)) (types_of s)
      ∙ ap (λ rest. has_catch_type (code_selected files after s) ∷ rest) (all_types methods)

pub same_pools : (files : Files) (before after : List MemberId) (methods : List Selection)
    → pool_order (all_selected files before methods) ≡ pool_order (all_selected files after methods)
same_pools files before after methods = same_pool (all_selected files before methods) (all_selected files after methods)
    (all_keys files before after methods) (all_types files before after methods)
