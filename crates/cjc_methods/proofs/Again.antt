-- The pool of methods that are selected again, by other instance fields that have an index of one byte.
use Rattle.std.proofs.Common.{◌≡◌, refl, sym, ap, ◌∙◌, List, [], ◌∷◌}
use Rattle.std.specs.Prelude.{map, Option, Some, None}
use Rattle.cjc_bytes.specs.declared.fault.MemberId.{MemberId}
use Rattle.cjc_world.specs.declared.found.Found.{Found}
use Rattle.cjc_world.specs.Classes.{all_classes}
use Rattle.cjc_world.specs.Files.{Files}
use Rattle.cjc_pool.specs.JvmSemantics.Linked.{Method}
use Rattle.cjc_pool.specs.JvmSemantics.OnePackage.{method_at}
use Rattle.cjc_pool.specs.NCode.declared.narrow.NMethod.{NMethod}
use Rattle.cjc_pool.specs.NCode.PoolOrder.{has_catch_type, method_keys, pool_order}
use Rattle.cjc_narrow.proofs.KeysLaws.Indices.{same_pool}
use Rattle.cjc_narrow.specs.Rows.Forms.{FormsOnly}
use Rattle.cjc_narrow.specs.Rows.Package.{code_of, flags_of, read_of, tree_of}
use Rattle.cjc_narrow.specs.Rows.Resolved.{is_near, method_found, resolution}
use Rattle.cjc_narrow.specs.Rows.Selected.{near_fields}
use Rattle.cjc_narrow.proofs.RowsLaws.Handlers.{forms_only, same_keys, same_types}
use Rattle.cjc_int_mode.specs.Written.{int_frame, places_from, reached_from}
use Rattle.cjc_int_mode.specs.declared.modes.Mode.{Mode}
use Rattle.cjc_int_mode.specs.declared.modes.Mode.TheVariants as modes
use Rattle.cjc_int_narrow.proofs.Near.{near_keys, near_types}
use Rattle.cjc_int_package.specs.Modes.{Tables}
use Rattle.cjc_int_package.specs.Written.{code_by_mode, code_by_mode_at, code_in}

module _ (files : Files) (t : Tables) (before after : List MemberId) where
  only_forms : (m : Method) → (let id = m.id in FormsOnly (resolution files before id.class)
      (is_near (all_classes files) after) (read_of m (flags_of (method_found (all_classes files) id))) (t.types m))
  only_forms m = let id = m.id in forms_only (read_of m (flags_of (method_found (all_classes files) id))) (t.types m)
      (resolution files before id.class) (is_near (all_classes files) after)

  keys_in : (mode : Mode) (m : Method) → method_keys (code_in files before t mode m)
      ≡ method_keys (code_in files after t mode m)
  unfolding resolution
  keys_in modes.Short m = same_keys (code_of files before t.types m) (code_of files after t.types m)
      (sym (only_forms m).keys) (sym (only_forms m).classes)
  keys_in modes.Int m =
      let id = m.id in
      let b = read_of m (flags_of (method_found (all_classes files) id)) in
      sym (near_keys (int_frame b) (resolution files before id.class) (is_near (all_classes files) after) (tree_of m)
      (reached_from (t.ranges m) 0 b.insns (t.types m)) (places_from 0 b.insns (t.types m)))

  types_in : (mode : Mode) (m : Method) → has_catch_type (code_in files before t mode m)
      ≡ has_catch_type (code_in files after t mode m)
  unfolding resolution
  types_in modes.Short m = same_types (code_of files before t.types m) (code_of files after t.types m)
      (sym (only_forms m).classes)
  types_in modes.Int m =
      let id = m.id in
      let b = read_of m (flags_of (method_found (all_classes files) id)) in
      sym (near_types (int_frame b) (resolution files before id.class) (is_near (all_classes files) after) (tree_of m)
      (reached_from (t.ranges m) 0 b.insns (t.types m)) (places_from 0 b.insns (t.types m)))

  keys_of : (f : Found) (o : Option Method) → method_keys (code_by_mode files before t f o)
      ≡ method_keys (code_by_mode files after t f o)
  keys_of f None = refl
  keys_of f (Some m) = keys_in (t.mode m) m

  types_of : (f : Found) (o : Option Method) → has_catch_type (code_by_mode files before t f o)
      ≡ has_catch_type (code_by_mode files after t f o)
  types_of f None = refl
  types_of f (Some m) = types_in (t.mode m) m

  all_keys : (fs : List Found) → map method_keys (map (code_by_mode_at files before t) fs)
      ≡ map method_keys (map (code_by_mode_at files after t) fs)
  all_keys [] = refl
  all_keys (f ∷ fs) =
      ap (λ ks. ks ∷ map method_keys (map (code_by_mode_at files before t) fs)) (keys_of f (method_at files f))
      ∙ ap (λ rest. method_keys (code_by_mode_at files after t f) ∷ rest) (all_keys fs)

  all_types : (fs : List Found) → map has_catch_type (map (code_by_mode_at files before t) fs)
      ≡ map has_catch_type (map (code_by_mode_at files after t) fs)
  all_types [] = refl
  all_types (f ∷ fs) =
      ap (λ b. b ∷ map has_catch_type (map (code_by_mode_at files before t) fs)) (types_of f (method_at files f))
      ∙ ap (λ rest. has_catch_type (code_by_mode_at files after t f) ∷ rest) (all_types fs)

  pub same_pools : (fs : List Found) → pool_order (map (code_by_mode_at files before t) fs)
      ≡ pool_order (map (code_by_mode_at files after t) fs)
  same_pools fs = same_pool (map (code_by_mode_at files before t) fs) (map (code_by_mode_at files after t) fs)
      (all_keys fs) (all_types fs)

-- Code that is selected by its own pool.
pub by_own_pool : (files : Files) (t : Tables) (fs : List Found) (before : List MemberId)
    (first last : List NMethod) → first ≡ map (code_by_mode_at files before t) fs
    → last ≡ map (code_by_mode_at files (near_fields (pool_order first)) t) fs
    → last ≡ map (code_by_mode_at files (near_fields (pool_order last)) t) fs
by_own_pool files t fs before first last e f =
    let near = near_fields (pool_order first) in
    let pools : pool_order first ≡ pool_order last = ap pool_order e ∙ same_pools files t before near fs
    ∙ ap pool_order (sym f) in
    f ∙ ap (λ pool. map (code_by_mode_at files (near_fields pool) t) fs) pools
