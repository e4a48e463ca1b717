-- What the handlers of a converted package catch stands in its pool: java/lang/Object at the entry of every exception,
-- all else behind it.
use Rattle.std.proofs.Common.{◌≡◌, ℕ, suc, refl, sym, ap, ◌∙◌, Bool, true, false, not, List, [], ◌∷◌, ◌++◌}
use Rattle.std.specs.Prelude.{Option, Some, None, filter, flat_map, option_map, position, slice_get, unwrap_or}
use Rattle.std.specs.Prelude.{if◌then◌else◌}
use Rattle.std.specs.Str.{bytes_eq}
use Rattle.std.proofs.lemmas.Option.{slice_get-map}
use Rattle.std.proofs.lemmas.Slice.Eq.{bytes_eq-Decides}
use Rattle.std.proofs.lemmas.Map.Keys.{any_passes_from_place}
use Rattle.cjc_components.specs.Bytecode.declared.method_code.MethodCode.{MethodCode}
use Rattle.cjc_components.specs.Package.{LaidMethod, Package, codes, pool, world}
use Rattle.cjc_token_proof.specs.Narrow.Keys.Index.{index_of}
use Rattle.cjc_components.proofs.NarrowIndices.{needed}
use Rattle.cjc_token_proof.specs.List.Listed.{ListTree}
use Rattle.cjc_ncode.specs.Lowering.Handlers.{Catches, any, every, one}
use Rattle.cjc_ncode.specs.Lowering.Naming.{IsClass}
use Rattle.cjc_narrow_proof.proofs.LawsLaws.Handlers.{caught_there, class_there}
use Rattle.cjc_ncode.specs.PoolOrder.{any_exception, has_catch_type, is_field, is_some, method_keys, once, same_key}
use Rattle.cjc_ncode.specs.declared.narrow.NCatch.{NCatch}
use Rattle.cjc_ncode.specs.declared.narrow.PoolKey.{PoolKey}
use Rattle.cjc_ncode.specs.declared.narrow.PoolKey.TheVariants as keys
use Rattle.cjc_shape_proof.proofs.PoolKeys.{some_of}
use Rattle.cjc_token_proof.specs.Tables.Loading.{naming}
use Rattle.cjc_tokens.proofs.Facts.{position-cons}
use Rattle.cjc_world.specs.Classes.{Class, class_named}
use Rattle.cjc_world.specs.Lookup.{object}
use Rattle.cjc_theorem.proofs.AlikeLaws.NamedLaws.Means.{catch_held, catch_needed}
use Rattle.cjc_theorem.proofs.AlikeLaws.NamedLaws.Sources.{has_catch}
use Rattle.cjc_shape_proof.specs.Written.Checked.{IsOfFiles}
use Rattle.cjc_shape_proof.proofs.WrittenLaws.Checked.{own_names}

module _ (p : Package) (k : ℕ) (m : LaidMethod) (e : slice_get p.methods k ≡ Some m) (j : ℕ) (c : NCatch)
    (f : (let code = m.code in slice_get code.catches j ≡ Some c)) (name : List ℕ) (names : c.class ≡ Some name) where
  code_at : slice_get (codes p) k ≡ Some m.code
  code_at = slice_get-map (λ (x : LaidMethod). x.code) p.methods k ∙ ap (option_map (λ (x : LaidMethod). x.code)) e

  -- entry 0 is that of java/lang/Object
  first_key : any_exception (codes p) ≡ keys.Class object ∷ []
  first_key =
      let typed : has_catch_type m.code ≡ true = any_passes_from_place (λ (d : NCatch). is_some d.class)
      (let code = m.code
      in code.catches) j c f (ap is_some names) in
      ap (λ b. if b then keys.Class object ∷ [] else []) (any_passes_from_place has_catch_type
      (codes p) k m.code code_at typed)

  -- the keys behind it
  abbrev later : List PoolKey
  later = let seen = flat_map method_keys (codes p) in once (keys.Class object ∷ []) (filter is_field seen
      ++ filter (λ key. not (is_field key)) seen)

  abbrev index_behind : (is_object : Bool) → Option ℕ
  index_behind is_object = if is_object then Some 0 else option_map suc (position (same_key (keys.Class name)) later)

  index : index_of (pool p) (keys.Class name) ≡ index_behind (bytes_eq name object)
  index =
      let seen = flat_map method_keys (codes p) in
      let pool_is : pool p ≡ keys.Class object ∷ later = ap (λ first. once [] (first ++ filter is_field seen
      ++ filter (λ key. not (is_field key)) seen)) first_key in
      ap (position (same_key (keys.Class name))) pool_is ∙ position-cons (same_key (keys.Class name))
      (keys.Class object) later

  pub at_first : bytes_eq name object ≡ true → unwrap_or (index_of (pool p) (keys.Class name)) 0 ≡ 0
  at_first same = ap (λ o. unwrap_or o 0) (index ∙ ap index_behind same)

  pub behind_first : bytes_eq name object ≡ false → (i : ℕ) × (unwrap_or (index_of (pool p) (keys.Class name)) 0
      ≡ suc i)
  behind_first apart =
      let found = some_of (index_of (pool p) (keys.Class name)) (needed (codes p) (keys.Class name)
      (catch_needed p k m e j c f name names)) in
      let behind = index ∙ ap index_behind apart in
      by (position (same_key (keys.Class name)) later) found.0 (sym found.1 ∙ behind) behind
    where
      by : (o : Option ℕ) (i : ℕ) → Some i ≡ option_map suc o → index_of (pool p) (keys.Class name) ≡ option_map suc o
          → (i : ℕ) × (unwrap_or (index_of (pool p) (keys.Class name)) 0 ≡ suc i)
      by None i g h = cc
      by (Some q) i g h = (q, ap (λ o. unwrap_or o 0) h)

module _ (list : ListTree) (codes : List MethodCode) (p : Package) (is : IsOfFiles list codes p)
    (classes : (x : List ℕ) (c : Class) → class_named (world p) x ≡ Some c → IsClass (naming p) x) where
  pub catches_fit : (k : ℕ) (m : LaidMethod) → slice_get p.methods k ≡ Some m → (j : ℕ) (c : NCatch)
      → (let code = m.code in slice_get code.catches j ≡ Some c) → Catches (naming p) c.class
  catches_fit k m e j c f = by c.class refl
    where
      by_name : (name : List ℕ) → c.class ≡ Some name → (b : Bool) → bytes_eq name object ≡ b
          → Catches (naming p) (Some name)
      by_name name g true same = every ((bytes_eq-Decides name object).0 same) (at_first p k m e j c f name g same)
      by_name name g false apart =
          let u = own_names list codes p is.checked in
          let s = has_catch list codes p is k m e j c f in
          let h = s.handler in
          let caught : h.class ≡ Some name = s.same ∙ g in
          let at = class_there (world p) name (caught_there p.files codes u.names s.code _ s.method s.tree s.of
          s.listed h name s.there caught) in
          let index = behind_first p k m e j c f name g apart in
          one index.1 (catch_held p k m e j c f name g) (classes name at.0 at.1)

      by : (o : Option (List ℕ)) → c.class ≡ o → Catches (naming p) o
      by None g = any
      by (Some name) g = by_name name g (bytes_eq name object) refl
