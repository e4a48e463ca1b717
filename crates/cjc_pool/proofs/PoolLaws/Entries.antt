-- The entries of a pool as components hold them.
use Rattle.std.proofs.Common.{◌≡◌, ℕ, refl, sym, ap, ◌∙◌, true, List, map}
use Rattle.std.specs.Prelude.{Some, option_map, position, slice_get, unwrap_or}
use Rattle.std.specs.List.{flat_map, list_any}
use Rattle.std.proofs.lemmas.Option.{slice_get-map}
use Rattle.cjc_narrow.specs.LowerCapRead.declared.tree.PoolEntry.{PoolEntry}
use Rattle.cjc_narrow.specs.LowerCardSemantics.Machine.Loaded.{Loaded}
use Rattle.cjc_narrow.specs.Keys.Index.{index_of}
use Rattle.cjc_narrow.proofs.KeysLaws.Indices.{key_at, needed}
use Rattle.cjc_narrow.specs.LowerNCode.declared.narrow.PoolKey.{PoolKey}
use Rattle.cjc_narrow.specs.LowerNCode.declared.narrow.PoolKey.TheVariants as keys
use Rattle.cjc_narrow.specs.LowerNCode.PoolOrder.{method_keys, same_key}
use Rattle.cjc_narrow.specs.LowerNCode.Lowering.Naming.{Holds, entry_of}
use Rattle.cjc_pool.specs.Pool.{IsPool, PoolView}
use Rattle.cjc_components.specs.Names.{names, naming_over, pool_entries}
use Rattle.cjc_components.specs.Package.{Package, codes, pool, tokens}
use Rattle.cjc_pool.proofs.PoolLaws.Keys.{some_of}

pub same_entries : (p : Package) (v : PoolView) → IsPool p.files (tokens p) (codes p) v
    → map (entry_of (names p)) v.keys ≡ pool_entries p
same_entries p v is = ap (map (entry_of (names p))) is.keys

pub same_index : (p : Package) (v : PoolView) → IsPool p.files (tokens p) (codes p) v
    → (loaded : Loaded) (entries : List PoolEntry) (key : PoolKey) (i : ℕ)
    → position (same_key key) v.keys ≡ Some i → (naming_over loaded entries p).index key ≡ i
same_index p v is loaded entries key i e = ap (λ o. unwrap_or o 0) (ap (λ ks. index_of ks key) (sym is.keys) ∙ e)

-- the references and tokens of an entry do not depend on who loads it
same_entry : (p : Package) (loaded : Loaded) (entries : List PoolEntry) (key : PoolKey) → entry_of (names p) key
    ≡ entry_of (naming_over loaded entries p) key
same_entry p loaded entries (keys.Class c) = refl
same_entry p loaded entries (keys.Field f) = refl
same_entry p loaded entries (keys.Virtual m) = refl
same_entry p loaded entries (keys.Super m) = refl
same_entry p loaded entries (keys.StaticField f) = refl
same_entry p loaded entries (keys.StaticMethod m) = refl

pub all_held : (p : Package) (loaded : Loaded) (key : PoolKey)
    → list_any (same_key key) (flat_map method_keys (codes p)) ≡ true → Holds (naming_over loaded (pool_entries p) p)
    key
all_held p loaded key h =
    let found = some_of (index_of (pool p) key) (needed (codes p) key h) in
    let index : (naming_over loaded (pool_entries p) p).index key ≡ found.0 = ap (λ o. unwrap_or o 0) found.1 in
    record {
      there =
          ap (slice_get (pool_entries p)) index
          ∙ slice_get-map (entry_of (names p)) (pool p) found.0
          ∙ ap (option_map (entry_of (names p))) (key_at (pool p) key found.0 found.1)
          ∙ ap Some (same_entry p loaded (pool_entries p) key);
    }
