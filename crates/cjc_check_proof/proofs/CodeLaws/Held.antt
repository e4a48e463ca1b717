-- The pool of a package has the entry of each key that its code and its handlers name.
use Rattle.std.proofs.Common.{◌≡◌, refl, ap, ◌∙◌, true, List, [], ◌∷◌}
use Rattle.std.specs.Prelude.{flat_map, ◌||◌, Some}
use Rattle.std.specs.List.{AllByRecursion, list_any}
use Rattle.std.proofs.lemmas.Bool.{or_right}
use Rattle.cjc_ncode.specs.declared.narrow.PoolKey.{PoolKey}
use Rattle.cjc_ncode.specs.declared.narrow.PoolKey.TheVariants as keys
use Rattle.cjc_ncode.specs.PoolOrder.{method_keys, same_key}
use Rattle.cjc_ncode.specs.Lowering.Naming.{entry_of}
use Rattle.cjc_pool.proofs.PoolLaws.Entries.{all_held}
use Rattle.cjc_pool.proofs.PoolLaws.Keys.{same_itself}
use Rattle.cjc_components.specs.Package.{codes, Package}
use Rattle.cjc_components.specs.Names.{names, naming_over, pool_entries, unloaded}
use Rattle.cjc_check_proof.proofs.CodeLaws.Entries.{all_keys, IsHeld}

-- each of these keys, where all are among others
each_among : (P : PoolKey → Type 0) (all xs : List PoolKey) → ((key : PoolKey) → list_any (same_key key) all ≡ true
    → P key) → ((key : PoolKey) → list_any (same_key key) xs ≡ true → list_any (same_key key) all ≡ true)
    → AllByRecursion P xs
each_among P all [] h more = tt
each_among P all (x ∷ xs) h more = (
  h x (more x (ap (λ b. b || list_any (same_key x) xs) (same_itself x))),
  each_among P all xs h (λ key e. more key (or_right (same_key key x) (list_any (same_key key) xs) e)),
)

-- its entry is the same, whoever loads the package
same_entry : (p : Package) (key : PoolKey) → entry_of (naming_over unloaded (pool_entries p) p) key
    ≡ entry_of (names p) key
same_entry p (keys.Class c) = refl
same_entry p (keys.Field f) = refl
same_entry p (keys.Virtual m) = refl
same_entry p (keys.Super m) = refl
same_entry p (keys.StaticField f) = refl
same_entry p (keys.StaticMethod m) = refl

pub keys_held : (p : Package) → AllByRecursion (IsHeld (names p) (pool_entries p)) (all_keys (names p) (pool_entries p)
    p.methods)
keys_held p =
    let all = flat_map method_keys (codes p) in
    each_among (IsHeld (names p) (pool_entries p)) all all (λ key e. let h = all_held p unloaded key e in h.there
    ∙ ap Some (same_entry p key)) (λ key e. e)
