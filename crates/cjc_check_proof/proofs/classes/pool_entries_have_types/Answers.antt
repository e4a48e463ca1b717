use Rattle.std.proofs.Common.{◌≡◌, ℕ, ◌+◌, ◌==◌, Bool, true, false, List, [], ◌∷◌, length, refl, arith}
use Rattle.std.specs.Prelude.{◌&&◌, ◌||◌, not, nat_lt, flat_map}
use Rattle.std.specs.List.{list_any}
use Rattle.std.proofs.lemmas.Bool.Decides.{nat_tests}
use Rattle.cjc_pool.specs.CapWrite.Files.{is_wide}
use Rattle.cjc_pool.specs.CapWrite.Descriptor.{types_bytes}
use Rattle.cjc_check_rules.specs.Spots.{in_info}
use Rattle.cjc_check_rules.specs.ClassRefs.{pool_count_at}
use Rattle.cjc_check_rules.specs.Described.{is_type, type_of_entry}
use Rattle.cjc_ncode.specs.declared.narrow.PoolKey.{PoolKey}
use Rattle.cjc_ncode.specs.declared.narrow.PoolKey.TheVariants as keys
use Rattle.cjc_ncode.specs.Lowering.Naming.{entry_of}
use Rattle.cjc_components.specs.Package.{Package, pool}
use Rattle.cjc_components.specs.Names.{names}
use Rattle.cjc_components.specs.Types.{desc_of_key, all_descs, type_offset}
use Rattle.cjc_components.specs.Descriptor.{descriptor, pool_type}
use Rattle.cjc_vtable.proofs.Filed.{Has, at_front}
use Rattle.cjc_token_proof.proofs.ComponentsLaws.Tests.{passes}
use Rattle.cjc_check_proof.specs.Classes.Premises.{HasNearTypes}
use Rattle.cjc_check_proof.proofs.ClassesLaws.Lists.{has-front, has-flat, none_beside}
use Rattle.cjc_check_proof.proofs.ClassesLaws.Types.{type_begins, types_long}
use Rattle.cjc_check_proof.proofs.classes.pool_entries_have_types.Goals as goal

near : (p : Package) → HasNearTypes p → nat_lt 32767 (length (types_bytes (descriptor p))) ≡ false
near p e = by (list_any is_wide (let d = descriptor p in d.types)) (nat_lt 32767 (length (types_bytes (descriptor p))))
    e
  where
    by : (a b : Bool) → (a || b) ≡ false → b ≡ false
    by true b e = absurd (cc)
    by false b e = e

-- a member
one : (p : Package) → HasNearTypes p → (key : PoolKey) (desc : List ℕ) → desc_of_key key ≡ desc ∷ [] → Has key (pool p)
    → (not (type_offset p desc == 0xFFFF) && is_type (descriptor p) (type_offset p desc)) ≡ true
one p e key desc is h =
    let there : Has desc (all_descs p) = has-front desc (flat_map desc_of_key (pool p)) _ (has-flat desc_of_key key desc
    (pool p) h (rw is at_front)) in
    let r = type_begins p desc there in
    let begins = r.0 in
    let le = r.1 in
    let long = types_long p in
    let limit = near p e in
    grind (arith, nat_tests, begins, le, long, limit)

each : (p : Package) → HasNearTypes p → (at : ℕ) (key : PoolKey) → Has key (pool p)
    → type_of_entry (descriptor p) at (pool_type p key) (entry_of (names p) key) ≡ []
each p e at (keys.Class c) h = passes _ (in_info 11 at) refl
each p e at (keys.Field m) h = passes _ (in_info 11 at) (one p e (keys.Field m) m.desc refl h)
each p e at (keys.Virtual m) h = passes _ (in_info 11 at) (one p e (keys.Virtual m) m.desc refl h)
each p e at (keys.Super m) h = passes _ (in_info 11 at) (one p e (keys.Super m) m.desc refl h)
each p e at (keys.StaticField m) h = passes _ (in_info 11 at) (one p e (keys.StaticField m) m.desc refl h)
each p e at (keys.StaticMethod m) h = passes _ (in_info 11 at) (one p e (keys.StaticMethod m) m.desc refl h)

pub returns-clause-each : goal.returns-clause-each
returns-clause-each c p e = none_beside (λ offset. 2) (type_of_entry (descriptor p)) (pool_type p) (entry_of (names p))
    (pool_count_at (descriptor p) + 2) (pool p) (each p e)
