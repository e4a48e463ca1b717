-- ConstantPool.
use Rattle.std.proofs.Common.{◌^◌, ◌<◌, map, length, arith}
use Rattle.std.proofs.lemmas.List.{length-map}
use Rattle.cjc_pool.specs.CapWrite.Fits.{PoolEntryFits, PoolFits}
use Rattle.cjc_ncode.specs.declared.narrow.PoolKey.{PoolKey}
use Rattle.cjc_ncode.specs.declared.narrow.PoolKey.TheVariants as keys
use Rattle.cjc_ncode.specs.Lowering.Naming.{entry_of}
use Rattle.cjc_components.specs.Names.{names, pool_entries}
use Rattle.cjc_components.specs.Package.{Package, pool}
use Rattle.cjc_check_proof.specs.Limits.Premises.{IsLimited}
use Rattle.cjc_check_proof.proofs.LimitsLaws.Limits.{entries_few}
use Rattle.cjc_check_proof.proofs.LimitsLaws.Lists.{all_mapped}
use Rattle.cjc_check_proof.proofs.LimitsLaws.Refs.{class_fits, field_fits, method_fits}

module _ (p : Package) (h : IsLimited p) where
  entry_fits : (key : PoolKey) → PoolEntryFits (entry_of (names p) key)
  entry_fits (keys.Class c) = class_fits p h c
  entry_fits (keys.Field f) = class_fits p h f.class
  entry_fits (keys.Virtual m) = class_fits p h m.class
  entry_fits (keys.Super m) = class_fits p h m.class
  entry_fits (keys.StaticField f) = field_fits p h f
  entry_fits (keys.StaticMethod m) = method_fits p h m

  pub pool_fits : PoolFits (record { entries = pool_entries p })
  pool_fits = record {
    count = (let few = (entries_few p h.limits) in let same = length-map (pool p) (entry_of (names p))
        in let lt : length (map (entry_of (names p)) (pool p)) < 2 ^ 16 = omega (arith, few, same) in lt);
    entries = all_mapped PoolEntryFits (entry_of (names p)) (pool p) (λ k key e. entry_fits key);
  }
