-- What is written of ConstantPool spells it.
use Rattle.std.proofs.Common.{ℕ, length, refl}
use Rattle.cjc_capread.proofs.BytesWriters.{Writes, then_writes, last_writes, number1_writes, u1_writes}
use Rattle.cjc_capread.proofs.BytesWriters.{repeated_writes}
use Rattle.cjc_capread.specs.declared.tree.ConstantPool.{ConstantPool}
use Rattle.cjc_capread.specs.declared.tree.PoolEntry.{PoolEntry}
use Rattle.cjc_capread.specs.declared.tree.PoolEntry.TheVariants as entries
use Rattle.cjc_capread.specs.Parts.{exactly}
use Rattle.cjc_capread.specs.Pool.{tag_of, content, pool_entry, constant_pool}
use Rattle.cjc_capwrite.specs.Pool.{entry_bytes, pool_bytes}
use Rattle.cjc_capwrite.specs.Fits.{PoolEntryFits, PoolFits}
use Rattle.cjc_capwrite.proofs.PartsWritten.{two_writes, class_ref_writes, static_ref_writes}

pub entry_writes : (at : ℕ) (x : PoolEntry) → PoolEntryFits x → Writes pool_entry at x (entry_bytes x)
unfolding pool_entry content entry_bytes
entry_writes at (entries.Classref class) fits =
    then_writes (number1_writes tag_of at 1 _ refl) (then_writes (class_ref_writes _ class fits)
    (last_writes (number1_writes (exactly 0) _ 0 0 refl) refl))
entry_writes at (entries.InstanceFieldref class token) fits =
    then_writes (number1_writes tag_of at 2 _ refl) (then_writes (class_ref_writes _ class fits)
    (last_writes (u1_writes _ token) refl))
entry_writes at (entries.VirtualMethodref class token) fits =
    then_writes (number1_writes tag_of at 3 _ refl) (then_writes (class_ref_writes _ class fits)
    (last_writes (u1_writes _ token) refl))
entry_writes at (entries.SuperMethodref class token) fits =
    then_writes (number1_writes tag_of at 4 _ refl) (then_writes (class_ref_writes _ class fits)
    (last_writes (u1_writes _ token) refl))
entry_writes at (entries.StaticFieldref member) fits = then_writes (number1_writes tag_of at 5 _ refl)
    (last_writes (static_ref_writes _ member fits) refl)
entry_writes at (entries.StaticMethodref member) fits = then_writes (number1_writes tag_of at 6 _ refl)
    (last_writes (static_ref_writes _ member fits) refl)

pub pool_writes : (at : ℕ) (x : ConstantPool) → PoolFits x → Writes constant_pool at x (pool_bytes x)
unfolding constant_pool pool_bytes
pool_writes at x fits =
    then_writes (two_writes at (length x.entries) fits.count)
    (last_writes (repeated_writes pool_entry entry_bytes PoolEntryFits entry_writes _ (length x.entries) x.entries refl
    fits.entries) refl)
