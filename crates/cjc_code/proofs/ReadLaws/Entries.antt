-- What is known of the entries of a constant pool that bytes spell, and of the items that they are.
use Rattle.std.proofs.Common.{◌≡◌, ℕ, zero, suc, List, [], ◌∷◌, Some, Result, Ok, Err, refl, ap, subst, ◌∙◌, arith, ℤ}
use Rattle.std.proofs.Common.{pos, negsuc, slice_get}
use Rattle.std.specs.Prelude.{FitsSigned}
use Rattle.std.specs.Int.{w32}
use Rattle.std.specs.List.{AllByRecursion}
use Rattle.std.proofs.lemmas.Int.{ints}
use Rattle.cjc_bytes.specs.Found.{all_of, each, kept, ◌>>=◌}
use Rattle.cjc_classfile.specs.PoolItem.{PoolItem}
use Rattle.cjc_classfile.specs.PoolItem as items
use Rattle.cjc_classfile.specs.Entry.{Entry, text, integer, class, field, method, interface_method}
use Rattle.cjc_classfile.specs.Items.{class_text_at, item, member, pool_items, tested}
use Rattle.cjc_classfile.specs.Pool.{desc_kind}
use Rattle.cjc_range.specs.Span.{Holds, full}
use Rattle.cjc_code.specs.ReadLaws.Members.{AreWords}

pub fit32 : (z : ℤ) → FitsSigned w32 z → Holds full z
fit32 (pos n) f = let h = f.sfits in record { above = omega (arith, ints); below = omega (arith, ints) }
fit32 (negsuc n) f = let h = f.sfits in record { above = omega (arith, ints); below = omega (arith, ints) }

-- whether a text is a descriptor is told of its bytes, and an Integer has 32 bits
abbrev pub EntryFits : Entry → Type 0
EntryFits (text bytes desc) = desc ≡ desc_kind bytes
EntryFits (integer z) = Holds full z
EntryFits _ = Unit {0}

abbrev pub PoolFits : List Entry → Type 0
PoolFits pool = AllByRecursion EntryFits pool

bound : {A B : Type 0} (r : Result B ℕ) (f : B → Result A ℕ) (a : A) → r >>= f ≡ Ok a → (b : B) × (f b ≡ Ok a)
bound (Ok b) f a e = (b, e)
bound (Err k) f a e = absurd cc

item_is : (pool : List Entry) (e : Entry) (z : ℤ) → EntryFits e → item pool e ≡ Ok (items.Int z) → Holds full z
unfolding item
item_is pool (integer n) z fits e = let same : n ≡ z = cc in subst (Holds full) same fits
item_is pool (class name) z fits e = let b = bound (kept name.at (class_text_at pool name.to)) (λ n. Ok (items.Class n))
    (items.Int z) e in let no = b.1 in absurd cc
item_is pool (field owner pair) z fits e = let b = bound (member pool owner pair) (λ m. Ok (items.Field m))
    (items.Int z) e in let no = b.1 in absurd cc
item_is pool (method owner pair) z fits e = let b = bound (member pool owner pair) (λ m. Ok (items.Method m))
    (items.Int z) e in let no = b.1 in absurd cc
item_is pool (interface_method owner pair) z fits e = let b =
    bound (member pool owner pair) (λ m. Ok (items.InterfaceMethod m)) (items.Int z) e in let no = b.1 in absurd cc
item_is pool _ z fits e = absurd cc

each_is : (pool es : List Entry) (ys : List PoolItem) → PoolFits es → each (item pool) es ≡ Ok ys → AreWords ys
unfolding each
each_is pool [] ys fits e k z at = let same : [] ≡ ys = cc in none (ap (λ (v : List PoolItem). slice_get v k) same ∙ at)
  where
    none : slice_get [] k ≡ Some (items.Int z) → Holds full z
    none at = absurd cc
each_is pool (x ∷ es) ys fits e k z at = go (item pool x) refl (each (item pool) es) refl e
    (λ zs f j g. each_is pool es zs fits.1 f j z g)
  where
    at_place : (j : ℕ) (y : PoolItem) (zs : List PoolItem) → item pool x ≡ Ok y → each (item pool) es ≡ Ok zs
        → slice_get (y ∷ zs) j ≡ Some (items.Int z) → ((zs : List PoolItem) → each (item pool) es ≡ Ok zs → (j : ℕ)
        → slice_get zs j ≡ Some (items.Int z) → Holds full z) → Holds full z
    at_place zero y zs f g here rest = let same : y ≡ items.Int z = cc in item_is pool x z fits.0 (f ∙ ap Ok same)
    at_place (suc j) y zs f g here rest = rest zs g j here

    go : (a : Result PoolItem ℕ) → item pool x ≡ a → (r : Result (List PoolItem) ℕ) → each (item pool) es ≡ r
        → (a >>= λ b. r >>= λ bs. Ok (b ∷ bs)) ≡ Ok ys → ((zs : List PoolItem) → each (item pool) es ≡ Ok zs → (j : ℕ)
        → slice_get zs j ≡ Some (items.Int z) → Holds full z) → Holds full z
    go (Err i) f r g h rest = absurd cc
    go (Ok b) f (Err i) g h rest = absurd cc
    go (Ok b) f (Ok bs) g h rest = let same : b ∷ bs ≡ ys = cc
        in at_place k b bs f g (ap (λ (v : List PoolItem). slice_get v k) same ∙ at) rest

pub items_are : (pool : List Entry) → PoolFits pool → (ys : List PoolItem) → pool_items pool ≡ Ok ys → AreWords ys
unfolding pool_items
items_are pool fits ys e = let b = bound (all_of (tested pool) pool) (λ passed. each (item pool) pool) ys e
    in each_is pool pool ys fits b.1
