-- What bytes that spell a pool say of its entries, and the constants that these stand for.
use Rattle.std.proofs.Common.{◌≡◌, ℕ, zero, suc, ◌+◌, ◌<◌, ◌≤◌, ◌^◌, Bool, true, false, cond, List, [], ◌∷◌, Option}
use Rattle.std.proofs.Common.{Some, None, option_and_then, length, refl, sym, ap, subst, ◌∙◌, arith, FitsSigned}
use Rattle.std.specs.Prelude.{◌==◌}
use Rattle.std.specs.List.{AllByRecursion, flat_map}
use Rattle.std.specs.Int.{w32, cast_unsigned}
use Rattle.std.proofs.Math.Facts.{sfits_to_z, Fits-bits}
use Rattle.std.proofs.lemmas.Bool.Decides.{Decides-eqb}
use Rattle.cjc_bytes.specs.Format.{Spells, repeated}
use Rattle.cjc_export.specs.declared.pool.Index.{Index}
use Rattle.cjc_export.specs.declared.pool.Tag.{Tag}
use Rattle.cjc_export.specs.declared.pool.Tag.TheVariants as tags
use Rattle.cjc_export.specs.Entry.{Entry}
use Rattle.cjc_export.specs.Entry as entries
use Rattle.cjc_export.specs.Pool.{counted, index, aid_length, content, entry, text_at}
use Rattle.cjc_export.specs.Constant.{Constant, text, integer, class, this}
use Rattle.cjc_export.specs.Writable.{IsText}
use Rattle.cjc_export.proofs.Worth.{total, total-append}
use Rattle.cjc_bytes.proofs.Inverse.{InBytes, with_inner, number8, u1_is, u2_is, u4_is, raw_is, here_is, given}

-- ---- the pool

-- the bytes of an entry
abbrev pub entry_size : Entry → ℕ
entry_size (entries.text bytes) = 3 + length bytes
entry_size (entries.integer n) = 5
entry_size (entries.class name) = 3
entry_size (entries.package_info library name minor major aid) = 7 + length aid

abbrev pub entry_sizes : List Entry → ℕ
entry_sizes [] = 0
entry_sizes (e ∷ es) = entry_size e + entry_sizes es

-- what stands in an entry fits its fields
abbrev pub EntryFits : Entry → Type 0
EntryFits (entries.text bytes) = IsText bytes
EntryFits (entries.integer n) = FitsSigned w32 n
EntryFits (entries.class name) = Unit {0}
EntryFits (entries.package_info library name minor major aid) = (minor < 2 ^ 8) × (major < 2 ^ 8)
    × (aid_length (length aid) ≡ Some (length aid))

abbrev EntryRead : ℕ → Entry → Type 0
EntryRead size e = EntryFits e × (1 + size ≡ entry_size e)

pub cond_same : {A : Type 0} (b : Bool) (x y : A) → cond b (Some x) None ≡ Some y → x ≡ y
cond_same true x y e = cc
cond_same false x y e = absurd cc

pub cond_other : {A : Type 0} (b : Bool) (x y : A) → cond b None (Some x) ≡ Some y → x ≡ y
cond_other true x y e = absurd cc
cond_other false x y e = cc

pub chosen : {A B : Type 0} (p : A → Bool) (o : Option A) (b d : B)
    → option_and_then (λ (x : A). cond (p x) (Some b) None) o ≡ Some d → b ≡ d
chosen p None b d e = absurd cc
chosen p (Some x) b d e = cond_same (p x) b d e

aid_same : (n m : ℕ) → aid_length n ≡ Some m → n ≡ m
aid_same n m e = cond_same _ n m e

index_read : (at : ℕ) (i : Index) (bytes : List ℕ) → InBytes bytes → Spells index at i bytes → length bytes ≡ 2
unfolding index
index_read at i bytes ok h =
    with_inner _ _ _ _ _ ok h (λ a.
    with_inner _ _ _ _ _ a.backs a.rest (λ to.
    let place = here_is _ _ _ _ a.one in
    let k = u2_is _ _ _ to.fronts to.one in
    let made = given _ _ _ _ to.rest in
    omega (arith, a.sizes, to.sizes, place, k.1, made.1)))

-- the parts of a package's entry, one behind the other
package_sum : (all flags a name b minor c major d count e aid f size : ℕ)
    → all ≡ flags + a → flags ≡ 1 → a ≡ name + b → name ≡ 2 → b ≡ minor + c → minor ≡ 1 → c ≡ major + d → major ≡ 1
    → d ≡ count + e → count ≡ 1 → e ≡ aid + f → aid ≡ size → f ≡ 0
    → 1 + all ≡ 7 + size
package_sum all flags a name b minor c major d count e aid f size p q r s t u v w x y z o n = omega arith

content_read : (tag : Tag) (at : ℕ) (e : Entry) (bytes : List ℕ) → InBytes bytes → Spells (content tag) at e bytes
    → EntryRead (length bytes) e
unfolding content counted
content_read tags.Utf8 at e bytes ok h =
    with_inner _ _ _ _ _ ok h (λ b.
    with_inner _ _ _ _ _ b.fronts b.one (λ n.
    let count = u2_is _ _ _ n.fronts n.one in
    let r = raw_is _ _ _ _ n.rest in
    let g = given _ _ _ _ b.rest in
    let short : IsText b.x = omega (arith, count.0, r.0) in
    let size : 1 + length bytes ≡ 3 + length b.x = omega (arith, b.sizes, n.sizes, count.1, r.0, r.1, g.1) in
    subst (λ (x : Entry). EntryRead (length bytes) x) g.0 (short, size)))
content_read tags.Integer at e bytes ok h =
    with_inner _ _ _ _ _ ok h (λ n.
    let k = u4_is _ _ _ n.fronts n.one in
    let g = given _ _ _ _ n.rest in
    let size : 1 + length bytes ≡ 5 = omega (arith, n.sizes, k.1, g.1) in
    subst (λ (x : Entry). EntryRead (length bytes) x) g.0 (
      sfits_to_z {w = w32} {n = n.x} (Fits-bits {w = w32} {n = n.x}
          32 tt k.0),
      size,
    ))
content_read tags.Class at e bytes ok h =
    with_inner _ _ _ _ _ ok h (λ i.
    let g = given _ _ _ _ i.rest in
    let k : length i.front ≡ 2 = index_read _ _ _ i.fronts i.one in
    let size : 1 + length bytes ≡ 3 = omega (arith, i.sizes, g.1) in
    subst (λ (x : Entry). EntryRead (length bytes) x) g.0 (tt, size))
content_read tags.Package at e bytes ok h =
    with_inner _ _ _ _ _ ok h (λ flags.
    let f = u1_is _ _ _ flags.fronts flags.one in
    with_inner _ _ _ _ _ flags.backs flags.rest (λ i.
    with_inner _ _ _ _ _ i.backs i.rest (λ minor.
    let mi = u1_is _ _ _ minor.fronts minor.one in
    with_inner _ _ _ _ _ minor.backs minor.rest (λ major.
    let ma = u1_is _ _ _ major.fronts major.one in
    with_inner _ _ _ _ _ major.backs major.rest (λ n.
    let count = number8 aid_length _ _ _ n.fronts n.one in
    with_inner _ _ _ _ _ n.backs n.rest (λ aid.
    let r = raw_is _ _ _ _ aid.one in
    let g = given _ _ _ _ aid.rest in
    let same_count : count.n ≡ n.x = aid_same count.n n.x count.is in
    let long : count.n ≡ length aid.x = same_count ∙ sym r.0 in
    let fits : aid_length (length aid.x) ≡ Some (length aid.x) = subst (λ (m : ℕ). aid_length m ≡ Some m) long (count.is
    ∙ ap Some (sym same_count)) in
    let size : 1 + length bytes ≡ 7 + length aid.x =
    package_sum _ _ _ _ _ _ _ _ _ _ _ _ _ _ flags.sizes f.1 i.sizes (index_read _ _ _ i.fronts i.one) minor.sizes mi.1
    major.sizes ma.1 n.sizes count.sizes aid.sizes (r.1 ∙ sym r.0) g.1 in
    subst (λ (x : Entry). EntryRead (length bytes) x) g.0 ((mi.0, ma.0, fits), size)))))))

entry_read : (at : ℕ) (e : Entry) (bytes : List ℕ) → InBytes bytes → Spells entry at e bytes → EntryFits e
    × (length bytes ≡ entry_size e)
unfolding entry
entry_read at e bytes ok h =
    with_inner _ _ _ _ _ ok h (λ tag.
    let k = number8 _ _ _ _ tag.fronts tag.one in
    let r = content_read tag.x _ e tag.back tag.backs tag.rest in
    let one : length tag.front ≡ 1 = k.sizes in
    (r.0, tag.sizes ∙ (ap (λ (n : ℕ). n + length tag.back) one ∙ r.1)))

abbrev pub PoolRead : ℕ → ℕ → List Entry → Type 0
PoolRead n size pool = (length pool ≡ n) × AllByRecursion EntryFits pool × (size ≡ entry_sizes pool)

pub entries_read : (n at : ℕ) (pool : List Entry) (bytes : List ℕ) → InBytes bytes
    → Spells (repeated n entry) at pool bytes → PoolRead n (length bytes) pool
unfolding repeated
entries_read zero at pool bytes ok h = let g = given _ _ _ _ h
    in subst (λ (es : List Entry). PoolRead 0 (length bytes) es) g.0 (refl, tt, g.1)
entries_read (suc n) at pool bytes ok h =
    with_inner _ _ _ _ _ ok h (λ x.
    with_inner _ _ _ _ _ x.backs x.rest (λ xs.
    let one = entry_read _ x.x x.front x.fronts x.one in
    let more = entries_read n _ xs.x xs.front xs.fronts xs.one in
    let g = given _ _ _ _ xs.rest in
    let size : length bytes ≡ entry_size x.x + entry_sizes xs.x = x.sizes
    ∙ joined_sizes (length x.front) (length x.back) (length xs.front) (length xs.back) (entry_size x.x)
    (entry_sizes xs.x) one.1 xs.sizes more.2 g.1 in
    subst (λ (es : List Entry). PoolRead (suc n) (length bytes) es) g.0 (ap suc more.0, (one.0, more.1), size)))
  where
    joined_sizes : (a b c d e f : ℕ) → a ≡ e → b ≡ c + d → c ≡ f → d ≡ 0 → a + b ≡ e + f
    joined_sizes a b c d e f h g i j = omega arith

-- ---- what the entries stand for

unfoldable pub named : Option (List ℕ) → List Constant
named None = []
named (Some name) = class name ∷ []

-- the constant of an entry; that of a package with an AID of another length is none of ours
abbrev pub meant : List Entry → ℕ → Entry → List Constant
meant pool mine (entries.text bytes) = text bytes ∷ []
meant pool mine (entries.integer n) = integer (cast_unsigned w32 n) ∷ []
meant pool mine (entries.class name) = named (text_at pool name.to)
meant pool mine (entries.package_info library name minor major aid) = cond (length aid == mine) (this ∷ []) []

-- the bytes of a constant's entry
abbrev pub size_of : ℕ → Constant → ℕ
size_of mine (text bytes) = 3 + length bytes
size_of mine (integer n) = 5
size_of mine (class name) = 3
size_of mine this = 7 + mine

abbrev pub one_each : Constant → ℕ
one_each c = 1

module _ (pool : List Entry) (mine : ℕ) where
  named_size : (o : Option (List ℕ)) → total (size_of mine) (named o) ≤ 3
  unfolding named
  named_size None = omega arith
  named_size (Some name) = omega arith

  named_one : (o : Option (List ℕ)) → total one_each (named o) ≤ 1
  unfolding named
  named_one None = omega arith
  named_one (Some name) = omega arith

  this_size : (b : Bool) (n : ℕ) → (n == mine) ≡ b → total (size_of mine) (cond b (this ∷ []) []) ≤ 7 + n
  this_size true n e = let same_length : n ≡ mine = (Decides-eqb n mine).0 e in omega arith
  this_size false n e = omega arith

  this_one : (b : Bool) → total one_each (cond b (this ∷ []) []) ≤ 1
  this_one true = omega arith
  this_one false = omega arith

  meant_size : (e : Entry) → total (size_of mine) (meant pool mine e) ≤ entry_size e
  meant_size (entries.text bytes) = omega arith
  meant_size (entries.integer n) = omega arith
  meant_size (entries.class name) = named_size (text_at pool name.to)
  meant_size (entries.package_info library name minor major aid) = this_size (length aid == mine) (length aid) refl

  meant_one : (e : Entry) → total one_each (meant pool mine e) ≤ 1
  meant_one (entries.text bytes) = omega arith
  meant_one (entries.integer n) = omega arith
  meant_one (entries.class name) = named_one (text_at pool name.to)
  meant_one (entries.package_info library name minor major aid) = this_one (length aid == mine)

  added : (a b c d e : ℕ) → a ≡ b + c → b ≤ d → c ≤ e → a ≤ d + e
  added a b c d e h g i = omega arith

  pub meant_sizes : (es : List Entry) → total (size_of mine) (flat_map (meant pool mine) es) ≤ entry_sizes es
  meant_sizes [] = omega arith
  meant_sizes (e ∷ es) = added _ _ _ _ _ (total-append (size_of mine) (meant pool mine e) (flat_map (meant pool mine)
      es)) (meant_size e) (meant_sizes es)

  pub meant_ones : (es : List Entry) → total one_each (flat_map (meant pool mine) es) ≤ length es
  meant_ones [] = omega arith
  meant_ones (e ∷ es) =
      let bound : total one_each (flat_map (meant pool mine) (e ∷ es)) ≤ 1 + length es =
      added _ _ _ _ _ (total-append one_each (meant pool mine e) (flat_map (meant pool mine) es)) (meant_one e)
      (meant_ones es) in
      omega arith
