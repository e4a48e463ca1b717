-- The nibbles of type descriptors, read as references to classes.
use Rattle.std.proofs.Common.{◌≡◌, ℕ, ◌+◌, ◌-◌, ◌*◌, ◌/◌, ◌%◌, ◌<◌, ◌==◌, Bool, true, false, List, [], ◌∷◌, ◌++◌, refl}
use Rattle.std.proofs.Common.{sym, ap, subst, ◌∙◌, arith, append_assoc, append-nil}
use Rattle.std.specs.Prelude.{◌||◌, ◌&&◌, Option, Some, None, flat_map, nat_lt, if◌then◌else◌}
use Rattle.std.specs.List.{list_all}
use Rattle.std.proofs.lemmas.Bool.Decides.{nat_tests}
use Rattle.cjc_capread.specs.Parts.{class_of}
use Rattle.cjc_capread.specs.declared.tree.ClassRef.{ClassRef}
use Rattle.cjc_capread.specs.declared.tree.ClassRef.TheVariants.{Inside, Outside}
use Rattle.cjc_token_proof.specs.Script.Sorts.{Booleans, Bytes, Shorts, Ints, Shape, OfClass, OfNumbers, OfReferences}
use Rattle.cjc_token_proof.specs.Script.Sorts.{Sort}
use Rattle.cjc_token_proof.specs.Script.Sorts.{Boolean, Byte, Short, Int, Reference, NoValue, Signature, field_sort}
use Rattle.cjc_check_rules.specs.Spots.{in_info, unless}
use Rattle.cjc_check_rules.specs.ClassRefs.{in_nibbles}
use Rattle.cjc_components.specs.Types.{ref_nibbles, shape_nibbles, sort_nibbles, result_nibbles, nibbles_by}
use Rattle.cjc_check_proof.specs.Classes.Premises.{shape_known, sort_known, result_known, types_known}
use Rattle.cjc_token_proof.proofs.ComponentsLaws.Tests.{passes, none_in_both}

-- ---- four nibbles

-- two bytes say it
unfoldable pub IsShort : ClassRef → Type 0
IsShort (Inside offset) = offset < 32768
IsShort (Outside import class) = (import < 128) × (class < 256)

abbrev four : (h l : ℕ) → ℕ
four h l = 4096 * (h / 16) + 256 * (h % 16) + 16 * (l / 16) + l % 16

four_is : (h l : ℕ) → four h l ≡ 256 * h + l
four_is h l = omega arith

low_half : (o : ℕ) → o < 32768 → 256 * (o % 65536 / 256 % 256) + o % 65536 % 256 ≡ o
low_half o lt = omega (arith, lt)

high_half : (i : ℕ) → i < 128 → (128 + i) % 256 ≡ 128 + i
high_half i lt = omega (arith, lt)

inside : (o n : ℕ) → n ≡ o → o < 32768 → class_of n ≡ Inside o
inside o n is lt =
    let low : nat_lt n 0x8000 ≡ true = grind (arith, nat_tests, is, lt) in
    ap (λ b. if b then Inside n else Outside (n / 256 - 0x80) (n % 256)) low ∙ ap Inside is

outside : (i c n : ℕ) → n ≡ 256 * (128 + i) + c → i < 128 → c < 256 → class_of n ≡ Outside i c
outside i c n is lt few =
    let high : nat_lt n 0x8000 ≡ false = grind (arith, nat_tests, is) in
    let one : n / 256 - 0x80 ≡ i = omega (arith, is, few) in
    let two : n % 256 ≡ c = omega (arith, is, few) in
    ap (λ b. if b then Inside n else Outside (n / 256 - 0x80) (n % 256)) high ∙ ap (λ m. Outside m (n % 256)) one
    ∙ ap (Outside i) two

-- ---- the walk

module _ (test : ClassRef → Bool) (at : ℕ) where
  -- nothing is broken in these, whatever their number
  unfoldable pub IsClear : List ℕ → Type 0
  IsClear nibbles = (i : ℕ) → in_nibbles test at i nibbles ≡ []

  -- nor where they stand before such
  unfoldable pub IsPiece : List ℕ → Type 0
  IsPiece xs = (rest : List ℕ) → IsClear rest → IsClear (xs ++ rest)

  one_nibble : (n : ℕ) → (n == 0x6 || n == 0xE) ≡ false → (rest : List ℕ) → IsClear rest → IsClear (n ∷ rest)
  unfolding in_nibbles IsClear
  one_nibble n e [] clear i = refl
  one_nibble n e (a ∷ []) clear i = refl
  one_nibble n e (a ∷ b ∷ []) clear i = refl
  one_nibble n e (a ∷ b ∷ c ∷ []) clear i = refl
  one_nibble n e (a ∷ b ∷ c ∷ d ∷ rest) clear i =
      ap (λ t. if t then unless (test (class_of (4096 * a + 256 * b + 16 * c + d))) (in_info 11 (at + 1 + (i + 1) / 2))
      ++ in_nibbles test at (i + 5) rest else in_nibbles test at (i + 1) (a ∷ b ∷ c ∷ d ∷ rest)) e
      ∙ clear (i + 1)

  five_nibbles : (n a b c d : ℕ) → (n == 0x6 || n == 0xE) ≡ true → test (class_of (4096 * a + 256 * b + 16 * c + d))
      ≡ true → (rest : List ℕ) → IsClear rest → IsClear (n ∷ a ∷ b ∷ c ∷ d ∷ rest)
  unfolding in_nibbles IsClear
  five_nibbles n a b c d e f rest clear i =
      ap (λ t. if t then unless (test (class_of (4096 * a + 256 * b + 16 * c + d))) (in_info 11 (at + 1 + (i + 1) / 2))
      ++ in_nibbles test at (i + 5) rest else in_nibbles test at (i + 1) (a ∷ b ∷ c ∷ d ∷ rest)) e
      ∙ none_in_both (passes _ (in_info 11 (at + 1 + (i + 1) / 2)) f) (clear (i + 5))

  class_piece : (n : ℕ) (ref : ClassRef) → (n == 0x6 || n == 0xE) ≡ true → IsShort ref → test ref ≡ true
      → IsPiece (n ∷ ref_nibbles ref)
  unfolding IsPiece IsShort
  class_piece n (Inside o) e short there rest clear =
      let h = o % 65536 / 256 % 256 in
      let l = o % 65536 % 256 in
      five_nibbles n (h / 16) (h % 16) (l / 16) (l % 16) e (ap test (inside o (four h l) (four_is h l
      ∙ low_half o short) short) ∙ there) rest clear
  class_piece n (Outside i c) e short there rest clear =
      let h = (128 + i) % 256 in
      five_nibbles n (h / 16) (h % 16) (c / 16) (c % 16) e
      (ap test (outside i c (four h c) (four_is h c ∙ ap (λ m. 256 * m + c) (high_half i short.0)) short.0 short.1)
      ∙ there) rest clear

  nothing : IsPiece []
  unfolding IsPiece IsClear
  nothing rest clear = clear

  both : (xs ys : List ℕ) → IsPiece xs → IsPiece ys → IsPiece (xs ++ ys)
  unfolding IsPiece
  both xs ys p q rest clear = subst IsClear (sym (append_assoc xs ys rest)) (p (ys ++ rest) (q rest clear))

  all_clear : (xs : List ℕ) → IsPiece xs → IsClear xs
  unfolding IsPiece IsClear in_nibbles
  all_clear xs p = subst IsClear (append-nil xs) (p [] (λ i. refl))

  -- ---- types

  module _ (ref : List ℕ → ClassRef) (known : List ℕ → Bool) (there : (x : List ℕ) → known x ≡ true → IsShort (ref x)
      × (test (ref x) ≡ true)) where
    shape_piece : (shape : Shape (List ℕ)) → shape_known known shape ≡ true → IsPiece (shape_nibbles ref shape)
    unfolding IsPiece
    shape_piece (OfClass c) e rest clear = let r = there c e in class_piece 6 (ref c) refl r.0 r.1 rest clear
    shape_piece (OfReferences c) e rest clear = let r = there c e in class_piece 14 (ref c) refl r.0 r.1 rest clear
    shape_piece (OfNumbers Booleans) e rest clear = one_nibble 10 refl rest clear
    shape_piece (OfNumbers Bytes) e rest clear = one_nibble 11 refl rest clear
    shape_piece (OfNumbers Shorts) e rest clear = one_nibble 12 refl rest clear
    shape_piece (OfNumbers Ints) e rest clear = one_nibble 13 refl rest clear

    pub sort_piece : (sort : Sort) → sort_known known sort ≡ true → IsPiece (sort_nibbles ref sort)
    unfolding IsPiece
    sort_piece Boolean e rest clear = one_nibble 2 refl rest clear
    sort_piece Byte e rest clear = one_nibble 3 refl rest clear
    sort_piece Short e rest clear = one_nibble 4 refl rest clear
    sort_piece Int e rest clear = one_nibble 5 refl rest clear
    sort_piece (Reference shape) e rest clear = shape_piece shape e rest clear
    sort_piece NoValue e rest clear = nothing rest clear

    params_piece : (sorts : List Sort) → list_all (sort_known known) sorts ≡ true
        → IsPiece (flat_map (sort_nibbles ref) sorts)
    params_piece [] e = nothing
    params_piece (s ∷ sorts) e = by (sort_known known s) refl e (params_piece sorts)
      where
        by : (b : Bool) → sort_known known s ≡ b → (b && list_all (sort_known known) sorts) ≡ true
            → (list_all (sort_known known) sorts ≡ true → IsPiece (flat_map (sort_nibbles ref) sorts))
            → IsPiece (sort_nibbles ref s ++ flat_map (sort_nibbles ref) sorts)
        by true f g rest = both (sort_nibbles ref s) (flat_map (sort_nibbles ref) sorts) (sort_piece s f) (rest g)
        by false f g rest = absurd (cc)

    result_piece : (o : Option Sort) → result_known known o ≡ true → IsPiece (result_nibbles ref o)
    unfolding IsPiece
    result_piece None e rest clear = one_nibble 1 refl rest clear
    result_piece (Some sort) e rest clear = sort_piece sort e rest clear

    pub types_clear : (desc : List ℕ) (o : Option Signature) → types_known known desc o ≡ true
        → IsClear (nibbles_by ref desc o)
    types_clear desc None e = all_clear (sort_nibbles ref (field_sort desc)) (sort_piece (field_sort desc) e)
    types_clear desc (Some types) e = by (list_all (sort_known known) types.params) refl e
      where
        by : (b : Bool) → list_all (sort_known known) types.params ≡ b → (b && result_known known types.result) ≡ true
            → IsClear (flat_map (sort_nibbles ref) types.params ++ result_nibbles ref types.result)
        by true f g = all_clear _ (both (flat_map (sort_nibbles ref) types.params) (result_nibbles ref types.result)
            (params_piece types.params f) (result_piece types.result g))
        by false f g = absurd (cc)
