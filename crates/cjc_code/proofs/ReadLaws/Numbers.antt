-- The numbers of decoded instructions have so many bits, opcode by opcode.
use Rattle.std.proofs.Common.{◌≡◌, ◌≤◌, ◌<◌, ◌+◌, ◌-◌, ℕ, zero, suc, Bool, true, false, List, [], ◌∷◌, ◌++◌, Option}
use Rattle.std.proofs.Common.{Some, None, slice_get, refl, sym, ap, subst, ◌∙◌, arith, ℤ, pos, negsuc}
use Rattle.std.specs.Prelude.{FitsSigned, not, ◌&&◌, ◌||◌, ◌==◌, nat_le, nat_lt, if◌then◌else◌}
use Rattle.std.specs.Int.{w8, w16, cast_signed}
use Rattle.std.proofs.Math.Facts.{Fits-bits, sfits_to_z}
use Rattle.std.proofs.lemmas.Bool.{eqb-false, eqb-true, leb-true, ltb-false, ltb-true}
use Rattle.std.proofs.lemmas.Int.{ints}
use Rattle.cjc_bytes.specs.Format.{Spells, repeated}
use Rattle.cjc_bytes.proofs.Inverse.{InBytes, given, inner, number16, number8}
use Rattle.cjc_classfile.specs.PoolItem.{PoolItem}
use Rattle.cjc_classfile.specs.PoolItem as items
use Rattle.cjc_code.specs.Instruction.{operand, operands}
use Rattle.cjc_code.specs.Named.{int_of, number_of, op_of}
use Rattle.cjc_code.specs.Numbers as numbers
use Rattle.cjc_code.specs.Table.{heads, ranges, row, tails}
use Rattle.cjc_code.specs.declared.table.Operand.TheVariants.{Signed4}
use Rattle.cjc_code.specs.Unfit.{has_wrong_type}
use Rattle.cjc_range.specs.Span.{Holds, full, short_range}
use Rattle.cjc_code.specs.ReadLaws.Instructions.{NumbersFit, is_one_of}
use Rattle.cjc_code.specs.ReadLaws.Members.{AreWords}
use Rattle.cjc_code.proofs.ReadLaws.Opcodes.{ends_below, unknown_above}
use Rattle.cjc_code.proofs.ReadLaws.Chunks.{AllBelow, join}

fit8 : (z : ℤ) → FitsSigned w8 z → Holds full z
fit8 (pos n) f = let h = f.sfits in record { above = omega (arith, ints); below = omega (arith, ints) }
fit8 (negsuc n) f = let h = f.sfits in record { above = omega (arith, ints); below = omega (arith, ints) }

fit16 : (z : ℤ) → FitsSigned w16 z → Holds full z
fit16 (pos n) f = let h = f.sfits in record { above = omega (arith, ints); below = omega (arith, ints) }
fit16 (negsuc n) f = let h = f.sfits in record { above = omega (arith, ints); below = omega (arith, ints) }

-- the numbers of an instruction begin with the operands of its opcode, and behind them stand those of a switch
pub record Begins (m : ℕ) (zs : List ℤ) : Type 0 where
  pub place : ℕ
  pub first : List ℤ
  pub rest : List ℤ
  pub bytes : List ℕ
  pub ok : InBytes bytes
  pub spells : Spells (operands (heads (row m).0)) place first bytes
  pub is : zs ≡ first ++ rest
  pub rest_place : ℕ
  pub rest_bytes : List ℕ
  pub rest_ok : InBytes rest_bytes
  pub rest_spells : Spells (repeated (tails (row m).0 first) (operand Signed4)) rest_place rest rest_bytes

-- the instruction by this opcode has numbers of so many bits
abbrev Fits : ℕ → Type 0
Fits m = (pool : List PoolItem) (at : ℕ) (zs : List ℤ) → AreWords pool → Begins m zs → has_wrong_type (row m).1 zs
    ≡ false → NumbersFit (op_of pool at m (row m).1 zs)

byte_fits : Fits 0x10
unfolding row operands operand
byte_fits pool at zs words b e =
    let z = inner _ _ _ _ _ b.ok b.spells in
    let n = number8 (λ n. Some (cast_signed w8 n)) _ z.x z.front z.fronts z.one in
    let more = inner _ _ _ _ _ z.backs z.rest in
    let first : b.first ≡ z.x ∷ more.x = sym (given _ _ _ _ more.rest).0 in
    let same : cast_signed w8 n.n ≡ z.x = some_same n.is in
    let all : zs ≡ z.x ∷ (more.x ++ b.rest) = b.is ∙ ap (λ xs. xs ++ b.rest) first in
    subst (λ xs. Holds full (numbers.first xs)) (sym all) (subst (Holds full) same (fit8 (cast_signed w8 n.n)
    (sfits_to_z {w = w8} {n = n.n} (Fits-bits {w = w8} {n = n.n} 8 tt n.small))))
  where
    some_same : {x y : ℤ} → Some x ≡ Some y → x ≡ y
    some_same e = cc

short_fits : Fits 0x11
unfolding row operands operand
short_fits pool at zs words b e =
    let z = inner _ _ _ _ _ b.ok b.spells in
    let n = number16 (λ n. Some (cast_signed w16 n)) _ z.x z.front z.fronts z.one in
    let more = inner _ _ _ _ _ z.backs z.rest in
    let first : b.first ≡ z.x ∷ more.x = sym (given _ _ _ _ more.rest).0 in
    let same : cast_signed w16 n.n ≡ z.x = some_same n.is in
    let all : zs ≡ z.x ∷ (more.x ++ b.rest) = b.is ∙ ap (λ xs. xs ++ b.rest) first in
    subst (λ xs. Holds full (numbers.first xs)) (sym all) (subst (Holds full) same (fit16 (cast_signed w16 n.n)
    (sfits_to_z {w = w16} {n = n.n} (Fits-bits {w = w16} {n = n.n} 16 tt n.small))))
  where
    some_same : {x y : ℤ} → Some x ≡ Some y → x ≡ y
    some_same e = cc

zero_fits : Holds full (pos 0)
zero_fits = record { above = omega (arith, ints); below = omega (arith, ints) }

item_fits : (pool : List PoolItem) → AreWords pool → (k : ℕ) → Holds full (number_of (int_of (slice_get pool k)))
item_fits pool words k = by (slice_get pool k) refl
  where
    by : (o : Option PoolItem) → slice_get pool k ≡ o → Holds full (number_of (int_of o))
    by (Some (items.Int z)) e = words k z e
    by (Some _) e = zero_fits
    by None e = zero_fits

pub inc_fits : (z : ℤ) → Holds short_range (numbers.i16_of z)
inc_fits (pos n) = by (nat_lt n 32768) refl
  where
    by : (b : Bool) → nat_lt n 32768 ≡ b → Holds short_range (if b then pos n else pos 0)
    by true e = let lt = ltb-true n 32768 e in record { above = omega (arith, ints); below = omega (arith, ints, lt) }
    by false e = record { above = omega (arith, ints); below = omega (arith, ints) }
inc_fits (negsuc n) = by (nat_lt n 32768) refl
  where
    by : (b : Bool) → nat_lt n 32768 ≡ b → Holds short_range (if b then negsuc n else pos 0)
    by true e = let lt = ltb-true n 32768 e in record { above = omega (arith, ints, lt); below = omega (arith, ints) }
    by false e = record { above = omega (arith, ints); below = omega (arith, ints) }

array_fits : (n : ℕ) → not (nat_le 4 n && nat_le n 11) ≡ false → is_one_of n (4 ∷ 5 ∷ 6 ∷ 7 ∷ 8 ∷ 9 ∷ 10 ∷ 11 ∷ [])
    ≡ true
array_fits n e = by (nat_le 4 n) (nat_le n 11) refl refl e
  where
    one : (a b c d f g h i : Bool) → (n == 4) ≡ a → (n == 5) ≡ b → (n == 6) ≡ c → (n == 7) ≡ d → (n == 8) ≡ f
        → (n == 9) ≡ g → (n == 10) ≡ h → (n == 11) ≡ i → 4 ≤ n → n ≤ 11 → (a || b || c || d || f || g || h || i
        || false) ≡ true
    one true b c d f g h i p q r s t u v x low high = refl
    one false true c d f g h i p q r s t u v x low high = refl
    one false false true d f g h i p q r s t u v x low high = refl
    one false false false true f g h i p q r s t u v x low high = refl
    one false false false false true g h i p q r s t u v x low high = refl
    one false false false false false true h i p q r s t u v x low high = refl
    one false false false false false false true i p q r s t u v x low high = refl
    one false false false false false false false true p q r s t u v x low high = refl
    one false false false false false false false false p q r s t u v x low high =
        absurd (omega (
          arith,
          low,
          high,
          eqb-false n 4 p,
          eqb-false n 5 q,
          eqb-false n 6 r,
          eqb-false n 7 s,
          eqb-false n 8 t,
          eqb-false n 9 u,
          eqb-false n 10 v,
          eqb-false n 11 x,
        ))

    regroup : (a b c d f g h i : Bool) → (a || b || c || d || f || g || h || i || false) ≡ true
        → (a || (b || (c || (d || (f || (g || (h || (i || false)))))))) ≡ true
    regroup true b c d f g h i e = refl
    regroup false true c d f g h i e = refl
    regroup false false true d f g h i e = refl
    regroup false false false true f g h i e = refl
    regroup false false false false true g h i e = refl
    regroup false false false false false true h i e = refl
    regroup false false false false false false true i e = refl
    regroup false false false false false false false true e = refl
    regroup false false false false false false false false e = absurd cc

    by : (x y : Bool) → nat_le 4 n ≡ x → nat_le n 11 ≡ y → not (x && y) ≡ false
        → is_one_of n (4 ∷ 5 ∷ 6 ∷ 7 ∷ 8 ∷ 9 ∷ 10 ∷ 11 ∷ []) ≡ true
    by true true p q e = regroup (n == 4) (n == 5) (n == 6) (n == 7) (n == 8) (n == 9) (n == 10) (n == 11)
        (one (n == 4) (n == 5) (n == 6) (n == 7) (n == 8) (n == 9) (n == 10) (n == 11) refl refl refl refl refl refl
        refl refl (leb-true 4 n p) (leb-true n 11 q))
    by true false p q e = absurd cc
    by false y p q e = absurd cc

table_fits : Fits 0xAA
unfolding row
table_fits pool at [] w b e = tt
table_fits pool at (a ∷ []) w b e = tt
table_fits pool at (a ∷ c ∷ []) w b e = tt
table_fits pool at (a ∷ c ∷ d ∷ zs) w b e = tt

lookup_fits : Fits 0xAB
unfolding row
lookup_fits pool at [] w b e = tt
lookup_fits pool at (a ∷ []) w b e = tt
lookup_fits pool at (a ∷ c ∷ zs) w b e = tt

-- sixteen opcodes from one on, the last first
fits_00 : AllBelow Fits 0x00 16
unfolding row
fits_00 = (
  λ pool at zs w b e. tt,
  (
    λ pool at zs w b e. tt,
    (
      λ pool at zs w b e. tt,
      (
        λ pool at zs w b e. tt,
        (
          λ pool at zs w b e. tt,
          (
            λ pool at zs w b e. tt,
            (
              λ pool at zs w b e. tt,
              (
                λ pool at zs w b e. record { above = omega (arith, ints); below = omega (arith, ints) },
                (
                  λ pool at zs w b e. record { above = omega (arith, ints); below = omega (arith, ints) },
                  (
                    λ pool at zs w b e. record { above = omega (arith, ints); below = omega (arith, ints) },
                    (
                      λ pool at zs w b e. record { above = omega (arith, ints); below = omega (arith, ints) },
                      (
                        λ pool at zs w b e. record { above = omega (arith, ints); below = omega (arith, ints) },
                        (
                          λ pool at zs w b e. record { above = omega (arith, ints); below = omega (arith, ints) },
                          (
                            λ pool at zs w b e. record { above = omega (arith, ints); below = omega (arith, ints) },
                            (
                              λ pool at zs w b e. tt,
                              (λ pool at zs w b e. tt, tt),
                            ),
                          ),
                        ),
                      ),
                    ),
                  ),
                ),
              ),
            ),
          ),
        ),
      ),
    ),
  ),
)

fits_10 : AllBelow Fits 0x10 16
unfolding row
fits_10 = (
  λ pool at zs w b e. tt,
  (
    λ pool at zs w b e. tt,
    (
      λ pool at zs w b e. tt,
      (
        λ pool at zs w b e. tt,
        (
          λ pool at zs w b e. tt,
          (
            λ pool at zs w b e. tt,
            (
              λ pool at zs w b e. tt,
              (
                λ pool at zs w b e. tt,
                (
                  λ pool at zs w b e. tt,
                  (
                    λ pool at zs w b e. tt,
                    (
                      λ pool at zs w b e. tt,
                      (
                        λ pool at zs w b e. tt,
                        (
                          λ pool at zs w b e. item_fits pool w (numbers.u16_of (numbers.first zs)),
                          (
                            λ pool at zs w b e. item_fits pool w (numbers.u16_of (numbers.first zs)),
                            (short_fits, (byte_fits, tt)),
                          ),
                        ),
                      ),
                    ),
                  ),
                ),
              ),
            ),
          ),
        ),
      ),
    ),
  ),
)

fits_20 : AllBelow Fits 0x20 16
unfolding row
fits_20 = (
  λ pool at zs w b e. tt,
  (
    λ pool at zs w b e. tt,
    (
      λ pool at zs w b e. tt,
      (
        λ pool at zs w b e. tt,
        (
          λ pool at zs w b e. tt,
          (
            λ pool at zs w b e. tt,
            (
              λ pool at zs w b e. tt,
              (
                λ pool at zs w b e. tt,
                (
                  λ pool at zs w b e. tt,
                  (
                    λ pool at zs w b e. tt,
                    (
                      λ pool at zs w b e. tt,
                      (
                        λ pool at zs w b e. tt,
                        (
                          λ pool at zs w b e. tt,
                          (
                            λ pool at zs w b e. tt,
                            (
                              λ pool at zs w b e. tt,
                              (
                                λ pool at zs w b e. tt,
                                tt,
                              ),
                            ),
                          ),
                        ),
                      ),
                    ),
                  ),
                ),
              ),
            ),
          ),
        ),
      ),
    ),
  ),
)

fits_30 : AllBelow Fits 0x30 16
unfolding row
fits_30 = (
  λ pool at zs w b e. tt,
  (
    λ pool at zs w b e. tt,
    (
      λ pool at zs w b e. tt,
      (
        λ pool at zs w b e. tt,
        (
          λ pool at zs w b e. tt,
          (
            λ pool at zs w b e. tt,
            (
              λ pool at zs w b e. tt,
              (
                λ pool at zs w b e. tt,
                (
                  λ pool at zs w b e. tt,
                  (
                    λ pool at zs w b e. tt,
                    (
                      λ pool at zs w b e. tt,
                      (
                        λ pool at zs w b e. tt,
                        (
                          λ pool at zs w b e. tt,
                          (
                            λ pool at zs w b e. tt,
                            (
                              λ pool at zs w b e. tt,
                              (
                                λ pool at zs w b e. tt,
                                tt,
                              ),
                            ),
                          ),
                        ),
                      ),
                    ),
                  ),
                ),
              ),
            ),
          ),
        ),
      ),
    ),
  ),
)

fits_40 : AllBelow Fits 0x40 16
unfolding row
fits_40 = (
  λ pool at zs w b e. tt,
  (
    λ pool at zs w b e. tt,
    (
      λ pool at zs w b e. tt,
      (
        λ pool at zs w b e. tt,
        (
          λ pool at zs w b e. tt,
          (
            λ pool at zs w b e. tt,
            (
              λ pool at zs w b e. tt,
              (
                λ pool at zs w b e. tt,
                (
                  λ pool at zs w b e. tt,
                  (
                    λ pool at zs w b e. tt,
                    (
                      λ pool at zs w b e. tt,
                      (
                        λ pool at zs w b e. tt,
                        (
                          λ pool at zs w b e. tt,
                          (
                            λ pool at zs w b e. tt,
                            (
                              λ pool at zs w b e. tt,
                              (
                                λ pool at zs w b e. tt,
                                tt,
                              ),
                            ),
                          ),
                        ),
                      ),
                    ),
                  ),
                ),
              ),
            ),
          ),
        ),
      ),
    ),
  ),
)

fits_50 : AllBelow Fits 0x50 16
unfolding row
fits_50 = (
  λ pool at zs w b e. tt,
  (
    λ pool at zs w b e. tt,
    (
      λ pool at zs w b e. tt,
      (
        λ pool at zs w b e. tt,
        (
          λ pool at zs w b e. tt,
          (
            λ pool at zs w b e. tt,
            (
              λ pool at zs w b e. tt,
              (
                λ pool at zs w b e. tt,
                (
                  λ pool at zs w b e. tt,
                  (
                    λ pool at zs w b e. tt,
                    (
                      λ pool at zs w b e. tt,
                      (
                        λ pool at zs w b e. tt,
                        (
                          λ pool at zs w b e. tt,
                          (
                            λ pool at zs w b e. tt,
                            (
                              λ pool at zs w b e. tt,
                              (
                                λ pool at zs w b e. tt,
                                tt,
                              ),
                            ),
                          ),
                        ),
                      ),
                    ),
                  ),
                ),
              ),
            ),
          ),
        ),
      ),
    ),
  ),
)

fits_60 : AllBelow Fits 0x60 16
unfolding row
fits_60 = (
  λ pool at zs w b e. tt,
  (
    λ pool at zs w b e. tt,
    (
      λ pool at zs w b e. tt,
      (
        λ pool at zs w b e. tt,
        (
          λ pool at zs w b e. tt,
          (
            λ pool at zs w b e. tt,
            (
              λ pool at zs w b e. tt,
              (
                λ pool at zs w b e. tt,
                (
                  λ pool at zs w b e. tt,
                  (
                    λ pool at zs w b e. tt,
                    (
                      λ pool at zs w b e. tt,
                      (
                        λ pool at zs w b e. tt,
                        (
                          λ pool at zs w b e. tt,
                          (
                            λ pool at zs w b e. tt,
                            (
                              λ pool at zs w b e. tt,
                              (
                                λ pool at zs w b e. tt,
                                tt,
                              ),
                            ),
                          ),
                        ),
                      ),
                    ),
                  ),
                ),
              ),
            ),
          ),
        ),
      ),
    ),
  ),
)

fits_70 : AllBelow Fits 0x70 16
unfolding row
fits_70 = (
  λ pool at zs w b e. tt,
  (
    λ pool at zs w b e. tt,
    (
      λ pool at zs w b e. tt,
      (
        λ pool at zs w b e. tt,
        (
          λ pool at zs w b e. tt,
          (
            λ pool at zs w b e. tt,
            (
              λ pool at zs w b e. tt,
              (
                λ pool at zs w b e. tt,
                (
                  λ pool at zs w b e. tt,
                  (
                    λ pool at zs w b e. tt,
                    (
                      λ pool at zs w b e. tt,
                      (
                        λ pool at zs w b e. tt,
                        (
                          λ pool at zs w b e. tt,
                          (
                            λ pool at zs w b e. tt,
                            (
                              λ pool at zs w b e. tt,
                              (
                                λ pool at zs w b e. tt,
                                tt,
                              ),
                            ),
                          ),
                        ),
                      ),
                    ),
                  ),
                ),
              ),
            ),
          ),
        ),
      ),
    ),
  ),
)

fits_80 : AllBelow Fits 0x80 16
unfolding row
fits_80 = (
  λ pool at zs w b e. tt,
  (
    λ pool at zs w b e. tt,
    (
      λ pool at zs w b e. tt,
      (
        λ pool at zs w b e. tt,
        (
          λ pool at zs w b e. tt,
          (
            λ pool at zs w b e. tt,
            (
              λ pool at zs w b e. tt,
              (
                λ pool at zs w b e. tt,
                (
                  λ pool at zs w b e. tt,
                  (
                    λ pool at zs w b e. tt,
                    (
                      λ pool at zs w b e. tt,
                      (
                        λ pool at zs w b e. inc_fits (numbers.second zs),
                        (
                          λ pool at zs w b e. tt,
                          (
                            λ pool at zs w b e. tt,
                            (λ pool at zs w b e. tt, (λ pool at zs w b e. tt, tt)),
                          ),
                        ),
                      ),
                    ),
                  ),
                ),
              ),
            ),
          ),
        ),
      ),
    ),
  ),
)

fits_90 : AllBelow Fits 0x90 16
unfolding row
fits_90 = (
  λ pool at zs w b e. tt,
  (
    λ pool at zs w b e. tt,
    (
      λ pool at zs w b e. tt,
      (
        λ pool at zs w b e. tt,
        (
          λ pool at zs w b e. tt,
          (
            λ pool at zs w b e. tt,
            (
              λ pool at zs w b e. tt,
              (
                λ pool at zs w b e. tt,
                (
                  λ pool at zs w b e. tt,
                  (
                    λ pool at zs w b e. tt,
                    (
                      λ pool at zs w b e. tt,
                      (
                        λ pool at zs w b e. tt,
                        (
                          λ pool at zs w b e. tt,
                          (
                            λ pool at zs w b e. tt,
                            (
                              λ pool at zs w b e. tt,
                              (
                                λ pool at zs w b e. tt,
                                tt,
                              ),
                            ),
                          ),
                        ),
                      ),
                    ),
                  ),
                ),
              ),
            ),
          ),
        ),
      ),
    ),
  ),
)

fits_A0 : AllBelow Fits 0xA0 16
unfolding row
fits_A0 = (
  λ pool at zs w b e. tt,
  (
    λ pool at zs w b e. tt,
    (
      λ pool at zs w b e. tt,
      (
        λ pool at zs w b e. tt,
        (
          lookup_fits,
          (
            table_fits,
            (
              λ pool at zs w b e. tt,
              (
                λ pool at zs w b e. tt,
                (
                  λ pool at zs w b e. tt,
                  (
                    λ pool at zs w b e. tt,
                    (
                      λ pool at zs w b e. tt,
                      (
                        λ pool at zs w b e. tt,
                        (
                          λ pool at zs w b e. tt,
                          (
                            λ pool at zs w b e. tt,
                            (λ pool at zs w b e. tt, (λ pool at zs w b e. tt, tt)),
                          ),
                        ),
                      ),
                    ),
                  ),
                ),
              ),
            ),
          ),
        ),
      ),
    ),
  ),
)

fits_B0 : AllBelow Fits 0xB0 16
unfolding row
fits_B0 = (
  λ pool at zs w b e. tt,
  (
    λ pool at zs w b e. tt,
    (
      λ pool at zs w b e. tt,
      (
        λ pool at zs w b e. array_fits (numbers.u8_of (numbers.first zs)) e,
        (
          λ pool at zs w b e. tt,
          (
            λ pool at zs w b e. tt,
            (
              λ pool at zs w b e. tt,
              (
                λ pool at zs w b e. tt,
                (
                  λ pool at zs w b e. tt,
                  (
                    λ pool at zs w b e. tt,
                    (
                      λ pool at zs w b e. tt,
                      (
                        λ pool at zs w b e. tt,
                        (
                          λ pool at zs w b e. tt,
                          (λ pool at zs w b e. tt, (λ pool at zs w b e. tt, (λ pool at zs w b e. tt, tt))),
                        ),
                      ),
                    ),
                  ),
                ),
              ),
            ),
          ),
        ),
      ),
    ),
  ),
)

fits_C0 : AllBelow Fits 0xC0 16
unfolding row
fits_C0 = (
  λ pool at zs w b e. tt,
  (
    λ pool at zs w b e. tt,
    (
      λ pool at zs w b e. tt,
      (
        λ pool at zs w b e. tt,
        (
          λ pool at zs w b e. tt,
          (
            λ pool at zs w b e. tt,
            (
              λ pool at zs w b e. tt,
              (
                λ pool at zs w b e. tt,
                (
                  λ pool at zs w b e. tt,
                  (
                    λ pool at zs w b e. tt,
                    (
                      λ pool at zs w b e. tt,
                      (
                        λ pool at zs w b e. tt,
                        (
                          λ pool at zs w b e. tt,
                          (
                            λ pool at zs w b e. tt,
                            (
                              λ pool at zs w b e. tt,
                              (
                                λ pool at zs w b e. tt,
                                tt,
                              ),
                            ),
                          ),
                        ),
                      ),
                    ),
                  ),
                ),
              ),
            ),
          ),
        ),
      ),
    ),
  ),
)

-- all of them
chunked : (m : ℕ) → m < 208 → Fits m
chunked m lt =
    join Fits 0xC0 m (λ l11. join Fits 0xB0 m (λ l10. join Fits 0xA0 m (λ l9. join Fits 0x90 m (λ l8. join Fits 0x80 m
    (λ l7. join Fits 0x70 m (λ l6. join Fits 0x60 m (λ l5. join Fits 0x50 m (λ l4. join Fits 0x40 m
    (λ l3. join Fits 0x30 m (λ l2. join Fits 0x20 m (λ l1. join Fits 0x10 m (λ l0. join Fits 0x00 m
    (λ l. absurd (omega (arith, l))) fits_00 l0) fits_10 l1) fits_20 l2) fits_30 l3) fits_40 l4) fits_50 l5) fits_60 l6)
    fits_70 l7) fits_80 l8) fits_90 l9) fits_A0 l10) fits_B0 l11) fits_C0 lt

pub number_fits : (m : ℕ) → Fits m
unfolding row
number_fits m = by (nat_lt m 208) refl
  where
    by : (b : Bool) → nat_lt m 208 ≡ b → Fits m
    by true e = chunked m (ltb-true m 208 e)
    by false e = λ pool at zs w b f. subst (λ r. NumbersFit (op_of pool at m r.1 zs))
        (sym (unknown_above ranges m (ltb-false m 208 e) ends_below)) tt
