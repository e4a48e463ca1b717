-- The opcodes of decoded instructions are those of their kinds, opcode by opcode.
use Rattle.std.proofs.Common.{◌≡◌, ◌≤◌, ◌<◌, ◌+◌, ◌-◌, ℕ, zero, suc, Bool, true, false, List, [], ◌∷◌, refl, sym, ap, subst, arith, ℤ}
use Rattle.std.specs.Prelude.{◌&&◌, ◌==◌, nat_le, nat_lt, cond}
use Rattle.std.proofs.lemmas.Bool.{eqb-false, eqb-true, leb-true, ltb-false, ltb-true}
use Rattle.cjc_classfile.specs.declared.tree.PoolItem.{PoolItem}
use Rattle.cjc_code.specs.Named.{op_of}
use Rattle.cjc_code.specs.Table.{Range, ranges, row, row_in}
use Rattle.cjc_read_laws.specs.Instructions.{has_opcode}

-- the instruction by this opcode has one of its kind
abbrev Fits : ℕ → Type 0
Fits m = (pool : List PoolItem) (at : ℕ) (zs : List ℤ) → has_opcode (op_of pool at m (row m).1 zs) ≡ true

-- sixteen opcodes from one on, the last first
abbrev AllBelow : (base n : ℕ) → Type 0
AllBelow base zero = Unit {0}
AllBelow base (suc n) = Fits (base + n) × AllBelow base n

one_below : (base n k : ℕ) → AllBelow base n → k < n → Fits (base + k)
one_below base zero k h lt = absurd (omega (arith, lt))
one_below base (suc n) k h lt = by (k == n) refl (one_below base n k h.1)
  where
    by : (b : Bool) → (k == n) ≡ b → (k < n → Fits (base + k)) → Fits (base + k)
    by true e rest = let same = eqb-true k n e in subst (λ j. Fits (base + j)) (sym same) h.0
    by false e rest = let off = eqb-false k n e in rest (omega (arith, lt, off))

table_fits : Fits 0xAA
unfolding row
table_fits pool at [] = refl
table_fits pool at (a ∷ []) = refl
table_fits pool at (a ∷ b ∷ []) = refl
table_fits pool at (a ∷ b ∷ c ∷ zs) = refl

lookup_fits : Fits 0xAB
unfolding row
lookup_fits pool at [] = refl
lookup_fits pool at (a ∷ []) = refl
lookup_fits pool at (a ∷ b ∷ zs) = refl

fits_00 : AllBelow 0x00 16
unfolding row
fits_00 = (λ pool at zs. refl, (λ pool at zs. refl, (λ pool at zs. refl, (λ pool at zs. refl, (λ pool at zs. refl, (λ pool at zs. refl, (λ pool at zs. refl, (λ pool at zs. refl, (λ pool at zs. refl, (λ pool at zs. refl, (λ pool at zs. refl, (λ pool at zs. refl, (λ pool at zs. refl, (λ pool at zs. refl, (λ pool at zs. refl, (λ pool at zs. refl, tt))))))))))))))))

fits_10 : AllBelow 0x10 16
unfolding row
fits_10 = (λ pool at zs. refl, (λ pool at zs. refl, (λ pool at zs. refl, (λ pool at zs. refl, (λ pool at zs. refl, (λ pool at zs. refl, (λ pool at zs. refl, (λ pool at zs. refl, (λ pool at zs. refl, (λ pool at zs. refl, (λ pool at zs. refl, (λ pool at zs. refl, (λ pool at zs. refl, (λ pool at zs. refl, (λ pool at zs. refl, (λ pool at zs. refl, tt))))))))))))))))

fits_20 : AllBelow 0x20 16
unfolding row
fits_20 = (λ pool at zs. refl, (λ pool at zs. refl, (λ pool at zs. refl, (λ pool at zs. refl, (λ pool at zs. refl, (λ pool at zs. refl, (λ pool at zs. refl, (λ pool at zs. refl, (λ pool at zs. refl, (λ pool at zs. refl, (λ pool at zs. refl, (λ pool at zs. refl, (λ pool at zs. refl, (λ pool at zs. refl, (λ pool at zs. refl, (λ pool at zs. refl, tt))))))))))))))))

fits_30 : AllBelow 0x30 16
unfolding row
fits_30 = (λ pool at zs. refl, (λ pool at zs. refl, (λ pool at zs. refl, (λ pool at zs. refl, (λ pool at zs. refl, (λ pool at zs. refl, (λ pool at zs. refl, (λ pool at zs. refl, (λ pool at zs. refl, (λ pool at zs. refl, (λ pool at zs. refl, (λ pool at zs. refl, (λ pool at zs. refl, (λ pool at zs. refl, (λ pool at zs. refl, (λ pool at zs. refl, tt))))))))))))))))

fits_40 : AllBelow 0x40 16
unfolding row
fits_40 = (λ pool at zs. refl, (λ pool at zs. refl, (λ pool at zs. refl, (λ pool at zs. refl, (λ pool at zs. refl, (λ pool at zs. refl, (λ pool at zs. refl, (λ pool at zs. refl, (λ pool at zs. refl, (λ pool at zs. refl, (λ pool at zs. refl, (λ pool at zs. refl, (λ pool at zs. refl, (λ pool at zs. refl, (λ pool at zs. refl, (λ pool at zs. refl, tt))))))))))))))))

fits_50 : AllBelow 0x50 16
unfolding row
fits_50 = (λ pool at zs. refl, (λ pool at zs. refl, (λ pool at zs. refl, (λ pool at zs. refl, (λ pool at zs. refl, (λ pool at zs. refl, (λ pool at zs. refl, (λ pool at zs. refl, (λ pool at zs. refl, (λ pool at zs. refl, (λ pool at zs. refl, (λ pool at zs. refl, (λ pool at zs. refl, (λ pool at zs. refl, (λ pool at zs. refl, (λ pool at zs. refl, tt))))))))))))))))

fits_60 : AllBelow 0x60 16
unfolding row
fits_60 = (λ pool at zs. refl, (λ pool at zs. refl, (λ pool at zs. refl, (λ pool at zs. refl, (λ pool at zs. refl, (λ pool at zs. refl, (λ pool at zs. refl, (λ pool at zs. refl, (λ pool at zs. refl, (λ pool at zs. refl, (λ pool at zs. refl, (λ pool at zs. refl, (λ pool at zs. refl, (λ pool at zs. refl, (λ pool at zs. refl, (λ pool at zs. refl, tt))))))))))))))))

fits_70 : AllBelow 0x70 16
unfolding row
fits_70 = (λ pool at zs. refl, (λ pool at zs. refl, (λ pool at zs. refl, (λ pool at zs. refl, (λ pool at zs. refl, (λ pool at zs. refl, (λ pool at zs. refl, (λ pool at zs. refl, (λ pool at zs. refl, (λ pool at zs. refl, (λ pool at zs. refl, (λ pool at zs. refl, (λ pool at zs. refl, (λ pool at zs. refl, (λ pool at zs. refl, (λ pool at zs. refl, tt))))))))))))))))

fits_80 : AllBelow 0x80 16
unfolding row
fits_80 = (λ pool at zs. refl, (λ pool at zs. refl, (λ pool at zs. refl, (λ pool at zs. refl, (λ pool at zs. refl, (λ pool at zs. refl, (λ pool at zs. refl, (λ pool at zs. refl, (λ pool at zs. refl, (λ pool at zs. refl, (λ pool at zs. refl, (λ pool at zs. refl, (λ pool at zs. refl, (λ pool at zs. refl, (λ pool at zs. refl, (λ pool at zs. refl, tt))))))))))))))))

fits_90 : AllBelow 0x90 16
unfolding row
fits_90 = (λ pool at zs. refl, (λ pool at zs. refl, (λ pool at zs. refl, (λ pool at zs. refl, (λ pool at zs. refl, (λ pool at zs. refl, (λ pool at zs. refl, (λ pool at zs. refl, (λ pool at zs. refl, (λ pool at zs. refl, (λ pool at zs. refl, (λ pool at zs. refl, (λ pool at zs. refl, (λ pool at zs. refl, (λ pool at zs. refl, (λ pool at zs. refl, tt))))))))))))))))

fits_A0 : AllBelow 0xA0 16
unfolding row
fits_A0 = (λ pool at zs. refl, (λ pool at zs. refl, (λ pool at zs. refl, (λ pool at zs. refl, (lookup_fits, (table_fits, (λ pool at zs. refl, (λ pool at zs. refl, (λ pool at zs. refl, (λ pool at zs. refl, (λ pool at zs. refl, (λ pool at zs. refl, (λ pool at zs. refl, (λ pool at zs. refl, (λ pool at zs. refl, (λ pool at zs. refl, tt))))))))))))))))

fits_B0 : AllBelow 0xB0 16
unfolding row
fits_B0 = (λ pool at zs. refl, (λ pool at zs. refl, (λ pool at zs. refl, (λ pool at zs. refl, (λ pool at zs. refl, (λ pool at zs. refl, (λ pool at zs. refl, (λ pool at zs. refl, (λ pool at zs. refl, (λ pool at zs. refl, (λ pool at zs. refl, (λ pool at zs. refl, (λ pool at zs. refl, (λ pool at zs. refl, (λ pool at zs. refl, (λ pool at zs. refl, tt))))))))))))))))

fits_C0 : AllBelow 0xC0 16
unfolding row
fits_C0 = (λ pool at zs. refl, (λ pool at zs. refl, (λ pool at zs. refl, (λ pool at zs. refl, (λ pool at zs. refl, (λ pool at zs. refl, (λ pool at zs. refl, (λ pool at zs. refl, (λ pool at zs. refl, (λ pool at zs. refl, (λ pool at zs. refl, (λ pool at zs. refl, (λ pool at zs. refl, (λ pool at zs. refl, (λ pool at zs. refl, (λ pool at zs. refl, tt))))))))))))))))

-- one of sixteen
in_chunk : (base m : ℕ) → AllBelow base 16 → base ≤ m → m < base + 16 → Fits m
in_chunk base m h le lt = let same : base + (m - base) ≡ m = omega (arith, le) in subst Fits same (one_below base 16 (m - base) h (omega (arith, le, lt)))

chunked : (m : ℕ) → m < 208 → Fits m
chunked m lt = from0
  where
    from12 : 0xC0 ≤ m → Fits m
    from12 le = by (nat_lt m 0xD0) refl
      where
        by : (b : Bool) → nat_lt m 0xD0 ≡ b → Fits m
        by true e = in_chunk 0xC0 m fits_C0 (le) (ltb-true m 0xD0 e)
        by false e = absurd (omega (arith, lt, ltb-false m 0xD0 e))

    from11 : 0xB0 ≤ m → Fits m
    from11 le = by (nat_lt m 0xC0) refl
      where
        by : (b : Bool) → nat_lt m 0xC0 ≡ b → Fits m
        by true e = in_chunk 0xB0 m fits_B0 (le) (ltb-true m 0xC0 e)
        by false e = from12 (ltb-false m 0xC0 e)

    from10 : 0xA0 ≤ m → Fits m
    from10 le = by (nat_lt m 0xB0) refl
      where
        by : (b : Bool) → nat_lt m 0xB0 ≡ b → Fits m
        by true e = in_chunk 0xA0 m fits_A0 (le) (ltb-true m 0xB0 e)
        by false e = from11 (ltb-false m 0xB0 e)

    from9 : 0x90 ≤ m → Fits m
    from9 le = by (nat_lt m 0xA0) refl
      where
        by : (b : Bool) → nat_lt m 0xA0 ≡ b → Fits m
        by true e = in_chunk 0x90 m fits_90 (le) (ltb-true m 0xA0 e)
        by false e = from10 (ltb-false m 0xA0 e)

    from8 : 0x80 ≤ m → Fits m
    from8 le = by (nat_lt m 0x90) refl
      where
        by : (b : Bool) → nat_lt m 0x90 ≡ b → Fits m
        by true e = in_chunk 0x80 m fits_80 (le) (ltb-true m 0x90 e)
        by false e = from9 (ltb-false m 0x90 e)

    from7 : 0x70 ≤ m → Fits m
    from7 le = by (nat_lt m 0x80) refl
      where
        by : (b : Bool) → nat_lt m 0x80 ≡ b → Fits m
        by true e = in_chunk 0x70 m fits_70 (le) (ltb-true m 0x80 e)
        by false e = from8 (ltb-false m 0x80 e)

    from6 : 0x60 ≤ m → Fits m
    from6 le = by (nat_lt m 0x70) refl
      where
        by : (b : Bool) → nat_lt m 0x70 ≡ b → Fits m
        by true e = in_chunk 0x60 m fits_60 (le) (ltb-true m 0x70 e)
        by false e = from7 (ltb-false m 0x70 e)

    from5 : 0x50 ≤ m → Fits m
    from5 le = by (nat_lt m 0x60) refl
      where
        by : (b : Bool) → nat_lt m 0x60 ≡ b → Fits m
        by true e = in_chunk 0x50 m fits_50 (le) (ltb-true m 0x60 e)
        by false e = from6 (ltb-false m 0x60 e)

    from4 : 0x40 ≤ m → Fits m
    from4 le = by (nat_lt m 0x50) refl
      where
        by : (b : Bool) → nat_lt m 0x50 ≡ b → Fits m
        by true e = in_chunk 0x40 m fits_40 (le) (ltb-true m 0x50 e)
        by false e = from5 (ltb-false m 0x50 e)

    from3 : 0x30 ≤ m → Fits m
    from3 le = by (nat_lt m 0x40) refl
      where
        by : (b : Bool) → nat_lt m 0x40 ≡ b → Fits m
        by true e = in_chunk 0x30 m fits_30 (le) (ltb-true m 0x40 e)
        by false e = from4 (ltb-false m 0x40 e)

    from2 : 0x20 ≤ m → Fits m
    from2 le = by (nat_lt m 0x30) refl
      where
        by : (b : Bool) → nat_lt m 0x30 ≡ b → Fits m
        by true e = in_chunk 0x20 m fits_20 (le) (ltb-true m 0x30 e)
        by false e = from3 (ltb-false m 0x30 e)

    from1 : 0x10 ≤ m → Fits m
    from1 le = by (nat_lt m 0x20) refl
      where
        by : (b : Bool) → nat_lt m 0x20 ≡ b → Fits m
        by true e = in_chunk 0x10 m fits_10 (le) (ltb-true m 0x20 e)
        by false e = from2 (ltb-false m 0x20 e)

    from0 : Fits m
    from0 = by (nat_lt m 0x10) refl
      where
        by : (b : Bool) → nat_lt m 0x10 ≡ b → Fits m
        by true e = in_chunk 0x00 m fits_00 (omega arith) (ltb-true m 0x10 e)
        by false e = from1 (ltb-false m 0x10 e)

-- ---- above the table no opcode is

pub end_below : List Range → Bool
end_below [] = true
end_below (r ∷ rs) = nat_lt r.last 208 && end_below rs

pub ends_below : end_below ranges ≡ true
unfolding end_below
ends_below = refl

both_front : (a b : Bool) → (a && b) ≡ true → a ≡ true
both_front true b e = refl
both_front false b e = absurd cc

both_back : (a b : Bool) → (a && b) ≡ true → b ≡ true
both_back true b e = e
both_back false b e = absurd cc

pub unknown_above : (rs : List Range) (m : ℕ) → 208 ≤ m → end_below rs ≡ true → row_in rs m ≡ row_in [] m
unfolding end_below
unknown_above [] m le e = refl
unknown_above (r ∷ rs) m le e = by (nat_le r.first m) (nat_le m r.last) refl (unknown_above rs m le (both_back (nat_lt r.last 208) (end_below rs) e))
  where
    by : (a b : Bool) → nat_le m r.last ≡ b → row_in rs m ≡ row_in [] m → cond (a && b) (r.row (m - r.first)) (row_in rs m) ≡ row_in [] m
    by true true f rest = let high = leb-true m r.last f in let low = ltb-true r.last 208 (both_front (nat_lt r.last 208) (end_below rs) e) in absurd (omega (arith, high, low, le))
    by true false f rest = rest
    by false b f rest = rest

pub opcode_fits : (m : ℕ) → Fits m
unfolding row
opcode_fits m = by (nat_lt m 208) refl
  where
    by : (b : Bool) → nat_lt m 208 ≡ b → Fits m
    by true e = chunked m (ltb-true m 208 e)
    by false e = λ pool at zs. ap (λ r. has_opcode (op_of pool at m r.1 zs)) (unknown_above ranges m (ltb-false m 208 e) ends_below)
