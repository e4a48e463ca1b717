-- The opcodes of decoded instructions are those of their kinds, opcode by opcode.
use Rattle.std.proofs.Common.{◌≡◌, ◌≤◌, ◌<◌, ◌+◌, ◌-◌, ℕ, zero, suc, Bool, true, false, List, [], ◌∷◌, refl, sym, ap}
use Rattle.std.proofs.Common.{subst, arith, ℤ}
use Rattle.std.specs.Prelude.{◌&&◌, ◌==◌, nat_le, nat_lt, cond}
use Rattle.std.proofs.lemmas.Bool.{eqb-false, eqb-true, leb-true, ltb-false, ltb-true}
use Rattle.cjc_classfile.specs.PoolItem.{PoolItem}
use Rattle.cjc_code.specs.Named.{op_of}
use Rattle.cjc_code.specs.Table.{Range, ranges, row, row_in}
use Rattle.cjc_code.specs.ReadLaws.Instructions.{has_opcode}
use Rattle.cjc_code.proofs.ReadLaws.Chunks.{AllBelow, join}
use Rattle.cjc_bytes.proofs.Bools.{both_front, both_back}

-- the instruction by this opcode has one of its kind
abbrev Fits : ℕ → Type 0
Fits m = (pool : List PoolItem) (at : ℕ) (zs : List ℤ) → has_opcode (op_of pool at m (row m).1 zs) ≡ true

table_fits : Fits 0xAA
unfolding row
table_fits pool at [] = refl
table_fits pool at (a ∷ []) = refl
table_fits pool at (a ∷ b ∷ []) = refl
table_fits pool at (a ∷ b ∷ c ∷ zs) = refl

lookup_fits : Fits 0xAB
unfolding row
lookup_fits pool at [] = refl
lookup_fits pool at (a ∷ []) = refl
lookup_fits pool at (a ∷ b ∷ zs) = refl

-- sixteen opcodes from one on, the last first
fits_00 : AllBelow Fits 0x00 16
unfolding row
fits_00 = (
  λ pool at zs. refl,
  (
    λ pool at zs. refl,
    (
      λ pool at zs. refl,
      (
        λ pool at zs. refl,
        (
          λ pool at zs. refl,
          (
            λ pool at zs. refl,
            (
              λ pool at zs. refl,
              (
                λ pool at zs. refl,
                (
                  λ pool at zs. refl,
                  (
                    λ pool at zs. refl,
                    (
                      λ pool at zs. refl,
                      (
                        λ pool at zs. refl,
                        (λ pool at zs. refl, (λ pool at zs. refl, (λ pool at zs. refl, (λ pool at zs. refl, tt)))),
                      ),
                    ),
                  ),
                ),
              ),
            ),
          ),
        ),
      ),
    ),
  ),
)

fits_10 : AllBelow Fits 0x10 16
unfolding row
fits_10 = (
  λ pool at zs. refl,
  (
    λ pool at zs. refl,
    (
      λ pool at zs. refl,
      (
        λ pool at zs. refl,
        (
          λ pool at zs. refl,
          (
            λ pool at zs. refl,
            (
              λ pool at zs. refl,
              (
                λ pool at zs. refl,
                (
                  λ pool at zs. refl,
                  (
                    λ pool at zs. refl,
                    (
                      λ pool at zs. refl,
                      (
                        λ pool at zs. refl,
                        (λ pool at zs. refl, (λ pool at zs. refl, (λ pool at zs. refl, (λ pool at zs. refl, tt)))),
                      ),
                    ),
                  ),
                ),
              ),
            ),
          ),
        ),
      ),
    ),
  ),
)

fits_20 : AllBelow Fits 0x20 16
unfolding row
fits_20 = (
  λ pool at zs. refl,
  (
    λ pool at zs. refl,
    (
      λ pool at zs. refl,
      (
        λ pool at zs. refl,
        (
          λ pool at zs. refl,
          (
            λ pool at zs. refl,
            (
              λ pool at zs. refl,
              (
                λ pool at zs. refl,
                (
                  λ pool at zs. refl,
                  (
                    λ pool at zs. refl,
                    (
                      λ pool at zs. refl,
                      (
                        λ pool at zs. refl,
                        (λ pool at zs. refl, (λ pool at zs. refl, (λ pool at zs. refl, (λ pool at zs. refl, tt)))),
                      ),
                    ),
                  ),
                ),
              ),
            ),
          ),
        ),
      ),
    ),
  ),
)

fits_30 : AllBelow Fits 0x30 16
unfolding row
fits_30 = (
  λ pool at zs. refl,
  (
    λ pool at zs. refl,
    (
      λ pool at zs. refl,
      (
        λ pool at zs. refl,
        (
          λ pool at zs. refl,
          (
            λ pool at zs. refl,
            (
              λ pool at zs. refl,
              (
                λ pool at zs. refl,
                (
                  λ pool at zs. refl,
                  (
                    λ pool at zs. refl,
                    (
                      λ pool at zs. refl,
                      (
                        λ pool at zs. refl,
                        (λ pool at zs. refl, (λ pool at zs. refl, (λ pool at zs. refl, (λ pool at zs. refl, tt)))),
                      ),
                    ),
                  ),
                ),
              ),
            ),
          ),
        ),
      ),
    ),
  ),
)

fits_40 : AllBelow Fits 0x40 16
unfolding row
fits_40 = (
  λ pool at zs. refl,
  (
    λ pool at zs. refl,
    (
      λ pool at zs. refl,
      (
        λ pool at zs. refl,
        (
          λ pool at zs. refl,
          (
            λ pool at zs. refl,
            (
              λ pool at zs. refl,
              (
                λ pool at zs. refl,
                (
                  λ pool at zs. refl,
                  (
                    λ pool at zs. refl,
                    (
                      λ pool at zs. refl,
                      (
                        λ pool at zs. refl,
                        (λ pool at zs. refl, (λ pool at zs. refl, (λ pool at zs. refl, (λ pool at zs. refl, tt)))),
                      ),
                    ),
                  ),
                ),
              ),
            ),
          ),
        ),
      ),
    ),
  ),
)

fits_50 : AllBelow Fits 0x50 16
unfolding row
fits_50 = (
  λ pool at zs. refl,
  (
    λ pool at zs. refl,
    (
      λ pool at zs. refl,
      (
        λ pool at zs. refl,
        (
          λ pool at zs. refl,
          (
            λ pool at zs. refl,
            (
              λ pool at zs. refl,
              (
                λ pool at zs. refl,
                (
                  λ pool at zs. refl,
                  (
                    λ pool at zs. refl,
                    (
                      λ pool at zs. refl,
                      (
                        λ pool at zs. refl,
                        (λ pool at zs. refl, (λ pool at zs. refl, (λ pool at zs. refl, (λ pool at zs. refl, tt)))),
                      ),
                    ),
                  ),
                ),
              ),
            ),
          ),
        ),
      ),
    ),
  ),
)

fits_60 : AllBelow Fits 0x60 16
unfolding row
fits_60 = (
  λ pool at zs. refl,
  (
    λ pool at zs. refl,
    (
      λ pool at zs. refl,
      (
        λ pool at zs. refl,
        (
          λ pool at zs. refl,
          (
            λ pool at zs. refl,
            (
              λ pool at zs. refl,
              (
                λ pool at zs. refl,
                (
                  λ pool at zs. refl,
                  (
                    λ pool at zs. refl,
                    (
                      λ pool at zs. refl,
                      (
                        λ pool at zs. refl,
                        (λ pool at zs. refl, (λ pool at zs. refl, (λ pool at zs. refl, (λ pool at zs. refl, tt)))),
                      ),
                    ),
                  ),
                ),
              ),
            ),
          ),
        ),
      ),
    ),
  ),
)

fits_70 : AllBelow Fits 0x70 16
unfolding row
fits_70 = (
  λ pool at zs. refl,
  (
    λ pool at zs. refl,
    (
      λ pool at zs. refl,
      (
        λ pool at zs. refl,
        (
          λ pool at zs. refl,
          (
            λ pool at zs. refl,
            (
              λ pool at zs. refl,
              (
                λ pool at zs. refl,
                (
                  λ pool at zs. refl,
                  (
                    λ pool at zs. refl,
                    (
                      λ pool at zs. refl,
                      (
                        λ pool at zs. refl,
                        (λ pool at zs. refl, (λ pool at zs. refl, (λ pool at zs. refl, (λ pool at zs. refl, tt)))),
                      ),
                    ),
                  ),
                ),
              ),
            ),
          ),
        ),
      ),
    ),
  ),
)

fits_80 : AllBelow Fits 0x80 16
unfolding row
fits_80 = (
  λ pool at zs. refl,
  (
    λ pool at zs. refl,
    (
      λ pool at zs. refl,
      (
        λ pool at zs. refl,
        (
          λ pool at zs. refl,
          (
            λ pool at zs. refl,
            (
              λ pool at zs. refl,
              (
                λ pool at zs. refl,
                (
                  λ pool at zs. refl,
                  (
                    λ pool at zs. refl,
                    (
                      λ pool at zs. refl,
                      (
                        λ pool at zs. refl,
                        (λ pool at zs. refl, (λ pool at zs. refl, (λ pool at zs. refl, (λ pool at zs. refl, tt)))),
                      ),
                    ),
                  ),
                ),
              ),
            ),
          ),
        ),
      ),
    ),
  ),
)

fits_90 : AllBelow Fits 0x90 16
unfolding row
fits_90 = (
  λ pool at zs. refl,
  (
    λ pool at zs. refl,
    (
      λ pool at zs. refl,
      (
        λ pool at zs. refl,
        (
          λ pool at zs. refl,
          (
            λ pool at zs. refl,
            (
              λ pool at zs. refl,
              (
                λ pool at zs. refl,
                (
                  λ pool at zs. refl,
                  (
                    λ pool at zs. refl,
                    (
                      λ pool at zs. refl,
                      (
                        λ pool at zs. refl,
                        (λ pool at zs. refl, (λ pool at zs. refl, (λ pool at zs. refl, (λ pool at zs. refl, tt)))),
                      ),
                    ),
                  ),
                ),
              ),
            ),
          ),
        ),
      ),
    ),
  ),
)

fits_A0 : AllBelow Fits 0xA0 16
unfolding row
fits_A0 = (
  λ pool at zs. refl,
  (
    λ pool at zs. refl,
    (
      λ pool at zs. refl,
      (
        λ pool at zs. refl,
        (
          lookup_fits,
          (
            table_fits,
            (
              λ pool at zs. refl,
              (
                λ pool at zs. refl,
                (
                  λ pool at zs. refl,
                  (
                    λ pool at zs. refl,
                    (
                      λ pool at zs. refl,
                      (
                        λ pool at zs. refl,
                        (λ pool at zs. refl, (λ pool at zs. refl, (λ pool at zs. refl, (λ pool at zs. refl, tt)))),
                      ),
                    ),
                  ),
                ),
              ),
            ),
          ),
        ),
      ),
    ),
  ),
)

fits_B0 : AllBelow Fits 0xB0 16
unfolding row
fits_B0 = (
  λ pool at zs. refl,
  (
    λ pool at zs. refl,
    (
      λ pool at zs. refl,
      (
        λ pool at zs. refl,
        (
          λ pool at zs. refl,
          (
            λ pool at zs. refl,
            (
              λ pool at zs. refl,
              (
                λ pool at zs. refl,
                (
                  λ pool at zs. refl,
                  (
                    λ pool at zs. refl,
                    (
                      λ pool at zs. refl,
                      (
                        λ pool at zs. refl,
                        (λ pool at zs. refl, (λ pool at zs. refl, (λ pool at zs. refl, (λ pool at zs. refl, tt)))),
                      ),
                    ),
                  ),
                ),
              ),
            ),
          ),
        ),
      ),
    ),
  ),
)

fits_C0 : AllBelow Fits 0xC0 16
unfolding row
fits_C0 = (
  λ pool at zs. refl,
  (
    λ pool at zs. refl,
    (
      λ pool at zs. refl,
      (
        λ pool at zs. refl,
        (
          λ pool at zs. refl,
          (
            λ pool at zs. refl,
            (
              λ pool at zs. refl,
              (
                λ pool at zs. refl,
                (
                  λ pool at zs. refl,
                  (
                    λ pool at zs. refl,
                    (
                      λ pool at zs. refl,
                      (
                        λ pool at zs. refl,
                        (λ pool at zs. refl, (λ pool at zs. refl, (λ pool at zs. refl, (λ pool at zs. refl, tt)))),
                      ),
                    ),
                  ),
                ),
              ),
            ),
          ),
        ),
      ),
    ),
  ),
)

-- all of them
chunked : (m : ℕ) → m < 208 → Fits m
chunked m lt =
    join Fits 0xC0 m (λ l11. join Fits 0xB0 m (λ l10. join Fits 0xA0 m (λ l9. join Fits 0x90 m (λ l8. join Fits 0x80 m
    (λ l7. join Fits 0x70 m (λ l6. join Fits 0x60 m (λ l5. join Fits 0x50 m (λ l4. join Fits 0x40 m
    (λ l3. join Fits 0x30 m (λ l2. join Fits 0x20 m (λ l1. join Fits 0x10 m (λ l0. join Fits 0x00 m
    (λ l. absurd (omega (arith, l))) fits_00 l0) fits_10 l1) fits_20 l2) fits_30 l3) fits_40 l4) fits_50 l5) fits_60 l6)
    fits_70 l7) fits_80 l8) fits_90 l9) fits_A0 l10) fits_B0 l11) fits_C0 lt

-- ---- above the table no opcode is

pub end_below : List Range → Bool
end_below [] = true
end_below (r ∷ rs) = nat_lt r.last 208 && end_below rs

pub ends_below : end_below ranges ≡ true
unfolding end_below
ends_below = refl

pub unknown_above : (rs : List Range) (m : ℕ) → 208 ≤ m → end_below rs ≡ true → row_in rs m ≡ row_in [] m
unfolding end_below
unknown_above [] m le e = refl
unknown_above (r ∷ rs) m le e = by (nat_le r.first m) (nat_le m r.last) refl (unknown_above rs m le
    (both_back (nat_lt r.last 208) (end_below rs) e))
  where
    by : (a b : Bool) → nat_le m r.last ≡ b → row_in rs m ≡ row_in [] m
        → cond (a && b) (r.row (m - r.first)) (row_in rs m) ≡ row_in [] m
    by true true f rest = let high = leb-true m r.last f in let low =
        ltb-true r.last 208 (both_front (nat_lt r.last 208) (end_below rs) e) in absurd (omega (arith, high, low, le))
    by true false f rest = rest
    by false b f rest = rest

pub opcode_fits : (m : ℕ) → Fits m
unfolding row
opcode_fits m = by (nat_lt m 208) refl
  where
    by : (b : Bool) → nat_lt m 208 ≡ b → Fits m
    by true e = chunked m (ltb-true m 208 e)
    by false e = λ pool at zs. ap (λ r. has_opcode (op_of pool at m r.1 zs)) (unknown_above ranges m (ltb-false m 208 e)
        ends_below)
