-- Behind the prefix wide stand loads, stores and iinc alone.
use Rattle.std.proofs.Common.{◌≡◌, ◌≤◌, ◌<◌, ◌+◌, ◌-◌, ℕ, zero, suc, Bool, true, false, List, Some, refl, sym, subst}
use Rattle.std.proofs.Common.{arith, ℤ}
use Rattle.std.specs.Prelude.{◌==◌, nat_lt}
use Rattle.std.proofs.lemmas.Bool.{eqb-false, eqb-true, ltb-false, ltb-true}
use Rattle.cjc_classfile.specs.PoolItem.{PoolItem}
use Rattle.cjc_code.specs.Named.{op_of}
use Rattle.cjc_code.specs.Numbers as numbers
use Rattle.cjc_code.specs.Table.{ranges, row, wide}
use Rattle.cjc_code.specs.ReadLaws.Instructions.{NumbersFit}
use Rattle.cjc_code.proofs.ReadLaws.Numbers.{inc_fits}
use Rattle.cjc_code.proofs.ReadLaws.Opcodes.{ends_below, unknown_above}
use Rattle.cjc_code.proofs.ReadLaws.Chunks.{AllBelow, join}

abbrev Fits : ℕ → Type 0
Fits m = (os : _) → wide (row m) ≡ Some os → (pool : List PoolItem) (at : ℕ) (zs : List ℤ)
    → NumbersFit (op_of pool at m (row m).1 zs)

fits_00 : AllBelow Fits 0x00 16
unfolding row
fits_00 = (
  λ os e pool at zs. absurd cc,
  (
    λ os e pool at zs. absurd cc,
    (
      λ os e pool at zs. absurd cc,
      (
        λ os e pool at zs. absurd cc,
        (
          λ os e pool at zs. absurd cc,
          (
            λ os e pool at zs. absurd cc,
            (
              λ os e pool at zs. absurd cc,
              (
                λ os e pool at zs. absurd cc,
                (
                  λ os e pool at zs. absurd cc,
                  (
                    λ os e pool at zs. absurd cc,
                    (
                      λ os e pool at zs. absurd cc,
                      (
                        λ os e pool at zs. absurd cc,
                        (
                          λ os e pool at zs. absurd cc,
                          (
                            λ os e pool at zs. absurd cc,
                            (
                              λ os e pool at zs. absurd cc,
                              (λ os e pool at zs. absurd cc, tt),
                            ),
                          ),
                        ),
                      ),
                    ),
                  ),
                ),
              ),
            ),
          ),
        ),
      ),
    ),
  ),
)

fits_10 : AllBelow Fits 0x10 16
unfolding row
fits_10 = (
  λ os e pool at zs. absurd cc,
  (
    λ os e pool at zs. absurd cc,
    (
      λ os e pool at zs. absurd cc,
      (
        λ os e pool at zs. absurd cc,
        (
          λ os e pool at zs. absurd cc,
          (
            λ os e pool at zs. absurd cc,
            (
              λ os e pool at zs. tt,
              (
                λ os e pool at zs. tt,
                (
                  λ os e pool at zs. tt,
                  (
                    λ os e pool at zs. tt,
                    (
                      λ os e pool at zs. tt,
                      (
                        λ os e pool at zs. absurd cc,
                        (
                          λ os e pool at zs. absurd cc,
                          (
                            λ os e pool at zs. absurd cc,
                            (λ os e pool at zs. absurd cc, (λ os e pool at zs. absurd cc, tt)),
                          ),
                        ),
                      ),
                    ),
                  ),
                ),
              ),
            ),
          ),
        ),
      ),
    ),
  ),
)

fits_20 : AllBelow Fits 0x20 16
unfolding row
fits_20 = (
  λ os e pool at zs. absurd cc,
  (
    λ os e pool at zs. absurd cc,
    (
      λ os e pool at zs. absurd cc,
      (
        λ os e pool at zs. absurd cc,
        (
          λ os e pool at zs. absurd cc,
          (
            λ os e pool at zs. absurd cc,
            (
              λ os e pool at zs. absurd cc,
              (
                λ os e pool at zs. absurd cc,
                (
                  λ os e pool at zs. absurd cc,
                  (
                    λ os e pool at zs. absurd cc,
                    (
                      λ os e pool at zs. absurd cc,
                      (
                        λ os e pool at zs. absurd cc,
                        (
                          λ os e pool at zs. absurd cc,
                          (
                            λ os e pool at zs. absurd cc,
                            (
                              λ os e pool at zs. absurd cc,
                              (λ os e pool at zs. absurd cc, tt),
                            ),
                          ),
                        ),
                      ),
                    ),
                  ),
                ),
              ),
            ),
          ),
        ),
      ),
    ),
  ),
)

fits_30 : AllBelow Fits 0x30 16
unfolding row
fits_30 = (
  λ os e pool at zs. absurd cc,
  (
    λ os e pool at zs. absurd cc,
    (
      λ os e pool at zs. absurd cc,
      (
        λ os e pool at zs. absurd cc,
        (
          λ os e pool at zs. absurd cc,
          (
            λ os e pool at zs. tt,
            (
              λ os e pool at zs. tt,
              (
                λ os e pool at zs. tt,
                (
                  λ os e pool at zs. tt,
                  (
                    λ os e pool at zs. tt,
                    (
                      λ os e pool at zs. absurd cc,
                      (
                        λ os e pool at zs. absurd cc,
                        (
                          λ os e pool at zs. absurd cc,
                          (
                            λ os e pool at zs. absurd cc,
                            (λ os e pool at zs. absurd cc, (λ os e pool at zs. absurd cc, tt)),
                          ),
                        ),
                      ),
                    ),
                  ),
                ),
              ),
            ),
          ),
        ),
      ),
    ),
  ),
)

fits_40 : AllBelow Fits 0x40 16
unfolding row
fits_40 = (
  λ os e pool at zs. absurd cc,
  (
    λ os e pool at zs. absurd cc,
    (
      λ os e pool at zs. absurd cc,
      (
        λ os e pool at zs. absurd cc,
        (
          λ os e pool at zs. absurd cc,
          (
            λ os e pool at zs. absurd cc,
            (
              λ os e pool at zs. absurd cc,
              (
                λ os e pool at zs. absurd cc,
                (
                  λ os e pool at zs. absurd cc,
                  (
                    λ os e pool at zs. absurd cc,
                    (
                      λ os e pool at zs. absurd cc,
                      (
                        λ os e pool at zs. absurd cc,
                        (
                          λ os e pool at zs. absurd cc,
                          (
                            λ os e pool at zs. absurd cc,
                            (
                              λ os e pool at zs. absurd cc,
                              (λ os e pool at zs. absurd cc, tt),
                            ),
                          ),
                        ),
                      ),
                    ),
                  ),
                ),
              ),
            ),
          ),
        ),
      ),
    ),
  ),
)

fits_50 : AllBelow Fits 0x50 16
unfolding row
fits_50 = (
  λ os e pool at zs. absurd cc,
  (
    λ os e pool at zs. absurd cc,
    (
      λ os e pool at zs. absurd cc,
      (
        λ os e pool at zs. absurd cc,
        (
          λ os e pool at zs. absurd cc,
          (
            λ os e pool at zs. absurd cc,
            (
              λ os e pool at zs. absurd cc,
              (
                λ os e pool at zs. absurd cc,
                (
                  λ os e pool at zs. absurd cc,
                  (
                    λ os e pool at zs. absurd cc,
                    (
                      λ os e pool at zs. absurd cc,
                      (
                        λ os e pool at zs. absurd cc,
                        (
                          λ os e pool at zs. absurd cc,
                          (
                            λ os e pool at zs. absurd cc,
                            (
                              λ os e pool at zs. absurd cc,
                              (λ os e pool at zs. absurd cc, tt),
                            ),
                          ),
                        ),
                      ),
                    ),
                  ),
                ),
              ),
            ),
          ),
        ),
      ),
    ),
  ),
)

fits_60 : AllBelow Fits 0x60 16
unfolding row
fits_60 = (
  λ os e pool at zs. absurd cc,
  (
    λ os e pool at zs. absurd cc,
    (
      λ os e pool at zs. absurd cc,
      (
        λ os e pool at zs. absurd cc,
        (
          λ os e pool at zs. absurd cc,
          (
            λ os e pool at zs. absurd cc,
            (
              λ os e pool at zs. absurd cc,
              (
                λ os e pool at zs. absurd cc,
                (
                  λ os e pool at zs. absurd cc,
                  (
                    λ os e pool at zs. absurd cc,
                    (
                      λ os e pool at zs. absurd cc,
                      (
                        λ os e pool at zs. absurd cc,
                        (
                          λ os e pool at zs. absurd cc,
                          (
                            λ os e pool at zs. absurd cc,
                            (
                              λ os e pool at zs. absurd cc,
                              (λ os e pool at zs. absurd cc, tt),
                            ),
                          ),
                        ),
                      ),
                    ),
                  ),
                ),
              ),
            ),
          ),
        ),
      ),
    ),
  ),
)

fits_70 : AllBelow Fits 0x70 16
unfolding row
fits_70 = (
  λ os e pool at zs. absurd cc,
  (
    λ os e pool at zs. absurd cc,
    (
      λ os e pool at zs. absurd cc,
      (
        λ os e pool at zs. absurd cc,
        (
          λ os e pool at zs. absurd cc,
          (
            λ os e pool at zs. absurd cc,
            (
              λ os e pool at zs. absurd cc,
              (
                λ os e pool at zs. absurd cc,
                (
                  λ os e pool at zs. absurd cc,
                  (
                    λ os e pool at zs. absurd cc,
                    (
                      λ os e pool at zs. absurd cc,
                      (
                        λ os e pool at zs. absurd cc,
                        (
                          λ os e pool at zs. absurd cc,
                          (
                            λ os e pool at zs. absurd cc,
                            (
                              λ os e pool at zs. absurd cc,
                              (λ os e pool at zs. absurd cc, tt),
                            ),
                          ),
                        ),
                      ),
                    ),
                  ),
                ),
              ),
            ),
          ),
        ),
      ),
    ),
  ),
)

fits_80 : AllBelow Fits 0x80 16
unfolding row
fits_80 = (
  λ os e pool at zs. absurd cc,
  (
    λ os e pool at zs. absurd cc,
    (
      λ os e pool at zs. absurd cc,
      (
        λ os e pool at zs. absurd cc,
        (
          λ os e pool at zs. absurd cc,
          (
            λ os e pool at zs. absurd cc,
            (
              λ os e pool at zs. absurd cc,
              (
                λ os e pool at zs. absurd cc,
                (
                  λ os e pool at zs. absurd cc,
                  (
                    λ os e pool at zs. absurd cc,
                    (
                      λ os e pool at zs. absurd cc,
                      (
                        λ os e pool at zs. inc_fits (numbers.second zs),
                        (
                          λ os e pool at zs. absurd cc,
                          (
                            λ os e pool at zs. absurd cc,
                            (
                              λ os e pool at zs. absurd cc,
                              (λ os e pool at zs. absurd cc, tt),
                            ),
                          ),
                        ),
                      ),
                    ),
                  ),
                ),
              ),
            ),
          ),
        ),
      ),
    ),
  ),
)

fits_90 : AllBelow Fits 0x90 16
unfolding row
fits_90 = (
  λ os e pool at zs. absurd cc,
  (
    λ os e pool at zs. absurd cc,
    (
      λ os e pool at zs. absurd cc,
      (
        λ os e pool at zs. absurd cc,
        (
          λ os e pool at zs. absurd cc,
          (
            λ os e pool at zs. absurd cc,
            (
              λ os e pool at zs. absurd cc,
              (
                λ os e pool at zs. absurd cc,
                (
                  λ os e pool at zs. absurd cc,
                  (
                    λ os e pool at zs. absurd cc,
                    (
                      λ os e pool at zs. absurd cc,
                      (
                        λ os e pool at zs. absurd cc,
                        (
                          λ os e pool at zs. absurd cc,
                          (
                            λ os e pool at zs. absurd cc,
                            (
                              λ os e pool at zs. absurd cc,
                              (λ os e pool at zs. absurd cc, tt),
                            ),
                          ),
                        ),
                      ),
                    ),
                  ),
                ),
              ),
            ),
          ),
        ),
      ),
    ),
  ),
)

fits_A0 : AllBelow Fits 0xA0 16
unfolding row
fits_A0 = (
  λ os e pool at zs. absurd cc,
  (
    λ os e pool at zs. absurd cc,
    (
      λ os e pool at zs. absurd cc,
      (
        λ os e pool at zs. absurd cc,
        (
          λ os e pool at zs. absurd cc,
          (
            λ os e pool at zs. absurd cc,
            (
              λ os e pool at zs. tt,
              (
                λ os e pool at zs. absurd cc,
                (
                  λ os e pool at zs. absurd cc,
                  (
                    λ os e pool at zs. absurd cc,
                    (
                      λ os e pool at zs. absurd cc,
                      (
                        λ os e pool at zs. absurd cc,
                        (
                          λ os e pool at zs. absurd cc,
                          (
                            λ os e pool at zs. absurd cc,
                            (
                              λ os e pool at zs. absurd cc,
                              (
                                λ os e pool at zs. absurd cc,
                                tt,
                              ),
                            ),
                          ),
                        ),
                      ),
                    ),
                  ),
                ),
              ),
            ),
          ),
        ),
      ),
    ),
  ),
)

fits_B0 : AllBelow Fits 0xB0 16
unfolding row
fits_B0 = (
  λ os e pool at zs. absurd cc,
  (
    λ os e pool at zs. absurd cc,
    (
      λ os e pool at zs. absurd cc,
      (
        λ os e pool at zs. absurd cc,
        (
          λ os e pool at zs. absurd cc,
          (
            λ os e pool at zs. absurd cc,
            (
              λ os e pool at zs. absurd cc,
              (
                λ os e pool at zs. absurd cc,
                (
                  λ os e pool at zs. absurd cc,
                  (
                    λ os e pool at zs. absurd cc,
                    (
                      λ os e pool at zs. absurd cc,
                      (
                        λ os e pool at zs. absurd cc,
                        (
                          λ os e pool at zs. absurd cc,
                          (
                            λ os e pool at zs. absurd cc,
                            (
                              λ os e pool at zs. absurd cc,
                              (λ os e pool at zs. absurd cc, tt),
                            ),
                          ),
                        ),
                      ),
                    ),
                  ),
                ),
              ),
            ),
          ),
        ),
      ),
    ),
  ),
)

fits_C0 : AllBelow Fits 0xC0 16
unfolding row
fits_C0 = (
  λ os e pool at zs. absurd cc,
  (
    λ os e pool at zs. absurd cc,
    (
      λ os e pool at zs. absurd cc,
      (
        λ os e pool at zs. absurd cc,
        (
          λ os e pool at zs. absurd cc,
          (
            λ os e pool at zs. absurd cc,
            (
              λ os e pool at zs. absurd cc,
              (
                λ os e pool at zs. absurd cc,
                (
                  λ os e pool at zs. absurd cc,
                  (
                    λ os e pool at zs. absurd cc,
                    (
                      λ os e pool at zs. absurd cc,
                      (
                        λ os e pool at zs. absurd cc,
                        (
                          λ os e pool at zs. absurd cc,
                          (
                            λ os e pool at zs. absurd cc,
                            (
                              λ os e pool at zs. absurd cc,
                              (λ os e pool at zs. absurd cc, tt),
                            ),
                          ),
                        ),
                      ),
                    ),
                  ),
                ),
              ),
            ),
          ),
        ),
      ),
    ),
  ),
)

-- all of them
chunked : (m : ℕ) → m < 208 → Fits m
chunked m lt =
    join Fits 0xC0 m (λ l11. join Fits 0xB0 m (λ l10. join Fits 0xA0 m (λ l9. join Fits 0x90 m (λ l8. join Fits 0x80 m
    (λ l7. join Fits 0x70 m (λ l6. join Fits 0x60 m (λ l5. join Fits 0x50 m (λ l4. join Fits 0x40 m
    (λ l3. join Fits 0x30 m (λ l2. join Fits 0x20 m (λ l1. join Fits 0x10 m (λ l0. join Fits 0x00 m
    (λ l. absurd (omega (arith, l))) fits_00 l0) fits_10 l1) fits_20 l2) fits_30 l3) fits_40 l4) fits_50 l5) fits_60 l6)
    fits_70 l7) fits_80 l8) fits_90 l9) fits_A0 l10) fits_B0 l11) fits_C0 lt

pub wide_fits : (m : ℕ) → Fits m
unfolding row
wide_fits m = by (nat_lt m 208) refl
  where
    by : (b : Bool) → nat_lt m 208 ≡ b → Fits m
    by true e = chunked m (ltb-true m 208 e)
    by false e = λ os f pool at zs. subst (λ r. NumbersFit (op_of pool at m r.1 zs))
        (sym (unknown_above ranges m (ltb-false m 208 e) ends_below)) tt
