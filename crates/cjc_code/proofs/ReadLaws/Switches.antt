-- The matches of decoded switches: they have 32 bits, they ascend, and a tableswitch has one at least.
use Rattle.std.proofs.Common.{◌≡◌, ◌≤◌, ◌<◌, ◌+◌, ◌*◌, ℕ, zero, suc, Bool, true, false, List, [], ◌∷◌, ◌++◌, Option}
use Rattle.std.proofs.Common.{Some, None, length, map, slice_get, refl, sym, ap, subst, ◌∙◌, arith, ⊎_elim, ℤ, pos}
use Rattle.std.proofs.Common.{negsuc}
use Rattle.std.specs.Prelude.{◌⊎◌, ◌&&◌, ◌||◌, not, nat_lt, int_lt, ◌+ℤ◌, ◌-ℤ◌}
use Rattle.std.specs.Int.{w32, cast_signed}
use Rattle.std.specs.List.{AllByRecursion, list_all}
use Rattle.std.proofs.Math.Facts.{Fits-bits, sfits_to_z}
use Rattle.std.proofs.lemmas.Bool.{ltb-false, ltb-true}
use Rattle.std.proofs.lemmas.Int.{ints}
use Rattle.std.proofs.lemmas.Option.{same_Some}
use Rattle.cjc_bytes.specs.Format.{Spells}
use Rattle.cjc_bytes.proofs.Bools.{both_back, both_front}
use Rattle.cjc_bytes.proofs.Inverse.{InBytes, given, inner, number32}
use Rattle.cjc_classfile.specs.PoolItem.{PoolItem}
use Rattle.cjc_classfile.proofs.Fitting.{all_fit, length-repeated}
use Rattle.cjc_code.specs.Instruction.{operand, operands}
use Rattle.cjc_code.specs.Named.{cases, lookup, op_of, places, table}
use Rattle.cjc_code.specs.ReadLaws.Instructions.{MatchesAscend, MatchesFit, SwitchFits}
use Rattle.cjc_code.specs.Table.{count, heads, ranges, row, row_in, tails, wide}
use Rattle.cjc_code.specs.Unfit.{has_wrong_values, rise}
use Rattle.cjc_code.specs.declared.table.Family.{Family}
use Rattle.cjc_code.specs.declared.table.Family.TheVariants as family
use Rattle.cjc_code.specs.declared.table.Operand.{Operand}
use Rattle.cjc_code.specs.declared.table.Operand.TheVariants.{Signed4}
use Rattle.cjc_code.specs.declared.table.Operands.{Operands}
use Rattle.cjc_code.specs.declared.table.Operands.TheVariants as behind
use Rattle.cjc_code.specs.declared.table.TheConstants.{TABLE}
use Rattle.cjc_code.proofs.ReadLaws.Entries.{fit32}
use Rattle.cjc_code.proofs.ReadLaws.Numbers.{Begins}
use Rattle.cjc_code.proofs.ReadLaws.Opcodes.{ends_below, unknown_above}
use Rattle.cjc_code.proofs.TableRows.{slice_get-table}
use Rattle.cjc_range.specs.Span.{Holds, full}

-- ---- operands of four bytes

signed_fits : (at : ℕ) (z : ℤ) (bytes : List ℕ) → InBytes bytes → Spells (operand Signed4) at z bytes → Holds full z
unfolding operand
signed_fits at z bytes ok h =
    let n = number32 (λ n. Some (cast_signed w32 n)) at z bytes ok h in
    subst (Holds full) (same_Some (cast_signed w32 n.n) z n.is) (fit32 (cast_signed w32 n.n)
    (sfits_to_z {w = w32} {n = n.n} (Fits-bits {w = w32} {n = n.n} 32 tt n.small)))

-- so many of them
signed : ℕ → List Operand
signed zero = []
signed (suc n) = Signed4 ∷ signed n

operands_fit : (n at : ℕ) (zs : List ℤ) (bytes : List ℕ) → InBytes bytes → Spells (operands (signed n)) at zs bytes
    → AllByRecursion (Holds full) zs × (length zs ≡ n)
unfolding operands signed
operands_fit zero at zs bytes ok h =
    let same = (given _ _ _ _ h).0 in
    (subst (AllByRecursion (Holds full)) same tt, ap length (sym same))
operands_fit (suc n) at zs bytes ok h =
    let z = inner _ _ _ _ _ ok h in
    let more = inner _ _ _ _ _ z.backs z.rest in
    let same = (given _ _ _ _ more.rest).0 in
    let rest = operands_fit n _ more.x more.front more.fronts more.one in (
      subst (AllByRecursion (Holds full)) same (signed_fits _ z.x z.front z.fronts z.one, rest.0),
      ap length (sym same) ∙ ap suc rest.1,
    )

-- The numbers of an instruction with operands of this form, which have four bytes each.
record HasNumbers (o : Operands) (n : ℕ) (zs : List ℤ) : Type 0 where
  first : List ℤ
  rest : List ℤ
  is : zs ≡ first ++ rest
  firsts : AllByRecursion (Holds full) first
  few : length first ≡ n
  rests : AllByRecursion (Holds full) rest
  many : length rest ≡ tails o first

has_numbers : (m n : ℕ) (zs : List ℤ) (o : Operands) → (row m).0 ≡ o → heads o ≡ signed n → Begins m zs
    → HasNumbers o n zs
has_numbers m n zs o e long b =
    let fits = operands_fit n b.place b.first b.bytes b.ok (subst (λ os. Spells (operands os) b.place b.first b.bytes)
    (ap heads e ∙ long) b.spells) in
    record {
      first = b.first;
      rest = b.rest;
      is = b.is;
      firsts = fits.0;
      few = fits.1;
      rests = all_fit (operand Signed4) (Holds full) signed_fits _ b.rest_place b.rest b.rest_bytes b.rest_ok
          b.rest_spells;
      many = length-repeated (operand Signed4) _ b.rest_place b.rest b.rest_bytes b.rest_ok b.rest_spells
          ∙ ap (λ x. tails x b.first) e;
    }

-- ---- the matches of a table

-- from low to high there are so many
high_is : (low high : ℤ) (k : ℕ) → int_lt high low ≡ false → k ≡ count ((high -ℤ low) +ℤ pos 1) → Holds full low
    → Holds full high → MatchesFit low k
high_is low high k le size a b = by ((high -ℤ low) +ℤ pos 1) refl
  where
    by : (d : ℤ) → ((high -ℤ low) +ℤ pos 1) ≡ d → MatchesFit low k
    by (pos n) e =
        let same : k ≡ n = size ∙ ap count e in
        let ends : ((low +ℤ pos n) -ℤ pos 1) ≡ high = omega (arith, ints, e) in
        record {
          some = omega (arith, ints, e, same, le);
          low_fits = a;
          high_fits = subst (Holds full) (sym (ap (λ j. (low +ℤ pos j) -ℤ pos 1) same ∙ ends)) b;
        }
    by (negsuc n) e = absurd (omega (arith, ints, e, le))

table_fits : (at : ℕ) (zs : List ℤ) → HasNumbers behind.Table 3 zs → has_wrong_values family.TableSwitch zs ≡ false
    → SwitchFits (table at zs)
table_fits at zs h fine =
    subst (λ ys. SwitchFits (table at ys)) (sym h.is) (by h.first h.rest h.firsts h.few h.many
    (ap (has_wrong_values family.TableSwitch) (sym h.is) ∙ fine))
  where
    length-places : (offsets : List ℤ) → length (places at offsets) ≡ length offsets
    length-places [] = refl
    length-places (z ∷ offsets) = ap suc (length-places offsets)

    by : (first rest : List ℤ) → AllByRecursion (Holds full) first → length first ≡ 3
        → length rest ≡ tails behind.Table first → has_wrong_values family.TableSwitch (first ++ rest) ≡ false
        → SwitchFits (table at (first ++ rest))
    by [] rest all few many e = absurd (omega (arith, few))
    by (a ∷ []) rest all few many e = absurd (omega (arith, few))
    by (a ∷ b ∷ []) rest all few many e = absurd (omega (arith, few))
    by (other ∷ low ∷ high ∷ []) rest all few many e =
        high_is low high (length (places at rest)) e (length-places rest ∙ many) all.1.0 all.1.1.0
    by (a ∷ b ∷ c ∷ d ∷ first) rest all few many e = absurd (omega (arith, few))

-- ---- the matches of a lookup

matches_ascend : (at : ℕ) (zs : List ℤ) → AllByRecursion (Holds full) zs → rise zs ≡ true → MatchesAscend (cases at zs)
matches_ascend at [] all up = tt
matches_ascend at (v ∷ []) all up = tt
matches_ascend at (v ∷ o ∷ []) all up = all.0
matches_ascend at (v ∷ o ∷ w ∷ []) all up = all.0
matches_ascend at (v ∷ o ∷ w ∷ p ∷ zs) all up = (
  all.0,
  both_front (int_lt v w) (rise (w ∷ p ∷ zs)) up,
  matches_ascend at (w ∷ p ∷ zs) all.1.1 (both_back (int_lt v w) (rise (w ∷ p ∷ zs)) up),
)

lookup_fits : (at : ℕ) (zs : List ℤ) → HasNumbers behind.Lookup 2 zs → has_wrong_values family.LookupSwitch zs ≡ false
    → SwitchFits (lookup at zs)
lookup_fits at zs h fine =
    subst (λ ys. SwitchFits (lookup at ys)) (sym h.is) (by h.first h.rest h.few h.rests
    (ap (has_wrong_values family.LookupSwitch) (sym h.is) ∙ fine))
  where
    rises : (a b : Bool) → (a || not b) ≡ false → b ≡ true
    rises a true e = refl
    rises true false e = absurd cc
    rises false false e = absurd cc

    by : (first rest : List ℤ) → length first ≡ 2 → AllByRecursion (Holds full) rest
        → has_wrong_values family.LookupSwitch (first ++ rest) ≡ false → SwitchFits (lookup at (first ++ rest))
    by [] rest few all e = absurd (omega (arith, few))
    by (a ∷ []) rest few all e = absurd (omega (arith, few))
    by (other ∷ pairs ∷ []) rest few all e = matches_ascend at rest all (rises (int_lt pairs (pos 0)) (rise rest) e)
    by (a ∷ b ∷ c ∷ first) rest few all e = absurd (omega (arith, few))

-- ---- the operands of a switch

-- what stands behind the prefix
abbrev pub IsWide : ℕ → Type 0
IsWide m = (os : Operands) × (wide (row m) ≡ Some os)

-- a switch has the operands of one, and no other instruction is asked for any
has_form : Operands × Family → Bool
has_form (behind.Table, family.TableSwitch) = true
has_form (o, family.TableSwitch) = false
has_form (behind.Lookup, family.LookupSwitch) = true
has_form (o, family.LookupSwitch) = false
has_form (o, f) = true

all_have_forms : list_all has_form TABLE ≡ true
unfolding has_form
all_have_forms = refl

row_has_form : (m : ℕ) → has_form (row m) ≡ true
unfolding has_form row
row_has_form m = by (nat_lt m 256) refl
  where
    one : (rows : List (Operands × Family)) (k : ℕ) (r : Operands × Family) → list_all has_form rows ≡ true
        → slice_get rows k ≡ Some r → has_form r ≡ true
    one [] k r all e = absurd cc
    one (x ∷ rows) zero r all e = ap has_form (sym (same_Some x r e)) ∙ both_front (has_form x) (list_all has_form rows)
        all
    one (x ∷ rows) (suc k) r all e = one rows k r (both_back (has_form x) (list_all has_form rows) all) e

    by : (b : Bool) → nat_lt m 256 ≡ b → has_form (row m) ≡ true
    by true e = one TABLE m (row m) all_have_forms (slice_get-table m (ltb-true m 256 e))
    by false e = let le = ltb-false m 256 e in ap has_form (unknown_above ranges m (omega (arith, le)) ends_below)

table_form : (o : Operands) → has_form (o, family.TableSwitch) ≡ true → o ≡ behind.Table
unfolding has_form
table_form behind.Table e = refl
table_form _ e = absurd cc

lookup_form : (o : Operands) → has_form (o, family.LookupSwitch) ≡ true → o ≡ behind.Lookup
unfolding has_form
lookup_form behind.Lookup e = refl
lookup_form _ e = absurd cc

-- none of them stands behind the prefix
table_alone : (o os : Operands) → wide (o, family.TableSwitch) ≡ Some os → ⊥
table_alone behind.U1 os e = cc
table_alone behind.U1S1 os e = cc
table_alone _ os e = cc

lookup_alone : (o os : Operands) → wide (o, family.LookupSwitch) ≡ Some os → ⊥
lookup_alone behind.U1 os e = cc
lookup_alone behind.U1S1 os e = cc
lookup_alone _ os e = cc

-- ---- a decoded instruction

module _ (pool : List PoolItem) (at m : ℕ) (zs : List ℤ) (spelt : Begins m zs ⊎ IsWide m) where
  by_family : (f : Family) → (row m).1 ≡ f → has_wrong_values f zs ≡ false → SwitchFits (op_of pool at m f zs)
  unfolding signed
  by_family family.TableSwitch e fine =
      let form = table_form (row m).0 (ap (λ f. has_form ((row m).0, f)) (sym e) ∙ row_has_form m) in
      ⊎_elim (λ b. table_fits at zs (has_numbers m 3 zs behind.Table form refl b) fine)
      (λ w. absurd (table_alone (row m).0 w.0 (ap (λ f. wide ((row m).0, f)) (sym e) ∙ w.1))) spelt
  by_family family.LookupSwitch e fine =
      let form = lookup_form (row m).0 (ap (λ f. has_form ((row m).0, f)) (sym e) ∙ row_has_form m) in
      ⊎_elim (λ b. lookup_fits at zs (has_numbers m 2 zs behind.Lookup form refl b) fine)
      (λ w. absurd (lookup_alone (row m).0 w.0 (ap (λ f. wide ((row m).0, f)) (sym e) ∙ w.1))) spelt
  by_family _ e fine = tt

  pub switch_fits : has_wrong_values (row m).1 zs ≡ false → SwitchFits (op_of pool at m (row m).1 zs)
  switch_fits fine = by_family (row m).1 refl fine
