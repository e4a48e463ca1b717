-- What is broken before types are tested, what is broken of types, and what of ranges: every rule of the others stands
-- before those
-- of types, and each of types before those of ranges.
use Rattle.std.proofs.Common.{◌≡◌, inl, inr, ℕ, zero, suc, ◌≤◌, Bool, true, false, List, [], ◌∷◌, Some, None, refl, sym}
use Rattle.std.proofs.Common.{ap, ◌∙◌, arith}
use Rattle.std.specs.Prelude.{slice_get, ◌||◌}
use Rattle.std.specs.List.{list_any}
use Rattle.cjc_bytes.specs.declared.fault.Fault.{Fault}
use Rattle.cjc_bytes.specs.declared.fault.Refusal.{Refusal}
use Rattle.cjc_bytes.specs.Breaks.{Break}
use Rattle.cjc_bytes.specs.Order.{NotAfter}
use Rattle.cjc_bytes.proofs.BrokenRules.{no_among}
use Rattle.cjc_clinit.specs.Rules.{of_class, of_code}
use Rattle.cjc_clinit.specs.Bytecode.declared.method_code.MethodCode.{MethodCode}
use Rattle.cjc_list.specs.Listed.{ListTree}
use Rattle.cjc_narrow.specs.Types.declared.table.TypeTable.{TypeTable}
use Rattle.cjc_world.specs.Files.{Files}
use Rattle.cjc_judge.specs.declared.groups.Group.{Group}
use Rattle.cjc_judge.specs.declared.groups.Group.TheVariants as groups
use Rattle.cjc_judge.specs.declared.reading.UnsupportedInsn.{UnsupportedInsn}
use Rattle.cjc_judge.specs.Rules.{BreaksAnyType, BreaksAnyRange, IsFirstRefused, IsFirstIn, IsFirstFault, has_applets}
use Rattle.cjc_judge.specs.Rules.{settings_of}
use Rattle.cjc_int_mode.specs.declared.modes.Mode.{Mode}
use Rattle.cjc_judge.specs.Modes.{AreModesWhereNamed}
use Rattle.cjc_judge.specs.Types.{AreTablesWhereNamed, asks_types, asks_ranges}
use Rattle.cjc_judge.specs.Working.Groups.{WorldBreaks, WorldBreaksAny, EarlyBreaks, EarlyBreaksAny, NamedTypeBreaks}
use Rattle.cjc_judge.specs.Working.Groups.{NamedRangeBreaks}
use Rattle.cjc_judge.proofs.Families.{unsupported_insns_third, checks_language, tokens_fourth, type_fifth, range_sixth}

-- nothing is broken of nothing
pub none_early : IsFirstIn (λ b. ⊥) None
none_early = ([], λ b. (λ i. absurd (no_among b i), λ h. absurd h), refl)

-- ---- one breach, another way to say where it is from

pub fault_from : (G H : Break → Type 0) (e : Fault) → ((b : Break) → G b → H b)
    → ((r : Refusal) (f : IsFirstRefused G r) (b : Break) → H b → NotAfter f.broken.rank b.rank) → IsFirstFault G e
    → IsFirstFault H e
fault_from G H e into least (inl memory) = inl memory
fault_from G H e into least (inr (r, f, is)) =
    inr (
      r,
      record {
        broken = f.broken;
        first = record {
          breaks = into f.broken f.first.breaks;
          least = λ b h. least r f b h;
        };
        is = f.is;
      },
      is,
    )

-- ---- groups that ask for something

pub named : (asks : Group → Bool) (tested : List Group) → list_any asks tested ≡ true → (i : ℕ) × (g : Group)
    × (slice_get tested i ≡ Some g) × (asks g ≡ true)
named asks [] h = absurd cc
named asks (g ∷ gs) h = by (asks g) refl h (named asks gs)
  where
    by : (b : Bool) → asks g ≡ b → (b || list_any asks gs) ≡ true → (list_any asks gs ≡ true → (i : ℕ) × (k : Group)
        × (slice_get gs i ≡ Some k) × (asks k ≡ true))
        → (i : ℕ) × (k : Group) × (slice_get (g ∷ gs) i ≡ Some k) × (asks k ≡ true)
    by true is h more = (0, g, refl, is)
    by false is h more = let found = more h in (suc found.0, found.1, found.2, found.3)

pub asked : (asks : Group → Bool) (tested : List Group) (i : ℕ) (g : Group) → slice_get tested i ≡ Some g
    → asks g ≡ true → list_any asks tested ≡ true
asked asks [] i g at is = absurd cc
asked asks (x ∷ gs) zero g at is = let same : x ≡ g = cc in ap (λ b. b || list_any asks gs) (ap asks same ∙ is)
asked asks (x ∷ gs) (suc i) g at is = either_true (asks x) (list_any asks gs) (asked asks gs i g at is)
  where
    either_true : (a b : Bool) → b ≡ true → (a || b) ≡ true
    either_true true b e = refl
    either_true false b e = e

pub not_both : {P : Type 0} (b : Bool) → b ≡ false → b ≡ true → P
not_both b e f = absurd (let g : false ≡ true = sym e ∙ f in cc)

pub no_tables : (tested : List Group) (world : Files) (codes : List MethodCode) (tables : List TypeTable)
    → list_any asks_types tested ≡ false → AreTablesWhereNamed tested world codes tables
no_tables tested world codes tables h asked = not_both (list_any asks_types tested) h asked

pub no_types : (tested : List Group) (world : Files) (codes : List MethodCode) → list_any asks_types tested ≡ false
    → (b : Break) → NamedTypeBreaks world codes tested b → ⊥
no_types tested world codes h b (asked, breaks) = not_both (list_any asks_types tested) h asked

pub no_modes : (tested : List Group) (ints : Bool) (world : Files) (codes : List MethodCode) (modes : List Mode)
    → list_any asks_ranges tested ≡ false → AreModesWhereNamed tested ints world codes modes
no_modes tested ints world codes modes h asked = not_both (list_any asks_ranges tested) h asked

pub no_ranges : (tested : List Group) (ints : Bool) (world : Files) (codes : List MethodCode)
    → list_any asks_ranges tested ≡ false → (b : Break) → NamedRangeBreaks ints world codes tested b → ⊥
no_ranges tested ints world codes h b (asked, breaks) = not_both (list_any asks_ranges tested) h asked

pub types_fault : (tested : List Group) (world : Files) (codes : List MethodCode) (e : Fault)
    → list_any asks_types tested ≡ true → IsFirstFault (BreaksAnyType world codes) e
    → IsFirstFault (NamedTypeBreaks world codes tested) e
types_fault tested world codes e h f = fault_from (BreaksAnyType world codes) (NamedTypeBreaks world codes tested) e
    (λ b breaks. (h, breaks)) (λ r first b breaks. first.first.least b breaks.1) f

pub ranges_fault : (tested : List Group) (ints : Bool) (world : Files) (codes : List MethodCode) (e : Fault)
    → list_any asks_ranges tested ≡ true → IsFirstFault (BreaksAnyRange ints world codes) e
    → IsFirstFault (NamedRangeBreaks ints world codes tested) e
ranges_fault tested ints world codes e h f = fault_from (BreaksAnyRange ints world codes)
    (NamedRangeBreaks ints world codes tested) e
    (λ b breaks. (h, breaks)) (λ r first b breaks. first.first.least b breaks.1) f

-- who asks for ranges asks for types
pub types_too : (tested : List Group) → list_any asks_ranges tested ≡ true → list_any asks_types tested ≡ true
types_too tested h = let found = named asks_ranges tested h in asked asks_types tested found.0 found.1 found.2
    (too found.1 found.3)
  where
    too : (g : Group) → asks_ranges g ≡ true → asks_types g ≡ true
    too groups.Ranges e = refl
    too groups.Types e = refl
    too groups.Unsupported e = absurd cc
    too groups.Language e = absurd cc
    too groups.Initialisers e = absurd cc
    too groups.Limits e = absurd cc
    too groups.Tokens e = absurd cc

module _ (list : ListTree) (world : Files) (codes : List MethodCode) (unsupported_insns : List UnsupportedInsn)
    (tested : List Group) where
  early_family : (g : Group) (b : Break) → EarlyBreaks list world codes unsupported_insns g b → b.rank.family ≤ 4
  early_family groups.Unsupported b i = let three = (unsupported_insns_third world unsupported_insns).holds b i
      in omega (arith, three)
  early_family groups.Language b h = ((checks_language list.name world codes (settings_of list)).holds b h.0).1
  early_family groups.Initialisers b (of_class n c is h) = let three = ap (λ (b : Break). b.rank.family) h.is
      in omega (arith, three)
  early_family groups.Initialisers b (of_code i code at h) = let three = ap (λ (b : Break). b.rank.family) h.is
      in omega (arith, three)
  early_family groups.Limits b i = ((checks_language list.name world codes (settings_of list)).holds b i).1
  early_family groups.Tokens b i = let four = (tokens_fourth (has_applets list) world).holds b i in omega (arith, four)
  early_family groups.Types b h = absurd h
  early_family groups.Ranges b h = absurd h

  into : (g : Group) (b : Break) → EarlyBreaks list world codes unsupported_insns g b
      → WorldBreaks list world codes unsupported_insns g b
  into groups.Unsupported b h = h
  into groups.Language b h = h
  into groups.Initialisers b h = h
  into groups.Limits b h = h
  into groups.Tokens b h = h
  into groups.Types b h = absurd h
  into groups.Ranges b h = absurd h

  early_in : (b : Break) → EarlyBreaksAny list world codes unsupported_insns tested b
      → WorldBreaksAny list world codes unsupported_insns tested b
  early_in b (i, g, at, h) = (i, g, at, into g b h)

  types_in : (b : Break) → NamedTypeBreaks world codes tested b → WorldBreaksAny list world codes unsupported_insns
      tested b
  types_in b (h, breaks) = let found = named asks_types tested h in (found.0, found.1, found.2, by found.1 found.3)
    where
      by : (g : Group) → asks_types g ≡ true → WorldBreaks list world codes unsupported_insns g b
      by groups.Types e = breaks
      by groups.Ranges e = inl breaks
      by groups.Unsupported e = absurd cc
      by groups.Language e = absurd cc
      by groups.Initialisers e = absurd cc
      by groups.Limits e = absurd cc
      by groups.Tokens e = absurd cc

  ranges_in : (b : Break) → NamedRangeBreaks list.ints world codes tested b
      → WorldBreaksAny list world codes unsupported_insns tested b
  ranges_in b (h, breaks) = let found = named asks_ranges tested h in (found.0, found.1, found.2, by found.1 found.3)
    where
      by : (g : Group) → asks_ranges g ≡ true → WorldBreaks list world codes unsupported_insns g b
      by groups.Ranges e = inr breaks
      by groups.Types e = absurd cc
      by groups.Unsupported e = absurd cc
      by groups.Language e = absurd cc
      by groups.Initialisers e = absurd cc
      by groups.Limits e = absurd cc
      by groups.Tokens e = absurd cc

  -- of what is broken, what is tested first, of types, or of ranges
  data Sorted (b : Break) : Type 0 where
    early : EarlyBreaksAny list world codes unsupported_insns tested b → Sorted b
    of_types : NamedTypeBreaks world codes tested b → Sorted b
    of_ranges : NamedRangeBreaks list.ints world codes tested b → Sorted b

  sorted : (b : Break) → WorldBreaksAny list world codes unsupported_insns tested b → Sorted b
  sorted b (i, g, at, h) = by g at h
    where
      by : (g : Group) → slice_get tested i ≡ Some g → WorldBreaks list world codes unsupported_insns g b → Sorted b
      by groups.Unsupported at h = early (i, groups.Unsupported, at, h)
      by groups.Language at h = early (i, groups.Language, at, h)
      by groups.Initialisers at h = early (i, groups.Initialisers, at, h)
      by groups.Limits at h = early (i, groups.Limits, at, h)
      by groups.Tokens at h = early (i, groups.Tokens, at, h)
      by groups.Types at h = of_types (asked asks_types tested i groups.Types at refl, h)
      by groups.Ranges at (inl h) = of_types (asked asks_types tested i groups.Ranges at refl, h)
      by groups.Ranges at (inr h) = of_ranges (asked asks_ranges tested i groups.Ranges at refl, h)

  early_before : (a b : Break) → EarlyBreaksAny list world codes unsupported_insns tested a → 5 ≤ b.rank.family
      → NotAfter a.rank b.rank
  early_before a b (i, g, at, h) five = let four = early_family g a h in inl (omega (arith, four, five))

  types_low : (b : Break) → NamedTypeBreaks world codes tested b → b.rank.family ≡ 5
  types_low b (h, (k, code, is, breaks)) = type_fifth world code b breaks

  ranges_low : (b : Break) → NamedRangeBreaks list.ints world codes tested b → b.rank.family ≡ 6
  ranges_low b (h, (k, code, is, breaks)) = range_sixth list.ints world code b breaks

  -- the first of the others is the first of all
  pub early_fault : (e : Fault) → IsFirstFault (EarlyBreaksAny list world codes unsupported_insns tested) e
      → IsFirstFault (WorldBreaksAny list world codes unsupported_insns tested) e
  early_fault e f = fault_from (EarlyBreaksAny list world codes unsupported_insns tested) (WorldBreaksAny list world
      codes unsupported_insns tested) e early_in least f
    where
      least : (r : Refusal) (f : IsFirstRefused (EarlyBreaksAny list world codes unsupported_insns tested) r)
          (b : Break) → WorldBreaksAny list world codes unsupported_insns tested b → NotAfter f.broken.rank b.rank
      least r f b h = by (sorted b h)
        where
          by : Sorted b → NotAfter f.broken.rank b.rank
          by (early k) = f.first.least b k
          by (of_types k) = early_before f.broken b f.first.breaks (let five = types_low b k in omega (arith, five))
          by (of_ranges k) = early_before f.broken b f.first.breaks (let six = ranges_low b k in omega (arith, six))

  module _ (none : (b : Break) → EarlyBreaksAny list world codes unsupported_insns tested b → ⊥) where
    -- where nothing of the others is broken, the first of types is the first of all
    pub types_first : (e : Fault) → IsFirstFault (NamedTypeBreaks world codes tested) e
        → IsFirstFault (WorldBreaksAny list world codes unsupported_insns tested) e
    types_first e f = fault_from (NamedTypeBreaks world codes tested) (WorldBreaksAny list world codes unsupported_insns
        tested) e types_in least f
      where
        least : (r : Refusal) (f : IsFirstRefused (NamedTypeBreaks world codes tested) r) (b : Break)
            → WorldBreaksAny list world codes unsupported_insns tested b → NotAfter f.broken.rank b.rank
        least r f b h = by (sorted b h)
          where
            by : Sorted b → NotAfter f.broken.rank b.rank
            by (early k) = absurd (none b k)
            by (of_types k) = f.first.least b k
            by (of_ranges k) = inl (let five = types_low f.broken f.first.breaks in let six = ranges_low b k
                in omega (arith, five, six))

    module _ (typed : (b : Break) → NamedTypeBreaks world codes tested b → ⊥) where
      -- and where nothing of types is, the first of ranges
      pub ranges_first : (e : Fault) → IsFirstFault (NamedRangeBreaks list.ints world codes tested) e
          → IsFirstFault (WorldBreaksAny list world codes unsupported_insns tested) e
      ranges_first e f = fault_from (NamedRangeBreaks list.ints world codes tested) (WorldBreaksAny list world codes
          unsupported_insns tested) e ranges_in least f
        where
          least : (r : Refusal) (f : IsFirstRefused (NamedRangeBreaks list.ints world codes tested) r) (b : Break)
              → WorldBreaksAny list world codes unsupported_insns tested b → NotAfter f.broken.rank b.rank
          least r f b h = by (sorted b h)
            where
              by : Sorted b → NotAfter f.broken.rank b.rank
              by (early k) = absurd (none b k)
              by (of_types k) = absurd (typed b k)
              by (of_ranges k) = f.first.least b k

      pub unbroken : ((b : Break) → NamedRangeBreaks list.ints world codes tested b → ⊥) → (b : Break)
          → WorldBreaksAny list world codes unsupported_insns tested b → ⊥
      unbroken ranged b h = by (sorted b h)
        where
          by : Sorted b → ⊥
          by (early k) = none b k
          by (of_types k) = typed b k
          by (of_ranges k) = ranged b k
