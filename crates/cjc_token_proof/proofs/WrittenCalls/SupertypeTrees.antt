-- Classes that stand in the trees of what is above some names are found by their names.
use Rattle.std.proofs.Common.{◌≡◌, ℕ, zero, suc, refl, ap, subst, ◌∙◌, Bool, true, false, List, [], ◌∷◌, ◌++◌}
use Rattle.std.proofs.Common.{length}
use Rattle.std.specs.Prelude.{Option, Some, None, slice_get, option_to_list, if◌then◌else◌}
use Rattle.cjc_world.specs.Classes.{Class, class_named}
use Rattle.cjc_world.specs.Interfaces.{Interface, each_once, gathered, is_among, known, where_listed}
use Rattle.cjc_world.specs.Supertypes.{Supertypes, End, Unknown, Known, supertypes_within, in_a_row, supertypes}
use Rattle.cjc_world.specs.Supertypes.{known_as}
use Rattle.cjc_world.proofs.Cycles.{class_named-name}
use Rattle.cjc_tokens.specs.Methods.{interfaces_at}

pub by_own_name : (w : List Class) (x : List ℕ) (c : Class) → class_named w x ≡ Some c → class_named w c.name ≡ Some c
by_own_name w x c e = ap (class_named w) (class_named-name w x c e) ∙ e

module _ (w : List Class) where
  -- found by its name
  abbrev pub Fine : Option Class → Type 0
  Fine None = Unit {0}
  Fine (Some c) = class_named w c.name ≡ Some c

  abbrev pub SupertypesFine : Supertypes → Type 0
  SupertypesFine End = Unit {0}
  SupertypesFine (Unknown name next) = SupertypesFine next
  SupertypesFine (Known c supers interfaces next) = (class_named w c.name ≡ Some c) × SupertypesFine supers
      × SupertypesFine interfaces × SupertypesFine next

  row_fine : (above : List (List ℕ) → Supertypes) → ((xs : List (List ℕ)) → SupertypesFine (above xs))
      → (xs : List (List ℕ)) → SupertypesFine (in_a_row w above xs)
  row_fine above all [] = tt
  row_fine above all (x ∷ xs) = by (class_named w x) refl (row_fine above all xs)
    where
      by : (o : Option Class) → class_named w x ≡ o → SupertypesFine (in_a_row w above xs)
          → SupertypesFine (known_as above x o (in_a_row w above xs))
      by None is rest = rest
      by (Some c) is rest = (by_own_name w x c is, all c.supers, all c.interfaces, rest)

  grown_fine : (n : ℕ) (xs : List (List ℕ)) → SupertypesFine (supertypes_within w n xs)
  unfolding supertypes_within
  grown_fine zero xs = tt
  grown_fine (suc n) xs = row_fine (supertypes_within w n) (grown_fine n) xs

  pub supertypes_fine : (xs : List (List ℕ)) → SupertypesFine (supertypes w xs)
  unfolding supertypes
  supertypes_fine xs = grown_fine (suc (length w)) xs

  abbrev AllFine : List Interface → Type 0
  AllFine [] = Unit {0}
  AllFine (i ∷ is) = Fine i.class × AllFine is

  fine_both : (is js : List Interface) → AllFine is → AllFine js → AllFine (is ++ js)
  fine_both [] js a b = b
  fine_both (i ∷ is) js a b = (a.0, fine_both is js a.1 b)

  where_fine : (t : Bool) (i : Interface) → Fine i.class → AllFine (where_listed t i)
  where_fine true i f = (f, tt)
  where_fine false i f = tt

  gathered_fine : (listed : Bool) (k : Supertypes) → SupertypesFine k → AllFine (gathered listed k)
  unfolding gathered
  gathered_fine listed End f = tt
  gathered_fine listed (Unknown name next) f = fine_both (where_listed listed (record { name = name; class = None }))
      (gathered listed next) (where_fine listed (record { name = name; class = None }) tt) (gathered_fine listed next f)
  gathered_fine listed (Known c supers interfaces next) f =
      fine_both (gathered false supers ++ gathered true interfaces ++ where_listed listed (record {
        name = c.name;
        class = Some c;
      })) (gathered listed next)
      (fine_both (gathered false supers ++ gathered true interfaces) (where_listed listed (record {
        name = c.name;
        class = Some c;
      }))
      (fine_both (gathered false supers) (gathered true interfaces) (gathered_fine false supers f.1)
      (gathered_fine true interfaces f.2))
      (where_fine listed (record { name = c.name; class = Some c }) f.0))
      (gathered_fine listed next f.3)

  once_fine : (known is : List Interface) → AllFine is → AllFine (each_once known is)
  once_fine known [] f = tt
  once_fine known (i ∷ is) f = by (is_among known i.name) (once_fine known is f.1) (once_fine (known ++ i ∷ []) is f.1)
    where
      by : (t : Bool) → AllFine (each_once known is) → AllFine (each_once (known ++ i ∷ []) is)
          → AllFine (if t then each_once known is else i ∷ each_once (known ++ i ∷ []) is)
      by true a b = a
      by false a b = (f.0, b)

  known_fine : (is : List Interface) → AllFine is → (k : ℕ) (c : Class) → slice_get (known is) k ≡ Some c
      → class_named w c.name ≡ Some c
  unfolding known
  known_fine [] f k c e = absurd (cc)
  known_fine (i ∷ is) f k c e = by i.class f.0 k e (known_fine is f.1)
    where
      by : (o : Option Class) → Fine o → (k : ℕ) → slice_get (option_to_list o ++ known is) k ≡ Some c
          → ((k : ℕ) (c : Class) → slice_get (known is) k ≡ Some c → class_named w c.name ≡ Some c)
          → class_named w c.name ≡ Some c
      by None a k h rest = rest k c h
      by (Some d) a zero h rest = let same : d ≡ c = cc in subst (λ (q : Class). class_named w q.name ≡ Some q) same a
      by (Some d) a (suc j) h rest = rest j c h

  -- the interfaces of a class that some file has are found by their names
  pub interfaces_fine : (c : Class) (k : ℕ) (i : Class) → slice_get (known (interfaces_at w c)) k ≡ Some i
      → class_named w i.name ≡ Some i
  unfolding interfaces_at
  interfaces_fine c k i e =
      known_fine (each_once [] (gathered false (supertypes w c.supers) ++ gathered true (supertypes w c.interfaces)))
      (once_fine [] (gathered false (supertypes w c.supers) ++ gathered true (supertypes w c.interfaces))
      (fine_both (gathered false (supertypes w c.supers)) (gathered true (supertypes w c.interfaces))
      (gathered_fine false (supertypes w c.supers) (supertypes_fine c.supers))
      (gathered_fine true (supertypes w c.interfaces) (supertypes_fine c.interfaces)))) k i e
