-- Going upwards over what export files list finds each class that stands above, and none twice.
use Rattle.std.proofs.Common.{◌≡◌, ℕ, zero, suc, ◌+◌, ◌≤◌, refl, sym, ap, subst, ◌∙◌, arith, Bool, true, false, List}
use Rattle.std.proofs.Common.{[], ◌∷◌, ◌++◌, length, map, inl, inr, Option, Some, None}
use Rattle.std.specs.Prelude.{◌⊎◌, ◌||◌, not, ◌&&◌, if◌then◌else◌}
use Rattle.std.specs.List.{AllByRecursion}
use Rattle.std.specs.Str.{bytes_eq}
use Rattle.std.proofs.lemmas.List.{length-append}
use Rattle.std.proofs.lemmas.Bool.{or_left, or_right, or_parts, false_from_ne_true}
use Rattle.cjc_export.specs.declared.tree.ExportClass.{ExportClass}
use Rattle.cjc_export.specs.Supers.{class_named, is_one_of, are_apart, IsAtOrAbove, at, above, with_class, upwards_from}
use Rattle.cjc_export.specs.Supers.{super_count, upwards}
use Rattle.cjc_bytes.proofs.Lists.{name_is, bytes_true}
use Rattle.cjc_bytes.proofs.Bools.{or_cases}

-- ---- names

-- the name in front, or one behind it
pub one_cases : (x : List ℕ) (names : List (List ℕ)) (y : List ℕ) → is_one_of (x ∷ names) y ≡ true → (x ≡ y)
    ⊎ (is_one_of names y ≡ true)
one_cases x names y e = elim (or_cases (bytes_eq x y) (is_one_of names y) e) [
  | inl h ↦ inl (bytes_true x y h)
  | inr h ↦ inr h
]

pub one_here : (x : List ℕ) (names : List (List ℕ)) → is_one_of (x ∷ names) x ≡ true
one_here x names = or_left (bytes_eq x x) (is_one_of names x) (name_is x)

pub one_more : (x : List ℕ) (names : List (List ℕ)) (y : List ℕ) → is_one_of names y ≡ true → is_one_of (x ∷ names) y
    ≡ true
one_more x names y h = or_right (bytes_eq x y) (is_one_of names y) h

one_left : (xs ys : List (List ℕ)) (y : List ℕ) → is_one_of xs y ≡ true → is_one_of (xs ++ ys) y ≡ true
one_left [] ys y h = absurd cc
one_left (x ∷ xs) ys y h = elim (or_cases (bytes_eq x y) (is_one_of xs y) h) [
  | inl e ↦ or_left (bytes_eq x y) (is_one_of (xs ++ ys) y) e
  | inr e ↦ or_right (bytes_eq x y) (is_one_of (xs ++ ys) y) (one_left xs ys y e)
]

one_right : (xs ys : List (List ℕ)) (y : List ℕ) → is_one_of ys y ≡ true → is_one_of (xs ++ ys) y ≡ true
one_right [] ys y h = h
one_right (x ∷ xs) ys y h = or_right (bytes_eq x y) (is_one_of (xs ++ ys) y) (one_right xs ys y h)

one_either : (xs ys : List (List ℕ)) (y : List ℕ) → is_one_of (xs ++ ys) y ≡ true → (is_one_of xs y ≡ true)
    ⊎ (is_one_of ys y ≡ true)
one_either [] ys y h = inr h
one_either (x ∷ xs) ys y h = elim (or_cases (bytes_eq x y) (is_one_of (xs ++ ys) y) h) [
  | inl e ↦ inl (or_left (bytes_eq x y) (is_one_of xs y) e)
  | inr e ↦ elim (one_either xs ys y e) [ inl g ↦ inl (or_right (bytes_eq x y) (is_one_of xs y) g) | inr g ↦ inr g ]
]

some_same : (c d : ExportClass) (o : Option ExportClass) → o ≡ Some c → o ≡ Some d → c ≡ d
some_same c d o e f = let g : Some c ≡ Some d = sym e ∙ f in cc

no_some : (c : ExportClass) (o : Option ExportClass) → o ≡ None → o ≡ Some c → ⊥
no_some c o e f = let g : None ≡ Some c = sym e ∙ f in cc

-- a class that is found has the name that was sought
named_so : (classes : List ExportClass) (x : List ℕ) (c : ExportClass) → class_named classes x ≡ Some c → c.name ≡ x
named_so [] x c e = absurd cc
named_so (d ∷ classes) x c e = go (bytes_eq d.name x) refl e (named_so classes x c)
  where
    go : (b : Bool) → bytes_eq d.name x ≡ b → (if b then Some d else class_named classes x) ≡ Some c
        → (class_named classes x ≡ Some c → c.name ≡ x) → c.name ≡ x
    go true f g rest = let h : d ≡ c = cc in ap (λ (k : ExportClass). k.name) (sym h) ∙ bytes_true d.name x f
    go false f g rest = rest g

-- ---- how many supers are left

abbrev load : Bool → ℕ → ℕ
load true n = 0
load false n = n

-- of the classes whose name was not passed
abbrev weight : (passed : List (List ℕ)) → List ExportClass → ℕ
weight passed [] = 0
weight passed (c ∷ classes) = load (is_one_of passed c.name) (length c.supers) + weight passed classes

weight_is : (classes : List ExportClass) → weight [] classes ≡ super_count classes
weight_is [] = refl
weight_is (c ∷ classes) = ap (λ n. length c.supers + n) (weight_is classes)

load_less : (a b : Bool) (n : ℕ) → load (a || b) n ≤ load b n
load_less true true n = omega arith
load_less true false n = omega arith
load_less false b n = omega arith

weight_less : (x : List ℕ) (passed : List (List ℕ)) (classes : List ExportClass)
    → weight (x ∷ passed) classes ≤ weight passed classes
weight_less x passed [] = omega arith
weight_less x passed (c ∷ classes) = omega (
  arith,
  load_less (bytes_eq x c.name) (is_one_of passed c.name)
      (length c.supers),
  weight_less x passed classes,
)

-- a class that is passed takes the count of its supers with it
weight_drop : (x : List ℕ) (passed : List (List ℕ)) (classes : List ExportClass) (c : ExportClass)
    → class_named classes x ≡ Some c → is_one_of passed x ≡ false
    → length c.supers + weight (x ∷ passed) classes ≤ weight passed classes
weight_drop x passed [] c e f = absurd cc
weight_drop x passed (d ∷ classes) c e f = go (bytes_eq d.name x) refl e (λ g. weight_drop x passed classes c g f)
  where
    here : d ≡ c → d.name ≡ x → length c.supers + weight (x ∷ passed) (d ∷ classes) ≤ weight passed (d ∷ classes)
    here same is =
        let first : load (is_one_of (x ∷ passed) d.name) (length d.supers) ≡ 0 = ap (λ b. load b (length d.supers))
        (ap (λ z. is_one_of (x ∷ passed) z) is ∙ one_here x passed) in
        let second : load (is_one_of passed d.name) (length d.supers) ≡ length d.supers =
        ap (λ b. load b (length d.supers)) (ap (λ z. is_one_of passed z) is ∙ f) in
        let size : length c.supers ≡ length d.supers = ap (λ (k : ExportClass). length k.supers) (sym same) in
        omega (arith, first, second, size, weight_less x passed classes)

    go : (b : Bool) → bytes_eq d.name x ≡ b → (if b then Some d else class_named classes x) ≡ Some c
        → (class_named classes x ≡ Some c → length c.supers + weight (x ∷ passed) classes ≤ weight passed classes)
        → length c.supers + weight (x ∷ passed) (d ∷ classes) ≤ weight passed (d ∷ classes)
    go true g h rest = let same : d ≡ c = cc in here same (bytes_true d.name x g)
    go false g h rest = omega (arith, rest h, load_less (bytes_eq x d.name) (is_one_of passed d.name) (length d.supers))

-- ---- all that stands above is found

abbrev names_of : List ExportClass → List (List ℕ)
names_of classes = map (λ c. c.name) classes

data Settled (classes : List ExportClass) (passed found : List (List ℕ)) (y : List ℕ) : Type 0 where
  before : is_one_of passed y ≡ true → Settled classes passed found y
  here : is_one_of found y ≡ true → Settled classes passed found y
  unknown : class_named classes y ≡ None → Settled classes passed found y

-- the supers of what was passed were passed, or wait
abbrev Waits : List ExportClass → (passed names : List (List ℕ)) → Type 0
Waits classes passed names = (x : List ℕ) (c : ExportClass) → is_one_of passed x ≡ true → class_named classes x ≡ Some c
    → (y : List ℕ) → is_one_of c.supers y ≡ true → (is_one_of passed y ≡ true) ⊎ (is_one_of names y ≡ true)

record Complete (classes : List ExportClass) (passed names found : List (List ℕ)) : Type 0 where
  all : (y : List ℕ) → is_one_of names y ≡ true → Settled classes passed found y
  closed : (x : List ℕ) (c : ExportClass) → (is_one_of passed x ≡ true) ⊎ (is_one_of found x ≡ true)
      → class_named classes x ≡ Some c → (y : List ℕ) → is_one_of c.supers y ≡ true → Settled classes passed found y

nothing_left : (classes : List ExportClass) (passed : List (List ℕ)) → Waits classes passed []
    → Complete classes passed [] []
nothing_left classes passed w = record {
  all = λ y h. absurd cc;
  closed = λ x c p e y s. elim p [
    | inl g ↦ elim (w x c g e y s) [ inl h ↦ before h | inr h ↦ absurd cc ]
    | inr g ↦ absurd cc
  ];
}

-- a name that was passed
passed_waits : (classes : List ExportClass) (x : List ℕ) (passed names : List (List ℕ)) → is_one_of passed x ≡ true
    → Waits classes passed (x ∷ names) → Waits classes passed names
passed_waits classes x passed names f w z c p e y s = elim (w z c p e y s) [
  | inl h ↦ inl h
  | inr h ↦ elim (one_cases x names y h) [ inl is ↦ inl (ap (λ k. is_one_of passed k) (sym is) ∙ f) | inr g ↦ inr g ]
]

passed_complete : (classes : List ExportClass) (x : List ℕ) (passed names found : List (List ℕ))
    → is_one_of passed x ≡ true → Complete classes passed names found → Complete classes passed (x ∷ names) found
passed_complete classes x passed names found f r = record {
  all = λ y h. elim (one_cases x names y h) [
    | inl is ↦ before (ap (λ k. is_one_of passed k) (sym is) ∙ f)
    | inr g ↦ r.all y g
  ];
  closed = r.closed;
}

-- a name of no class
unknown_waits : (classes : List ExportClass) (x : List ℕ) (passed names : List (List ℕ)) → class_named classes x ≡ None
    → Waits classes passed (x ∷ names) → Waits classes (x ∷ passed) names
unknown_waits classes x passed names none w z c p e y s = elim (one_cases x passed z p) [
  | inl is ↦ absurd (no_some c (class_named classes x) none (ap (λ k. class_named classes k) is ∙ e))
  | inr g ↦ elim (w z c g e y s) [
    | inl h ↦ inl (one_more x passed y h)
    | inr h ↦ elim (one_cases x names y h) [
      | inl same ↦ inl (ap (λ k. is_one_of (x ∷ passed) k) (sym same)
          ∙ one_here x passed)
      | inr k ↦ inr k
    ]
  ]
]

unknown_complete : (classes : List ExportClass) (x : List ℕ) (passed names found : List (List ℕ))
    → class_named classes x ≡ None → Complete classes (x ∷ passed) names found
    → Complete classes passed (x ∷ names) found
unknown_complete classes x passed names found none r = record {
  all = λ y h. elim (one_cases x names y h) [
    | inl is ↦ unknown (ap (λ k. class_named classes k) (sym is) ∙ none)
    | inr g ↦ back y (r.all y g)
  ];
  closed = λ z c p e y s. elim p [
    | inl g ↦ back y (r.closed z c (inl (one_more x passed z g)) e y s)
    | inr g ↦ back y (r.closed z c (inr g) e y s)
  ];
}
  where
    back : (y : List ℕ) → Settled classes (x ∷ passed) found y → Settled classes passed found y
    back y (before h) = elim (one_cases x passed y h) [
      | inl is ↦ unknown (ap (λ k. class_named classes k) (sym is)
          ∙ none)
      | inr g ↦ before g
    ]
    back y (here h) = here h
    back y (unknown h) = unknown h

-- a class
class_waits : (classes : List ExportClass) (x : List ℕ) (c : ExportClass) (passed names : List (List ℕ))
    → class_named classes x ≡ Some c → Waits classes passed (x ∷ names) → Waits classes (x ∷ passed) (c.supers ++ names)
class_waits classes x c passed names is w z d p e y s = elim (one_cases x passed z p) [
  | inl same ↦ (
      let one : c ≡ d = some_same c d (class_named classes x) is (ap (λ k. class_named classes k) same ∙ e) in
      inr (one_left c.supers names y (ap (λ (k : ExportClass). is_one_of k.supers y) one ∙ s)))
  | inr g ↦ elim (w z d g e y s) [
    | inl h ↦ inl (one_more x passed y h)
    | inr h ↦ elim (one_cases x names y h) [
      | inl same ↦ inl (ap (λ k. is_one_of (x ∷ passed) k) (sym same)
          ∙ one_here x passed)
      | inr k ↦ inr (one_right c.supers names y k)
    ]
  ]
]

class_complete : (classes : List ExportClass) (x : List ℕ) (c : ExportClass) (passed names found : List (List ℕ))
    → class_named classes x ≡ Some c → Complete classes (x ∷ passed) (c.supers ++ names) found
    → Complete classes passed (x ∷ names) (c.name ∷ found)
class_complete classes x c passed names found is r = record {
  all = λ y h. elim (one_cases x names y h) [
    | inl same ↦ mine y same
    | inr g ↦ back y (r.all y (one_right c.supers names y g))
  ];
  closed = λ z d p e y s. elim p [
    | inl g ↦ back y (r.closed z d (inl (one_more x passed z g)) e y s)
    | inr g ↦ elim (one_cases c.name found z g) [
      | inl same ↦ back y (r.closed z d (inl (ap (λ k. is_one_of (x ∷ passed) k) (sym same ∙ called)
          ∙ one_here x passed)) e y s)
      | inr h ↦ back y (r.closed z d (inr h) e y s)
    ]
  ];
}
  where
    called : c.name ≡ x
    called = named_so classes x c is

    mine : (y : List ℕ) → x ≡ y → Settled classes passed (c.name ∷ found) y
    mine y same = here (ap (λ k. is_one_of (c.name ∷ found) k) (sym same ∙ sym called) ∙ one_here c.name found)

    back : (y : List ℕ) → Settled classes (x ∷ passed) found y → Settled classes passed (c.name ∷ found) y
    back y (before h) = elim (one_cases x passed y h) [ inl same ↦ mine y same | inr g ↦ before g ]
    back y (here h) = here (one_more c.name found y h)
    back y (unknown h) = unknown h

complete : (classes : List ExportClass) (n : ℕ) (passed names : List (List ℕ))
    → length names + weight passed classes ≤ n → Waits classes passed names
    → Complete classes passed names (names_of (upwards_from classes n passed names))
unfolding upwards_from
complete classes zero passed [] room w = nothing_left classes passed w
complete classes zero passed (x ∷ names) room w = absurd (omega (arith, room))
complete classes (suc n) passed [] room w = nothing_left classes passed w
complete classes (suc n) passed (x ∷ names) room w = go (complete classes n) (is_one_of passed x)
    (class_named classes x) refl refl
  where
    go : ((gone left : List (List ℕ)) → length left + weight gone classes ≤ n → Waits classes gone left
        → Complete classes gone left (names_of (upwards_from classes n gone left)))
        → (b : Bool) (o : Option ExportClass) → is_one_of passed x ≡ b → class_named classes x ≡ o
        → Complete classes passed (x ∷ names) (names_of (if b then upwards_from classes n passed names
        else with_class o names (λ more. upwards_from classes n (x ∷ passed) more)))
    go on true o f e = passed_complete classes x passed names _ f (on passed names (omega (arith, room))
        (passed_waits classes x passed names f w))
    go on false None f e = unknown_complete classes x passed names _ e (on (x ∷ passed) names (omega (
      arith,
      room,
      weight_less x passed classes,
    )) (unknown_waits classes x passed names e w))
    go on false (Some c) f e =
        let size = length-append c.supers names in
        class_complete classes x c passed names _ e (on (x ∷ passed) (c.supers ++ names) (omega (
          arith,
          room,
          size,
          weight_drop x passed classes c e f,
        )) (class_waits classes x c passed names e w))

pub all_found : (classes : List ExportClass) (names : List (List ℕ)) (y : List ℕ) (c : ExportClass)
    → IsAtOrAbove classes names y → class_named classes y ≡ Some c
    → is_one_of (map (λ (d : ExportClass). d.name) (upwards classes names)) y ≡ true
all_found classes names y c h e = elim (settled y h) [
  | before g ↦ absurd cc
  | here g ↦ g
  | unknown g ↦ absurd (no_some c (class_named classes y) g e)
]
  where
    whole : Complete classes [] names (names_of (upwards classes names))
    whole = complete classes (length names + super_count classes) [] names (omega (arith, weight_is classes))
        (λ x d p. absurd cc)

    settled : (z : List ℕ) → IsAtOrAbove classes names z → Settled classes [] (names_of (upwards classes names)) z
    settled z (at g) = whole.all z g
    settled z (above {x = x} d g is s) = elim (settled x g) [
      | before k ↦ absurd cc
      | here k ↦ whole.closed x d (inr k) is z s
      | unknown k ↦ absurd (no_some d (class_named classes x) k is)
    ]

-- ---- nothing else is found

found_above : (classes : List ExportClass) (start : List (List ℕ)) (n : ℕ) (passed names : List (List ℕ))
    → ((x : List ℕ) → is_one_of names x ≡ true → IsAtOrAbove classes start x)
    → (y : List ℕ) → is_one_of (names_of (upwards_from classes n passed names)) y ≡ true → IsAtOrAbove classes start y
    × ((c : ExportClass) × (class_named classes y ≡ Some c))
unfolding upwards_from
found_above classes start zero passed names h y g = absurd cc
found_above classes start (suc n) passed [] h y g = absurd cc
found_above classes start (suc n) passed (x ∷ names) h y g = go (λ gone left k. found_above classes start n gone left k
    y) (is_one_of passed x) (class_named classes x) refl g
  where
    rest : (z : List ℕ) → is_one_of names z ≡ true → IsAtOrAbove classes start z
    rest z k = h z (one_more x names z k)

    go : ((gone left : List (List ℕ)) → ((z : List ℕ) → is_one_of left z ≡ true → IsAtOrAbove classes start z)
        → is_one_of (names_of (upwards_from classes n gone left)) y ≡ true
        → IsAtOrAbove classes start y × ((c : ExportClass) × (class_named classes y ≡ Some c)))
        → (b : Bool) (o : Option ExportClass) → class_named classes x ≡ o
        → is_one_of (names_of (if b then upwards_from classes n passed names
        else with_class o names (λ more. upwards_from classes n (x ∷ passed) more))) y ≡ true
        → IsAtOrAbove classes start y × ((c : ExportClass) × (class_named classes y ≡ Some c))
    go on true o e k = on passed names rest k
    go on false None e k = on (x ∷ passed) names rest k
    go on false (Some c) e k =
        elim (one_cases c.name (names_of (upwards_from classes n (x ∷ passed) (c.supers ++ names))) y k) [
          | inl same ↦ (
              let is : x ≡ y = sym (named_so classes x c e) ∙ same in (
                subst (λ z. IsAtOrAbove classes start z) is (h x (one_here x names)),
                (c, ap (λ z. class_named classes z) (sym is) ∙ e),
              ))
          | inr f ↦ on (x ∷ passed) (c.supers ++ names)
              (λ z j. elim (one_either c.supers names z j) [
                | inl i ↦ above c (h x (one_here x names)) e i
                | inr i ↦ rest z i
              ]) f
        ]

pub found_is : (classes : List ExportClass) (names : List (List ℕ)) (y : List ℕ)
    → is_one_of (map (λ (d : ExportClass). d.name) (upwards classes names)) y ≡ true
    → IsAtOrAbove classes names y × ((c : ExportClass) × (class_named classes y ≡ Some c))
found_is classes names y g = found_above classes names (length names + super_count classes) [] names (λ x k. at k) y g

-- ---- each is the class of its name, and stands once

own_from : (classes : List ExportClass) (n : ℕ) (passed names : List (List ℕ))
    → AllByRecursion (λ c. class_named classes c.name ≡ Some c) (upwards_from classes n passed names)
unfolding upwards_from
own_from classes zero passed names = tt
own_from classes (suc n) passed [] = tt
own_from classes (suc n) passed (x ∷ names) = go (own_from classes n) (is_one_of passed x) (class_named classes x) refl
  where
    go : ((gone left : List (List ℕ)) → AllByRecursion (λ c. class_named classes c.name ≡ Some c)
        (upwards_from classes n gone left))
        → (b : Bool) (o : Option ExportClass) → class_named classes x ≡ o
        → AllByRecursion (λ c. class_named classes c.name ≡ Some c) (if b then upwards_from classes n passed names
        else with_class o names (λ more. upwards_from classes n (x ∷ passed) more))
    go on true o e = on passed names
    go on false None e = on (x ∷ passed) names
    go on false (Some c) e = (
      ap (λ z. class_named classes z) (named_so classes x c e) ∙ e,
      on (x ∷ passed) (c.supers
          ++ names),
    )

pub each_own : (classes : List ExportClass) (names : List (List ℕ)) → AllByRecursion (λ c. class_named classes c.name
    ≡ Some c) (upwards classes names)
each_own classes names = own_from classes (length names + super_count classes) [] names

record Once (passed found : List (List ℕ)) : Type 0 where
  new : (y : List ℕ) → is_one_of found y ≡ true → is_one_of passed y ≡ false
  apart : are_apart found ≡ true

put_once : (x name : List ℕ) (passed found : List (List ℕ)) → name ≡ x → is_one_of passed x ≡ false
    → Once (x ∷ passed) found → Once passed (name ∷ found)
put_once x name passed found is f r = record {
  new = λ y h. elim (one_cases name found y h) [
    | inl same ↦ ap (λ z. is_one_of passed z) (sym same ∙ is) ∙ f
    | inr g ↦ (or_parts (bytes_eq x y) (is_one_of passed y) (r.new y g)).1
  ];
  apart =
      let absent : is_one_of found name ≡ false = false_from_ne_true (is_one_of found name) (λ g. let not : is_one_of
      (x ∷ passed)
      name ≡ false = r.new name g in let yes : is_one_of (x ∷ passed) name ≡ true =
      ap (λ z. is_one_of (x ∷ passed) z) is ∙ one_here x passed in let clash : true ≡ false = sym yes ∙ not in cc)
      in
      ap (λ b. not b && are_apart found) absent ∙ r.apart;
}

once_from : (classes : List ExportClass) (n : ℕ) (passed names : List (List ℕ))
    → Once passed (names_of (upwards_from classes n passed names))
unfolding upwards_from
once_from classes zero passed names = record { new = λ y h. absurd cc; apart = refl }
once_from classes (suc n) passed [] = record { new = λ y h. absurd cc; apart = refl }
once_from classes (suc n) passed (x ∷ names) = go (once_from classes n) (is_one_of passed x) (class_named classes x)
    refl refl
  where
    go : ((gone left : List (List ℕ)) → Once gone (names_of (upwards_from classes n gone left)))
        → (b : Bool) (o : Option ExportClass) → is_one_of passed x ≡ b → class_named classes x ≡ o
        → Once passed (names_of (if b then upwards_from classes n passed names
        else with_class o names (λ more. upwards_from classes n (x ∷ passed) more)))
    go on true o f e = on passed names
    go on false None f e =
        let r = on (x ∷ passed) names in
        record { new = λ y h. (or_parts (bytes_eq x y) (is_one_of passed y) (r.new y h)).1; apart = r.apart }
    go on false (Some c) f e = put_once x c.name passed _ (named_so classes x c e) f (on (x ∷ passed) (c.supers
        ++ names))

pub stand_once : (classes : List ExportClass) (names : List (List ℕ))
    → are_apart (map (λ (c : ExportClass). c.name) (upwards classes names)) ≡ true
stand_once classes names = (once_from classes (length names + super_count classes) [] names).apart
