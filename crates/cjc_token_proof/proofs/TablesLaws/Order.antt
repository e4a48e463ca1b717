-- The order of Class and Descriptor has each class and interface of the package once, where no rule of classes and
-- names is broken.
use Rattle.std.proofs.Common.{◌≡◌, ℕ, zero, suc, ◌+◌, ◌<◌, ◌≤◌, refl, sym, ap, subst, ◌∙◌, arith, Bool, true, false}
use Rattle.std.proofs.Common.{List, [], ◌∷◌, ◌++◌, length, inl, inr, ⊎_elim}
use Rattle.std.specs.Prelude.{not, ◌&&◌, ◌||◌, ◌==◌, ◌⊎◌, Option, Some, None, slice_get, position, option_map}
use Rattle.std.specs.Prelude.{if◌then◌else◌}
use Rattle.std.specs.List.{list_any}
use Rattle.std.specs.Str.{bytes_eq}
use Rattle.std.proofs.lemmas.Bool.{eqb-true}
use Rattle.cjc_bytes.specs.AccessFlags.{is_interface}
use Rattle.cjc_bytes.proofs.Lists.{name_is, bytes_true}
use Rattle.cjc_bytes.proofs.Numbers.{like_number}
use Rattle.cjc_bytes.proofs.Gets.{get_behind}
use Rattle.cjc_vtable.proofs.ClassOrderStanding.{is_in-more}
use Rattle.cjc_tokens.proofs.Facts.{position-cons}
use Rattle.cjc_vtable.proofs.Filed.{Has, at_front, behind, has-get, get-has, has-either}
use Rattle.cjc_world.specs.Files.{Files}
use Rattle.cjc_world.specs.Classes.{Class, all_classes, class_named}
use Rattle.cjc_world.specs.Supertypes.{Lists, foremost, after}
use Rattle.cjc_world.specs.Order.{and_then, class_order, in_order, is_in, is_of_kind, lined_up, may_stand}
use Rattle.cjc_world.specs.Order.{names_waiting, next, waits}
use Rattle.cjc_world.proofs.Settled.{Settles, nothing, something, clear_settles, lists-behind}
use Rattle.cjc_world.proofs.Settled.{lists-front}
use Rattle.cjc_world.proofs.Unbroken.{unbroken_is_acyclic}
use Rattle.cjc_token_proof.specs.Components.OwnNames.{HaveOwnNames}
use Rattle.cjc_token_proof.specs.Tables.Sound.{IsSound}
use Rattle.cjc_token_proof.proofs.TablesLaws.Filed.{has-back, has-front, one_class}
use Rattle.cjc_token_proof.proofs.TablesLaws.Clean.{has_named, own_name}
use Rattle.cjc_vtable.proofs.ClassOrderStanding.{stands-waits}

pub any-lists : (test : List ℕ → Bool) (xs : List (List ℕ)) → list_any test xs ≡ true → (y : List ℕ) × Lists y xs
    × (test y ≡ true)
any-lists test [] e = cc
any-lists test (x ∷ xs) e = by (test x) refl e (any-lists test xs)
  where
    by : (b : Bool) → test x ≡ b → (b || list_any test xs) ≡ true → (list_any test xs ≡ true → (y : List ℕ) × Lists y xs
        × (test y ≡ true)) → (y : List ℕ) × Lists y (x ∷ xs) × (test y ≡ true)
    by true f g rest = (x, foremost, f)
    by false f g rest = let r = rest g in (r.0, after r.1, r.2)

-- ---- each name once

-- no later class has the name of an earlier one
pub Once : List Class → Type 0
Once [] = Unit {0}
Once (c ∷ cs) = ((d : Class) → Has d cs → d.name ≡ c.name → ⊥) × Once cs

once-position : (cs : List Class) (k : ℕ) (c : Class) → Once cs → slice_get cs k ≡ Some c
    → position (λ d. bytes_eq d.name c.name) cs ≡ Some k
unfolding Once
once-position [] k c o e = cc
once-position (x ∷ cs) zero c o e =
    let is : x ≡ c = cc in
    position-cons (λ (d : Class). bytes_eq d.name c.name) x cs ∙ ap (λ b. if b then Some 0
    else option_map suc (position (λ (d : Class). bytes_eq d.name c.name) cs))
    (ap (λ (v : Class). bytes_eq v.name c.name) is ∙ name_is c.name)
once-position (x ∷ cs) (suc k) c o e =
    position-cons (λ (d : Class). bytes_eq d.name c.name) x cs
    ∙ by (bytes_eq x.name c.name) refl (once-position cs k c o.1 e)
  where
    by : (b : Bool) → bytes_eq x.name c.name ≡ b → position (λ d. bytes_eq d.name c.name) cs ≡ Some k
        → (if b then Some 0 else option_map suc (position (λ (d : Class). bytes_eq d.name c.name) cs)) ≡ Some (suc k)
    by true f r = absurd (o.0 c (get-has c cs k e) (sym (bytes_true x.name c.name f)))
    by false f r = ap (option_map suc) r

once-append : (cs bs : List Class) → Once cs → Once bs → ((a b : Class) → Has a cs → Has b bs → b.name ≡ a.name → ⊥)
    → Once (cs ++ bs)
unfolding Once
once-append [] bs o p h = p
once-append (a ∷ cs) bs o p h = (
  λ d g e. ⊎_elim (λ i. o.0 d i e) (λ i. h a d at_front i e) (has-either d cs bs g),
  once-append cs bs o.1 p (λ x y i j. h x y (behind i) j),
)

-- ---- which stands next

waits-parts : (i : Bool) (placed : List ℕ) (c : Class) → waits i placed c ≡ true → (c.is_imported ≡ false)
    × (is_of_kind i c ≡ true) × (is_in placed c.number ≡ false)
waits-parts i placed c e = by c.is_imported (is_of_kind i c) (is_in placed c.number) e
  where
    by : (a b d : Bool) → (not a && b && not d) ≡ true → (a ≡ false) × (b ≡ true) × (d ≡ false)
    by false true false f = (refl, refl, refl)
    by false true true f = cc
    by false false d f = cc
    by true b d f = cc

waits-by : (i : Bool) (placed : List ℕ) (c : Class) → c.is_imported ≡ false → is_of_kind i c ≡ true
    → is_in placed c.number ≡ false → waits i placed c ≡ true
waits-by i placed c e f g = ap (λ b. not b && is_of_kind i c && not (is_in placed c.number)) e
    ∙ ap (λ b. b && not (is_in placed c.number)) f ∙ ap not g

next-in : (w : List Class) (i : Bool) (placed : List ℕ) (cs : List Class) (c : Class) → next w i placed cs ≡ Some c
    → Has c cs × (may_stand w i placed c ≡ true)
unfolding next
next-in w i placed [] c e = cc
next-in w i placed (d ∷ cs) c e = by (may_stand w i placed d) refl e (next-in w i placed cs c)
  where
    by : (b : Bool) → may_stand w i placed d ≡ b → (if b then Some d else next w i placed cs) ≡ Some c
        → (next w i placed cs ≡ Some c → Has c cs × (may_stand w i placed c ≡ true)) → Has c (d ∷ cs)
        × (may_stand w i placed c ≡ true)
    by true f g rest = let is : d ≡ c = cc in (
      subst (λ (q : Class). Has q (d ∷ cs)) is at_front,
      ap (may_stand w i placed) (sym is) ∙ f,
    )
    by false f g rest = let r = rest g in (behind r.0, r.1)

next-none : (w : List Class) (i : Bool) (placed : List ℕ) (cs : List Class) (c : Class) → next w i placed cs ≡ None
    → Has c cs → may_stand w i placed c ≡ true → ⊥
unfolding next
next-none w i placed [] c e h f = elim h [ ]
next-none w i placed (d ∷ cs) c e at_front f = let stands : (if may_stand w i placed c then Some c
    else next w i placed cs) ≡ Some c = ap (λ b. if b then Some c else next w i placed cs) f in cc
next-none w i placed (d ∷ cs) c e (behind h) f = by (may_stand w i placed d) e (λ g. next-none w i placed cs c g h f)
  where
    by : (b : Bool) → (if b then Some d else next w i placed cs) ≡ None → (next w i placed cs ≡ None → ⊥) → ⊥
    by true g rest = cc
    by false g rest = rest g

-- above each class that waits one may stand
standing : (w : List Class) (i : Bool) (placed : List ℕ) (n : ℕ) (x : List ℕ) → Settles w n x → (c : Class)
    → class_named w x ≡ Some c → waits i placed c ≡ true → (d : Class) × Has d w × (may_stand w i placed d ≡ true)
unfolding may_stand
standing w i placed zero x settles c e f = elim settles [ ]
standing w i placed (suc n) x (nothing none) c e f = cc
standing w i placed (suc n) x (something b named above) c e f =
    let is : b ≡ c = (let both : Some b ≡ Some c = sym named ∙ e in cc) in
    by (λ y l d m h. standing w i placed n y (above y (subst (λ (v : Class). Lists y (v.supers ++ v.interfaces))
    (sym is) l)) d m h)
    (list_any (λ y. names_waiting i placed (class_named w y)) c.supers)
    (list_any (λ y. names_waiting i placed (class_named w y)) c.interfaces) refl refl
  where
    test : List ℕ → Bool
    test y = names_waiting i placed (class_named w y)

    Goes : Type 0
    Goes = (y : List ℕ) → Lists y (c.supers ++ c.interfaces) → (d : Class) → class_named w y ≡ Some d
        → waits i placed d ≡ true → (d : Class) × Has d w × (may_stand w i placed d ≡ true)

    up : Goes → (y : List ℕ) → Lists y (c.supers ++ c.interfaces) → test y ≡ true → (d : Class) × Has d w
        × (may_stand w i placed d ≡ true)
    up more y l g = go (class_named w y) refl g
      where
        go : (o : Option Class) → class_named w y ≡ o → names_waiting i placed o ≡ true → (d : Class) × Has d w
            × (may_stand w i placed d ≡ true)
        go None m h = cc
        go (Some d) m h = more y l d m h

    by : Goes
        → (s j : Bool) → list_any test c.supers ≡ s → list_any test c.interfaces ≡ j → (d : Class) × Has d w
        × (may_stand w i placed d ≡ true)
    by more true j g h = let r = any-lists test c.supers g in up more r.0 (lists-front r.0 c.supers c.interfaces r.1)
        r.2
    by more false true g h = let r = any-lists test c.interfaces h
        in up more r.0 (lists-behind r.0 c.supers c.interfaces r.1) r.2
    by more false false g h = (
      c,
      has_named w x c e,
      ap (λ q. waits i placed c && not (q || list_any test c.interfaces)) g
          ∙ ap (λ q. waits i placed c && not q) h ∙ ap (λ q. q && true) f,
    )

-- ---- each place that is taken leaves one less

one : Bool → ℕ
one true = 1
one false = 0

-- how many wait among these
left : (i : Bool) (placed : List ℕ) → List Class → ℕ
left i placed [] = 0
left i placed (c ∷ cs) = one (waits i placed c) + left i placed cs

left-most : (i : Bool) (placed : List ℕ) (cs : List Class) → left i placed cs ≤ length cs
unfolding left one
left-most i placed [] = omega arith
left-most i placed (c ∷ cs) = by (waits i placed c) (left-most i placed cs)
  where
    by : (b : Bool) → left i placed cs ≤ length cs → one b + left i placed cs ≤ suc (length cs)
    by true h = omega arith
    by false h = omega arith

left-some : (i : Bool) (placed : List ℕ) (cs : List Class) (c : Class) → Has c cs → waits i placed c ≡ true
    → 0 < left i placed cs
unfolding left one
left-some i placed [] c h e = elim h [ ]
left-some i placed (d ∷ cs) c at_front e = let is : one (waits i placed c) ≡ 1 = ap one e in omega (arith, is)
left-some i placed (d ∷ cs) c (behind h) e = let r = left-some i placed cs c h e in omega (arith, r)

-- what waits behind a place waits before it
in-more : (placed : List ℕ) (k n : ℕ) → is_in (placed ++ k ∷ []) n ≡ false → (is_in placed n ≡ false)
    × ((k == n) ≡ false)
in-more placed k n e = by (is_in placed n) (k == n) (sym (is_in-more placed k n) ∙ e)
  where
    by : (a b : Bool) → (a || (b || false)) ≡ false → (a ≡ false) × (b ≡ false)
    by false false f = (refl, refl)
    by false true f = cc
    by true b f = cc

out-more : (placed : List ℕ) (k n : ℕ) → is_in placed n ≡ false → (k == n) ≡ false → is_in (placed ++ k ∷ []) n ≡ false
out-more placed k n e f = is_in-more placed k n ∙ ap (λ b. b || ((k == n) || false)) e ∙ ap (λ b. b || false) f

in-it : (placed : List ℕ) (k : ℕ) → is_in (placed ++ k ∷ []) k ≡ true
in-it placed k = is_in-more placed k k ∙ ap (λ b. is_in placed k || (b || false)) (like_number k) ∙ by (is_in placed k)
  where
    by : (b : Bool) → (b || true) ≡ true
    by true = refl
    by false = refl

fewer : (i : Bool) (placed : List ℕ) (k : ℕ) (c : Class) → one (waits i (placed ++ k ∷ []) c) ≤ one (waits i placed c)
unfolding one
fewer i placed k c = by (waits i (placed ++ k ∷ []) c) refl
  where
    by : (b : Bool) → waits i (placed ++ k ∷ []) c ≡ b → one b ≤ one (waits i placed c)
    by false e = omega arith
    by true e =
        let p = waits-parts i (placed ++ k ∷ []) c e in
        let is : one (waits i placed c) ≡ 1 = ap one (waits-by i placed c p.0 p.1 (in-more placed k c.number p.2).0) in
        omega (arith, is)

fewer-all : (i : Bool) (placed : List ℕ) (k : ℕ) (cs : List Class) → left i (placed ++ k ∷ []) cs ≤ left i placed cs
unfolding left
fewer-all i placed k [] = omega arith
fewer-all i placed k (c ∷ cs) = let a = fewer i placed k c in let r = fewer-all i placed k cs in omega (arith, a, r)

left-less : (i : Bool) (placed : List ℕ) (cs : List Class) (c : Class) → Has c cs → waits i placed c ≡ true
    → left i (placed ++ c.number ∷ []) cs < left i placed cs
unfolding left one
left-less i placed [] c h e = elim h [ ]
left-less i placed (d ∷ cs) c at_front e =
    let is : one (waits i placed c) ≡ 1 = ap one e in
    let no : one (waits i (placed ++ c.number ∷ []) c) ≡ 0 = ap one (ap (λ b. not c.is_imported && is_of_kind i c
    && not b) (in-it placed c.number) ∙ by (not c.is_imported) (is_of_kind i c)) in
    let r = fewer-all i placed c.number cs in
    omega (arith, is, no, r)
  where
    by : (a b : Bool) → (a && b && false) ≡ false
    by true true = refl
    by true false = refl
    by false b = refl
left-less i placed (d ∷ cs) c (behind h) e = let a = fewer i placed c.number d in let r = left-less i placed cs c h e
    in omega (arith, a, r)

-- ---- those that are lined up

module _ (w : List Class) (i : Bool) where
  lined-in : (n : ℕ) (placed : List ℕ) (c : Class) → Has c (lined_up w i n placed) → Has c w × (waits i placed c ≡ true)
  unfolding lined_up
  lined-in zero placed c h = elim h [ ]
  lined-in (suc n) placed c h = by (λ d g. lined-in n (placed ++ d.number ∷ []) c g) (next w i placed w) refl h
    where
      Rest : Type 0
      Rest = (d : Class) → Has c (lined_up w i n (placed ++ d.number ∷ [])) → Has c w
          × (waits i (placed ++ d.number ∷ []) c ≡ true)

      behind_it : Rest → (d : Class) → Has c (lined_up w i n (placed ++ d.number ∷ [])) → Has c w
          × (waits i placed c ≡ true)
      behind_it more d g =
          let r = more d g in
          let p = waits-parts i (placed ++ d.number ∷ []) c r.1 in
          (r.0, waits-by i placed c p.0 p.1 (in-more placed d.number c.number p.2).0)

      go : (d : Class) (cs : List Class) → next w i placed w ≡ Some d → (Has c cs → Has c w × (waits i placed c ≡ true))
          → Has c (d ∷ cs) → Has c w × (waits i placed c ≡ true)
      go d cs e rest at_front = let r = next-in w i placed w c e in (r.0, stands-waits w i placed c r.1)
      go d cs e rest (behind g) = rest g

      by : Rest → (o : Option Class) → next w i placed w ≡ o
          → Has c (and_then o (λ c. lined_up w i n (placed ++ c.number ∷ []))) → Has c w × (waits i placed c ≡ true)
      by more None e g = elim g [ ]
      by more (Some d) e g = go d (lined_up w i n (placed ++ d.number ∷ [])) e (behind_it more d) g

  lined-once : (n : ℕ) (placed : List ℕ) → ((c d : Class) → Has c w → Has d w → c.name ≡ d.name → c.number ≡ d.number)
      → Once (lined_up w i n placed)
  unfolding lined_up Once
  lined-once zero placed names = tt
  lined-once (suc n) placed names = by (next w i placed w) refl (λ d. lined-once n (placed ++ d.number ∷ []) names)
    where
      by : (o : Option Class) → next w i placed w ≡ o → ((d : Class) → Once (lined_up w i n (placed ++ d.number ∷ [])))
          → Once (and_then o (λ c. lined_up w i n (placed ++ c.number ∷ [])))
      by None e rest = tt
      by (Some d) e rest = (λ c g same. clash c g same, rest d)
        where
          clash : (c : Class) → Has c (lined_up w i n (placed ++ d.number ∷ [])) → c.name ≡ d.name → ⊥
          clash c g same =
              let r = lined-in n (placed ++ d.number ∷ []) c g in
              let p = waits-parts i (placed ++ d.number ∷ []) c r.1 in
              let number = names c d r.0 (next-in w i placed w d e).0 same in
              let here : is_in (placed ++ d.number ∷ []) c.number ≡ true = ap (is_in (placed ++ d.number ∷ [])) number
              ∙ in-it placed d.number in
              cc

  lined-has : (n : ℕ) (placed : List ℕ) (c : Class) → ((x : List ℕ) → Settles w (suc (length w)) x)
      → ((c d : Class) → Has c w → Has d w → c.is_imported ≡ false → d.is_imported ≡ false → c.number ≡ d.number
      → c ≡ d)
      → class_named w c.name ≡ Some c → Has c w → left i placed w ≤ n → waits i placed c ≡ true
      → Has c (lined_up w i n placed)
  unfolding lined_up
  lined-has zero placed c settles one_of named h le e = let some = left-some i placed w c h e
      in absurd (omega (arith, some, le))
  lined-has (suc n) placed c settles one_of named h le e = by (λ d l f. lined-has n (placed ++ d.number ∷ []) c settles
      one_of named h l f) (next w i placed w) refl
    where
      Rest : Type 0
      Rest = (d : Class) → left i (placed ++ d.number ∷ []) w ≤ n → waits i (placed ++ d.number ∷ []) c ≡ true
          → Has c (lined_up w i n (placed ++ d.number ∷ []))

      by : Rest → (o : Option Class) → next w i placed w ≡ o
          → Has c (and_then o (λ c. lined_up w i n (placed ++ c.number ∷ [])))
      by more None f = let r = standing w i placed (suc (length w)) c.name (settles c.name) c named e
          in absurd (next-none w i placed w r.0 f r.1 r.2)
      by more (Some d) f = go (d.number == c.number) refl
        where
          at : Has d w × (may_stand w i placed d ≡ true)
          at = next-in w i placed w d f

          d_waits : waits i placed d ≡ true
          d_waits = stands-waits w i placed d at.1

          go : (b : Bool) → (d.number == c.number) ≡ b → Has c (d ∷ lined_up w i n (placed ++ d.number ∷ []))
          go true g =
              let is = one_of d c at.0 h (waits-parts i placed d d_waits).0 (waits-parts i placed c e).0
              (eqb-true d.number c.number g) in
              subst (λ (q : Class). Has q (d ∷ lined_up w i n (placed ++ d.number ∷ []))) is at_front
          go false g =
              let p = waits-parts i placed c e in
              let less = left-less i placed w d at.0 d_waits in
              behind (more d (omega (arith, less, le)) (waits-by i (placed ++ d.number ∷ []) c p.0 p.1
              (out-more placed d.number c.number p.2 g)))

  -- with none placed, each class of the kind is lined up
  pub all-lined : (c : Class) → ((x : List ℕ) → Settles w (suc (length w)) x) → ((c d : Class) → Has c w → Has d w
      → c.is_imported ≡ false → d.is_imported ≡ false → c.number ≡ d.number → c ≡ d)
      → class_named w c.name ≡ Some c → Has c w → c.is_imported ≡ false → is_of_kind i c ≡ true
      → Has c (lined_up w i (length w) [])
  all-lined c settles one_of named h e f = lined-has (length w) [] c settles one_of named h (left-most i [] w)
      (waits-by i [] c e f refl)

-- a superclass of the package stands before its subclass
before_sub : (w : List Class) (i : Bool) → ((c d : Class) → Has c w → Has d w → c.is_imported ≡ false
    → d.is_imported ≡ false → c.number ≡ d.number → c ≡ d)
    → (n : ℕ) (placed : List ℕ) (k : ℕ) (c : Class) → slice_get (lined_up w i n placed) k ≡ Some c
    → (y : List ℕ) (d : Class) → Lists y c.supers → class_named w y ≡ Some d → d.is_imported ≡ false
    → is_of_kind i d ≡ true
    → (is_in placed d.number ≡ true) ⊎ ((j : ℕ) × (j < k) × (slice_get (lined_up w i n placed) j ≡ Some d))
unfolding lined_up may_stand
before_sub w i one_of zero placed k c e y d l named own kind = cc
before_sub w i one_of (suc n) placed k c e y d l named own kind =
    by (next w i placed w) refl e (λ b k f. before_sub w i one_of n (placed ++ b.number ∷ []) k c f y d l named own
    kind)
  where
    Rest : Type 0
    Rest = (b : Class) (k : ℕ) → slice_get (lined_up w i n (placed ++ b.number ∷ [])) k ≡ Some c
        → (is_in (placed ++ b.number ∷ []) d.number ≡ true)
        ⊎ ((j : ℕ) × (j < k) × (slice_get (lined_up w i n (placed ++ b.number ∷ [])) j ≡ Some d))

    -- what stands next waits for none
    placed_one : (b : Class) → next w i placed w ≡ Some b → b ≡ c → is_in placed d.number ≡ true
    placed_one b f is =
        let stands = (next-in w i placed w b f).1 in
        go (list_any (λ x. names_waiting i placed (class_named w x)) c.supers) refl
        (list_any (λ x. names_waiting i placed (class_named w x)) c.interfaces) (waits i placed c)
        (ap (may_stand w i placed) (sym is) ∙ stands)
      where
        none : (xs : List (List ℕ)) → list_any (λ x. names_waiting i placed (class_named w x)) xs ≡ false → Lists y xs
            → names_waiting i placed (class_named w y) ≡ false
        none [] g m = elim m [ ]
        none (x ∷ xs) g m = at (names_waiting i placed (class_named w x)) refl g (none xs) m
          where
            tail : (names_waiting i placed (class_named w x) ≡ false)
                → (Lists y xs → names_waiting i placed (class_named w y) ≡ false) → (z : List ℕ) → z ≡ y
                → Lists z (x ∷ xs) → names_waiting i placed (class_named w y) ≡ false
            tail h rest z same foremost = ap (λ v. names_waiting i placed (class_named w v)) (sym same) ∙ h
            tail h rest z same (after o) = rest (subst (λ v. Lists v xs) same o)

            at : (b : Bool) → names_waiting i placed (class_named w x) ≡ b
                → (b || list_any (λ x. names_waiting i placed (class_named w x)) xs) ≡ false
                → (list_any (λ x. names_waiting i placed (class_named w x)) xs ≡ false → Lists y xs
                → names_waiting i placed (class_named w y) ≡ false) → Lists y (x ∷ xs)
                → names_waiting i placed (class_named w y) ≡ false
            at true h g rest o = cc
            at false h g rest o = tail h (rest g) y refl o

        told : (b : Bool) → (not d.is_imported && is_of_kind i d && not b) ≡ false → b ≡ true
        told b g = over b (sym (ap (λ q. not q && is_of_kind i d && not b) own ∙ ap (λ q. q && not b) kind) ∙ g)
          where
            over : (b : Bool) → not b ≡ false → b ≡ true
            over true h = refl
            over false h = cc

        go : (s : Bool) → list_any (λ x. names_waiting i placed (class_named w x)) c.supers ≡ s → (j a : Bool)
            → (a && not (s || j)) ≡ true → is_in placed d.number ≡ true
        go true g j true h = cc
        go true g j false h = cc
        go false g j a h = told (is_in placed d.number) (sym (ap (names_waiting i placed) named) ∙ none c.supers g l)

    later : (b : Class) (k : ℕ) → next w i placed w ≡ Some b → (is_in (placed ++ b.number ∷ []) d.number ≡ true)
        ⊎ ((j : ℕ) × (j < k) × (slice_get (lined_up w i n (placed ++ b.number ∷ [])) j ≡ Some d))
        → (is_in placed d.number ≡ true) ⊎ ((j : ℕ) × (j < suc k)
        × (slice_get (b ∷ lined_up w i n (placed ++ b.number ∷ [])) j ≡ Some d))
    later b k f (inr r) = let lt = r.1 in inr (suc r.0, omega (arith, lt), r.2)
    later b k f (inl g) = go (is_in placed d.number) refl (b.number == d.number) refl
        (sym (is_in-more placed b.number d.number) ∙ g)
      where
        go : (p : Bool) → is_in placed d.number ≡ p → (q : Bool) → (b.number == d.number) ≡ q
            → (p || (q || false)) ≡ true → (is_in placed d.number ≡ true) ⊎ ((j : ℕ) × (j < suc k)
            × (slice_get (b ∷ lined_up w i n (placed ++ b.number ∷ [])) j ≡ Some d))
        go true h q u v = inl h
        go false h true u v =
            let at = next-in w i placed w b f in
            let is = one_of b d at.0 (has_named w y d named) (waits-parts i placed b (stands-waits w i placed b at.1)).0
            own (eqb-true b.number d.number u) in
            inr (0, omega arith, ap (λ (v : Class). Some v) is)
        go false h false u v = cc

    by : (o : Option Class) → next w i placed w ≡ o
        → slice_get (and_then o (λ b. lined_up w i n (placed ++ b.number ∷ []))) k ≡ Some c → Rest
        → (is_in placed d.number ≡ true)
        ⊎ ((j : ℕ) × (j < k) × (slice_get (and_then o (λ b. lined_up w i n (placed ++ b.number ∷ []))) j ≡ Some d))
    by None f g rest = cc
    by (Some b) f g rest = at k g
      where
        at : (k : ℕ) → slice_get (b ∷ lined_up w i n (placed ++ b.number ∷ [])) k ≡ Some c
            → (is_in placed d.number ≡ true)
            ⊎ ((j : ℕ) × (j < k) × (slice_get (b ∷ lined_up w i n (placed ++ b.number ∷ [])) j ≡ Some d))
        at zero h = let is : b ≡ c = cc in inl (placed_one b f is)
        at (suc k) h = later b k f (rest b k h)

-- ---- the whole order

module _ (list : List ℕ) (files : Files) (sound : IsSound list files) where
  abbrev w : List Class
  w = all_classes files

  one_named : (c d : Class) → Has c w → Has d w → c.name ≡ d.name → c ≡ d
  one_named c d h g e =
      let both : Some c ≡ Some d = sym (own_name list files sound c h) ∙ ap (class_named w) e
      ∙ own_name list files sound d g in
      cc

  pub kind-in : (i : Bool) (c : Class) → Has c (in_order w i) → Has c w × (c.is_imported ≡ false)
      × (is_of_kind i c ≡ true)
  unfolding in_order
  kind-in i c h = let r = lined-in w i (length w) [] c h in let p = waits-parts i [] c r.1 in (r.0, p.0, p.1)

  pub kind-has : (i : Bool) (c : Class) → Has c w → c.is_imported ≡ false → is_of_kind i c ≡ true → Has c (in_order w i)
  unfolding in_order
  kind-has i c h e f =
      all-lined w i c (λ x. clear_settles w x (λ z way far. unbroken_is_acyclic list files sound.unbroken z far))
      (λ a b p q r s t. one_class files sound.classes sound.exports a b p q (r ∙ sym s) t)
      (own_name list files sound c h) h e f

  -- a class of the order is one of the package
  pub order_in : (c : Class) → Has c (class_order w) → Has c w × (c.is_imported ≡ false)
  unfolding class_order
  order_in c h = ⊎_elim (λ g. let r = kind-in true c g in (r.0, r.1)) (λ g. let r = kind-in false c g
      in (r.0, r.1)) (has-either c (in_order w true) (in_order w false) h)

  -- each class and interface of the package is in it
  pub order_has : (c : Class) → Has c w → c.is_imported ≡ false → Has c (class_order w)
  unfolding class_order
  order_has c h e = by (is_interface c.flags) refl
    where
      by : (b : Bool) → is_interface c.flags ≡ b → Has c (in_order w true ++ in_order w false)
      by true f = has-front c (in_order w true) (in_order w false) (kind-has true c h e f)
      by false f = has-back c (in_order w true) (in_order w false) (kind-has false c h e (ap not f))

  pub order_once : Once (class_order w)
  unfolding class_order in_order
  order_once =
      let names = λ (c d : Class) (h : Has c w) (g : Has d w) (e : c.name ≡ d.name). ap (λ (v : Class). v.number)
      (one_named c d h g e) in
      once-append (in_order w true) (in_order w false) (lined-once w true (length w) [] names)
      (lined-once w false (length w) [] names) (λ a b h g e. apart a b h g e)
    where
      apart : (a b : Class) → Has a (in_order w true) → Has b (in_order w false) → b.name ≡ a.name → ⊥
      apart a b h g e =
          let r = kind-in true a h in
          let s = kind-in false b g in
          let is : b ≡ a = one_named b a s.0 r.0 e in
          let no : not (is_interface a.flags) ≡ true = ap (λ (v : Class). not (is_interface v.flags)) (sym is) ∙ s.2 in
          let yes_it : not (is_interface a.flags) ≡ false = ap not r.2 in
          cc

  -- no two have one name
  pub own_names : HaveOwnNames (class_order w)
  own_names k c e = once-position (class_order w) k c order_once e

  -- the number of a class is its place
  pub one_number : (j k : ℕ) (c : Class) → slice_get (class_order w) j ≡ Some c → slice_get (class_order w) k ≡ Some c
      → j ≡ k
  one_number j k c e f = let both : Some j ≡ Some k = sym (own_names j c e) ∙ own_names k c f in cc

  -- a superclass of the package has a lower number
  pub super_before : (j k : ℕ) (c d : Class) (y : List ℕ) → slice_get (class_order w) k ≡ Some c
      → slice_get (class_order w) j ≡ Some d → is_interface c.flags ≡ false → is_interface d.flags ≡ false
      → Lists y c.supers → class_named w y ≡ Some d → j < k
  unfolding class_order in_order
  super_before j k c d y e f not_c not_d l named =
      let a = order_in c (get-has c (class_order w) k e) in
      let b = order_in d (get-has d (class_order w) j f) in
      let m = has-get c (in_order w false) (kind-has false c a.0 a.1 (ap not not_c)) in
      let r = before_sub w false (λ u v p q s t x. one_class files sound.classes sound.exports u v p q (s ∙ sym t) x)
      (length w) [] m.0 c m.1 y d l named b.1 (ap not not_d) in
      by m.0 m.1 r
    where
      by : (m : ℕ) → slice_get (in_order w false) m ≡ Some c → (is_in [] d.number ≡ true)
          ⊎ ((i : ℕ) × (i < m) × (slice_get (in_order w false) i ≡ Some d)) → j < k
      by m g (inl h) = cc
      by m g (inr r) =
          let n = length (in_order w true) in
          let at_c = one_number (n + m) k c (get_behind (in_order w true) (in_order w false) m ∙ g) e in
          let at_d = one_number (n + r.0) j d (get_behind (in_order w true) (in_order w false) r.0 ∙ r.2) f in
          let lt = r.1 in
          omega (arith, at_c, at_d, lt)
