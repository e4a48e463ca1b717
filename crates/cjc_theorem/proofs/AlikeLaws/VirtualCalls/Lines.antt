-- Public or protected methods and package-visible ones at or above a class, and what is found and selected from there.
use Rattle.std.proofs.Common.{◌≡◌, ℕ, refl, sym, ap, subst, ◌∙◌, Bool, true, false, List, [], ◌∷◌}
use Rattle.std.specs.Prelude.{◌||◌, Option, Some, None, if◌then◌else◌}
use Rattle.cjc_bytes.specs.AccessFlags.{is_interface}
use Rattle.cjc_tokens.specs.Lines.{Declared, Imported, line_in, line_of}
use Rattle.cjc_tokens.specs.Members.{In, Signature, all_methods, chosen, first_of, has, is_hidden, is_shown, later}
use Rattle.cjc_tokens.specs.Members.{same, signature_of, signatures}
use Rattle.cjc_tokens.specs.Slots.{slots, token}
use Rattle.cjc_tokens.proofs.Facts.{chosen-In, chosen-passes, same-refl}
use Rattle.cjc_tokens.proofs.Held.{shown-virtual}
use Rattle.cjc_tokens.proofs.Walks.{supertypes-known}
use Rattle.cjc_world.specs.Upwards.{OnLine, here, up}
use Rattle.cjc_world.proofs.UpwardLaws.Lines.{line_listed}
use Rattle.cjc_vtable.specs.Calls.{IsTold, any_method, finds_hidden, is_special, passes, selects, selects_shown}
use Rattle.cjc_vtable.specs.Laws.{KeepsRules, Under, below, itself}
use Rattle.cjc_vtable.proofs.Agrees.{hidden-virtual, hidden_selects, shown-has_slot, virtual_plain}
use Rattle.cjc_vtable.proofs.Calls.{In-behind, In-front, token-some, chosen-any_none, keeps_shown, keeps_hidden}
use Rattle.cjc_vtable.proofs.Worlds.{line_of-declared, told-class}
use Rattle.cjc_world.specs.Added.{added}
use Rattle.cjc_world.specs.Classes.{Class, Member, class_named}
use Rattle.cjc_world.specs.Supertypes.{AreSupertypes, Supertypes, Lists, after, foremost, supertypes, upwards}
use Rattle.cjc_theorem.proofs.AlikeLaws.VirtualCalls.Chosen.{any_selects, has_methods}
use Rattle.cjc_theorem.proofs.AlikeLaws.VirtualCalls.Chosen.{hidden_or_shown, never_both}

-- what stands on the line of a superclass stands on the line of the class
pub under_on : (w : List Class) (x y : List ℕ) (d : Class) → Under w x y → OnLine w y d → OnLine w x d
under_on w x y d itself on = on
under_on w x y d (below {y = z} c e l rest) on = up c e l (under_on w z y d rest on)

-- a class at or above another has a public or protected method of the signature, of the package the first that is
-- selected
pub record HasShown (w : List Class) (x : List ℕ) (s : Signature) : Type 0 where
  pub class : Class
  pub on : OnLine w x class
  pub method : Member
  pub among : In method class.methods
  pub shown : is_shown method ≡ true
  pub one : signature_of method ≡ s
  pub is_first : class.is_imported ≡ false → chosen selects s class.methods ≡ Some method

-- a class of the package has a package-visible one, the first of any kind
pub record HasHidden (w : List Class) (x : List ℕ) (s : Signature) : Type 0 where
  pub class : Class
  pub on : OnLine w x class
  pub own : class.is_imported ≡ false
  pub method : Member
  pub hidden_one : is_hidden method ≡ true
  pub is_first : chosen any_method s class.methods ≡ Some method

pub shown_below : (w : List Class) (x y : List ℕ) (s : Signature) → Under w x y → HasShown w y s → HasShown w x s
shown_below w x y s under h = record {
  class = h.class;
  on = under_on w x y h.class under h.on;
  method = h.method;
  among = h.among;
  shown = h.shown;
  one = h.one;
  is_first = h.is_first;
}

pub hidden_below : (w : List Class) (x y : List ℕ) (s : Signature) → Under w x y → HasHidden w y s → HasHidden w x s
hidden_below w x y s under h = record {
  class = h.class;
  on = under_on w x y h.class under h.on;
  own = h.own;
  method = h.method;
  hidden_one = h.hidden_one;
  is_first = h.is_first;
}

-- Of a method of a class of the package and one of the package above it that is neither private nor static, with one
-- name and descriptor, neither is.
abbrev pub KeepsKinds : List Class → Type 0
KeepsKinds w =
    (x y : List ℕ) (c d : Class) (m n : Member) → class_named w x ≡ Some c → c.is_imported ≡ false → Lists y c.supers
    → OnLine w y d → d.is_imported ≡ false → In m c.methods → In n d.methods → signature_of m ≡ signature_of n
    → is_special (signature_of m) ≡ false → selects n ≡ true → selects m ≡ true

has_shown : (s : Signature) (ms : List Member) (m : Member) → In m ms → is_shown m ≡ true → signature_of m ≡ s
    → has (signatures is_shown ms) s ≡ true
has_shown s [] m i shown is = elim i [ ]
has_shown s (n ∷ ms) m first_of shown is =
    ap (λ b. has (if b then signature_of n ∷ signatures is_shown ms else signatures is_shown ms) s) shown
    ∙ ap (λ q. same q s || has (signatures is_shown ms) s) is ∙ ap (λ q. q || has (signatures is_shown ms) s)
    (same-refl s)
has_shown s (n ∷ ms) m (later i) shown is = by (is_shown n) (has_shown s ms m i shown is)
  where
    or_true : (b : Bool) → (b || true) ≡ true
    or_true true = refl
    or_true false = refl

    by : (b : Bool) → has (signatures is_shown ms) s ≡ true → has (if b then signature_of n ∷ signatures is_shown ms
        else signatures is_shown ms) s ≡ true
    by true h = ap (λ q. same (signature_of n) s || q) h ∙ or_true (same (signature_of n) s)
    by false h = h

module _ (w : List Class) (are_supertypes : (xs : List (List ℕ)) → AreSupertypes w xs (supertypes w xs))
    (one_supertypes : (xs : List (List ℕ)) (j k : Supertypes) → AreSupertypes w xs j → AreSupertypes w xs k
    → j ≡ k) (rules : KeepsRules w) where
  line_imported : (x : List ℕ) (c : Class) → class_named w x ≡ Some c → c.is_imported ≡ true
      → line_of w x ≡ Imported (c ∷ upwards (supertypes w c.supers))
  line_imported x c e f = ap (line_in w) (supertypes-known w are_supertypes one_supertypes x c e)
      ∙ ap (λ b. if b then Imported (c ∷ upwards (supertypes w c.supers))
      else Declared c (added w c) (line_in w (supertypes w c.supers))) f

  -- a class of the package lists one superclass
  line_up : (x y : List ℕ) (c : Class) → class_named w x ≡ Some c → c.is_imported ≡ false → Lists y c.supers
      → line_of w x ≡ Declared c (added w c) (line_of w y)
  line_up x y c e own l =
      let s = rules.single x c e own in
      let at : y ≡ s.0 = only y s.0 (subst (Lists y) s.1 l) in
      line_of-declared w are_supertypes one_supertypes rules x c e own
      ∙ ap (λ q. Declared c (added w c) (line_in w (supertypes w q))) (s.1 ∙ ap (λ q. q ∷ []) (sym at))
    where
      only : (y s : List ℕ) → Lists y (s ∷ []) → y ≡ s
      only y s foremost = refl
      only y s (after l) = elim l [ ]

  above_in : (y : List ℕ) (c d : Class) (m : Member) → Lists y c.supers → OnLine w y d → In m d.methods
      → In m (all_methods (upwards (supertypes w c.supers)))
  above_in y c d m l on i = has_methods d (upwards (supertypes w c.supers)) m (line_listed w y c.supers
      (supertypes w c.supers) d (are_supertypes c.supers) l on) i

  -- ---- where a public or protected one is

  -- selection gives one (305)
  selects_one : (s : Signature) (x : List ℕ) (d : Class) (n : Member) → OnLine w x d → In n d.methods
      → is_shown n ≡ true → signature_of n ≡ s → (d.is_imported ≡ false → chosen selects s d.methods ≡ Some n)
      → selects_shown (line_of w x) s ≡ true
  selects_one s x d n (here e) i shown one first = by d.is_imported refl
    where
      by : (b : Bool) → d.is_imported ≡ b → selects_shown (line_of w x) s ≡ true
      by true f = ap (λ l. selects_shown l s) (line_imported x d e f)
          ∙ has_shown s (all_methods (d ∷ upwards (supertypes w d.supers))) n
          (In-front n d.methods (all_methods (upwards (supertypes w d.supers))) i) shown one
      by false f =
          let above = line_in w (supertypes w d.supers) in
          ap (λ l. selects_shown l s) (line_of-declared w are_supertypes one_supertypes rules x d e f)
          ∙ ap (λ o. passes is_shown o (selects_shown above s)) (first f) ∙ shown
  selects_one s x d n (up {s = y} c e l rest) i shown one first =
      by c.is_imported refl (selects_one s y d n rest i shown one first)
    where
      by : (b : Bool) → c.is_imported ≡ b → selects_shown (line_of w y) s ≡ true → selects_shown (line_of w x) s ≡ true
      by true f above =
          ap (λ l. selects_shown l s) (line_imported x c e f)
          ∙ has_shown s (all_methods (c ∷ upwards (supertypes w c.supers))) n (In-behind n c.methods
          (all_methods (upwards (supertypes w c.supers))) (above_in y c d n l rest i)) shown one
      by false f above = ap (λ l. selects_shown l s) (line_up x y c e f l) ∙ own_one (chosen selects s c.methods) refl
        where
          own_one : (o : Option Member) → chosen selects s c.methods ≡ o → passes is_shown (chosen selects s c.methods)
              (selects_shown (line_of w y) s) ≡ true
          own_one None g = ap (λ o. passes is_shown o (selects_shown (line_of w y) s)) g ∙ above
          own_one (Some q) g =
              let is = chosen-passes selects s c.methods q g in
              let alike = is.0 ∙ sym one in
              let plain = ap is_special alike ∙ virtual_plain n (shown-virtual n shown) in
              ap (λ o. passes is_shown o (selects_shown (line_of w y) s)) g
              ∙ keeps_shown q n is.1 shown plain (rules.access x c q n e f (chosen-In selects s c.methods q g)
              (above_in y c d n l rest i) alike plain)

  pub shown_selected : (x : List ℕ) (s : Signature) → HasShown w x s → selects_shown (line_of w x) s ≡ true
  shown_selected x s h = selects_one s x h.class h.method h.on h.among h.shown h.one h.is_first

  -- none that is package-visible is found (305)
  finds_none : (s : Signature) (x : List ℕ) (d : Class) (n : Member) → OnLine w x d → In n d.methods → is_shown n ≡ true
      → signature_of n ≡ s → (d.is_imported ≡ false → chosen selects s d.methods ≡ Some n)
      → finds_hidden (line_of w x) s ≡ false
  finds_none s x d n (here e) i shown one first = by d.is_imported refl
    where
      by : (b : Bool) → d.is_imported ≡ b → finds_hidden (line_of w x) s ≡ false
      by true f = ap (λ l. finds_hidden l s) (line_imported x d e f)
      by false f = ap (λ l. finds_hidden l s) (line_of-declared w are_supertypes one_supertypes rules x d e f)
          ∙ own_one (chosen any_method s d.methods) refl
        where
          own_one : (o : Option Member) → chosen any_method s d.methods ≡ o
              → passes is_hidden (chosen any_method s d.methods) (finds_hidden (line_in w (supertypes w d.supers)) s)
              ≡ false
          own_one None g = let clash : Some n ≡ None = sym (first f) ∙ chosen-any_none s d.methods g in absurd cc
          own_one (Some q) g = ap (λ o. passes is_hidden o (finds_hidden (line_in w (supertypes w d.supers)) s)) g
              ∙ off (is_hidden q) refl
            where
              off : (b : Bool) → is_hidden q ≡ b → is_hidden q ≡ false
              off false h = h
              off true h =
                  let both : Some q ≡ Some n = sym (any_selects s d.methods q g (hidden_selects q h)) ∙ first f in
                  let same_one : q ≡ n = cc in
                  hidden_or_shown q h (ap is_shown same_one ∙ shown)
  finds_none s x d n (up {s = y} c e l rest) i shown one first =
      by c.is_imported refl (finds_none s y d n rest i shown one first)
    where
      by : (b : Bool) → c.is_imported ≡ b → finds_hidden (line_of w y) s ≡ false → finds_hidden (line_of w x) s ≡ false
      by true f above = ap (λ l. finds_hidden l s) (line_imported x c e f)
      by false f above = ap (λ l. finds_hidden l s) (line_up x y c e f l) ∙ own_one (chosen any_method s c.methods) refl
        where
          own_one : (o : Option Member) → chosen any_method s c.methods ≡ o
              → passes is_hidden (chosen any_method s c.methods) (finds_hidden (line_of w y) s) ≡ false
          own_one None g = ap (λ o. passes is_hidden o (finds_hidden (line_of w y) s)) g ∙ above
          own_one (Some q) g = ap (λ o. passes is_hidden o (finds_hidden (line_of w y) s)) g ∙ off (is_hidden q) refl
            where
              off : (b : Bool) → is_hidden q ≡ b → is_hidden q ≡ false
              off false h = h
              off true h =
                  let is = chosen-passes any_method s c.methods q g in
                  let alike = is.0 ∙ sym one in
                  let plain = ap is_special alike ∙ virtual_plain n (shown-virtual n shown) in
                  never_both q n h shown (rules.access x c q n e f (chosen-In any_method s c.methods q g)
                  (above_in y c d n l rest i) alike plain)

  pub shown_alone : (x : List ℕ) (s : Signature) → HasShown w x s → finds_hidden (line_of w x) s ≡ false
  shown_alone x s h = finds_none s x h.class h.method h.on h.among h.shown h.one h.is_first

  -- ---- where a package-visible one is, it is found (305 and 306)

  finds_one : KeepsKinds w → (s : Signature) (x : List ℕ) (d : Class) (n : Member) → OnLine w x d
      → d.is_imported ≡ false → is_hidden n ≡ true → chosen any_method s d.methods ≡ Some n
      → finds_hidden (line_of w x) s ≡ true
  finds_one kinds s x d n (here e) own hid first =
      ap (λ l. finds_hidden l s) (line_of-declared w are_supertypes one_supertypes rules x d e own)
      ∙ ap (λ o. passes is_hidden o (finds_hidden (line_in w (supertypes w d.supers)) s)) first ∙ hid
  finds_one kinds s x d n (up {s = y} c e l rest) own hid first =
      by c.is_imported refl (finds_one kinds s y d n rest own hid first)
    where
      by : (b : Bool) → c.is_imported ≡ b → finds_hidden (line_of w y) s ≡ true → finds_hidden (line_of w x) s ≡ true
      by true f above = absurd (far y l rest)
        where
          far : (y : List ℕ) → Lists y c.supers → OnLine w y d → ⊥
          far y l on = below_far x y c e f l on
            where
              below_far : (x y : List ℕ) (c : Class) → class_named w x ≡ Some c → c.is_imported ≡ true
                  → Lists y c.supers → OnLine w y d → ⊥
              below_far x y c e f l (here g) = let clash : true ≡ false = sym (rules.apart x y c d e f l g) ∙ own in cc
              below_far x y c e f l (up {s = z} b g k on) = below_far y z b g (rules.apart x y c b e f l g) k on
      by false f above = ap (λ l. finds_hidden l s) (line_up x y c e f l) ∙ own_one (chosen any_method s c.methods) refl
        where
          own_one : (o : Option Member) → chosen any_method s c.methods ≡ o
              → passes is_hidden (chosen any_method s c.methods) (finds_hidden (line_of w y) s) ≡ true
          own_one None g = ap (λ o. passes is_hidden o (finds_hidden (line_of w y) s)) g ∙ above
          own_one (Some q) g =
              let is = chosen-passes any_method s c.methods q g in
              let of = chosen-passes any_method s d.methods n first in
              let alike = is.0 ∙ sym of.0 in
              let plain = ap is_special alike ∙ virtual_plain n (hidden-virtual n hid) in
              let at = chosen-In any_method s c.methods q g in
              let above_at = chosen-In any_method s d.methods n first in
              let may = kinds x y c d q n e f l rest own at above_at alike plain (hidden_selects n hid) in
              ap (λ o. passes is_hidden o (finds_hidden (line_of w y) s)) g
              ∙ keeps_hidden q n may hid plain (rules.access x c q n e f at (above_in y c d n l rest above_at) alike
              plain)

  pub hidden_found : KeepsKinds w → (x : List ℕ) (s : Signature) → HasHidden w x s → finds_hidden (line_of w x) s ≡ true
  hidden_found kinds x s h = finds_one kinds s x h.class h.method h.on h.own h.hidden_one h.is_first

  -- a public or protected one has a token, where the class is no interface
  pub shown_token : (x : List ℕ) (c : Class) → class_named w x ≡ Some c → is_interface c.flags ≡ false → (s : Signature)
      → HasShown w x s → (t : ℕ) × (token (slots (line_of w x)) s ≡ Some t)
  shown_token x c known class_here s h =
      let told : IsTold (line_of w x) = told-class w are_supertypes one_supertypes rules x c known
      (λ import. class_here) in
      token-some (slots (line_of w x)) s (shown-has_slot (line_of w x) s told (shown_selected x s h))
