-- The search of a class and its superclasses ends at or below each class of a class file that has what is sought; and
-- two searches that ask the same of class files end alike there.
use Rattle.std.proofs.Common.{◌≡◌, ℕ, refl, sym, ap, subst, ◌∙◌, true, false, List, [], ◌∷◌, Option, Some, None}
use Rattle.std.proofs.Common.{⊎_elim}
use Rattle.cjc_bytes.specs.AccessFlags.{is_interface}
use Rattle.cjc_bytes.proofs.Bools.{true_not_false, true_or_false}
use Rattle.cjc_world.specs.Classes.{Class, class_named}
use Rattle.cjc_world.specs.Lookup.{first}
use Rattle.cjc_world.specs.Supertypes.{Lists, after, foremost, line}
use Rattle.cjc_world.specs.Upwards.{IsOrdered, OnLine, here, up}
use Rattle.cjc_world.specs.declared.found.Found.{Found}
use Rattle.cjc_world.proofs.Cycles.{class_named-name}
use Rattle.cjc_world.proofs.UpwardLaws.Lines.{below_abroad, first_has, first_some, in_line, line_begins, line_below}
use Rattle.cjc_world.proofs.UpwardLaws.Lines.{line_named, no_list, of_line, same_class}
use Rattle.cjc_joint_whole.proofs.WholeLaws.Shown.{search_from, search_up}

-- what a list of one name lists
pub only : (s y : List ℕ) → Lists s (y ∷ []) → s ≡ y
only s y foremost = refl
only s y (after l) = no_list l

-- Where the search of a class ends: at a class of its line, at or below another one.
pub record IsNearest (w : List Class) (own : Class → Option Found) (x : List ℕ) (a : Class) : Type 0 where
  pub class : Class
  pub place : Found
  pub found : first own (line w x) ≡ Some place
  pub has : own class ≡ Some place
  pub on : OnLine w x class
  pub above : OnLine w class.name a

-- Where the search of a class ends that one of its line has: where it is a class file, at or below that one.
pub record IsFirstOn (w : List Class) (own : Class → Option Found) (x : List ℕ) (a : Class) : Type 0 where
  pub class : Class
  pub place : Found
  pub found : first own (line w x) ≡ Some place
  pub has : own class ≡ Some place
  pub on : OnLine w x class
  pub above : class.is_imported ≡ false → OnLine w class.name a

module _ (w : List Class) (order : IsOrdered w) (single : (x : List ℕ) (c : Class) → class_named w x ≡ Some c
    → c.is_imported ≡ false → (s : List ℕ) × (c.supers ≡ s ∷ [])) where
  -- a class below one of a class file is of a class file
  pub low : (x : List ℕ) (c a : Class) → class_named w x ≡ Some c → OnLine w x a → a.is_imported ≡ false
      → c.is_imported ≡ false
  low x c a named on mine = ⊎_elim (λ imp. absurd (true_not_false a.is_imported (below_abroad w order x a.name c a
      (line_below w x a on) named imp (line_named w x a on)) mine)) (λ e. e) (true_or_false c.is_imported)

  -- superclasses of a class that is no interface are none
  pub line_ground : (x : List ℕ) (d : Class) → OnLine w x d → (c : Class) → class_named w x ≡ Some c
      → is_interface c.flags ≡ false → is_interface d.flags ≡ false
  line_ground x d (here e) c named ground = ap (λ (v : Class). is_interface v.flags) (same_class (sym e ∙ named))
      ∙ ground
  line_ground x d (up {s = s} b e l rest) c named ground =
      let r = line_begins w s d rest in
      line_ground s d rest r.0 r.1 (order.supers x s b r.0 e l r.1)

  one_super : (x s : List ℕ) (c : Class) → class_named w x ≡ Some c → c.is_imported ≡ false → Lists s c.supers
      → c.supers ≡ s ∷ []
  one_super x s c named mine l =
      let r = single x c named mine in
      r.1 ∙ ap (λ y. y ∷ []) (sym (only s r.0 (subst (Lists s) r.1 l)))

  pub nearest : (own : Class → Option Found) (x : List ℕ) (a : Class) → OnLine w x a → a.is_imported ≡ false
      → (f : Found) → own a ≡ Some f → IsNearest w own x a
  nearest own x a (here e) mine f has = record {
    class = a;
    place = f;
    found = search_from w order.acyclic own x a e f has;
    has = has;
    on = here e;
    above = here (line_named w x a (here e));
  }
  nearest own x a (up {s = s} c e l rest) mine f has = by (own c) refl (nearest own s a rest mine f has)
    where
      on_all : OnLine w x a
      on_all = up c e l rest

      by : (o : Option Found) → own c ≡ o → IsNearest w own s a → IsNearest w own x a
      by (Some g) h n = record {
        class = c;
        place = g;
        found = search_from w order.acyclic own x c e g h;
        has = h;
        on = here e;
        above = subst (λ y. OnLine w y a) (sym (class_named-name w x c e)) on_all;
      }
      by None h n = record {
        class = n.class;
        place = n.place;
        found = search_up w order.acyclic own x s c e (one_super x s c e (low x c a e on_all mine) l) h ∙ n.found;
        has = n.has;
        on = up c e l n.on;
        above = n.above;
      }

  -- searches that ask the same of class files, of which one has what is sought
  pub alike : (own other : Class → Option Found) → ((c : Class) → class_named w c.name ≡ Some c
      → c.is_imported ≡ false → own c ≡ other c) → (x : List ℕ) (a : Class) → OnLine w x a → a.is_imported ≡ false
      → (f : Found) → own a ≡ Some f → first own (line w x) ≡ first other (line w x)
  alike own other same x a (here e) mine f has =
      search_from w order.acyclic own x a e f has
      ∙ sym (search_from w order.acyclic other x a e f (sym (same a (line_named w x a (here e)) mine) ∙ has))
  alike own other same x a (up {s = s} c e l rest) mine f has =
      by (own c) refl (alike own other same s a rest mine f has)
    where
      on_all : OnLine w x a
      on_all = up c e l rest

      own_one : c.is_imported ≡ false
      own_one = low x c a e on_all mine

      same_here : own c ≡ other c
      same_here = same c (line_named w x c (here e)) own_one

      by : (o : Option Found) → own c ≡ o → first own (line w s) ≡ first other (line w s) → first own (line w x)
          ≡ first other (line w x)
      by (Some g) h more =
          search_from w order.acyclic own x c e g h
          ∙ sym (search_from w order.acyclic other x c e g (sym same_here ∙ h))
      by None h more =
          let supers = one_super x s c e own_one l in
          search_up w order.acyclic own x s c e supers h ∙ more
          ∙ sym (search_up w order.acyclic other x s c e supers (sym same_here ∙ h))

  -- of whichever class of the line
  pub first_on : (own : Class → Option Found) (x : List ℕ) (a : Class) → OnLine w x a → (f : Found) → own a ≡ Some f
      → IsFirstOn w own x a
  first_on own x a (here e) f has = record {
    class = a;
    place = f;
    found = search_from w order.acyclic own x a e f has;
    has = has;
    on = here e;
    above = λ mine. here (line_named w x a (here e));
  }
  first_on own x a (up {s = s} c e l rest) f has =
      ⊎_elim (λ imp. abroad imp) (λ mine. by mine (own c) refl (first_on own s a rest f has))
      (true_or_false c.is_imported)
    where
      on_all : OnLine w x a
      on_all = up c e l rest

      abroad : c.is_imported ≡ true → IsFirstOn w own x a
      abroad imp =
          let g = first_some own (line w x) a f (in_line w order.acyclic x a on_all) has in
          let one = first_has own (line w x) g.0 g.1 in
          let d = one.0 in
          let on = of_line w order.acyclic x d one.1 in
          record {
            class = d;
            place = g.0;
            found = g.1;
            has = one.2;
            on = on;
            above = λ mine. absurd (true_not_false d.is_imported (below_abroad w order x d.name c d (line_below w x d on)
                e imp (line_named w x d on)) mine);
          }

      by : c.is_imported ≡ false → (o : Option Found) → own c ≡ o → IsFirstOn w own s a → IsFirstOn w own x a
      by mine (Some g) h n = record {
        class = c;
        place = g;
        found = search_from w order.acyclic own x c e g h;
        has = h;
        on = here e;
        above = λ own_one. subst (λ y. OnLine w y a) (sym (class_named-name w x c e)) on_all;
      }
      by mine None h n = record {
        class = n.class;
        place = n.place;
        found = search_up w order.acyclic own x s c e (one_super x s c e mine l) h ∙ n.found;
        has = n.has;
        on = up c e l n.on;
        above = n.above;
      }

  -- a class from outside on a line stands above each class file there
  pub line_over : (x : List ℕ) (a b : Class) → OnLine w x a → a.is_imported ≡ false → OnLine w x b
      → b.is_imported ≡ true → OnLine w a.name b
  line_over x a b (here e) mine on imp = subst (λ y. OnLine w y b) (sym (class_named-name w x a e)) on
  line_over x a b (up {s = s} c e l rest) mine on imp = line_over s a b rest mine (go x b on refl refl) imp
    where
      own_one : c.is_imported ≡ false
      own_one = low x c a e (up c e l rest) mine

      go : (y : List ℕ) (d : Class) → OnLine w y d → y ≡ x → d ≡ b → OnLine w s b
      go y d (here f) is_x is_b =
          let one : d ≡ c = same_class (sym f ∙ ap (class_named w) is_x ∙ e) in
          absurd (true_not_false b.is_imported imp (ap (λ (v : Class). v.is_imported) (sym is_b ∙ one) ∙ own_one))
      go y d (up {s = z} k f m more) is_x is_b =
          let one : k ≡ c = same_class (sym f ∙ ap (class_named w) is_x ∙ e) in
          let super : z ≡ s = only z s (subst (Lists z) (one_super x s c e own_one l) (subst (λ (v : Class). Lists z
          v.supers) one m)) in
          subst (OnLine w s) is_b (subst (λ y. OnLine w y d) super more)
