-- Package-visible methods that are found from a class of one package: the class that declares one, and that selection on
-- each class below it ends in a class of the package.
use Rattle.std.proofs.Common.{◌≡◌, ℕ, ◌+◌, refl, sym, ap, subst, ◌∙◌, Bool, true, false, List, [], ◌∷◌, length}
use Rattle.std.specs.Prelude.{◌&&◌, not, Option, Some, None, option_map, slice_get, if◌then◌else◌}
use Rattle.std.specs.Str.{bytes_eq}
use Rattle.cjc_bytes.specs.AccessFlags.{is_private, is_static}
use Rattle.cjc_bytes.proofs.Bools.{clash}
use Rattle.cjc_bytes.proofs.Lists.{name_is}
use Rattle.cjc_jvm_semantics.specs.Group.{is_package_visible, own_where, own_within, package_of}
use Rattle.cjc_joint_proof.proofs.NamedLaws.{position_and}
use Rattle.cjc_theorem.proofs.AlikeLaws.VirtualCalls.Chosen.{own_first, placed}
use Rattle.cjc_token_proof.proofs.WrittenCalls.Found.{own_is}
use Rattle.cjc_tokens.specs.Lines.{Declared, Imported, line_in, line_of}
use Rattle.cjc_tokens.specs.Members.{Signature, chosen, is_exposed, is_hidden, signature_of}
use Rattle.cjc_tokens.proofs.Facts.{chosen-passes, place-some}
use Rattle.cjc_vtable.specs.Calls.{any_method, finds_hidden, is_special, passes}
use Rattle.cjc_vtable.specs.Laws.{KeepsRules}
use Rattle.cjc_vtable.proofs.Agrees.{hidden_selects}
use Rattle.cjc_world.specs.Added.{added}
use Rattle.cjc_world.specs.Classes.{Class, Member, class_named}
use Rattle.cjc_world.specs.Lookup.{first, is_called, is_selectable, is_wanted, member_at, own_method}
use Rattle.cjc_world.specs.Supertypes.{AreSupertypes, Lists, Supertypes, ends, foremost, known_here, line, supertypes}
use Rattle.cjc_world.specs.Supertypes.{unknown_here, upwards}
use Rattle.cjc_world.specs.Upwards.{IsOrdered, OnLine, here, up}
use Rattle.cjc_world.specs.declared.found.Found.{Found}
use Rattle.cjc_world.proofs.Settled.{supertypes-AreSupertypes}
use Rattle.cjc_world.proofs.UpwardLaws.Lines.{below_abroad, line_below, line_named}
use Rattle.cjc_joint_whole.proofs.WholeLaws.LinesBack.{one_listed}
use Rattle.cjc_joint_whole.proofs.WholeLaws.Shown.{search_from, search_up}

-- what is package-visible and virtual is neither public or protected nor private
pub hidden_visible : (m : Member) → is_hidden m ≡ true → is_package_visible m.flags ≡ true
hidden_visible m e = by (is_exposed m.flags) (is_private m.flags) (is_static m.flags) (is_special (signature_of m)) e
  where
    by : (x p t c : Bool) → (not x && ((not p && not t) && not c)) ≡ true → (not x && not p) ≡ true
    by false false t c e = refl
    by false true t c e = absurd cc
    by true p t c e = absurd cc

-- where the class is of a package, selection for its package-visible methods asks of the class what any selection does
pub within_is : (home name desc : List ℕ) (c : Class) → package_of c.name ≡ home
    → own_within home name desc c ≡ own_method true name desc c
unfolding own_method
within_is home name desc c e = ap (λ b. if b then own_where is_selectable name desc c else None)
    (ap (λ x. bytes_eq x home) e ∙ name_is home)

module _ (w : List Class) (s : Signature) where
  abbrev any_own : Class → Option Found
  any_own = own_method false s.name s.desc

  abbrev sel : Class → Option Found
  sel = own_method true s.name s.desc

  -- The class of the package, at or above the other, whose method is the first of the signature: it is package-visible.
  pub record HoldsHidden (y : List ℕ) : Type 0 where
    pub class : Class
    pub on : OnLine w y class
    pub own : class.is_imported ≡ false
    pub method : Member
    pub place : ℕ
    pub there : slice_get class.methods place ≡ Some method
    pub one : signature_of method ≡ s
    pub hidden_one : is_hidden method ≡ true
    pub any : any_own class ≡ Some (member_at class (length class.fields + place))
    pub selected : sel class ≡ Some (member_at class (length class.fields + place))
    pub first_any : first any_own (line w y) ≡ Some (member_at class (length class.fields + place))

  -- Selection on a class ends in a class of the package, whether it passes over other packages or not.
  pub record EndsInside (home x : List ℕ) : Type 0 where
    pub found : Found
    pub mine : found.imported ≡ false
    pub selection : first sel (line w x) ≡ Some found
    pub inside : first (own_within home s.name s.desc) (line w x) ≡ Some found

module _ (w : List Class) (order : IsOrdered w) (rules : KeepsRules w) (s : Signature) where
  abbrev any_of : Class → Option Found
  any_of = own_method false s.name s.desc

  abbrev selects_of : Class → Option Found
  selects_of = own_method true s.name s.desc

  -- a class that declares it first
  declares : (y : List ℕ) (c : Class) → class_named w y ≡ Some c → c.is_imported ≡ false → (m : Member)
      → chosen any_method s c.methods ≡ Some m → is_hidden m ≡ true → HoldsHidden w s y
  unfolding own_method
  declares y c named own m is_first hid =
      let p = place-some any_method s c.methods m is_first in
      let i = p.0 in
      let r = placed any_method s c.methods i p.1 in
      let both : Some r.0 ≡ Some m = sym r.1 ∙ is_first in
      let same : r.0 ≡ m = cc in
      let there : slice_get c.methods i ≡ Some m = r.2 ∙ ap Some same in
      let is_m = chosen-passes any_method s c.methods m is_first in
      let called : is_called s.name s.desc m ≡ true = ap (λ (t : Signature). bytes_eq m.name t.name
      && bytes_eq m.desc t.desc) (sym is_m.0) ∙ ap (λ b. b && bytes_eq m.desc m.desc) (name_is m.name) ∙ name_is m.desc
      in
      let any : any_of c ≡ Some (member_at c (length c.fields + i)) = ap (option_map (λ j. member_at c (length c.fields
      + j))) p.1 in
      record {
        class = c;
        on = here named;
        own = own;
        method = m;
        place = i;
        there = there;
        one = is_m.0;
        hidden_one = hid;
        any = any;
        selected = ap (option_map (λ j. member_at c (length c.fields + j))) (position_and (λ (q : Member). is_wanted true
            q.flags) (λ (q : Member). is_called s.name s.desc q) c.methods i m there (hidden_selects m hid) called p.1);
        first_any = search_from w order.acyclic any_of y c named (member_at c (length c.fields + i)) any;
      }

  -- none declares one
  passed : (c : Class) → chosen any_method s c.methods ≡ None → any_of c ≡ None
  passed c none = by (any_of c) refl
    where
      by : (o : Option Found) → any_of c ≡ o → any_of c ≡ None
      by None e = e
      by (Some f) e =
          let r = own_first false s c f e in
          let m = r.method in
          let no : None ≡ Some m = sym none ∙ r.is_first in
          cc

  holds_by : (xs : List (List ℕ)) (k : Supertypes) (y : List ℕ) → AreSupertypes w xs k → xs ≡ y ∷ []
      → finds_hidden (line_in w k) s ≡ true → HoldsHidden w s y
  holds_by xs k y ends one e = cc
  holds_by xs k y (unknown_here f a) one e = cc
  holds_by (z ∷ xs) k y (known_here {c = c} {supers = p} f sp ip a) one e =
      by c.is_imported refl e (λ x l. holds_by c.supers p x sp l)
    where
      same_name : z ≡ y
      same_name = cc

      named : class_named w y ≡ Some c
      named = subst (λ v. class_named w v ≡ Some c) same_name f

      higher : (x : List ℕ) → c.supers ≡ x ∷ [] → any_of c ≡ None → HoldsHidden w s x → HoldsHidden w s y
      higher x l none h = record {
        class = h.class;
        on = up c named (subst (Lists x) (sym l) foremost) h.on;
        own = h.own;
        method = h.method;
        place = h.place;
        there = h.there;
        one = h.one;
        hidden_one = h.hidden_one;
        any = h.any;
        selected = h.selected;
        first_any = search_up w order.acyclic any_of y x c named l none ∙ h.first_any;
      }

      by : (b : Bool) → c.is_imported ≡ b
          → finds_hidden (if b then Imported (c ∷ upwards p) else Declared c (added w c) (line_in w p)) s ≡ true
          → ((x : List ℕ) → c.supers ≡ x ∷ [] → finds_hidden (line_in w p) s ≡ true → HoldsHidden w s x) → HoldsHidden w s y
      by true import e rest = cc
      by false own e rest = found (chosen any_method s c.methods) refl e
        where
          found : (o : Option Member) → chosen any_method s c.methods ≡ o
              → passes is_hidden o (finds_hidden (line_in w p) s) ≡ true → HoldsHidden w s y
          found None g e = let super = rules.single y c named own in higher super.0 super.1 (passed c g) (rest super.0
              super.1 e)
          found (Some m) g e = declares y c named own m g e

  -- what is found is held so
  pub holds_hidden : (y : List ℕ) → finds_hidden (line_of w y) s ≡ true → HoldsHidden w s y
  holds_hidden y e = holds_by (y ∷ []) (supertypes w (y ∷ [])) y (supertypes-AreSupertypes w order.acyclic (y ∷ [])) refl
      e

  -- ---- selection on a class at or below that one

  module _ (home : List ℕ) (same_home : (x : List ℕ) (c : Class) → class_named w x ≡ Some c → c.is_imported ≡ false
      → package_of c.name ≡ home) (y : List ℕ) (h : HoldsHidden w s y) where
    abbrev within : Class → Option Found
    within = own_within home s.name s.desc

    ends_here : (x : List ℕ) (c : Class) → class_named w x ≡ Some c → c.is_imported ≡ false → (f : Found)
        → selects_of c ≡ Some f → EndsInside w s home x
    ends_here x c named own f e = record {
      found = f;
      mine = (let o = own_is w true s.name s.desc c f e in ap (λ (g : Found). g.imported) o.is ∙ own);
      selection = search_from w order.acyclic selects_of x c named f e;
      inside = search_from w order.acyclic within x c named f (within_is home s.name s.desc c (same_home x c named own)
          ∙ e);
    }

    pub ends_in_package : (x : List ℕ) → OnLine w x h.class → EndsInside w s home x
    ends_in_package x on = go x h.class refl on
      where
        go : (x : List ℕ) (d : Class) → d ≡ h.class → OnLine w x d → EndsInside w s home x
        go x d same (here e) = ends_here x d e (ap (λ (v : Class). v.is_imported) same ∙ h.own) (let k = h.class in
            member_at k (length k.fields + h.place)) (ap selects_of same ∙ h.selected)
        go x d same (up {s = z} c e l rest) = by c.is_imported refl (go z d same rest)
          where
            by : (b : Bool) → c.is_imported ≡ b → EndsInside w s home z → EndsInside w s home x
            by true import above =
                let k = h.class in
                let on : OnLine w x k = subst (OnLine w x) same (up c e l rest) in
                absurd (clash k.is_imported (below_abroad w order x k.name c k (line_below w x k on) e import
                (line_named w x k on)) h.own)
            by false own above = split (selects_of c) refl
              where
                super : (r : List ℕ) × (c.supers ≡ r ∷ [])
                super = rules.single x c e own

                one : z ≡ super.0
                one = one_listed z super.0 (subst (Lists z) super.1 l)

                next : c.supers ≡ z ∷ []
                next = super.1 ∙ ap (λ v. v ∷ []) (sym one)

                split : (o : Option Found) → selects_of c ≡ o → EndsInside w s home x
                split (Some f) g = ends_here x c e own f g
                split None g = record {
                  found = above.found;
                  mine = above.mine;
                  selection = search_up w order.acyclic selects_of x z c e next g ∙ above.selection;
                  inside = search_up w order.acyclic within x z c e next (within_is home s.name s.desc c (same_home x c e
                      own) ∙ g) ∙ above.inside;
                }
