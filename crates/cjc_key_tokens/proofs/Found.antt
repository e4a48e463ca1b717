-- The token of a virtual method in a class is that of the method that is found.
use Rattle.std.proofs.Common.{◌≡◌, ℕ, zero, suc, ◌+◌, refl, sym, ap, subst, ◌∙◌, Bool, true, false, List, [], ◌∷◌, ◌++◌, map, length, append_assoc, append-nil, arith, inl, inr, Option, Some, None}
use Rattle.std.specs.Prelude.{◌⊎◌, slice_get, option_map, option_and_then, unwrap_or, position, not, ◌&&◌, if◌then◌else◌}
use Rattle.cjc_bytes.specs.declared.fault.MemberId.{MemberId}
use Rattle.cjc_bytes.specs.AccessFlags.{is_interface}
use Rattle.cjc_world.specs.declared.found.Found.{Found}
use Rattle.cjc_world.specs.Files.{Files}
use Rattle.cjc_world.specs.Classes.{Class, Member, all_classes, class_at, class_named}
use Rattle.cjc_world.specs.Added.{added}
use Rattle.cjc_world.specs.Kin.{Kin, End, Known, Lists, foremost, after, kin, IsKin, ends, unknown_here, known_here, line, upwards}
use Rattle.cjc_world.specs.Interfaces.{gathered, known}
use Rattle.cjc_world.specs.Lookup.{find_method, first, is_called, member_at, or_else, own_method}
use Rattle.cjc_world.proofs.Rising.{first-append}
use Rattle.cjc_tokens.specs.Lines.{Line, Declared, Imported, line_at, line_in, line_of}
use Rattle.cjc_tokens.specs.Members.{In, Signature, all_methods, chosen, first_of, later, is_exposed, is_hidden, is_shown, is_virtual, signature_of, signatures}
use Rattle.cjc_tokens.specs.Methods.{with_high_bit}
use Rattle.cjc_tokens.specs.Slots.{hidden_slots, new_in, slots, token, with_new}
use Rattle.cjc_tokens.specs.Tokens.{assigned, token_of_member}
use Rattle.cjc_tokens.proofs.Facts.{chosen-passes, has-chosen, position-cons}
use Rattle.cjc_tokens.proofs.Held.{has_slot-append, offered-has_slot}
use Rattle.cjc_vtable.specs.Calls.{IsOneToOne, IsTold, any_method, finds_hidden, here, passes, up}
use Rattle.cjc_vtable.specs.Laws.{KeepsRules}
use Rattle.cjc_vtable.specs.Tables.{or_zero}
use Rattle.cjc_vtable.proofs.Calls.{In-behind, In-front, token-some}
use Rattle.cjc_vtable.proofs.Filed.{IsFiled, at-number, filed, in_class_file, in_export_file}
use Rattle.cjc_vtable.proofs.Once.{inherited_hidden_token, inherited_token, listed_token}
use Rattle.cjc_components.specs.Names.{signature_of as signature_by, token_in, virtual_token}
use Rattle.cjc_components.specs.Package.{Package, has_applets, tokens, world}
use Rattle.cjc_key_tokens.specs.Found.{IsFoundAbove, token_found}
use Rattle.cjc_key_tokens.proofs.Places.{hidden_kept, listed_kept, shown_kept}

-- ---- methods at their places

in_at : (ms : List Member) (i : ℕ) (m : Member) → slice_get ms i ≡ Some m → In m ms
in_at [] i m e = cc
in_at (x ∷ ms) zero m e = let same : x ≡ m = cc in subst (λ (y : Member). In y (x ∷ ms)) same first_of
in_at (x ∷ ms) (suc i) m e = later (in_at ms i m e)

-- the first that is called so
called_at : (test : Member → Bool) (s : Signature) (ms : List Member) (i : ℕ) (m : Member) → position (is_called s.name s.desc) ms ≡ Some i → slice_get ms i ≡ Some m → test m ≡ true → chosen test s ms ≡ Some m
called_at test s [] i m e at t = cc
called_at test s (x ∷ ms) i m e at t = by (λ j g there. called_at test s ms j m g there t) (is_called s.name s.desc x) refl (position (is_called s.name s.desc) ms) refl (sym (position-cons (is_called s.name s.desc) x ms) ∙ e)
  where
    by : ((j : ℕ) → position (is_called s.name s.desc) ms ≡ Some j → slice_get ms j ≡ Some m → chosen test s ms ≡ Some m) → (b : Bool) → is_called s.name s.desc x ≡ b → (o : Option ℕ) → position (is_called s.name s.desc) ms ≡ o → (if b then Some 0 else option_map suc o) ≡ Some i
        → (if (test x && b) then Some x else chosen test s ms) ≡ Some m
    by next_one true f o g h =
        let first_one : 0 ≡ i = cc in
        let there : slice_get (x ∷ ms) 0 ≡ Some m = ap (slice_get (x ∷ ms)) first_one ∙ at in
        let same : x ≡ m = cc in
        ap (λ b. if (b && true) then Some x else chosen test s ms) (ap test same ∙ t) ∙ ap (λ (y : Member). Some y) same
    by next_one false f None g h = cc
    by next_one false f (Some j) g h =
        let next : suc j ≡ i = cc in
        let there : slice_get (x ∷ ms) (suc j) ≡ Some m = ap (slice_get (x ∷ ms)) next ∙ at in
        none (test x) ∙ next_one j g there
      where
        none : (b : Bool) → (if (b && false) then Some x else chosen test s ms) ≡ chosen test s ms
        none true = refl
        none false = refl

not_called : (s : Signature) (ms : List Member) → position (is_called s.name s.desc) ms ≡ None → chosen any_method s ms ≡ None
not_called s [] e = refl
not_called s (x ∷ ms) e = by (not_called s ms) (is_called s.name s.desc x) (position (is_called s.name s.desc) ms) refl (sym (position-cons (is_called s.name s.desc) x ms) ∙ e)
  where
    by : (position (is_called s.name s.desc) ms ≡ None → chosen any_method s ms ≡ None) → (b : Bool) (o : Option ℕ) → position (is_called s.name s.desc) ms ≡ o → (if b then Some 0 else option_map suc o) ≡ None → (if b then Some x else chosen any_method s ms) ≡ None
    by rest true o f g = cc
    by rest false None f g = rest f
    by rest false (Some j) f g = cc

methods_both : (a b : List Class) → all_methods (a ++ b) ≡ all_methods a ++ all_methods b
methods_both [] b = refl
methods_both (c ∷ a) b = ap (λ ms. c.methods ++ ms) (methods_both a b) ∙ sym (append_assoc c.methods (all_methods a) (all_methods b))

-- ---- what a class says itself

own_none : (s : Signature) (c : Class) → own_method false s.name s.desc c ≡ None → position (is_called s.name s.desc) c.methods ≡ None
unfolding own_method
own_none s c e = by (position (is_called s.name s.desc) c.methods) e
  where
    by : (o : Option ℕ) → option_map (λ i. member_at c (length c.fields + i)) o ≡ None → o ≡ None
    by None f = refl
    by (Some i) f = cc

own_same : (s : Signature) (c d : Class) (i : ℕ) → own_method false s.name s.desc c ≡ Some (member_at d (length d.fields + i)) → (c.is_imported ≡ d.is_imported) × (c.number ≡ d.number)
unfolding own_method
own_same s c d i e = by (position (is_called s.name s.desc) c.methods) e
  where
    by : (o : Option ℕ) → option_map (λ i. member_at c (length c.fields + i)) o ≡ Some (member_at d (length d.fields + i)) → (c.is_imported ≡ d.is_imported) × (c.number ≡ d.number)
    by None f = cc
    by (Some j) f =
        let same : member_at c (length c.fields + j) ≡ member_at d (length d.fields + i) = cc in
        (ap (λ (g : Found). g.imported) same, ap (λ (g : Found). g.class) same)

own_kind : (s : Signature) (c : Class) (f : Found) → own_method false s.name s.desc c ≡ Some f → f.imported ≡ c.is_imported
unfolding own_method
own_kind s c f e = by (position (is_called s.name s.desc) c.methods) e
  where
    by : (o : Option ℕ) → option_map (λ i. member_at c (length c.fields + i)) o ≡ Some f → f.imported ≡ c.is_imported
    by None g = cc
    by (Some j) g =
        let same : member_at c (length c.fields + j) ≡ f = cc in
        sym (ap (λ (v : Found). v.imported) same)

own_place : (s : Signature) (c : Class) (i : ℕ) → own_method false s.name s.desc c ≡ Some (member_at c (length c.fields + i)) → position (is_called s.name s.desc) c.methods ≡ Some i
unfolding own_method
own_place s c i e = by (position (is_called s.name s.desc) c.methods) e
  where
    by : (o : Option ℕ) → option_map (λ i. member_at c (length c.fields + i)) o ≡ Some (member_at c (length c.fields + i)) → o ≡ Some i
    by None f = cc
    by (Some j) f =
        let same : member_at c (length c.fields + j) ≡ member_at c (length c.fields + i) = cc in
        let sum : length c.fields + j ≡ length c.fields + i = ap (λ (g : Found). g.member) same in
        let one : j ≡ i = omega (arith, sum) in
        ap (λ k. Some k) one

module _ (files : Files) (applets : Bool) (is_kin : (xs : List (List ℕ)) → IsKin (all_classes files) xs (kin (all_classes files) xs)) (one_kin : (xs : List (List ℕ)) (j k : Kin) → IsKin (all_classes files) xs j → IsKin (all_classes files) xs k → j ≡ k) (rules : KeepsRules (all_classes files)) where
  abbrev w : List Class
  w = all_classes files

  -- the class in which a method is found
  found_in : (xs : List (List ℕ)) (k : Kin) (s : Signature) (f : Found) → IsKin w xs k → first (own_method false s.name s.desc) (upwards k) ≡ Some f
      → (x : List ℕ) × (c : Class) × (class_named w x ≡ Some c) × (own_method false s.name s.desc c ≡ Some f) × ((n : Member) → In n c.methods → In n (all_methods (upwards k)))
  unfolding first
  found_in xs k s f ends e = cc
  found_in (x ∷ xs) k s f (unknown_here {next = r} g a) e = found_in xs r s f a e
  found_in (x ∷ xs) k s f (known_here {c = c} {supers = p} {next = r} g sp ip a) e = by (λ h. found_in c.supers p s f sp h) (λ h. found_in xs r s f a h) (own_method false s.name s.desc c) refl e
    where
      later_one : (cs : List Class) → ((n : Member) → In n (all_methods cs) → In n (all_methods (upwards p ++ upwards r))) → (n : Member) → In n (all_methods cs) → In n (c.methods ++ all_methods (upwards p ++ upwards r))
      later_one cs to n i = In-behind n c.methods (all_methods (upwards p ++ upwards r)) (to n i)

      to_front : (n : Member) → In n (all_methods (upwards p)) → In n (all_methods (upwards p ++ upwards r))
      to_front n i = subst (λ ms. In n ms) (sym (methods_both (upwards p) (upwards r))) (In-front n (all_methods (upwards p)) (all_methods (upwards r)) i)

      to_back : (n : Member) → In n (all_methods (upwards r)) → In n (all_methods (upwards p ++ upwards r))
      to_back n i = subst (λ ms. In n ms) (sym (methods_both (upwards p) (upwards r))) (In-behind n (all_methods (upwards p)) (all_methods (upwards r)) i)

      behind : (first (own_method false s.name s.desc) (upwards p) ≡ Some f → (x : List ℕ) × (d : Class) × (class_named w x ≡ Some d) × (own_method false s.name s.desc d ≡ Some f) × ((n : Member) → In n d.methods → In n (all_methods (upwards p)))) → (first (own_method false s.name s.desc) (upwards r) ≡ Some f → (x : List ℕ) × (d : Class) × (class_named w x ≡ Some d) × (own_method false s.name s.desc d ≡ Some f) × ((n : Member) → In n d.methods → In n (all_methods (upwards r))))
          → (o : Option Found) → first (own_method false s.name s.desc) (upwards p) ≡ o → or_else o (first (own_method false s.name s.desc) (upwards r)) ≡ Some f
          → (x : List ℕ) × (d : Class) × (class_named w x ≡ Some d) × (own_method false s.name s.desc d ≡ Some f) × ((n : Member) → In n d.methods → In n (c.methods ++ all_methods (upwards p ++ upwards r)))
      behind above next_ones (Some h) i j =
          let same : h ≡ f = cc in
          let (y, d, named, own, in_d) = above (i ∙ ap (λ (v : Found). Some v) same) in
          (y, d, named, own, λ n m. later_one (upwards p) to_front n (in_d n m))
      behind above next_ones None i j =
          let (y, d, named, own, in_d) = next_ones j in
          (y, d, named, own, λ n m. later_one (upwards r) to_back n (in_d n m))

      by : (first (own_method false s.name s.desc) (upwards p) ≡ Some f → (x : List ℕ) × (d : Class) × (class_named w x ≡ Some d) × (own_method false s.name s.desc d ≡ Some f) × ((n : Member) → In n d.methods → In n (all_methods (upwards p)))) → (first (own_method false s.name s.desc) (upwards r) ≡ Some f → (x : List ℕ) × (d : Class) × (class_named w x ≡ Some d) × (own_method false s.name s.desc d ≡ Some f) × ((n : Member) → In n d.methods → In n (all_methods (upwards r))))
          → (o : Option Found) → own_method false s.name s.desc c ≡ o → or_else o (first (own_method false s.name s.desc) (upwards p ++ upwards r)) ≡ Some f
          → (x : List ℕ) × (d : Class) × (class_named w x ≡ Some d) × (own_method false s.name s.desc d ≡ Some f) × ((n : Member) → In n d.methods → In n (c.methods ++ all_methods (upwards p ++ upwards r)))
      by above next_ones (Some h) i j = (x, c, g, i ∙ (let same : Some h ≡ Some f = j in same), λ n m. In-front n c.methods (all_methods (upwards p ++ upwards r)) m)
      by above next_ones None i j = behind above next_ones (first (own_method false s.name s.desc) (upwards p)) refl (sym (first-append (own_method false s.name s.desc) (upwards p) (upwards r)) ∙ j)

  -- two classes of one number are one
  one_class : (x : List ℕ) (c d : Class) → class_named w x ≡ Some c → class_at w d.is_imported d.number ≡ Some d → c.is_imported ≡ d.is_imported → c.number ≡ d.number → c ≡ d
  one_class x c d named at kinds numbers =
      let there = at-number files x c named in
      let both : Some c ≡ Some d = sym there ∙ ap (λ b. class_at w b c.number) kinds ∙ ap (class_at w d.is_imported) numbers ∙ at in
      cc

  -- ---- the token of a method in a line, by where it is found

  -- what is found in imported classes and above them is of an imported class
  imported_found : (xs : List (List ℕ)) (k : Kin) (s : Signature) (f : Found) → IsKin w xs k → ((y : List ℕ) (d : Class) → Lists y xs → class_named w y ≡ Some d → d.is_imported ≡ true)
      → first (own_method false s.name s.desc) (upwards k) ≡ Some f → f.imported ≡ true
  unfolding first
  imported_found xs k s f ends every e = cc
  imported_found (x ∷ xs) k s f (unknown_here {next = r} g a) every e = imported_found xs r s f a (λ y d l. every y d (after l)) e
  imported_found (x ∷ xs) k s f (known_here {c = c} {supers = p} {next = r} g sp ip a) every e = by (λ h. imported_found c.supers p s f sp (λ y d l n. rules.apart x y c d g (every x c foremost g) l n) h) (λ h. imported_found xs r s f a (λ y d l. every y d (after l)) h) (own_method false s.name s.desc c) refl e
    where
      behind : (first (own_method false s.name s.desc) (upwards p) ≡ Some f → f.imported ≡ true) → (first (own_method false s.name s.desc) (upwards r) ≡ Some f → f.imported ≡ true)
          → (o : Option Found) → first (own_method false s.name s.desc) (upwards p) ≡ o → or_else o (first (own_method false s.name s.desc) (upwards r)) ≡ Some f → f.imported ≡ true
      behind above next_ones (Some h) i j =
          let same : h ≡ f = cc in
          above (i ∙ ap (λ (v : Found). Some v) same)
      behind above next_ones None i j = next_ones j

      by : (first (own_method false s.name s.desc) (upwards p) ≡ Some f → f.imported ≡ true) → (first (own_method false s.name s.desc) (upwards r) ≡ Some f → f.imported ≡ true)
          → (o : Option Found) → own_method false s.name s.desc c ≡ o → or_else o (first (own_method false s.name s.desc) (upwards p ++ upwards r)) ≡ Some f → f.imported ≡ true
      by above next_ones (Some h) i j =
          let same : h ≡ f = cc in
          sym (ap (λ (v : Found). v.imported) same) ∙ own_kind s c h i ∙ every x c foremost g
      by above next_ones None i j = behind above next_ones (first (own_method false s.name s.desc) (upwards p)) refl (sym (first-append (own_method false s.name s.desc) (upwards p) (upwards r)) ∙ j)

  pub record Told (L : Line) (s : Signature) (f : Found) : Type 0 where
    pub told : IsTold L
    pub token_at : ℕ
    pub either : ((finds_hidden L s ≡ true) × (token (hidden_slots L) s ≡ Some token_at) × (token_of_member (assigned applets files) f ≡ Some (with_high_bit token_at)))
        ⊎ ((finds_hidden L s ≡ false) × (token (slots L) s ≡ Some token_at) × (token_of_member (assigned applets files) f ≡ Some token_at))

  told_line : (xs : List (List ℕ)) (k : Kin) → IsKin w xs k → IsTold (line_in w k)
  told_line xs k ends = tt
  told_line xs k (unknown_here e a) = tt
  told_line (x ∷ xs) k (known_here {c = c} {supers = p} {interfaces = q} e sp ip a) = by c.is_imported refl (told_line c.supers p sp)
    where
      by : (b : Bool) → c.is_imported ≡ b → IsTold (line_in w p) → IsTold (if b then Imported (c ∷ upwards p) else Declared c (added w c) (line_in w p))
      by true g rest = subst (λ j. IsOneToOne (c.methods ++ all_methods (upwards j))) (one_kin c.supers (kin w c.supers) p (is_kin c.supers) sp) (rules.told x c e g)
      by false g rest = rest

  -- ---- what is kept, by the file of the class

  listed_in : (d : Class) → IsFiled files d → d.is_imported ≡ true → (i : ℕ) (n : Member) → slice_get d.methods i ≡ Some n → is_virtual n ≡ true → token_of_member (assigned applets files) (member_at d (length d.fields + i)) ≡ Some n.token
  listed_in d (in_class_file k t is) imp i n at virtual = cc
  listed_in d (in_export_file k e is) imp i n at virtual = listed_kept files applets k e i n is at virtual

  shown_in : (d : Class) → IsFiled files d → d.is_imported ≡ false → is_interface d.flags ≡ false → (i : ℕ) (n : Member) → slice_get d.methods i ≡ Some n → is_shown n ≡ true
      → token_of_member (assigned applets files) (member_at d (length d.fields + i)) ≡ token (slots (line_at w d)) (signature_of n)
  shown_in d (in_class_file k t is) imp plain i n at shown = shown_kept files applets k t is plain i n at shown
  shown_in d (in_export_file k e is) imp plain i n at shown = cc

  hidden_in : (d : Class) → IsFiled files d → d.is_imported ≡ false → is_interface d.flags ≡ false → (i : ℕ) (n : Member) → slice_get d.methods i ≡ Some n → is_shown n ≡ false → is_hidden n ≡ true
      → token_of_member (assigned applets files) (member_at d (length d.fields + i)) ≡ option_map with_high_bit (token (hidden_slots (line_at w d)) (signature_of n))
  hidden_in d (in_class_file k t is) imp plain i n at isnt hidden = hidden_kept files applets k t is plain i n at isnt hidden
  hidden_in d (in_export_file k e is) imp plain i n at isnt hidden = cc

  module _ (s : Signature) (d : Class) (i : ℕ) (n : Member) (at : class_at (all_classes files) d.is_imported d.number ≡ Some d) (is_method : slice_get d.methods i ≡ Some n) (virtual : is_virtual n ≡ true) (shown : d.is_imported ≡ true → is_shown n ≡ true) (plain : is_interface d.flags ≡ false) where
    abbrev f : Found
    f = member_at d (length d.fields + i)

    -- it is called so
    called : own_method false s.name s.desc d ≡ Some f → (position (is_called s.name s.desc) d.methods ≡ Some i) × (signature_of n ≡ s)
    called e =
        let place = own_place s d i e in
        let one = chosen-passes any_method s d.methods n (called_at any_method s d.methods i n place is_method refl) in
        (place, one.0)

    -- an imported class and its supers
    outside : (y : List ℕ) (c : Class) (p q : Kin) → class_named w y ≡ Some c → c.is_imported ≡ true → IsKin w c.supers p → IsKin w (y ∷ []) (Known c p q End) → first (own_method false s.name s.desc) (upwards (Known c p q End)) ≡ Some f → d.is_imported ≡ true
        → Told (Imported (c ∷ upwards p)) s f
    outside y c p q named imp sp tree e d_imp =
        let (x, b, b_named, b_own, into) = found_in (y ∷ []) (Known c p q End) s f tree e in
        let (kinds, numbers) = own_same s b d i b_own in
        let same : b ≡ d = one_class x b d b_named at kinds numbers in
        let (place, signed) = called (subst (λ (v : Class). own_method false s.name s.desc v ≡ Some f) same b_own) in
        let told : IsOneToOne (c.methods ++ all_methods (upwards p)) = subst (λ j. IsOneToOne (c.methods ++ all_methods (upwards j))) (one_kin c.supers (kin w c.supers) p (is_kin c.supers) sp) (rules.told y c named imp) in
        let inside : In n (all_methods (c ∷ upwards p ++ [])) = into n (subst (λ (v : Class). In n v.methods) (sym same) (in_at d.methods i n is_method)) in
        let there : In n (all_methods (c ∷ upwards p)) = subst (λ cs. In n (all_methods cs)) (append-nil (c ∷ upwards p)) inside in
        let token_is = listed_token (c ∷ upwards p) n told there (shown d_imp) in
        let kept = listed_in d (subst (IsFiled files) same (filed files x b b_named)) d_imp i n is_method virtual in
        record { told = told; token_at = n.token; either = inr (refl, ap (token (slots (Imported (c ∷ upwards p)))) (sym signed) ∙ token_is, kept) }

    -- a class of the package that has it
    inside : (y : List ℕ) (p : Kin) → class_named w y ≡ Some d → d.is_imported ≡ false → IsKin w d.supers p → own_method false s.name s.desc d ≡ Some f → Told (Declared d (added w d) (line_in w p)) s f
    inside y p named own sp e = by (is_exposed n.flags) refl
      where
        above : Line
        above = line_in w p

        L : Line
        L = Declared d (added w d) (line_in w p)

        file : IsFiled files d
        file = filed files y d named

        line_is : line_at w d ≡ L
        line_is = ap (λ b. if b then Imported (d ∷ upwards (kin w d.supers)) else Declared d (added w d) (line_in w (kin w d.supers))) own ∙ ap (λ k. Declared d (added w d) (line_in w k)) (one_kin d.supers (kin w d.supers) p (is_kin d.supers) sp)

        place : position (is_called s.name s.desc) d.methods ≡ Some i
        place = (called e).0

        signed : signature_of n ≡ s
        signed = (called e).1

        first_one : (test : Member → Bool) → test n ≡ true → chosen test s d.methods ≡ Some n
        first_one test t = called_at test s d.methods i n place is_method t

        hides : finds_hidden L s ≡ is_hidden n
        hides = ap (λ o. passes is_hidden o (finds_hidden (line_in w p) s)) (first_one any_method refl)

        by : (b : Bool) → is_exposed n.flags ≡ b → Told L s f
        by true open_one =
            let is : is_shown n ≡ true = ap (λ b. b && is_virtual n) open_one ∙ virtual in
            let isnt : is_hidden n ≡ false = ap (λ b. not b && is_virtual n) open_one in
            let sigs = signatures is_shown d.methods in
            let offered = offered-has_slot (slots (line_in w p)) sigs s (has-chosen is_shown s d.methods n (first_one is_shown is)) in
            let slot = has_slot-append (with_new (slots (line_in w p)) sigs) (map Some (new_in (with_new (slots (line_in w p)) sigs) (map signature_of (added w d)))) s offered in
            let (t, there) = token-some (slots L) s slot in
            let kept = shown_in d file own plain i n is_method is in
            record { told = told_line d.supers p sp; token_at = t; either = inr (hides ∙ isnt, there, kept ∙ ap (λ g. token (slots g) (signature_of n)) line_is ∙ ap (token (slots L)) signed ∙ there) }
        by false closed =
            let isnt : is_shown n ≡ false = ap (λ b. b && is_virtual n) closed in
            let is : is_hidden n ≡ true = ap (λ b. not b && is_virtual n) closed ∙ virtual in
            let sigs = signatures is_hidden d.methods in
            let offered = offered-has_slot (hidden_slots (line_in w p)) sigs s (has-chosen is_hidden s d.methods n (first_one is_hidden is)) in
            let (t, there) = token-some (hidden_slots L) s offered in
            let kept = hidden_in d file own plain i n is_method isnt is in
            record { told = told_line d.supers p sp; token_at = t; either = inl (hides ∙ is, there, kept ∙ ap (λ g. option_map with_high_bit (token (hidden_slots g) (signature_of n))) line_is ∙ ap (λ u. option_map with_high_bit (token (hidden_slots L) u)) signed ∙ ap (option_map with_high_bit) there) }

    -- a class of the package below
    below : (c : Class) (above : Line) → own_method false s.name s.desc c ≡ None → Told above s f → Told (Declared c (added w c) above) s f
    below c above e h = by h.either
      where
        hides : finds_hidden (Declared c (added w c) above) s ≡ finds_hidden above s
        hides = ap (λ o. passes is_hidden o (finds_hidden above s)) (not_called s c.methods (own_none s c e))

        by : ((finds_hidden above s ≡ true) × (token (hidden_slots above) s ≡ Some h.token_at) × (token_of_member (assigned applets files) f ≡ Some (with_high_bit h.token_at)))
            ⊎ ((finds_hidden above s ≡ false) × (token (slots above) s ≡ Some h.token_at) × (token_of_member (assigned applets files) f ≡ Some h.token_at)) → Told (Declared c (added w c) above) s f
        by (inl x) = record { told = h.told; token_at = h.token_at; either = inl (hides ∙ x.0, inherited_hidden_token (Declared c (added w c) above) above s h.token_at (up here) x.1, x.2) }
        by (inr x) = record { told = h.told; token_at = h.token_at; either = inr (hides ∙ x.0, inherited_token (Declared c (added w c) above) above s h.token_at h.told (up here) x.1, x.2) }

    told_at : (xs : List (List ℕ)) (k : Kin) (x : List ℕ) → IsKin w xs k → xs ≡ x ∷ [] → first (own_method false s.name s.desc) (upwards k) ≡ Some f → Told (line_in w k) s f
    unfolding first
    told_at xs k x ends e h = cc
    told_at xs k x (unknown_here g ends) e h = cc
    told_at xs k x (unknown_here g (unknown_here g2 b)) e h = cc
    told_at xs k x (unknown_here g (known_here g2 sp ip b)) e h = cc
    told_at xs k x (known_here {x = y} {c = c} {supers = p} {interfaces = q} g sp ip ends) e h = by (λ z one j. told_at c.supers p z sp one j) c.is_imported refl
      where
        own : ((z : List ℕ) → c.supers ≡ z ∷ [] → first (own_method false s.name s.desc) (upwards p) ≡ Some f → Told (line_in w p) s f)
            → (o : Option Found) → own_method false s.name s.desc c ≡ o → c.is_imported ≡ false → or_else o (first (own_method false s.name s.desc) (upwards p ++ [])) ≡ Some f → Told (Declared c (added w c) (line_in w p)) s f
        own above (Some v) i2 imp j =
            let is : own_method false s.name s.desc c ≡ Some f = i2 ∙ j in
            let (kinds, numbers) = own_same s c d i is in
            let same : c ≡ d = one_class y c d g at kinds numbers in
            subst (λ (u : Class). Told (Declared u (added w u) (line_in w p)) s f) (sym same)
            (inside y p (g ∙ ap (λ (u : Class). Some u) same) (ap (λ (u : Class). u.is_imported) (sym same) ∙ imp) (subst (λ (u : Class). IsKin w u.supers p) same sp) (subst (λ (u : Class). own_method false s.name s.desc u ≡ Some f) same is))
        own above None i2 imp j =
            let (z, one) = rules.single y c g imp in
            below c (line_in w p) i2 (above z one (ap (first (own_method false s.name s.desc)) (sym (append-nil (upwards p))) ∙ j))

        by : ((z : List ℕ) → c.supers ≡ z ∷ [] → first (own_method false s.name s.desc) (upwards p) ≡ Some f → Told (line_in w p) s f) → (b : Bool) → c.is_imported ≡ b → Told (if b then Imported (c ∷ upwards p) else Declared c (added w c) (line_in w p)) s f
        by above true imp = outside y c p q g imp sp (known_here g sp ip ends) h foreign
          where
            only : (z : List ℕ) (b : Class) → Lists z (y ∷ []) → class_named w z ≡ Some b → b.is_imported ≡ true
            only z b foremost named =
                let same : c ≡ b = cc in
                sym (ap (λ (v : Class). v.is_imported) same) ∙ imp
            only z b (after l) named = elim l [ ]

            foreign : d.is_imported ≡ true
            foreign = imported_found (y ∷ []) (Known c p q End) s f (known_here g sp ip ends) only h
        by above false imp = own above (own_method false s.name s.desc c) refl imp h
    told_at xs k x (known_here g sp ip (unknown_here g2 b)) e h = cc
    told_at xs k x (known_here g sp ip (known_here g2 sp2 ip2 b)) e h = cc

  token_is : (m : MemberId) → IsFoundAbove w m → token_in (line_of w m.class) (signature_by m) ≡ token_found w (assigned applets files) m
  unfolding find_method line
  token_is m h = by t.either
    where
      s : Signature
      s = signature_by m

      f : Found
      f = member_at h.class (length h.class.fields + h.place)

      L : Line
      L = line_in w (kin w (m.class ∷ []))

      t : Told L s f
      t = told_at s h.class h.place h.method h.is_class h.is_method h.virtual h.shown h.kind (m.class ∷ []) (kin w (m.class ∷ [])) m.class (is_kin (m.class ∷ [])) refl h.found

      found : token_found w (assigned applets files) m ≡ unwrap_or (token_of_member (assigned applets files) f) 0
      found = ap (λ o. unwrap_or (option_and_then (token_of_member (assigned applets files)) (or_else o (first (own_method false m.name m.desc) (known (gathered false (kin w (m.class ∷ []))))))) 0) h.found

      by : ((finds_hidden L s ≡ true) × (token (hidden_slots L) s ≡ Some t.token_at) × (token_of_member (assigned applets files) f ≡ Some (with_high_bit t.token_at)))
          ⊎ ((finds_hidden L s ≡ false) × (token (slots L) s ≡ Some t.token_at) × (token_of_member (assigned applets files) f ≡ Some t.token_at)) → token_in L s ≡ token_found w (assigned applets files) m
      by (inl x) = ap (λ b. if b then with_high_bit (or_zero (token (hidden_slots L) s)) else or_zero (token (slots L) s)) x.0 ∙ ap (λ o. with_high_bit (or_zero o)) x.1 ∙ sym (found ∙ ap (λ o. unwrap_or o 0) x.2)
      by (inr x) = ap (λ b. if b then with_high_bit (or_zero (token (hidden_slots L) s)) else or_zero (token (slots L) s)) x.0 ∙ ap or_zero x.1 ∙ sym (found ∙ ap (λ o. unwrap_or o 0) x.2)

pub virtual_is_found : (p : Package) → ((xs : List (List ℕ)) → IsKin (world p) xs (kin (world p) xs)) → ((xs : List (List ℕ)) (j k : Kin) → IsKin (world p) xs j → IsKin (world p) xs k → j ≡ k) → KeepsRules (world p) → (m : MemberId) → IsFoundAbove (world p) m
    → virtual_token p m ≡ token_found (world p) (tokens p) m
virtual_is_found p is_kin one_kin rules m h = token_is p.files (has_applets p) is_kin one_kin rules m h
