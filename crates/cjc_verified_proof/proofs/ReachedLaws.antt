-- What tokens reach on objects of a class: methods of the descriptors that the tokens mean, of the package or imported.
use Rattle.std.proofs.Common.{◌≡◌, [], ◌⊎◌, inl, inr, ⊎_elim, ℕ, zero, suc, ◌+◌, ◌<◌, ◌==◌, Bool, true, false, not}
use Rattle.std.proofs.Common.{List, ◌∷◌, ◌++◌}
use Rattle.std.proofs.Common.{append-nil, length, map, slice_get, Option, Some, None, refl, sym, ap, subst, ◌∙◌, arith}
use Rattle.std.proofs.Common.{nat_lt}
use Rattle.std.specs.Prelude.{◌&&◌, ◌||◌, codes, if◌then◌else◌, option_and_then, option_map, position}
use Rattle.std.specs.Str.{bytes_eq}
use Rattle.std.proofs.lemmas.Bool.Decides.{nat_tests}
use Rattle.cjc_bytes.specs.AccessFlags.{is_interface, is_static}
use Rattle.cjc_check_rules.specs.Classes.{class_with}
use Rattle.cjc_check_rules.specs.Classes as check
use Rattle.cjc_world.specs.ExportFile.declared.tree.ExportClass.{ExportClass}
use Rattle.cjc_world.specs.ExportFile.declared.tree.ExportMethod.{ExportMethod}
use Rattle.cjc_world.specs.ExportFile.declared.tree.ExportTree.{ExportTree}
use Rattle.cjc_world.specs.ExportFile.Members.{is_unbound, method_token_taken}
use Rattle.cjc_world.specs.ExportFile.Supers.{IsAtOrAbove, above, at, classes_of, is_one_of, virtual_method}
use Rattle.cjc_world.specs.ExportFile.Supers as exports
use Rattle.cjc_world.specs.ExportFile.Writable.{ClassFits, IsWritable, MethodStands}
use Rattle.cjc_world.specs.declared.found.Found.{Found}
use Rattle.cjc_world.specs.Classes.{Class, Member, all_classes, class_named, imported, method_of_export}
use Rattle.cjc_world.specs.Lookup.{first, is_called, is_selectable, member_at, or_else, own_method}
use Rattle.cjc_world.specs.Supertypes.{AreSupertypes, Lists, Supertypes, after, ends, foremost, known_here, line}
use Rattle.cjc_world.specs.Supertypes.{supertypes, unknown_here, upwards}
use Rattle.cjc_tokens.specs.Lines.{line_of}
use Rattle.cjc_tokens.specs.Members.{In, Signature, all_methods, is_constructor, is_exposed, is_initialiser}
use Rattle.cjc_tokens.specs.Members.{is_virtual, later, same, signature_of}
use Rattle.cjc_tokens.specs.Members.{first_of as foremost_of}
use Rattle.cjc_tokens.specs.Slots.{hidden_slots, slots, token}
use Rattle.cjc_tokens.proofs.Facts.{position-cons, same-refl}
use Rattle.cjc_tokens.proofs.Walks.{supertypes-known}
use Rattle.cjc_token_proof.specs.VTable.Dispatch as tables
use Rattle.cjc_token_proof.specs.VTable.Laws.{Under, below, itself}
use Rattle.cjc_token_proof.specs.VTable.Naming.{named}
use Rattle.cjc_components.proofs.VTableCalls.{In-behind, In-front}
use Rattle.cjc_components.proofs.VTableGiven.{In-split}
use Rattle.cjc_components.proofs.VTableWorlds.{In-either, methods-behind, methods-front}
use Rattle.cjc_card_semantics.specs.Script.Sorts as sorts
use Rattle.cjc_card_semantics.specs.Machine.Classes as card
use Rattle.cjc_card_semantics.specs.Machine.Dispatch.{At, Outward, Selection, dispatched_hidden, dispatched_interface}
use Rattle.cjc_card_semantics.specs.Machine.Dispatch.{dispatched_open, tower}
use Rattle.cjc_card_semantics.specs.Machine.Loaded.{Loaded}
use Rattle.cjc_token_proof.specs.NCode.Lowering.Naming.{Naming}
use Rattle.cjc_components.specs.Package.{Package}
use Rattle.cjc_token_proof.specs.ByToken.Supers.{has_class}
use Rattle.cjc_token_proof.specs.Calls.Dispatching.{DispatchAgrees, event, selection_of}
use Rattle.cjc_verify.specs.Named.{first_of}
use Rattle.cjc_verify.specs.Pairs.{Pair}
use Rattle.cjc_verified_proof.specs.Checked.{Checked, HasCode, IsChecked, pair}
use Rattle.cjc_verified_proof.specs.Dispatching.{offset_in, package_of}
use Rattle.cjc_verified_proof.specs.Kept.{KeepsCalls}
use Rattle.cjc_verified_proof.specs.Selecting.{HasDesc, IsConcrete}
use Rattle.cjc_bytes.proofs.Bools.{and_true, or_right}
use Rattle.cjc_bytes.proofs.Gets.{all_at, find_got}
use Rattle.cjc_bytes.proofs.Lists.{bytes_true, name_is}
use Rattle.cjc_bytes.proofs.Numbers.{number_same}
use Rattle.cjc_bytes.proofs.Plain.{same_some}
use Rattle.cjc_world.proofs.ExportFileUpwards.{each_own, found_is}
use Rattle.cjc_token_proof.proofs.WrittenCalls.Facts.{Facts}
use Rattle.cjc_token_proof.proofs.WrittenCalls.Files.{export_at, export_from, export_virtual}
use Rattle.cjc_token_proof.proofs.WrittenCalls.Receivers.{line_found}
use Rattle.cjc_token_proof.proofs.WrittenCalls.Towers.{line_is, line_of_names}
use Rattle.cjc_verified_proof.proofs.ConcreteLaws.{tables_fit}
use Rattle.cjc_verified_proof.proofs.FixedLaws.{each_after, method_signed}
use Rattle.cjc_verified_proof.proofs.HoldsLaws.{hidden_holds, implementing_holds, selection_holds, unbound_virtual}
use Rattle.cjc_verified_proof.proofs.HoldsLaws.{under_on}
use Rattle.cjc_verified_proof.proofs.NamingLaws.{n as names}
use Rattle.cjc_verified_proof.proofs.PlaceLaws.{found_token}
use Rattle.cjc_verified_proof.proofs.SelectedLaws.{AreOf, Held, facts as facts_of, held_desc, held_is_of, selected}
use Rattle.cjc_verified_proof.proofs.TowerLaws.{dispatches}

-- ---- lists

one_lists : (y : List ℕ) (xs : List (List ℕ)) → is_one_of xs y ≡ true → Lists y xs
one_lists y [] e = cc
one_lists y (x ∷ xs) e = by (bytes_eq x y) refl e (one_lists y xs)
  where
    by : (t : Bool) → bytes_eq x y ≡ t → (t || is_one_of xs y) ≡ true → (is_one_of xs y ≡ true → Lists y xs)
        → Lists y (x ∷ xs)
    by true is h rest = subst (λ z. Lists y (z ∷ xs)) (sym (bytes_true x y is)) foremost
    by false is h rest = after (rest h)

one_name : (xs : List ExportClass) (k : ℕ) (x : ExportClass) → slice_get xs k ≡ Some x
    → is_one_of (map (λ (d : ExportClass). d.name) xs) x.name ≡ true
one_name [] k x e = cc
one_name (y ∷ xs) zero x e =
    let one : bytes_eq y.name x.name ≡ true = ap (λ (v : ExportClass). bytes_eq v.name x.name) (same_some e)
    ∙ name_is x.name in
    ap (λ b. b || is_one_of (map (λ (d : ExportClass). d.name) xs) x.name) one
one_name (y ∷ xs) (suc k) x e = by (bytes_eq y.name x.name) (one_name xs k x e)
  where
    by : (b : Bool) → is_one_of (map (λ (d : ExportClass). d.name) xs) x.name ≡ true → (b || is_one_of (map
        (λ (d : ExportClass). d.name) xs) x.name) ≡ true
    by true h = refl
    by false h = h

first_got : (t : ℕ) (xs : List ExportClass) (m : ExportMethod) → first_of (virtual_method t) xs ≡ Some m → (k : ℕ)
    × (x : ExportClass) × (slice_get xs k ≡ Some x) × (virtual_method t x ≡ Some m)
first_got t [] m e = cc
first_got t (x ∷ xs) m e = by (virtual_method t x) refl e (first_got t xs m)
  where
    by : (o : Option ExportMethod) → virtual_method t x ≡ o → card.or_else o (first_of (virtual_method t) xs) ≡ Some m
        → (first_of (virtual_method t) xs ≡ Some m → (k : ℕ) × (v : ExportClass) × (slice_get xs k ≡ Some v)
        × (virtual_method t v ≡ Some m)) → (k : ℕ) × (v : ExportClass) × (slice_get (x ∷ xs) k ≡ Some v)
        × (virtual_method t v ≡ Some m)
    by None is h rest = let r = rest h in (suc r.0, r.1, r.2, r.3)
    by (Some u) is h rest = (0, x, refl, is ∙ h)

in_cases : (m n : Member) (ms : List Member) → In m (n ∷ ms) → (n ≡ m) ⊎ In m ms
in_cases m n ms foremost_of = inl refl
in_cases m n ms (later i) = inr i

-- a method that may be selected is found, or one before it
own_there : (s : Signature) (d : Class) (m : Member) → In m d.methods → is_selectable m.flags ≡ true → signature_of m
    ≡ s
    → (f : Found) × (own_method true s.name s.desc d ≡ Some f)
unfolding own_method
own_there s d m i sel is = at_place (place d.methods i)
  where
    place : (ms : List Member) → In m ms → (k : ℕ) × (position (λ (n : Member).
        is_selectable n.flags && is_called s.name s.desc n) ms ≡ Some k)
    place [] i = elim i [ ]
    place (n ∷ ms) i = by (is_selectable n.flags && is_called s.name s.desc n) refl i (place ms)
      where
        step : (b : Bool) → (is_selectable n.flags && is_called s.name s.desc n) ≡ b
            → position (λ (v : Member). is_selectable v.flags && is_called s.name s.desc v)
            (n ∷ ms) ≡ (if b then Some 0 else option_map suc (position (λ (v : Member).
            is_selectable v.flags && is_called s.name s.desc v) ms))
        step b e = position-cons (λ (v : Member). is_selectable v.flags
            && is_called s.name s.desc v) n ms ∙ ap (λ t. if t then Some 0
            else option_map suc (position (λ (v : Member). is_selectable v.flags
            && is_called s.name s.desc v) ms)) e

        by : (b : Bool) → (is_selectable n.flags && is_called s.name s.desc n) ≡ b → In m (n ∷ ms) → (In m ms → (k : ℕ)
            × (position (λ (v : Member). is_selectable v.flags && is_called s.name s.desc v) ms ≡ Some k)) → (k : ℕ)
            × (position (λ (v : Member). is_selectable v.flags && is_called s.name s.desc v) (n ∷ ms) ≡ Some k)
        by true e i rest = (0, step true e)
        by false e i rest = ⊎_elim
            (λ one. (
            let yes : (is_selectable m.flags && is_called s.name s.desc m) ≡ true = ap (λ b. b && is_called s.name
            s.desc m)
            sel ∙ ap (λ v. same v s) is ∙ same-refl s in
            let clash : true ≡ false = sym yes ∙ ap (λ (v : Member). is_selectable v.flags && is_called s.name s.desc
            v) (sym
            one) ∙ e in
            absurd cc
            ))
            (λ j. (let r = rest j in (suc r.0, step false e ∙ ap (option_map suc) r.1)))
            (in_cases m n ms i)

    at_place : (k : ℕ) × (position (λ (n : Member). is_selectable n.flags && is_called s.name
        s.desc n) d.methods ≡ Some k) → (f : Found) × (option_map (λ i. member_at d
        (length d.fields + i)) (position (λ (n : Member). is_selectable n.flags && is_called
        s.name s.desc n) d.methods) ≡ Some f)
    at_place r = (
      member_at d (length d.fields + r.0),
      ap (option_map (λ i. member_at d (length d.fields + i))) r.1,
    )

pub select_there : (s : Signature) (cs : List Class) (m : Member) → In m (all_methods cs) → is_selectable m.flags ≡ true
    → signature_of m ≡ s → (f : Found) × (first (own_method true s.name s.desc) cs ≡ Some f)
unfolding first
select_there s [] m i sel is = elim i [ ]
select_there s (d ∷ cs) m i sel is = by (own_method true s.name s.desc d) refl (select_there s cs m)
  where
    by : (o : Option Found) → own_method true s.name s.desc d ≡ o → (In m (all_methods cs) → is_selectable m.flags ≡
        true
        → signature_of m ≡ s → (f : Found) × (first (own_method true s.name s.desc) cs ≡ Some f)) → (f : Found)
        × (or_else (own_method true s.name s.desc d) (first (own_method true s.name s.desc)
        cs) ≡ Some f)
    by (Some g) e rest = (g, ap (λ o. or_else o (first (own_method true s.name s.desc) cs)) e)
    by None e rest = ⊎_elim
        (λ j. (let r = own_there s d m j sel is in let clash : None ≡ Some r.0 = sym e ∙ r.1 in absurd cc))
        (λ j. (let r = rest j sel is in (
          r.0,
          ap (λ o. or_else o (first (own_method true
              s.name s.desc) cs)) e ∙ r.1,
        )))
        (In-split m d.methods (all_methods cs) i)

-- a virtual method of a class of an export file has a token of seven bits
virtual_low : (files : List ExportTree) → ((e : ℕ) (t : ExportTree) → slice_get files e ≡ Some t → IsWritable t)
    → (import class : ℕ) (x : ExportClass) → check.imported files import class ≡ Some x → is_interface x.flags ≡ false
    → (k : ℕ) (m : ExportMethod) → slice_get x.methods k ≡ Some m → is_unbound m.flags m.name ≡ false → m.token < 128
virtual_low files written import class x e plain k m is bound = by (slice_get files import) refl e
  where
    last : (a b : Bool) (n : ℕ) → (a || (not b && nat_lt 127 n)) ≡ false → b ≡ false → n < 128
    last a b n f g =
        let h : (not b && nat_lt 127 n) ≡ false = or_right a (not b && nat_lt 127 n) f in
        let i : nat_lt 127 n ≡ false = sym (ap (λ v. not v && nat_lt 127 n) g) ∙ h in
        grind (arith, nat_tests, i)

    by : (o : Option ExportTree) → slice_get files import ≡ o → option_and_then (class_with class) o ≡ Some x
        → m.token < 128
    by None f h = cc
    by (Some t) f h =
        let w = written import t f in
        let got = find_got (λ (c : ExportClass). c.token == class) t.classes x h in
        let fits = each_after ClassFits [] t.classes got.0 x w.classes got.1 in
        let fit = fits.1 in
        let stands = each_after (MethodStands (is_interface x.flags) (length x.methods)) [] x.methods k m fit.methods
        is in
        let own : MethodStands false (length x.methods) stands.0 m = subst (λ b. MethodStands b (length x.methods)
        stands.0 m)
        plain stands.1 in
        last (method_token_taken stands.0 (is_unbound m.flags m.name) m.token) (is_unbound m.flags m.name) m.token own.1
        bound

module _ (c : Checked) (ok : IsChecked c) (has : HasCode c) (keep : KeepsCalls c) where
  abbrev p : Pair
  p = pair c

  abbrev l : Loaded
  l = p.loaded

  abbrev w : List Class
  w = all_classes c.files

  abbrev q : Package
  q = package_of c.list c.files c.image

  abbrev n : Naming
  n = names c.name c.list c.files c.image c.components ok.sound ok.paired ok.verified

  abbrev facts : Facts q
  facts = facts_of c ok has keep

  abbrev es : List ExportClass
  es = classes_of (let f = c.files in f.exports)

  -- ---- what is reached

  -- what is reached on objects of a class has the descriptor, and things that count as such objects are of its class
  pub record Fits (x : List ℕ) (desc : List ℕ) (sel : Selection) : Type 0 where
    pub desc_is : HasDesc p desc sel
    pub is_held : AreOf c ok has keep x sel

  module _ (x : List ℕ) (k : Class) (e : class_named w x ≡ Some k) (plain : is_interface k.flags ≡ false) where
    agreed : (z : List ℕ) × DispatchAgrees w n (offset_in p) x z
    agreed = dispatches c.name c.list c.files c.image c.components ok.sound ok.paired ok.verified keep.agree
        (tables_fit c ok has keep) x k e plain

    selection_fits : (s : Signature) (f : Found) → named w f ≡ Some s → (f.imported ≡ false → Held c ok has keep x s f)
        → (foot : List ℕ) (sel : Selection) → sel ≡ selection_of n (offset_in p) foot s f → Fits x s.desc sel
    selection_fits s f is held foot sel same =
        let r = selected c ok has keep x s f is held foot in
        subst (Fits x s.desc) (sym same) (record { desc_is = r.0; is_held = r.1 })

    pub open_fits : (t : ℕ) (s : Signature) (f : Found) → tables.dispatched (tables.tower_of w x) t ≡ Some f → named w f
        ≡ Some s → (f.imported ≡ false → Held c ok has keep x s f) → Fits x s.desc (dispatched_open (tower l (n.class
        x))
        t)
    open_fits t s f found is held =
        let a = agreed in
        let b = a.1 in
        selection_fits s f is held a.0 (dispatched_open (tower l (n.class x)) t) (b.open_method t f s found is)

    pub interface_fits : (i : List ℕ) (t : ℕ) (s : Signature) (f : Found)
        → has_class w i ≡ true
        → tables.dispatched_interface (tables.tower_of w x) i t ≡ Some f → named w f ≡ Some s → (f.imported ≡ false
        → Held c ok has keep x s f) → Fits x s.desc
        (dispatched_interface l (Some (n.class x)) (n.class i) t)
    interface_fits i t s f there found is held =
        let a = agreed in
        let b = a.1 in
        selection_fits s f is held a.0 (dispatched_interface l (Some
        (n.class x)) (n.class i) t) (b.interface_method i t f s there found is)

    pub interface_same : (i : List ℕ) (t u : ℕ) (s : Signature) (f : Found)
        → has_class w i ≡ true
        → tables.dispatched_interface (tables.tower_of w x) i t ≡ Some f → tables.dispatched (tables.tower_of w x) u
        ≡ Some f → named w f ≡ Some s → dispatched_interface l (Some
        (n.class x)) (n.class i) t ≡ dispatched_open (tower l (n.class x)) u
    interface_same i t u s f there found by_token is =
        let b = agreed.1 in
        b.interface_method i t f s there found is ∙ sym (b.open_method u f s by_token is)

    -- an imported method is not an abstract one of the package
    pub far_concrete : (u : ℕ) (s : Signature) (f : Found) → tables.dispatched (tables.tower_of w x) u ≡ Some f →
        named w f
        ≡ Some s → f.imported ≡ true → IsConcrete p (dispatched_open (tower l (n.class x)) u)
    far_concrete u s f found is far =
        let a = agreed in
        let b = a.1 in
        subst (IsConcrete p) (sym (b.open_method u f s found is ∙ ap (λ i. if i then Outward (event a.0 s) else At 0
        (offset_in
        p f)) far)) tt

    hidden_method_fits : (t : ℕ) (s : Signature) (f : Found) → tables.dispatched_hidden (tables.tower_of w x) t ≡ Some f
        → f.imported ≡ false → Held c ok has keep x s f → Fits x s.desc (dispatched_hidden (tower l (n.class x)) 0 t)
    hidden_method_fits t s f found own held =
        let a = agreed in
        let b = a.1 in
        let same : dispatched_hidden (tower l (n.class x)) 0 t ≡ At 0 (offset_in p f) = b.package_method t f s found
        ∙ ap (λ i. if i then Outward (event a.0 s) else At 0 (offset_in p f)) own in
        subst (Fits x s.desc) (sym same) (record {
          desc_is = held_desc c ok has keep x s f held;
          is_held = λ v b g under kind alike. held_is_of c ok has keep x s f held v b g under kind alike;
        })

    -- a public or protected token of a class at or above it
    pub shown_fits : (y : List ℕ) (d : Class) → class_named w y ≡ Some d → Under w x y → (s : Signature) (t : ℕ)
        → token (slots (line_of w y)) s ≡ Some t → Fits x s.desc (dispatched_open (tower l (n.class x)) t)
    shown_fits y d named_y under s t h =
        let once = facts.tokens_once x y k d e plain named_y under in
        let a = keep.agree in
        let r = a.open_tokens x k e plain s t (once.inherited s t h) in
        open_fits t s r.method r.by_token r.name (implementing_holds q facts x k e plain s r.method r.nearest)

    -- a package-visible one
    pub hidden_fits : (y : List ℕ) (d : Class) → class_named w y ≡ Some d → Under w x y → (s : Signature) (t : ℕ)
        → token (hidden_slots (line_of w y)) s ≡ Some t → Fits x s.desc (dispatched_hidden (tower l (n.class x)) 0 t)
    hidden_fits y d named_y under s t h =
        let once = facts.tokens_once x y k d e plain named_y under in
        let a = keep.agree in
        let r = a.hidden_tokens x k e s t (once.hidden_inherited s t h) in
        hidden_method_fits t s r.method r.by_token r.own (hidden_holds q facts x k e plain s r.method r.nearest)

  -- ---- methods of imported classes above

  known_of : (y z : List ℕ) (d : Class) → Under w y z → class_named w z ≡ Some d → (k : Class) × (class_named w y
      ≡ Some k)
  known_of y z d itself e = (d, e)
  known_of y z d (below k h l rest) e = (k, h)

  names_has : (xs : List (List ℕ)) (k : Supertypes) → AreSupertypes w xs k → (y : List ℕ) (d : Class) → Lists y xs
      → class_named w y ≡ Some d → (m : Member) → In m (all_methods (upwards (supertypes w (y ∷ []))))
      → In m (all_methods (upwards k))
  names_has xs k ends y d listed e m i = elim listed [ ]
  names_has xs k (unknown_here {next = r} none rest) y d foremost e m i = absurd cc
  names_has xs k (unknown_here {xs = ys} {next = r} none rest) y d (after listed) e m i = names_has ys r rest y d
      listed e m i
  names_has xs k (known_here {c = b} {supers = su} {next = r} known ks ki kn) y d foremost e m i =
      let same : supertypes w b.supers ≡ su = facts.one_supertypes b.supers (supertypes w b.supers) su
      (facts.are_supertypes b.supers) ks in
      let tree = supertypes-known w facts.are_supertypes facts.one_supertypes y b known in
      let j : In m (b.methods ++ all_methods (upwards su ++ [])) = subst (λ v. In m (b.methods ++ all_methods (upwards v
      ++ []))) same (subst (λ v. In m (all_methods (upwards v))) tree i) in
      In-either m b.methods (all_methods (upwards su ++ [])) (b.methods ++ all_methods (upwards su ++ upwards r))
      (λ a. In-front m b.methods (all_methods (upwards su ++ upwards r)) a)
      (λ a. In-behind m b.methods (all_methods (upwards su ++ upwards r)) (methods-front (upwards su) (upwards r) m
      (subst (λ v. In m (all_methods v)) (append-nil (upwards su)) a)))
      j
  names_has xs k (known_here {xs = ys} {c = b} {supers = su} {next = r} known ks ki kn) y d (after listed) e m i =
      In-behind m b.methods (all_methods (upwards su ++ upwards r)) (methods-behind (upwards su) (upwards r) m
      (names_has
      ys r kn y d listed e m i))

  line_has : (x y : List ℕ) (d : Class) → Under w x y → class_named w y ≡ Some d → (m : Member) → In m d.methods
      → In m (all_methods (line w x))
  line_has x y d itself e m i = subst (λ v. In m (all_methods v)) (sym (line_is q facts x d e)) (In-front m d.methods
      (all_methods (upwards (supertypes w d.supers))) i)
  line_has x y d (below {y = b} k h l rest) e m i =
      let o = known_of b y d rest e in
      let up = names_has k.supers (supertypes w k.supers) (facts.are_supertypes k.supers) b o.0 l o.1 m (subst (λ v.
      In m
      (all_methods v)) (line_of_names q facts b) (line_has b y d rest e m i)) in
      subst (λ v. In m (all_methods v)) (sym (line_is q facts x k h)) (In-behind m k.methods (all_methods (upwards
      (supertypes w k.supers))) up)

  -- a virtual method of an imported class, by its token there
  pub listed_fits : (x : List ℕ) (k : Class) → class_named w x ≡ Some k → is_interface k.flags ≡ false → (y : List ℕ)
      (d : Class) → class_named w y ≡ Some d → d.is_imported ≡ true → Under w x y → (m : Member) → In m d.methods
      → is_virtual m ≡ true → Fits x m.desc (dispatched_open (tower l (n.class x)) m.token)
  listed_fits x k e plain y d named_y imp under m i virtual = by (is_exposed m.flags) refl
    where
      among : In m (d.methods ++ all_methods (upwards (supertypes w d.supers)))
      among = In-front m d.methods (all_methods (upwards (supertypes w d.supers))) i

      both : (a b : Bool) → a ≡ true → b ≡ true → (a && b) ≡ true
      both true true f g = refl
      both false b f g = cc
      both true false f g = cc

      by : (b : Bool) → is_exposed m.flags ≡ b → Fits x m.desc (dispatched_open (tower l (n.class x)) m.token)
      by true exposed =
          let once = facts.tokens_once x y k d e plain named_y under in
          shown_fits x k e plain y d named_y under (signature_of m) m.token (once.listed d m named_y imp among (both
          (is_exposed m.flags) (is_virtual m) exposed virtual))
      by false exposed =
          let a = keep.agree in
          let b = a.calls in
          let alike = b.imported_calls x y k d m e plain named_y imp under among (both (not (is_exposed m.flags))
          (is_virtual m) (ap not exposed) virtual) in
          let two = and_true (is_selectable m.flags) (not (is_constructor m.name || is_initialiser m.name)) virtual in
          let r = select_there (signature_of m) (line w x) m (line_has x y d under named_y m i) two.0 refl in
          open_fits x k e plain m.token (signature_of m) r.0 (alike ∙ r.1) (line_found q facts true m.name m.desc x
          r.0 r.1)
          (selection_holds q facts x k e plain (signature_of m) (unbound_virtual m virtual).1 r.0 r.1)

  -- ---- what an export file says of a class, and those above it

  -- what a method of an imported class keeps
  pub imported_keeps : (y : List ℕ) (d : Class) → class_named w y ≡ Some d → d.is_imported ≡ true → (i : ℕ) (m : Member)
      → slice_get d.methods i ≡ Some m → ((t : sorts.Signature) × (sorts.signature_of m.desc ≡ Some t))
      × (is_interface d.flags ≡ false → is_virtual m ≡ true → m.token < 128)
  imported_keeps y d e imp i m listed =
      let h = facts.file y d e imp in
      let x = h.entry in
      let r = export_from x.methods i m (sym (ap (λ (v : Class). slice_get v.methods i) h.class) ∙ listed) in
      let files = c.files in
      let found : check.imported files.exports h.file x.token ≡ Some x = ap (option_and_then (class_with x.token))
      h.in_list
      ∙ found_token (let t = h.tree in t.classes) x.token ∙ sym (ap (option_and_then (λ (t : ExportTree).
      card.with_token
      t.classes x.token)) h.in_list) ∙ h.there in
      let sig = method_signed files.exports has.written h.file x.token x found i r.0 r.1 in (
        (sig.0, ap (λ (v : Member). sorts.signature_of v.desc) (sym r.2) ∙ sig.1),
        λ plain virtual. (subst (λ (v : Member). v.token < 128) r.2 (virtual_low files.exports has.written h.file
            x.token x
            found (sym (ap (λ (v : Class). is_interface v.flags) h.class) ∙ plain) i r.0 r.1 (unbound (let v = r.0
            in is_static v.flags) (let v = r.0 in bytes_eq v.name (codes "<init>")) (ap (λ (v : Member). is_static
            v.flags)
            r.2 ∙ (unbound_virtual m virtual).0) (ap (λ (v : Member). is_constructor v.name) r.2 ∙ constructor m
            virtual)))),
      )
    where
      unbound : (a b : Bool) → a ≡ false → b ≡ false → (a || b) ≡ false
      unbound false false f g = refl
      unbound true b f g = cc
      unbound false true f g = cc

      constructor : (m : Member) → is_virtual m ≡ true → is_constructor m.name ≡ false
      constructor m v = by (is_constructor m.name) (is_initialiser m.name) (and_true (is_selectable m.flags) (not
          (is_constructor m.name || is_initialiser m.name)) v).1
        where
          by : (a b : Bool) → not (a || b) ≡ true → a ≡ false
          by true b f = cc
          by false b f = refl

  above_under : (y : List ℕ) (k : ℕ) (e : ExportClass) → class_named w y ≡ Some (imported k e) → (z : List ℕ)
      → IsAtOrAbove es e.supers z → Under w y z
  above_under y k e known z (at is) = below (imported k e) known (one_lists z e.supers is) itself
  above_under y k e known z (above {x = x} u up named_x is) =
      let o = facts.of_file x u named_x in
      under_on w y x z (above_under y k e known x up) (below (imported o.0 u) o.1 (one_lists z u.supers is) itself)

  pub under_plain : (x y : List ℕ) → Under w x y → (k d : Class) → class_named w x ≡ Some k → is_interface k.flags ≡
      false
      → class_named w y ≡ Some d → is_interface d.flags ≡ false
  under_plain x y itself k d e plain f = ap (λ (v : Class). is_interface v.flags) (same_some (sym f ∙ e)) ∙ plain
  under_plain x y (below {y = b} v h l rest) k d e plain f =
      let o = known_of b y d rest f in
      under_plain b y rest o.0 d o.1 (facts.rules.superclasses x b v o.0 h l o.1) f

  -- a virtual method of a token that an export file or one above it lists, by the class that lists it
  pub record IsGiven (y : List ℕ) (t : ℕ) (m : ExportMethod) : Type 0 where
    pub holder : List ℕ
    pub class : Class
    pub known : class_named w holder ≡ Some class
    pub imported : class.is_imported ≡ true
    pub under : Under w y holder
    pub place : ℕ
    pub there : slice_get class.methods place ≡ Some (method_of_export m)
    pub virtual : is_virtual (method_of_export m) ≡ true
    pub token_is : m.token ≡ t

  pub given : (y : List ℕ) (k : ℕ) (e : ExportClass) → class_named w y ≡ Some (imported k e) → (t : ℕ) (m :
      ExportMethod)
      → first_of (virtual_method t) (e ∷ exports.upwards es e.supers) ≡ Some m → IsGiven y t m
  given y k e known t m is = by (first_got t (e ∷ exports.upwards es e.supers) m is)
    where
      -- of a class with its way
      of_class : (z : List ℕ) (j : ℕ) (x : ExportClass) → class_named w z ≡ Some (imported j x) → Under w y z
          → virtual_method t x ≡ Some m → IsGiven y t m
      of_class z j x named_z under f =
          let g = find_got (λ (v : ExportMethod). exports.is_virtual v && (v.token == t)) x.methods m f in
          let two = and_true (exports.is_virtual m) (m.token == t) g.2 in
          let o = facts.in_file z (imported j x) named_z refl in
          let u = export_from (let v = o.1 in v.methods) g.0 (method_of_export m) (ap (λ (v : Class). slice_get
          v.methods g.0)
          (sym o.3) ∙ export_at x.methods g.0 m g.1) in
          record {
            holder = z;
            class = imported j x;
            known = named_z;
            imported = refl;
            under = under;
            place = g.0;
            there = export_at x.methods g.0 m g.1;
            virtual = sym (export_virtual m (λ init. (ap (λ (v : Member). is_static v.flags) (sym u.2) ∙ facts.plain z
                o.1
                o.2 g.0 u.0 u.1 (ap (λ (v : Member). is_initialiser v.name) u.2 ∙ init)))) ∙ two.0;
            token_is = number_same m.token t two.1;
          }

      by : (i : ℕ) × (x : ExportClass) × (slice_get (e ∷ exports.upwards es e.supers) i ≡ Some x) × (virtual_method t x
          ≡ Some m) → IsGiven y t m
      by (zero, x, at_i, f) = of_class y k e known itself (ap (virtual_method t) (same_some at_i) ∙ f)
      by (suc i, x, at_i, f) =
          let own = all_at (λ (v : ExportClass). exports.class_named es v.name ≡ Some v) (exports.upwards es e.supers)
          i x
          (each_own es e.supers) at_i in
          let o = facts.of_file x.name x own in
          let far = found_is es e.supers x.name (one_name (exports.upwards es e.supers) i x at_i) in
          of_class x.name o.0 x o.1 (above_under y k e known x.name far.0) f
