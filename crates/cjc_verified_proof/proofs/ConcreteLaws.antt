-- A class that is not abstract has no abstract method for one of its tokens, and a token that means a method of the
-- package
-- fits seven bits.
use Rattle.std.proofs.Common.{◌≡◌, [], ℕ, zero, suc, ◌+◌, ◌-◌, ◌<◌, ◌≤◌, ◌==◌, Bool, true, false, not, List, ◌∷◌}
use Rattle.std.proofs.Common.{length, map, drop, slice_get, Option, Some, None, refl, sym, ap, subst, ◌∙◌, arith}
use Rattle.std.proofs.Common.{nat_lt}
use Rattle.std.specs.Prelude.{◌&&◌, ◌||◌, if◌then◌else◌, option_map, position}
use Rattle.std.specs.List.{range_with_len}
use Rattle.std.proofs.lemmas.Bool.Decides.{nat_tests}
use Rattle.std.proofs.lemmas.Option.{slice_get-map}
use Rattle.cjc_bytes.specs.AccessFlags.{is_interface}
use Rattle.cjc_check_rules.specs.Classes.{first_interface}
use Rattle.cjc_world.specs.ExportFile.declared.tree.ExportClass.{ExportClass}
use Rattle.cjc_world.specs.ExportFile.declared.tree.ExportMethod.{ExportMethod}
use Rattle.cjc_world.specs.ExportFile.Supers.{virtual_method}
use Rattle.cjc_check_rules.specs.Spots.{beside, in_info}
use Rattle.cjc_check_rules.specs.declared.spot.ComponentPlace.{ComponentPlace}
use Rattle.cjc_world.specs.declared.found.Found.{Found}
use Rattle.cjc_world.specs.Classes.{Class, Member, all_classes, class_named}
use Rattle.cjc_world.specs.Lookup.{first, member_at}
use Rattle.cjc_world.specs.Order.{class_order}
use Rattle.cjc_world.specs.Supertypes.{AreSupertypes, End, Known, Lists, Supertypes, Unknown, foremost}
use Rattle.cjc_world.specs.Supertypes.{known_here, supertypes, unknown_here}
use Rattle.cjc_world.specs.Supertypes.{upwards}
use Rattle.cjc_tokens.specs.Lines.{line_at, line_in, line_of}
use Rattle.cjc_tokens.specs.Members.{Signature, is_virtual}
use Rattle.cjc_tokens.specs.Slots.{hidden_row, hidden_slots, implementing, implementing_hidden, meant_by, row, slots}
use Rattle.cjc_tokens.specs.Slots.{token}
use Rattle.cjc_tokens.proofs.Held.{here-has_slot, token-slot}
use Rattle.cjc_tokens.proofs.Walks.{supertypes-known}
use Rattle.cjc_token_proof.specs.VTable.Dispatch.{own_by_token}
use Rattle.cjc_token_proof.specs.VTable.Dispatch as tables
use Rattle.cjc_token_proof.specs.VTable.Laws.{Under, below, itself}
use Rattle.cjc_token_proof.specs.VTable.Naming.{named}
use Rattle.cjc_token_proof.specs.VTable.Tables.{base, entries, methods, of_package, table_of}
use Rattle.cjc_components.proofs.VTableCalls.{token-some}
use Rattle.cjc_components.proofs.VTableOnce.{slots-once}
use Rattle.cjc_components.proofs.VTableSlotNames.{implementing-named, seen-line}
use Rattle.cjc_components.proofs.VTableWorlds.{told-class}
use Rattle.cjc_card_semantics.specs.Machine.Classes.{External, Info, IsClass, Own, external, info_size, offset_from}
use Rattle.cjc_card_semantics.specs.Machine.Dispatch.{Hidden, NotFound, At, Open, Outward, Selection, Token, dispatched}
use Rattle.cjc_card_semantics.specs.Machine.Dispatch.{dispatched_hidden, dispatched_open, dispatched_outward}
use Rattle.cjc_card_semantics.specs.Machine.Dispatch.{exported_line}
use Rattle.cjc_card_semantics.specs.Machine.Dispatch.{in_files}
use Rattle.cjc_card_semantics.specs.Machine.Dispatch.{outward, tower}
use Rattle.cjc_card_semantics.specs.Machine.Loaded.{Loaded}
use Rattle.cjc_token_proof.specs.NCode.Lowering.Naming.{Naming}
use Rattle.cjc_components.specs.Package.{Package}
use Rattle.cjc_verify.specs.Infos.{abstract_spots, all_tokens, has_abstract_method, infos}
use Rattle.cjc_verify.specs.Named.{is_abstract_selection, is_unmade}
use Rattle.cjc_verify.specs.Pairs.{Pair}
use Rattle.cjc_verified_proof.specs.Checked.{Checked, HasCode, IsChecked, pair}
use Rattle.cjc_verified_proof.specs.ClassInfos.{wanted_info}
use Rattle.cjc_verify.specs.WantedInfos.{wanted_entry}
use Rattle.cjc_verified_proof.specs.Dispatching.{TablesFit, package_of}
use Rattle.cjc_verified_proof.specs.Kept.{KeepsCalls}
use Rattle.cjc_verified_proof.specs.Selecting.{IsConcrete}
use Rattle.cjc_bytes.proofs.Bools.{not_true}
use Rattle.cjc_bytes.proofs.Gets.{any_off, get_behind, in_front, item_there, mapped_at}
use Rattle.cjc_bytes.proofs.Lists.{none_left, none_right}
use Rattle.cjc_bytes.proofs.Plain.{same_some}
use Rattle.cjc_verify.proofs.CardLinkInfoPlaces.{all_starts as starts_of_infos}
use Rattle.cjc_token_proof.proofs.TablesLaws.Above.{entry_of_name}
use Rattle.cjc_token_proof.proofs.WrittenCalls.Facts.{Facts}
use Rattle.cjc_token_proof.proofs.WrittenCalls.Files.{first_imported_found}
use Rattle.cjc_verified_proof.proofs.EntryLaws.{unless_holds}
use Rattle.cjc_verified_proof.proofs.HoldsLaws.{Holds, hidden_holds, implementing_holds, lower_holds}
use Rattle.cjc_verified_proof.proofs.InfoLaws.{abstract_clean, infos_are}
use Rattle.cjc_verified_proof.proofs.KindLaws as kinds
use Rattle.cjc_verified_proof.proofs.NameLaws.{starts_read}
use Rattle.cjc_verified_proof.proofs.NamingLaws.{n as names}
use Rattle.cjc_verified_proof.proofs.SelectedLaws.{facts as facts_of, offset_low}
use Rattle.cjc_world.proofs.Cycles.{class_named-name}

-- ---- lists

-- what is tested of an info at its offset
beside_place : {B : Type 0} (broken : ℕ → Info → B → List ComponentPlace) (at : ℕ) (is : List Info) (ys : List B) (k :
    ℕ)
    (x : Info) (y : B) (o : ℕ) → beside info_size broken at is ys ≡ [] → slice_get is k ≡ Some x → slice_get ys k
    ≡ Some y → offset_from at is k ≡ Some o → broken o x y ≡ []
unfolding beside
beside_place broken at [] ys k x y o e f g h = cc
beside_place broken at (u ∷ is) [] k x y o e f g h = cc
beside_place broken at (u ∷ is) (v ∷ ys) zero x y o e f g h =
    ap (λ a. broken a x y) (sym (same_some h)) ∙ ap (λ i. broken at i y) (sym (same_some f))
    ∙ ap (broken at u) (sym (same_some g)) ∙ none_left (broken at u v) (beside info_size broken (at + info_size u) is
    ys) e
beside_place broken at (u ∷ is) (v ∷ ys) (suc k) x y o e f g h = beside_place broken (at + info_size u) is ys k x y o
    (none_right (broken at u v) (beside info_size broken (at + info_size u) is ys) e) f g h

range_at : (a count k : ℕ) → k < count → slice_get (range_with_len a count) k ≡ Some (a + k)
range_at a zero k lt = absurd (omega (arith, lt))
range_at a (suc n) zero lt = let z : a ≡ a + 0 = omega arith in ap (λ m. Some m) z
range_at a (suc n) (suc k) lt = let z : a + 1 + k ≡ a + suc k = omega arith in range_at (a + 1) n k (omega (arith, lt))
    ∙ ap (λ m. Some m) z

get_dropped : {A : Type 0} (xs : List A) (b k : ℕ) → slice_get (drop b xs) k ≡ slice_get xs (b + k)
get_dropped [] zero k = let z : k ≡ 0 + k = omega arith in ap (slice_get []) z
get_dropped [] (suc b) k = refl
get_dropped (x ∷ xs) zero k = let z : k ≡ 0 + k = omega arith in ap (slice_get (x ∷ xs)) z
get_dropped (x ∷ xs) (suc b) k =
    let z : suc (b + k) ≡ suc b + k = omega arith in
    get_dropped xs b k ∙ ap (slice_get (x ∷ xs)) z

-- ---- tables

-- an entry of a table is a method of the package that stands in the row
of_package_is : (o : Option Found) (f : Found) → of_package o ≡ Some f → (o ≡ Some f) × (f.imported ≡ false)
of_package_is None f e = cc
of_package_is (Some g) f e = by g.imported refl e
  where
    by : (b : Bool) → g.imported ≡ b → (if b then None else Some g) ≡ Some f → (Some g ≡ Some f) × (f.imported ≡ false)
    by true is h = cc
    by false is h = (h, ap (λ (v : Found). v.imported) (sym (same_some h)) ∙ is)

entry_is : (class : ℕ) (fs : List (Option Found)) (j : ℕ) (f : Found) → slice_get (entries class fs) j ≡ Some (Some f)
    → (slice_get fs (base class fs + j) ≡ Some (Some f)) × (f.imported ≡ false)
entry_is class fs j f e =
    let r = mapped_at of_package (drop (base class fs) fs) j (Some f) e in
    let o = of_package_is r.0 f r.2 in
    (sym (get_dropped fs (base class fs) j) ∙ r.1 ∙ ap (λ v. Some v) o.0, o.1)

methods_is : (os : List (Option Found)) (j : ℕ) (f : Found) → slice_get (methods os) j ≡ Some f → (i : ℕ)
    × (slice_get os i ≡ Some (Some f))
methods_is [] j f e = cc
methods_is (None ∷ os) j f e = let r = methods_is os j f e in (suc r.0, r.1)
methods_is (Some g ∷ os) zero f e = (0, ap (λ v. Some v) e)
methods_is (Some g ∷ os) (suc j) f e = let r = methods_is os j f e in (suc r.0, r.1)

-- a method of a row is that of a slot
meant_is : (implements : Signature → Option Found) (all : List (Option Signature)) (t : ℕ) (f : Found)
    → slice_get (map (meant_by implements) all) t ≡ Some (Some f) → (s : Signature) × (slice_get all t ≡ Some (Some s))
    × (implements s ≡ Some f)
meant_is implements all t f e = by (mapped_at (meant_by implements) all t (Some f) e)
  where
    by : (o : Option Signature) × (slice_get all t ≡ Some o) × (meant_by implements o ≡ Some f) → (s : Signature)
        × (slice_get all t ≡ Some (Some s)) × (implements s ≡ Some f)
    by (None, g, h) = cc
    by (Some s, g, h) = (s, g, h)

token_kind : (t : ℕ) (v : Class) (g : Found) → own_by_token t v ≡ Some g → g.imported ≡ v.is_imported
unfolding own_by_token
token_kind t v g h = by (position (λ (m : Member). is_virtual m && (m.token == t)) v.methods) h
  where
    by : (o : Option ℕ) → option_map (λ i. member_at v (length v.fields + i)) o ≡ Some g → g.imported ≡ v.is_imported
    by None i = cc
    by (Some j) i = sym (ap (λ (u : Found). u.imported) (same_some i))

outward_concrete : (p : Pair) (class : List ℕ) (o : Option ExportMethod) (other : Selection) → IsConcrete p other
    → IsConcrete p (outward class o other)
outward_concrete p class None other h = h
outward_concrete p class (Some m) other h = tt

files_concrete : (p : Pair) (class : List ℕ) (cs : List ExportClass) (t : ℕ) → IsConcrete p (dispatched_outward class
    cs t)
files_concrete p class [] t = tt
files_concrete p class (x ∷ cs) t = outward_concrete p class (virtual_method t x) (dispatched_outward class cs t)
    (files_concrete p class cs t)

in_files_concrete : (p : Pair) (cs : List ExportClass) (t : ℕ) → IsConcrete p (in_files cs t)
in_files_concrete p [] t = tt
in_files_concrete p (x ∷ cs) t = files_concrete p x.name (x ∷ cs) t

pub concrete_so : (p : Pair) (sel : Selection) → is_abstract_selection p sel ≡ false → IsConcrete p sel
concrete_so p NotFound h = tt
concrete_so p (At part offset) h = h
concrete_so p (Outward id) h = tt

module _ (c : Checked) (ok : IsChecked c) (has : HasCode c) (keep : KeepsCalls c) where
  abbrev p : Pair
  p = pair c

  abbrev l : Loaded
  l = p.loaded

  abbrev w : List Class
  w = all_classes c.files

  abbrev q : Package
  q = package_of c.list c.files c.image

  abbrev n : Naming
  n = names c.name c.list c.files c.image c.components ok.sound ok.paired ok.verified

  abbrev applets : Bool
  applets = let t = c.list in nat_lt 0 (length t.applets)

  abbrev facts : Facts q
  facts = facts_of c ok has keep

  -- ---- a class of which objects are made

  module _ (k : Class) (e : class_named w k.name ≡ Some k) (own : k.is_imported ≡ false) (plain : is_interface k.flags
      ≡ false) (made : is_unmade k.flags ≡ false) where
    none_abstract : (token : Token) (i : ℕ) → slice_get all_tokens i ≡ Some token → is_abstract_selection p (dispatched
        (tower l (n.class k.name)) token) ≡ false
    none_abstract token i at =
        let s = kinds.own_stands c.name c.list c.files c.image c.components ok.sound ok.paired ok.verified k.name k e
        own in
        let clean = abstract_clean c.name applets c.files c.image c.components ok.sound ok.paired ok.verified in
        let x = c.components in
        let there : slice_get (infos x.class) s.number ≡ Some (IsClass (wanted_entry p k)) = ap (λ is. slice_get is
        s.number) (infos_are c.name applets c.files c.image c.components ok.sound ok.paired ok.verified)
        ∙ slice_get-map (wanted_info p) (class_order w) s.number ∙ ap (option_map (wanted_info p)) s.ordered
        ∙ ap (λ b. Some (if b then Rattle.cjc_card_semantics.specs.Machine.Classes.IsInterface
        (Rattle.cjc_components.specs.Class.interface_entry (Rattle.cjc_verify.specs.Pairs.class_ref p)
        (Rattle.cjc_verify.specs.Pairs.world p) k) else IsClass (wanted_entry p k))) plain in
        let from : offset_from 2 (infos x.class) s.number ≡ Some s.offset = sym (starts_read 2 (infos x.class) s.number)
        ∙ sym (ap (λ (xs : List ℕ). slice_get xs s.number) (starts_of_infos x.class)) ∙ s.starts in
        let spots = beside_place (abstract_spots p) first_interface (infos x.class) (class_order w) s.number (IsClass
        (wanted_entry p k)) k s.offset clean there s.ordered from in
        let fine = unless_holds (is_unmade k.flags || not (has_abstract_method p s.offset)) (in_info 6 s.offset) spots
        in
        let none = not_true (has_abstract_method p s.offset) (sym (ap (λ b. b || not (has_abstract_method p s.offset))
        made)
        ∙ fine) in
        ap (λ v. is_abstract_selection p (dispatched (tower l v) token)) s.on_card ∙ any_off (λ (token : Token).
        is_abstract_selection p (dispatched (tower l (Own 0 s.offset)) token)) all_tokens i token none at

    open_made : (t : ℕ) → t < 128 → is_abstract_selection p (dispatched_open (tower l (n.class k.name)) t) ≡ false
    open_made t lt = none_abstract (Open t) t (in_front (map Open (range_with_len 0 128)) (map (Hidden 0)
        (range_with_len 0
        128)) t (Open t) (item_there Open (range_with_len 0 128) t t (range_at 0 128 t lt ∙ ap (λ m. Some m) (let z :
        0 + t
        ≡ t = omega arith in z))))

    hidden_made : (t : ℕ) → t < 128 → is_abstract_selection p (dispatched_hidden (tower l (n.class k.name)) 0 t) ≡ false
    hidden_made t lt = none_abstract (Hidden 0 t) (length (map Open (range_with_len 0 128)) + t) (get_behind (map Open
        (range_with_len 0 128)) (map (Hidden 0) (range_with_len 0 128)) t ∙ item_there (Hidden 0) (range_with_len 0
        128) t
        t (range_at 0 128 t lt ∙ ap (λ m. Some m) (let z : 0 + t ≡ t = omega arith in z)))

  -- ---- a class that is no interface, and of the package is not abstract

  module _ (x : List ℕ) (k : Class) (e : class_named w x ≡ Some k) (plain : is_interface k.flags ≡ false)
      (made : k.is_imported ≡ false → is_unmade k.flags ≡ false) where
    named_k : class_named w k.name ≡ Some k
    named_k = ap (class_named w) (class_named-name w x k e) ∙ e

    same_class : n.class k.name ≡ n.class x
    same_class = ap n.class (class_named-name w x k e)

    -- what an imported one gives is imported
    of_file : k.is_imported ≡ true → (t : ℕ) → IsConcrete p (dispatched_open (tower l (n.class x)) t) × IsConcrete p
        (dispatched_hidden (tower l (n.class x)) 0 t)
    of_file imp t =
        let h = entry_of_name c.name q ok.sound x k e imp in
        let on : n.class x ≡ External h.file (let v = h.entry in v.token) = sym same_class ∙ h.on_card in
        subst (λ v. IsConcrete p (dispatched_open (tower l v) t) × IsConcrete p (dispatched_hidden (tower l v) 0 t))
        (sym on)
        (in_files_concrete p (exported_line l (external l h.file (let v = h.entry in v.token))) t, tt)

    pub open_concrete : (t : ℕ) → t < 128 → IsConcrete p (dispatched_open (tower l (n.class x)) t)
    open_concrete t lt = by k.is_imported refl
      where
        by : (b : Bool) → k.is_imported ≡ b → IsConcrete p (dispatched_open (tower l (n.class x)) t)
        by true is = (of_file is t).0
        by false is = concrete_so p (dispatched_open (tower l (n.class x)) t) (ap (λ v. is_abstract_selection p
            (dispatched_open (tower l v) t)) (sym same_class) ∙ open_made k named_k is plain (made is) t lt)

    pub hidden_concrete : (t : ℕ) → t < 128 → IsConcrete p (dispatched_hidden (tower l (n.class x)) 0 t)
    hidden_concrete t lt = by k.is_imported refl
      where
        by : (b : Bool) → k.is_imported ≡ b → IsConcrete p (dispatched_hidden (tower l (n.class x)) 0 t)
        by true is = (of_file is t).1
        by false is = concrete_so p (dispatched_hidden (tower l (n.class x)) 0 t) (ap (λ v. is_abstract_selection p
            (dispatched_hidden (tower l v) 0 t)) (sym same_class) ∙ hidden_made k named_k is plain (made is) t lt)

  -- ---- tokens of methods of the package

  line_same : (x : List ℕ) (d : Class) → class_named w x ≡ Some d → line_of w x ≡ line_at w d
  line_same x d e = ap (line_in w) (supertypes-known w facts.are_supertypes facts.one_supertypes x d e)

  slot_token : (x : List ℕ) (d : Class) → class_named w x ≡ Some d → is_interface d.flags ≡ false → (t : ℕ)
      (s : Signature) → slice_get (slots (line_of w x)) t ≡ Some (Some s) → token (slots (line_of w x)) s ≡ Some t
  slot_token x d e plain t s g =
      let line = line_of w x in
      let told = told-class w facts.are_supertypes facts.one_supertypes facts.rules x d e (λ no. plain) in
      let k = token-some (slots line) s (here-has_slot (slots line) t s g) in
      k.1 ∙ ap (λ m. Some m) (slots-once line told k.0 t s (token-slot (slots line) s k.0 k.1) g)

  -- a method of the package that a token means at a class
  pub record IsMeantBy (x : List ℕ) (t : ℕ) (f : Found) : Type 0 where
    pub low : t < 128
    pub signature : Signature
    pub name : named w f ≡ Some signature
    pub held : Holds q facts x signature f

  lower_meant : (x y : List ℕ) (t : ℕ) (f : Found) → Under w x y → IsMeantBy y t f → IsMeantBy x t f
  lower_meant x y t f under h = record {
    low = h.low;
    signature = h.signature;
    name = h.name;
    held = lower_holds q facts x y under h.signature f h.held;
  }

  row_meant : (x : List ℕ) (d : Class) → class_named w x ≡ Some d → is_interface d.flags ≡ false → (t : ℕ) (f : Found)
      → f.imported ≡ false → slice_get (row (line_at w d)) t ≡ Some (Some f) → IsMeantBy x t f
  row_meant x d e plain t f mine g =
      let r = meant_is (implementing (line_at w d)) (slots (line_at w d)) t f g in
      let near : implementing (line_of w x) r.0 ≡ Some f = ap (λ v. implementing v r.0) (line_same x d e) ∙ r.2 in
      record {
        low = keep.tokens x d r.0 t e plain (slot_token x d e plain t r.0 (ap (λ v. slice_get (slots v) t) (line_same
            x d e)
            ∙ r.1));
        signature = r.0;
        name = implementing-named w (line_of w x) r.0 f (seen-line w facts.placed (x ∷ []) _ (facts.are_supertypes (x
            ∷ []))) near;
        held = implementing_holds q facts x d e plain r.0 f near mine;
      }

  token_by : (k : Supertypes) (x : List ℕ) (d : Class) → AreSupertypes w (x ∷ []) k → class_named w x ≡ Some d
      → is_interface d.flags ≡ false → (t : ℕ) (f : Found) → tables.dispatched (tables.tower_in w k) t ≡ Some f
      → f.imported ≡ false → IsMeantBy x t f
  token_by End x d h e class_here t f found mine = elim h [ ]
  token_by (Unknown y next) x d (unknown_here none rest) e class_here t f found mine = absurd cc
  token_by (Known b supers interfaces next) x d (known_here known ks ki kn) e class_here t f found mine =
      by b.is_imported refl found (λ y a is named_y plain g. token_by supers y a is named_y plain t f g mine)
    where
      one : b ≡ d
      one = let both : Some b ≡ Some d = sym known ∙ e in cc

      plain : is_interface b.flags ≡ false
      plain = ap (λ (v : Class). is_interface v.flags) one ∙ class_here

      same : supers ≡ supertypes w b.supers
      same = facts.one_supertypes b.supers supers (supertypes w b.supers) ks (facts.are_supertypes b.supers)

      up : ((y : List ℕ) (a : Class) → AreSupertypes w (y ∷ []) supers → class_named w y ≡ Some a
          → is_interface a.flags ≡ false → tables.dispatched (tables.tower_in w supers) t ≡ Some f → IsMeantBy y t f)
          → b.is_imported ≡ false → tables.dispatched (tables.tower_in w supers) t ≡ Some f → IsMeantBy x t f
      up rest own g =
          let s = facts.rules.single x b known own in
          let a = facts.super_there x s.0 b known own s.1 in
          lower_meant x s.0 t f (below b known (subst (Lists s.0) (sym s.1) foremost) itself) (rest s.0 a.0 (subst (λ
          ss.
          AreSupertypes w ss supers) s.1 ks) a.1 a.2 g)

      by : (v : Bool) → b.is_imported ≡ v → tables.dispatched (if v then tables.Exported (b ∷ upwards supers)
          else tables.Info (table_of w b) (tables.tower_in w supers)) t ≡ Some f → ((y : List ℕ) (a : Class)
          → AreSupertypes w (y ∷ []) supers → class_named w y ≡ Some a → is_interface a.flags ≡ false
          → tables.dispatched (tables.tower_in w supers) t ≡ Some f → IsMeantBy y t f) → IsMeantBy x t f
      by true is g rest =
          let import = first_imported_found q facts x b known is (tables.own_by_token t) (token_kind t) f (ap (λ k.
          first
          (tables.own_by_token t) (b ∷ upwards k)) (sym same) ∙ g) in
          let clash : false ≡ true = sym mine ∙ import in
          absurd cc
      by false is g rest = below (nat_lt t (base b.number (row (line_at w b)))) refl g
        where
          held : (o : Option (Option Found)) → slice_get (entries b.number (row (line_at w b))) (t
              - base b.number (row (line_at w b))) ≡ o → base b.number (row (line_at w b)) ≤ t
              → tables.held o (tables.dispatched (tables.tower_in w supers) t) ≡ Some f → IsMeantBy x t f
          held None i le h = cc
          held (Some None) i le h = up rest is h
          held (Some (Some u)) i le h =
              let r = entry_is b.number (row (line_at w b)) (t - base b.number (row (line_at w b))) u i in
              let z : base b.number (row (line_at w b)) + (t - base b.number (row (line_at w b))) ≡ t = omega (
                arith,
                le,
              ) in
              row_meant x b known plain t f mine (sym (ap (slice_get (row (line_at w b))) z) ∙ r.0 ∙ ap (λ v. Some
              (Some v))
              (same_some h))

          below : (v : Bool) → nat_lt t (base b.number (row (line_at w b))) ≡ v → (if v
              then tables.dispatched (tables.tower_in w supers) t else tables.held (slice_get (entries b.number
              (row (line_at w b))) (t - base b.number (row (line_at w b)))) (tables.dispatched (tables.tower_in w
              supers)
              t)) ≡ Some f → IsMeantBy x t f
          below true i h = up rest is h
          below false i h =
              let le : base b.number (row (line_at w b)) ≤ t = grind (arith, nat_tests, i) in
              held (slice_get (entries b.number (row (line_at w b))) (t - base b.number (row (line_at w b)))) refl le h

  pub token_meant : (x : List ℕ) (d : Class) → class_named w x ≡ Some d → is_interface d.flags ≡ false → (t : ℕ) (f :
      Found)
      → tables.dispatched (tables.tower_of w x) t ≡ Some f → f.imported ≡ false → IsMeantBy x t f
  token_meant x d e plain t f found mine = token_by (supertypes w (x ∷ [])) x d (facts.are_supertypes (x ∷ [])) e
      plain t f
      found mine

  -- ---- offsets in tables

  pub tables_fit : (k : Class) → class_named w k.name ≡ Some k → k.is_imported ≡ false → is_interface k.flags ≡ false
      → TablesFit p w k
  tables_fit k e own plain = record {
    public = λ j f at. (
        let r = entry_is k.number (row (line_at w k)) j f at in
        let m = meant_is (implementing (line_at w k)) (slots (line_at w k)) _ f r.0 in
        let near : implementing (line_of w k.name) m.0 ≡ Some f = ap (λ v. implementing v m.0) (line_same k.name k e)
        ∙ m.2 in
        offset_low c ok has keep k.name m.0 f (implementing_holds q facts k.name k e plain m.0 f near r.1)
        );
    «package» = λ j f at. (
        let i = methods_is (entries k.number (hidden_row (line_at w k))) j f at in
        let r = entry_is k.number (hidden_row (line_at w k)) i.0 f i.1 in
        let m = meant_is (implementing_hidden (line_at w k)) (hidden_slots (line_at w k)) _ f r.0 in
        let near : implementing_hidden (line_of w k.name) m.0 ≡ Some f = ap (λ v. implementing_hidden v m.0)
        (line_same k.name k e) ∙ m.2 in
        offset_low c ok has keep k.name m.0 f (hidden_holds q facts k.name k e plain m.0 f near)
        );
  }
