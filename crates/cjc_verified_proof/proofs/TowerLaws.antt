-- The tables of class infos and of export files dispatch as the class tables of the package do.
use Rattle.std.proofs.Common.{◌≡◌, ◌<◌, ◌≤◌, ℕ, suc, Bool, true, false, List, [], ◌∷◌, length, map, slice_get, Option}
use Rattle.std.proofs.Common.{Some, None, refl, sym, ap, subst, ◌∙◌, arith, nat_lt}
use Rattle.std.specs.Prelude.{if◌then◌else◌, is_some, unwrap_or}
use Rattle.std.proofs.lemmas.Bool.Decides.{nat_tests}
use Rattle.cjc_bytes.specs.AccessFlags.{is_interface}
use Rattle.cjc_check_rules.specs.Complete.{Complete}
use Rattle.cjc_verify.specs.List.Listed.{ListTree}
use Rattle.cjc_world.specs.declared.found.Found.{Found}
use Rattle.cjc_world.specs.declared.image.StaticImage.{StaticImage}
use Rattle.cjc_world.specs.Classes.{Class, all_classes, class_named}
use Rattle.cjc_world.specs.Files.{Files}
use Rattle.cjc_world.proofs.Cycles.{class_named-name}
use Rattle.cjc_tokens.specs.Lines.{line_of}
use Rattle.cjc_tokens.specs.Members.{Signature}
use Rattle.cjc_tokens.specs.Slots.{hidden_slots, slots, token}
use Rattle.cjc_token_proof.specs.VTable.Laws.{Under}
use Rattle.cjc_token_proof.specs.VTable.Tables.{table_of}
use Rattle.cjc_card_semantics.specs.Machine.Classes.{IsInterface, IsClass, class_of}
use Rattle.cjc_card_semantics.specs.Machine.Dispatch.{At, Outward, tower}
use Rattle.cjc_components.specs.Class.{implemented, interface_entry}
use Rattle.cjc_components.specs.Methods.{method_offset as written_offset}
use Rattle.cjc_components.specs.Names.{class_at}
use Rattle.cjc_token_proof.specs.NCode.Lowering.Naming.{Naming}
use Rattle.cjc_components.specs.Package.{Package}
use Rattle.cjc_components.specs.Paired.Pairs.{ArePaired}
use Rattle.cjc_token_proof.specs.VTable.declared.table.InterfaceMap.{InterfaceMap}
use Rattle.cjc_token_proof.specs.Calls.Dispatching.{DispatchAgrees, SaysTables, SaysTower, of_file, of_package}
use Rattle.cjc_token_proof.specs.Calls.Dispatching.{event, table_entry}
use Rattle.cjc_token_proof.specs.Tables.Loading.{naming}
use Rattle.cjc_token_proof.specs.Tables.Sound.{IsSound}
use Rattle.cjc_verify.specs.Infos.{public_entry}
use Rattle.cjc_verify.specs.Pairs.{Pair, class_ref, method_offset, pair_of}
use Rattle.cjc_verify.specs.Verified.{IsVerified}
use Rattle.cjc_verify.specs.WantedInfos.{wanted_entry}
use Rattle.cjc_verified_proof.specs.Dispatching.{FilesAgree, IsReachedBy, IsHiddenBy, TablesFit, offset_in}
use Rattle.cjc_token_proof.proofs.CallsLaws.Dispatch as dispatch
use Rattle.cjc_token_proof.proofs.TablesLaws.Above.{info_of_name}
use Rattle.cjc_token_proof.proofs.WrittenCalls.Facts.{Facts}
use Rattle.cjc_token_proof.proofs.WrittenCalls.Known.{facts as known}
use Rattle.cjc_token_proof.proofs.WrittenCalls.Tables.{tables as written_tables}
use Rattle.cjc_token_proof.proofs.WrittenCalls.Towers.{class_stands, height_fits}
use Rattle.cjc_verified_proof.proofs.NamingLaws.{depth_alike, kinds, mapped_same, n as names, own_info, q as written}
use Rattle.cjc_verified_proof.proofs.NamingLaws.{ref_same}

offset_low : (n : ℕ) → (if nat_lt n 0xFFFF then n else 0) < 0xFFFF
offset_low n = by (nat_lt n 0xFFFF) refl
  where
    by : (b : Bool) → nat_lt n 0xFFFF ≡ b → (if b then n else 0) < 0xFFFF
    by true e = grind (arith, nat_tests, e)
    by false e = omega arith

offset_kept : (n : ℕ) → n < 0xFFFF → n ≡ (if nat_lt n 0xFFFF then n else 0)
offset_kept n lt =
    let t : nat_lt n 0xFFFF ≡ true = grind (arith, nat_tests, lt) in
    sym (ap (λ b. if b then n else 0) t)

-- each of a list, by its places
mapped_places : {A B : Type 0} (f g : A → B) (xs : List A) → ((k : ℕ) (x : A) → slice_get xs k ≡ Some x → f x ≡ g x)
    → map f xs ≡ map g xs
mapped_places f g [] h = refl
mapped_places f g (x ∷ xs) h = ap (λ y. y ∷ map f xs) (h 0 x refl) ∙ ap (λ ys. g x ∷ ys) (mapped_places f g xs (λ k y e.
    h (suc k) y e))

module _ (name : List ℕ) (list : ListTree) (files : Files) (image : StaticImage) (c : Complete)
    (sound : IsSound name files) (paired : ArePaired files image c)
    (verified : IsVerified (pair_of (nat_lt 0 (length list.applets)) files image c)) where
  abbrev p : Pair
  p = pair_of (nat_lt 0 (length list.applets)) files image c

  abbrev w : List Class
  w = all_classes files

  abbrev q : Package
  q = written name list files image c sound paired verified

  abbrev n : Naming
  n = names name list files image c sound paired verified

  module _ (agree : FilesAgree q) (fits : (k : Class) → class_named w k.name ≡ Some k → k.is_imported ≡ false
      → is_interface k.flags ≡ false → TablesFit p w k) where
    pub facts : Facts q
    facts =
        let k = agree.keeps in
        let a = agree.calls in
        known name q sound (λ f. omega arith) agree.exports k agree.are_supertypes agree.one_supertypes a.virtual_calls
        a.interface_calls a.tokens

    pub tables_here : (x s : List ℕ) (k : Class) → class_named w x ≡ Some k → k.is_imported ≡ false
        → is_interface k.flags ≡ false → k.supers ≡ s ∷ [] → SaysTables w n (offset_in p) x k s
    tables_here x s k e own class_here supers =
        let h = info_of_name name q sound x k e own in
        let t = table_of w k in
        let named = ap (class_named w) (class_named-name w x k e) ∙ e in
        let fit = fits k named own class_here in
        let there = written_tables q facts x s k e own class_here supers in
        let up = facts.super_there x s k e own supers in
        record {
          at = h.offset;
          entry = wanted_entry p k;
          on_card = sym (ap (class_at q) (class_named-name w x k e)) ∙ h.on_card;
          there = own_info name list files image c sound paired verified k h ∙ ap (λ b. Some (if b then IsInterface
              (interface_entry (class_ref p) w k) else IsClass (wanted_entry p k))) class_here;
          superclass = ap (λ ss. class_of p.loaded 0 (class_ref p (unwrap_or (slice_get ss 0) []))) supers
              ∙ ap (class_of p.loaded 0) (ref_same name list files image c sound paired verified s)
              ∙ (let z = kinds name list files image c sound paired verified in z.class_ref s (ap is_some up.1));
          public_base = refl;
          public_methods = mapped_places (public_entry p) (table_entry (offset_in p)) t.public
              (λ j o at. entry_kept fit j o
              at);
          package_base = refl;
          package_methods = mapped_places (method_offset p) (offset_in p) t.«package» (λ j f at. offset_kept
              (method_offset
              p f) (fit.«package» j f at));
          maps = mapped_same (implemented (class_ref p)) (λ (m : InterfaceMap). record {
            interface = n.class_ref m.interface;
            index = m.index;
          }) (λ (m : InterfaceMap). ap (λ r. record { interface = r; index = m.index })
              (ref_same name list files image c
              sound paired verified m.interface)) t.maps;
          mapped = there.mapped;
        }
      where
        entry_kept : TablesFit p w k → (j : ℕ) (o : Option Found) → slice_get (let t = table_of w k in t.public) j
            ≡ Some o
            → public_entry p o ≡ table_entry (offset_in p) o
        entry_kept fit j None at = refl
        entry_kept fit j (Some f) at = offset_kept (method_offset p f) (fit.public j f at)

    -- a class and its superclasses
    pub tower_here : (h : ℕ) (x z : List ℕ) → SaysTower w (naming q) (written_offset q) h x z → (k : Class)
        → class_named w x
        ≡ Some k → is_interface k.flags ≡ false → SaysTower w n (offset_in p) h x z
    tower_here _ _ _ (of_file d known imported file) k e class_here = of_file d known imported (record {
      tree = file.tree;
      token = file.token;
      entry = file.entry;
      on_card = file.on_card;
      there = file.there;
      imported = file.imported;
      methods = file.methods;
    })
    tower_here _ x z (of_package {height = height} d super known own supers tables tower) k e class_here =
        let both : Some d ≡ Some k = sym known ∙ e in
        let same : d ≡ k = cc in
        let plain : is_interface d.flags ≡ false = ap (λ (v : Class). is_interface v.flags) same ∙ class_here in
        let up = facts.super_there x super d known own supers in
        of_package d super known own supers (tables_here x super d known own plain supers)
        (tower_here height super z tower
        up.0 up.1 up.2)

    -- dispatch on an object of a class
    pub agrees : (x : List ℕ) (k : Class) (e : class_named w x ≡ Some k) (class_here : is_interface k.flags ≡ false)
        → DispatchAgrees w n (offset_in p) x (let s = class_stands q facts x k e class_here in s.foot)
    agrees x k e class_here =
        let s = class_stands q facts x k e class_here in
        dispatch.dispatch_agrees w facts.are_supertypes facts.one_supertypes n (offset_in p) (λ f. offset_low
        (method_offset p f)) (kinds name list files image c sound paired verified) s.height x s.foot
        (tower_here s.height x
        s.foot s.tower k e class_here) (subst (λ d. s.height ≤ d)
        (depth_alike name list files image c sound paired verified)
        (height_fits q facts x k e s))

    -- for some imported class at the foot of its superclasses
    pub dispatches : (x : List ℕ) (k : Class) → class_named w x ≡ Some k → is_interface k.flags ≡ false
        → (z : List ℕ) × DispatchAgrees w n (offset_in p) x z
    dispatches x k e class_here = (
      (let s = class_stands q facts x k e class_here in s.foot),
      agrees x k e class_here,
    )

    -- ---- calls by a token of a class at or above the receiver's

    pub open_reached : (x y : List ℕ) (k d : Class) → class_named w x ≡ Some k → is_interface k.flags
        ≡ false → class_named w y ≡ Some d → Under w x y → (s : Signature) (t : ℕ) → token (slots (line_of w y)) s
        ≡ Some t → IsReachedBy p q x t s
    open_reached x y k d e class_here named_y under s t h =
        let once = facts.tokens_once x y k d e class_here named_y under in
        let r = agree.open_tokens x k e class_here s t (once.inherited s t h) in
        let dispatch_is = agrees x k e class_here in
        record {
          foot = (let stands = class_stands q facts x k e class_here in stands.foot);
          method = r.method;
          name = r.name;
          nearest = r.nearest;
          reached = dispatch_is.open_method t r.method s r.by_token r.name;
        }

    pub hidden_reached : (x y : List ℕ) (k d : Class) → class_named w x ≡ Some k → is_interface
        k.flags ≡ false → class_named w y ≡ Some d → Under w x y → (s : Signature) (t : ℕ) → token (hidden_slots
        (line_of w
        y)) s ≡ Some t → IsHiddenBy p q x t s
    hidden_reached x y k d e class_here named_y under s t h =
        let once = facts.tokens_once x y k d e class_here named_y under in
        let r = agree.hidden_tokens x k e s t (once.hidden_inherited s t h) in
        let stands = class_stands q facts x k e class_here in
        let dispatch_is = agrees x k e class_here in
        record {
          method = r.method;
          own = r.own;
          nearest = r.nearest;
          reached = dispatch_is.package_method t r.method s r.by_token ∙ ap (λ b. if b then Outward
              (event stands.foot s)
              else At 0 (offset_in p r.method)) r.own;
        }
