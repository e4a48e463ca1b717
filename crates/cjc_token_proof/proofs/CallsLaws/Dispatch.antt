-- Dispatch by class infos and export files is dispatch by class tables.
use Rattle.std.proofs.Common.{◌≡◌, ℕ, zero, suc, ◌-◌, ◌<◌, ◌≤◌, refl, sym, ap, ◌∙◌, arith, Bool, true, false, List, []}
use Rattle.std.proofs.Common.{◌∷◌, ◌++◌, map}
use Rattle.std.specs.Prelude.{Option, Some, None, option_map, option_to_list, slice_get, drop, nat_lt, if◌then◌else◌}
use Rattle.std.specs.Prelude.{◌==◌}
use Rattle.std.proofs.lemmas.Bool.Decides.{nat_tests}
use Rattle.std.specs.Str.{bytes_eq}
use Rattle.cjc_card_semantics.specs.CapRead.declared.tree.ImplementedInterface.{ImplementedInterface}
use Rattle.cjc_card_semantics.specs.Machine.Classes.{Info, same_class}
use Rattle.cjc_card_semantics.specs.Machine.Classes as card
use Rattle.cjc_card_semantics.specs.Machine.Dispatch.{Tower, Exported, Selection, At, Outward, above}
use Rattle.cjc_card_semantics.specs.Machine.Dispatch.{is_same, map_in, map_of, at_index, at_map, tower}
use Rattle.cjc_card_semantics.specs.Machine.Dispatch.{tower_from, at_table, held, dispatched_open}
use Rattle.cjc_card_semantics.specs.Machine.Dispatch.{dispatched_hidden, dispatched_interface}
use Rattle.cjc_world.specs.declared.found.Found.{Found}
use Rattle.cjc_world.specs.Classes.{Class, class_named}
use Rattle.cjc_world.specs.Supertypes.{Supertypes, AreSupertypes, supertypes, upwards}
use Rattle.cjc_world.specs.Lookup.{first}
use Rattle.cjc_tokens.specs.Members.{Signature}
use Rattle.cjc_tokens.specs.Lines.{line_at}
use Rattle.cjc_tokens.specs.Slots.{row, hidden_row}
use Rattle.cjc_tokens.proofs.Walks.{supertypes-known}
use Rattle.cjc_vtable.specs.declared.table.InterfaceMap.{InterfaceMap}
use Rattle.cjc_vtable.specs.Dispatch.{own_by_token, tower_in, tower_of}
use Rattle.cjc_vtable.specs.Dispatch as tables
use Rattle.cjc_vtable.specs.Naming.{named}
use Rattle.cjc_vtable.specs.Tables.{table_of, of_package, methods}
use Rattle.cjc_ncode.specs.Lowering.Naming.{Naming}
use Rattle.cjc_token_proof.specs.ByToken.Supers.{has_class, SaysKinds}
use Rattle.cjc_card_semantics.proofs.MachineLaws.Upwards.{class_tells, class_same}
use Rattle.cjc_token_proof.proofs.ByToken.Members.{bytes_tell, bytes_same}
use Rattle.cjc_token_proof.specs.Calls.Dispatching.{table_entry, event, selection_of, SaysTower}
use Rattle.cjc_token_proof.specs.Calls.Dispatching.{of_file, DispatchAgrees}
use Rattle.cjc_token_proof.specs.Calls.Dispatching as says
use Rattle.cjc_token_proof.proofs.CallsLaws.Towers.{tower_on_card, card_package, card_file}
use Rattle.cjc_bytes.proofs.Gets.{get_mapped}

-- ---- entries

-- entries are of the package
own_entry : (o : Option Found) (g : Found) → of_package o ≡ Some g → g.imported ≡ false
own_entry None g e = cc
own_entry (Some f) g e = by f.imported refl e
  where
    by : (t : Bool) → f.imported ≡ t → (if t then None else Some f) ≡ Some g → g.imported ≡ false
    by true is h = cc
    by false is h = let same : f ≡ g = cc in sym (ap (λ (x : Found). x.imported) same) ∙ is

own_entries : (os : List (Option Found)) (k : ℕ) (g : Found) → slice_get (map of_package os) k ≡ Some (Some g)
    → g.imported ≡ false
own_entries [] k g e = cc
own_entries (o ∷ os) zero g e = let is : of_package o ≡ Some g = cc in own_entry o g is
own_entries (o ∷ os) (suc k) g e = own_entries os k g e

own_methods : (os : List (Option Found)) (k : ℕ) (g : Found) → slice_get (methods (map of_package os)) k ≡ Some g
    → g.imported ≡ false
own_methods [] k g e = cc
own_methods (o ∷ os) k g e = by (of_package o) refl k e (own_methods os)
  where
    by : (p : Option Found) → of_package o ≡ p → (k : ℕ) → slice_get (option_to_list p ++ methods (map of_package os)) k
        ≡ Some g → ((k : ℕ) (g : Found) → slice_get (methods (map of_package os)) k ≡ Some g → g.imported ≡ false)
        → g.imported ≡ false
    by None is k h rest = rest k g h
    by (Some f) is zero h rest = let same : f ≡ g = cc in own_entry o g (is ∙ ap Some same)
    by (Some f) is (suc k) h rest = rest k g h

module _ (w : List Class) (are_supertypes : (xs : List (List ℕ)) → AreSupertypes w xs (supertypes w xs))
    (one_supertypes : (xs : List (List ℕ)) (j k : Supertypes) → AreSupertypes w xs j → AreSupertypes w xs k
    → j ≡ k) (n : Naming) (offset : Found → ℕ) (low : (f : Found) → offset f < 0xFFFF) (kinds : SaysKinds w n) where
  -- ---- towers

  tower_package : (x super : List ℕ) (c : Class) → class_named w x ≡ Some c → c.is_imported ≡ false → c.supers ≡ super
      ∷ [] → tower_of w x ≡ tables.Info (table_of w c) (tower_of w super)
  tower_package x super c e imported supers =
      ap (tower_in w) (supertypes-known w are_supertypes one_supertypes x c e)
      ∙ (ap (λ t. if t then tables.Exported (c ∷ upwards (supertypes w c.supers))
      else tables.Info (table_of w c) (tower_in w (supertypes w c.supers))) imported
      ∙ ap (λ xs. tables.Info (table_of w c) (tower_in w (supertypes w xs))) supers)

  tower_file : (x : List ℕ) (c : Class) → class_named w x ≡ Some c → c.is_imported ≡ true
      → tower_of w x ≡ tables.Exported (c ∷ upwards (supertypes w c.supers))
  tower_file x c e imported =
      ap (tower_in w) (supertypes-known w are_supertypes one_supertypes x c e)
      ∙ ap (λ t. if t then tables.Exported (c ∷ upwards (supertypes w c.supers))
      else tables.Info (table_of w c) (tower_in w (supertypes w c.supers))) imported

  abbrev on_card : (depth : ℕ) → List ℕ → Tower
  on_card d x = tower_on_card n d x

  -- ---- tables

  never_last : (f : Found) → (offset f == 0xFFFF) ≡ false
  never_last f = let h = low f in grind (arith, nat_tests, h)

  at_own : (z : List ℕ) (s : Signature) (f : Found) (up : Selection) → f.imported ≡ false
      → held n.part (Some (offset f)) up ≡ selection_of n offset z s f
  at_own z s f up own =
      ap (λ t. if t then up else At n.part (offset f)) (never_last f) ∙ sym (ap (λ t. if t then Outward (event z s)
      else At n.part (offset f)) own)

  table_same : (base : ℕ) (os : List (Option Found)) (t : ℕ) (over : Option Found) (up : Selection) (f : Found)
      (result : Selection)
      → ((k : ℕ) (g : Found) → slice_get os k ≡ Some (Some g) → g ≡ f → held n.part (Some (offset g)) up ≡ result)
      → (over ≡ Some f → up ≡ result)
      → tables.at_table base os t over ≡ Some f → at_table n.part base (map (table_entry offset) os) t up ≡ result
  table_same base os t over up f result own above e = by (nat_lt t base) e
    where
      entry : (o : Option (Option Found)) → slice_get os (t - base) ≡ o → tables.held o over ≡ Some f
          → held n.part (option_map (table_entry offset) o) up ≡ result
      entry None is h = cc
      entry (Some None) is h = above h
      entry (Some (Some g)) is h = let same : g ≡ f = cc in own (t - base) g is same

      by : (b : Bool) → (if b then over else tables.held (slice_get os (t - base)) over) ≡ Some f
          → (if b then up else held n.part (slice_get (map (table_entry offset) os) (t - base)) up) ≡ result
      by true h = above h
      by false h = ap (λ o. held n.part o up) (get_mapped (table_entry offset) os (t - base))
          ∙ entry (slice_get os (t - base)) refl h

  hidden_same : (base : ℕ) (fs : List Found) (t : ℕ) (over : Option Found) (up : Selection) (f : Found)
      → (over ≡ Some f → up ≡ At n.part (offset f))
      → (if nat_lt t base then over else slice_get fs (t - base)) ≡ Some f → at_table n.part base (map offset fs) t up
      ≡ At n.part (offset f)
  hidden_same base fs t over up f above e = by (nat_lt t base) e
    where
      by : (b : Bool) → (if b then over else slice_get fs (t - base)) ≡ Some f
          → (if b then up else held n.part (slice_get (map offset fs) (t - base)) up) ≡ At n.part (offset f)
      by true h = above h
      by false h =
          ap (λ o. held n.part o up) (get_mapped offset fs (t - base) ∙ ap (option_map offset) h)
          ∙ ap (λ u. if u then up else At n.part (offset f)) (never_last f)

  -- ---- dispatch

  open_same : {h : ℕ} {x z : List ℕ} → SaysTower w n offset h x z → (d : ℕ) → h ≤ d
      → (t : ℕ) (f : Found) (s : Signature) → tables.dispatched (tower_of w x) t ≡ Some f → named w f ≡ Some s
      → dispatched_open (on_card d x) t ≡ selection_of n offset z s f
  open_same (says.of_file {x = x} c known imported file) d le t f s e is =
      let found : first (own_by_token t) (c ∷ upwards (supertypes w c.supers)) ≡ Some f =
      sym (ap (λ q. tables.dispatched q t) (tower_file x c known imported)) ∙ e in
      ap (λ q. dispatched_open q t) (card_file w n offset d x c file)
      ∙ (file.methods t f s found is ∙ sym (ap (λ b. if b then Outward (event x s) else At n.part (offset f))
      (file.imported t f found)))
  open_same (says.of_package c super known imported supers class more) zero le t f s e is = absurd (omega arith)
  open_same (says.of_package {x = x} {z = z} c super known imported supers class more) (suc d) le t f s e is =
      let table = table_of w c in
      let found : tables.at_table table.public_base table.public t (tables.dispatched (tower_of w super) t) ≡ Some f =
      sym (ap (λ q. tables.dispatched q t) (tower_package x super c known imported supers)) ∙ e in
      let up = dispatched_open (on_card d super) t in
      ap (λ q. dispatched_open q t) (card_package w n offset d x super c class)
      ∙ (ap (λ b. at_table n.part b class.entry.public_methods t up) class.public_base
      ∙ (ap (λ ms. at_table n.part table.public_base ms t up) class.public_methods
      ∙ table_same table.public_base table.public t (tables.dispatched (tower_of w super) t) up f (selection_of n offset
      z s f)
      (λ k g there same. ap (λ h. held n.part (Some (offset h)) up) same
      ∙ at_own z s f up (ap (λ (h : Found). h.imported) (sym same)
      ∙ own_entries (drop table.public_base (row (line_at w c))) k g there))
      (λ h. open_same more d (omega arith) t f s h is) found))

  package_same : {h : ℕ} {x z : List ℕ} → SaysTower w n offset h x z → (d : ℕ) → h ≤ d → (t : ℕ) (f : Found)
      → tables.dispatched_hidden (tower_of w x) t ≡ Some f → dispatched_hidden (on_card d x) n.part t
      ≡ At n.part (offset f)
  package_same (says.of_file {x = x} c known imported file) d le t f e =
      let found : None ≡ Some f = sym (ap (λ q. tables.dispatched_hidden q t) (tower_file x c known imported)) ∙ e in cc
  package_same (says.of_package c super known imported supers class more) zero le t f e = absurd (omega arith)
  package_same (says.of_package {x = x} c super known imported supers class more) (suc d) le t f e =
      let table = table_of w c in
      let found = sym (ap (λ q. tables.dispatched_hidden q t) (tower_package x super c known imported supers)) ∙ e in
      let up = dispatched_hidden (on_card d super) n.part t in
      ap (λ q. dispatched_hidden q n.part t) (card_package w n offset d x super c class)
      ∙ (ap (λ b. if b then at_table n.part class.entry.package_base class.entry.package_methods t up
      else up) (same_part n.part)
      ∙ (ap (λ b. at_table n.part b class.entry.package_methods t up) class.package_base
      ∙ (ap (λ ms. at_table n.part table.package_base ms t up) class.package_methods
      ∙ hidden_same table.package_base table.«package» t (tables.dispatched_hidden (tower_of w super) t) up f
      (λ h. package_same more d (omega arith) t f h) found)))
    where
      same_part : (p : ℕ) → (p == p) ≡ true
      same_part p = grind (arith, nat_tests)

  -- a package-visible method is of the package
  hidden_own : {h : ℕ} {x z : List ℕ} → SaysTower w n offset h x z → (t : ℕ) (f : Found)
      → tables.dispatched_hidden (tower_of w x) t ≡ Some f → f.imported ≡ false
  hidden_own (says.of_file {x = x} c known imported file) t f e =
      let found : None ≡ Some f = sym (ap (λ q. tables.dispatched_hidden q t) (tower_file x c known imported)) ∙ e in cc
  hidden_own (says.of_package {x = x} c super known imported supers class more) t f e =
      let table = table_of w c in
      by (nat_lt t table.package_base) (sym (ap (λ q. tables.dispatched_hidden q t) (tower_package x super c known
      imported supers)) ∙ e) (hidden_own more t f)
    where
      by : (b : Bool) → (let table = table_of w c in (if b then tables.dispatched_hidden (tower_of w super) t
          else slice_get table.«package» (t - table.package_base))) ≡ Some f
          → (tables.dispatched_hidden (tower_of w super) t ≡ Some f → f.imported ≡ false) → f.imported ≡ false
      by true h rest = rest h
      by false h rest = let table = table_of w c in own_methods (drop table.package_base (hidden_row (line_at w c)))
          (t - table.package_base) f h

  -- ---- maps

  abbrev index : Option InterfaceMap → Option (List ℕ)
  index o = option_map (λ (m : InterfaceMap). m.index) o

  abbrev written : InterfaceMap → ImplementedInterface
  written m = record { interface = n.class_ref m.interface; index = m.index }

  name_same : (x y : List ℕ) → has_class w x ≡ true → has_class w y ≡ true → same_class (n.class x) (n.class y)
      ≡ bytes_eq x y
  name_same x y is there = by (same_class (n.class x) (n.class y)) refl (bytes_eq x y) refl
    where
      by : (s : Bool) → same_class (n.class x) (n.class y) ≡ s → (t : Bool) → bytes_eq x y ≡ t → s ≡ t
      by true e true f = refl
      by false e false f = refl
      by true e false f = let clash : true ≡ false =
          sym (ap (bytes_eq x) (sym (kinds.once x y is there (class_tells (n.class x) (n.class y) e))) ∙ bytes_same x)
          ∙ f in cc
      by false e true f = let clash : true ≡ false =
          sym (ap (λ z. same_class (n.class x) (n.class z)) (sym (bytes_tell x y f)) ∙ class_same (n.class x)) ∙ e in cc

  map_in_same : (i : List ℕ) → has_class w i ≡ true → (ms : List InterfaceMap) → ((k : ℕ) (m : InterfaceMap)
      → slice_get ms k ≡ Some m → has_class w m.interface ≡ true) → (over : Option InterfaceMap) (up : Option (List ℕ))
      → up ≡ index over
      → map_in n.loaded n.part (map written ms) (n.class i) up ≡ index (tables.map_in ms i over)
  map_in_same i is [] has over up e = e
  map_in_same i is (m ∷ ms) has over up e =
      let there = has 0 m refl in
      ap (λ o. if is_same o (n.class i) then Some m.index else map_in n.loaded n.part (map written ms) (n.class i) up)
      (kinds.class_ref m.interface there)
      ∙ (ap (λ b. if b then Some m.index else map_in n.loaded n.part (map written ms) (n.class i) up)
      (name_same m.interface i there is)
      ∙ by (bytes_eq m.interface i) (map_in_same i is ms (λ k o h. has (suc k) o h) over up e))
    where
      by : (b : Bool) → map_in n.loaded n.part (map written ms) (n.class i) up ≡ index (tables.map_in ms i over)
          → (if b then Some m.index else map_in n.loaded n.part (map written ms) (n.class i) up) ≡ index (if b
          then Some m else tables.map_in ms i over)
      by true rest = refl
      by false rest = rest

  map_same : {h : ℕ} {x z : List ℕ} → SaysTower w n offset h x z → (d : ℕ) → h ≤ d → (i : List ℕ) → has_class w i ≡ true
      → map_of n.loaded (on_card d x) (n.class i) ≡ index (tables.map_of (tower_of w x) i)
  map_same (says.of_file {x = x} c known imported file) d le i is =
      ap (λ q. map_of n.loaded q (n.class i)) (card_file w n offset d x c file)
      ∙ sym (ap (λ q. index (tables.map_of q i)) (tower_file x c known imported))
  map_same (says.of_package c super known imported supers class more) zero le i is = absurd (omega arith)
  map_same (says.of_package {x = x} c super known imported supers class more) (suc d) le i is =
      let table = table_of w c in
      ap (λ q. map_of n.loaded q (n.class i)) (card_package w n offset d x super c class)
      ∙ (ap (λ ms. map_in n.loaded n.part ms (n.class i) (map_of n.loaded (on_card d super) (n.class i))) class.maps
      ∙ (map_in_same i is table.maps class.mapped (tables.map_of (tower_of w super) i)
      (map_of n.loaded (on_card d super) (n.class i)) (map_same more d (omega arith) i is)
      ∙ sym (ap (λ q. index (tables.map_of q i)) (tower_package x super c known imported supers))))

  at_map_same : {h : ℕ} {x z : List ℕ} → SaysTower w n offset h x z → (d : ℕ) → h ≤ d
      → (o : Option InterfaceMap) (t : ℕ) (f : Found) (s : Signature) → tables.at_map (tower_of w x) o t ≡ Some f
      → named w f ≡ Some s → at_map (on_card d x) (index o) t ≡ selection_of n offset z s f
  at_map_same tower d le None t f s e is = cc
  at_map_same {x = x} {z = z} tower d le (Some m) t f s e is = by (slice_get m.index t) e (λ k h. open_same tower d le k
      f s h is)
    where
      by : (o : Option ℕ) → tables.at_index (tower_of w x) o ≡ Some f → ((k : ℕ) → tables.dispatched (tower_of w x) k
          ≡ Some f → dispatched_open (on_card d x) k ≡ selection_of n offset z s f) → at_index (on_card d x) o
          ≡ selection_of n offset z s f
      by None h go = cc
      by (Some k) h go = go k h

  interface_same : {h : ℕ} {x z : List ℕ} → SaysTower w n offset h x z → h ≤ card.depth n.loaded
      → (i : List ℕ) (t : ℕ) (f : Found) (s : Signature) → has_class w i ≡ true
      → tables.dispatched_interface (tower_of w x) i t ≡ Some f → named w f ≡ Some s
      → dispatched_interface n.loaded (Some (n.class x)) (n.class i) t ≡ selection_of n offset z s f
  interface_same (says.of_file {x = x} c known imported file) le i t f s there e is =
      let found : None ≡ Some f = sym (ap (λ q. tables.dispatched_interface q i t) (tower_file x c known imported)) ∙ e
      in cc
  interface_same (says.of_package {x = x} c super known imported supers class more) le i t f s there e is =
      let tower = says.of_package c super known imported supers class more in
      let d = card.depth n.loaded in
      ap (λ q. dispatched_interface n.loaded (Some q) (n.class i) t) class.on_card
      ∙ (ap (λ q. let r = tower_from n.loaded (suc d) (Some q) in at_map r (map_of n.loaded r (n.class i)) t)
      (sym class.on_card)
      ∙ (ap (λ o. at_map (on_card d x) o t) (map_same tower d le i there)
      ∙ at_map_same tower d le (tables.map_of (tower_of w x) i) t f s e is))

  pub dispatch_agrees : (h : ℕ) (x z : List ℕ) → SaysTower w n offset h x z → h ≤ card.depth n.loaded
      → DispatchAgrees w n offset x z
  dispatch_agrees h x z tower le = record {
    open_method = λ t f s e is. open_same tower (card.depth n.loaded) le t f s e is;
    package_method = λ t f s e. package_same tower (card.depth n.loaded) le t f e
        ∙ sym (ap (λ b. if b then Outward (event z s) else At n.part (offset f)) (hidden_own tower t f e));
    interface_method = λ i t f s there e is. interface_same tower le i t f s there e is;
  }
