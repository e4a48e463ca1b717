-- The method that is found from a class over superclasses: what its token is, and what it dispatches to.
use Rattle.std.proofs.Common.{◌≡◌, ℕ, zero, suc, ◌+◌, ◌-◌, ◌≤◌, refl, sym, ap, subst, ◌∙◌, arith, Bool, true, false}
use Rattle.std.proofs.Common.{List, [], ◌∷◌, ◌++◌, length}
use Rattle.std.specs.Prelude.{Option, Some, None, not, option_map, option_and_then, position, slice_get, ◌&&◌, ◌||◌}
use Rattle.std.specs.Prelude.{if◌then◌else◌}
use Rattle.cjc_bytes.specs.AccessFlags.{is_interface, is_private, is_static}
use Rattle.cjc_bytes.specs.declared.fault.MemberId.{MemberId}
use Rattle.cjc_jvm_semantics.specs.OnePackage.{ResolvedMember, is_initialiser, is_sendable, method_hit}
use Rattle.cjc_token_proof.specs.ByToken.Supers.{SaysKinds}
use Rattle.cjc_token_proof.proofs.CallsLaws.Dispatch as dispatch
use Rattle.cjc_token_proof.specs.Calls.Dispatching.{DispatchAgrees, SaysTables, SaysTower, of_file, of_package}
use Rattle.cjc_token_proof.specs.Calls.Dispatching.{selection_of}
use Rattle.cjc_token_proof.specs.Calls.Selecting.{signature}
use Rattle.cjc_card_semantics.specs.Machine.Calls.{declared, described_token, found_token, token_in_files, token_or}
use Rattle.cjc_card_semantics.specs.Machine.Classes.{Own, or_else, superclass_by}
use Rattle.cjc_card_semantics.specs.Machine.Classes as card
use Rattle.cjc_card_semantics.specs.Machine.Dispatch.{Hidden, Open, Token, dispatched, exported_line, tower}
use Rattle.cjc_components.specs.Descriptor.{method_descriptor}
use Rattle.cjc_components.specs.Methods.{method_offset}
use Rattle.cjc_components.specs.Names.{class_at as card_class}
use Rattle.cjc_components.specs.Package.{Package, world}
use Rattle.cjc_ncode.specs.Lowering.Naming.{Naming}
use Rattle.cjc_token_proof.specs.Tables.Infos.{HasEntry}
use Rattle.cjc_token_proof.specs.Tables.Loading.{naming}
use Rattle.cjc_token_proof.specs.Tables.Sound.{IsSound}
use Rattle.cjc_tokens.proofs.Walks.{supertypes-known}
use Rattle.cjc_tokens.specs.Lines.{Declared, Imported, line_in, line_of}
use Rattle.cjc_tokens.specs.Members.{In, Signature, all_methods, chosen, is_constructor, is_hidden, is_shown}
use Rattle.cjc_tokens.specs.Members.{is_virtual, later, first_of, signature_of}
use Rattle.cjc_tokens.specs.Members as members
use Rattle.cjc_tokens.specs.Slots.{hidden_slots, slots, token}
use Rattle.cjc_vtable.specs.Calls.{any_method, finds_hidden, finds_shown, passes}
use Rattle.cjc_vtable.specs.Dispatch as tables
use Rattle.cjc_vtable.specs.Dispatch.{tower_of}
use Rattle.cjc_vtable.specs.Laws.{ImportedCallsAgree, Under, below, itself, selection}
use Rattle.cjc_vtable.proofs.Told.{In-front, In-behind}
use Rattle.cjc_world.specs.Added.{added}
use Rattle.cjc_world.specs.Classes.{Class, Member, class_at, class_named}
use Rattle.cjc_world.specs.Supertypes.{AreSupertypes, Supertypes, Lists, Unknown, End, after, ends, foremost}
use Rattle.cjc_world.specs.Supertypes.{supertypes, known_here, line, unknown_here, upwards}
use Rattle.cjc_world.specs.Lookup.{first, is_called, is_wanted, member_at, own_method}
use Rattle.cjc_world.specs.Lookup as lookup
use Rattle.cjc_world.specs.declared.found.Found.{Found}
use Rattle.cjc_world.proofs.Cycles.{class_named-name}
use Rattle.cjc_token_proof.proofs.WrittenCalls.Called.{declared_is}
use Rattle.cjc_token_proof.proofs.WrittenCalls.Facts.{Facts, exported}
use Rattle.cjc_token_proof.proofs.WrittenCalls.Files.{some_member, position_has}
use Rattle.cjc_token_proof.proofs.WrittenCalls.Found as founds
use Rattle.cjc_token_proof.proofs.WrittenCalls.Receivers.{first_step, line_found}
use Rattle.cjc_token_proof.proofs.WrittenCalls.Towers.{class_stands, height_fits, line_is, line_of_names}
use Rattle.cjc_token_proof.specs.WrittenCalls.Calls.{KeepsTokens}
use Rattle.cjc_token_proof.proofs.WrittenSends.Order.{class_token, classes_token, listed_is, upwards_token}
use Rattle.cjc_token_proof.proofs.WrittenSends.Tokens.{bound_described, chosen_first, hidden_described, shown_described}
use Rattle.cjc_world_proof.proofs.CallsLaws.Own.{is_found}

-- ---- lists

first_nothing : (own : Class → Option Found) → first own [] ≡ None
unfolding first
first_nothing own = refl

pub first_front : (own : Class → Option Found) (cs ds : List Class) (f : Found) → first own cs ≡ Some f
    → first own (cs ++ ds) ≡ Some f
unfolding first
first_front own [] ds f e = absurd (cc)
first_front own (c ∷ cs) ds f e = by (own c) e (first_front own cs ds f)
  where
    by : (o : Option Found) → lookup.or_else o (first own cs) ≡ Some f → (first own cs ≡ Some f → first own (cs ++ ds)
        ≡ Some f) → lookup.or_else o (first own (cs ++ ds)) ≡ Some f
    by None h rest = rest h
    by (Some g) h rest = h

-- what a class has is found from any list in which it stands
first_behind : (own : Class → Option Found) (c : Class) (ds : List Class) (f : Found) → first own ds ≡ Some f
    → (g : Found) × (first own (c ∷ ds) ≡ Some g)
first_behind own c ds f e = by (own c) refl
  where
    by : (o : Option Found) → own c ≡ o → (g : Found) × (first own (c ∷ ds) ≡ Some g)
    by None is = (f, first_step own c ds ∙ ap (λ o. lookup.or_else o (first own ds)) is ∙ e)
    by (Some g) is = (g, first_step own c ds ∙ ap (λ o. lookup.or_else o (first own ds)) is)

pub first_after : (own : Class → Option Found) (cs ds : List Class) (f : Found) → first own ds ≡ Some f → (g : Found)
    × (first own (cs ++ ds) ≡ Some g)
first_after own [] ds f e = (f, e)
first_after own (c ∷ cs) ds f e = let r = first_after own cs ds f e in first_behind own c (cs ++ ds) r.0 r.1

in_at : (ms : List Member) (k : ℕ) (m : Member) → slice_get ms k ≡ Some m → In m ms
in_at [] k m e = absurd (cc)
in_at (n ∷ ms) zero m e = let same : n ≡ m = cc in subst (λ q. In m (q ∷ ms)) (sym same) first_of
in_at (n ∷ ms) (suc k) m e = later (in_at ms k m e)

chosen_front : (s : Signature) (xs ys : List Member) (m : Member) → chosen any_method s xs ≡ Some m
    → chosen any_method s (xs ++ ys) ≡ Some m
chosen_front s [] ys m e = absurd (cc)
chosen_front s (x ∷ xs) ys m e = by (is_called s.name s.desc x) e (chosen_front s xs ys m)
  where
    by : (t : Bool) → (if t then Some x else chosen any_method s xs) ≡ Some m → (chosen any_method s xs ≡ Some m
        → chosen any_method s (xs ++ ys) ≡ Some m) → (if t then Some x else chosen any_method s (xs ++ ys)) ≡ Some m
    by true h rest = h
    by false h rest = rest h

chosen_past : (s : Signature) (xs ys : List Member) → chosen any_method s xs ≡ None → chosen any_method s (xs ++ ys)
    ≡ chosen any_method s ys
chosen_past s [] ys e = refl
chosen_past s (x ∷ xs) ys e = by (is_called s.name s.desc x) e (chosen_past s xs ys)
  where
    by : (t : Bool) → (if t then Some x else chosen any_method s xs) ≡ None → (chosen any_method s xs ≡ None
        → chosen any_method s (xs ++ ys) ≡ chosen any_method s ys)
        → (if t then Some x else chosen any_method s (xs ++ ys)) ≡ chosen any_method s ys
    by true h rest = absurd (cc)
    by false h rest = rest h

chosen_none : (s : Signature) (ms : List Member) → position (λ (q : Member). is_called s.name s.desc q) ms ≡ None
    → chosen any_method s ms ≡ None
chosen_none s [] e = refl
chosen_none s (x ∷ ms) e = by (is_called s.name s.desc x) (sym (Rattle.cjc_tokens.proofs.Facts.position-cons
    (λ (q : Member). is_called s.name s.desc q) x ms) ∙ e) (chosen_none s ms)
  where
    by : (t : Bool) → (if t then Some 0 else option_map suc (position (λ (q : Member). is_called s.name s.desc q) ms))
        ≡ None → (position (λ (q : Member). is_called s.name s.desc q) ms ≡ None → chosen any_method s ms ≡ None)
        → (if t then Some x else chosen any_method s ms) ≡ None
    by true h rest = absurd (cc)
    by false h rest = later_none (position (λ (q : Member). is_called s.name s.desc q) ms) refl h
      where
        later_none : (o : Option ℕ) → position (λ (q : Member). is_called s.name s.desc q) ms ≡ o
            → option_map suc o ≡ None → chosen any_method s ms ≡ None
        later_none None is g = rest is
        later_none (Some j) is g = absurd (cc)

-- a class over superclasses of one that stands over another's
pub under_then : (w : List Class) {x y z : List ℕ} → Under w x y → Under w y z → Under w x z
under_then w itself far = far
under_then w (below c e listed more) far = below c e listed (under_then w more far)

module _ (list : List ℕ) (p : Package) (sound : IsSound list p.files) (facts : Facts p) (tokens : KeepsTokens (world p))
    (kinds : SaysKinds (world p) (naming p)) (imported_calls : ImportedCallsAgree (world p)) (id : MemberId) where
  abbrev w : List Class
  w = world p

  abbrev n : Naming
  n = naming p

  abbrev s : Signature
  s = signature id

  -- the methods of a class under the name, and those of them that selection takes
  abbrev finds : Class → Option Found
  finds = own_method false id.name id.desc

  abbrev selects : Class → Option Found
  selects = own_method true id.name id.desc

  -- ---- what a look-up found

  -- whether a script may send it
  pub record Sends (f : Found) (b : Bool) : Type 0 where
    pub hit : ResolvedMember
    pub there : method_hit w f ≡ Some hit
    pub is : is_sendable id hit ≡ b

  pub hit_there : (d : Class) (i : ℕ) (m : Member) → class_at w d.is_imported d.number ≡ Some d → slice_get d.methods i
      ≡ Some m → method_hit w (member_at d (length d.fields + i)) ≡ Some (record { owner = d; flags = m.flags })
  hit_there d i m placed there =
      let left : length d.fields + i - length d.fields ≡ i = omega arith in
      ap (option_and_then (λ (c : Class). option_map (λ (q : Member). record { owner = c; flags = q.flags })
      (slice_get c.methods (length d.fields + i - length c.fields)))) placed
      ∙ ap (λ j. option_map (λ (q : Member). record { owner = d; flags = q.flags }) (slice_get d.methods j)) left
      ∙ ap (option_map (λ (q : Member). record { owner = d; flags = q.flags })) there

  pub sendable_is : (d : Class) (m : Member) → m.name ≡ id.name → is_sendable id (record { owner = d; flags = m.flags })
      ≡ is_virtual m
  sendable_is d m name =
      by (lookup.is_selectable m.flags) (is_constructor id.name) (is_initialiser id.name)
      ∙ ap (λ x. lookup.is_selectable m.flags && not (is_constructor x || members.is_initialiser x)) (sym name)
    where
      by : (a b c : Bool) → ((a && not b) && not c) ≡ (a && not (b || c))
      by true true c = refl
      by true false c = refl
      by false b c = refl

  -- ---- what it dispatches to

  agree : (x : List ℕ) (c : Class) (e : class_named w x ≡ Some c) (class_here : is_interface c.flags ≡ false)
      → DispatchAgrees w n (method_offset p) x (let q = class_stands p facts x c e class_here in q.foot)
  agree x c e class_here = let q = class_stands p facts x c e class_here
      in dispatch.dispatch_agrees w facts.are_supertypes facts.one_supertypes n (method_offset p) facts.low kinds
      q.height x q.foot q.tower (height_fits p facts x c e q)

  -- On objects of the class and of those below it, a token dispatches to what selection by name gives, which gives
  -- something.
  abbrev pub Dispatches : List ℕ → Token → Type 0
  Dispatches y t =
      (x : List ℕ) (c : Class) (e : class_named w x ≡ Some c) (class_here : is_interface c.flags ≡ false) → Under w x y
      → (g : Found) × (selection w x s ≡ Some g) × (dispatched (tower n.loaded (n.class x)) t
      ≡ selection_of n (method_offset p) (let q = class_stands p facts x c e class_here in q.foot) s g)

  dispatches_below : (y z : List ℕ) (t : Token) → Under w y z → Dispatches z t → Dispatches y t
  dispatches_below y z t far sends x c e class_here under = sends x c e class_here (under_then w under far)

  -- where selection gives something from a class, it does so from those below it
  line_listed : (own : Class → Option Found) (xs : List (List ℕ)) (k : Supertypes) → AreSupertypes w xs k → (y : List ℕ)
      → Lists y xs → (f : Found) → first own (line w y) ≡ Some f → (g : Found) × (first own (upwards k) ≡ Some g)
  line_listed own xs k ends y h f e = elim h [ ]
  line_listed own xs k (unknown_here {x = x} {next = next} none rest) y foremost f e =
      let nothing : line w y ≡ [] = line_of_names p facts y
      ∙ ap upwards (facts.one_supertypes (y ∷ []) (supertypes w (y ∷ [])) (Unknown y End) (facts.are_supertypes (y
      ∷ [])) (unknown_here none ends)) in
      let clash : None ≡ Some f = sym (first_nothing own) ∙ ap (first own) (sym nothing) ∙ e in absurd (cc)
  line_listed own xs k (unknown_here none rest) y (after h) f e = line_listed own _ _ rest y h f e
  line_listed own xs k (known_here {x = x} {c = c} {supers = supers} {interfaces = interfaces} {next = next} known ks ki
      kn) y foremost f e =
      let here : line w y ≡ c ∷ upwards supers = line_is p facts y c known
      ∙ ap (λ q. c ∷ upwards q) (facts.one_supertypes c.supers (supertypes w c.supers) supers
      (facts.are_supertypes c.supers) ks) in
      (f, first_front own (c ∷ upwards supers) (upwards next) f (ap (first own) (sym here) ∙ e))
  line_listed own xs k (known_here {c = c} {supers = supers} {next = next} known ks ki kn) y (after h) f e =
      let r = line_listed own _ _ kn y h f e in first_after own (c ∷ upwards supers) (upwards next) r.0 r.1

  pub selected_below : {x y : List ℕ} → Under w x y → (f : Found) → first selects (line w y) ≡ Some f → (g : Found)
      × (first selects (line w x) ≡ Some g)
  selected_below itself f e = (f, e)
  selected_below {x = x} (below {y = y} c known listed more) f e =
      let up = selected_below more f e in
      let r = line_listed selects c.supers (supertypes w c.supers) (facts.are_supertypes c.supers) y listed up.0 up.1 in
      let q = first_behind selects c (upwards (supertypes w c.supers)) r.0 r.1 in
      (q.0, ap (first selects) (line_is p facts x c known) ∙ q.1)

  -- a class that declares a virtual method of the name selects one
  own_selected : (c : Class) (i : ℕ) (m : Member) → slice_get c.methods i ≡ Some m → m.name ≡ id.name → m.desc ≡ id.desc
      → is_virtual m ≡ true → (g : Found) × (selects c ≡ Some g)
  unfolding own_method
  own_selected c i m there name desc virtual =
      let open_one = parts (lookup.is_selectable m.flags) (not (is_constructor m.name || members.is_initialiser m.name))
      virtual in
      let called : is_called id.name id.desc m ≡ true = ap (λ x. Rattle.std.specs.Str.bytes_eq x id.name
      && Rattle.std.specs.Str.bytes_eq m.desc id.desc) name ∙ ap (λ x. Rattle.std.specs.Str.bytes_eq id.name id.name
      && Rattle.std.specs.Str.bytes_eq x id.desc) desc
      ∙ ap (λ t. t && Rattle.std.specs.Str.bytes_eq id.desc id.desc)
      (Rattle.cjc_token_proof.proofs.ByToken.Members.bytes_same id.name)
      ∙ Rattle.cjc_token_proof.proofs.ByToken.Members.bytes_same id.desc in
      let r = is_found (λ (q : Member). is_wanted true q.flags && is_called id.name id.desc q) c.methods i m there
      (ap (λ t. t && is_called id.name id.desc m) open_one ∙ called) in
      (member_at c (length c.fields + r.0), ap (option_map (λ j. member_at c (length c.fields + j))) r.1)
    where
      parts : (a b : Bool) → (a && b) ≡ true → a ≡ true
      parts true b e = refl
      parts false b e = absurd (cc)

  own_line_selected : (x : List ℕ) (c : Class) → class_named w x ≡ Some c → (g : Found) → selects c ≡ Some g
      → first selects (line w x) ≡ Some g
  own_line_selected x c e g is = ap (first selects) (line_is p facts x c e)
      ∙ first_step selects c (upwards (supertypes w c.supers))
      ∙ ap (λ o. lookup.or_else o (first selects (upwards (supertypes w c.supers)))) is

  -- a public or protected method, by the token of its slot
  open_dispatches : (y : List ℕ) (d : Class) → class_named w y ≡ Some d → finds_shown (line_of w y) s ≡ true
      → (f : Found) → first selects (line w y) ≡ Some f → (t : ℕ) → token (slots (line_of w y)) s ≡ Some t
      → Dispatches y (Open t)
  open_dispatches y d known shown_here f selected t is x c e class_here under =
      let calls = facts.virtual_calls x y c d e class_here known under in
      let r = calls.open_method s shown_here in
      let g = selected_below under f selected in
      let both : Some r.0 ≡ Some t = sym r.1 ∙ is in
      let same : r.0 ≡ t = cc in
      let a = agree x c e class_here in (
        g.0,
        g.1,
        a.open_method t g.0 s (ap (tables.dispatched (tower_of w x)) (sym same) ∙ r.2
            ∙ g.1) (line_found p facts true id.name id.desc x g.0 g.1),
      )

  -- a package-visible one
  hidden_dispatches : (y : List ℕ) (d : Class) → class_named w y ≡ Some d → finds_hidden (line_of w y) s ≡ true
      → (f : Found) → first selects (line w y) ≡ Some f → (t : ℕ) → token (hidden_slots (line_of w y)) s ≡ Some t
      → Dispatches y (Hidden 0 t)
  hidden_dispatches y d known hidden_here f selected t is x c e class_here under =
      let calls = facts.virtual_calls x y c d e class_here known under in
      let r = calls.package_method s hidden_here in
      let g = selected_below under f selected in
      let both : Some r.0 ≡ Some t = sym r.1 ∙ is in
      let same : r.0 ≡ t = cc in
      let a = agree x c e class_here in
      (g.0, g.1, a.package_method t g.0 s (ap (tables.dispatched_hidden (tower_of w x)) (sym same) ∙ r.2 ∙ g.1))

  -- a package-visible one of an imported class, by its token in the export file
  outside_dispatches : (y : List ℕ) (d : Class) (m : Member) → class_named w y ≡ Some d → d.is_imported ≡ true
      → In m (d.methods ++ all_methods (upwards (supertypes w d.supers))) → is_hidden m ≡ true → signature_of m ≡ s
      → (f : Found) → first selects (line w y) ≡ Some f → Dispatches y (Open m.token)
  outside_dispatches y d m known import there is_one names f selected x c e class_here under =
      let g = selected_below under f selected in
      let a = agree x c e class_here in
      let same = imported_calls x y c d m e class_here known import under there is_one in (
        g.0,
        g.1,
        a.open_method m.token g.0 s (same ∙ ap (selection w x) names ∙ g.1) (line_found p facts true id.name
            id.desc x g.0 g.1),
      )

  -- ---- the method that is found, and its token

  pub data Told (y : List ℕ) : Option Found → Option (Option Token) → Type 0 where
    nowhere : Told y None None
    bound : {f : Found} → Sends f false → Told y (Some f) (Some None)
    bears : {f : Found} {t : Token} → Sends f true → Dispatches y t → Told y (Some f) (Some (Some t))

  told_below : (y z : List ℕ) (o : Option Found) (t : Option (Option Token)) → Under w y z → Told z o t → Told y o t
  told_below y z o t far nowhere = nowhere
  told_below y z o t far (bound b) = bound b
  told_below y z o t far (bears {t = token_there} b sends) = bears b (dispatches_below y z token_there far sends)

  -- ---- imported classes

  -- what the classes say of the first method of the name
  pub record FirstOf (ds : List Class) (f : Found) : Type 0 where
    pub method : Member
    pub says : classes_token id ds ≡ Some (if is_virtual method then Some method.token else None)
    pub sends : Sends f (is_virtual method)
    pub among : In method (all_methods ds)
    pub chosen_is : chosen any_method s (all_methods ds) ≡ Some method
    pub names : signature_of method ≡ s
    pub selected : is_virtual method ≡ true → (g : Found) × (first selects ds ≡ Some g)

  class_none : (d : Class) → finds d ≡ None → chosen any_method s d.methods ≡ None
  unfolding own_method
  class_none d e = chosen_none s d.methods (by (position (λ (q : Member). is_called id.name id.desc q) d.methods) e)
    where
      by : (o : Option ℕ) → option_map (λ i. member_at d (length d.fields + i)) o ≡ None → o ≡ None
      by None h = refl
      by (Some i) h = absurd (cc)

  pub class_chosen : (d : Class) (f : Found) → finds d ≡ Some f → (m : Member) × (i : ℕ)
      × (slice_get d.methods i ≡ Some m) × (f ≡ member_at d (length d.fields + i)) × (m.name ≡ id.name)
      × (m.desc ≡ id.desc) × (chosen any_method s d.methods ≡ Some m)
  unfolding own_method
  class_chosen d f e = by (position (λ (q : Member). is_called id.name id.desc q) d.methods) refl e
    where
      and_true : (a b : Bool) → (a && b) ≡ true → (a ≡ true) × (b ≡ true)
      and_true true b h = (refl, h)
      and_true false b h = absurd (cc)

      by : (o : Option ℕ) → position (λ (q : Member). is_called id.name id.desc q) d.methods ≡ o
          → option_map (λ i. member_at d (length d.fields + i)) o ≡ Some f
          → (m : Member) × (i : ℕ) × (slice_get d.methods i ≡ Some m) × (f ≡ member_at d (length d.fields + i))
          × (m.name ≡ id.name) × (m.desc ≡ id.desc) × (chosen any_method s d.methods ≡ Some m)
      by None is h = absurd (cc)
      by (Some i) is h =
          let r = position_has (λ (q : Member). is_called id.name id.desc q) d.methods i some_member is in
          let two = and_true (Rattle.std.specs.Str.bytes_eq r.0.name id.name) (Rattle.std.specs.Str.bytes_eq r.0.desc
          id.desc) r.2 in
          let same : member_at d (length d.fields + i) ≡ f = cc in (
            r.0,
            i,
            r.1,
            sym same,
            Rattle.cjc_token_proof.proofs.ByToken.Members.bytes_tell r.0.name id.name two.0,
            Rattle.cjc_token_proof.proofs.ByToken.Members.bytes_tell r.0.desc id.desc two.1,
            chosen_first s d.methods i r.0 is r.1,
          )

  pub sends_of : (d : Class) (i : ℕ) (m : Member) (f : Found) → class_named w d.name ≡ Some d → slice_get d.methods i
      ≡ Some m → m.name ≡ id.name → f ≡ member_at d (length d.fields + i) → Sends f (is_virtual m)
  sends_of d i m f known there name is = record {
    hit = record { owner = d; flags = m.flags };
    there = ap (method_hit w) is ∙ hit_there d i m (facts.placed d.name d known) there;
    is = sendable_is d m name;
  }

  classes_none : (ds : List Class) → first finds ds ≡ None → classes_token id ds ≡ None
  unfolding first
  classes_none [] e = refl
  classes_none (d ∷ ds) e = by (finds d) refl e (classes_none ds)
    where
      by : (o : Option Found) → finds d ≡ o → lookup.or_else o (first finds ds) ≡ None → (first finds ds ≡ None
          → classes_token id ds ≡ None) → or_else (class_token id d) (classes_token id ds) ≡ None
      by None is h rest = ap (λ c. or_else (option_map (λ (m : Member). if is_virtual m then Some m.token else None) c)
          (classes_token id ds)) (class_none d is) ∙ rest h
      by (Some g) is h rest = absurd (cc)

  pub classes_some : (ds : List Class) (f : Found) → founds.AllNamed w ds → first finds ds ≡ Some f → FirstOf ds f
  unfolding first
  classes_some [] f all e = absurd (cc)
  classes_some (d ∷ ds) f all e = by (finds d) refl e (classes_some ds f all.1)
    where
      by : (o : Option Found) → finds d ≡ o → lookup.or_else o (first finds ds) ≡ Some f → (first finds ds ≡ Some f
          → FirstOf ds f) → FirstOf (d ∷ ds) f
      by None is h rest =
          let r = rest h in
          let none = class_none d is in
          record {
            method = r.method;
            says = ap (λ c. or_else (option_map (λ (m : Member). if is_virtual m then Some m.token else None) c)
                (classes_token id ds)) none ∙ r.says;
            sends = r.sends;
            among = In-behind r.method d.methods (all_methods ds) r.among;
            chosen_is = chosen_past s d.methods (all_methods ds) none ∙ r.chosen_is;
            names = r.names;
            selected = λ virtual. (let g = r.selected virtual in first_behind selects d ds g.0 g.1);
          }
      by (Some g) is h rest =
          let same : g ≡ f = cc in
          let c = class_chosen d g is in
          let m = c.0 in
          record {
            method = m;
            says = ap (λ o. or_else (option_map (λ (q : Member). if is_virtual q then Some q.token else None) o)
                (classes_token id ds)) c.6;
            sends = sends_of d c.1 m f all.0 c.2 c.4 (sym same ∙ c.3);
            among = In-front m d.methods (all_methods ds) (in_at d.methods c.1 m c.2);
            chosen_is = chosen_front s d.methods (all_methods ds) m c.6;
            names = ap (λ x. record { name = x; desc = m.desc }) c.4 ∙ ap (λ x. record { name = id.name; desc = x })
                c.5;
            selected = λ virtual. (let q = own_selected d c.1 m c.2 c.4 c.5 virtual in (
              q.0,
              first_step selects d ds
                  ∙ ap (λ o. lookup.or_else o (first selects ds)) q.1,
            ));
          }

  -- the line of an imported class as tokens see it
  imported_line : (x : List ℕ) (c : Class) → class_named w x ≡ Some c → c.is_imported ≡ true
      → line_of w x ≡ Imported (c ∷ upwards (supertypes w c.supers))
  imported_line x c e import = ap (line_in w) (supertypes-known w facts.are_supertypes facts.one_supertypes x c e)
      ∙ ap (λ t. if t then Imported (c ∷ upwards (supertypes w c.supers))
      else Declared c (added w c) (line_in w (supertypes w c.supers))) import

  own_line : (x : List ℕ) (c : Class) → class_named w x ≡ Some c → c.is_imported ≡ false
      → line_of w x ≡ Declared c (added w c) (line_in w (supertypes w c.supers))
  own_line x c e own = ap (line_in w) (supertypes-known w facts.are_supertypes facts.one_supertypes x c e)
      ∙ ap (λ t. if t then Imported (c ∷ upwards (supertypes w c.supers))
      else Declared c (added w c) (line_in w (supertypes w c.supers))) own

  -- an imported class that is no interface: its export file and those of what stands above it
  pub files_told : (x : List ℕ) (c : Class) → class_named w x ≡ Some c → c.is_imported ≡ true → is_interface c.flags
      ≡ false → (k : ℕ) → Told x (first finds (line w x)) (found_token n.loaded (suc k) (Some (n.class x)) id)
  files_told x c known import class_here k = subst (Told x (first finds (line w x))) (sym token_is)
      (by (first finds (c ∷ upwards (supertypes w c.supers))) refl)
    where
      h : HasEntry p c
      h = Rattle.cjc_token_proof.proofs.WrittenCalls.Files.has p facts x c known import

      on_card : n.class x ≡ card.External h.file h.entry.token
      on_card = sym (ap (card_class p) (class_named-name w x c known)) ∙ h.on_card

      supers_are : h.entry.supers ≡ c.supers
      supers_are = ap (λ (q : Class). q.supers) (sym h.class)

      entry_plain : (j : ℕ) (m : Rattle.cjc_world.specs.ExportFile.declared.tree.ExportMethod.ExportMethod)
          → slice_get h.entry.methods j ≡ Some m → members.is_initialiser m.name ≡ true → is_static m.flags ≡ true
      entry_plain = Rattle.cjc_token_proof.proofs.WrittenCalls.Files.entry_plain p facts x c known import

      listed : token_in_files (exported_line n.loaded (Some h.entry)) id ≡ classes_token id (c
          ∷ upwards (supertypes w c.supers))
      listed =
          ap (λ o. or_else o (token_in_files (Rattle.cjc_world.specs.ExportFile.Supers.upwards
          (exported p) h.entry.supers) id))
          (listed_is id h.number h.entry entry_plain ∙ ap (class_token id) (sym h.class))
          ∙ ap (λ ss. or_else (class_token id c) (token_in_files (Rattle.cjc_world.specs.ExportFile.Supers.upwards
          (exported p)
          ss) id)) supers_are
          ∙ ap (or_else (class_token id c)) (upwards_token p facts id c.supers (λ y d l e. facts.rules.apart x y c d
          known import l e))

      token_is : found_token n.loaded (suc k) (Some (n.class x)) id ≡ option_map (option_map Open) (classes_token id (c
          ∷ upwards (supertypes w c.supers)))
      token_is =
          ap (λ q. found_token n.loaded (suc k) (Some q) id) on_card
          ∙ ap (λ o. option_map (option_map Open) (token_in_files (exported_line n.loaded o) id)) h.there
          ∙ ap (option_map (option_map Open)) listed

      named_line : founds.AllNamed w (c ∷ upwards (supertypes w c.supers))
      named_line = subst (founds.AllNamed w) (line_is p facts x c known) (founds.line_named w x)

      line_here : first finds (line w x) ≡ first finds (c ∷ upwards (supertypes w c.supers))
      line_here = ap (first finds) (line_is p facts x c known)

      by : (o : Option Found) → first finds (c ∷ upwards (supertypes w c.supers)) ≡ o
          → Told x (first finds (line w x)) (option_map (option_map Open) (classes_token id (c
          ∷ upwards (supertypes w c.supers))))
      by None is =
          subst (λ q. Told x (first finds (line w x)) (option_map (option_map Open) q))
          (sym (classes_none (c ∷ upwards (supertypes w c.supers)) is))
          (subst (λ q. Told x q None) (sym (line_here ∙ is)) nowhere)
      by (Some f) is =
          let r = classes_some (c ∷ upwards (supertypes w c.supers)) f named_line is in
          subst (λ q. Told x (first finds (line w x)) (option_map (option_map Open) q)) (sym r.says)
          (subst (λ q. Told x q (option_map (option_map Open) (Some (if is_virtual r.method then Some r.method.token
          else None)))) (sym (line_here ∙ is)) (virtual r (is_virtual r.method) refl))
        where
          shown_is : (r : FirstOf (c ∷ upwards (supertypes w c.supers)) f) → finds_shown (line_of w x) s
              ≡ is_shown r.method
          shown_is r = ap (λ l. finds_shown l s) (imported_line x c known import)
              ∙ ap (λ o. passes is_shown o false) r.chosen_is

          open_one : (r : FirstOf (c ∷ upwards (supertypes w c.supers)) f) (g : Found) → first selects (line w x)
              ≡ Some g → is_virtual r.method ≡ true → (t : Bool) → is_shown r.method ≡ t
              → Dispatches x (Open r.method.token)
          open_one r g selected is_one true shown_one =
              let once = facts.tokens_once x x c c known class_here known itself in
              let there = once.listed c r.method known import r.among shown_one in
              open_dispatches x c known (shown_is r ∙ shown_one) g selected r.method.token
              (ap (token (slots (line_of w x))) (sym r.names) ∙ there)
          open_one r g selected is_one false not_shown = outside_dispatches x c r.method known import r.among
              (Rattle.cjc_token_proof.proofs.WrittenSends.Tokens.virtual_kinds r.method is_one not_shown) r.names g
              selected

          virtual : (r : FirstOf (c ∷ upwards (supertypes w c.supers)) f) (t : Bool) → is_virtual r.method ≡ t
              → Told x (Some f) (option_map (option_map Open) (Some (if is_virtual r.method then Some r.method.token
              else None)))
          virtual r false not_one =
              subst (λ t. Told x (Some f) (option_map (option_map Open) (Some (if t then Some r.method.token
              else None)))) (sym not_one) (bound (subst (Sends f) not_one r.sends))
          virtual r true is_one =
              let g = r.selected is_one in
              subst (λ t. Told x (Some f) (option_map (option_map Open) (Some (if t then Some r.method.token
              else None)))) (sym is_one)
              (bears (subst (Sends f) is_one r.sends) (open_one r g.0 (ap (first selects) (line_is p facts x c known)
              ∙ g.1) is_one (is_shown r.method) refl))

  -- ---- classes of the package

  -- one step upwards on the card, where an initialiser is not described
  pub step_up : (x super : List ℕ) (c : Class) (k : ℕ) → class_named w x ≡ Some c → c.is_imported ≡ false
      → (t : SaysTables w n (method_offset p) x c super)
      → found_token n.loaded (suc (suc k)) (Some (n.class x)) id
      ≡ token_or (option_map (λ m. record { part = 0; method = m }) (option_map (method_descriptor p c)
      (if is_initialiser id.name then None else finds c))) (found_token n.loaded (suc k) (Some (n.class super)) id)
  step_up x super c k known own t =
      ap (λ q. found_token n.loaded (suc (suc k)) (Some q) id) t.on_card
      ∙ ap (λ o. token_or (declared n.loaded (Own 0 t.at) id) (found_token n.loaded (suc k) o id))
      (ap (superclass_by n.loaded 0) t.there ∙ t.superclass)
      ∙ ap (λ q. token_or (declared n.loaded q id) (found_token n.loaded (suc k) (Some (n.class super)) id))
      (sym t.on_card ∙ sym (ap (card_class p) (class_named-name w x c known)))
      ∙ ap (λ o. token_or o (found_token n.loaded (suc k) (Some (n.class super)) id)) (declared_is p facts x c known own
      id)

  module _ (plain : is_initialiser id.name ≡ false) where
    -- a method that a class declares itself
    own_told : (x : List ℕ) (c : Class) → class_named w x ≡ Some c → c.is_imported ≡ false → is_interface c.flags
        ≡ false → (f : Found) → finds c ≡ Some f
        → Told x (Some f) (Some (described_token (record { part = 0; method = method_descriptor p c f })))
    own_told x c known own class_here f is =
        let q = class_chosen c f is in
        subst (λ g. Told x (Some f) (Some (described_token (record { part = 0; method = method_descriptor p c g }))))
        (sym q.3) (virtual q.0 q.1 q.2 q.3 q.4 q.5 q.6 (is_virtual q.0) refl)
      where
        virtual : (m : Member) (i : ℕ) → slice_get c.methods i ≡ Some m → f ≡ member_at c (length c.fields + i)
            → m.name ≡ id.name → m.desc ≡ id.desc → chosen any_method s c.methods ≡ Some m → (t : Bool)
            → is_virtual m ≡ t
            → Told x (Some f)
            (Some (described_token (record {
              part = 0;
              method = method_descriptor p c (member_at c (length c.fields + i));
            })))
        virtual m i there at name desc first_one false not_one =
            subst (λ t. Told x (Some f) (Some t)) (sym (bound_described list p sound facts x c known own class_here i m
            there (fixed (is_static m.flags) (is_private m.flags) (is_constructor m.name) (members.is_initialiser
            m.name) not_one (ap is_initialiser name ∙ plain))))
            (bound (subst (Sends f) not_one (sends_of c i m f (ap (class_named w) (class_named-name w x c known)
            ∙ known) there name at)))
          where
            fixed : (st pr k i : Bool) → ((not pr && not st) && not (k || i)) ≡ false → i ≡ false
                → (st || (pr || k)) ≡ true
            fixed true pr k i e f = refl
            fixed false true k i e f = refl
            fixed false false true i e f = refl
            fixed false false false false e f = absurd (cc)
            fixed false false false true e f = absurd (cc)
        virtual m i there at name desc first_one true is_one = by (is_shown m) refl
          where
            names : signature_of m ≡ s
            names = ap (λ y. record { name = y; desc = m.desc }) name ∙ ap (λ y. record { name = id.name; desc = y })
                desc

            sends : Sends f true
            sends = subst (Sends f) is_one (sends_of c i m f (ap (class_named w) (class_named-name w x c known)
                ∙ known) there name at)

            chosen_one : (g : Found) × (selects c ≡ Some g)
            chosen_one = own_selected c i m there name desc is_one

            selected : first selects (line w x) ≡ Some chosen_one.0
            selected = own_line_selected x c known chosen_one.0 chosen_one.1

            by : (t : Bool) → is_shown m ≡ t
                → Told x (Some f)
                (Some (described_token (record {
                  part = 0;
                  method = method_descriptor p c (member_at c (length c.fields + i));
                })))
            by true shown_one =
                let finds_it : finds_shown (line_of w x) s ≡ true = ap (λ l. finds_shown l s) (own_line x c known own)
                ∙ ap (λ o. passes is_shown o (finds_shown (line_in w (supertypes w c.supers)) s)) first_one
                ∙ shown_one in
                let calls = facts.virtual_calls x x c c known class_here known itself in
                let r = calls.open_method s finds_it in
                subst (λ t. Told x (Some f) (Some t)) (sym (shown_described list p sound facts x c known own class_here
                i m there is_one shown_one r.0 (ap (token (slots (line_of w x))) names
                ∙ r.1) (tokens x c s r.0 known class_here r.1)))
                (bears sends (open_dispatches x c known finds_it chosen_one.0 selected r.0 r.1))
            by false not_shown =
                let finds_it : finds_hidden (line_of w x) s ≡ true = ap (λ l. finds_hidden l s) (own_line x c known own)
                ∙ ap (λ o. passes is_hidden o (finds_hidden (line_in w (supertypes w c.supers)) s)) first_one
                ∙ Rattle.cjc_token_proof.proofs.WrittenSends.Tokens.virtual_kinds m is_one not_shown in
                let calls = facts.virtual_calls x x c c known class_here known itself in
                let r = calls.package_method s finds_it in
                subst (λ t. Told x (Some f) (Some t)) (sym (hidden_described list p sound facts x c known own class_here
                i m there is_one not_shown r.0 (ap (token (hidden_slots (line_of w x))) names ∙ r.1)))
                (bears sends (hidden_dispatches x c known finds_it chosen_one.0 selected r.0 r.1))

    step : (x super : List ℕ) (c : Class) (k : ℕ) → class_named w x ≡ Some c → c.is_imported ≡ false
        → (t : SaysTables w n (method_offset p) x c super)
        → found_token n.loaded (suc (suc k)) (Some (n.class x)) id
        ≡ token_or (option_map (λ m. record { part = 0; method = m }) (option_map (method_descriptor p c)
        (finds c))) (found_token n.loaded (suc k) (Some (n.class super)) id)
    step x super c k known own t =
        step_up x super c k known own t
        ∙ ap (λ b. token_or (option_map (λ m. record { part = 0; method = m }) (option_map (method_descriptor p c) (if b
        then None else finds c))) (found_token n.loaded (suc k) (Some (n.class super)) id)) plain

    -- What is found from a class over superclasses has its token, or none where no script may send it.
    pub line_told : {h : ℕ} {x foot : List ℕ} → SaysTower w n (method_offset p) h x foot → (c : Class)
        → class_named w x ≡ Some c → is_interface c.flags ≡ false → (k : ℕ) → h ≤ k
        → Told x (first finds (line w x)) (found_token n.loaded (suc k) (Some (n.class x)) id)
    line_told {x = x} (of_file d known import file) c e class_here k low =
        let both : Some d ≡ Some c = sym known ∙ e in
        let same : d ≡ c = cc in
        files_told x d known import (ap (λ (q : Class). is_interface q.flags) same ∙ class_here) k
    line_told (of_package d super known own supers t rest) c e class_here zero low = absurd (omega (arith, low))
    line_told {x = x} (of_package d super known own supers t rest) c e class_here (suc k) low =
        let both : Some d ≡ Some c = sym known ∙ e in
        let same : d ≡ c = cc in
        let not_interface : is_interface d.flags ≡ false = ap (λ (q : Class). is_interface q.flags) same ∙ class_here in
        let up = facts.super_there x super d known own supers in
        subst (Told x (first finds (line w x))) (sym (step x super d k known own t)) (by not_interface (finds d) refl
        (line_told rest up.0 up.1 up.2 k (omega (arith, low))))
      where
        line_here : first finds (line w x) ≡ lookup.or_else (finds d) (first finds (line w super))
        line_here =
            ap (first finds) (line_is p facts x d known) ∙ first_step finds d (upwards (supertypes w d.supers))
            ∙ ap (λ ss. lookup.or_else (finds d) (first finds (upwards (supertypes w ss)))) supers
            ∙ ap (λ cs. lookup.or_else (finds d) (first finds cs)) (sym (line_of_names p facts super))

        by : is_interface d.flags ≡ false → (o : Option Found) → finds d ≡ o
            → Told super (first finds (line w super)) (found_token n.loaded (suc k) (Some (n.class super)) id)
            → Told x (first finds (line w x)) (token_or (option_map (λ m. record { part = 0; method = m })
            (option_map (method_descriptor p d) (finds d))) (found_token n.loaded (suc k) (Some (n.class super))
            id))
        by not_interface None is r =
            subst (λ q. Told x q (token_or (option_map (λ m. record { part = 0; method = m })
            (option_map (method_descriptor p d) (finds d))) (found_token n.loaded (suc k) (Some (n.class super))
            id))) (sym (line_here ∙ ap (λ o. lookup.or_else o (first finds (line w super))) is))
            (subst (λ o. Told x (first finds (line w super)) (token_or (option_map (λ m. record {
              part = 0;
              method = m;
            }) (option_map (method_descriptor p d) o)) (found_token n.loaded (suc k)
            (Some (n.class super)) id))) (sym is)
            (told_below x super (first finds (line w super)) (found_token n.loaded (suc k) (Some (n.class super)) id)
            (below d known (subst (λ ss. Lists super ss) (sym supers) foremost) itself) r))
        by not_interface (Some f) is r =
            subst (λ q. Told x q (token_or (option_map (λ m. record { part = 0; method = m })
            (option_map (method_descriptor p d) (finds d))) (found_token n.loaded (suc k) (Some (n.class super))
            id))) (sym (line_here ∙ ap (λ o. lookup.or_else o (first finds (line w super))) is))
            (subst (λ o. Told x (Some f) (token_or (option_map (λ m. record { part = 0; method = m })
            (option_map (method_descriptor p d) o)) (found_token n.loaded (suc k) (Some (n.class super)) id)))
            (sym is)
            (own_told x d known own not_interface f is))
