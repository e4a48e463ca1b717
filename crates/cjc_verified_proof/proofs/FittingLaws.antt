-- Dispatch keeps the descriptors that entries of the constant pool and tokens of interfaces name.
use Rattle.std.proofs.Common.{◌≡◌, [], ℕ, zero, suc, ◌+◌, ◌-◌, ◌<◌, ◌≤◌, ◌==◌, Bool, true, false, not, List, ◌∷◌}
use Rattle.std.proofs.Common.{length, map, slice_get, Option, Some, None, refl, sym, ap, subst, ◌∙◌, arith, nat_lt}
use Rattle.std.specs.Prelude.{◌&&◌, ◌^◌, ◌||◌, if◌then◌else◌, is_some, option_and_then, option_map, position, reverse}
use Rattle.std.specs.Prelude.{unwrap_or}
use Rattle.std.specs.List.{find, list_any}
use Rattle.std.proofs.lemmas.Bool.Decides.{nat_tests}
use Rattle.std.proofs.lemmas.List.Folds.{list_any-append}
use mathlib.Core.List.{reverse-cons}
use Rattle.std.proofs.lemmas.Map.Keys.{any_passes_from_place}
use Rattle.std.proofs.lemmas.Option.{slice_get-map}
use Rattle.cjc_bytes.specs.AccessFlags.{is_interface, is_static}
use Rattle.cjc_bytes.specs.AccessFlags as flags
use Rattle.cjc_capread.specs.declared.tree.ClassEntry.{ClassEntry}
use Rattle.cjc_capread.specs.declared.tree.ClassRef.{ClassRef}
use Rattle.cjc_capread.specs.declared.tree.ClassRef.TheVariants.{Inside, Outside}
use Rattle.cjc_capread.specs.declared.tree.PoolEntry.{PoolEntry}
use Rattle.cjc_capread.specs.declared.tree.PoolEntry.TheVariants.{SuperMethodref, VirtualMethodref}
use Rattle.cjc_check_rules.specs.Classes.{classes_at, is_own_class}
use Rattle.cjc_check_rules.specs.Classes as check
use Rattle.cjc_world.specs.ExportFile.declared.tree.ExportClass.{ExportClass}
use Rattle.cjc_world.specs.ExportFile.declared.tree.ExportMethod.{ExportMethod}
use Rattle.cjc_world.specs.ExportFile.declared.tree.ExportTree.{ExportTree}
use Rattle.cjc_world.specs.ExportFile.Supers.{virtual_method}
use Rattle.cjc_world.specs.ExportFile.Supers as exports
use Rattle.cjc_check_rules.specs.Members.{base_of, has_token, has_virtual, place_of, superclass_has, table_of}
use Rattle.cjc_check_rules.specs.PoolEntries.{names_member}
use Rattle.cjc_check_rules.specs.Spots.{Placed, begins, in_info, item_at, unless}
use Rattle.cjc_world.specs.declared.found.Found.{Found}
use Rattle.cjc_world.specs.Classes.{Class, Member, all_classes, class_named, declared, imported, method_of_export}
use Rattle.cjc_world.specs.Classes as world
use Rattle.cjc_world.specs.Lookup.{is_called}
use Rattle.cjc_world.specs.Interfaces.{known as known_ones}
use Rattle.cjc_world.specs.Order.{class_order}
use Rattle.cjc_world.specs.Supertypes.{Lists, foremost, line}
use Rattle.cjc_world.proofs.Cycles.{class_named-name}
use Rattle.cjc_tokens.specs.Lines.{Line, line_at, line_in, line_of}
use Rattle.cjc_tokens.specs.Members.{In, Signature, all_methods, chosen, is_initialiser, is_virtual, later, same}
use Rattle.cjc_tokens.specs.Members.{first_of as foremost_of, signature_of}
use Rattle.cjc_tokens.specs.Methods.{interface_methods, interfaces_at}
use Rattle.cjc_tokens.specs.Slots.{hidden_row, hidden_slots, implementing_hidden, token}
use Rattle.cjc_tokens.specs.Tokens.{OfClass as OfTokens, assigned, joined, method_of_token}
use Rattle.cjc_tokens.proofs.Facts.{same-true}
use Rattle.cjc_tokens.proofs.Held.{here-has_slot, token-slot}
use Rattle.cjc_tokens.proofs.Means.{kept-at}
use Rattle.cjc_tokens.proofs.Walks.{supertypes-known}
use Rattle.cjc_token_proof.specs.VTable.Calls.{selects}
use Rattle.cjc_token_proof.specs.VTable.Dispatch as tables
use Rattle.cjc_token_proof.specs.VTable.Dispatch.{at_index}
use Rattle.cjc_token_proof.specs.VTable.Laws.{Under, below, itself}
use Rattle.cjc_token_proof.specs.VTable.Naming.{named}
use Rattle.cjc_token_proof.specs.VTable.declared.table.InterfaceMap.{InterfaceMap}
use Rattle.cjc_components.proofs.VTableAsked.{has-here, method-asked, named-among}
use Rattle.cjc_components.proofs.VTableCalls.{token-some}
use Rattle.cjc_components.proofs.VTableOnce.{hidden_slots-once}
use Rattle.cjc_card_semantics.specs.Script.Sorts.{Shape, OfClass}
use Rattle.cjc_card_semantics.specs.Machine.Calls.{dispatched_on}
use Rattle.cjc_card_semantics.specs.Machine.Classes.{External, Info, IsClass, IsInterface, Own, class_of, external}
use Rattle.cjc_card_semantics.specs.Machine.Classes.{is_of}
use Rattle.cjc_card_semantics.specs.Machine.Classes.{number_from, offset_from, shape_class}
use Rattle.cjc_card_semantics.specs.Machine.Classes as card
use Rattle.cjc_card_semantics.specs.Machine.Dispatch.{Hidden, Open, NotFound, Selection, Token, dispatched}
use Rattle.cjc_card_semantics.specs.Machine.Dispatch.{dispatched_hidden, dispatched_interface, dispatched_open}
use Rattle.cjc_card_semantics.specs.Machine.Dispatch.{interface_method, named_in, of_file, of_names, outward, tower}
use Rattle.cjc_card_semantics.specs.Machine.Dispatch as card_dispatch
use Rattle.cjc_card_semantics.specs.Machine.Loaded.{ClassNames, Loaded, MethodName}
use Rattle.cjc_card_semantics.specs.Machine.Operations.{token_of}
use Rattle.cjc_card_acts.specs.CardTypes.{both_of}
use Rattle.cjc_components.specs.Class.{superclass}
use Rattle.cjc_token_proof.specs.NCode.Lowering.Naming.{Naming}
use Rattle.cjc_components.specs.Package.{Package}
use Rattle.cjc_components.specs.Paired.Naming.{class_names}
use Rattle.cjc_token_proof.specs.ByToken.Above.{IsAtOrAbove}
use Rattle.cjc_token_proof.specs.ByToken.Above as above
use Rattle.cjc_verify.specs.Infos.{infos}
use Rattle.cjc_verify.specs.Named.{entry_of, exported, first_of, found_desc, interface_desc, line_named}
use Rattle.cjc_verify.specs.Named.{method_desc, named_desc, own_virtual_desc, selection_desc, virtual_desc_in}
use Rattle.cjc_verify.specs.Pairs.{Pair, class_at}
use Rattle.cjc_verify_proof.specs.Frames.{Program}
use Rattle.cjc_verify_proof.specs.Memories.{SupersStand}
use Rattle.cjc_verify_proof.specs.Turns.{IsMade}
use Rattle.cjc_verified_proof.specs.Checked.{Checked, HasCode, IsChecked, pair}
use Rattle.cjc_verified_proof.specs.ClassInfos.{wanted_info}
use Rattle.cjc_verify.specs.WantedInfos.{wanted_entry}
use Rattle.cjc_verified_proof.specs.Dispatching.{package_of}
use Rattle.cjc_verified_proof.specs.Kept.{KeepsCalls}
use Rattle.cjc_verified_proof.specs.Programs.{IsProgramOf}
use Rattle.cjc_verified_proof.specs.Selecting.{Answers, DispatchFits, HasDesc, IsConcrete, IsOf, NamesSuper}
use Rattle.cjc_verified_proof.specs.Selecting.{NamesVirtual}
use Rattle.cjc_verified_proof.specs.Selecting as selecting
use Rattle.cjc_bytes.proofs.Bools.{and_true, or_right}
use Rattle.cjc_bytes.proofs.Gets.{find_got, mapped_at, position_there}
use Rattle.cjc_bytes.proofs.Numbers.{number_same, number_same_number}
use Rattle.cjc_bytes.proofs.Plain.{same_some}
use Rattle.cjc_token_proof.proofs.ByToken.Above.{told_above}
use Rattle.cjc_token_proof.proofs.CallsLaws.Towers.{superclass_above}
use Rattle.cjc_token_proof.proofs.TablesLaws.Clean.{has_named}
use Rattle.cjc_token_proof.proofs.TablesLaws.Filed.{own_filed}
use Rattle.cjc_token_proof.proofs.WrittenCalls.Facts.{Facts}
use Rattle.cjc_token_proof.proofs.WrittenCalls.Files.{in_at}
use Rattle.cjc_token_proof.proofs.WrittenCalls.Receivers.{line_found}
use Rattle.cjc_token_proof.proofs.WrittenCalls.Towers.{class_stands, super_fits}
use Rattle.cjc_verified_proof.proofs.ConcreteLaws.{hidden_concrete, open_concrete, tables_fit, token_meant}
use Rattle.cjc_verified_proof.proofs.DescribedLaws.{fits}
use Rattle.cjc_verified_proof.proofs.EntryLaws.{unless_holds}
use Rattle.cjc_verified_proof.proofs.HoldsLaws.{Holds, hidden_holds, under_on}
use Rattle.cjc_verified_proof.proofs.InfoLaws.{infos_are}
use Rattle.cjc_verified_proof.proofs.KindLaws as kinds
use Rattle.cjc_verified_proof.proofs.NameLaws.{holder_there, own_meant}
use Rattle.cjc_verified_proof.proofs.NamingLaws.{depth_alike, n as names}
use Rattle.cjc_verified_proof.proofs.OrderedLaws.{ordered}
use Rattle.cjc_verified_proof.proofs.PlaceLaws.{along_none}
use Rattle.cjc_verified_proof.proofs.ReachedLaws.{Fits, far_concrete, given, hidden_fits, imported_keeps}
use Rattle.cjc_verified_proof.proofs.ReachedLaws.{interface_fits, interface_same}
use Rattle.cjc_verified_proof.proofs.ReachedLaws.{listed_fits, select_there, shown_fits, under_plain}
use Rattle.cjc_verified_proof.proofs.SelectedLaws.{facts as facts_of, item_so}
use Rattle.cjc_verified_proof.proofs.SupersLaws.{supers_stand}
use Rattle.cjc_verified_proof.proofs.ThereLaws.{outside_there}
use Rattle.cjc_verified_proof.proofs.TokenLaws.{desc_is, own_slot}
use Rattle.cjc_verified_proof.proofs.TowerLaws.{tables_here, tower_here}

-- ---- what 708 says of the class of an entry

turned : (a b : Bool) → (a || (b || false)) ≡ (b || a)
turned true true = refl
turned true false = refl
turned false true = refl
turned false false = refl

any_reversed : {A : Type 0} (t : A → Bool) (xs : List A) → list_any t (reverse xs) ≡ list_any t xs
any_reversed t [] = refl
any_reversed t (x ∷ xs) =
    ap (list_any t) (reverse-cons x xs)
    ∙ list_any-append t (reverse xs) (x ∷ [])
    ∙ turned (list_any t (reverse xs)) (t x) ∙ ap (λ b. t x || b) (any_reversed t xs)

or_second : (a b : Bool) → b ≡ true → (a || b) ≡ true
or_second true b e = refl
or_second false b e = e

own_begins : (ps : List (Placed ClassEntry)) (trees : List ExportTree) (offset token : ℕ) → has_token ps trees (Inside
    offset) token ≡ true → begins ps offset ≡ true
unfolding has_token
own_begins [] trees offset token e = cc
own_begins (q ∷ ps) trees offset token e = by (offset == q.at) refl e (own_begins ps trees offset token)
  where
    by : (b : Bool) → (offset == q.at) ≡ b → (if b then (if Rattle.std.specs.Prelude.nat_le (base_of q.item token)
        (place_of token) then nat_lt (place_of token - base_of q.item token) (length (table_of q.item token))
        else has_token ps trees (let v = q.item in v.superclass) token) else has_token ps trees (Inside offset) token)
        ≡ true → (has_token ps trees (Inside offset) token ≡ true → begins ps offset ≡ true) → begins (q ∷ ps) offset
        ≡ true
    by true is f rest = ap (λ b. b || begins ps offset) (number_same_number q.at offset (sym (number_same offset q.at
        is)))
    by false is f rest = or_second (q.at == offset) (begins ps offset) (rest f)

outside_token : (ps : List (Placed ClassEntry)) (trees : List ExportTree) (import class token : ℕ) → has_token ps trees
    (Outside import class) token ≡ true → Rattle.cjc_check_rules.specs.Members.class_has trees (check.imported trees
    import class) token ≡ true
unfolding has_token
outside_token [] trees import class token e = e
outside_token (q ∷ ps) trees import class token e = outside_token ps trees import class token e

-- ---- methods that are chosen

chosen_in : (test : Member → Bool) (s : Signature) (ms : List Member) (m : Member) → chosen test s ms ≡ Some m
    → In m ms × (test m ≡ true) × (signature_of m ≡ s)
chosen_in test s [] m e = cc
chosen_in test s (x ∷ ms) m e = by (test x && is_called s.name s.desc x) refl e (chosen_in
    test s ms m)
  where
    by : (b : Bool) → (test x && is_called s.name s.desc x) ≡ b → (if b then Some x
        else chosen test s ms) ≡ Some m → (chosen test s ms ≡ Some m → In m ms × (test m ≡ true) × (signature_of m ≡ s))
        → In m (x ∷ ms) × (test m ≡ true) × (signature_of m ≡ s)
    by true is f rest =
        let two = and_true (test x) (is_called s.name s.desc x) is in
        subst (λ v. In v (x ∷ ms) × (test v ≡ true) × (signature_of v ≡ s)) (same_some f) (
          foremost_of,
          two.0,
          same-true
              (signature_of x) s two.1,
        )
    by false is f rest = let r = rest f in (later r.0, r.1, r.2)

-- the method of a place among signatures
placed_is : (ss : List Signature) (s : Signature) (k : ℕ) → position (λ t. same t s) ss ≡ Some k → slice_get ss k
    ≡ Some s
placed_is ss s k e =
    let r = position_there (λ t. same t s) ss k e in
    r.1 ∙ ap (λ v. Some v) (same-true r.0 s r.2)

-- an export file's class above an imported one is imported
never_own : (l : Loaded) → SupersStand l → (a b : card.Class) → IsAtOrAbove l a b → (tree token : ℕ) → a ≡ External tree
    token → (part offset : ℕ) → b ≡ Own part offset → ⊥
never_own l stand a b above.itself tree token e part offset f =
    let clash : External tree token ≡ Own part offset = sym e ∙ f in
    cc
never_own l stand a b (above.upwards {b = External i j} direct more) tree token e part offset f = never_own l stand
    (External i j) b more i j refl part offset f
never_own l stand a b (above.upwards {b = Own i j} direct more) tree token e part offset f =
    let clash : true ≡ false = sym direct ∙ ap (λ v. card.is_in (Own i j) (card.supers l v)) e ∙ stand.outside tree
    token i
    j in
    cc

module _ (c : Checked) (ok : IsChecked c) (has : HasCode c) (keep : KeepsCalls c) where
  abbrev p : Pair
  p = pair c

  abbrev l : Loaded
  l = p.loaded

  abbrev w : List Class
  w = all_classes c.files

  abbrev q : Package
  q = package_of c.list c.files c.image

  abbrev n : Naming
  n = names c.name c.list c.files c.image c.components ok.sound ok.paired ok.verified

  abbrev applets : Bool
  applets = let t = c.list in nat_lt 0 (length t.applets)

  abbrev facts : Facts q
  facts = facts_of c ok has keep

  abbrev trees : List ExportTree
  trees = let f = c.files in f.exports

  abbrev Stands : Class → Type 0
  Stands k = kinds.Stands c.name c.list c.files c.image c.components ok.sound ok.paired ok.verified k

  abbrev Receiver : Shape card.Class → Type 0
  Receiver kind = kinds.Receives c.name c.list c.files c.image c.components ok.sound ok.paired ok.verified kind

  order : (let x = c.components in let d = x.descriptor in Rattle.cjc_check_rules.specs.Described.classes_in_order
      d.classes
      (Rattle.cjc_check_rules.specs.Described.all_starts x.class)) ≡ []
  order = ordered c.components ok.described

  -- ---- members of entries

  member_there : (k : ℕ) (item : PoolEntry) → entry_of p k ≡ Some item → names_member c.components trees item ≡ true
  member_there k item is =
      let x = c.components in
      let one = along_none (λ (v : PoolEntry). 4) (λ (at : ℕ) (v : PoolEntry). unless (names_member x trees v)
      (in_info 5 at))
      2 (let v = x.pool in v.entries) k item has.pool is in
      unless_holds (names_member x trees item) (in_info 5 one.0) one.1

  -- what begins a class of Class is a class of the package that is no interface
  no_interface : (d : Class) (s : Stands d) → begins (classes_at (let x = c.components in x.class)) s.offset ≡ true
      → is_interface d.flags ≡ false
  no_interface d s e =
      let x = c.components in
      let h = holder_there c.components order s.number s.offset s.starts in
      let f = fits applets c.files c.image c.components has.whole order ok.paired ok.verified s.number h.0 h.1 in
      let same : f.class ≡ d = same_some (sym f.in_order ∙ s.ordered) in
      not_it (is_interface d.flags) (sym (ap (λ (v : Class). not (is_interface v.flags)) same) ∙ sym f.own ∙ ap
      (is_own_class
      x.class) h.2 ∙ e)
    where
      not_it : (b : Bool) → not b ≡ true → b ≡ false
      not_it true g = cc
      not_it false g = refl

  meant : (d : Class) (s : Stands d) → class_of l 0 (Inside s.offset) ≡ Some (n.class d.name)
  meant d s = own_meant applets c.files c.image c.components order has.refs has.counted s.number s.offset s.starts
      ∙ ap (λ v. Some v) (sym s.on_card)

  -- ---- classes of receivers

  -- a receiver of a class stands at or below it
  receiver_under : (kind : Shape card.Class) (r : Receiver kind) (y : List ℕ) (d : Class) → class_named w y ≡ Some d
      → is_interface d.flags ≡ false → both_of l (Some kind) (Some (OfClass (n.class y))) ≡ true → Under w r.called y
  receiver_under kind r y d named_y plain is =
      let k = keep.subtypes in
      k.climbs r.called y r.class d r.known r.plain named_y plain (kinds.of_subtype c.name c.list c.files c.image
      c.components
      ok.sound ok.paired ok.verified r.called y r.class d r.known named_y (sym (r.alike (n.class y)) ∙ is))

  module _ (program : Program) (of : IsProgramOf p program) where
    receiver : (kind : Shape card.Class) → IsMade program kind → Receiver kind
    receiver kind made = kinds.made_receives c.name c.list c.files c.image c.components ok.sound ok.paired ok.verified
        facts
        program of kind made

    -- ---- virtual methods

    -- what a token reaches on all classes at or below one
    abbrev OpenFits : List ℕ → (desc : List ℕ) → (t : ℕ) → Type 0
    OpenFits y desc t = (x : List ℕ) (k : Class) → class_named w x ≡ Some k → is_interface k.flags ≡ false → Under w x y
        → Fits c ok has keep x desc (dispatched_open (tower l (n.class x)) t)

    abbrev HiddenFits : List ℕ → (desc : List ℕ) → (t : ℕ) → Type 0
    HiddenFits y desc t = (x : List ℕ) (k : Class) → class_named w x ≡ Some k → is_interface k.flags ≡ false → Under w
        x y
        → Fits c ok has keep x desc (dispatched_hidden (tower l (n.class x)) 0 t)

    module _ (class : ClassRef) (token : ℕ) (desc y : List ℕ) (d : Class) (named_y : class_named w y ≡ Some d)
        (plain : is_interface d.flags ≡ false) (means : class_of l 0 class ≡ Some (n.class y)) (t : ℕ) (low : t < 128)
      where
        by_open : token_of (n.class y) token ≡ Some (Open t) → OpenFits y desc t → NamesVirtual p program class token
            desc
        by_open token_is all = record {
          named = n.class y;
          chosen = Open t;
          meant = means;
          token_is = token_is;
          has = (let f = all y d named_y plain itself in f.desc_is);
          answers = λ kind made is. (
              let r = receiver kind made in
              let under = receiver_under kind r y d named_y plain is in
              let f = all r.called r.class r.known r.plain under in
              subst (λ o. HasDesc p desc (dispatched_on l o (Open t)) × IsOf p kind (dispatched_on l o (Open t)) ×
              IsConcrete p
              (dispatched_on l o (Open t))) (sym r.on_card) (
                f.desc_is,
                f.is_held r.called r.class r.known itself kind r.alike,
                open_concrete c ok has keep r.called r.class r.known r.plain r.concrete t low,
              )
              );
        }

        by_hidden : token_of (n.class y) token ≡ Some (Hidden 0 t) → HiddenFits y desc t → NamesVirtual p program class
            token desc
        by_hidden token_is all = record {
          named = n.class y;
          chosen = Hidden 0 t;
          meant = means;
          token_is = token_is;
          has = (let f = all y d named_y plain itself in f.desc_is);
          answers = λ kind made is. (
              let r = receiver kind made in
              let under = receiver_under kind r y d named_y plain is in
              let f = all r.called r.class r.known r.plain under in
              subst (λ o. HasDesc p desc (dispatched_on l o (Hidden 0 t)) × IsOf p kind (dispatched_on l o (Hidden 0 t))
              × IsConcrete p (dispatched_on l o (Hidden 0 t))) (sym r.on_card) (
                f.desc_is,
                f.is_held r.called r.class r.known itself kind r.alike,
                hidden_concrete c ok has keep r.called r.class r.known r.plain r.concrete t low,
              )
              );
        }

    -- ---- tokens of a class of the package

    module _ (d : Class) (known : class_named w d.name ≡ Some d) (own : d.is_imported ≡ false) (plain : is_interface
        d.flags
        ≡ false) where
      own_open : (t : ℕ) → t < 128 → (desc : List ℕ) → own_virtual_desc p t d ≡ Some desc → OpenFits d.name desc t
      own_open t low desc e = by (method_of_token (assigned applets c.files) d.number t) refl e
        where
          by : (o : Option Found) → method_of_token (assigned applets c.files) d.number t ≡ o → option_and_then
              (found_desc p)
              o ≡ Some desc → OpenFits d.name desc t
          by None g h = cc
          by (Some f) g h =
              let r = own_slot c.name q ok.sound facts applets d.name d known own plain t low f g in
              let s = r.signature in
              let same : s.desc ≡ desc = same_some (sym (desc_is p w refl f s r.name) ∙ h) in
              λ x k e plain_x under. subst (λ v. Fits c ok has keep x v (dispatched_open (tower l (n.class x)) t)) same
              (shown_fits c ok has keep x k e plain_x d.name d known under s t r.token_is)

      line_same : line_of w d.name ≡ line_at w d
      line_same = ap (line_in w) (supertypes-known w facts.are_supertypes facts.one_supertypes d.name d known)

      hidden_is : (t : ℕ) → nat_lt t 128 ≡ false → method_of_token (assigned applets c.files) d.number t ≡ joined
          (slice_get
          (hidden_row (line_of w d.name)) (t - 128))
      hidden_is t test =
          let files = c.files in
          let f = own_filed files (let s = ok.sound in s.classes) (let s = ok.sound in s.exports) d (has_named w
          d.name d known)
          own in
          let v = declared f.0 f.1 in
          let kept = kept-at files applets f.0 f.1 f.2 in
          let here : is_interface v.flags ≡ false = ap (λ (z : Class). is_interface z.flags) (sym f.3) ∙ plain in
          ap (λ (z : Class). method_of_token (assigned applets files) z.number t) f.3
          ∙ ap (λ b. if b then option_and_then (λ (k : OfTokens). joined (slice_get k.public_methods t)) (slice_get
          (let a =
          assigned applets files in a.classes) f.0) else hidden_of (slice_get (let a = assigned applets files in
          a.classes)
          f.0)) test
          ∙ ap hidden_of kept.1
          ∙ ap (λ b. joined (slice_get (if b then [] else hidden_row (line_at w v)) (t - 128))) here
          ∙ ap (λ (z : Class). joined (slice_get (hidden_row (line_at w z)) (t - 128))) (sym f.3)
          ∙ ap (λ (z : Line). joined (slice_get (hidden_row z) (t - 128))) (sym line_same)
        where
          hidden_of : Option OfTokens → Option Found
          hidden_of o = option_and_then (λ k. joined (slice_get k.package_methods (t - 128))) o

      own_hidden : (t : ℕ) → nat_lt t 128 ≡ false → (desc : List ℕ) → own_virtual_desc p t d ≡ Some desc → HiddenFits
          d.name
          desc (t - 128)
      own_hidden t test desc e = by (method_of_token (assigned applets c.files) d.number t) refl e
        where
          of_slot : (f : Found) (s : Signature) → slice_get (hidden_slots (line_of w d.name)) (t - 128) ≡ Some (Some s)
              → implementing_hidden (line_of w d.name) s ≡ Some f → found_desc p f ≡ Some desc → HiddenFits d.name desc
              (t - 128)
          of_slot f s at near h =
              let all = hidden_slots (line_of w d.name) in
              let k = token-some all s (here-has_slot all (t - 128) s at) in
              let token_is = k.1 ∙ ap (λ m. Some m) (hidden_slots-once (line_of w d.name) k.0 (t - 128) s (token-slot
              all s k.0
              k.1) at) in
              let held = hidden_holds q facts d.name d known plain s f near in
              let z = held.class in
              let placed = facts.placed z.name z held.known in
              let there : world.class_at w f.imported f.class ≡ Some z = ap (λ (v : Found). world.class_at w
              v.imported v.class)
              held.is ∙ placed in
              let said : found_desc p f ≡ Some s.desc = ap (option_map (λ (v : Class). let m =
              Rattle.cjc_components.specs.Descriptor.method_in w v f.member in m.desc)) there ∙ ap (λ (m : Member). Some
              m.desc) (item_so c ok has keep d.name s f held) ∙ ap (λ (v : Signature). Some v.desc) held.called in
              let same : s.desc ≡ desc = same_some (sym said ∙ h) in
              λ x k e plain_x under. subst (λ v. Fits c ok has keep x v (dispatched_hidden (tower l (n.class x)) 0 (t
              - 128)))
              same (hidden_fits c ok has keep x k e plain_x d.name d known under s (t - 128) token_is)

          of_row : (o : Option (Option Signature)) → slice_get (hidden_slots (line_of w d.name)) (t - 128) ≡ o → (f :
              Found)
              → joined (option_map (Rattle.cjc_tokens.specs.Slots.meant_by (implementing_hidden (line_of w d.name)))
              o) ≡ Some
              f → found_desc p f ≡ Some desc → HiddenFits d.name desc (t - 128)
          of_row None at f g h = cc
          of_row (Some None) at f g h = cc
          of_row (Some (Some s)) at f g h = of_slot f s at g h

          by : (o : Option Found) → method_of_token (assigned applets c.files) d.number t ≡ o → option_and_then
              (found_desc p)
              o ≡ Some desc → HiddenFits d.name desc (t - 128)
          by None g h = cc
          by (Some f) g h = of_row (slice_get (hidden_slots (line_of w d.name)) (t - 128)) refl f (ap joined (sym
              (slice_get-map
              (Rattle.cjc_tokens.specs.Slots.meant_by (implementing_hidden (line_of w d.name))) (hidden_slots (line_of w
              d.name)) (t - 128))) ∙ sym (hidden_is t test) ∙ g) h

    -- ---- tokens of an imported class

    module _ (y : List ℕ) (j : ℕ) (e : ExportClass) (known : class_named w y ≡ Some (imported j e)) (plain :
        is_interface
        e.flags ≡ false) (t : ℕ) (m : ExportMethod) (is : first_of (virtual_method t) (e ∷ exports.upwards
        (exports.classes_of trees) e.supers) ≡ Some m) where
      given_low : t < 128
      given_low =
          let g = given c ok has keep y j e known t m is in
          let keeps = imported_keeps c ok has keep g.holder g.class g.known g.imported g.place (method_of_export m)
          g.there in
          let low = keeps.1 (under_plain c ok has keep y g.holder g.under (imported j e) g.class known plain g.known)
          g.virtual
          in
          subst (λ v. v < 128) g.token_is low

      given_open : OpenFits y m.desc t
      given_open x k f plain_x under =
          let g = given c ok has keep y j e known t m is in
          subst (λ v. Fits c ok has keep x m.desc (dispatched_open (tower l (n.class x)) v)) g.token_is (listed_fits c
          ok has
          keep x k f plain_x g.holder g.class g.known g.imported (under_on w x y g.holder under g.under)
          (method_of_export m)
          (in_at (let v = g.class in v.methods) g.place (method_of_export m) g.there) g.virtual)

    low_test : (t : ℕ) → t < 128 → nat_lt t 0x80 ≡ true
    low_test t lt = grind (arith, nat_tests, lt)

    high_low : (t : ℕ) → t < 2 ^ 8 → nat_lt t 128 ≡ false → t - 128 < 128
    high_low t lt e =
        let le : 128 ≤ t = grind (arith, nat_tests, e) in
        omega (arith, lt, le)

    -- ---- entries of virtual methods

    own_virtual : (k offset token : ℕ) (desc : List ℕ) → entry_of p k ≡ Some (VirtualMethodref (Inside offset) token)
        → option_and_then (own_virtual_desc p token) (class_at p offset) ≡ Some desc → NamesVirtual p program (Inside
        offset)
        token desc
    own_virtual k offset token desc is e = by (class_at p offset) refl e
      where
        at_class : (d : Class) (s : Stands d) → s.offset ≡ offset → own_virtual_desc p token d ≡ Some desc →
            NamesVirtual p
            program (Inside offset) token desc
        at_class d s same h =
            let x = c.components in
            let there = own_begins (reverse (classes_at x.class)) trees offset token (member_there k (VirtualMethodref
            (Inside
            offset) token) is) in
            let start = ap (begins (classes_at x.class)) same ∙ sym (any_reversed (λ (v : Placed ClassEntry). v.at ==
            offset)
            (classes_at x.class)) ∙ there in
            let plain = no_interface d s start in
            let means : class_of l 0 (Inside offset) ≡ Some (n.class d.name) = ap (λ o. class_of l 0 (Inside o)) (sym
            same)
            ∙ meant d s in
            by_token plain means (nat_lt token 128) refl
          where
            by_token : is_interface d.flags ≡ false → class_of l 0 (Inside offset) ≡ Some (n.class d.name) → (b : Bool)
                → nat_lt token 128 ≡ b → NamesVirtual p program (Inside offset) token desc
            by_token plain means true low =
                let lt : token < 128 = grind (arith, nat_tests, low) in
                by_open (Inside offset) token desc d.name d s.known plain means token lt (ap (λ v. token_of v token)
                s.on_card ∙ ap (λ b. Some (if b then Open token else Hidden 0 (token - 0x80))) low) (own_open d
                s.known s.own
                plain token lt desc h)
            by_token plain means false high =
                let size = keep.sized in
                let lt = high_low token (size.virtuals k (Inside offset) token is) high in
                by_hidden (Inside offset) token desc d.name d s.known plain means (token - 128) lt (ap (λ v.
                token_of v token)
                s.on_card ∙ ap (λ b. Some (if b then Open token else Hidden 0 (token - 0x80))) high) (own_hidden d
                s.known s.own
                plain token high desc h)

        by : (o : Option Class) → class_at p offset ≡ o → option_and_then (own_virtual_desc p token) o ≡ Some desc
            → NamesVirtual p program (Inside offset) token desc
        by None f h = cc
        by (Some d) f h =
            let r = kinds.at_stands c.name c.list c.files c.image c.components ok.sound ok.paired ok.verified offset d
            f in
            at_class d r.0 r.1 h

    other_virtual : (k import class token : ℕ) (desc : List ℕ) → entry_of p k ≡ Some (VirtualMethodref (Outside import
        class)
        token) → named_desc p (VirtualMethodref (Outside import class) token) ≡ Some desc → NamesVirtual p program
        (Outside
        import class) token desc
    other_virtual k import class token desc is e = by (exported p import class) refl e
      where
        at_method : (x : ExportClass) → exported p import class ≡ Some x → (o : Option ExportMethod) → first_of
            (virtual_method token) (x ∷ exports.upwards (exports.classes_of trees) x.supers) ≡ o → method_desc o ≡
            Some desc
            → NamesVirtual p program (Outside import class) token desc
        at_method x f None g h = cc
        at_method x f (Some m) g h =
            let there = outside_there applets c.files c.image c.components import class x f in
            let r = kinds.named_external c.name c.list c.files c.image c.components ok.sound ok.paired ok.verified
            import class x
            there.external_is in
            let said = outside_token (reverse (classes_at (let v = c.components in v.class))) trees import class token
            (member_there k (VirtualMethodref (Outside import class) token) is) in
            let fine = ap (λ o. Rattle.cjc_check_rules.specs.Members.class_has trees o token) (sym f) ∙ said in
            let two = and_true (not (is_interface x.flags)) (Rattle.cjc_world.specs.ExportFile.Supers.has_virtual
            (exports.classes_of trees) token x) fine in
            let plain = Rattle.cjc_bytes.proofs.Bools.not_true (is_interface x.flags) two.0 in
            let low = given_low x.name r.0 x r.1 plain token m g in
            let means : class_of l 0 (Outside import class) ≡ Some (n.class x.name) = there.meant ∙ ap (λ v. Some v)
            (sym r.2)
            in
            let same : m.desc ≡ desc = same_some h in
            by_open (Outside import class) token desc x.name (imported r.0 x) r.1 plain means token low (ap (λ v.
            token_of v
            token) r.2 ∙ ap (λ b. if b then Some (Open token) else None) (low_test token low)) (subst (λ v. OpenFits
            x.name v
            token) same (given_open x.name r.0 x r.1 plain token m g))

        by : (o : Option ExportClass) → exported p import class ≡ o → method_desc (first_of (virtual_method token)
            (Rattle.cjc_verify.specs.Named.line_of trees o)) ≡ Some desc → NamesVirtual p program (Outside import
            class) token
            desc
        by None f h = cc
        by (Some x) f h = at_method x f (first_of (virtual_method token) (x ∷ exports.upwards (exports.classes_of trees)
            x.supers)) refl h

    pub virtuals : (k : ℕ) (class : ClassRef) (token : ℕ) (desc : List ℕ) → entry_of p k ≡ Some (VirtualMethodref class
        token) → named_desc p (VirtualMethodref class token) ≡ Some desc → NamesVirtual p program class token desc
    virtuals k (Inside offset) token desc is e = own_virtual k offset token desc is e
    virtuals k (Outside import class) token desc is e = other_virtual k import class token desc is e

    -- ---- entries of methods of superclasses

    -- where a class of the package has its superclass
    module _ (d : Class) (s : Stands d) (plain : is_interface d.flags ≡ false) where
      abbrev super : List ℕ
      super = let r = facts.rules.single d.name d s.known s.own in r.0

      super_is : d.supers ≡ super ∷ []
      super_is = let r = facts.rules.single d.name d s.known s.own in r.1

      up : (b : Class) × (class_named w super ≡ Some b) × (is_interface b.flags ≡ false)
      up = facts.super_there d.name super d s.known s.own super_is

      super_under : Under w d.name super
      super_under = below d s.known (subst (Lists super) (sym super_is) foremost) itself

      above_is : card_dispatch.above (tower l (n.class d.name)) ≡ tower l (n.class super)
      above_is =
          let u = up in
          let t = class_stands q facts super u.0 u.1 u.2 in
          let says = tables_here c.name c.list c.files c.image c.components ok.sound ok.paired ok.verified keep.agree
          (tables_fit c ok has keep) d.name super d s.known s.own plain super_is in
          let far = tower_here c.name c.list c.files c.image c.components ok.sound ok.paired ok.verified keep.agree
          (tables_fit c ok has keep) t.height super t.foot t.tower u.0 u.1 u.2 in
          let less = super_fits q facts d.name super d u.0 s.known s.own plain super_is u.1 t in
          let deep = depth_alike c.name c.list c.files c.image c.components ok.sound ok.paired ok.verified in
          superclass_above w n (Rattle.cjc_verified_proof.specs.Dispatching.offset_in p) d.name super t.foot d says
          far (subst
          (λ m. suc t.height ≤ m) deep less)

      -- a token that reaches a method from there
      super_names : (offset token : ℕ) (desc : List ℕ) → s.offset ≡ offset → (chosen : Token) → token_of (Own 0
          offset) token
          ≡ Some chosen → Fits c ok has keep super desc (dispatched (tower l (n.class super)) chosen) → NamesSuper p
          program
          (Inside offset) token desc
      super_names offset token desc same chosen token_is f = record {
        named = n.class d.name;
        chosen = chosen;
        meant = ap (λ o. class_of l 0 (Inside o)) (sym same) ∙ meant d s;
        token_is = ap (λ v. token_of v token) (s.on_card ∙ ap (Own 0) same) ∙ token_is;
        has = subst (λ v. HasDesc p desc (dispatched v chosen)) (sym above_is) f.desc_is;
        is_of = λ kind made is. (
            let r = receiver kind made in
            let under = receiver_under kind r d.name d s.known plain is in
            subst (λ v. IsOf p kind (dispatched v chosen)) (sym above_is) (f.is_held r.called r.class r.known
            (under_on w
            r.called d.name super under super_under) kind r.alike)
            );
      }

    own_super : (k offset token : ℕ) (desc : List ℕ) → entry_of p k ≡ Some (SuperMethodref (Inside offset) token)
        → option_and_then (λ (b : Class). virtual_desc_in p token (class_named w (superclass b))) (class_at p offset)
        ≡ Some desc → NamesSuper p program (Inside offset) token desc
    own_super k offset token desc is e = by (class_at p offset) refl e
      where
        start_of : (o : Option ClassEntry) → item_at (classes_at (let x = c.components in x.class)) offset ≡ o
            → superclass_has c.components trees o token ≡ true → begins (classes_at (let x = c.components in x.class))
            offset
            ≡ true
        start_of None f g = cc
        start_of (Some v) f g = by_find (find (λ (q : Placed ClassEntry). q.at == offset) (classes_at (let x =
            c.components
            in x.class))) refl f
          where
            by_find : (o : Option (Placed ClassEntry)) → find (λ (q : Placed ClassEntry). q.at == offset) (classes_at
                (let x =
                c.components in x.class)) ≡ o → option_map (λ (q : Placed ClassEntry). q.item) o ≡ Some v → begins
                (classes_at (let x = c.components in x.class)) offset ≡ true
            by_find None h i = cc
            by_find (Some u) h i =
                let r = find_got (λ (q : Placed ClassEntry). q.at == offset) (classes_at (let x = c.components in
                x.class)) u h
                in
                any_passes_from_place (λ (q : Placed ClassEntry). q.at == offset) (classes_at (let x = c.components in
                x.class)) r.0 u r.1 r.2

        at_class : (d : Class) (s : Stands d) → s.offset ≡ offset → virtual_desc_in p token (class_named w (superclass
            d))
            ≡ Some desc → NamesSuper p program (Inside offset) token desc
        at_class d s same h =
            let there = member_there k (SuperMethodref (Inside offset) token) is in
            let start = ap (begins (classes_at (let x = c.components in x.class))) same ∙ start_of (item_at
            (classes_at (let x =
            c.components in x.class)) offset) refl there in
            let plain = no_interface d s start in
            let u = up d s plain in
            let name : superclass d ≡ super d s plain = ap (λ ss. unwrap_or (slice_get ss 0) []) (super_is d s plain) in
            let g : virtual_desc_in p token (Some u.0) ≡ Some desc = ap (virtual_desc_in p token) (sym (ap
            (class_named w) name
            ∙ u.1)) ∙ h in
            of_kind plain u.0 u.1 u.2 (let v = u.0 in v.is_imported) refl g
          where
            tokened : (b : Bool) → nat_lt token 128 ≡ b → token_of (Own 0 offset) token ≡ Some (if b then Open token
                else Hidden 0 (token - 0x80))
            tokened b f = ap (λ v. Some (if v then Open token else Hidden 0 (token - 0x80))) f

            of_imported : (plain : is_interface d.flags ≡ false) (b : Class) → class_named w (super d s plain) ≡ Some b
                → is_interface b.flags ≡ false → b.is_imported ≡ true → method_desc (first_of (virtual_method token)
                (line_named l b.name)) ≡ Some desc → NamesSuper p program (Inside offset) token desc
            of_imported plain b named_b plain_b imp h = by (first_of (virtual_method token) (let v = y.entry in v
                ∷ exports.upwards (exports.classes_of trees) v.supers)) refl (sym (ap method_desc (ap (first_of
                (virtual_method
                token)) line_so)) ∙ h)
              where
                y : Rattle.cjc_token_proof.specs.Tables.Infos.HasEntry q b
                y = Rattle.cjc_token_proof.proofs.TablesLaws.Above.entry_of_name c.name q ok.sound (super d s plain) b
                    named_b
                    imp

                line_so : line_named l b.name ≡ (let v = y.entry in v ∷ exports.upwards (exports.classes_of trees)
                    v.supers)
                line_so = ap (Rattle.cjc_verify.specs.Named.line_found l) y.found
                    ∙ ap (card_dispatch.exported_line l) y.there

                known_b : class_named w (super d s plain) ≡ Some (imported y.number y.entry)
                known_b = named_b ∙ ap (λ v. Some v) y.class

                by : (o : Option ExportMethod) → first_of (virtual_method token) (let v = y.entry in v
                    ∷ exports.upwards (exports.classes_of trees) v.supers) ≡ o → method_desc o ≡ Some desc →
                    NamesSuper p
                    program (Inside offset) token desc
                by None f g = cc
                by (Some m) f g =
                    let plain_e : is_interface (let v = y.entry in v.flags) ≡ false = ap (λ (v : Class). is_interface
                    v.flags)
                    (sym y.class) ∙ plain_b in
                    let low = given_low (super d s plain) y.number y.entry known_b plain_e token m f in
                    let fit = given_open (super d s plain) y.number y.entry known_b plain_e token m f (super d s
                    plain) b named_b
                    plain_b itself in
                    let same_desc : m.desc ≡ desc = same_some g in
                    super_names d s plain offset token desc same (Open token) (tokened true (low_test token low))
                    (subst (λ v.
                    Fits c ok has keep (super d s plain) v (dispatched_open (tower l (n.class (super d s plain)))
                    token))
                    same_desc fit)

            of_own : (plain : is_interface d.flags ≡ false) (b : Class) → class_named w (super d s plain) ≡ Some b
                → is_interface b.flags ≡ false → b.is_imported ≡ false → own_virtual_desc p token b ≡ Some desc → (v :
                Bool)
                → nat_lt token 128 ≡ v → NamesSuper p program (Inside offset) token desc
            of_own plain b named_b plain_b own h true low =
                let lt : token < 128 = grind (arith, nat_tests, low) in
                let name = class_named-name w (super d s plain) b named_b in
                let fit = own_open b (ap (class_named w) name ∙ named_b) own plain_b token lt desc h b.name b (ap
                (class_named w)
                name ∙ named_b) plain_b itself in
                super_names d s plain offset token desc same (Open token) (tokened true low) (subst (λ v. Fits c ok
                has keep v
                desc (dispatched_open (tower l (n.class v)) token)) name fit)
            of_own plain b named_b plain_b own h false high =
                let name = class_named-name w (super d s plain) b named_b in
                let fit = own_hidden b (ap (class_named w) name ∙ named_b) own plain_b token high desc h b.name b (ap
                (class_named w) name ∙ named_b) plain_b itself in
                super_names d s plain offset token desc same (Hidden 0 (token - 128)) (tokened false high) (subst (λ
                v. Fits c ok
                has keep v desc (dispatched_hidden (tower l (n.class v)) 0 (token - 128))) name fit)

            of_kind : (plain : is_interface d.flags ≡ false) (b : Class) → class_named w (super d s plain) ≡ Some b
                → is_interface b.flags ≡ false → (v : Bool) → b.is_imported ≡ v → virtual_desc_in p token (Some b) ≡
                Some desc
                → NamesSuper p program (Inside offset) token desc
            of_kind plain b named_b plain_b true imp h = of_imported plain b named_b plain_b imp (sym (ap (λ v. if v
                then method_desc (first_of (virtual_method token) (line_named l b.name)) else own_virtual_desc p token
                b) imp)
                ∙ h)
            of_kind plain b named_b plain_b false own h = of_own plain b named_b plain_b own (sym (ap (λ v. if v
                then method_desc (first_of (virtual_method token) (line_named l b.name)) else own_virtual_desc p token
                b) own)
                ∙ h) (nat_lt token 128) refl

        by : (o : Option Class) → class_at p offset ≡ o → option_and_then (λ (b : Class). virtual_desc_in p token
            (class_named
            w (superclass b))) o ≡ Some desc → NamesSuper p program (Inside offset) token desc
        by None f h = cc
        by (Some d) f h =
            let r = kinds.at_stands c.name c.list c.files c.image c.components ok.sound ok.paired ok.verified offset d
            f in
            at_class d r.0 r.1 h

    pub supers : (k : ℕ) (class : ClassRef) (token : ℕ) (desc : List ℕ) → entry_of p k ≡ Some (SuperMethodref class
        token)
        → named_desc p (SuperMethodref class token) ≡ Some desc → NamesSuper p program class token desc
    supers k (Inside offset) token desc is e = own_super k offset token desc is e
    supers k (Outside import class) token desc is e = absurd cc

    -- ---- methods of interfaces

    abbrev Answered : (kind : Shape card.Class) → (desc : List ℕ) → Selection → Type 0
    Answered kind desc sel = HasDesc p desc sel × IsOf p kind sel × IsConcrete p sel

    -- a method of an interface on an object of a class of the package
    own_answers : (kind : Shape card.Class) (r : Receiver kind) → (let v = r.class in v.is_imported ≡ false) → (y :
        List ℕ)
        (i : Class) → class_named w y ≡ Some i → is_interface i.flags ≡ true → both_of l (Some kind) (Some (OfClass
        (n.class
        y))) ≡ true → (t : ℕ) (s : Signature) → slice_get (interface_methods w i) t ≡ Some s → Answered kind s.desc
        (dispatched_interface l (Some (n.class r.called)) (n.class y) t)
    own_answers kind r own y i named_y here is t s at =
        let x = r.called in
        let k = r.class in
        let sub = kinds.of_subtype c.name c.list c.files c.image c.components ok.sound ok.paired ok.verified x y k i
        r.known
        named_y (sym (r.alike (n.class y)) ∙ is) in
        let kept = keep.subtypes in
        let among = kept.implements x y k i r.known r.plain named_y here sub in
        let concrete : flags.is_abstract k.flags ≡ false = or_right (is_interface k.flags) (flags.is_abstract k.flags)
        (r.concrete own) in
        let agree = keep.agree in
        let calls = agree.calls in
        let alike = calls.interface_calls x k r.known own concrete y i t s among at in
        let asked = method-asked w facts.are_supertypes facts.one_supertypes k i s (named-among (known_ones
        (interfaces_at w k))
        y i among) (has-here (interface_methods w i) t s at) in
        let one = facts.interfaces.methods x k asked.0 r.known own concrete asked.1 in
        let chosen_one = chosen_in selects s (all_methods (line w x)) one.0 (ap (λ v. chosen selects v (all_methods
        (line w x)))
        (sym asked.2) ∙ one.1) in
        let g = select_there s (line w x) one.0 chosen_one.0 chosen_one.1 chosen_one.2 in
        let f = g.0 in
        let name = line_found q facts true s.name s.desc x f g.1 in
        let found = alike ∙ g.1 in
        let way = by_map (tables.map_of (tables.tower_of w x) y) t f found in
        let same = interface_same c ok has keep x k r.known r.plain y t way.0 s f (ap is_some named_y) found way.1
        name in
        let fit = interface_fits c ok has keep x k r.known r.plain y t s f (ap is_some named_y) found name (λ mine. (
        let m = token_meant c ok has keep x k r.known r.plain way.0 f way.1 mine in
        let sig : m.signature ≡ s = same_some (sym m.name ∙ name) in
        subst (λ v. Holds q facts x v f) sig m.held
        )) in (
          fit.desc_is,
          fit.is_held x k r.known itself kind r.alike,
          subst (IsConcrete p) (sym same) (imported_or f way.0 way.1 name f.imported refl),
        )
      where
        by_map : (o : Option InterfaceMap) (t : ℕ) (f : Found) → tables.at_map (tables.tower_of w r.called) o t ≡ Some f
            → (u : ℕ) × (tables.dispatched (tables.tower_of w r.called) u ≡ Some f)
        by_map None t f e = cc
        by_map (Some m) t f e = by_index (slice_get m.index t) e
          where
            by_index : (o : Option ℕ) → at_index (tables.tower_of w r.called) o ≡ Some f → (u : ℕ) × (tables.dispatched
                (tables.tower_of w r.called) u ≡ Some f)
            by_index None g = cc
            by_index (Some u) g = (u, g)

        imported_or : (f : Found) (u : ℕ) → tables.dispatched (tables.tower_of w r.called) u ≡ Some f → named w f ≡
            Some s
            → (b : Bool) → f.imported ≡ b → IsConcrete p (dispatched_open (tower l (n.class r.called)) u)
        imported_or f u found name false mine =
            let m = token_meant c ok has keep r.called r.class r.known r.plain u f found mine in
            open_concrete c ok has keep r.called r.class r.known r.plain r.concrete u m.low
        imported_or f u found name true far = far_concrete c ok has keep r.called
            r.class r.known r.plain u s f found name far

    -- what the interface itself has answers on objects of imported classes and arrays
    pub interface_answers : (class : card.Class) (token : ℕ) (desc : List ℕ) → interface_desc l token (Some class)
        ≡ Some desc → Answers p program class desc (λ o. dispatched_interface l o class token)
    interface_answers (External tree number) token desc e kind made is = by (external l tree number) refl (if_true
        (card.is_interface l (External tree number)) (selection_desc (interface_method l (External tree number)
        token)) desc e)
      where
        if_true : (b : Bool) (o : Option (List ℕ)) (v : List ℕ) → (if b then o else None) ≡ Some v → (b ≡ true) × (o ≡
            Some
            v)
        if_true true o v f = (refl, f)
        if_true false o v f = cc

        r : Receiver kind
        r = receiver kind made

        at_method : (x : ExportClass) → external l tree number ≡ Some x → is_interface x.flags ≡ true → (o : Option
            ExportMethod) → virtual_method token x ≡ o → selection_desc (outward x.name o NotFound) ≡ Some desc →
            Answered
            kind desc (dispatched_interface l (shape_class l kind) (External tree number) token)
        at_method x f here None g h = cc
        at_method x f here (Some m) g h = split (let v = r.class in v.is_imported) refl
          where
            y : (j : ℕ) × (class_named w x.name ≡ Some (imported j x)) × (n.class x.name ≡ External tree number)
            y = kinds.named_external c.name c.list c.files c.image c.components ok.sound ok.paired ok.verified tree
                number x f

            same : m.desc ≡ desc
            same = same_some h

            got : (i : ℕ) × (slice_get x.methods i ≡ Some m) × ((exports.is_virtual m && (m.token == token)) ≡ true)
            got = find_got (λ (v : ExportMethod). exports.is_virtual v && (v.token == token)) x.methods m g

            member : slice_get (imported y.0 x).methods got.0 ≡ Some (method_of_export m)
            member = Rattle.cjc_token_proof.proofs.WrittenCalls.Files.export_at x.methods got.0 m got.1

            split : (b : Bool) → (let v = r.class in v.is_imported) ≡ b → Answered kind desc (dispatched_interface l
                (shape_class l kind) (External tree number) token)
            split true far =
                let z = Rattle.cjc_token_proof.proofs.TablesLaws.Above.entry_of_name c.name q ok.sound r.called
                r.class r.known
                far in
                let on : n.class r.called ≡ External z.file (let v = z.entry in v.token) = ap n.class (sym
                (class_named-name w
                r.called r.class r.known)) ∙ z.on_card in
                let keeps = imported_keeps c ok has keep x.name (imported y.0 x) y.1 refl got.0 (method_of_export m)
                member in
                let sig = keeps.0 in
                let all : Answered kind desc (interface_method l (External tree number) token) = subst (λ o. Answered
                kind desc
                (of_file o token)) (sym f) (subst (λ o. Answered kind desc (outward x.name o NotFound)) (sym g) (
                  selecting.of_file (record { class = x.name; name = m.name; desc = m.desc }) sig.0 same (ap
                      Rattle.cjc_card_semantics.specs.Script.Sorts.signature_of (sym same) ∙ sig.1),
                  tt,
                  tt,
                )) in
                subst (λ o. Answered kind desc (dispatched_interface l o (External tree number) token)) (sym (r.on_card
                ∙ ap (λ v. Some v) on)) all
            split false own =
                let two = and_true (exports.is_virtual m) (m.token == token) got.2 in
                let token_same = number_same m.token token two.1 in
                let position_so = keep.listed x.name y.0 x y.1 here got.0 m got.1 (plain_name two.0) in
                let slot : slice_get (interface_methods w (imported y.0 x)) token ≡ Some (signature_of
                (method_of_export m)) =
                placed_is (interface_methods w (imported y.0 x)) (signature_of (method_of_export m)) token (position_so
                ∙ ap (λ v. Some v) token_same) in
                let a = own_answers kind r own x.name (imported y.0 x) y.1 here (ap (λ v. both_of l (Some kind) (Some
                (OfClass
                v))) y.2 ∙ is) token (signature_of (method_of_export m)) slot in
                subst (λ o. Answered kind desc (dispatched_interface l o (External tree number) token)) (sym r.on_card)
                (subst (λ v. Answered kind desc (dispatched_interface l (Some (n.class r.called)) v token)) y.2 (subst
                (λ v.
                Answered kind v (dispatched_interface l (Some (n.class r.called)) (n.class x.name) token)) same a))
              where
                plain_name : exports.is_virtual m ≡ true → is_initialiser m.name ≡ false
                plain_name v = by (is_initialiser m.name) refl
                  where
                    file : (j : ℕ) × (u : ExportClass) × (exports.class_named (exports.classes_of trees) x.name ≡ Some
                        u)
                        × (imported y.0 x ≡ imported j u)
                    file = facts.in_file x.name (imported y.0 x) y.1 refl

                    by : (b : Bool) → is_initialiser m.name ≡ b → b ≡ false
                    by false h = refl
                    by true h =
                        let o = file in
                        let u = Rattle.cjc_token_proof.proofs.WrittenCalls.Files.export_from (let v = o.1 in
                        v.methods) got.0
                        (method_of_export m) (ap (λ (v : Class). slice_get v.methods got.0) (sym o.3) ∙ member) in
                        let static = ap (λ (v : Member). is_static v.flags) (sym u.2) ∙ facts.plain x.name o.1 o.2
                        got.0 u.0 u.1
                        (ap (λ (v : Member). is_initialiser v.name) u.2 ∙ h) in
                        absurd (virtual_not (is_static m.flags) _ _ v static)
                      where
                        virtual_not : (a b d : Bool) → not (a || b || d) ≡ true → a ≡ true → ⊥
                        virtual_not true b d h i = cc
                        virtual_not false b d h i = cc

        by : (o : Option ExportClass) → external l tree number ≡ o → (card.is_interface_file o ≡ true) × (selection_desc
            (of_file o token) ≡ Some desc) → Answered kind desc (dispatched_interface l (shape_class l kind) (External
            tree
            number) token)
        by None f h = let g = h.1 in absurd cc
        by (Some x) f h = at_method x f h.0 (virtual_method token x) refl h.1
    interface_answers (Own (suc part) offset) token desc e kind made is = absurd (none e)
      where
        none : (if card.is_interface_info (card.info_of l (suc part) offset) then selection_desc (of_names
            (card.names_of l (suc
            part) offset) token) else None) ≡ Some desc → ⊥
        none h = cc
    interface_answers (Own zero offset) token desc e kind made is = by (number_from 2 (infos (let x = c.components
        in x.class)) offset) refl e
      where
        r : Receiver kind
        r = receiver kind made

        all : List Info
        all = infos (let x = c.components in x.class)

        stood : (k : ℕ) → number_from 2 (infos (let x = c.components in x.class)) offset ≡ Some k → (i : Class) →
            slice_get
            (class_order w) k ≡ Some i → (s : Stands i) × (s.offset ≡ offset)
        stood k number i ordered_i = kinds.ordered_at c.name c.list c.files c.image c.components ok.sound ok.paired
            ok.verified
            k offset i ordered_i (ap (λ (xs : List ℕ). slice_get xs k)
            (Rattle.cjc_verify.proofs.CardLinkInfoPlaces.all_starts (let
            x = c.components in x.class)) ∙ Rattle.cjc_verified_proof.proofs.NameLaws.starts_read 2 (infos (let x =
            c.components
            in x.class)) k ∙ at_number 2 (infos (let x = c.components in x.class)) k number)
          where
            at_number : (at : ℕ) (is : List Info) (k : ℕ) → number_from at is offset ≡ Some k → offset_from at is k ≡
                Some
                offset
            at_number at [] k f = cc
            at_number at (v ∷ is) k f = by_test (at == offset) refl f (at_number (at + card.info_size v) is)
              where
                by_test : (b : Bool) → (at == offset) ≡ b → (if b then Some 0 else option_map suc (number_from (at
                    + card.info_size v) is offset)) ≡ Some k → ((j : ℕ) → number_from (at + card.info_size v) is offset
                    ≡ Some j → offset_from (at + card.info_size v) is j ≡ Some offset) → offset_from at (v ∷ is) k
                    ≡ Some offset
                by_test true g h rest = subst (λ j. offset_from at (v ∷ is) j ≡ Some offset) (same_some h) (ap (λ m.
                    Some m)
                    (number_same at offset g))
                by_test false g h rest = by_more (number_from (at + card.info_size v) is offset) refl h
                  where
                    by_more : (o : Option ℕ) → number_from (at + card.info_size v) is offset ≡ o → option_map suc o ≡
                        Some k
                        → offset_from at (v ∷ is) k ≡ Some offset
                    by_more None i j = cc
                    by_more (Some m) i j = subst (λ u. offset_from at (v ∷ is) u ≡ Some offset) (same_some j) (rest m i)

        -- an interface of the package, by its number
        at_class : (i : Class) (s : Stands i) → s.offset ≡ offset → is_interface i.flags ≡ true → (t : MethodName)
            → slice_get (map Rattle.cjc_components.specs.Paired.Naming.signature_name (interface_methods w i)) token ≡
            Some t
            → t.desc ≡ desc → Answered kind desc (dispatched_interface l (shape_class l kind) (Own 0 offset) token)
        at_class i s same here t at said =
            let m = mapped_at Rattle.cjc_components.specs.Paired.Naming.signature_name (interface_methods w i) token t
            at in
            let on : n.class i.name ≡ Own 0 offset = s.on_card ∙ ap (Own 0) same in
            let named_so : (let v = m.0 in v.desc) ≡ desc = ap (λ (v : MethodName). v.desc) m.2 ∙ said in
            let below_it = ap (λ v. both_of l (Some kind) (Some (OfClass v))) on ∙ is in
            let a = own_answers kind r (own_receiver i s below_it (let v = r.class in v.is_imported) refl) i.name i
            s.known here
            below_it token m.0 m.1 in
            subst (λ o. Answered kind desc (dispatched_interface l o (Own 0 offset) token)) (sym r.on_card) (subst (λ v.
            Answered kind desc (dispatched_interface l (Some (n.class r.called)) v token)) on (subst (λ v. Answered
            kind v
            (dispatched_interface l (Some (n.class r.called)) (n.class i.name) token)) named_so a))
          where
            own_receiver : (i : Class) (s : Stands i) → both_of l (Some kind) (Some (OfClass (n.class i.name))) ≡ true
                → (b : Bool) → (let v = r.class in v.is_imported) ≡ b → (let v = r.class in v.is_imported) ≡ false
            own_receiver i s f false g = g
            own_receiver i s f true g =
                let z = Rattle.cjc_token_proof.proofs.TablesLaws.Above.entry_of_name c.name q ok.sound r.called
                r.class r.known g
                in
                let on : n.class r.called ≡ External z.file (let v = z.entry in v.token) = ap n.class (sym
                (class_named-name w
                r.called r.class r.known)) ∙ z.on_card in
                let stand = supers_stand applets c.files c.image c.components ok.supers ok.no_object in
                absurd (never_own l stand (n.class r.called) (n.class i.name) (told_above l (n.class r.called)
                (n.class i.name)
                (sym (r.alike (n.class i.name)) ∙ f)) z.file (let v = z.entry in v.token) on 0 s.offset s.on_card)

        of_number : (k : ℕ) → number_from 2 (infos (let x = c.components in x.class)) offset ≡ Some k → (o : Option
            ClassNames) → slice_get (map (class_names c.files (assigned applets c.files)) (class_order w)) k ≡ o → (v
            : Option
            Info) → slice_get (infos (let x = c.components in x.class)) k ≡ v → (if card.is_interface_info v
            then selection_desc (of_names o token) else None) ≡ Some desc → Answered kind desc (dispatched_interface l
            (shape_class l kind) (Own 0 offset) token)
        of_number k number None there v info h = absurd (none (card.is_interface_info v) h)
          where
            none : (b : Bool) → (if b then selection_desc NotFound else None) ≡ Some desc → ⊥
            none true h = cc
            none false h = cc
        of_number k number (Some names) there v info h =
            let a = mapped_at (class_names c.files (assigned applets c.files)) (class_order w) k names there in
            let i = a.0 in
            let st = stood k number i a.1 in
            let kind_so : v ≡ Some (wanted_info p i) = sym info ∙ ap (λ is. slice_get is k) (infos_are c.name applets
            c.files
            c.image c.components ok.sound ok.paired ok.verified) ∙ slice_get-map (wanted_info p) (class_order w) k
            ∙ ap (option_map (wanted_info p)) a.1 in
            by_kind i st.0 st.1 (is_interface i.flags) refl (ap (λ u. if card.is_interface_info u then selection_desc
            (of_names
            (Some (class_names c.files (assigned applets c.files) i)) token) else None) (sym kind_so) ∙ ap (λ u.
            if card.is_interface_info v then selection_desc (of_names (Some u) token) else None) a.2 ∙ h)
          where
            by_kind : (i : Class) (s : Stands i) → s.offset ≡ offset → (b : Bool) → is_interface i.flags ≡ b
                → (if card.is_interface_info (Some (wanted_info p i)) then selection_desc (of_names (Some (class_names
                c.files
                (assigned applets c.files) i)) token) else None) ≡ Some desc → Answered kind desc
                (dispatched_interface l
                (shape_class l kind) (Own 0 offset) token)
            by_kind i s same false f g =
                let no : None ≡ Some desc = sym (ap (λ b. if card.is_interface_info (Some (if b then IsInterface
                (Rattle.cjc_components.specs.Class.interface_entry (Rattle.cjc_verify.specs.Pairs.class_ref p)
                (Rattle.cjc_verify.specs.Pairs.world p) i) else IsClass (wanted_entry p i))) then selection_desc
                (of_names (Some
                (class_names c.files (assigned applets c.files) i)) token) else None) f) ∙ g in
                absurd cc
            by_kind i s same true f g =
                let named : selection_desc (named_in i.name (slice_get (if is_interface i.flags
                then map Rattle.cjc_components.specs.Paired.Naming.signature_name (interface_methods w i) else [])
                token))
                ≡ Some desc = sym (ap (λ b. if card.is_interface_info (Some (if b then IsInterface
                (Rattle.cjc_components.specs.Class.interface_entry (Rattle.cjc_verify.specs.Pairs.class_ref p)
                (Rattle.cjc_verify.specs.Pairs.world p) i) else IsClass (wanted_entry p i))) then selection_desc
                (of_names (Some
                (class_names c.files (assigned applets c.files) i)) token) else None) f) ∙ g in
                by_slot (slice_get (map Rattle.cjc_components.specs.Paired.Naming.signature_name (interface_methods w
                i)) token)
                refl (sym (ap (λ b. selection_desc (named_in i.name (slice_get (if b
                then map Rattle.cjc_components.specs.Paired.Naming.signature_name (interface_methods w i) else [])
                token))) f)
                ∙ named)
              where
                by_slot : (o : Option MethodName) → slice_get (map
                    Rattle.cjc_components.specs.Paired.Naming.signature_name
                    (interface_methods w i)) token ≡ o → selection_desc (named_in i.name o) ≡ Some desc → Answered
                    kind desc
                    (dispatched_interface l (shape_class l kind) (Own 0 offset) token)
                by_slot None u v = cc
                by_slot (Some t) u v = at_class i s same f t u (same_some v)

        by : (o : Option ℕ) → number_from 2 (infos (let x = c.components in x.class)) offset ≡ o
            → (if card.is_interface_info (option_and_then (slice_get (infos (let x = c.components in x.class))) o)
            then selection_desc (of_names (option_and_then (slice_get (map (class_names c.files (assigned applets
            c.files))
            (class_order w))) o) token) else None) ≡ Some desc → Answered kind desc (dispatched_interface l
            (shape_class l
            kind) (Own 0 offset) token)
        by None f h = cc
        by (Some k) f h = of_number k f (slice_get (map (class_names c.files (assigned applets c.files)) (class_order
            w)) k)
            refl (slice_get (infos (let x = c.components in x.class)) k) refl h

    pub dispatch_fits : DispatchFits p program
    dispatch_fits = record { virtuals = virtuals; supers = supers; interfaces = interface_answers }
