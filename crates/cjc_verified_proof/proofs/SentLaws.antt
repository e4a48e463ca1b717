-- What a script sends to a thing that is made begins a method of the program.
use Rattle.std.proofs.Common.{◌≡◌, ℕ, suc, refl, sym, ap, subst, ◌∙◌, Bool, true, false, List, [], ◌∷◌}
use Rattle.std.proofs.Common.{map, slice_get, Option, Some, None}
use Rattle.std.specs.Prelude.{◌||◌, not, if◌then◌else◌, is_some, option_and_then, option_map}
use Rattle.std.specs.Str.{bytes_eq}
use Rattle.cjc_bytes.specs.declared.fault.MemberId.{MemberId}
use Rattle.cjc_bytes.specs.AccessFlags.{is_interface, is_private, is_static}
use Rattle.cjc_capread.specs.declared.tree.MethodDescriptor.{MethodDescriptor}
use Rattle.cjc_card_semantics.specs.Bytecode.Machine.{Start}
use Rattle.cjc_card_semantics.specs.Machine.Calls.{dispatched_on, found_token, interface_token, is_named, listed_token}
use Rattle.cjc_card_semantics.specs.Machine.Calls.{place_named, sent, sent_as, sent_by, sent_to, start_selected}
use Rattle.cjc_card_semantics.specs.Machine.Calls.{through}
use Rattle.cjc_card_semantics.specs.Machine.Calls.{through_first}
use Rattle.cjc_card_semantics.specs.Machine.Classes.{Class, External, Own, depth, external, is_in, is_kind_of, is_of}
use Rattle.cjc_card_semantics.specs.Machine.Classes.{names_of, object_class, shape_class, upwards}
use Rattle.cjc_card_semantics.specs.Machine.Classes as card
use Rattle.cjc_card_semantics.specs.Machine.Dispatch.{NotFound, Selection, Token}
use Rattle.cjc_card_semantics.specs.Machine.Dispatch.{dispatched_interface, interface_method, named_in, of_file}
use Rattle.cjc_card_semantics.specs.Machine.Dispatch.{outward}
use Rattle.cjc_card_semantics.specs.Machine.Loaded.{ClassNames, Loaded, MethodName}
use Rattle.cjc_card_semantics.specs.Machine.Methods.{Code}
use Rattle.cjc_card_semantics.specs.Script.Sorts.{OfClass, Shape, signature_of as types_of}
use Rattle.cjc_card_acts.specs.CardTypes.{MemberType, both_of, shape_by}
use Rattle.cjc_world.specs.ExportFile.Supers.{virtual_method}
use Rattle.cjc_world.specs.ExportFile.declared.tree.ExportClass.{ExportClass}
use Rattle.cjc_world.specs.ExportFile.declared.tree.ExportMethod.{ExportMethod}
use Rattle.cjc_world.specs.Classes as world
use Rattle.cjc_world.specs.Classes.{Member, all_classes, imported, method_of_export}
use Rattle.cjc_world.specs.Lookup.{object}
use Rattle.cjc_world.specs.Supertypes.{stands, supertypes}
use Rattle.cjc_tokens.specs.Members.{Signature, is_initialiser, same, signature_of}
use Rattle.cjc_tokens.specs.Methods.{interface_methods}
use Rattle.cjc_tokens.proofs.Walks.{supertypes-known}
use Rattle.cjc_token_proof.specs.NCode.Lowering.Naming.{Naming}
use Rattle.cjc_components.specs.Package.{Package}
use Rattle.cjc_token_proof.specs.ByToken.Above.{IsAtOrAbove, itself, upwards as higher}
use Rattle.cjc_token_proof.specs.ByToken.Supers.{SaysKinds}
use Rattle.cjc_token_proof.specs.Calls.Selecting.{signature}
use Rattle.cjc_verify.specs.ClassTypes.{class_type}
use Rattle.cjc_verify.specs.Bodies.{type_of_body}
use Rattle.cjc_verify.specs.Named.{holder_in, interface_desc, is_abstract_start, selection_desc}
use Rattle.cjc_verify.specs.Pairs.{Described, Pair, described, is_method_at, member_of}
use Rattle.cjc_verify_proof.specs.Calls.{AreSorts, argument_cells}
use Rattle.cjc_verify_proof.specs.Frames.{Begins, Program}
use Rattle.cjc_verify_proof.specs.Runs.{IsEntry}
use Rattle.cjc_verify_proof.specs.Turns.{IsMade}
use Rattle.cjc_verified_proof.specs.Checked.{Checked, HasCode, IsChecked, pair}
use Rattle.cjc_verified_proof.specs.Dispatching.{naming_of, package_of}
use Rattle.cjc_verified_proof.specs.Kept.{KeepsCalls}
use Rattle.cjc_verified_proof.specs.Programs.{IsProgramOf}
use Rattle.cjc_verified_proof.specs.Selecting.{DispatchFits, HasDesc, IsConcrete, IsOf, of_file as of_import}
use Rattle.cjc_verified_proof.specs.Selecting.{of_package}
use Rattle.cjc_verified_proof.specs.Suited.{HaveCode, holder_type}
use Rattle.cjc_bytes.proofs.Bools.{and_true}
use Rattle.cjc_bytes.proofs.Gets.{find_got, item_there, mapped_at}
use Rattle.cjc_bytes.proofs.Lists.{bytes_true}
use Rattle.cjc_bytes.proofs.Plain.{same_some}
use Rattle.cjc_world.proofs.Cycles.{class_named-name}
use Rattle.cjc_card_semantics.proofs.MachineLaws.Upwards.{head_in, later_in}
use Rattle.cjc_token_proof.proofs.ByToken.Above.{above_told, told_above}
use Rattle.cjc_token_proof.proofs.ByToken.Subtypes.{kinds_agree}
use Rattle.cjc_token_proof.proofs.TablesLaws.Tables.{names_agree}
use Rattle.cjc_token_proof.proofs.WrittenCalls.Facts.{Facts, exported}
use Rattle.cjc_token_proof.proofs.WrittenCalls.Files as files_of
use Rattle.cjc_token_proof.proofs.WrittenSends.Interfaces.{or_left, or_right, position_is, subtype_is}
use Rattle.cjc_token_proof.proofs.WrittenSends.Root.{object_above}
use Rattle.cjc_verified_proof.proofs.CodedLaws as coded
use Rattle.cjc_verified_proof.proofs.FoundLaws.{HasToken, IsListed, listed_there}
use Rattle.cjc_verified_proof.proofs.KindLaws.{Receives, made_receives, named_external}
use Rattle.cjc_verified_proof.proofs.NamingLaws.{kinds, named_alike, own_info}

-- ---- names of methods

-- the place of a name has the name
place_there : (ns : List MethodName) (id : MemberId) (t : ℕ) → place_named ns id ≡ Some t → (m : MethodName)
    × (slice_get ns t ≡ Some m) × (is_named m id ≡ true)
place_there [] id t e = absurd cc
place_there (n ∷ ns) id t e = by (is_named n id) refl e (place_there ns id)
  where
    by : (b : Bool) → is_named n id ≡ b → (if b then Some 0 else option_map suc (place_named ns id)) ≡ Some t
        → ((j : ℕ) → place_named ns id ≡ Some j → (m : MethodName) × (slice_get ns j ≡ Some m) × (is_named m id ≡ true))
        → (m : MethodName) × (slice_get (n ∷ ns) t ≡ Some m) × (is_named m id ≡ true)
    by true is f more = let z : 0 ≡ t = same_some f in (n, ap (slice_get (n ∷ ns)) (sym z), is)
    by false is f more = later (place_named ns id) refl f
      where
        later : (o : Option ℕ) → place_named ns id ≡ o → option_map suc o ≡ Some t → (m : MethodName)
            × (slice_get (n ∷ ns) t ≡ Some m) × (is_named m id ≡ true)
        later None g h = absurd cc
        later (Some j) g h =
            let next : suc j ≡ t = same_some h in
            let r = more j g in
            (r.0, ap (slice_get (n ∷ ns)) (sym next) ∙ r.1, r.2)

named_desc : (m : MethodName) (id : MemberId) → is_named m id ≡ true → m.desc ≡ id.desc
named_desc m id e = bytes_true m.desc id.desc (and_true (bytes_eq m.name id.name) (bytes_eq m.desc id.desc) e).1

not_static : (s p c i : Bool) → not (s || p || c) ≡ true → (i ≡ true → s ≡ true) → i ≡ false
not_static s p c false e f = refl
not_static true p c true e f = absurd cc
not_static false p c true e f = (let clash : false ≡ true = f refl in absurd cc)

-- ---- what stands above

above_then : (l : Loaded) (a b d : Class) → IsAtOrAbove l a b → IsAtOrAbove l b d → IsAtOrAbove l a d
above_then l a _ d itself far = far
above_then l a b d (higher direct more) far = higher direct (above_then l _ b d more far)

kind_then : (l : Loaded) (a b d : Class) → is_kind_of l a b ≡ true → is_kind_of l b d ≡ true → is_kind_of l a d ≡ true
kind_then l a b d e f = above_told l a d (above_then l a b d (told_above l a b e) (told_above l b d f))

module _ (c : Checked) (ok : IsChecked c) (has : HasCode c) (codes : HaveCode (pair c)) (program : Program)
    (of : IsProgramOf (pair c) program) where
  abbrev p : Pair
  p = pair c

  abbrev l : Loaded
  l = p.loaded

  -- ---- methods that are selected

  -- a method that a selection names begins one of the program
  pub selected_entry : (kind : Shape Class) (desc : List ℕ) (s : Selection) → HasDesc p desc s → IsOf p kind s
      → IsConcrete p s → (m : Start Code) → start_selected l s ≡ Some m → IsEntry l program (Some kind) desc m
  selected_entry kind desc _ (of_package offset d start at same plain) is_of concrete m starts =
      let s = coded.stand c ok has program of offset start in
      let is : s.described ≡ d = same_some (sym s.is_described ∙ at) in
      let one : s.start ≡ m = same_some (sym s.starts ∙ starts) in
      let go : (let x = s.start in x.is_abstract) ≡ false = sym (ap is_abstract_start s.starts) ∙ concrete in
      let t = s.typed go in
      let i = find_got (is_method_at offset) (described p) d at in
      let g = codes.signed i.0 d i.1 in
      let sorts = coded.sorts c ok has (let x = member_of p s.described in x.desc) s.nibbles g.0 s.said
      (ap (λ (x : Described). types_of (let y = member_of p x in y.desc)) is ∙ g.1) in
      let holder : List ℕ = class_type (let y = s.body in y.holder) in
      let some : holder_type s.body ≡ Some holder = ap (λ (f : MethodDescriptor). if is_static f.flags then None
      else Some holder) (sym s.method ∙ ap (λ (x : Described). x.method) is) ∙ ap (λ b. if b then None
      else Some holder) plain in
      let held : both_of l (Some kind) (shape_by l holder) ≡ true = ap (λ r. both_of l (Some kind) (shape_by l
      (class_type r))) (sym s.holder ∙ ap (λ (x : Described). x.holder) is) ∙ ap (λ o. both_of l (Some kind) (shape_by l
      (holder_in o))) (sym at) ∙ is_of in
      record {
        method = t.0;
        among = t.1;
        begins = subst (Begins t.0) one t.2;
        holder = Some holder;
        held = held;
        signature = g.0;
        types = ap types_of (sym same) ∙ g.1;
        params = (let y = type_of_body p.components s.body in y.params);
        sorts = subst (λ (y : MemberType). AreSorts l (let z = g.0 in z.params) y.params) (sym s.types) sorts.0;
        arguments = t.3 ∙ ap (λ h. argument_cells h (let y = type_of_body p.components s.body in y.params)) some;
      }
  selected_entry kind desc _ (of_import id signature same types) is_of concrete m starts = absurd cc

  -- ---- what a script sends

  module _ (keeps : KeepsCalls c) (facts : Facts (package_of c.list c.files c.image))
      (fit : DispatchFits p program) where
    abbrev w : List world.Class
    w = all_classes c.files

    abbrev q : Package
    q = package_of c.list c.files c.image

    abbrev n : Naming
    n = naming_of p q

    abbrev es : List ExportClass
    es = exported q

    told : SaysKinds w n
    told = kinds c.name c.list c.files c.image c.components ok.sound ok.paired ok.verified

    -- ---- methods of interfaces

    -- an interface of an export file
    module _ (tree number : ℕ) (e : ExportClass) (there : external l tree number ≡ Some e)
        (here : is_interface e.flags ≡ true) (id : MemberId) (t : ℕ) (h : listed_token e.methods id ≡ Some
        (Some t)) where
      abbrev at : IsListed e.methods id t
      at = listed_there e.methods id t h

      abbrev method : ExportMethod
      method = let r = at in r.method

      known : (k : ℕ) × (world.class_named w e.name ≡ Some (imported k e)) × (n.class e.name ≡ External tree number)
      known = named_external c.name c.list c.files c.image c.components ok.sound ok.paired ok.verified tree number e
          there

      -- it is no initialiser, which is static
      plain : is_initialiser method.name ≡ false
      plain =
          let file = files_of.has q facts e.name (imported known.0 e) known.1 refl in
          let methods : map method_of_export e.methods ≡ map method_of_export (let y = file.entry in y.methods) =
          ap (λ (d : world.Class). d.methods) file.class in
          let r = at in
          let other = mapped_at method_of_export (let y = file.entry in y.methods) r.place (method_of_export method)
          (sym (ap (λ ms. slice_get ms r.place) methods) ∙ item_there method_of_export e.methods r.place method r.there)
          in
          not_static (is_static method.flags) (is_private method.flags) (bytes_eq method.name
          (Rattle.std.specs.Prelude.codes "<init>")) (is_initialiser method.name) r.virtual (λ init.
          ap (λ (m : Member). is_static m.flags) (sym other.2) ∙ files_of.entry_plain q facts e.name
          (imported known.0 e)
          known.1 refl r.place other.0 other.1 (ap (λ (m : Member). is_initialiser m.name) other.2 ∙ init))

      abbrev asked : Signature
      asked = signature_of (method_of_export method)

      external_desc : selection_desc (outward e.name (virtual_method t e) NotFound) ≡ Some id.desc
      external_desc =
          let r = at in
          let place = keeps.listed e.name known.0 e known.1 here r.place method r.there plain in
          let exports = (let a = keeps.agree in a.exports) in
          let v = exports.methods e.name known.0 e known.1 here method.token asked (position_is (interface_methods w
          (imported known.0 e)) asked method.token place) in
          ap (λ k. selection_desc (outward e.name (virtual_method k e) NotFound)) (sym r.token)
          ∙ ap (λ o. selection_desc (outward e.name o NotFound)) v.1
          ∙ ap (λ (s : Signature). Some s.desc) v.2 ∙ ap (λ d. Some d) r.desc

    -- the token of a method of an interface is that of its descriptor
    token_desc : (i : Class) → card.is_interface l i ≡ true → (id : MemberId) (t : ℕ) → interface_token l i id ≡ Some t
        → interface_desc l t (Some i) ≡ Some id.desc
    token_desc i here id t e = ap (λ b. if b then selection_desc (interface_method l i t) else None) here ∙ by i here e
      where
        in_file : (tree number : ℕ) (o : Option ExportClass) → external l tree number ≡ o → card.is_interface_file o
            ≡ true
            → option_and_then (λ (x : ExportClass). option_and_then (λ k. k) (listed_token x.methods id)) o ≡ Some t
            → selection_desc (of_file o t) ≡ Some id.desc
        in_file tree number None there f g = absurd cc
        in_file tree number (Some x) there f g = external_desc tree number x there f id t (listed
            (listed_token x.methods id)
            g)
          where
            listed : (o : Option (Option ℕ)) → option_and_then (λ k. k) o ≡ Some t → o ≡ Some (Some t)
            listed None h = absurd cc
            listed (Some k) h = ap (λ v. Some v) h

        in_names : (o : Option ClassNames) → option_and_then (λ (x : ClassNames). place_named x.interface_methods id) o
            ≡ Some t → selection_desc (Rattle.cjc_card_semantics.specs.Machine.Dispatch.of_names o t) ≡ Some id.desc
        in_names None g = absurd cc
        in_names (Some x) g =
            let r = place_there x.interface_methods id t g in
            ap (λ o. selection_desc (named_in x.name o)) r.1 ∙ ap (λ d. Some d) (named_desc r.0 id r.2)

        by : (i : Class) → card.is_interface l i ≡ true → interface_token l i id ≡ Some t
            → selection_desc (interface_method l i t) ≡ Some id.desc
        by (External tree number) f g = in_file tree number (external l tree number) refl f g
        by (Own part offset) f g = in_names (names_of l part offset) g

    -- ---- names of classes

    -- a class that a name finds is that of the name
    class_there : (x : List ℕ) (d : Class) → card.class_named l x ≡ Some d → (k : world.Class)
        × (world.class_named w x ≡ Some k) × (d ≡ n.class x)
    class_there x d e =
        let names = names_agree c.name q ok.sound in
        by (world.class_named w x) refl (sym (names.class_named x) ∙ sym (named_alike c.name c.list c.files c.image
        c.components ok.sound ok.paired ok.verified x) ∙ e)
      where
        by : (o : Option world.Class) → world.class_named w x ≡ o → option_map n.class (option_map (λ (k : world.Class).
            k.name) o) ≡ Some d → (k : world.Class) × (world.class_named w x ≡ Some k) × (d ≡ n.class x)
        by None f g = absurd cc
        by (Some k) f g = (k, f, sym (same_some g) ∙ ap n.class (class_named-name w x k f))

    -- whether it is an interface
    interface_is : (y : List ℕ) (d : world.Class) → world.class_named w y ≡ Some d → card.is_interface l (n.class y)
        ≡ is_interface d.flags
    interface_is y d known = by d.is_imported refl
      where
        info_kind : (b : Bool) (i : Rattle.cjc_capread.specs.declared.tree.InterfaceEntry.InterfaceEntry)
            (x : Rattle.cjc_capread.specs.declared.tree.ClassEntry.ClassEntry) → card.is_interface_info (Some (if b
            then card.IsInterface i else card.IsClass x)) ≡ b
        info_kind true i x = refl
        info_kind false i x = refl

        by : (b : Bool) → d.is_imported ≡ b → card.is_interface l (n.class y) ≡ is_interface d.flags
        by true import =
            let h = facts.file y d known import in
            ap (card.is_interface l) (sym (ap n.class (class_named-name w y d known)) ∙ h.on_card)
            ∙ ap card.is_interface_file h.there ∙ ap (λ (x : world.Class). is_interface x.flags) (sym h.class)
        by false own =
            let h = facts.own y d known own in
            ap (card.is_interface l) (sym (ap n.class (class_named-name w y d known)) ∙ h.on_card)
            ∙ ap card.is_interface_info (own_info c.name c.list c.files c.image c.components ok.sound ok.paired
            ok.verified d
            h) ∙ info_kind (is_interface d.flags) _ _

    -- each interface is below java/lang/Object
    interface_below : (y : List ℕ) (d : world.Class) → world.class_named w y ≡ Some d → is_interface d.flags ≡ true
        → is_kind_of l (n.class y) (n.class object) ≡ true
    interface_below y d e here =
        let o = facts.object_class in
        let agree = kinds_agree w n told (OfClass y) (OfClass object) (ap is_some e) (ap is_some o.1) in
        let top : stands object (supertypes w d.supers) ≡ true = object_above c.name q ok.sound facts y d e here in
        agree ∙ subtype_is w y object (told.no_array y (ap is_some e)) (told.no_array object (ap is_some o.1))
        ∙ ap (stands object) (supertypes-known w facts.are_supertypes facts.one_supertypes y d e)
        ∙ or_left ((bytes_eq d.name object || stands object (supertypes w d.supers)) || stands object (supertypes w
        d.interfaces)) false (or_left (bytes_eq d.name object || stands object (supertypes w d.supers)) (stands object
        (supertypes w d.interfaces)) (or_right (bytes_eq d.name object) (stands object (supertypes w d.supers)) top))

    -- ---- a thing that is made, and a method that a script names

    module _ (token_fits : (kind : Shape Class) → IsMade program kind → (y : List ℕ) (d : world.Class)
        → world.class_named w y ≡ Some d → is_interface d.flags ≡ false → (m : MemberId) (t : Token) → HasToken es w y
        (signature m) t → both_of l (Some kind) (Some (OfClass (n.class y))) ≡ true → HasDesc p m.desc (dispatched_on l
        (shape_class l kind) t) × IsOf p kind (dispatched_on l (shape_class l kind) t) × IsConcrete p (dispatched_on l
        (shape_class l kind) t)) (token_found : (y : List ℕ) (d : world.Class) → world.class_named w y ≡ Some d
        → is_interface d.flags ≡ false → (m : MemberId) (t : Token) → found_token l (suc (depth l)) (Some (n.class y)) m
        ≡ Some (Some t) → HasToken es w y (signature m) t) (kind : Shape Class) (made : IsMade program kind)
        (id : MemberId) where
      abbrev receiving : Option Class
      receiving = shape_class l kind

      abbrev Enters : Selection → Type 0
      Enters s = (m : Start Code) → start_selected l s ≡ Some m → IsEntry l program (Some kind) id.desc m

      receives : Receives c.name c.list c.files c.image c.components ok.sound ok.paired ok.verified kind
      receives = made_receives c.name c.list c.files c.image c.components ok.sound ok.paired ok.verified facts program
          of
          kind made

      -- what it is of
      kind_below : (a b : Class) → both_of l (Some kind) (Some (OfClass a)) ≡ true → is_kind_of l a b ≡ true
          → both_of l (Some kind) (Some (OfClass b)) ≡ true
      kind_below a b e f = receives.alike b ∙ kind_then l (n.class receives.called) a b (sym (receives.alike a) ∙ e) f

      none_enters : Enters NotFound
      none_enters m e = absurd cc

      -- a method of an interface that it is of
      through_enters : (i : Class) → card.is_interface l i ≡ true → both_of l (Some kind) (Some (OfClass i)) ≡ true
          → (o : Option ℕ) → interface_token l i id ≡ o → (other : Selection) → Enters other → Enters
          (through l receiving i
          o other)
      through_enters i here below None is other more = more
      through_enters i here below (Some t) is other more =
          let a = fit.interfaces i t id.desc (token_desc i here id t is) kind made below in
          selected_entry kind id.desc (dispatched_interface l receiving i t) a.0 a.1 a.2

      -- of the first that has it
      first_enters : (ks : List Class) → ((k : Class) → is_in k ks ≡ true → both_of l (Some kind) (Some (OfClass k))
          ≡ true) → Enters (through_first l receiving ks id)
      first_enters [] below = none_enters
      first_enters (k ∷ ks) below = by (card.is_interface l k) refl (first_enters ks (λ x h. below x
          (later_in x k ks h)))
        where
          by : (b : Bool) → card.is_interface l k ≡ b → Enters (through_first l receiving ks id) → Enters (through l
              receiving k (if b then interface_token l k id else None) (through_first l receiving ks id))
          by true here more = through_enters k here (below k (head_in k ks)) (interface_token l k id) refl
              (through_first l
              receiving ks id) more
          by false here more = more

      -- what is found from a class that it is of
      token_enters : (y : List ℕ) (d : world.Class) → world.class_named w y ≡ Some d → is_interface d.flags ≡ false
          → both_of l (Some kind) (Some (OfClass (n.class y))) ≡ true → (t : Token) → found_token l (suc (depth l))
          (Some (n.class y)) id ≡ Some (Some t) → Enters (dispatched_on l receiving t)
      token_enters y d e class_here below t is =
          let a = token_fits kind made y d e class_here id t (token_found y d e class_here id t is) below in
          selected_entry kind id.desc (dispatched_on l receiving t) a.0 a.1 a.2

      -- the same, and else what interfaces above a class have
      sent_enters : (a : Class) → both_of l (Some kind) (Some (OfClass a)) ≡ true → (y : List ℕ) (d : world.Class)
          → world.class_named w y ≡ Some d → is_interface d.flags ≡ false
          → both_of l (Some kind) (Some (OfClass (n.class y))) ≡ true → (o : Option (Option Token)) → found_token l (suc
          (depth l)) (Some (n.class y)) id ≡ o → Enters (sent_by l receiving a id o)
      sent_enters a of_a y d e class_here below None is = first_enters (upwards l a) (λ k h. kind_below a k of_a h)
      sent_enters a of_a y d e class_here below (Some None) is = none_enters
      sent_enters a of_a y d e class_here below (Some (Some t)) is = token_enters y d e class_here below t is

      -- the method of a named class
      abbrev asked_class : Class
      asked_class = n.class id.class

      abbrev by_object : Option (Option Token)
      by_object = found_token l (suc (depth l)) (object_class l) id

      abbrev by_name : Option (Option Token)
      by_name = found_token l (suc (depth l)) (Some asked_class) id

      abbrev sent_where : Bool → Selection
      sent_where b = if b then through l receiving asked_class (interface_token l asked_class id) (sent_by l receiving
          asked_class id by_object) else sent_by l receiving asked_class id by_name

      to_enters : (d : world.Class) → world.class_named w id.class ≡ Some d → both_of l (Some kind) (Some (OfClass
          asked_class)) ≡ true → Enters (sent_to l receiving asked_class id)
      to_enters d e below = by (is_interface d.flags) refl
        where
          by : (b : Bool) → is_interface d.flags ≡ b → Enters (sent_to l receiving asked_class id)
          by true here =
              let card_here = interface_is id.class d e ∙ here in
              let o = facts.object_class in
              let of_object = kind_below asked_class (n.class object) below (interface_below id.class d e here) in
              subst (λ b. Enters (sent_where b)) (sym card_here) (through_enters asked_class card_here below
              (interface_token l
              asked_class id) refl (sent_by l receiving asked_class id by_object)
              (sent_enters asked_class below object o.0
              o.1 o.3 of_object by_object (ap (λ x. found_token l (suc (depth l)) x id) (sym told.object_class))))
          by false here = subst (λ b. Enters (sent_where b)) (sym (interface_is id.class d e ∙ here))
              (sent_enters asked_class
              below id.class d e here below by_name refl)

      -- What is sent to it begins a method of the program.
      pub sends : (m : Start Code) → sent l kind id ≡ Some m → IsEntry l program (Some kind) id.desc m
      sends m e = by (card.class_named l id.class) refl e
        where
          by : (o : Option Class) → card.class_named l id.class ≡ o → option_and_then (sent_as l kind id) o ≡ Some m
              → IsEntry l program (Some kind) id.desc m
          by None f g = absurd cc
          by (Some x) f g =
              let r = class_there id.class x f in
              let same : sent_as l kind id x ≡ sent_as l kind id (n.class id.class) = ap (sent_as l kind id) r.2 in
              of_class r.0 r.1 (is_of l kind (OfClass (n.class id.class))) refl (sym same ∙ g)
            where
              of_class : (d : world.Class) → world.class_named w id.class ≡ Some d → (b : Bool) → is_of l kind
                  (OfClass (n.class id.class)) ≡ b → (if b then start_selected l (sent_to l receiving
                  (n.class id.class) id)
                  else None) ≡ Some m → IsEntry l program (Some kind) id.desc m
              of_class d known true is h = to_enters d known is m h
              of_class d known false is h = absurd cc
