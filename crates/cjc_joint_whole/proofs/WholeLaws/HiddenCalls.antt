-- Calls of package-visible methods in a group: what the code of a package calls by invokevirtual, selection gives on
-- each receiver by token as by name, and it takes the words that it takes in the package by itself.
use Rattle.std.proofs.Common.{◌≡◌, ℕ, ◌+◌, ◌-◌, refl, sym, ap, subst, ◌∙◌, arith, Bool, true, false, List, length, ⊎_elim}
use Rattle.std.specs.Prelude.{Option, Some, None, is_some, nat_lt, option_and_then, option_map, slice_get, unwrap_or}
use Rattle.std.specs.Prelude.{if◌then◌else◌}
use Rattle.std.proofs.lemmas.Bool.Decides.{nat_tests}
use Rattle.cjc_bytes.specs.AccessFlags.{is_interface}
use Rattle.cjc_bytes.specs.declared.fault.MemberId.{MemberId}
use Rattle.cjc_bytes.proofs.Bools.{clash}
use Rattle.cjc_components.specs.Methods.{method_offset}
use Rattle.cjc_components.specs.Names.{class_at, virtual_token}
use Rattle.cjc_components.specs.Package.{Package, world}
use Rattle.cjc_jvm_semantics.specs.Group.{is_open, joint, joint_method, own_where, own_within, package_of, selection_for}
use Rattle.cjc_jvm_semantics.specs.Linked.{Method}
use Rattle.cjc_jvm_semantics.specs.OnePackage.{ResolvedMember, callee_at, first_imported, is_initialiser, method_hit}
use Rattle.cjc_jvm_semantics.specs.OnePackage.{selected_from}
use Rattle.cjc_joint_proof.specs.JointAlike.{IsOfGroup, JointNaming, callee_at as callee_there, code_at, offset_at}
use Rattle.cjc_joint_proof.specs.JointCalled.{StandByPackage}
use Rattle.cjc_joint_proof.specs.JointCode.{InPackage, of_package}
use Rattle.cjc_joint_proof.specs.JointNames.{callee_for, found_for, hit_for, reached_for, selected, words_for}
use Rattle.cjc_joint_proof.specs.JointPackages.{class_together, files_together}
use Rattle.cjc_joint_proof.specs.JointTables.{world_together}
use Rattle.cjc_joint_proof.specs.JointTogether.{cell_together, field_together, methods_together, names_by}
use Rattle.cjc_joint_proof.specs.JointTogether.{naming_together}
use Rattle.cjc_joint_proof.specs.JointTowers.{loaded_together}
use Rattle.cjc_joint_proof.specs.Loading.{offset_in}
use Rattle.cjc_joint_proof.specs.Parts.{start_in}
use Rattle.cjc_joint_proof.specs.Worlds.{AreApart, IsListed, IsOwn, before, found_in, hit_in}
use Rattle.cjc_joint_proof.proofs.ClassLaws.{class_means, home as package_home, own_named, sound_at}
use Rattle.cjc_joint_proof.proofs.MeantLaws.{part_of}
use Rattle.cjc_joint_proof.proofs.MemberLaws.{hit_together, method_resolves}
use Rattle.cjc_joint_proof.proofs.PartLaws.{starts_same}
use Rattle.cjc_joint_proof.proofs.SoundLaws as sound
use Rattle.cjc_joint_proof.proofs.StandLaws.{Inside, Outside, stands}
use Rattle.cjc_joint_proof.proofs.WorldLaws.{own_is_found}
use Rattle.cjc_joint_theorem.proofs.OrderedLaws.Ordered.{object_abroad, ordered}
use Rattle.cjc_joint_theorem.proofs.OrderedLaws.Standing.{are_apart}
use Rattle.cjc_token_proof.proofs.CallsLaws.Dispatch.{dispatch_agrees}
use Rattle.cjc_token_proof.proofs.TablesLaws.Above.{says_kinds}
use Rattle.cjc_token_proof.proofs.WorldProofOwn.{hit_is}
use Rattle.cjc_token_proof.proofs.WorldProofTypes.{receiver_class, type_below}
use Rattle.cjc_token_proof.proofs.WrittenCalls.Facts.{Facts}
use Rattle.cjc_token_proof.proofs.WrittenCalls.Held.{FormsLaw, OffsetsLaw}
use Rattle.cjc_token_proof.proofs.WrittenCalls.Reached.{find_first}
use Rattle.cjc_token_proof.proofs.WrittenCalls.Towers.{class_stands as stands_up, height_fits}
use Rattle.cjc_token_proof.specs.Calls.Dispatching.{event}
use Rattle.cjc_token_proof.specs.Calls.Reaching.{start_placed}
use Rattle.cjc_token_proof.specs.Calls.Selecting.{signature}
use Rattle.cjc_token_proof.specs.CardSemantics.Bytecode.Alike.{IsFound, reached_as}
use Rattle.cjc_token_proof.specs.CardSemantics.Bytecode.Machine.{Nowhere, Reached, Start, Within}
use Rattle.cjc_token_proof.specs.CardSemantics.Bytecode.Renaming.{option_as, shape_as}
use Rattle.cjc_token_proof.specs.CardSemantics.Machine.Calls as card
use Rattle.cjc_token_proof.specs.CardSemantics.Machine.Classes.{Class as CardClass, Own}
use Rattle.cjc_token_proof.specs.CardSemantics.Machine.Dispatch.{At, Hidden, Open, Outward}
use Rattle.cjc_token_proof.specs.CardSemantics.Machine.Dispatch.{dispatched_hidden, tower}
use Rattle.cjc_token_proof.specs.CardSemantics.Machine.Loaded.{Loaded}
use Rattle.cjc_token_proof.specs.CardSemantics.Machine.Methods.{Code, start_of}
use Rattle.cjc_token_proof.specs.CardSemantics.Machine.Operations as operations
use Rattle.cjc_token_proof.specs.CardSemantics.Machine.Operations.{token_of}
use Rattle.cjc_token_proof.specs.NCode.ByLabel.{OnObject}
use Rattle.cjc_token_proof.specs.NCode.Lowering.Naming.{callee}
use Rattle.cjc_token_proof.specs.NCode.Lowering.Placed.{Placed}
use Rattle.cjc_token_proof.specs.Narrow.Rows.Package.{words_where, words_with}
use Rattle.cjc_token_proof.specs.Narrow.Rows.Resolved.{method_found}
use Rattle.cjc_token_proof.specs.Script.Sorts.{Booleans, Bytes, Element, Ints, OfClass, OfNumbers, OfReferences, Shape}
use Rattle.cjc_token_proof.specs.Script.Sorts.{Shorts, shape_name}
use Rattle.cjc_token_proof.specs.Tables.Loading.{loaded, naming}
use Rattle.cjc_token_proof.specs.WrittenCalls.Calls.{Receives, none, numbers, one_of, references}
use Rattle.cjc_token_proof.specs.WrittenSends.Named.{is_called}
use Rattle.cjc_tokens.specs.Lines.{line_of}
use Rattle.cjc_tokens.specs.Methods.{with_high_bit}
use Rattle.cjc_tokens.specs.Slots.{hidden_slots, shown_token, token}
use Rattle.cjc_vtable.specs.Calls.{finds_hidden}
use Rattle.cjc_vtable.specs.Dispatch as tables
use Rattle.cjc_vtable.specs.Dispatch.{tower_of}
use Rattle.cjc_vtable.specs.Laws.{itself}
use Rattle.cjc_vtable.specs.Tables.{or_zero}
use Rattle.cjc_world.specs.ClassFile.declared.tree.ClassTree.{ClassTree}
use Rattle.cjc_world.specs.Classes.{Class, class_named, declared}
use Rattle.cjc_world.specs.Files.{Files}
use Rattle.cjc_world.specs.Lookup.{first, member_at, object, own_method, receiver}
use Rattle.cjc_world.specs.Subtype.{is_subtype, starts}
use Rattle.cjc_world.specs.Supertypes.{line}
use Rattle.cjc_world.specs.Upwards.{Below, IsOrdered, OnLine, here as at_once}
use Rattle.cjc_world.specs.declared.found.Found.{Found}
use Rattle.cjc_world.proofs.Cycles.{class_named-name}
use Rattle.cjc_world.proofs.UpwardLaws.Lines.{below_abroad, line_below, line_named, on_line}
use Rattle.cjc_joint_whole.specs.Selected.{CallAgrees, SelectTogether, SelectsAlike, calls_together}
use Rattle.cjc_joint_whole.proofs.WholeLaws.Alike.{alike_known, alike_reached}
use Rattle.cjc_joint_whole.proofs.WholeLaws.FixedNamed.{AloneLaws}
use Rattle.cjc_joint_whole.proofs.WholeLaws.HiddenMethods.{EndsInside, HoldsHidden, hidden_visible, holds_hidden}
use Rattle.cjc_joint_whole.proofs.WholeLaws.HiddenTokens.{SelectsHidden, dispatched_alone, ends_at, facts_at, files_here}
use Rattle.cjc_joint_whole.proofs.WholeLaws.HiddenTokens.{goes, hidden_alike, holder, order_at, own_tree, selects_hidden}

-- with the high bit a token is a package-visible one of the class's package
pub hidden_token : (q offset t : ℕ) → unwrap_or (token_of (Own q offset) (t + 128)) (Open 0) ≡ Hidden q t
hidden_token q offset t =
    let large : nat_lt (t + 128) 128 ≡ false = grind (arith, nat_tests) in
    let less : t + 128 - 128 ≡ t = omega arith in
    ap (λ b. if b then Open (t + 128) else Hidden q (t + 128 - 128)) large ∙ ap (Hidden q) less

-- a method takes as many words in whichever package it begins
same_nargs : (q : ℕ) (o : Option (Start Code)) → option_map (λ (s : Start Code). s.nargs) (option_map (start_in q) o)
    ≡ option_map (λ (s : Start Code). s.nargs) o
same_nargs q None = refl
same_nargs q (Some s) = refl

numbers_received : (element : Element) → receiver (shape_name (OfNumbers element)) ≡ object
numbers_received Booleans = refl
numbers_received Bytes = refl
numbers_received Shorts = refl
numbers_received Ints = refl

module _ (forms : FormsLaw) (offsets : OffsetsLaw) (packages : List Package) (is : SelectTogether packages)
    (alone : (q : ℕ) (p : Package) → slice_get packages q ≡ Some p → AloneLaws p) (at : Method → Placed)
    (stand : StandByPackage packages at) where
  abbrev group : List Files
  group = files_together packages

  abbrev w : List Class
  w = world_together packages

  abbrev l : Loaded
  l = loaded_together packages

  abbrev g : JointNaming
  g = naming_together packages

  -- no class is named as an array is
  pub no_array : (x : List ℕ) (c : Class) → class_named w x ≡ Some c → starts 91 x ≡ false
  no_array x c named = ⊎_elim inside outside (stands packages is.linked x c named)
    where
      inside : Inside packages is.linked x c → starts 91 x ≡ false
      inside i =
          let s = sound_at packages is.linked i.part i.«package» i.here in
          let k = says_kinds s.list i.«package» s.sound in
          k.no_array x (ap is_some i.there)

      outside : Outside packages is.linked x c → starts 91 x ≡ false
      outside o =
          let s = sound_at packages is.linked o.part o.importer o.here in
          let k = says_kinds s.list o.importer s.sound in
          k.no_array x (ap is_some o.imported_there)

  module _ (home : ℕ) (p : Package) (here_p : slice_get packages home ≡ Some p) (m : MemberId) (n : ℕ) (t : ClassTree)
      (file : let f = p.files in slice_get f.classes n ≡ Some t)
      (known : class_named (world p) m.class ≡ Some (declared n t)) (plain : is_interface t.flags ≡ false)
      (ordinary : is_initialiser m.name ≡ false)
      (hidden : finds_hidden (line_of (world p) m.class) (signature m) ≡ true) (number : ℕ)
      (its_token : token (hidden_slots (line_of (world p) m.class)) (signature m) ≡ Some number) where
    abbrev v : List Class
    v = world p

    abbrev d : Class
    d = declared n t

    abbrev jy : Class
    jy = declared (before group home + n) t

    abbrev Selects : List ℕ → Type 0
    Selects x = SelectsHidden packages home p (signature m) number x

    facts : Facts p
    facts = facts_at packages is alone home p here_p

    files_p : slice_get group home ≡ Some p.files
    files_p = files_here packages is alone home p here_p

    pub hold : HoldsHidden v (signature m) m.class
    hold = holder packages is alone home p here_p m.class n t file known plain (signature m) hidden ordinary number
        its_token

    -- the class that has the method
    abbrev z : Class
    z = let h = hold in h.class

    abbrev place : Found
    place = let h = hold in member_at z (length z.fields + h.place)

    named_z : class_named v z.name ≡ Some z
    named_z = let h = hold in line_named v m.class z h.on

    tree_z : (k : ℕ) × (u : ClassTree) × (let f = p.files in slice_get f.classes k ≡ Some u) × (z ≡ declared k u)
    tree_z = let h = hold in own_tree packages is alone home p here_p z.name z named_z h.own

    own_z : IsOwn group home tree_z.0 p.files tree_z.1
    own_z = record { member = files_p; file = tree_z.2 }

    listed_z : IsListed p.files tree_z.0 tree_z.1
    listed_z = let k = is.linked in sound.listed group k.sound home tree_z.0 p.files tree_z.1 own_z

    apart : AreApart group
    apart = are_apart group is.ordered

    -- ---- what is found

    any_z : own_method false m.name m.desc (declared tree_z.0 tree_z.1) ≡ Some place
    any_z = let h = hold in ap (own_method false m.name m.desc) (sym tree_z.3) ∙ h.any

    abbrev hit : ResolvedMember
    hit = record { owner = z; flags = (let h = hold in let k = h.method in k.flags) }

    is_hit : method_hit v place ≡ Some hit
    is_hit = let h = hold in hit_is v z h.place h.method ((let f = facts in f.placed) z.name z named_z) h.there

    pub met : method_found v m ≡ Some hit
    met = let h = hold in ap (option_and_then (method_hit v)) (find_first v m.class m.name m.desc place h.first_any)
        ∙ is_hit

    found_joint : found_for (joint group) w p.files m ≡ Some (found_in (before group home) place)
    found_joint =
        ap (option_and_then (λ (k : ResolvedMember). let owner = k.owner in joint_method w owner m)) met
        ∙ ap (λ k. joint_method w k m) tree_z.3
        ∙ method_resolves group apart home tree_z.0 p.files tree_z.1 own_z listed_z m place any_z

    abbrev met_there : ResolvedMember
    met_there = hit_in (before group home) hit

    hit_joint : hit_for (joint group) w p.files m ≡ Some met_there
    hit_joint = ap (option_and_then (method_hit w)) found_joint
        ∙ hit_together group apart home tree_z.0 p.files tree_z.1 own_z listed_z m place any_z hit is_hit

    -- ---- what is selected by name

    abbrev within : (home_name : List ℕ) → Class → Option Found
    within home_name = own_within home_name m.name m.desc

    abbrev package_name : List ℕ
    package_name = let f = p.files in f.package_name

    home_z : package_of z.name ≡ package_name
    home_z = let h = hold in package_home packages is.linked home p here_p z.name z named_z h.own

    selects_within : (x : List ℕ)
        → selection_for w met_there x m ≡ first (within package_name) (line w (receiver x))
    selects_within x =
        let h = hold in
        ap (λ b. if b then first (within (package_of z.name)) (line w (receiver x))
        else first (own_where is_open m.name m.desc) (line w (receiver x))) (hidden_visible h.method h.hidden_one)
        ∙ ap (λ u. first (within u) (line w (receiver x))) home_z

    selected_is : (x : List ℕ) → receiver x ≡ x → (h : Selects x)
        → selected (joint group) w p.files m x
        ≡ callee_at (joint group) (first_imported (line w x)) m (found_in (before group home) h.found)
    selected_is x itself_one h =
        ap (option_and_then (λ (k : ResolvedMember). selected_from (joint group) w (selection_for w k) x m)) hit_joint
        ∙ ap (option_and_then (λ f. callee_at (joint group) (first_imported (line w (receiver x))) m f))
        (selects_within x)
        ∙ ap (λ u. option_and_then (λ f. callee_at (joint group) (first_imported (line w u)) m f)
        (first (within package_name) (line w u))) itself_one
        ∙ ap (option_and_then (λ f. callee_at (joint group) (first_imported (line w x)) m f)) h.by_name

    -- ---- the named class

    name_y : t.name ≡ m.class
    name_y = class_named-name v m.class (declared n t) known

    named_y : class_named w m.class ≡ Some jy
    named_y = ap (class_named w) (sym name_y) ∙ own_is_found group apart home n p.files t (record {
      member = files_p;
      file = file;
    })

    order : IsOrdered w
    order = ordered group is.ordered

    -- no array is of it
    array_never : (a : List ℕ) → receiver a ≡ object → is_subtype w a m.class ≡ true → ⊥
    array_never a received sub =
        let below : Below w object m.class = subst (λ u. Below w u m.class) received (type_below w a m.class (no_array
        m.class jy named_y) sub) in
        let o = (let k = order in k.rooted) m.class jy named_y plain in
        let import = below_abroad w order object m.class o.0 jy below o.1 (object_abroad group is.ordered o.0 o.1) named_y
        in
        clash jy.is_imported import refl

    -- ---- what is reached by name

    record OnClass (o : Option (Shape (List ℕ))) (r : Reached (InPackage Placed)) : Type 0 where
      class : List ℕ
      is_class : o ≡ Some (OfClass class)
      selects : Selects class
      by_name : reached_for group (start_placed at) (callee_at (joint group) (first_imported (line w class)) m (found_in
          (before group home) selects.found)) ≡ r

    on_class : (o : Option (Shape (List ℕ))) (r : Reached (InPackage Placed)) → Receives w o
        → (let calls = calls_together packages at in calls.reached (of_package home (OnObject m)) o ≡ r) → IsFound r
        → OnClass o r
    on_class o r receives e is_found = by o receives (sym (ap (λ k. reached_for group (start_placed at) (option_and_then
        (λ asker. callee_for (joint group) w asker (OnObject m) o) k)) files_p) ∙ e)
      where
        nothing : (o : Option (Shape (List ℕ))) → Nowhere ≡ r → OnClass o r
        nothing o h = absurd (subst IsFound (sym h) is_found)

        split : (kind : Shape (List ℕ)) (b : Bool) → is_subtype w (shape_name kind) m.class ≡ b
            → (is_subtype w (shape_name kind) m.class ≡ true → reached_for group (start_placed at) (selected (joint group)
            w p.files m (shape_name kind)) ≡ r → OnClass (Some kind) r)
            → reached_for group (start_placed at) (if b then selected (joint group) w p.files m (shape_name kind)
            else None) ≡ r → OnClass (Some kind) r
        split kind true sub go h = go sub h
        split kind false sub go h = nothing (Some kind) h

        by : (o : Option (Shape (List ℕ))) → Receives w o
            → reached_for group (start_placed at) (callee_for (joint group) w p.files (OnObject m) o) ≡ r → OnClass o r
        by _ none h = nothing None h
        by _ (numbers {element = element}) h = split (OfNumbers element) (is_subtype w (shape_name (OfNumbers element))
            m.class) refl (λ sub k. absurd (array_never (shape_name (OfNumbers element)) (numbers_received element) sub)) h
        by _ (references {x = x}) h = split (OfReferences x) (is_subtype w (shape_name (OfReferences x)) m.class) refl (λ
            sub k. absurd (array_never (shape_name (OfReferences x)) refl sub)) h
        by _ (one_of {x = x} c named ground made) h = split (OfClass x) (is_subtype w x m.class) refl (λ sub k.
            (let itself_one : receiver x ≡ x = receiver_class x (no_array x c named) in
            let below : Below w x m.class = subst (λ u. Below w u m.class) itself_one (type_below w x m.class (no_array
            m.class jy named_y) sub) in
            let on : OnLine w x jy = on_line w order x m.class c jy below named ground named_y plain in
            let s = selects_hidden packages is alone home p here_p m.class n t file known plain (signature m) hidden
            ordinary number its_token x c named ground on in
            record {
              class = x;
              is_class = refl;
              selects = s;
              by_name = ap (reached_for group (start_placed at)) (sym (selected_is x itself_one s)) ∙ k;
            })) h

    -- ---- by token

    -- the number that the package writes means the token, in whichever package its class stands
    token_means : (q offset : ℕ) (c : CardClass) → c ≡ Own q offset
        → unwrap_or (token_of c (virtual_token p m)) (Open 0) ≡ Hidden q number
    token_means q offset c stands_so =
        ap (λ b. unwrap_or (token_of c (if b then with_high_bit (or_zero (token (hidden_slots (line_of v m.class))
        (signature m))) else or_zero (shown_token (line_of v m.class) (signature m)))) (Open 0)) hidden
        ∙ ap (λ o. unwrap_or (token_of c (or_zero o + 128)) (Open 0)) its_token
        ∙ ap (λ (k : CardClass). unwrap_or (token_of k (number + 128)) (Open 0)) stands_so
        ∙ hidden_token q offset number

    class_there : class_together packages m.class ≡ Own home (offset_in p m.class)
    class_there = ap (λ o. unwrap_or o (Own 0 0)) (own_named packages is.linked home p here_p m.class d known refl)

    callee_is : callee_there g (of_package home (OnObject m))
        ≡ operations.OnObject (class_together packages m.class) (Hidden home number)
    callee_is =
        ap (λ o. callee (record (names_by l home o) {
          loaded = l;
          part = home;
          class = class_together packages;
          field_token = field_together packages;
          cell = cell_together packages;
        }) (OnObject m)) here_p
        ∙ ap (operations.OnObject (class_together packages m.class)) (ap (λ o. unwrap_or (token_of (unwrap_or o (Own home
        0)) (virtual_token p m)) (Open 0)) (class_means packages is.linked home p here_p m.class d known)
        ∙ token_means home (offset_in p m.class) (class_together packages m.class) class_there)

    reached_there : (o : Option (Shape (List ℕ))) (r : Reached (InPackage Placed)) → Receives w o
        → (let calls = calls_together packages at in calls.reached (of_package home (OnObject m)) o ≡ r) → IsFound r
        → card.reached l (callee_there g (of_package home (OnObject m))) (option_as (shape_as (class_together packages))
        o) ≡ reached_as (code_at g) (offset_at g) r
    reached_there o r receives e is_found =
        let s = on_class o r receives e is_found in
        let x = s.class in
        let h = s.selects in
        ap (λ k. card.reached l k (option_as (shape_as (class_together packages)) o)) callee_is
        ∙ ap (λ k. card.reached l (operations.OnObject (class_together packages m.class) (Hidden home number)) (option_as
        (shape_as (class_together packages)) k)) s.is_class
        ∙ alike_reached forms offsets packages is.linked alone at stand x m (found_in (before group home) h.found)
        (dispatched_hidden (tower l (class_together packages x)) home number) (hidden_alike packages home p here_p
        (signature m) number x h) r s.by_name is_found

    known_there : (o : Option (Shape (List ℕ))) (start : Start (InPackage Placed)) → Receives w o
        → (let calls = calls_together packages at in calls.reached (of_package home (OnObject m)) o ≡ Within start)
        → IsOfGroup l (methods_together packages) start.code
    known_there o start receives e =
        let s = on_class o (Within start) receives e tt in
        let x = s.class in
        let h = s.selects in
        alike_known forms offsets packages is.linked alone at stand x m (found_in (before group home) h.found)
        (dispatched_hidden (tower l (class_together packages x)) home number) (hidden_alike packages home p here_p
        (signature m) number x h) start s.by_name

    -- ---- words

    -- what is selected on the named class itself
    ends_y : EndsInside v (signature m) package_name m.class
    ends_y = ends_at packages is alone home p here_p m.class n t file known plain (signature m) hidden ordinary number
        its_token m.class (at_once known)

    abbrev last : Found
    last = let e = ends_y in e.found

    table_y : tables.dispatched_hidden (tower_of v m.class) number ≡ Some last
    table_y = let e = ends_y in dispatched_alone packages is alone home p here_p m.class n t file known plain (signature m)
        hidden ordinary number its_token m.class d known plain itself ∙ e.selection

    there_y : dispatched_hidden (tower l (class_together packages m.class)) home number ≡ At home (method_offset p last)
    there_y =
        let e = ends_y in
        let k = goes packages is alone home p here_p m.class d known plain refl in
        let on = k.on in
        on.hidden number last table_y e.mine

    alone_y : dispatched_hidden (tower (loaded p) (class_at p m.class)) 0 number ≡ At 0 (method_offset p last)
    alone_y =
        let f = facts in
        let e = ends_y in
        let v = sound_at packages is.linked home p here_p in
        let up = stands_up p f m.class d known plain in
        let agree = dispatch_agrees (world p) f.are_supertypes f.one_supertypes (naming p) (method_offset p) f.low
        (says_kinds v.list p v.sound) up.height m.class up.foot up.tower (height_fits p f m.class d known up) in
        agree.package_method number last (signature m) table_y
        ∙ ap (λ b. if b then Outward (event up.foot (signature m)) else At 0 (method_offset p last)) e.mine

    alone_class : (offset : ℕ) × (class_at p m.class ≡ Own 0 offset)
    alone_class = let i = (let f = facts in f.own) m.class d known refl in
        (i.offset, sym (ap (class_at p) name_y) ∙ i.on_card)

    -- what is selected there takes the words that it takes in the package by itself
    pub takes_alike : (k : ℕ) → card.words (loaded p) (callee (naming p) (OnObject m)) ≡ Some k
        → card.words_of l true (dispatched_hidden (tower l (class_together packages m.class)) home number) ≡ Some k
    takes_alike k taken =
        let c = alone_class in
        let alone_words : option_map (λ (s : Start Code). s.nargs) (start_of (loaded p) 0 (method_offset p last)) ≡ Some k
        = sym (ap (card.words_of (loaded p) true) alone_y)
        ∙ sym (ap (λ u. card.words (loaded p) (operations.OnObject (class_at p m.class) u)) (token_means 0 c.0 (class_at p
        m.class) c.1)) ∙ taken in
        ap (card.words_of l true) there_y
        ∙ ap (option_map (λ (s : Start Code). s.nargs)) (starts_same (loaded p) l home (part_of packages is.linked home p
        here_p) (method_offset p last))
        ∙ same_nargs home (start_of (loaded p) 0 (method_offset p last)) ∙ alone_words

    words_there : is_called p (OnObject m) ≡ true → (k : ℕ)
        → (let calls = calls_together packages at in calls.words (of_package home (OnObject m)) ≡ Some k)
        → card.words l (callee_there g (of_package home (OnObject m))) ≡ Some k
    words_there called k e =
        let joined = (let a = alone home p here_p in let r = a.runs in r.joined) in
        let counted : Some (words_with true m) ≡ Some k = sym (ap (words_where true m) hit_joint)
        ∙ (sym (ap (option_and_then (λ asker. words_for (joint group) w asker (OnObject m))) files_p) ∙ e) in
        ap (card.words l) callee_is ∙ takes_alike k (joined.takes (OnObject m) k called (ap (words_where true m) met
        ∙ counted))

    -- ---- on the named class itself

    -- what is selected from the named class on
    pub record SelectsItself : Type 0 where
      pub found : Found
      pub by_name : selected (joint group) w p.files m m.class
          ≡ callee_at (joint group) (first_imported (line w m.class)) m found
      pub alike : SelectsAlike packages m.class (signature m) found (dispatched_hidden (tower l (class_together packages
          m.class)) home number)

    pub selects_itself : SelectsItself
    selects_itself =
        let s = selects_hidden packages is alone home p here_p m.class n t file known plain (signature m) hidden ordinary
        number its_token m.class jy named_y plain (at_once named_y) in
        record {
          found = found_in (before group home) s.found;
          by_name = selected_is m.class (receiver_class m.class (no_array m.class jy named_y)) s;
          alike = hidden_alike packages home p here_p (signature m) number m.class s;
        }

    hidden_agrees : is_called p (OnObject m) ≡ true → CallAgrees packages at home (OnObject m)
    hidden_agrees called = record { words = words_there called; reached = reached_there; known = known_there }

  -- the class from which it is found is one of the package
  pub own_of_hidden : (home : ℕ) (p : Package) → slice_get packages home ≡ Some p → (m : MemberId) (d : Class)
      → class_named (world p) m.class ≡ Some d → finds_hidden (line_of (world p) m.class) (signature m) ≡ true
      → d.is_imported ≡ false
  own_of_hidden home p here m d known hidden = mine d.is_imported refl
    where
      order_p : IsOrdered (world p)
      order_p = order_at packages is alone home p here

      held : HoldsHidden (world p) (signature m) m.class
      held = let f = facts_at packages is alone home p here in holds_hidden (world p) order_p f.rules (signature m)
          m.class hidden

      mine : (b : Bool) → d.is_imported ≡ b → d.is_imported ≡ false
      mine false e = e
      mine true e =
          let h = held in
          let k = h.class in
          absurd (clash k.is_imported (below_abroad (world p) order_p m.class k.name d k (line_below (world p) m.class k
          h.on) known e (line_named (world p) m.class k h.on)) h.own)

  -- a package-visible method that code calls on an object is called alike
  pub hidden_call_agrees : (home : ℕ) (p : Package) → slice_get packages home ≡ Some p → (m : MemberId)
      → is_called p (OnObject m) ≡ true → (d : Class) → class_named (world p) m.class ≡ Some d
      → is_interface d.flags ≡ false → is_initialiser m.name ≡ false
      → finds_hidden (line_of (world p) m.class) (signature m) ≡ true → CallAgrees packages at home (OnObject m)
  hidden_call_agrees home p here m called d known plain ordinary hidden =
      let f = facts_at packages is alone home p here in
      let t = own_tree packages is alone home p here m.class d known (own_of_hidden home p here m d known hidden) in
      let a = f.virtual_calls m.class m.class d d known plain known itself in
      let r = a.package_method (signature m) hidden in
      hidden_agrees home p here m t.0 t.1 t.2 (known ∙ ap (λ (c : Class). Some c) t.3) (ap (λ (c : Class). is_interface
      c.flags) (sym t.3) ∙ plain) ordinary hidden r.0 r.1 called
