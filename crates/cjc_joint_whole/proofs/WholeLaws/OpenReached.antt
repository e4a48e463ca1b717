-- Calls of public and protected methods of classes in a group: what the code of a package calls by invokevirtual,
-- selection gives on each receiver by token as by name, and it takes the words of its descriptor.
use Rattle.std.proofs.Common.{◌≡◌, ℕ, ◌-◌, ◌<◌, refl, sym, ap, subst, ◌∙◌, arith, Bool, true, false, List, Option, Some}
use Rattle.std.proofs.Common.{None}
use Rattle.std.specs.Prelude.{nat_lt, option_and_then, slice_get, unwrap_or, if◌then◌else◌}
use Rattle.std.proofs.lemmas.Bool.Decides.{nat_tests}
use Rattle.cjc_bytes.specs.AccessFlags.{is_interface}
use Rattle.cjc_bytes.specs.declared.fault.MemberId.{MemberId}
use Rattle.cjc_components.specs.LowerNarrow.Rows.Package.{words_where, words_with}
use Rattle.cjc_components.specs.Names.{virtual_token}
use Rattle.cjc_components.specs.Package.{Package, world}
use Rattle.cjc_joint_proof.specs.JointAlike.{IsOfGroup, JointNaming, callee_at as callee_there, code_at, offset_at}
use Rattle.cjc_joint_proof.specs.JointCalled.{StandByPackage}
use Rattle.cjc_joint_proof.specs.JointCode.{InPackage, of_package}
use Rattle.cjc_joint_proof.specs.JointNames.{callee_for, hit_for, reached_for, selected, words_for}
use Rattle.cjc_joint_proof.specs.JointPackages.{class_together, files_together}
use Rattle.cjc_joint_proof.specs.JointTables.{world_together}
use Rattle.cjc_joint_proof.specs.JointTogether.{cell_together, field_together, methods_together, names_by}
use Rattle.cjc_joint_proof.specs.JointTogether.{naming_together}
use Rattle.cjc_joint_proof.specs.JointTowers.{loaded_together}
use Rattle.cjc_joint_proof.specs.Loading.{AllLead, group_of, member_of}
use Rattle.cjc_joint_proof.proofs.ClassLaws.{class_means, together_at}
use Rattle.cjc_joint_theorem.specs.Ordered.{AreOrdered}
use Rattle.cjc_joint_theorem.proofs.OrderedLaws.Ordered.{ordered}
use Rattle.cjc_joint_theorem.proofs.OrderedLaws.Standing.{class_stands, same_kind}
use Rattle.cjc_jvm_semantics.specs.Group.{is_open, joint, own_where, own_within, package_of}
use Rattle.cjc_jvm_semantics.specs.Group.{selection_for}
use Rattle.cjc_jvm_semantics.specs.Linked.{Method}
use Rattle.cjc_jvm_semantics.specs.OnePackage.{ResolvedMember, callee_at, first_imported, selected_from}
use Rattle.cjc_token_proof.proofs.WorldProofTypes.{type_below}
use Rattle.cjc_token_proof.proofs.WrittenCalls.Facts.{Facts}
use Rattle.cjc_token_proof.proofs.WrittenCalls.Held.{FormsLaw, OffsetsLaw}
use Rattle.cjc_token_proof.proofs.WrittenSends.Operations.{call_named}
use Rattle.cjc_token_proof.specs.Calls.Reaching.{start_placed}
use Rattle.cjc_token_proof.specs.Calls.Selecting.{signature}
use Rattle.cjc_token_proof.specs.CardSemantics.Bytecode.Alike.{IsFound, reached_as}
use Rattle.cjc_token_proof.specs.CardSemantics.Bytecode.Machine.{Nowhere, Reached, Start, Within}
use Rattle.cjc_token_proof.specs.CardSemantics.Bytecode.Renaming.{option_as, shape_as}
use Rattle.cjc_token_proof.specs.CardSemantics.Machine.Calls as card
use Rattle.cjc_token_proof.specs.CardSemantics.Machine.Classes.{Class as CardClass, External, Own}
use Rattle.cjc_token_proof.specs.CardSemantics.Machine.Dispatch.{Hidden, Open, dispatched_open, tower}
use Rattle.cjc_token_proof.specs.CardSemantics.Machine.Loaded.{Loaded}
use Rattle.cjc_token_proof.specs.CardSemantics.Machine.Operations as operations
use Rattle.cjc_token_proof.specs.CardSemantics.Machine.Operations.{token_of}
use Rattle.cjc_token_proof.specs.NCode.ByLabel.{OnObject}
use Rattle.cjc_token_proof.specs.NCode.Lowering.Naming.{callee}
use Rattle.cjc_token_proof.specs.NCode.Lowering.Placed.{Placed}
use Rattle.cjc_token_proof.specs.Script.Sorts.{Shape, Signature as Types, shape_name, signature_of as types_of}
use Rattle.cjc_token_proof.specs.WrittenCalls.Calls.{IsNamed, Receives, TakesWords, got, hidden, on_object, shown}
use Rattle.cjc_token_proof.specs.WrittenCalls.Calls.{virtual_words}
use Rattle.cjc_token_proof.specs.WrittenSends.Named.{is_called}
use Rattle.cjc_tokens.specs.Lines.{line_of}
use Rattle.cjc_tokens.specs.Methods.{with_high_bit}
use Rattle.cjc_tokens.specs.Slots.{hidden_slots, shown_token, slots, token}
use Rattle.cjc_vtable.proofs.Worlds.{shown-place}
use Rattle.cjc_vtable.specs.Calls.{finds_hidden}
use Rattle.cjc_vtable.specs.Laws.{itself}
use Rattle.cjc_vtable.specs.Tables.{or_zero}
use Rattle.cjc_world.proofs.UpwardLaws.Lines.{on_line}
use Rattle.cjc_world.specs.Classes.{Class, class_named}
use Rattle.cjc_world.specs.Files.{Files}
use Rattle.cjc_world.specs.Lookup.{first, receiver}
use Rattle.cjc_world.specs.Subtype.{is_subtype, starts}
use Rattle.cjc_world.specs.Supertypes.{line}
use Rattle.cjc_world.specs.Upwards.{Below, IsOrdered}
use Rattle.cjc_world.specs.declared.found.Found.{Found}
use Rattle.cjc_joint_whole.specs.Selected.{CallAgrees, NamesVirtual, OutsideClassesAgree, SelectTogether, SelectsAlike}
use Rattle.cjc_joint_whole.specs.Selected.{calls_together}
use Rattle.cjc_joint_whole.proofs.WholeLaws.Alike.{alike_known, alike_reached}
use Rattle.cjc_joint_whole.proofs.WholeLaws.FixedNamed.{AloneLaws}
use Rattle.cjc_joint_whole.proofs.WholeLaws.HiddenCalls.{hidden_call_agrees, no_array}
use Rattle.cjc_joint_whole.proofs.WholeLaws.OpenFinds.{open_selections_agree}
use Rattle.cjc_joint_whole.proofs.WholeLaws.OpenHits.{hit_seen}
use Rattle.cjc_joint_whole.proofs.WholeLaws.OpenWords.{open_words}
use Rattle.cjc_joint_whole.proofs.WholeLaws.Receiving.{IsOn, is_on, known_by}
use Rattle.cjc_joint_whole.proofs.WholeLaws.TokenMeans.{ImportsAreExposed}
use Rattle.cjc_joint_whole.proofs.WholeLaws.TokensDown.{tokens_go_down}

-- a number of seven bits is a token of its own
open_number : (c : CardClass) (t : ℕ) → t < 128 → unwrap_or (token_of c t) (Open 0) ≡ Open t
open_number (Own q offset) t low = let small : nat_lt t 128 ≡ true = grind (arith, nat_tests, low)
    in ap (λ b. if b then Open t else Hidden q (t - 128)) small
open_number (External tree number) t low = let small : nat_lt t 128 ≡ true = grind (arith, nat_tests, low)
    in ap (λ (b : Bool). unwrap_or (if b then Some (Open t) else None) (Open 0)) small

module _ (forms : FormsLaw) (offsets : OffsetsLaw) (packages : List Package) (is : SelectTogether packages)
    (each : (q : ℕ) (p : Package) → slice_get packages q ≡ Some p → AloneLaws p)
    (exposed : (q : ℕ) (p : Package) → slice_get packages q ≡ Some p → ImportsAreExposed p)
    (outside : OutsideClassesAgree packages)
    (leads : (q : ℕ) (p : Package) → slice_get packages q ≡ Some p → AllLead (group_of packages) (member_of p))
    (at : Method → Placed) (stand : StandByPackage packages at) where
  abbrev l : Loaded
  l = loaded_together packages

  abbrev group : List Files
  group = files_together packages

  abbrev w : List Class
  w = world_together packages

  abbrev g : JointNaming
  g = naming_together packages

  all : AreOrdered group
  all = is.ordered

  order : IsOrdered w
  order = ordered group all

  facts : (q : ℕ) (p : Package) → slice_get packages q ≡ Some p → Facts p
  facts q p it = let a = each q p it in a.facts

  plain_names : (x : List ℕ) (c : Class) → class_named w x ≡ Some c → starts 91 x ≡ false
  plain_names = no_array forms offsets packages is each at stand

  -- ---- a call by a token of the named class

  module _ (q : ℕ) (p : Package) (it : slice_get packages q ≡ Some p) (m : MemberId) (d : Class)
      (is_d : class_named (world p) m.class ≡ Some d) (plain : is_interface d.flags ≡ false)
      (n : NamesVirtual (world p) m) (none : finds_hidden (line_of (world p) m.class) (signature m) ≡ false) (t : ℕ)
      (its_token : token (slots (line_of (world p) m.class)) (signature m) ≡ Some t) where
    abbrev v : List Class
    v = world p

    its : Facts p
    its = facts q p it

    files_p : slice_get group q ≡ Some p.files
    files_p = together_at packages is.linked q p it

    abbrev opened : Class → Option Found
    opened = own_where is_open m.name m.desc

    -- the named class in the joint world
    record Named : Type 0 where
      class : Class
      named : class_named w m.class ≡ Some class
      ground : is_interface class.flags ≡ false

    named_there : Named
    named_there =
        let hs = class_stands group all q p.files files_p m.class d is_d in
        record { class = hs.class; named = hs.named; ground = same_kind group q p.files d hs.class hs.stands ∙ plain }

    -- ---- by name

    -- What is selected from a class on, where that reaches something.
    pub record SelectsFrom (x : List ℕ) (r : Reached (InPackage Placed)) : Type 0 where
      pub found : Found
      pub first_one : first opened (line w x) ≡ Some found
      pub by_name : reached_for group (start_placed at) (callee_at (joint group) (first_imported (line w x)) m found)
          ≡ r

    pub selects_from : (type x : List ℕ) → receiver type ≡ x → (r : Reached (InPackage Placed))
        → reached_for group (start_placed at) (selected (joint group) w p.files m type) ≡ r → IsFound r
        → SelectsFrom x r
    selects_from type x received r e is_found = by (hit_for (joint group) w p.files m) refl e
      where
        nothing : Nowhere ≡ r → SelectsFrom x r
        nothing h = absurd (subst IsFound (sym h) is_found)

        met : (o : Option Found) → first opened (line w x) ≡ o
            → reached_for group (start_placed at) (option_and_then (λ f. callee_at (joint group) (first_imported (line w
            x)) m f) o) ≡ r → SelectsFrom x r
        met None f h = nothing h
        met (Some k) f h = record { found = k; first_one = f; by_name = h }

        by : (o : Option ResolvedMember) → hit_for (joint group) w p.files m ≡ o
            → reached_for group (start_placed at) (option_and_then (λ hit. selected_from (joint group) w (selection_for
            w hit) type m) o) ≡ r → SelectsFrom x r
        by None f h = nothing h
        by (Some k) f h =
            met (first opened (line w x)) refl (sym (ap (λ b. reached_for group (start_placed at) (option_and_then (λ f.
            callee_at (joint group) (first_imported (line w (receiver type))) m f) (if b then first (own_within
            (package_of (let o = k.owner in o.name)) m.name m.desc) (line w (receiver type))
            else first opened (line w (receiver type))))) (hit_seen packages is facts exposed q p it m d is_d plain n
            none k f)
            ∙ ap (λ y. reached_for group (start_placed at) (option_and_then (λ f. callee_at (joint group)
            (first_imported (line w y)) m f) (first opened (line w y)))) received) ∙ h)

    -- dispatch by the token of the named class leads there from each class below it
    pub selects_alike : (x : List ℕ) (c : Class) → class_named w x ≡ Some c → is_interface c.flags ≡ false
        → Below w x m.class → (f : Found) → first opened (line w x) ≡ Some f
        → SelectsAlike packages x (signature m) f (dispatched_open (tower l (class_together packages x)) t)
    selects_alike x c named ground below f found =
        let k = known_by packages is.linked order plain_names x c named ground in
        let y = named_there in
        let on = on_line w order x m.class c y.class below named ground y.named y.ground in
        let its_number = tokens_go_down packages is facts exposed outside k.part k.«package» k.here x k.class k.named
        k.plain q p it m.class d y.class is_d plain y.named on (signature m) n.ordinary t its_token in
        let o = open_selections_agree forms offsets packages is each exposed outside leads k.part k.«package» k.here x
        k.class k.named k.plain (signature m) n.ordinary f found in
        let both : Some o.its ≡ Some t = sym o.its_token ∙ its_number in
        let same : o.its ≡ t = cc in
        subst (λ i. SelectsAlike packages x (signature m) f (dispatched_open (tower l (class_together packages x)) i))
        same o.alike

    -- on a receiver
    record Selects (kind : Shape (List ℕ)) (r : Reached (InPackage Placed)) : Type 0 where
      on : IsOn packages is.linked order plain_names kind
      from : SelectsFrom (let o = on in o.class) r
      below : Below w (let o = on in o.class) m.class

    selected_by : (kind : Shape (List ℕ)) (r : Reached (InPackage Placed)) → Receives w (Some kind)
        → is_subtype w (shape_name kind) m.class ≡ true
        → reached_for group (start_placed at) (selected (joint group) w p.files m (shape_name kind)) ≡ r → IsFound r
        → Selects kind r
    selected_by kind r receives sub e is_found =
        let y = named_there in
        let o = is_on packages is.linked order plain_names kind receives m.class y.class y.named y.ground in
        record {
          on = o;
          from = selects_from (shape_name kind) o.class o.receives r e is_found;
          below = subst (λ y. Below w y m.class) o.receives (type_below w (shape_name kind) m.class (plain_names m.class
              y.class y.named) sub);
        }

    on_class : (kind : Shape (List ℕ)) (r : Reached (InPackage Placed)) → Receives w (Some kind)
        → (let calls = calls_together packages at in calls.reached (of_package q (OnObject m)) (Some kind) ≡ r)
        → IsFound r → Selects kind r
    on_class kind r receives e is_found = by (is_subtype w (shape_name kind) m.class) refl (sym (ap (λ k. reached_for
        group (start_placed at) (option_and_then (λ asker. callee_for (joint group) w asker (OnObject m) (Some kind))
        k)) files_p) ∙ e)
      where
        by : (b : Bool) → is_subtype w (shape_name kind) m.class ≡ b
            → reached_for group (start_placed at) (if b then selected (joint group) w p.files m (shape_name kind)
            else None) ≡ r → Selects kind r
        by true sub h = selected_by kind r receives sub h is_found
        by false sub h = absurd (subst IsFound (sym h) is_found)

    no_receiver : (r : Reached (InPackage Placed)) → (let calls = calls_together packages at
        in calls.reached (of_package q (OnObject m)) None ≡ r) → IsFound r → ⊥
    no_receiver r e is_found = subst IsFound (sym (sym (ap (λ k. reached_for group (start_placed at) (option_and_then (λ
        asker. callee_for (joint group) w asker (OnObject m) None) k)) files_p) ∙ e)) is_found

    -- ---- by token

    low : t < 128
    low = (let a = each q p it in let r = a.runs in let k = r.runnable in k.tokens) m.class d (signature m) t is_d plain
        its_token

    means_open : (c : CardClass) → unwrap_or (token_of c (virtual_token p m)) (Open 0) ≡ Open t
    means_open c =
        let k = its in
        ap (λ b. unwrap_or (token_of c (if b then with_high_bit (or_zero (token (hidden_slots (line_of v m.class))
        (signature m))) else or_zero (shown_token (line_of v m.class) (signature m)))) (Open 0)) none
        ∙ ap (λ o. unwrap_or (token_of c (or_zero o)) (Open 0)) (shown-place v k.are_supertypes k.one_supertypes k.rules
        m.class d (signature m) is_d (λ import. plain) ∙ its_token)
        ∙ open_number c t low

    callee_is : callee_there g (of_package q (OnObject m))
        ≡ operations.OnObject (class_together packages m.class) (Open t)
    callee_is =
        ap (λ o. callee (record (names_by l q o) {
          loaded = l;
          part = q;
          class = class_together packages;
          field_token = field_together packages;
          cell = cell_together packages;
        }) (OnObject m)) it
        ∙ ap (operations.OnObject (class_together packages m.class)) (ap (λ o. unwrap_or (token_of (unwrap_or o (Own q
        0)) (virtual_token p m)) (Open 0)) (class_means packages is.linked q p it m.class d is_d)
        ∙ means_open (class_together packages m.class))

    reached_there : (o : Option (Shape (List ℕ))) (r : Reached (InPackage Placed)) → Receives w o
        → (let calls = calls_together packages at in calls.reached (of_package q (OnObject m)) o ≡ r) → IsFound r
        → card.reached l (callee_there g (of_package q (OnObject m))) (option_as (shape_as (class_together packages)) o)
        ≡ reached_as (code_at g) (offset_at g) r
    reached_there None r receives e is_found = absurd (no_receiver r e is_found)
    reached_there (Some kind) r receives e is_found =
        let h = on_class kind r receives e is_found in
        let o = h.on in
        let f = h.from in
        ap (λ k. card.reached l k (Some (shape_as (class_together packages) kind))) callee_is
        ∙ ap (λ k. card.reached_by l (card.dispatched_on l k (Open t))) o.on_card
        ∙ alike_reached forms offsets packages is.linked each at stand o.class m f.found (dispatched_open (tower l
        (class_together packages o.class)) t) (selects_alike o.class o.its o.named o.plain h.below f.found f.first_one)
        r f.by_name is_found

    known_there : (o : Option (Shape (List ℕ))) (start : Start (InPackage Placed)) → Receives w o
        → (let calls = calls_together packages at in calls.reached (of_package q (OnObject m)) o ≡ Within start)
        → IsOfGroup l (methods_together packages) start.code
    known_there None start receives e = absurd (no_receiver (Within start) e tt)
    known_there (Some kind) start receives e =
        let h = on_class kind (Within start) receives e tt in
        let o = h.on in
        let f = h.from in
        alike_known forms offsets packages is.linked each at stand o.class m f.found (dispatched_open (tower l
        (class_together packages o.class)) t) (selects_alike o.class o.its o.named o.plain h.below f.found f.first_one)
        start f.by_name

    -- ---- words

    words_there : (types : Types) → types_of m.desc ≡ Some types → (k : ℕ)
        → (let calls = calls_together packages at in calls.words (of_package q (OnObject m)) ≡ Some k)
        → card.words l (callee_there g (of_package q (OnObject m))) ≡ Some k
    words_there types sig k e =
        ap (card.words l) callee_is
        ∙ open_words forms offsets packages is each exposed outside leads (signature m) n.ordinary types sig q p it
        m.class d is_d plain t its_token
        ∙ taken (hit_for (joint group) w p.files m) (sym (ap (option_and_then (λ asker. words_for (joint group) w asker
        (OnObject m))) files_p) ∙ e)
      where
        taken : (o : Option ResolvedMember) → words_where true m o ≡ Some k → Some (words_with true m) ≡ Some k
        taken None h = cc
        taken (Some f) h = h

    -- the call agrees
    pub open_agrees : (types : Types) → types_of m.desc ≡ Some types → CallAgrees packages at q (OnObject m)
    open_agrees types sig = record { words = words_there types sig; reached = reached_there; known = known_there }

  -- ---- each that code calls on an object

  pub object_call_agrees : (q : ℕ) (p : Package) → slice_get packages q ≡ Some p → (m : MemberId)
      → is_called p (OnObject m) ≡ true → CallAgrees packages at q (OnObject m)
  object_call_agrees q p it m called =
      let a = each q p it in
      let r = a.runs in
      let both = call_named p r.named (OnObject m) called in
      by both.0 both.1
    where
      n : NamesVirtual (world p) m
      n = let s = is.each q p it in s.virtuals m called

      by : IsNamed (world p) (OnObject m) → TakesWords (world p) (OnObject m) → CallAgrees packages at q (OnObject m)
      by (on_object d known plain ordinary (shown finds none)) (virtual_words types sig) =
          let k = facts q p it in
          let a = k.virtual_calls m.class m.class d d known plain known itself in
          let t = a.open_method (signature m) finds in
          open_agrees q p it m d known plain n none t.0 t.1 types sig
      by (on_object d known plain ordinary (hidden finds)) takes =
          hidden_call_agrees forms offsets packages is each at stand q p it m called d known plain ordinary finds
      by (on_object d known plain ordinary (got t tok none selects)) (virtual_words types sig) =
          open_agrees q p it m d known plain n none t tok types sig
