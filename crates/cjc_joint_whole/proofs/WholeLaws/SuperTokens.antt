-- Calls of methods of the superclass in a group: what selection gives from the superclass by name is what the tables of
-- the superclass have, which stand above those of the class that holds the code.
use Rattle.std.proofs.Common.{◌≡◌, ℕ, ◌+◌, ◌-◌, ◌<◌, refl, sym, ap, subst, ◌∙◌, arith, Bool, true, false, List, [], ◌∷◌, Option}
use Rattle.std.proofs.Common.{Some, None}
use Rattle.std.specs.Prelude.{nat_lt, option_and_then, slice_get, unwrap_or, if◌then◌else◌}
use Rattle.std.proofs.lemmas.Bool.Decides.{nat_tests}
use Rattle.cjc_bytes.specs.AccessFlags.{is_interface}
use Rattle.cjc_bytes.specs.declared.fault.MemberId.{MemberId}
use Rattle.cjc_components.specs.Names.{virtual_token}
use Rattle.cjc_components.specs.Package.{Package, world}
use Rattle.cjc_jvm_semantics.specs.Group.{is_open, joint, own_where, own_within, package_of, selection_for}
use Rattle.cjc_jvm_semantics.specs.Linked
use Rattle.cjc_jvm_semantics.specs.Linked.{Method}
use Rattle.cjc_jvm_semantics.specs.OnePackage.{ResolvedMember, callee_at, first_imported, first_super, is_initialiser}
use Rattle.cjc_jvm_semantics.specs.OnePackage.{of_class, selected_from}
use Rattle.cjc_joint_proof.specs.JointAlike.{IsOfGroup, JointNaming, callee_at as callee_there, code_at, offset_at}
use Rattle.cjc_joint_proof.specs.JointCalled.{StandByPackage}
use Rattle.cjc_joint_proof.specs.JointCode.{InPackage, of_package}
use Rattle.cjc_joint_proof.specs.JointNames.{above as above_for, callee_for, hit_for, reached_for, selected, words_for}
use Rattle.cjc_joint_proof.specs.JointPackages.{class_together, files_together}
use Rattle.cjc_joint_proof.specs.JointTables.{world_together}
use Rattle.cjc_joint_proof.specs.JointTogether.{cell_together, field_together, methods_together, names_by}
use Rattle.cjc_joint_proof.specs.JointTogether.{naming_together}
use Rattle.cjc_joint_proof.specs.JointTowers.{loaded_together}
use Rattle.cjc_joint_proof.specs.Loading.{offset_in}
use Rattle.cjc_joint_proof.specs.Worlds.{before}
use Rattle.cjc_joint_proof.proofs.ClassLaws.{class_means, own_named}
use Rattle.cjc_joint_proof.proofs.ClimbLaws.{superclass_stands}
use Rattle.cjc_joint_proof.proofs.WorldLaws.{own_is_found}
use Rattle.cjc_joint_theorem.proofs.OrderedLaws.Standing.{are_apart, class_stands}
use Rattle.cjc_token_proof.proofs.TablesLaws.Above.{says_kinds}
use Rattle.cjc_token_proof.proofs.WorldProofTypes.{receiver_class}
use Rattle.cjc_token_proof.proofs.WrittenCalls.Facts.{Facts}
use Rattle.cjc_token_proof.proofs.WrittenCalls.Got.{got_no_code}
use Rattle.cjc_token_proof.proofs.WrittenCalls.Held.{FormsLaw, OffsetsLaw}
use Rattle.cjc_token_proof.proofs.WrittenCalls.Ids.{own_ids}
use Rattle.cjc_token_proof.proofs.WrittenCalls.Known.{classes_stand}
use Rattle.cjc_token_proof.proofs.WrittenCalls.Words.{added_begins, words_taken}
use Rattle.cjc_token_proof.proofs.WrittenSends.Operations.{call_named}
use Rattle.cjc_token_proof.specs.Calls.Reaching.{start_placed}
use Rattle.cjc_token_proof.specs.Calls.Selecting.{signature}
use Rattle.cjc_token_proof.specs.CardSemantics.Bytecode.Alike.{IsFound, reached_as}
use Rattle.cjc_token_proof.specs.CardSemantics.Bytecode.Machine.{Nowhere, Reached, Start, Within}
use Rattle.cjc_token_proof.specs.CardSemantics.Bytecode.Renaming.{option_as, shape_as}
use Rattle.cjc_token_proof.specs.CardSemantics.Machine.Calls as card
use Rattle.cjc_token_proof.specs.CardSemantics.Machine.Classes.{Class as CardClass, External, Own}
use Rattle.cjc_token_proof.specs.CardSemantics.Machine.Dispatch.{Hidden, Open, Token, above, dispatched, tower}
use Rattle.cjc_token_proof.specs.CardSemantics.Machine.Loaded.{Loaded}
use Rattle.cjc_token_proof.specs.CardSemantics.Machine.Operations as operations
use Rattle.cjc_token_proof.specs.CardSemantics.Machine.Operations.{token_of}
use Rattle.cjc_token_proof.specs.NCode.ByLabel.{OnObject, OnSuper}
use Rattle.cjc_token_proof.specs.NCode.Lowering.Naming.{callee}
use Rattle.cjc_token_proof.specs.NCode.Lowering.Placed.{Placed}
use Rattle.cjc_token_proof.specs.Narrow.Rows.Package.{words_where, words_with}
use Rattle.cjc_token_proof.specs.Narrow.Rows.Resolved.{method_found}
use Rattle.cjc_token_proof.specs.Script.Sorts.{Shape, Signature as Types, shape_name, signature_of as types_of}
use Rattle.cjc_token_proof.specs.Tables.Loading.{loaded, naming}
use Rattle.cjc_token_proof.specs.WrittenCalls.Calls.{IsNamed, IsSought, Receives, TakesWords, got, hidden, on_object}
use Rattle.cjc_token_proof.specs.WrittenCalls.Calls.{on_super, shown, super_words, virtual_words}
use Rattle.cjc_token_proof.specs.WrittenCalls.Standing.{place}
use Rattle.cjc_token_proof.specs.WrittenSends.Named.{is_called}
use Rattle.cjc_tokens.specs.Lines.{line_of}
use Rattle.cjc_tokens.specs.Members.{Signature}
use Rattle.cjc_tokens.specs.Methods.{with_high_bit}
use Rattle.cjc_tokens.specs.Slots.{hidden_slots, shown_token, slots, token}
use Rattle.cjc_vtable.proofs.SlotLaws.Meant.{open_token, package_token}
use Rattle.cjc_vtable.proofs.Worlds.{shown-place}
use Rattle.cjc_vtable.specs.Calls.{finds_hidden}
use Rattle.cjc_vtable.specs.Laws.{TokensOnce, below, itself}
use Rattle.cjc_vtable.specs.Tables.{or_zero}
use Rattle.cjc_world.proofs.Cycles.{class_named-name}
use Rattle.cjc_world.specs.ClassFile.declared.tree.ClassTree.{ClassTree}
use Rattle.cjc_world.specs.Classes.{Class, class_named, declared}
use Rattle.cjc_world.specs.Files.{Files}
use Rattle.cjc_world.specs.Lookup.{first, receiver}
use Rattle.cjc_world.specs.Subtype.{is_subtype}
use Rattle.cjc_world.specs.Supertypes.{Lists, foremost, line}
use Rattle.cjc_world.specs.declared.found.Found.{Found}
use Rattle.cjc_joint_whole.specs.Above.{FindsAbove}
use Rattle.cjc_joint_whole.specs.Selected.{CallAgrees, NamesVirtual, OutsideClassesAgree, SelectTogether, SelectsAlike}
use Rattle.cjc_joint_whole.specs.Selected.{calls_together}
use Rattle.cjc_joint_whole.proofs.WholeLaws.Alike.{alike_known, alike_reached}
use Rattle.cjc_joint_whole.proofs.WholeLaws.FixedNamed.{AloneLaws, begins, counts}
use Rattle.cjc_joint_whole.proofs.WholeLaws.HiddenCalls.{hidden_token, met as hidden_met, no_array, selects_itself}
use Rattle.cjc_joint_whole.proofs.WholeLaws.HiddenCalls.{own_of_hidden, takes_alike}
use Rattle.cjc_joint_whole.proofs.WholeLaws.HiddenTokens.{facts_at, files_here, leads, own_tree}
use Rattle.cjc_joint_whole.proofs.WholeLaws.OpenFinds.{open_selections_agree}
use Rattle.cjc_joint_whole.proofs.WholeLaws.OpenHits.{hit_seen}
use Rattle.cjc_joint_whole.proofs.WholeLaws.OpenWords.{open_words}
use Rattle.cjc_joint_whole.proofs.WholeLaws.TokenMeans.{ImportsAreExposed}

-- a number of seven bits is a token of its own
seven_bits : (c : CardClass) (t : ℕ) → t < 128 → unwrap_or (token_of c t) (Open 0) ≡ Open t
seven_bits (Own q offset) t low = let small : nat_lt t 128 ≡ true = grind (arith, nat_tests, low)
    in ap (λ b. if b then Open t else Hidden q (t - 128)) small
seven_bits (External tree number) t low = let small : nat_lt t 128 ≡ true = grind (arith, nat_tests, low)
    in ap (λ (b : Bool). unwrap_or (if b then Some (Open t) else None) (Open 0)) small

module _ (forms : FormsLaw) (offsets : OffsetsLaw) (packages : List Package) (is : SelectTogether packages)
    (alone : (q : ℕ) (p : Package) → slice_get packages q ≡ Some p → AloneLaws p)
    (exposed : (q : ℕ) (p : Package) → slice_get packages q ≡ Some p → ImportsAreExposed p)
    (outside : OutsideClassesAgree packages) (at : Method → Placed) (stand : StandByPackage packages at) where
  abbrev group : List Files
  group = files_together packages

  abbrev w : List Class
  w = world_together packages

  abbrev l : Loaded
  l = loaded_together packages

  abbrev g : JointNaming
  g = naming_together packages

  module _ (home : ℕ) (p : Package) (here_p : slice_get packages home ≡ Some p) (m : MemberId) (c d : Class)
      (super : List ℕ) (known : class_named (world p) m.class ≡ Some c) (own : c.is_imported ≡ false)
      (class_here : is_interface c.flags ≡ false) (supers : c.supers ≡ super ∷ [])
      (super_is : class_named (world p) super ≡ Some d) (ordinary : is_initialiser m.name ≡ false)
      (both : finds_hidden (line_of (world p) m.class) (signature m)
      ≡ finds_hidden (line_of (world p) super) (signature m)) (types : Types) (sig : types_of m.desc ≡ Some types) where
    abbrev v : List Class
    v = world p

    abbrev s : Signature
    s = signature m

    -- the method, by the superclass
    abbrev above_one : MemberId
    above_one = of_class super m

    facts : Facts p
    facts = facts_at packages is alone home p here_p

    files_p : slice_get group home ≡ Some p.files
    files_p = files_here packages is alone home p here_p

    super_class : is_interface d.flags ≡ false
    super_class =
        let up = (let f = facts in f.super_there) m.class super c known own supers in
        let two : Some up.0 ≡ Some d = sym up.1 ∙ super_is in
        let same : up.0 ≡ d = cc in sym (ap (λ (q : Class). is_interface q.flags) same) ∙ up.2

    once : TokensOnce v m.class super
    once = let f = facts in f.tokens_once m.class super c d known class_here super_is (below c known (subst (λ ss. Lists
        super ss) (sym supers) foremost) itself)

    -- ---- the classes in the group

    tree : (n : ℕ) × (t : ClassTree) × (let f = p.files in slice_get f.classes n ≡ Some t) × (c ≡ declared n t)
    tree = own_tree packages is alone home p here_p m.class c known own

    joint_class : class_named w m.class ≡ Some (declared (before group home + tree.0) tree.1)
    joint_class =
        let n = tree.0 in
        let t = tree.1 in
        let name : t.name ≡ m.class = class_named-name v m.class (declared n t) (known ∙ ap (λ (k : Class). Some k)
        tree.3) in
        ap (class_named w) (sym name) ∙ own_is_found group (are_apart group is.ordered) home n p.files t (record {
          member = files_p;
          file = tree.2;
        })

    first_one : first_super (class_named w m.class) ≡ Some super
    first_one = ap first_super joint_class ∙ ap (λ ss. slice_get ss 0) (ap (λ (k : Class). k.supers) (sym tree.3)
        ∙ supers)

    received : receiver super ≡ super
    received =
        let hs = class_stands group is.ordered home p.files files_p super d super_is in
        receiver_class super (no_array forms offsets packages is alone at stand super hs.class hs.named)

    tables_above : above (tower l (class_together packages m.class)) ≡ tower l (class_together packages super)
    tables_above = superclass_stands packages is.linked (leads packages is alone) (facts_at packages is alone) home p
        here_p m.class c known class_here own super supers

    -- ---- what is selected

    -- What is selected from the superclass: by the token of the class that holds the code, as by name.
    record SelectsAbove : Type 0 where
      number : Token
      is_number : unwrap_or (token_of (class_together packages m.class) (virtual_token p m)) (Open 0) ≡ number
      found : Found
      by_name : selected (joint group) w p.files above_one super ≡ callee_at (joint group) (first_imported (line w
          super)) above_one found
      alike : SelectsAlike packages super s found (dispatched (tower l (class_together packages super)) number)
      takes : card.words_of l true (dispatched (tower l (class_together packages super)) number)
          ≡ Some (words_with true m)

    -- ---- a public or protected method

    abbrev opened : Class → Option Found
    opened = own_where is_open m.name m.desc

    abbrev called_at : (x : List ℕ) → Found → Option Linked.Callee
    called_at x f = callee_at (joint group) (first_imported (line w x)) above_one f

    open_means : (t : ℕ) → token (slots (line_of v super)) s ≡ Some t → finds_hidden (line_of v super) s ≡ false
        → unwrap_or (token_of (class_together packages m.class) (virtual_token p m)) (Open 0) ≡ Open t
    open_means t its none =
        let f = facts in
        let o = once in
        let held : token (slots (line_of v m.class)) s ≡ Some t = o.inherited s t its in
        let keeps = (let a = alone home p here_p in let r = a.runs in let k = r.runnable in k.tokens) in
        ap (λ b. unwrap_or (token_of (class_together packages m.class) (if b then with_high_bit (or_zero (token
        (hidden_slots (line_of v m.class)) s)) else or_zero (shown_token (line_of v m.class) s))) (Open 0)) (both ∙ none)
        ∙ ap (λ o. unwrap_or (token_of (class_together packages m.class) (or_zero o)) (Open 0)) (shown-place v
        f.are_supertypes f.one_supertypes f.rules m.class c s known (λ import. class_here) ∙ held)
        ∙ seven_bits (class_together packages m.class) t (keeps m.class c s t known class_here held)

    open_above : NamesVirtual v above_one → finds_hidden (line_of v super) s ≡ false → (y : Linked.Callee)
        → selected (joint group) w p.files above_one super ≡ Some y → SelectsAbove
    open_above n none y e = by (hit_for (joint group) w p.files above_one) refl e
      where
        met : (o : Option Found) → first opened (line w super) ≡ o → option_and_then (called_at super) o ≡ Some y
            → selected (joint group) w p.files above_one super
            ≡ option_and_then (called_at super) (first opened (line w super)) → SelectsAbove
        met None f h chosen = absurd (cc)
        met (Some k) f h chosen =
            let r = open_selections_agree forms offsets packages is alone exposed outside (leads packages is alone) home
            p here_p super d super_is super_class s n.ordinary k f in
            record {
              number = Open r.its;
              is_number = open_means r.its r.its_token none;
              found = k;
              by_name = chosen ∙ ap (option_and_then (called_at super)) f;
              alike = r.alike;
              takes = open_words forms offsets packages is alone exposed outside (leads packages is alone) s n.ordinary
                  types sig home p here_p super d super_is super_class r.its r.its_token;
            }

        turned : (k : ResolvedMember) → hit_for (joint group) w p.files above_one ≡ Some k
            → selected_from (joint group) w (selection_for w k) super above_one
            ≡ option_and_then (called_at super) (first opened (line w super))
        turned k f =
            ap (λ b. option_and_then (called_at (receiver super)) (if b then first (own_within (package_of (let o
            = k.owner in o.name)) m.name m.desc) (line w (receiver super)) else first opened (line w (receiver super))))
            (hit_seen packages is (facts_at packages is alone) exposed home p here_p above_one d super_is super_class n
            none k f)
            ∙ ap (λ z. option_and_then (called_at z) (first opened (line w z))) received

        by : (o : Option ResolvedMember) → hit_for (joint group) w p.files above_one ≡ o
            → option_and_then (λ hit. selected_from (joint group) w (selection_for w hit) super above_one) o ≡ Some y
            → SelectsAbove
        by None f h = absurd (cc)
        by (Some k) f h = met (first opened (line w super)) refl (sym (turned k f) ∙ h) (ap (option_and_then (λ hit.
            selected_from (joint group) w (selection_for w hit) super above_one)) f ∙ turned k f)

    -- ---- a package-visible method

    class_there : class_together packages m.class ≡ Own home (offset_in p m.class)
    class_there = ap (λ o. unwrap_or o (Own 0 0)) (own_named packages is.linked home p here_p m.class c known own)

    hidden_means : finds_hidden (line_of v super) s ≡ true → (t : ℕ) → token (hidden_slots (line_of v super)) s ≡ Some t
        → unwrap_or (token_of (class_together packages m.class) (virtual_token p m)) (Open 0) ≡ Hidden home t
    hidden_means finds t its =
        let o = once in
        ap (λ b. unwrap_or (token_of (class_together packages m.class) (if b then with_high_bit (or_zero (token
        (hidden_slots (line_of v m.class)) s)) else or_zero (shown_token (line_of v m.class) s))) (Open 0)) (both
        ∙ finds)
        ∙ ap (λ o. unwrap_or (token_of (class_together packages m.class) (or_zero o + 128)) (Open 0))
        (o.hidden_inherited s t its)
        ∙ ap (λ (k : CardClass). unwrap_or (token_of k (t + 128)) (Open 0)) class_there
        ∙ hidden_token home (offset_in p m.class) t

    -- it takes its words where the package is by itself
    words_alone : finds_hidden (line_of v super) s ≡ true → (k : ℕ)
        → words_where true above_one (method_found v above_one) ≡ Some k
        → card.words (loaded p) (callee (naming p) (OnObject above_one)) ≡ Some k
    words_alone finds k e =
        let f = facts in
        let a = alone home p here_p in
        let r = a.runs in
        let n = r.runnable in
        let j = r.joined in
        let ids = own_ids r.list p n.sound in
        let stood = classes_stand r.list p n.sound in
        words_taken p f n.subtypes n.tokens j.exports (says_kinds r.list p n.sound) (place p) (begins forms offsets p a)
        (counts forms offsets p a)
        (λ f mine inside none. (let m = added_begins p r.words forms offsets n.ready n.methods ids stood f mine inside
        none in (m.0, m.1, m.3)))
        (got_no_code r.list p n.sound)
        (open_token v f.are_supertypes f.one_supertypes f.rules f.placed)
        (package_token v f.are_supertypes f.one_supertypes f.rules)
        (OnObject above_one) (on_object d super_is super_class ordinary (hidden finds)) (virtual_words types sig) k e

    hidden_above : finds_hidden (line_of v super) s ≡ true → SelectsAbove
    hidden_above finds =
        let f = facts in
        let t = own_tree packages is alone home p here_p super d super_is (own_of_hidden forms offsets packages is alone
        at stand home p here_p above_one d super_is finds) in
        let a = f.virtual_calls super super d d super_is super_class super_is itself in
        let r = a.package_method s finds in
        from t.0 t.1 t.2 (super_is ∙ ap (λ (k : Class). Some k) t.3) (ap (λ (k : Class). is_interface k.flags) (sym t.3)
        ∙ super_class) r.0 r.1
      where
        from : (n : ℕ) (t : ClassTree) → (let f = p.files in slice_get f.classes n ≡ Some t)
            → class_named v super ≡ Some (declared n t) → is_interface t.flags ≡ false → (number : ℕ)
            → token (hidden_slots (line_of v super)) s ≡ Some number → SelectsAbove
        from n t file named plain number its =
            let x = selects_itself forms offsets packages is alone at stand home p here_p above_one n t file named plain
            ordinary finds number its in
            record {
              number = Hidden home number;
              is_number = hidden_means finds number its;
              found = x.found;
              by_name = x.by_name;
              alike = x.alike;
              takes = takes_alike forms offsets packages is alone at stand home p here_p above_one n t file named plain
                  ordinary finds number its (words_with true m) (words_alone finds (words_with true m) (ap (words_where
                  true above_one) (hidden_met forms offsets packages is alone at stand home p here_p above_one n t file
                  named plain ordinary finds number its)));
            }

    -- ---- the call

    module _ (sought : IsSought v above_one) (n : NamesVirtual v above_one) where
      selects_above : (y : Linked.Callee) → selected (joint group) w p.files above_one super ≡ Some y → SelectsAbove
      selects_above y e = by sought
        where
          by : IsSought v above_one → SelectsAbove
          by (shown finds none) = open_above n none y e
          by (hidden finds) = hidden_above finds
          by (got t its none selects) = open_above n none y e

      above_is : above_for (joint group) w p.files m ≡ selected (joint group) w p.files above_one super
      above_is = ap (option_and_then (λ z. selected (joint group) w p.files (of_class z m) z)) first_one

      callee_is : (number : Token) → unwrap_or (token_of (class_together packages m.class) (virtual_token p m)) (Open 0)
          ≡ number → callee_there g (of_package home (OnSuper m))
          ≡ operations.OnSuper (class_together packages m.class) number
      callee_is number its =
          ap (λ o. callee (record (names_by l home o) {
            loaded = l;
            part = home;
            class = class_together packages;
            field_token = field_together packages;
            cell = cell_together packages;
          }) (OnSuper m)) here_p
          ∙ ap (operations.OnSuper (class_together packages m.class)) (ap (λ o. unwrap_or (token_of (unwrap_or o (Own
          home 0)) (virtual_token p m)) (Open 0)) (class_means packages is.linked home p here_p m.class c known) ∙ its)

      -- what it reaches by name
      record IsAbove (r : Reached (InPackage Placed)) : Type 0 where
        callee_of : Linked.Callee
        is_that : selected (joint group) w p.files above_one super ≡ Some callee_of
        reaches : reached_for group (start_placed at) (Some callee_of) ≡ r

      on_above : (o : Option (Shape (List ℕ))) (r : Reached (InPackage Placed))
          → (let calls = calls_together packages at in calls.reached (of_package home (OnSuper m)) o ≡ r) → IsFound r
          → IsAbove r
      on_above o r e is_found = by o (sym (ap (λ k. reached_for group (start_placed at) (option_and_then (λ asker.
          callee_for (joint group) w asker (OnSuper m) o) k)) files_p) ∙ e)
        where
          nothing : Nowhere ≡ r → IsAbove r
          nothing h = absurd (subst IsFound (sym h) is_found)

          chosen : (o : Option Linked.Callee) → selected (joint group) w p.files above_one super ≡ o
              → reached_for group (start_placed at) o ≡ r → IsAbove r
          chosen None f h = nothing h
          chosen (Some y) f h = record { callee_of = y; is_that = f; reaches = h }

          split : (b : Bool) → reached_for group (start_placed at) (if b then above_for (joint group) w p.files m
              else None) ≡ r → IsAbove r
          split true h = chosen (selected (joint group) w p.files above_one super) refl (ap (reached_for group
              (start_placed at)) (sym above_is) ∙ h)
          split false h = nothing h

          by : (o : Option (Shape (List ℕ))) → reached_for group (start_placed at) (callee_for (joint group) w p.files
              (OnSuper m) o) ≡ r → IsAbove r
          by None h = nothing h
          by (Some kind) h = split (is_subtype w (shape_name kind) m.class) h

      reached_by_name : (r : Reached (InPackage Placed)) → (y : IsAbove r) → (x : SelectsAbove)
          → reached_for group (start_placed at) (called_at super x.found) ≡ r
      reached_by_name r y x = ap (reached_for group (start_placed at)) (sym x.by_name ∙ y.is_that) ∙ y.reaches

      reached_there : (o : Option (Shape (List ℕ))) (r : Reached (InPackage Placed)) → Receives w o
          → (let calls = calls_together packages at in calls.reached (of_package home (OnSuper m)) o ≡ r) → IsFound r
          → card.reached l (callee_there g (of_package home (OnSuper m))) (option_as (shape_as (class_together packages))
          o) ≡ reached_as (code_at g) (offset_at g) r
      reached_there o r receives e is_found =
          let y = on_above o r e is_found in
          let x = selects_above y.callee_of y.is_that in
          ap (λ k. card.reached l k (option_as (shape_as (class_together packages)) o)) (callee_is x.number x.is_number)
          ∙ ap (λ t. card.reached_by l (dispatched t x.number)) tables_above
          ∙ alike_reached forms offsets packages is.linked alone at stand super above_one x.found (dispatched (tower l
          (class_together packages super)) x.number) x.alike r (reached_by_name r y x) is_found

      known_there : (o : Option (Shape (List ℕ))) (start : Start (InPackage Placed)) → Receives w o
          → (let calls = calls_together packages at in calls.reached (of_package home (OnSuper m)) o ≡ Within start)
          → IsOfGroup l (methods_together packages) start.code
      known_there o start receives e =
          let y = on_above o (Within start) e tt in
          let x = selects_above y.callee_of y.is_that in
          alike_known forms offsets packages is.linked alone at stand super above_one x.found (dispatched (tower l
          (class_together packages super)) x.number) x.alike start (reached_by_name (Within start) y x)

      words_there : (k : ℕ) → (let calls = calls_together packages at in calls.words (of_package home (OnSuper m))
          ≡ Some k) → card.words l (callee_there g (of_package home (OnSuper m))) ≡ Some k
      words_there k e = by (selected (joint group) w p.files above_one super) refl (ap (words_where true m) (sym above_is)
          ∙ (sym (ap (option_and_then (λ asker. words_for (joint group) w asker (OnSuper m))) files_p) ∙ e))
        where
          by : (o : Option Linked.Callee) → selected (joint group) w p.files above_one super ≡ o
              → words_where true m o ≡ Some k → card.words l (callee_there g (of_package home (OnSuper m))) ≡ Some k
          by None f h = absurd (cc)
          by (Some y) f h =
              let x = selects_above y f in
              ap (card.words l) (callee_is x.number x.is_number)
              ∙ ap (λ t. card.words_of l true (dispatched t x.number)) tables_above
              ∙ x.takes ∙ h

      super_agrees : CallAgrees packages at home (OnSuper m)
      super_agrees = record { words = words_there; reached = reached_there; known = known_there }

  -- a method of the superclass that code calls is called alike
  pub super_call_agrees : (home : ℕ) (p : Package) → slice_get packages home ≡ Some p → FindsAbove p → (m : MemberId)
      → is_called p (OnSuper m) ≡ true → CallAgrees packages at home (OnSuper m)
  super_call_agrees home p here finds m called =
      let a = alone home p here in
      let r = a.runs in
      let two = call_named p r.named (OnSuper m) called in
      by two.0 two.1
    where
      by : IsNamed (world p) (OnSuper m) → TakesWords (world p) (OnSuper m) → CallAgrees packages at home (OnSuper m)
      by (on_super c d super known own class_here supers super_is ordinary sought both) (super_words types sig) =
          super_agrees home p here m c d super known own class_here supers super_is ordinary both types sig sought
          (finds m c super called known supers)
