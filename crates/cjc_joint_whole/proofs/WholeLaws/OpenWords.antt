-- The words that a method takes which dispatch finds by the token of a class: those of its descriptor and its receiver,
-- whichever package the method is of.
use Rattle.std.proofs.Common.{◌≡◌, ℕ, ◌+◌, refl, sym, ap, ◌∙◌, Bool, true, false, List, [], ◌∷◌, Option, Some, None}
use Rattle.std.proofs.Common.{map, subst, ⊎_elim}
use Rattle.std.specs.Prelude.{option_map, slice_get, if◌then◌else◌}
use Rattle.cjc_bytes.specs.AccessFlags.{is_interface}
use Rattle.cjc_components.specs.ExportFile.{export_of}
use Rattle.cjc_components.specs.LowerNarrow.Rows.Package.{words_with}
use Rattle.cjc_components.specs.LowerNarrow.Rows.Resolved.{parameter_words}
use Rattle.cjc_components.specs.Methods.{method_offset}
use Rattle.cjc_components.specs.Package.{Package, world}
use Rattle.cjc_joint_proof.specs.JointPackages.{AreLinked, IsLinked, class_together, files_together, to_outside}
use Rattle.cjc_joint_proof.specs.JointPackages.{to_package}
use Rattle.cjc_joint_proof.specs.JointTowers.{GoesOn, loaded_together}
use Rattle.cjc_joint_proof.specs.Loading.{AllLead, group_of, member_of}
use Rattle.cjc_joint_proof.specs.Parts.{start_in}
use Rattle.cjc_joint_proof.proofs.ClassLaws.{exported, together_at}
use Rattle.cjc_joint_proof.proofs.ClimbLaws.{goes_on}
use Rattle.cjc_joint_proof.proofs.MeantLaws.{part_of}
use Rattle.cjc_joint_proof.proofs.PartLaws.{starts_same}
use Rattle.cjc_joint_theorem.proofs.OrderedLaws.Standing.{class_stands}
use Rattle.cjc_jvm_semantics.specs.Group.{is_of_group}
use Rattle.cjc_jvm_semantics.specs.OnePackage.{first_imported}
use Rattle.cjc_token_proof.proofs.TablesLaws.Above.{says_kinds}
use Rattle.cjc_token_proof.proofs.WrittenCalls.Facts.{Facts}
use Rattle.cjc_token_proof.proofs.WrittenCalls.Got.{got_no_code, holder}
use Rattle.cjc_token_proof.proofs.WrittenCalls.Held.{FormsLaw, OffsetsLaw}
use Rattle.cjc_token_proof.proofs.WrittenCalls.Ids.{own_ids}
use Rattle.cjc_token_proof.proofs.WrittenCalls.Known.{classes_stand}
use Rattle.cjc_token_proof.proofs.WrittenCalls.Towers.{line_is}
use Rattle.cjc_token_proof.proofs.WrittenCalls.Words.{added_begins, held_words}
use Rattle.cjc_token_proof.specs.Calls.Dispatching.{event}
use Rattle.cjc_token_proof.specs.CardSemantics.Bytecode.Machine.{Start}
use Rattle.cjc_token_proof.specs.CardSemantics.Machine.Calls.{argument_words, words_of}
use Rattle.cjc_token_proof.specs.CardSemantics.Machine.Dispatch.{At, Outward, dispatched_open, tower}
use Rattle.cjc_token_proof.specs.CardSemantics.Machine.Loaded.{Loaded}
use Rattle.cjc_token_proof.specs.CardSemantics.Machine.Methods.{Code, start_of}
use Rattle.cjc_token_proof.specs.Script.Sorts as sorts
use Rattle.cjc_token_proof.specs.Tables.Infos.{HasEntry}
use Rattle.cjc_token_proof.specs.Tables.Loading.{loaded}
use Rattle.cjc_token_proof.specs.WrittenCalls.Standing.{place}
use Rattle.cjc_tokens.proofs.Facts.{got-at, has-got_none, has-own_none, own-at}
use Rattle.cjc_tokens.proofs.Held.{here-has_slot, token-slot}
use Rattle.cjc_tokens.specs.Lines.{Declared, line_in, line_of}
use Rattle.cjc_tokens.specs.Members.{Signature, is_shown, signature_of, signatures}
use Rattle.cjc_tokens.specs.Slots.{got, has_slot, implementing, own, slots, taken_slots, token, with_new}
use Rattle.cjc_vtable.proofs.Calls.{token-some}
use Rattle.cjc_vtable.proofs.Given.{taken-has, with_new-slot}
use Rattle.cjc_vtable.proofs.SlotLaws.Meant.{open_token, package_token}
use Rattle.cjc_vtable.proofs.Worlds.{line_of-declared}
use Rattle.cjc_vtable.specs.Calls.{is_special}
use Rattle.cjc_vtable.specs.Laws.{TokensOnce, below, itself}
use Rattle.cjc_vtable.specs.Meant.{IsMeant}
use Rattle.cjc_world.proofs.Cycles.{class_named-name}
use Rattle.cjc_world.proofs.Upwards.{line_goes_up}
use Rattle.cjc_world.specs.Added.{added}
use Rattle.cjc_world.specs.Classes.{Class, class_named}
use Rattle.cjc_world.specs.Files.{Files}
use Rattle.cjc_world.specs.Lookup.{member_at, or_else}
use Rattle.cjc_world.specs.Supertypes.{Lists, foremost, line, supertypes, upwards}
use Rattle.cjc_world.specs.Upwards.{here}
use Rattle.cjc_world.specs.declared.found.Found.{Found}
use Rattle.cjc_joint_whole.specs.Selected.{OutsideClassesAgree, SelectTogether}
use Rattle.cjc_joint_whole.proofs.WholeLaws.ClimbingPackages.{climbing_packages}
use Rattle.cjc_joint_whole.proofs.WholeLaws.FixedNamed.{AloneLaws, begins, counts}
use Rattle.cjc_joint_whole.proofs.WholeLaws.OpenFinds.{special_parts}
use Rattle.cjc_joint_whole.proofs.WholeLaws.TokenMeans.{ImportsAreExposed}
use Rattle.cjc_joint_whole.proofs.WholeLaws.TokensDown.{tokens_go_down}

-- the words of a descriptor's event
event_words : (x : List ℕ) (s : Signature) (sig : sorts.Signature) → sorts.signature_of s.desc ≡ Some sig
    → option_map (argument_words true) (sorts.signature_of s.desc) ≡ Some (words_with true (event x s))
event_words x s sig e = ap (option_map (argument_words true)) e
    ∙ sym (ap (λ o. Some (1 + parameter_words o)) e)

same_words : (q : ℕ) (o : Option (Start Code)) → option_map (λ (m : Start Code). m.nargs) (option_map (start_in q) o)
    ≡ option_map (λ (m : Start Code). m.nargs) o
same_words q None = refl
same_words q (Some m) = refl

clash : {b : Bool} → b ≡ true → b ≡ false → ⊥
clash e g = let no : true ≡ false = sym e ∙ g in cc

module _ (forms : FormsLaw) (offsets : OffsetsLaw) (packages : List Package) (is : SelectTogether packages)
    (each : (q : ℕ) (p : Package) → slice_get packages q ≡ Some p → AloneLaws p)
    (exposed : (q : ℕ) (p : Package) → slice_get packages q ≡ Some p → ImportsAreExposed p)
    (outside : OutsideClassesAgree packages)
    (leads : (q : ℕ) (p : Package) → slice_get packages q ≡ Some p → AllLead (group_of packages) (member_of p)) where
  abbrev l : Loaded
  l = loaded_together packages

  abbrev group : List Files
  group = files_together packages

  linked : AreLinked packages
  linked = is.linked

  facts : (q : ℕ) (p : Package) → slice_get packages q ≡ Some p → Facts p
  facts q p it = let a = each q p it in a.facts

  module _ (s : Signature) (ordinary : is_special s ≡ false) (sig : sorts.Signature)
      (types : sorts.signature_of s.desc ≡ Some sig) where
    -- dispatch by the token finds what takes these words
    abbrev TakesAt : List ℕ → ℕ → Type 0
    TakesAt x t = words_of l true (dispatched_open (tower l (class_together packages x)) t)
        ≡ Some (words_with true (event x s))

    -- where the method of a package's world is imported, dispatch goes on at the first imported class
    record GoesFar (p : Package) (x : List ℕ) (t : ℕ) : Type 0 where
      foot : List ℕ
      alone : first_imported (line (world p) x) ≡ foot
      takes : TakesAt foot t

    abbrev FarAt : ℕ → Package → List ℕ → Type 0
    FarAt q p x = (t : ℕ) → token (slots (line_of (world p) x)) s ≡ Some t → (g : Found)
        → implementing (line_of (world p) x) s ≡ Some g → g.imported ≡ true → GoesFar p x t

    module _ (q : ℕ) (p : Package) (it : slice_get packages q ≡ Some p) where
      abbrev v : List Class
      v = world p

      its : Facts p
      its = facts q p it

      -- a method of the package itself takes them where the package is by itself
      held : (z : List ℕ) (x : List ℕ) (c : Class) → class_named v x ≡ Some c → is_interface c.flags ≡ false
          → (g : Found) → implementing (line_of v x) s ≡ Some g → g.imported ≡ false
          → words_of (loaded p) true (At 0 (method_offset p g)) ≡ Some (words_with true (event z s))
      held z x c known plain g nearest own_one =
          let k = its in
          let a = each q p it in
          let r = a.runs in
          let n = r.runnable in
          let j = r.joined in
          let ids = own_ids r.list p n.sound in
          let stand = classes_stand r.list p n.sound in
          sym (ap (λ b. words_of (loaded p) true (if b then Outward (event z s) else At 0 (method_offset p g))) own_one)
          ∙ held_words p k n.subtypes n.tokens j.exports (says_kinds r.list p n.sound) (place p)
          (begins forms offsets p a) (counts forms offsets p a)
          (λ f mine inside none. (let m = added_begins p r.words forms offsets n.ready n.methods ids stand f mine inside
          none in (m.0, m.1, m.3)))
          (got_no_code r.list p n.sound)
          (open_token v k.are_supertypes k.one_supertypes k.rules k.placed)
          (package_token v k.are_supertypes k.one_supertypes k.rules)
          (event z s) (special_parts s.name ordinary) sig types z g
          (λ here. holder p k s g here x c known plain nearest)

      -- ---- a class of the package

      module _ (x : List ℕ) (c : Class) (known : class_named v x ≡ Some c) (mine : c.is_imported ≡ false)
          (plain : is_interface c.flags ≡ false) where
        goes : GoesOn packages q p x
        goes = goes_on packages linked leads facts q p it x c known plain mine

        own_words : FarAt q p x → (t : ℕ) → token (slots (line_of v x)) s ≡ Some t → TakesAt x t
        own_words far t tok = by g.imported refl
          where
            means : IsMeant v x s t
            means = let k = its in
                open_token v k.are_supertypes k.one_supertypes k.rules k.placed x c known plain s t tok

            g : Found
            g = let m = means in m.method

            by : (b : Bool) → g.imported ≡ b → TakesAt x t
            by false own_one =
                let m = means in
                let o = goes in
                let on = o.on in
                ap (words_of l true) (on.own t m.method s m.by_token m.name own_one)
                ∙ ap (option_map (λ (y : Start Code). y.nargs)) (starts_same (loaded p) l q (part_of packages linked q p
                it) (method_offset p m.method))
                ∙ same_words q (start_of (loaded p) 0 (method_offset p m.method))
                ∙ held x x c known plain m.method m.nearest own_one
            by true import =
                let m = means in
                let o = goes in
                let on = o.on in
                let r = far t tok m.method m.nearest import in
                ap (words_of l true) (on.onward t m.method s m.by_token m.name import
                ∙ ap (λ y. dispatched_open (tower l (class_together packages y)) t) (sym o.first ∙ r.alone))
                ∙ r.takes

        -- what is imported there is so above
        module _ (super : List ℕ) (supers : c.supers ≡ super ∷ []) where
          line_above : line_of v x ≡ Declared c (added v c) (line_of v super)
          line_above = (let k = its in line_of-declared v k.are_supertypes k.one_supertypes k.rules x c known mine)
              ∙ ap (λ ss. Declared c (added v c) (line_in v (supertypes v ss))) supers

          module _ (g : Found) (nearest : implementing (line_of v x) s ≡ Some g) (import : g.imported ≡ true) where
            by_line : or_else (own is_shown s c) (or_else (got (added v c) s c) (implementing (line_of v super) s))
                ≡ Some g
            by_line = sym (ap (λ k. implementing k s) line_above) ∙ nearest

            of_class : (d : Found) (i : ℕ) → d ≡ member_at c i → d ≡ g → ⊥
            of_class d i at same = clash import (ap (λ (y : Found). y.imported) (sym same ∙ at) ∙ mine)

            no_own : own is_shown s c ≡ None
            no_own = first_none (own is_shown s c) refl by_line
              where
                first_none : (o : Option Found) → own is_shown s c ≡ o → or_else o (or_else (got (added v c) s c)
                    (implementing (line_of v super) s)) ≡ Some g → own is_shown s c ≡ None
                first_none None e h = e
                first_none (Some d) e h = let a = own-at is_shown s c d e in
                    let same : d ≡ g = cc in absurd (of_class d a.0 a.1 same)

            no_got : got (added v c) s c ≡ None
            no_got = next_none (got (added v c) s c) refl (sym (ap (λ o. or_else o (or_else (got (added v c) s c)
                (implementing (line_of v super) s))) no_own) ∙ by_line)
              where
                next_none : (o : Option Found) → got (added v c) s c ≡ o → or_else o (implementing (line_of v super) s)
                    ≡ Some g → got (added v c) s c ≡ None
                next_none None e h = e
                next_none (Some d) e h = let a = got-at (added v c) s c d e in
                    let same : d ≡ g = cc in absurd (of_class d a.0 a.1 same)

            nearest_above : implementing (line_of v super) s ≡ Some g
            nearest_above =
                sym (ap (λ o. or_else o (implementing (line_of v super) s)) no_got)
                ∙ sym (ap (λ o. or_else o (or_else (got (added v c) s c) (implementing (line_of v super) s))) no_own)
                ∙ by_line

            slot_above : (t : ℕ) → token (slots (line_of v x)) s ≡ Some t → has_slot (slots (line_of v super)) s ≡ true
            slot_above t tok =
                let old = taken_slots c (line_of v super) (slots (line_of v super)) in
                let has_it = here-has_slot (slots (Declared c (added v c) (line_of v super))) t s
                (ap (λ k. slice_get (slots k) t) (sym line_above) ∙ token-slot (slots (line_of v x)) s t tok) in
                ⊎_elim
                (λ front. ⊎_elim
                (λ taken. ⊎_elim (λ above. above) (λ e. absurd (clash e (has-own_none is_shown s c no_own)))
                (taken-has c (line_of v super) (slots (line_of v super)) s taken))
                (λ e. absurd (clash e (has-own_none is_shown s c no_own)))
                (with_new-slot old (signatures is_shown c.methods) s front))
                (λ e. absurd (clash e (has-got_none (added v c) s c no_got)))
                (with_new-slot (with_new old (signatures is_shown c.methods)) (map signature_of (added v c)) s has_it)

        far_own : (super : List ℕ) → c.supers ≡ super ∷ [] → (b : Class) → class_named v super ≡ Some b
            → FarAt q p super → FarAt q p x
        far_own super supers b super_is above t tok g nearest import =
            let k = its in
            let rules = k.rules in
            let u = token-some (slots (line_of v super)) s (slot_above super supers g nearest import t tok) in
            let once : TokensOnce v x super = k.tokens_once x super c b known plain super_is
            (below c known (subst (Lists super) (sym supers) foremost) itself) in
            let both : Some u.0 ≡ Some t = sym (once.inherited s u.0 u.1) ∙ tok in
            let same : u.0 ≡ t = cc in
            let r = above t (u.1 ∙ ap Some same) g (nearest_above super supers g nearest import) import in
            record {
              foot = r.foot;
              alone = ap first_imported (line_goes_up v rules.acyclic x super c known supers)
                  ∙ ap (λ y. if y then c.name else first_imported (line v super)) mine ∙ r.alone;
              takes = r.takes;
            }

      -- ---- an imported class

      module _ (x : List ℕ) (c : Class) (known : class_named v x ≡ Some c) (import : c.is_imported ≡ true) where
        far_itself : (t : ℕ) → TakesAt x t → GoesFar p x t
        far_itself t takes = record {
          foot = x;
          alone = ap first_imported (line_is p its x c known)
              ∙ ap (λ y. if y then c.name else first_imported (upwards (supertypes v c.supers))) import
              ∙ class_named-name v x c known;
          takes = takes;
        }

    -- ---- upwards

    -- the token of an imported class is that of the class in its package
    token_there : (q : ℕ) (p : Package) → slice_get packages q ≡ Some p → (x : List ℕ) (c : Class)
        → class_named (world p) x ≡ Some c → is_interface c.flags ≡ false → (r : ℕ) (e : Package)
        → slice_get packages r ≡ Some e → (k : Class) → class_named (world e) x ≡ Some k → is_interface k.flags ≡ false
        → (t : ℕ) → token (slots (line_of (world p) x)) s ≡ Some t → token (slots (line_of (world e) x)) s ≡ Some t
    token_there q p it x c known plain r e there k is_k kind t tok =
        let hs = class_stands group is.ordered q p.files (together_at packages linked q p it) x c known in
        tokens_go_down packages is facts exposed outside r e there x k is_k kind q p it x c hs.class known plain
        hs.named (here hs.named) s ordinary t tok

    of_own : (q : ℕ) (p : Package) → slice_get packages q ≡ Some p → (x : List ℕ) (c : Class)
        → class_named (world p) x ≡ Some c → c.is_imported ≡ false → is_interface c.flags ≡ false → (super : List ℕ)
        → c.supers ≡ super ∷ [] → (d : Class) → class_named (world p) super ≡ Some d → is_interface d.flags ≡ false
        → FarAt q p super → FarAt q p x
    of_own q p it x c known mine plain super supers d super_is ground above = far_own q p it x c known mine plain super
        supers d super_is above

    of_shared : (q : ℕ) (p : Package) → slice_get packages q ≡ Some p → (x : List ℕ) (c : Class)
        → class_named (world p) x ≡ Some c → c.is_imported ≡ true → is_interface c.flags ≡ false → (h : HasEntry p c)
        → (r : ℕ) (e : Package) → slice_get packages r ≡ Some e → h.tree ≡ export_of e → (k : Class)
        → class_named (world e) x ≡ Some k → k.is_imported ≡ false → is_interface k.flags ≡ false → FarAt r e x
        → FarAt q p x
    of_shared q p it x c known import plain h r e there same k is_k mine kind rest t tok g nearest far =
        far_itself q p it x c known import t (own_words r e there x k is_k mine kind rest t (token_there q p it x c
        known plain r e there k is_k kind t tok))

    of_outside : (q : ℕ) (p : Package) → slice_get packages q ≡ Some p → (x : List ℕ) (c : Class)
        → class_named (world p) x ≡ Some c → c.is_imported ≡ true → is_interface c.flags ≡ false → (h : HasEntry p c)
        → is_of_group group (let t = h.tree in t.name) ≡ false → FarAt q p x
    of_outside q p it x c known import plain h out t tok g nearest far =
        let o = outside q p it x c known plain (h, out) in
        far_itself q p it x c known import t (ap (words_of l true) (o.makes s ordinary t tok) ∙ event_words x s sig
        types)

    far_at : (q : ℕ) (p : Package) → slice_get packages q ≡ Some p → (x : List ℕ) (c : Class)
        → class_named (world p) x ≡ Some c → is_interface c.flags ≡ false → FarAt q p x
    far_at q p it x c known plain = climbing_packages packages linked facts FarAt of_own of_shared of_outside q p it x c
        known plain

    -- what a class finds by its token takes the words of the descriptor
    pub open_words : (q : ℕ) (p : Package) → slice_get packages q ≡ Some p → (x : List ℕ) (c : Class)
        → class_named (world p) x ≡ Some c → is_interface c.flags ≡ false → (t : ℕ)
        → token (slots (line_of (world p) x)) s ≡ Some t → TakesAt x t
    open_words q p it x c known plain t tok = by c.is_imported refl
      where
        linked_so : (h : HasEntry p c) → IsLinked packages q h.tree → TakesAt x t
        linked_so h (to_package r e before there same) =
            let o = exported packages linked q p it x c known h r e there same in
            let kind = sym o.kind ∙ plain in
            own_words r e there x o.class o.there o.own kind (far_at r e there x o.class o.there kind) t
            (token_there q p it x c known plain r e there o.class o.there kind t tok)
        linked_so h (to_outside out) =
            let o = outside q p it x c known plain (h, out) in
            ap (words_of l true) (o.makes s ordinary t tok) ∙ event_words x s sig types

        by : (b : Bool) → c.is_imported ≡ b → TakesAt x t
        by false mine = own_words q p it x c known mine plain (far_at q p it x c known plain) t tok
        by true import =
            let h = (let k = facts q p it in k.file x c known import) in
            linked_so h (linked.imports q h.file p h.tree (record { member = it; file = h.in_list }))
