-- The export file of a package lists of each class the public and protected methods that can be selected and that it
-- declares, or a class or an interface above it.
use Rattle.std.proofs.Common.{◌≡◌, ℕ, refl, sym, ap, subst, ◌∙◌, Bool, true, false, List}
use Rattle.std.proofs.Common.{Some, ⊎_elim, map}
use Rattle.std.specs.Prelude.{◌&&◌, ◌||◌, is_some, not, position, slice_get}
use Rattle.cjc_bytes.specs.AccessFlags.{is_interface, is_private, is_protected, is_public}
use Rattle.cjc_bytes.proofs.Bools.{true_or_false}
use Rattle.cjc_bytes.proofs.Gets.{mapped_at}
use Rattle.cjc_components.specs.ExportFile.{export_class, method_entry}
use Rattle.cjc_components.specs.Exports.{exported_classes}
use Rattle.cjc_components.specs.Package.{Package, world}
use Rattle.cjc_jvm_semantics.specs.Group.{is_exposed, is_open}
use Rattle.cjc_jvm_semantics.specs.OnePackage.{is_constructor, is_initialiser}
use Rattle.cjc_shape_proof.proofs.WritingLaws.Flags.{one_access}
use Rattle.cjc_shape_proof.proofs.WrittenLaws.FittingLaws.Rules as Rules
use Rattle.cjc_shape_proof.proofs.WrittenLaws.Subtypes.{keeps_subtypes}
use Rattle.cjc_theorem.proofs.AlikeLaws.VirtualCalls.Lines.{shown_token}
use Rattle.cjc_theorem.proofs.AlikeLaws.VirtualCalls.MethodKinds.{in_get}
use Rattle.cjc_theorem.proofs.AlikeLaws.VirtualCalls.Objects.{among_get}
use Rattle.cjc_theorem.proofs.AlikeLaws.VirtualCalls.Places.{has_place}
use Rattle.cjc_theorem.proofs.AlikeLaws.VirtualCalls.Words.{exports_have_one_access}
use Rattle.cjc_token_proof.proofs.TablesLaws.Clean.{has_named, kept as kept_class}
use Rattle.cjc_token_proof.proofs.TablesLaws.Fields.{first_here}
use Rattle.cjc_token_proof.proofs.WorldProofSelects.{called_by}
use Rattle.cjc_token_proof.proofs.WorldProofTypes.{below_type, receiver_class}
use Rattle.cjc_tokens.proofs.TokenLaws.Meant.{has_token}
use Rattle.cjc_tokens.specs.Lines.{line_of}
use Rattle.cjc_tokens.specs.Members.{In, Signature, is_shown, signature_of}
use Rattle.cjc_tokens.specs.Methods.{interfaces_at}
use Rattle.cjc_tokens.specs.Slots.{slots, token}
use Rattle.cjc_vtable.proofs.Asked.{named-among}
use Rattle.cjc_vtable.proofs.Filed.{IsFiled, filed, in_class_file, in_export_file}
use Rattle.cjc_vtable.proofs.SlotLaws.Asked.{asked_token}
use Rattle.cjc_vtable.specs.Calls.{is_special}
use Rattle.cjc_vtable.specs.Laws.{KeepsRules}
use Rattle.cjc_vtable.specs.Meant.{HaveOneAccess}
use Rattle.cjc_world.proofs.Settled.{AreSupertypes-one, supertypes-AreSupertypes}
use Rattle.cjc_world.proofs.UpwardLaws.Lines.{line_on, on_line}
use Rattle.cjc_world.specs.Classes.{Class, Member as WorldMember, class_named, imported, method_of_class}
use Rattle.cjc_world.specs.Interfaces.{known}
use Rattle.cjc_world.specs.Lookup.{is_called, is_selectable}
use Rattle.cjc_world.specs.Subtype.{is_subtype}
use Rattle.cjc_world.specs.Supertypes.{AreSupertypes, supertypes}
use Rattle.cjc_world.specs.Upwards.{Below, IsOrdered, OnLine}
use Rattle.cjc_joint_whole.specs.Told.{AboveAreListed, HasOpenEntry, IsDeclaredAbove}
use Rattle.cjc_joint_whole.proofs.WholeLaws.DeclaredAbove.{exported_named}
use Rattle.cjc_joint_whole.proofs.WholeLaws.Exposed.{stands_once}
use Rattle.cjc_joint_whole.proofs.WholeLaws.HiddenStands.{no_static}
use Rattle.cjc_joint_whole.proofs.WholeLaws.OwnKept.{IsKeptBy, no_initialiser}
use Rattle.cjc_joint_whole.proofs.WholeLaws.Shown.{SelectsBy, open_parts, parts_open, shows_at, shows_here}
use Rattle.cjc_joint_whole.proofs.WholeLaws.TokenMeans.{token_means}
use Rattle.cjc_joint_whole.proofs.WholeLaws.ToldFaces.{faces_list_above}
use Rattle.cjc_joint_whole.proofs.WholeLaws.VirtualEntries.{meant_are_listed}

shown_parts : (m : WorldMember) → is_shown m ≡ true → is_open m.flags ≡ true
shown_parts m e = let r = by (is_exposed m.flags) (is_selectable m.flags) (is_constructor m.name) (is_initialiser m.name)
    e in parts_open m.flags r.1 r.0
  where
    by : (x a b c : Bool) → (x && (a && not (b || c))) ≡ true → (x ≡ true) × (a ≡ true)
    by true true b c e = (refl, refl)
    by true false b c e = absurd cc
    by false a b c e = absurd cc

ordinary_name : (a b : Bool) → a ≡ false → b ≡ false → (a || b) ≡ false
ordinary_name false false e f = refl
ordinary_name true b e f = absurd cc
ordinary_name false true e f = absurd cc

one_only : (a b c : Bool) → ((a && c) || (a && b) || (c && b)) ≡ false → (a || b) ≡ true → c ≡ false
one_only a b false e f = refl
one_only true b true e f = absurd cc
one_only false true true e f = absurd cc
one_only false false true e f = absurd cc

module _ (p : Package) (kept : IsKeptBy p.files) where
  abbrev w : List Class
  w = world p

  order : IsOrdered w
  order = let s = kept.solid in s.ordered

  rules : KeepsRules w
  rules = let all = kept.keeps in all.rules

  are : (xs : List (List ℕ)) → AreSupertypes w xs (supertypes w xs)
  are = supertypes-AreSupertypes w order.acyclic

  by_rules : SelectsBy w
  by_rules = record { acyclic = order.acyclic; rules = rules; numbered = (let s = kept.solid in s.numbered) }

  -- no method is private beside public or protected (304)
  access : HaveOneAccess w
  access x c m named among shown = by c (filed p.files x c named) named among
    where
      by : (c : Class) → IsFiled p.files c → class_named w x ≡ Some c → In m c.methods → is_private m.flags ≡ false
      by _ (in_class_file n t file) named among =
          let k = in_get m (map method_of_class t.methods) among in
          let y = mapped_at method_of_class t.methods k.0 m k.1 in
          let u = y.0 in
          let one = one_access (is_interface t.flags) u.flags u.name (is_some u.code) (Rules.fit_method kept.list p.files
          kept.codes kept.settings kept.checks n t file k.0 u y.1) in
          ap (λ (v : WorldMember). is_private v.flags) (sym y.2) ∙ one_only (is_public u.flags) (is_protected u.flags)
          (is_private u.flags) one (ap (λ (v : WorldMember). is_exposed v.flags) y.2 ∙ shown)
      by _ (in_export_file n e file) named among = exports_have_one_access p kept.plain x (imported n e) m named refl among
          shown

  module _ (k : ℕ) (c : Class) (name desc : List ℕ) (at : slice_get (exported_classes p) k ≡ Some c)
      (ordinary : is_constructor name ≡ false) (d : IsDeclaredAbove w c.name name desc) where
    abbrev s : Signature
    s = record { name = name; desc = desc }

    abbrev z : Class
    z = d.class

    abbrev m : WorldMember
    m = d.method

    named_c : class_named w c.name ≡ Some c
    named_c = let o = exported_named p kept k c at in o.0

    own_c : c.is_imported ≡ false
    own_c = let o = exported_named p kept k c at in o.1

    start : is_initialiser m.name ≡ false
    start = no_initialiser p.files kept z.name z d.place m d.named d.there (no_static m.flags (open_parts m.flags
        d.opened).0)

    plain : is_special s ≡ false
    plain = ordinary_name (is_constructor name) (is_initialiser name) ordinary (ap is_initialiser (sym d.has_name)
        ∙ start)

    signed : signature_of m ≡ s
    signed = ap (λ n. pair n m.desc) d.has_name ∙ ap (pair name) d.has_desc
      where
        pair : List ℕ → List ℕ → Signature
        pair n t = record { name = n; desc = t }

    -- 202: it is the only one of its name and descriptor there
    once : position (λ (n : WorldMember). is_called name desc n) z.methods ≡ Some d.place
    once =
        let its = kept_class kept.list p.files kept.sound z (has_named w z.name z d.named) in
        first_here (λ (n : WorldMember). is_called name desc n) z.methods d.place m d.there (called_by name desc m
        d.has_name d.has_desc) (stands_once z.methods d.place m name desc d.has_name d.has_desc (its.methods d.place m
        d.there))

    -- ---- of a class

    module _ (ground : is_interface c.flags ≡ false) where
      -- it has a token
      of_line : is_interface z.flags ≡ false → (t : ℕ) × (token (slots (line_of w c.name)) s ≡ Some t)
      of_line flat =
          let on : OnLine w c.name z = on_line w order c.name z.name c z d.below named_c ground d.named flat in
          let h = shows_here w by_rules s plain z.name z d.named d.place m d.there (called_by name desc m d.has_name
          d.has_desc) once d.opened in
          let a = shows_at w by_rules s plain z.name m.flags h in
          shown_token w are (AreSupertypes-one w) rules c.name c named_c ground s (record {
            class = a.class;
            on = line_on w c.name z a.class on a.on;
            method = a.method;
            among = a.among;
            shown = a.shown;
            one = a.one;
            is_first = λ own. a.is_first;
          })

      of_face : is_interface z.flags ≡ true → (t : ℕ) × (token (slots (line_of w c.name)) s ≡ Some t)
      of_face it =
          let solid = kept.solid in
          let i = has_place p.files kept.read (has_token w) z.name z d.named it d.place m d.there start in
          let sub : is_subtype w c.name z.name ≡ true = below_type w c.name z.name (solid.plain z.name z d.named) (subst
          (λ y. Below w y z.name) (sym (receiver_class c.name (solid.plain c.name c named_c))) d.below) in
          let subtypes = keeps_subtypes w order solid.plain in
          let j = among_get z (known (interfaces_at w c)) (named-among (known (interfaces_at w c)) z.name z
          (subtypes.implements c.name z.name c z named_c ground d.named it sub)) in
          asked_token w are (AreSupertypes-one w) rules access (let all = kept.keeps in all.interfaces) c.name c named_c
          own_c ground j.0 z j.1 i.0 s (i.1 ∙ ap Some signed)

      of_class : HasOpenEntry (let x = export_class p c in x.methods) name desc
      of_class =
          let t = ⊎_elim of_face of_line (true_or_false (is_interface z.flags)) in
          let means = token_means p order kept.exposed c.name c named_c ground s plain t.0 t.1 in
          let o = means.shown_one in
          let n = o.member in
          let r = meant_are_listed kept.list p kept.codes kept.settings kept.sound kept.checks order rules k t.0 c
          means.found n at ground means.there o.meant (open_parts (let q = n in q.flags) (shown_parts n o.shown)).1 in
          record {
            place = r.0;
            entry = method_entry t.0 n;
            there = r.1;
            has_name = ap (λ (u : Signature). u.name) o.one;
            has_desc = ap (λ (u : Signature). u.desc) o.one;
            opened = shown_parts n o.shown;
          }

  pub above_are_listed : AboveAreListed p
  above_are_listed k c name desc at ordinary d kind = ⊎_elim (λ it. faces_list_above p kept k c name desc at it
      ordinary d (kind it)) (λ ground. of_class k c name desc at ordinary d ground) (true_or_false (is_interface c.flags))
