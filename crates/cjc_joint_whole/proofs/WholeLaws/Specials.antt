-- 206 of a reached invokespecial of what is no constructor: a private method is of the class that holds the code, and
-- any other is named by a class above that one.
use Rattle.std.proofs.Common.{◌≡◌, ℕ, ◌+◌, ◌-◌, ◌&&◌, ◌||◌, Bool, true, false, List, Some, refl, sym}
use Rattle.std.proofs.Common.{ap}
use Rattle.std.proofs.Common.{subst, ◌∙◌, arith, length}
use Rattle.std.specs.Prelude.{Option, not, is_some, option_map, get_or, slice_get, if◌then◌else◌}
use Rattle.std.specs.Str.{bytes_eq}
use Rattle.std.proofs.lemmas.Option.{get_or_from_slice_get}
use Rattle.cjc_bytes.specs.AccessFlags.{acc_native, acc_strict, acc_synchronized, has, is_abstract, is_interface}
use Rattle.cjc_bytes.specs.AccessFlags.{is_private, is_protected, is_public, is_static}
use Rattle.cjc_bytes.specs.declared.fault.MemberId.{MemberId}
use Rattle.cjc_bytes.proofs.Bools.{or_left, true_not_false}
use Rattle.cjc_bytes.proofs.Lists.{bytes_true}
use Rattle.cjc_jvm_semantics.specs.Linked.{Method}
use Rattle.cjc_jvm_semantics.specs.OnePackage.{is_constructor, is_initialiser}
use Rattle.cjc_world.specs.ClassFile.declared.tree.ClassTree.{ClassTree}
use Rattle.cjc_world.specs.Access.{is_accessible}
use Rattle.cjc_world.specs.Classes.{Class, Member, all_classes, class_at, declared}
use Rattle.cjc_world.specs.Classes.{method_of_class, method_of_export}
use Rattle.cjc_world.specs.Files.{Files}
use Rattle.cjc_world.specs.Lookup.{find_method, member_at, selected}
use Rattle.cjc_world.specs.Subtype.{is_subtype, starts}
use Rattle.cjc_world.specs.Supertypes.{foremost, is_below}
use Rattle.cjc_world.specs.Upwards.{Below}
use Rattle.cjc_world.specs.declared.found.Found.{Found}
use Rattle.cjc_world.proofs.Cycles.{class_named-name}
use Rattle.cjc_world.proofs.UpwardLaws.Lines.{below_line, line_below, listed_below, method_found_above}
use Rattle.cjc_components.specs.Bytecode.declared.insn.JInsn.{JInsn}
use Rattle.cjc_components.specs.Bytecode.declared.insn.JOp.TheVariants as jop
use Rattle.cjc_vtable.specs.Fixpoint.Tables.{HasRow}
use Rattle.cjc_vtable.proofs.Filed.{IsFiled, filed, in_class_file, in_export_file}
use Rattle.cjc_shape_proof.specs.WorldProof.Calls.Solid.{IsSolid}
use Rattle.cjc_narrow_proof.specs.Laws.Unbroken.{IsInsnOf, KeepsNames}
use Rattle.cjc_narrow_proof.specs.Runs.Tables.{body_in}
use Rattle.cjc_narrow_proof.proofs.LawsLaws.Instructions.{method_there, op_there}
use Rattle.cjc_narrow_proof.proofs.LawsLaws.Own.{class_by_name}
use Rattle.cjc_token_proof.proofs.WorldProofOwn.{IsAt, mapped_at, own_at}
use Rattle.cjc_token_proof.proofs.WorldProofRules.{method_kept}
use Rattle.cjc_token_proof.proofs.WorldProofTypes.{below_type, receiver_class}
use Rattle.cjc_token_proof.specs.Subset.Flags.{has_two_accesses, is_unfit_method as is_unfit_flags}
use Rattle.cjc_token_proof.specs.Subset.Members as subset
use Rattle.cjc_token_proof.specs.Subset.Names.{is_bodiless, is_hidden, is_unfit_call, is_unfit_class, is_unfit_method}
use Rattle.cjc_token_proof.specs.Subset.Names.{is_unfit_super, names_unfit}
use Rattle.cjc_token_proof.specs.Types.declared.state.State.{State}
use Rattle.cjc_token_proof.specs.Types.Rules.{is_found_private, is_private_in, names_private, no_member}
use Rattle.cjc_joint_theorem.specs.Members.{Member as GroupMember}
use Rattle.cjc_joint_theorem.specs.Rules.{SpecialsFit}
use Rattle.cjc_joint_whole.specs.Whole.{IsMemberWith}
use Rattle.cjc_joint_whole.proofs.WholeLaws.Reached.{IsReached}
use Rattle.cjc_joint_whole.proofs.WholeLaws.Solid.{is_solid}

-- ---- tests

last_one : (c p u : Bool) → c ≡ false → p ≡ false → (true && not c && not p && u) ≡ false → u ≡ false
last_one false false u e f g = g
last_one true p u e f g = absurd cc
last_one false true u e f g = absurd cc

shown : (b : Bool) → not b ≡ false → b ≡ true
shown true e = refl
shown false e = absurd cc

first_of : (a b c : Bool) → (a || b || c) ≡ false → (a ≡ false) × (c ≡ false)
first_of false false c e = (refl, e)
first_of true b c e = absurd cc
first_of false true c e = absurd cc

-- 304: the flags of a method do not say both
accesses_off : (n y r o a b c d : Bool) → ((n || y || r || o || a) || b || c || d) ≡ false → o ≡ false
accesses_off false false false false a b c d e = refl
accesses_off false false false true a b c d e = absurd cc
accesses_off false false true o a b c d e = absurd cc
accesses_off false true r o a b c d e = absurd cc
accesses_off true y r o a b c d e = absurd cc

one_access : (interface : Bool) (flags : ℕ) (name : List ℕ) (code : Bool)
    → is_unfit_flags interface flags name code ≡ false → is_private flags ≡ true → is_public flags ≡ false
one_access interface flags name code e private = by (is_public flags) (is_private flags) (is_protected flags) refl
    private (accesses_off (has flags acc_native) (has flags acc_synchronized) (has flags acc_strict)
    (has_two_accesses flags) (is_abstract flags && (is_static flags || is_private flags)) (is_abstract flags
    && (is_constructor name || is_initialiser name)) (is_initialiser name && not (is_static flags)) (interface && code
    && not (is_initialiser name)) e)
  where
    by : (p q r : Bool) → is_public flags ≡ p → q ≡ true → ((p && q) || (p && r) || (q && r)) ≡ false
        → is_public flags ≡ false
    by false q r e f g = e
    by true true r e f g = absurd cc
    by true false r e f g = absurd cc

module _ {K : _} (p : GroupMember) (one : IsMemberWith K p) where
  abbrev files : Files
  files = p.files

  abbrev v : List Class
  v = all_classes files

  abbrev unbroken : KeepsNames one.list files one.codes one.settings
  unbroken = let whole = one.whole in whole.unbroken

  solid : IsSolid files
  solid = is_solid one.list files one.codes one.settings one.whole

  abbrev tested : Class → Member → subset.ResolvedMember
  tested d m = record { owner = d; flags = m.flags }

  pub tested_method : (d : Class) (place : ℕ) (m : Member) → class_at v d.is_imported d.number ≡ Some d
      → slice_get d.methods place ≡ Some m → subset.hit v false (Some (member_at d (length d.fields + place)))
      ≡ Some (tested d m)
  unfolding subset.hit
  tested_method d place m numbered there =
      let off : length d.fields + place - length d.fields ≡ place = omega arith in
      ap (λ o. subset.hit_of false (member_at d (length d.fields + place)) o) numbered
      ∙ ap (λ k. option_map (tested d) (slice_get d.methods k)) off ∙ ap (option_map (tested d)) there

  pub private_is : (id : MemberId) (d : Class) (f : Found) (at : IsAt false id.name id.desc d f)
      → find_method v id.class id.name id.desc ≡ Some f → class_at v d.is_imported d.number ≡ Some d
      → names_private v id ≡ is_private (let m = at.member in m.flags)
  unfolding names_private
  private_is id d f at found numbered =
      let i = at.place in
      let m = at.member in
      let off : length d.fields + i - length d.fields ≡ i = omega arith in
      ap (is_found_private v) found
      ∙ ap (λ (q : Found). is_private_in q (class_at v q.imported q.class)) at.is
      ∙ ap (is_private_in (member_at d (length d.fields + i))) numbered
      ∙ ap (λ k. is_private (get_or d.methods k no_member).flags) off
      ∙ ap (λ (q : Member). is_private q.flags) (get_or_from_slice_get d.methods i m no_member at.is_member)

  -- a private method of a class file is not public, and no export file has one
  not_public : (d : Class) → IsFiled files d → (i : ℕ) (m : Member) → slice_get d.methods i ≡ Some m
      → is_private m.flags ≡ true → is_public m.flags ≡ false
  not_public _ (in_class_file n t at) i m there private =
      let x = mapped_at method_of_class t.methods i m there in
      let y = x.0 in
      let flags : m.flags ≡ y.flags = ap (λ (u : Member). u.flags) x.2 in
      ap is_public flags ∙ one_access (is_interface t.flags) y.flags y.name (is_some y.code)
      (method_kept one.list files one.codes one.settings (let u = unbroken in u.checks) n t at i y x.1).2
      (sym (ap is_private flags) ∙ private)
  not_public _ (in_export_file n e at) i m there private =
      let x = mapped_at method_of_export e.methods i m there in
      absurd (true_not_false (is_private m.flags) private (ap (λ (u : Member). is_private u.flags) x.2
      ∙ one.no_private n i e x.0 at x.1))

  -- the class that holds the code of a private method that is named
  held : (class : ClassTree) (id : MemberId) (d : Class) (m : Member) → is_hidden v class id (tested d m) ≡ false
      → is_private m.flags ≡ true → is_public m.flags ≡ false → d.name ≡ class.name
  unfolding is_accessible
  held class id d m fit private closed = by (is_public m.flags) (is_private m.flags) d.is_imported
      (bytes_eq d.name class.name) refl private closed (shown (is_accessible v class.name id.class d m.flags) fit)
    where
      by : (a b c e : Bool) → bytes_eq d.name class.name ≡ e → b ≡ true → a ≡ false
          → (a || (if b then not c && e else not c || (is_protected m.flags && is_below v class.name d.name
          && (is_static m.flags || is_below v id.class class.name || is_below v class.name id.class)))) ≡ true
          → d.name ≡ class.name
      by false true c true same f g h = bytes_true d.name class.name same
      by false true true false same f g h = absurd cc
      by false true false false same f g h = absurd cc
      by false false c e same f g h = absurd cc
      by true b c e same f g h = absurd cc

  special_fits : (class : ClassTree) (id : MemberId) → IsInsnOf files one.codes class (jop.Call 0xB7 id)
      → is_constructor id.name ≡ false → (holder : List ℕ) → holder ≡ class.name
      → (names_private v id ≡ true → is_subtype v id.class holder ≡ true)
      × (names_private v id ≡ false → is_subtype v holder id.class ≡ true)
  unfolding names_unfit
  special_fits class id at plain_name holder is_holder =
      let u = unbroken in
      let s = solid in
      let order = s.ordered in
      let ok = op_there one.list files one.codes one.settings u class (jop.Call 0xB7 id) at in
      let there = method_there files class 0xB7 id ok.0 ok.1 in
      let f = there.1 in
      let found = there.3 in
      let above = method_found_above v order id.class id.name id.desc f found in
      let d = above.0 in
      let place = own_at false id.name id.desc d f above.3 in
      let m = place.member in
      let numbered = s.numbered d.name d above.2 in
      let hit : subset.hit v false (find_method v id.class id.name id.desc) ≡ Some (tested d m) =
      ap (subset.hit v false) found ∙ ap (λ g. subset.hit v false (Some g)) place.is
      ∙ tested_method d place.place m numbered place.is_member in
      let fit = first_of (is_hidden v class id (tested d m)) (is_unfit_call 0xB7 id.name m.flags)
      (is_unfit_class v class 0xB7 id (tested d m)) (ap (is_unfit_method v class 0xB7 id) (sym hit) ∙ ok.2) in
      let private = private_is id d f place found numbered in
      let of = at.of_package in
      let own = class_by_name files one.list u.listed u.world (let c = at.code in c.class) class
      of.is_class in
      let open_holder : starts 91 holder ≡ false = ap (starts 91) is_holder ∙ s.plain class.name
      (declared (let c = at.code in c.class) class) own in
      let open_named = s.plain id.class there.0 there.2 in (
        λ yes. (let flag : is_private m.flags ≡ true = sym private ∙ yes in
            let name = held class id d m fit.0 flag (not_public d (filed files d.name d above.2) place.place m
            place.is_member flag) in
            below_type v id.class holder open_holder (subst (λ x. Below v x holder)
            (sym (receiver_class id.class open_named)) (subst (Below v id.class) (name ∙ sym is_holder) above.1))),
        λ no. (let flag : is_private m.flags ≡ false = sym private ∙ no in
            let super = last_one (is_constructor id.name) (is_private m.flags) (is_unfit_super v class id) plain_name
            flag fit.1 in
            let low = shown (is_below v class.superclass id.class) (or_left (not (is_below v class.superclass id.class))
            (is_bodiless (subset.hit v false (selected v class.superclass id.name id.desc))) super) in
            let on = below_line v order.acyclic class.superclass id.class there.0 low there.2 in
            let way : Below v class.superclass id.class = subst (Below v class.superclass)
            (class_named-name v id.class there.0 there.2) (line_below v class.superclass there.0 on) in
            below_type v holder id.class open_named (subst (λ x. Below v x id.class) (sym (receiver_class holder
            open_holder)) (subst (λ x. Below v x id.class) (sym is_holder) (listed_below v class.name class.superclass
            id.class (declared (let c = at.code in c.class) class) own foremost way)))),
      )

  -- where each reached instruction is one of the package's code
  pub specials_fit : (m : Method) (rows : List (Option State)) → ((place : ℕ) (i : JInsn) (x : State)
      → slice_get m.insns place ≡ Some i → HasRow rows place x → IsReached files one.codes m i.op x)
      → SpecialsFit v (body_in files m) rows
  specials_fit m rows reached place i id x there row is plain =
      let r = reached place i x there row in
      let h = special_fits r.class id (subst (IsInsnOf files one.codes r.class) is r.insn) plain
      (let n = m.id in n.class) r.holder in
      record { private_one = h.0; above_holder = h.1 }
