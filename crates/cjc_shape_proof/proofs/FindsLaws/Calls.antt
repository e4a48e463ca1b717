-- The calls of a method of a package that breaks no rule, whichever of its methods are in int mode.
use Rattle.std.proofs.Common.{◌≡◌, ℕ, ◌+◌, ◌-◌, ◌<◌, ◌^◌, refl, sym, ap, subst, ◌∙◌, arith, Bool, true, false, List}
use Rattle.std.proofs.Common.{length, inl, inr, ⊎_elim}
use Rattle.std.specs.Prelude.{not, ◌&&◌, ◌||◌, ◌⊎◌, Option, Some, None, option_and_then, option_map, get_or, slice_get}
use Rattle.std.specs.Prelude.{if◌then◌else◌}
use Rattle.std.specs.List.{list_all, list_any}
use Rattle.std.proofs.lemmas.Option.{get_or_from_slice_get}
use Rattle.cjc_bytes.specs.AccessFlags.{is_interface, is_private, is_static}
use Rattle.cjc_bytes.specs.Descriptor.{Parts}
use Rattle.cjc_bytes.specs.Spots.{desc_of}
use Rattle.cjc_bytes.specs.declared.fault.MemberId.{MemberId}
use Rattle.cjc_bytes.specs.declared.settings.Settings.{Settings}
use Rattle.cjc_bytes.proofs.Bools.{bool_middle, true_or_false, true_not_false, or_right}
use Rattle.cjc_classes.specs.JvmSemantics.Linked.{Callee, Method}
use Rattle.cjc_classes.specs.JvmSemantics.OnePackage.{ResolvedMember, callee_at, interface_callee, is_constructor}
use Rattle.cjc_classes.specs.JvmSemantics.OnePackage.{is_initialiser, method_hit, first_super, select_in}
use Rattle.cjc_classes.specs.JvmSemantics.OnePackage.{selected_from}
use Rattle.cjc_check_proof.specs.WorldProof.Calls.Solid.{HasCode, IsSolid}
use Rattle.cjc_check_proof.specs.WorldProof.Calls.Targets.{IsReceiver, IsTarget, abroad, inside}
use Rattle.cjc_check_proof.proofs.WorldProofOwn.{IsAt, hit_is, own_at}
use Rattle.cjc_check_proof.proofs.WorldProofSelects.{is_selected, on_interface, on_object}
use Rattle.cjc_check_proof.proofs.WorldProofSpecials.{above_callee, itself_callee}
use Rattle.cjc_check_proof.proofs.WorldProofTypes.{below_type, type_below, receiver_class as receiver_plain}
use Rattle.cjc_world.specs.ClassFile.declared.tree.ClassTree.{ClassTree}
use Rattle.cjc_world.specs.ClassFile.declared.tree.MethodTree.{MethodTree}
use Rattle.cjc_components.specs.Bytecode.declared.insn.JOp.TheVariants as jop
use Rattle.cjc_components.specs.Bytecode.declared.method_code.MethodCode.{MethodCode}
use Rattle.cjc_shape_proof.specs.Finds.{IsNamedMethod, IsReceiverFound, IsStaticFound, IsUsable}
use Rattle.cjc_shape_proof.specs.Whole.{Accepts}
use Rattle.cjc_shape_proof.proofs.FindsLaws.Callees.{result_there}
use Rattle.cjc_shape_proof.proofs.FindsLaws.Descs.{member_desc, parts_are}
use Rattle.cjc_shape_proof.proofs.FindsLaws.Receivers.{named_of, receiver_of}
use Rattle.cjc_narrow_proof.specs.Laws.Calls.{CallFits}
use Rattle.cjc_narrow_proof.proofs.LawsLaws.Calls.{call_fits}
use Rattle.cjc_narrow_proof.specs.Laws.Unbroken.{AreSpelt, IsInsnOf, KeepsNames}
use Rattle.cjc_narrow_proof.proofs.LawsLaws.Handlers.{class_there}
use Rattle.cjc_narrow_proof.proofs.LawsLaws.Instructions.{method_there, op_fit, op_there}
use Rattle.cjc_narrow_proof.proofs.LawsLaws.Own.{class_by_name, own_kept}
use Rattle.cjc_narrow_proof.specs.Runs.Calls.{above_holder, by_interface, itself, on_class}
use Rattle.cjc_narrow_proof.specs.NCode.ByLabel.{Named}
use Rattle.cjc_narrow_proof.specs.NCode.declared.narrow.NMethod.{NMethod}
use Rattle.cjc_narrow_proof.specs.Script.Sorts.{Shape, shape_name}
use Rattle.cjc_narrow_proof.specs.Selection.Relation.{IsMadeOf}
use Rattle.cjc_check_proof.specs.WorldProof.Files.{AreReadFiles}
use Rattle.cjc_classes.specs.Narrow.Rows.Package.{named}
use Rattle.cjc_classes.specs.Subset.Names.{is_bodiless, is_hidden, is_name_missing, is_unfit_call, is_unfit_class}
use Rattle.cjc_classes.specs.Subset.Names.{is_unfit_method, is_unfit_super, is_unfit_virtual, names_missing}
use Rattle.cjc_classes.specs.Subset.Names.{names_unfit}
use Rattle.cjc_classes.specs.Subset.Members as subset
use Rattle.cjc_classes.specs.Subset.Types.{is_unsupported_desc, is_unsupported_name, names_unsupported}
use Rattle.cjc_narrow_proof.specs.Tables.Kinds.{is_one_of}
use Rattle.cjc_classes.specs.Types.declared.cell.Cell.{Cell}
use Rattle.cjc_classes.specs.Types.Flow.{Body}
use Rattle.cjc_classes.specs.Types.Rules.{is_found_private, is_private_in, names_private, no_member}
use Rattle.cjc_classes.specs.Types.Rules.{receiver_class}
use Rattle.cjc_world.specs.Upwards.{Below}
use Rattle.cjc_world.proofs.UpwardLaws.Lines.{below_abroad, below_on, method_found_above, own_found}
use Rattle.cjc_world.specs.declared.found.Found.{Found}
use Rattle.cjc_world.specs.declared.image.StaticImage.{StaticImage}
use Rattle.cjc_world.specs.Classes.{Class, Member, all_classes, class_at, class_named, declared}
use Rattle.cjc_world.specs.Files.{Files}
use Rattle.cjc_world.specs.Lookup.{find_method, is_selectable, member_at, object, receiver, selected}
use Rattle.cjc_world.specs.Supertypes.{is_below}
use Rattle.cjc_world.specs.Rules.{is_desc_missing, is_missing, lists_missing}
use Rattle.cjc_world.specs.Subtype.{is_subtype}

left_off : (a b : Bool) → b ≡ true → (a && b) ≡ false → a ≡ false
left_off true true e f = absurd cc
left_off false b e f = refl
left_off true false e f = absurd cc

abbrev named_hit : Class → Member → ResolvedMember
named_hit c m = record { owner = c; flags = m.flags }

abbrev tested_hit : Class → Member → subset.ResolvedMember
tested_hit c m = record { owner = c; flags = m.flags }

abbrev as_tested : ResolvedMember → subset.ResolvedMember
as_tested h = record { owner = h.owner; flags = h.flags }

-- what a look-up tells, on both sides
same_hit : (w : List Class) (f : Found) (d : Class) (m : Member)
    → method_hit w f ≡ Some (record { owner = d; flags = m.flags }) → subset.hit w false (Some f)
    ≡ Some (record { owner = d; flags = m.flags })
unfolding subset.hit
same_hit w f d m e = by (class_at w f.imported f.class) e
  where
    go : (c : Class) (o : Option Member) → option_map (named_hit c) o ≡ Some (named_hit d m)
        → option_map (tested_hit c) o ≡ Some (tested_hit d m)
    go c None e = absurd cc
    go c (Some k) e = let is : named_hit c k ≡ named_hit d m = cc in ap (λ h. Some (as_tested h)) is

    by : (o : Option Class)
        → option_and_then (λ c. option_map (named_hit c) (slice_get c.methods (f.member - length c.fields))) o
        ≡ Some (named_hit d m) → subset.hit_of false f o ≡ Some (tested_hit d m)
    by None e = absurd cc
    by (Some c) e = go c (slice_get c.methods (f.member - length c.fields)) e

-- What holds of the methods that a call may reach, where it follows from what is known of them.
target_as : {files : Files} {id : MemberId} {P Q : ClassTree → MethodTree → Type 0} {callee : Callee}
    → ((t : ClassTree) (k : MethodTree) → P t k → Q t k) → IsTarget files id P callee → IsTarget files id Q callee
target_as f (inside code holds) = inside code (f code.class code.method holds)
target_as f (abroad e) = abroad e

module _ (list : List ℕ) (files : Files) (codes : List MethodCode) (settings : Settings) (is : KeepsNames list files
    codes settings) (spelt : AreSpelt files) (read : AreReadFiles files) (solid : IsSolid files)
    (root : IsReceiver (all_classes files) object) (image : StaticImage) (written : Method → NMethod) where
  abbrev w : List Class
  w = all_classes files

  abbrev l : Named
  l = named files image written

  -- What is known of a call of a method by name.
  pub record IsNamedCall (class : ClassTree) (op : ℕ) (id : MemberId) : Type 0 where
    pub owner : Class
    pub place : Found
    pub found : find_method w id.class id.name id.desc ≡ Some place
    pub at : IsAt false id.name id.desc owner place
    pub below : Below w id.class owner.name
    pub named : class_named w owner.name ≡ Some owner
    pub callee : IsNamedMethod files id
    pub hit_is_owner : (let c = callee in let h = c.hit in h.owner) ≡ owner
    pub place_is : (let c = callee in c.place) ≡ place
    pub fits : CallFits op id.name (let m = at.member in m.flags)
    pub fit_class : is_unfit_class w class op id (record { owner = owner; flags = (let m = at.member in m.flags) })
        ≡ false

  middle : (a b c : Bool) → (a || b || c) ≡ false → c ≡ false
  middle true b c e = absurd cc
  middle false true c e = absurd cc
  middle false false c e = e

  pub named_call : (class : ClassTree) (op : ℕ) (id : MemberId) → IsInsnOf files codes class (jop.Call op id)
      → IsNamedCall class op id
  unfolding names_missing names_unfit names_unsupported subset.hit
  named_call class op id at =
      let ok = op_there list files codes settings is class (jop.Call op id) at in
      let there = method_there files class op id ok.0 ok.1 in
      let f = there.1 in
      let found = there.3 in
      let above = method_found_above w solid.ordered id.class id.name id.desc f found in
      let d = above.0 in
      let place = own_at false id.name id.desc d f above.3 in
      let m = place.member in
      let numbered = solid.numbered d.name d above.2 in
      let hit : method_hit w f ≡ Some (record { owner = d; flags = m.flags }) = ap (method_hit w) place.is
      ∙ hit_is w d place.place m numbered place.is_member in
      let fit = sym (ap (is_unfit_method w class op id) (tested f d m found hit)) ∙ ok.2 in
      let fits = call_fits op id.name m.flags (bool_middle (is_hidden w class id (tested_hit d m)) (is_unfit_call op
      id.name m.flags) (is_unfit_class w class op id (tested_hit d m)) fit) in
      let desc = member_desc files read d above.2 place.place m place.is_member in
      let short : length id.desc < 2 ^ 32 = subst (λ v. length v < 2 ^ 32) place.has_desc desc.1 in
      let parsed = subst (λ v. (q : Parts) × (desc_of v ≡ Some q) × (q.is_method ≡ true)) place.has_desc desc.0 in
      let unsupported = (op_fit list files codes settings is class (jop.Call op id) at).0 in
      let open_name = solid.plain id.class there.0 there.2 in
      let missing = or_right (is_name_missing w id.class) (is_desc_missing w id.desc) ok.0 in
      record {
        owner = d;
        place = f;
        found = found;
        at = place;
        below = above.1;
        named = above.2;
        callee = record {
          place = f;
          hit = record { owner = d; flags = m.flags };
          found = found;
          is_hit = hit;
          again = own_found w solid.ordered d id.name id.desc f above.2 above.3;
          above = below_type w id.class d.name (solid.plain d.name d above.2) (subst (λ x. Below w x d.name)
              (sym (receiver_plain id.class open_name)) above.1);
          no_initialiser = fits.no_initialiser;
          desc = record {
            types = parsed.0;
            short = short;
            is_desc = parsed.1;
            of_method = parsed.2;
            supported = or_right (is_unsupported_name id.class) (is_unsupported_desc id.desc) unsupported;
          };
          result = result_there w id.desc short (parts_are id.desc parsed.0 short parsed.1) missing;
        };
        hit_is_owner = refl;
        place_is = refl;
        fits = fits;
        fit_class = middle (is_hidden w class id (tested_hit d m)) (is_unfit_call op id.name m.flags)
            (is_unfit_class w class op id (tested_hit d m)) fit;
      }
    where
      tested : (f : Found) (d : Class) (m : Member) → find_method w id.class id.name id.desc ≡ Some f
          → method_hit w f ≡ Some (record { owner = d; flags = m.flags })
          → subset.hit w false (find_method w id.class id.name id.desc) ≡ Some (record { owner = d; flags = m.flags })
      tested f d m e h = ap (subset.hit w false) e ∙ same_hit w f d m h

  -- 301 of a method that code names
  pub called_usable : (class : ClassTree) (op : ℕ) (id : MemberId) → IsInsnOf files codes class (jop.Call op id)
      → IsUsable true id.desc
  called_usable class op id at = let c = named_call class op id at in let k = c.callee in k.desc

  -- ---- static calls

  pub static_call : (class : ClassTree) (id : MemberId) → IsInsnOf files codes class (jop.Call 0xB8 id)
      → IsStaticFound files id
  unfolding named_call
  static_call class id at =
      let c = named_call class 0xB8 id at in
      let static = (let f = c.fits in f.of_class) refl in
      let to = itself_callee files solid (let o = c.owner in o.name) id c.owner c.place c.at c.named (inl static) in
      record {
        method = c.callee;
        is_static_one = static;
        no_constructor = (let f = c.fits in f.no_constructor) refl;
        callee = to.0;
        reaches = to.1;
        target = target_as (λ t k h. h.0 ∙ static) to.2;
      }

  -- ---- calls on a receiver

  -- the class that a type is of, and what stands there
  known_receiver : (kind : Shape (List ℕ)) → IsMadeOf l kind → IsReceiver w (receiver (shape_name kind))
  known_receiver kind made = receiver_of files image written solid root kind made

  known_below : (cls : List ℕ) (c : Class) → class_named w cls ≡ Some c
      → (names : List (List ℕ)) (kind : Shape (List ℕ)) → list_all (λ name. is_subtype w name cls) names ≡ true
      → is_one_of l names kind ≡ true → (is_subtype w (shape_name kind) cls ≡ true)
      × Below w (receiver (shape_name kind)) cls
  known_below cls c there names kind all one =
      let sub = named_of files image written solid root cls names kind all one in
      (sub, type_below w (shape_name kind) cls (solid.plain cls c there) sub)

  -- the class that an instruction names
  class_of_call : (class : ClassTree) (op : ℕ) (id : MemberId) → IsInsnOf files codes class (jop.Call op id)
      → (c : Class) × (class_named w id.class ≡ Some c)
  class_of_call class op id at = let ok = op_there list files codes settings is class (jop.Call op id) at in let there =
      method_there files class op id ok.0 ok.1 in (there.0, there.2)

  pub virtual_call : (b : Body) (stack : List Cell) (holder : List ℕ) (class : ClassTree) (id : MemberId)
      → IsInsnOf files codes class (jop.Call 0xB6 id) → Accepts files b 0xB6 id stack
      → IsReceiverFound files l holder stack 0xB6 id
  unfolding named_call
  virtual_call b stack holder class id at accepts_one =
      let c = named_call class 0xB6 id at in
      let f = c.fits in
      let p = c.at in
      let m = p.member in
      let d = c.owner in
      let wanted = f.selectable refl refl in
      let there = class_of_call class 0xB6 id at in
      record {
        method = c.callee;
        class = id.class;
        choice = λ type. selected_from files w (select_in w) type id;
        form = on_class (f.no_constructor refl) wanted;
        choices = λ names on kind one made.
            (let r = known_receiver kind made in
            let sub = known_below id.class there.0 there.1 names kind (accepts_one names on) one in
            let below = below_on w (receiver (shape_name kind)) id.class d.name sub.1 c.below in
            let s = is_selected files solid (receiver (shape_name kind)) r id f.no_initialiser d p.place m below c.named
            p.is_member p.has_name p.has_desc wanted (λ interface. far there.0 there.1 d m c.named interface
            c.fit_class r sub.1) in
            let to = on_object files solid (shape_name kind) r id s in
            record {
              is_of = sub.0;
              callee = to.0;
              chooses = to.1;
              target = to.2;
            });
      }
    where
      -- 206: what is found in an interface is not called on an imported class
      far : (c : Class) → class_named w id.class ≡ Some c → (d : Class) (m : Member) → class_named w d.name ≡ Some d
          → is_interface d.flags ≡ true → is_unfit_class w class 0xB6 id (record { owner = d; flags = m.flags }) ≡ false
          → {x : List ℕ} (r : IsReceiver w x) → Below w x id.class → (let k = r.class in k.is_imported) ≡ false
      far c there d m named interface fit r way = by (true_or_false (let k = r.class in k.is_imported))
        where
          imported_off : c.is_imported ≡ false
          imported_off = left_off c.is_imported (is_interface d.flags) interface
              (ap (λ o. is_unfit_virtual o (record { owner = d; flags = m.flags })) (sym there) ∙ fit)

          by : ((let k = r.class in k.is_imported) ≡ true) ⊎ ((let k = r.class in k.is_imported) ≡ false)
              → (let k = r.class in k.is_imported) ≡ false
          by (inr own) = own
          by (inl imp) = absurd (true_not_false c.is_imported (below_abroad w solid.ordered _ id.class r.class c way
              r.named imp there) imported_off)

  pub interface_call : (b : Body) (stack : List Cell) (holder : List ℕ) (class : ClassTree) (id : MemberId)
      → IsInsnOf files codes class (jop.Call 0xB9 id) → Accepts files b 0xB9 id stack
      → IsReceiverFound files l holder stack 0xB9 id
  unfolding named_call
  interface_call b stack holder class id at accepts_one =
      let c = named_call class 0xB9 id at in
      let f = c.fits in
      let p = c.at in
      let m = p.member in
      let d = c.owner in
      let wanted = f.selectable refl refl in
      let there = class_of_call class 0xB9 id at in
      let interface = is_true (is_interface d.flags) c.fit_class in
      record {
        method = c.callee;
        class = id.class;
        choice = λ type. interface_callee files w (select_in w) d.name type id (class_named w (receiver type));
        form = by_interface (f.no_constructor refl) (ap (λ b. b && is_selectable m.flags) interface ∙ wanted);
        choices = λ names on kind one made.
            (let r = known_receiver kind made in
            let sub = known_below id.class there.0 there.1 names kind (accepts_one names on) one in
            let below = below_on w (receiver (shape_name kind)) id.class d.name sub.1 c.below in
            let to = on_interface files solid (shape_name kind) d.name r id (λ own. is_selected files solid
            (receiver (shape_name kind)) r id f.no_initialiser d p.place m below c.named p.is_member p.has_name
            p.has_desc wanted (λ i. own)) in
            record {
              is_of = sub.0;
              callee = to.0;
              chooses = to.1;
              target = to.2;
            });
      }
    where
      is_true : (b : Bool) → not b ≡ false → b ≡ true
      is_true true e = refl
      is_true false e = absurd cc

  -- ---- invokespecial

  private_is : (id : MemberId) (d : Class) (f : Found) (at : IsAt false id.name id.desc d f)
      → find_method w id.class id.name id.desc ≡ Some f → class_at w d.is_imported d.number ≡ Some d
      → names_private w id ≡ is_private (let m = at.member in m.flags)
  unfolding names_private
  private_is id d f at found numbered =
      let i = at.place in
      let m = at.member in
      let off : length d.fields + i - length d.fields ≡ i = omega arith in
      ap (is_found_private w) found
      ∙ ap (λ (q : Found). is_private_in q (class_at w q.imported q.class)) at.is
      ∙ ap (is_private_in (member_at d (length d.fields + i))) numbered
      ∙ ap (λ k. is_private (get_or d.methods k no_member).flags) off
      ∙ ap (λ (q : Member). is_private q.flags) (get_or_from_slice_get d.methods i m no_member at.is_member)

  receiver_itself : (b : Body) (id : MemberId) → (is_constructor id.name || names_private w id) ≡ true
      → receiver_class w b 0xB7 id ≡ id.class
  receiver_itself b id e = by (is_constructor id.name) (names_private w id) e
    where
      by : (c p : Bool) → (c || p) ≡ true → (if true && not c && not p then b.class else id.class) ≡ id.class
      by true p e = refl
      by false true e = refl
      by false false e = absurd cc

  receiver_above : (b : Body) (id : MemberId) → (is_constructor id.name || names_private w id) ≡ false
      → receiver_class w b 0xB7 id ≡ b.class
  receiver_above b id e = by (is_constructor id.name) (names_private w id) e
    where
      by : (c p : Bool) → (c || p) ≡ false → (if true && not c && not p then b.class else id.class) ≡ b.class
      by false false e = refl
      by true p e = absurd cc
      by false true e = absurd cc

  either : (c p : Bool) → (c || p) ≡ true → (p ≡ true) ⊎ (c ≡ true)
  either true p e = inr refl
  either false p e = inl e

  pub itself_call : (b : Body) (stack : List Cell) (holder : List ℕ) (class : ClassTree) (id : MemberId)
      → IsInsnOf files codes class (jop.Call 0xB7 id) → Accepts files b 0xB7 id stack → (c : IsNamedCall class 0xB7 id)
      → (let k = c.callee in let h = k.hit in h) ≡ record {
        owner = c.owner;
        flags = (let p = c.at in let m = p.member
            in m.flags);
      }
      → (is_constructor id.name || is_private (let p = c.at in let m = p.member in m.flags)) ≡ true
      → IsReceiverFound files l holder stack 0xB7 id
  itself_call b stack holder class id at accepts_one c same special =
      let f = c.fits in
      let p = c.at in
      let m = p.member in
      let d = c.owner in
      let there = class_of_call class 0xB7 id at in
      let static = f.on_object refl in
      let to = itself_callee files solid d.name id d c.place p c.named
      (inr (either (is_constructor id.name) (is_private m.flags) special)) in
      let private = private_is id d c.place p c.found (solid.numbered d.name d c.named) in
      let rc = receiver_itself b id (ap (λ x. is_constructor id.name || x) private ∙ special) in
      let k = c.callee in
      record {
        method = k;
        class = id.class;
        choice = λ type. (let h = k.hit in let owner = h.owner in callee_at files owner.name id k.place);
        form = itself (ap (λ (h : ResolvedMember). is_static h.flags) same
            ∙ static) (ap (λ (h : ResolvedMember). is_constructor id.name || is_private h.flags) same ∙ special);
        choices = λ names on kind one made.
            (let sub = known_below id.class there.0 there.1 names kind
            (ap (λ cls. list_all (λ name. is_subtype w name cls) names) (sym rc) ∙ accepts_one names on) one in
            let below = below_on w (receiver (shape_name kind)) id.class d.name sub.1 c.below in
            record {
              is_of = sub.0;
              callee = to.0;
              chooses = ap (λ (h : ResolvedMember). let owner = h.owner in callee_at files owner.name id k.place) same
                  ∙ ap (callee_at files d.name id) c.place_is ∙ to.1;
              target = target_as (λ t q h. (
                h.0 ∙ static,
                subst (λ n. Below w (receiver (shape_name kind)) n)
                    (sym h.1) below,
              )) to.2;
            });
      }

  -- 206: what is selected above the class is no abstract method
  pub code_above : (x name desc : List ℕ) → is_bodiless (subset.hit w false (selected w x name desc)) ≡ false
      → HasCode w x name desc
  unfolding subset.hit
  code_above x name desc e = by (selected w x name desc) refl e
    where
      go : (f : Found) → selected w x name desc ≡ Some f → (c : Class) (o : Option Member)
          → option_and_then (λ v. option_map (named_hit v) (slice_get v.methods (f.member - length v.fields)))
          (class_at w f.imported f.class) ≡ option_map (named_hit c) o → is_bodiless (option_map (tested_hit c) o)
          ≡ false → HasCode w x name desc
      go f g c None h e = absurd cc
      go f g c (Some m) h e = record { place = f; hit = named_hit c m; found = g; is_hit = h; is_concrete = e }

      of_class_one : (f : Found) → selected w x name desc ≡ Some f → (o : Option Class) → class_at w f.imported f.class
          ≡ o → is_bodiless (subset.hit_of false f o) ≡ false → HasCode w x name desc
      of_class_one f g None h e = absurd cc
      of_class_one f g (Some c) h e = go f g c (slice_get c.methods (f.member - length c.fields))
          (ap (option_and_then (λ v. option_map (named_hit v) (slice_get v.methods (f.member - length v.fields)))) h) e

      by : (o : Option Found) → selected w x name desc ≡ o → is_bodiless (subset.hit w false o) ≡ false
          → HasCode w x name desc
      by None g e = absurd cc
      by (Some f) g e = of_class_one f g (class_at w f.imported f.class) refl e

  superclass_there : (n : ℕ) (class : ClassTree) → slice_get files.classes n ≡ Some class → (d : Class)
      × (class_named w class.superclass ≡ Some d)
  unfolding lists_missing
  superclass_there n class at =
      let k = own_kept files list is.listed is.world n class at in
      class_there w class.superclass (front (is_missing w class.superclass) (list_any (λ x. is_missing w x)
      class.interfaces) k.there)
    where
      front : (a b : Bool) → ((a || false) || b) ≡ false → a ≡ false
      front true b e = absurd cc
      front false b e = refl

  pub above_call : (b : Body) (stack : List Cell) (class : ClassTree) (id : MemberId) → b.class ≡ class.name
      → (at : IsInsnOf files codes class (jop.Call 0xB7 id)) → Accepts files b 0xB7 id stack
      → (c : IsNamedCall class 0xB7 id) → (let k = c.callee in let h = k.hit in h) ≡ record {
        owner = c.owner;
        flags = (let p = c.at in let m = p.member in m.flags);
      }
      → (is_constructor id.name || is_private (let p = c.at in let m = p.member in m.flags)) ≡ false
      → IsReceiverFound files l class.name stack 0xB7 id
  above_call b stack class id is_holder at accepts_one c same plain =
      let f = c.fits in
      let p = c.at in
      let m = p.member in
      let d = c.owner in
      let of = at.of_package in
      let n = (let q = at.code in q.class) in
      let static = f.on_object refl in
      let holder = class_by_name files list is.listed is.world n class of.is_class in
      let super = superclass_there n class of.is_class in
      let unfit = last_one (is_constructor id.name) (is_private m.flags) (is_unfit_super w class id) plain c.fit_class
      in
      let code = code_above class.superclass id.name id.desc (or_right (not (is_below w class.superclass id.class))
      (is_bodiless (subset.hit w false (selected w class.superclass id.name id.desc))) unfit) in
      let to = above_callee files solid (declared n class) class.superclass super.0 holder refl super.1 id code in
      let private = private_is id d c.place p c.found (solid.numbered d.name d c.named) in
      let rc = receiver_above b id (ap (λ x. is_constructor id.name || x) private ∙ plain) ∙ is_holder in
      let k = c.callee in
      record {
        method = k;
        class = class.name;
        choice = λ type. option_and_then (λ super. selected_from files w (select_in w) super id)
            (first_super (class_named w class.name));
        form = above_holder to.0 (ap (λ (h : ResolvedMember). is_static h.flags) same
            ∙ static) (ap (λ (h : ResolvedMember). is_constructor id.name || is_private h.flags) same ∙ plain) to.1;
        choices = λ names on kind one made.
            (let sub = known_below class.name (declared n class) holder names kind
            (ap (λ cls. list_all (λ name. is_subtype w name cls) names) (sym rc) ∙ accepts_one names on) one in
            record {
              is_of = sub.0;
              callee = to.0;
              chooses = to.1;
              target = target_as (λ t q h. (
                h.0,
                below_on w (receiver (shape_name kind)) class.name t.name
                    sub.1 h.1,
              )) to.2;
            });
      }
    where
      last_one : (c p u : Bool) → (c || p) ≡ false → (true && not c && not p && u) ≡ false → u ≡ false
      last_one false false u e f = f
      last_one true p u e f = absurd cc
      last_one false true u e f = absurd cc

  pub special_call : (b : Body) (stack : List Cell) (class : ClassTree) (id : MemberId) → b.class ≡ class.name
      → IsInsnOf files codes class (jop.Call 0xB7 id) → Accepts files b 0xB7 id stack
      → IsReceiverFound files l class.name stack 0xB7 id
  unfolding named_call
  special_call b stack class id is_holder at accepts_one =
      let c = named_call class 0xB7 id at in
      ⊎_elim
      (λ special. itself_call b stack class.name class id at accepts_one c refl special)
      (λ plain. above_call b stack class id is_holder at accepts_one c refl plain)
      (true_or_false (is_constructor id.name || is_private (let p = c.at in let m = p.member in m.flags)))
