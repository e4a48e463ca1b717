-- A package of read files that breaks no rule of classes and names is known.
use Rattle.cjc_world.specs.Lookup.{is_called, member_at, own_method}
use Rattle.cjc_world.specs.Rules.{is_twice}
use Rattle.cjc_bytes.specs.declared.fault.MemberId.{MemberId}
use Rattle.cjc_world.specs.ClassFile.Code.{CodeTree}
use Rattle.cjc_world.specs.ClassFile.declared.tree.ClassTree.{ClassTree}
use Rattle.cjc_token_proof.proofs.TablesLaws.Fields.{first_here}
use Rattle.std.proofs.lemmas.List.{length-map}
use Rattle.cjc_world.specs.ClassFile.declared.tree.MethodTree.{MethodTree}
use Rattle.cjc_jvm_semantics.specs.OnePackage.{method_at, method_by, method_in}
use Rattle.cjc_jvm_semantics.specs.Linked.{Method}
use Rattle.std.proofs.Common.{◌≡◌, ℕ, zero, suc, refl, sym, ap, subst, ◌∙◌, arith, Bool, true, false, List, [], ◌∷◌}
use Rattle.std.proofs.Common.{length, ◌+◌, ◌-◌}
use Rattle.std.specs.Prelude.{Option, Some, None, slice_get, not, ◌==◌, ◌&&◌, if◌then◌else◌, option_map}
use Rattle.std.specs.Prelude.{option_and_then, map}
use Rattle.std.specs.Str.{bytes_eq}
use Rattle.cjc_bytes.specs.AccessFlags.{is_interface}
use Rattle.cjc_bytes.proofs.Numbers.{like_number, number_same}
use Rattle.cjc_token_proof.proofs.ByToken.Members.{bytes_same, bytes_tell}
use Rattle.cjc_card_semantics.specs.Machine.Classes.{IsClass, IsInterface}
use Rattle.cjc_card_semantics.specs.Machine.Methods.{is_class_at, is_class_info}
use Rattle.cjc_components.specs.Class.{class_entry, interface_entry}
use Rattle.cjc_components.specs.Names.{class_ref}
use Rattle.cjc_components.specs.Package.{Package, world}
use Rattle.cjc_world.specs.ExportFile.declared.tree.ExportClass.{ExportClass}
use Rattle.cjc_world.specs.ExportFile.Supers.{classes_of}
use Rattle.cjc_world.specs.ExportFile.Supers as exports
use Rattle.cjc_token_proof.specs.Tables.Loading.{part}
use Rattle.cjc_token_proof.specs.Tables.Sound.{IsSound}
use Rattle.cjc_token_proof.proofs.TablesLaws.Above.{class_there, entry_of_name, info_of_name, rules_of}
use Rattle.cjc_token_proof.proofs.TablesLaws.Clean.{has_named, own_name}
use Rattle.cjc_token_proof.proofs.TablesLaws.Filed.{import_filed, import_in, one_class, own_filed}
use Rattle.cjc_token_proof.proofs.TablesLaws.Lists.{right_supers, supers_there}
use Rattle.cjc_token_proof.proofs.TablesLaws.Order.{kind-in, super_before}
use Rattle.cjc_token_proof.proofs.TablesLaws.Telling.{has_object}
use Rattle.cjc_vtable.proofs.Filed.{Has, at_front, behind, get-has}
use Rattle.cjc_vtable.specs.Kept.{Keeps}
use Rattle.cjc_vtable.specs.Laws.{InterfaceCallsAgree, TokensAreOnce, VirtualCallsAgree}
use Rattle.cjc_world.specs.Classes.{Class, class_at, class_named, imported, is_at, Member, method_of_class}
use Rattle.cjc_world.specs.Classes.{field_of_class}
use Rattle.cjc_world.specs.Supertypes.{AreSupertypes, Supertypes, Lists, foremost, supertypes}
use Rattle.cjc_world.specs.Order.{class_order, in_order}
use Rattle.cjc_world.proofs.Cycles.{class_named-name}
use Rattle.cjc_token_proof.specs.WrittenCalls.Calls.{ExportsKeep}
use Rattle.cjc_token_proof.specs.WrittenCalls.Standing.{ClassesStand, FitsMethod}
use Rattle.cjc_token_proof.proofs.WrittenCalls.Facts.{Facts}
use Rattle.cjc_token_proof.proofs.WrittenCalls.Orders.{order_own}

-- where a class stands, its kind and number find one
at_there : (w : List Class) (c : Class) → Has c w → (d : Class) × (class_at w c.is_imported c.number ≡ Some d) × Has d w
    × (c.is_imported ≡ d.is_imported) × (c.number ≡ d.number)
unfolding class_at
at_there [] c h = elim h [ ]
at_there (d ∷ w) c at_front = (
  d,
  ap (λ t. if t then Some d else class_at w d.is_imported d.number)
      (itself d.is_imported d.number),
  at_front,
  refl,
  refl,
)
  where
    itself : (b : Bool) (n : ℕ) → ((if b then b else not b) && (n == n)) ≡ true
    itself true n = like_number n
    itself false n = like_number n
at_there (d ∷ w) c (behind h) = by (is_at c.is_imported c.number d) refl (at_there w c h)
  where
    told : (a b q : Bool) → ((if a then b else not b) && q) ≡ true → (b ≡ a) × (q ≡ true)
    told true true q e = (refl, e)
    told false false q e = (refl, e)
    told true false q e = absurd (cc)
    told false true q e = absurd (cc)

    by : (t : Bool) → is_at c.is_imported c.number d ≡ t → (b : Class) × (class_at w c.is_imported c.number ≡ Some b)
        × Has b w × (c.is_imported ≡ b.is_imported) × (c.number ≡ b.number)
        → (b : Class) × ((if t then Some d else class_at w c.is_imported c.number) ≡ Some b) × Has b (d ∷ w)
        × (c.is_imported ≡ b.is_imported) × (c.number ≡ b.number)
    by true is r = let two = told d.is_imported c.is_imported (d.number == c.number) is
        in (d, refl, at_front, two.0, sym (number_same d.number c.number two.1))
    by false is r = (r.0, r.1, behind r.2, r.3, r.4)

-- the first class of a name among export files
export_found : (es : List ExportClass) (y : List ℕ) (e : ExportClass) → exports.class_named es y ≡ Some e → (k : ℕ)
    × (slice_get es k ≡ Some e) × (e.name ≡ y)
export_found [] y e h = absurd (cc)
export_found (u ∷ es) y e h = by (bytes_eq u.name y) refl h (export_found es y e)
  where
    by : (t : Bool) → bytes_eq u.name y ≡ t → (if t then Some u else exports.class_named es y) ≡ Some e
        → (exports.class_named es y ≡ Some e → (k : ℕ) × (slice_get es k ≡ Some e) × (e.name ≡ y)) → (k : ℕ)
        × (slice_get (u ∷ es) k ≡ Some e) × (e.name ≡ y)
    by true is g rest = let same : u ≡ e = cc in (
      0,
      ap Some same,
      sym (ap (λ (q : ExportClass). q.name) same)
          ∙ bytes_tell u.name y is,
    )
    by false is g rest = let r = rest g in (suc r.0, r.1, r.2)

export_named : (es : List ExportClass) (k : ℕ) (e : ExportClass) → slice_get es k ≡ Some e → (u : ExportClass)
    × (exports.class_named es e.name ≡ Some u)
export_named [] k e h = absurd (cc)
export_named (v ∷ es) k e h = by (bytes_eq v.name e.name) refl k h (λ j g. export_named es j e g)
  where
    by : (t : Bool) → bytes_eq v.name e.name ≡ t → (k : ℕ) → slice_get (v ∷ es) k ≡ Some e
        → ((j : ℕ) → slice_get es j ≡ Some e → (u : ExportClass) × (exports.class_named es e.name ≡ Some u))
        → (u : ExportClass) × ((if t then Some v else exports.class_named es e.name) ≡ Some u)
    by true is k g rest = (v, refl)
    by false is zero g rest =
        let same : v ≡ e = cc in
        let clash : true ≡ false = sym (Rattle.cjc_token_proof.proofs.ByToken.Members.bytes_same v.name)
        ∙ ap (λ (q : ExportClass). bytes_eq v.name q.name) same ∙ is in absurd (cc)
    by false is (suc j) g rest = rest j g

tree_method : (ms : List MethodTree) (i : ℕ) (m : Member) → slice_get (map method_of_class ms) i ≡ Some m
    → (r : MethodTree) × (slice_get ms i ≡ Some r) × (method_of_class r ≡ m)
tree_method [] i m e = absurd (cc)
tree_method (n ∷ ms) zero m e = (n, refl, cc)
tree_method (n ∷ ms) (suc i) m e = tree_method ms i m e

-- a method of a class by its name and descriptor
abbrev member_id : List ℕ → Member → MemberId
member_id x m = record { class = x; name = m.name; desc = m.desc }

id_by : (t : ClassTree) (m : MethodTree) (o : Option CodeTree) → (method_by t m o).id
    ≡ member_id t.name (method_of_class m)
id_by t m None = refl
id_by t m (Some code) = refl

module _ (list : List ℕ) (p : Package) (sound : IsSound list p.files) where
  abbrev w : List Class
  w = world p

  abbrev es : List ExportClass
  es = let files = p.files in classes_of files.exports

  placed : (x : List ℕ) (c : Class) → class_named w x ≡ Some c → class_at w c.is_imported c.number ≡ Some c
  placed x c e =
      let h = has_named w x c e in
      let r = at_there w c h in
      r.1 ∙ ap Some (sym (one_class p.files sound.classes sound.exports c r.0 h r.2 r.3 r.4))

  of_file : (y : List ℕ) (e : ExportClass) → exports.class_named es y ≡ Some e → (k : ℕ)
      × (class_named w y ≡ Some (imported k e))
  of_file y e h =
      let r = export_found es y e h in (
        r.0,
        ap (class_named w) (sym r.2) ∙ own_name list p.files sound (imported r.0 e) (import_in p.files sound.classes
            sound.exports r.0 e r.1),
      )

  pub in_file : (y : List ℕ) (d : Class) → class_named w y ≡ Some d → d.is_imported ≡ true → (k : ℕ) × (e : ExportClass)
      × (exports.class_named es y ≡ Some e) × (d ≡ imported k e)
  in_file y d e import =
      let f = import_filed p.files sound.classes sound.exports d (has_named w y d e) import in
      let name : f.1.name ≡ y = sym (ap (λ (q : Class). q.name) f.3) ∙ class_named-name w y d e in
      let u = export_named es f.0 f.1 f.2 in
      let known : exports.class_named es y ≡ Some u.0 = ap (exports.class_named es) (sym name) ∙ u.1 in
      let here = of_file y u.0 known in
      let both : Some d ≡ Some (imported here.0 u.0) = sym e ∙ here.1 in
      (here.0, u.0, known, cc)

  ordered : (i : Bool) (k : ℕ) (c : Class) → slice_get (in_order w i) k ≡ Some c → class_named w c.name ≡ Some c
  ordered i k c e = own_name list p.files sound c (kind-in list p.files sound i c (get-has c (in_order w i) k e)).0

  super_there : (x s : List ℕ) (c : Class) → class_named w x ≡ Some c → c.is_imported ≡ false → c.supers ≡ s ∷ []
      → (d : Class) × (class_named w s ≡ Some d) × (is_interface d.flags ≡ false)
  super_there x s c e own supers =
      let rules = rules_of list p sound x c e in
      let listed : Lists s c.supers = subst (λ ss. Lists s ss) (sym supers) foremost in
      let d = class_there w s (supers_there w c (rules.there own) s listed) in
      let right = right_supers w c rules.supers in
      (d.0, d.1, sym (ap Rattle.cjc_world.specs.Rules.is_interface_of d.1) ∙ right.supers s listed)

  filed : (x : List ℕ) (c : Class) → class_named w x ≡ Some c → c.is_imported ≡ false → (i : ℕ) (m : Member)
      → slice_get c.methods i ≡ Some m
      → (k : Method) × (method_at p.files (member_at c (length c.fields + i)) ≡ Some k)
      × (k.id ≡ record { class = x; name = m.name; desc = m.desc })
  filed x c e own i m there =
      let f = own_filed p.files sound.classes sound.exports c (has_named w x c e) own in
      let n = f.0 in
      let tree = f.1 in
      let r = tree_method tree.methods i m (ap (λ (q : Class). slice_get q.methods i) (sym f.3) ∙ there) in
      let left : length tree.fields + i - length tree.fields ≡ i = omega arith in (
        method_by tree r.0 r.0.code,
        ap (λ (q : Class). method_at p.files (member_at q (length q.fields + i))) f.3
            ∙ ap (λ l. method_at p.files (record { imported = false; class = n; member = l + i }))
            (length-map tree.fields field_of_class)
            ∙ ap (option_and_then (method_in (length tree.fields + i))) f.2
            ∙ ap (λ j. option_map (λ (q : MethodTree). method_by tree q q.code) (slice_get tree.methods j)) left
            ∙ ap (option_map (λ (q : MethodTree). method_by tree q q.code)) r.1,
        id_by tree r.0 r.0.code
            ∙ ap (λ (y : List ℕ). member_id y (method_of_class r.0)) (sym (ap (λ (q : Class). q.name) f.3)
            ∙ class_named-name w x c e)
            ∙ ap (member_id x) r.2,
      )

  first_one : (x : List ℕ) (c : Class) → class_named w x ≡ Some c → c.is_imported ≡ false → (i : ℕ) (m : Member)
      → slice_get c.methods i ≡ Some m → own_method false m.name m.desc c ≡ Some (member_at c (length c.fields + i))
  unfolding own_method is_twice
  first_one x c e own i m there =
      let rules = rules_of list p sound x c e in
      ap (option_map (λ j. member_at c (length c.fields + j)))
      (first_here (λ (q : Member). is_called m.name m.desc q) c.methods i m there (ap (λ t. t && bytes_eq m.desc m.desc)
      (bytes_same m.name) ∙ bytes_same m.desc) (rules.methods i m there))

  pub classes_stand : ClassesStand p
  classes_stand k c e =
      let own = order_own w false k c e in
      let i = info_of_name list p sound c.name c (ordered false k c e) own.0 in
      ap (is_class_at (part p)) i.ref
      ∙ ap is_class_info i.info
      ∙ ap (λ t. is_class_info (Some (if t then IsInterface (interface_entry (class_ref p) w c)
      else IsClass (class_entry (class_ref p) p c)))) (no_interface (is_interface c.flags) own.1)
    where
      no_interface : (b : Bool) → not b ≡ true → b ≡ false
      no_interface true h = absurd (cc)
      no_interface false h = refl

  pub facts : FitsMethod p → ExportsKeep p → Keeps w → ((xs : List (List ℕ)) → AreSupertypes w xs (supertypes w xs))
      → ((xs : List (List ℕ)) (j k : Supertypes) → AreSupertypes w xs j → AreSupertypes w xs k → j ≡ k)
      → VirtualCallsAgree w → InterfaceCallsAgree w → TokensAreOnce w → Facts p
  facts fits keep keeps are_supertypes one_supertypes virtual_calls interface_calls tokens_once = record {
    own = info_of_name list p sound;
    file = entry_of_name list p sound;
    filed = filed;
    first_one = first_one;
    placed = placed;
    of_file = of_file;
    in_file = in_file;
    plain = keep.plain;
    ordered = ordered;
    super_there = super_there;
    before = λ i j c d s here class_here supers named there. (let up = super_there c.name s c (own_name list p.files
        sound c (order_has c i here)) (order_is_own c i here) supers in
        super_before list p.files sound j i c d s here there class_here (let both : Some up.0 ≡ Some d = sym up.1
        ∙ named in let same : up.0 ≡ d = cc in sym (ap (λ (q : Class). is_interface q.flags) same)
        ∙ up.2) (subst (λ ss. Lists s ss) (sym supers) foremost) named);
    low = fits;
    rules = keeps.rules;
    interfaces = keeps.interfaces;
    are_supertypes = are_supertypes;
    one_supertypes = one_supertypes;
    virtual_calls = virtual_calls;
    interface_calls = interface_calls;
    tokens_once = tokens_once;
    object_class = (let o = has_object list p sound in (
      o.class,
      o.there,
      o.imported,
      keep.object_class o.class o.there,
    ));
  }
    where
      order_has : (c : Class) (i : ℕ) → slice_get (class_order w) i ≡ Some c → Has c w
      order_has c i e = (Rattle.cjc_token_proof.proofs.TablesLaws.Order.order_in list p.files sound c
          (get-has c (class_order w) i e)).0

      order_is_own : (c : Class) (i : ℕ) → slice_get (class_order w) i ≡ Some c → c.is_imported ≡ false
      order_is_own c i e = (Rattle.cjc_token_proof.proofs.TablesLaws.Order.order_in list p.files sound c
          (get-has c (class_order w) i e)).1
