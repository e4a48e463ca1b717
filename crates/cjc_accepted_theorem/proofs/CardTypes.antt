-- A converted package has types of the card alone: its fields, its methods, those that its abstract classes get, and
-- the members that its pool names have no type that a package may not use.
use Rattle.std.proofs.Common.{◌≡◌, ℕ, zero, suc, ◌+◌, ◌<◌, ◌^◌, refl, sym, ap, subst, ◌∙◌, arith, Bool}
use Rattle.std.proofs.Common.{true, false, List, [], ◌∷◌, ◌++◌, length}
use Rattle.std.specs.Prelude.{Option, Some, None, option_and_then, ◌||◌, ◌&&◌, not, if◌then◌else◌, is_some, slice_get}
use Rattle.std.specs.List.{AllByRecursion, list_any}
use Rattle.cjc_narrow_proof.proofs.LawsLaws.Instructions.{op_fit}
use Rattle.cjc_narrow_proof.specs.Laws.Unbroken.{KeepsNames}
use Rattle.cjc_verified_proof.specs.Bytes.AccessFlags.{is_interface}
use Rattle.cjc_verified_proof.specs.Bytes.Descriptor.{Parts}
use Rattle.cjc_verified_proof.specs.Bytes.Spots.{desc_of}
use Rattle.cjc_verified_proof.specs.Bytes.Breaks.{Break, RulePlace, at, each, each_from}
use Rattle.cjc_verified_proof.specs.Bytes.Order.{FilePlace, file_of}
use Rattle.cjc_verified_proof.specs.Bytes.declared.fault.MemberId.{MemberId}
use Rattle.cjc_verified_proof.specs.Bytes.declared.settings.Settings.{Settings}
use Rattle.cjc_verified_proof.proofs.BytesBools.{or_right}
use Rattle.cjc_verified_proof.proofs.BytesGets.{item_there, mapped_at}
use Rattle.cjc_verified_proof.proofs.BytesLists.{none_left, none_right}
use Rattle.cjc_verified_proof.proofs.BytesPlain.{same_some}
use Rattle.cjc_verified_proof.specs.ClassFile.declared.tree.ClassTree.{ClassTree}
use Rattle.cjc_verified_proof.specs.ClassFile.declared.tree.FieldTree.{FieldTree}
use Rattle.cjc_verified_proof.specs.ClassFile.declared.tree.MethodTree.{MethodTree}
use Rattle.cjc_verified_proof.specs.Bytecode.ReadLaws.Members.{IsDescOf}
use Rattle.cjc_verified_proof.specs.Bytecode.declared.insn.JOp.TheVariants as jop
use Rattle.cjc_verified_proof.specs.Bytecode.declared.method_code.MethodCode.{MethodCode}
use Rattle.cjc_verified_proof.specs.Components.Class.{fields_in, fields_of}
use Rattle.cjc_verified_proof.specs.Components.Descriptor.{method_in}
use Rattle.cjc_verified_proof.specs.Components.Package.{Package, world}
use Rattle.cjc_verified_proof.specs.Components.Types.{desc_of_key}
use Rattle.cjc_theorem.proofs.NarrowProofOwn.{class_by_name}
use Rattle.cjc_accepted_proof.specs.NarrowProof.Laws.Unbroken.{IsInsnOf}
use Rattle.cjc_verified_proof.specs.NCode.declared.narrow.PoolKey.{PoolKey}
use Rattle.cjc_theorem.proofs.ShapeProofDescs.{member_desc}
use Rattle.cjc_theorem.proofs.ShapeProofMeant.{added_method}
use Rattle.cjc_theorem.proofs.ShapeProofOrder.{order_filed}
use Rattle.cjc_theorem.specs.LowerJudge.Rules.{settings_of}
use Rattle.cjc_theorem.specs.LowerJudge.declared.judged.Judged.{Judged}
use Rattle.cjc_shape_proof.proofs.WrittenLaws.Checked.{field_descs, own_names, own_solid, read_files}
use Rattle.cjc_theorem.specs.ShapeProof.Written.Checked.{IsOfFiles}
use Rattle.cjc_accepted_proof.specs.Subset.Checks.{check_breaks, class_breaks, code_breaks, field_breaks, has_int}
use Rattle.cjc_accepted_proof.specs.Subset.Checks.{has_unsupported}
use Rattle.cjc_accepted_proof.specs.Subset.Checks.{list_breaks, method_breaks, own_breaks}
use Rattle.cjc_accepted_proof.specs.Subset.Flags.{is_unfit_class, is_unfit_field, is_unfit_method}
use Rattle.cjc_accepted_proof.specs.Subset.Limits.{has_deep_stack, has_many_cells, has_many_interfaces, has_many_locals}
use Rattle.cjc_accepted_proof.specs.Subset.Overriding.{gets_hidden, overriding_breaks}
use Rattle.cjc_accepted_proof.specs.Subset.Places.{at_class, at_field, at_method}
use Rattle.cjc_accepted_proof.specs.Subset.Types.{is_int_desc, is_unsupported_desc, is_unsupported_name}
use Rattle.cjc_accepted_proof.specs.Subset.Types.{names_unsupported}
use Rattle.cjc_theorem.proofs.AlikeLaws.MetLaws.KeySources as sources
use Rattle.cjc_theorem.proofs.AlikeLaws.MetLaws.KeySources.{IsMet, called, key_met}
use Rattle.cjc_theorem.specs.ShapeProof.Written.LaidOut.{IsLaidOut}
use Rattle.cjc_theorem.proofs.AlikeLaws.MetLaws.Own.{Names_field, declared_by, field_own}
use Rattle.cjc_theorem.proofs.AlikeLaws.MetLaws.There.{special_key, virtual_key}
use Rattle.cjc_theorem.proofs.AlikeLaws.NamedLaws.Members.{field_named, static_named, static_own}
use Rattle.cjc_theorem.specs.Alike.Opcodes.{CallsHaveOpcodes}
use Rattle.cjc_verified_proof.specs.List.Listed.{ListTree}
use Rattle.cjc_theorem.proofs.VTableFiled.{get-has}
use Rattle.cjc_verified_proof.specs.ExportFile.Members.{as_desc, same_bool}
use Rattle.cjc_verified_proof.specs.World.Added.{added, added_at, added_to, named_by}
use Rattle.cjc_verified_proof.specs.World.Classes.{Class, Member, class_named, declared, method_of_class}
use Rattle.cjc_verified_proof.specs.World.Files.{Files}
use Rattle.cjc_verified_proof.specs.World.Order.{class_order, methods_of_class}
use Rattle.cjc_verified_proof.specs.World.declared.found.Found.{Found}
use Rattle.cjc_accepted_proof.specs.Carded.{HasCardTypes, IsOnCard}
use Rattle.cjc_accepted_proof.proofs.CardedLaws.{on_card}
use Rattle.cjc_accepted_theorem.proofs.MethodsLaws.{IsMethodOf, method_from, of_file, of_interfaces}

-- ---- rules that are not broken

-- at each item by its place
each_at : {A : Type 0} (broken : ℕ → A → List Break) (i : ℕ) (xs : List A) → each_from broken i xs ≡ [] → (k : ℕ)
    (x : A) → slice_get xs k ≡ Some x → broken (i + k) x ≡ []
unfolding each_from
each_at broken i [] e k x f = absurd cc
each_at broken i (y ∷ xs) e zero x f =
    let z : i + 0 ≡ i = omega arith in
    ap (λ n. broken n x) z ∙ ap (broken i) (sym (same_some f)) ∙ none_left (broken i y) (each_from broken (i + 1) xs) e
each_at broken i (y ∷ xs) e (suc k) x f =
    let z : i + suc k ≡ i + 1 + k = omega arith in
    ap (λ n. broken n x) z ∙ each_at broken (i + 1) xs (none_right (broken i y) (each_from broken (i + 1) xs) e) k x f

not_broken : (b : Bool) (s : RulePlace) (rule : ℕ) → at b s rule ≡ [] → b ≡ false
not_broken true s rule e = absurd cc
not_broken false s rule e = refl

-- none of several passes
none_passes : {A : Type 0} (test : A → Bool) (xs : List A) → list_any test xs ≡ false → (k : ℕ) (x : A)
    → slice_get xs k ≡ Some x → test x ≡ false
none_passes test [] e k x f = absurd cc
none_passes test (y ∷ xs) e zero x f = by (test y) refl e
  where
    by : (b : Bool) → test y ≡ b → (b || list_any test xs) ≡ false → test x ≡ false
    by true g h = absurd cc
    by false g h = ap test (sym (same_some f)) ∙ g
none_passes test (y ∷ xs) e (suc k) x f = none_passes test xs (or_right (test y) (list_any test xs) e) k x f

-- a descriptor of a method is one
desc_there : (desc : List ℕ) → as_desc true desc ≡ Some desc → (d : Parts) × (desc_of desc ≡ Some d)
desc_there desc e = by (desc_of desc) refl e
  where
    by : (o : Option Parts) → desc_of desc ≡ o → option_and_then (λ d. if same_bool true d.is_method then Some desc
        else None) o ≡ Some desc → (d : Parts) × (desc_of desc ≡ Some d)
    by None f g = absurd cc
    by (Some d) f g = (d, f)

-- where a package breaks no rule of the card's language
module _ (list : List ℕ) (files : Files) (codes : List MethodCode) (settings : Settings)
    (checks : check_breaks list files codes settings ≡ []) (n : ℕ) (t : ClassTree)
    (here : slice_get files.classes n ≡ Some t) where
  abbrev g : FilePlace
  g = file_of files.lines (0 + n)

  of_class : class_breaks files settings g (0 + n) t ≡ []
  unfolding check_breaks
  of_class =
      let A = list_breaks list files settings in
      let B = each (λ n c. class_breaks files settings (file_of files.lines n) n c) files.classes in
      let C = each (λ _ code. code_breaks files settings code) codes in
      each_at (λ n c. class_breaks files settings (file_of files.lines n) n c) 0 files.classes
      (none_right A B (none_left (A ++ B) C checks)) n t here

  field_fits : (k : ℕ) (f : FieldTree) → slice_get t.fields k ≡ Some f → is_unsupported_desc f.desc ≡ false
  unfolding class_breaks field_breaks
  field_fits k f e =
      let X = own_breaks files settings g (0 + n) t in
      let Y = each (λ i m. field_breaks settings g t i m) t.fields in
      let Z = each (λ i m. method_breaks settings g t i m) t.methods in
      let W = overriding_breaks files g t in
      let one = each_at (λ i m. field_breaks settings g t i m) 0 t.fields (none_right X Y (none_left (X ++ Y) Z
      (none_left (X ++ Y ++ Z) W of_class))) k f e in
      let i = 0 + k in
      let first = at (is_unsupported_desc f.desc) (at_field g t i f) 301 in
      let second = at (not settings.ints && is_int_desc f.desc) (at_field g t i f) 302 in
      let third = at (is_unfit_field (is_interface t.flags) f.flags) (at_field g t i f) 304 in
      not_broken (is_unsupported_desc f.desc) (at_field g t i f) 301 (none_left first second (none_left (first
      ++ second) third one))

  pub method_fits : (k : ℕ) (m : MethodTree) → slice_get t.methods k ≡ Some m → is_unsupported_desc m.desc ≡ false
  unfolding class_breaks method_breaks
  method_fits k m e =
      let X = own_breaks files settings g (0 + n) t in
      let Y = each (λ i m. field_breaks settings g t i m) t.fields in
      let Z = each (λ i m. method_breaks settings g t i m) t.methods in
      let W = overriding_breaks files g t in
      let one = each_at (λ i m. method_breaks settings g t i m) 0 t.methods (none_right (X ++ Y) Z (none_left (X ++ Y
      ++ Z) W of_class)) k m e in
      let s = at_method g t (0 + k) m 0 in
      let A = at (is_unsupported_desc m.desc) s 301 in
      let B = at (not settings.ints && is_int_desc m.desc) s 302 in
      let C = at (is_unfit_method (is_interface t.flags) m.flags m.name (is_some m.code)) s 304 in
      let D = at (has_many_locals m.code) s 404 in
      let E = at (has_deep_stack m.code) s 405 in
      not_broken (is_unsupported_desc m.desc) s 301 (none_left A B (none_left (A ++ B) C (none_left (A ++ B ++ C) D
      (none_left (A ++ B ++ C ++ D) E one))))

  got_fits : (k : ℕ) (m : MemberId) → slice_get (added_at files n) k ≡ Some m → is_unsupported_desc m.desc ≡ false
  unfolding class_breaks own_breaks
  got_fits k m e =
      let X = own_breaks files settings g (0 + n) t in
      let Y = each (λ i m. field_breaks settings g t i m) t.fields in
      let Z = each (λ i m. method_breaks settings g t i m) t.methods in
      let W = overriding_breaks files g t in
      let one : own_breaks files settings g (0 + n) t ≡ [] = none_left X Y (none_left (X ++ Y) Z
      (none_left (X ++ Y ++ Z) W of_class)) in
      let s = at_class g t in
      let got = added_at files (0 + n) in
      let A = at (has_unsupported got) s 301 in
      let B = at (not settings.ints && has_int got) s 302 in
      let C = at (is_unfit_class t.flags) s 304 in
      let D = at (gets_hidden files t got) s 305 in
      let E = at (has_many_interfaces files t) s 403 in
      let F = at (has_many_cells t) s 406 in
      let none = not_broken (has_unsupported got) s 301 (none_left A B (none_left (A ++ B) C (none_left (A ++ B ++ C) D
      (none_left (A ++ B ++ C ++ D) E (none_left (A ++ B ++ C ++ D ++ E) F one))))) in
      let z : n ≡ 0 + n = omega arith in
      none_passes (λ (m : MemberId). is_unsupported_desc m.desc) got none k m (ap (λ j. slice_get (added_at files j) k)
      (sym z) ∙ e)

-- ---- a converted package

module _ (list : ListTree) (files : List (List ℕ)) (judged : Judged) (p : Package) (is : IsOfFiles list judged.codes p)
    (laid : IsLaidOut list files judged p) where
  abbrev w : List Class
  w = world p

  abbrev u : KeepsNames list.name p.files judged.codes (settings_of list)
  u = own_names list judged.codes p is.checked

  described_on_card : (desc : List ℕ) → IsDescOf true desc → length desc < 2 ^ 32 → is_unsupported_desc desc ≡ false
      → IsOnCard desc
  described_on_card desc d short fits = on_card desc d.0 short d.1 fits

  -- a class of the package
  module _ (n : ℕ) (t : ClassTree) (e : (let v = p.files in slice_get v.classes n ≡ Some t)) where
    named : class_named w t.name ≡ Some (declared n t)
    named = class_by_name p.files list.name u.listed u.world n t e

    field_card : (k : ℕ) (f : FieldTree) → slice_get t.fields k ≡ Some f → IsOnCard f.desc
    field_card k f g =
        let d = field_descs list judged.codes p is.checked n k t f e g in
        on_card f.desc d.parts d.short d.is_desc
        (field_fits list.name p.files judged.codes (settings_of list) u.checks n t e k f g)

    method_card : (i : ℕ) (m : Member) → (let c = declared n t in slice_get c.methods i ≡ Some m) → IsOnCard m.desc
    method_card i m h =
        let r = mapped_at method_of_class t.methods i m h in
        let d = member_desc p.files (read_files list judged.codes p is.checked) (declared n t) named i m h in
        let fits = method_fits list.name p.files judged.codes (settings_of list) u.checks n t e i r.0 r.1 in
        described_on_card m.desc d.0 d.1 (ap (λ (x : Member). is_unsupported_desc x.desc) (sym r.2) ∙ fits)

    got_named : (k : ℕ) (m : Member) → slice_get (added w (declared n t)) k ≡ Some m → slice_get (added_at p.files n) k
        ≡ Some (named_by t.name m)
    unfolding added_at
    got_named k m h = ap (λ o. slice_get (added_to w n o) k) e ∙ item_there (named_by t.name) (added w (declared n t)) k
        m h

    got_card : (k : ℕ) (m : Member) → slice_get (added w (declared n t)) k ≡ Some m → IsOnCard m.desc
    got_card k m h =
        let read = (added_method list files judged p laid t.name (declared n t) named k m
        h).0 in
        let short = read.desc in
        let d = desc_there m.desc read.is_desc in
        on_card m.desc d.0 (omega (arith, short)) d.1
        (got_fits list.name p.files judged.codes (settings_of list) u.checks n t e k (named_by t.name m)
        (got_named k m h))

  -- a class in the order of Class
  module _ (k : ℕ) (c : Class) (e : slice_get (class_order w) k ≡ Some c) where
    abbrev filed : (t : ClassTree) × (let v = p.files in slice_get v.classes c.number ≡ Some t) × (c
        ≡ declared c.number t)
    filed = order_filed p.files c (get-has c (class_order w) k e)

    fields_card : (i : ℕ) (f : FieldTree) → slice_get (fields_of p.files c) i ≡ Some f → IsOnCard f.desc
    fields_card i f h = field_card c.number filed.0 filed.1 i f (sym (ap (λ o. slice_get (fields_in o) i) filed.1) ∙ h)

    methods_card : (i : ℕ) (f : Found) → slice_get (methods_of_class w c) i ≡ Some f
        → (let m = method_in w c f.member in IsOnCard m.desc)
    methods_card i f h = by (method_from w c i f h)
      where
        by : IsMethodOf w c f → (let m = method_in w c f.member in IsOnCard m.desc)
        by (of_file j m there is_place same plain) = subst (λ (x : Member). IsOnCard x.desc) (sym same) (method_card
            c.number filed.0 filed.1 j m (sym (ap (λ (d : Class). slice_get d.methods j) filed.2) ∙ there))
        by (of_interfaces j m there is_place same) = subst (λ (x : Member). IsOnCard x.desc) (sym same) (got_card
            c.number filed.0 filed.1 j m (sym (ap (λ (d : Class). slice_get (added w d) j) filed.2) ∙ there))

  -- ---- the pool

  abbrev codes : List MethodCode
  codes = judged.codes

  -- the descriptor of a field of the package that code names
  named_field : (id : MemberId) (static : Bool) (n : Names_field list judged.codes p is id static)
      → (let d = n.owner in d.is_imported) ≡ false → IsOnCard id.desc
  named_field id static n own =
      let d = n.owner in
      let place = n.at in
      let t = declared_by list judged.codes p is d n.named own place.place place.member place.is_member in
      subst IsOnCard (sym (ap (λ (q : Member). q.desc) t.same) ∙ place.has_desc) (field_card d.number t.file t.is_file
      place.place t.tree t.in_file)

  call_card : (class : ClassTree) (op : ℕ) (id : MemberId) → IsInsnOf p.files codes class (jop.Call op id)
      → IsOnCard id.desc
  unfolding names_unsupported
  call_card class op id of =
      let n = called list judged.codes p is class op id of in
      let place = n.at in
      let fit = op_fit list.name p.files codes (settings_of list) u class (jop.Call op id) of in
      let d = member_desc p.files (read_files list judged.codes p is.checked) n.owner n.named place.place place.member
      place.is_member in
      let read : IsDescOf true id.desc × (length id.desc < 2 ^ 32) = subst (λ v. IsDescOf true v × (length v < 2 ^ 32))
      place.has_desc d in
      described_on_card id.desc read.0 read.1 (or_right (is_unsupported_name id.class) (is_unsupported_desc id.desc)
      fit.0)

  key_card : (key : PoolKey) → IsMet p.files codes key → AllByRecursion IsOnCard (desc_of_key key)
  key_card _ (sources.of_class c e) = tt
  key_card _ (sources.of_field class put id of) =
      let n = field_named list.name p.files codes (settings_of list) u (own_solid list judged.codes p is.checked) class
      put id
      of in (
        ap-desc n.resolved (named_field id false n (field_own list judged.codes p is id n)),
        tt,
      )
    where
      ap-desc : {a b : MemberId} → a ≡ b → IsOnCard b.desc → IsOnCard a.desc
      ap-desc same on = subst (λ (q : MemberId). IsOnCard q.desc) (sym same) on
  key_card _ (sources.of_static class put id of none) =
      let n = static_named list.name p.files codes (settings_of list) u (own_solid list judged.codes p is.checked)
      class put id
      of in
      let own = static_own list.name p.files codes (settings_of list) u (own_solid list judged.codes p is.checked) id n
      none in
      (subst (λ (q : MemberId). IsOnCard q.desc) (sym n.resolved) (named_field id true n own), tt)
  key_card _ (sources.of_virtual class id of) = (
    virtual_key list judged.codes p is (λ m. IsOnCard m.desc) class id (called list judged.codes p is class 0xB6 id of)
        (call_card class 0xB6 id of) (λ own. call_card class 0xB6 id of),
    tt,
  )
  key_card _ (sources.of_special k class id known plain of) =
      special_key list judged.codes p is (λ key. AllByRecursion IsOnCard (desc_of_key key)) class.name class id
      (called list judged.codes p is class 0xB7 id of) (λ e. (call_card class 0xB7 id of, tt)) (λ e. (
        call_card class
            0xB7 id of,
        tt,
      )) (λ e f. (call_card class 0xB7 id of, tt))
  key_card _ (sources.of_call class id of) =
      let n = called list judged.codes p is class 0xB8 id of in
      (subst (λ (q : MemberId). IsOnCard q.desc) (sym n.resolved) (call_card class 0xB8 id of), tt)

  pub card_types : CallsHaveOpcodes judged.codes → HasCardTypes p
  card_types opcodes = record {
    fields = fields_card;
    methods = methods_card;
    entries = λ k key e. key_card key (key_met list judged.codes p is opcodes k key e);
  }
