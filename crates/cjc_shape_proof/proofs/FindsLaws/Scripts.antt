-- What scripts name: a method of the package, or none, whichever of its methods are in int mode.
use Rattle.std.proofs.Common.{◌≡◌, ℕ, ◌<◌, ◌^◌, refl, sym, ap, subst, ◌∙◌, arith, Bool, true, false, List}
use Rattle.std.proofs.Common.{length, ⊎_elim}
use Rattle.std.specs.Prelude.{not, ◌&&◌, Option, Some, None, option_and_then, slice_get, if◌then◌else◌}
use Rattle.std.specs.List.{AllByRecursion, list_any}
use Rattle.std.specs.Str.{bytes_eq}
use Rattle.cjc_bytes.specs.declared.fault.MemberId.{MemberId}
use Rattle.cjc_bytes.specs.declared.settings.Settings.{Settings}
use Rattle.cjc_bytes.proofs.Gets.{all_at, any_at, any_off}
use Rattle.cjc_bytes.proofs.Lists.{name_is, bytes_true}
use Rattle.cjc_bytes.proofs.Options.{then_some, not_far, where_true}
use Rattle.cjc_bytes.proofs.Bools.{both_front, both_back, true_or_false, true_not_false}
use Rattle.cjc_classes.specs.JvmSemantics.Linked.{Method}
use Rattle.cjc_classes.specs.JvmSemantics.OnePackage.{entry_in, entry_named, is_constructor, is_initialiser}
use Rattle.cjc_classes.specs.JvmSemantics.OnePackage.{is_sendable}
use Rattle.cjc_classes.specs.JvmSemantics.OnePackage.{method_at, method_hit, select_in, sent_by, sent_named}
use Rattle.cjc_check_proof.specs.WorldProof.Calls.Solid.{IsSolid}
use Rattle.cjc_check_proof.specs.WorldProof.Calls.Targets.{IsReceiver, IsSentTo}
use Rattle.cjc_check_proof.proofs.WorldProofOwn.{own_at}
use Rattle.cjc_check_proof.proofs.WorldProofScripts.{called_method, sent_method}
use Rattle.cjc_check_proof.proofs.WorldProofSelects.{own_tree}
use Rattle.cjc_check_proof.proofs.WorldProofTypes.{below_type}
use Rattle.cjc_world.proofs.ClassFileFitting.{spelt_fits}
use Rattle.cjc_world.specs.ClassFile.Fits as fits
use Rattle.cjc_world.specs.ClassFile.declared.tree.ClassTree.{ClassTree}
use Rattle.cjc_world.specs.ClassFile.declared.tree.MethodTree.{MethodTree}
use Rattle.cjc_components.specs.Bytecode.declared.method_code.MethodCode.{MethodCode}
use Rattle.cjc_shape_proof.specs.Finds.{IsMemberFound, IsScriptFound, IsUsable, finds_member, finds_none}
use Rattle.cjc_shape_proof.proofs.FindsLaws.Callees.{params_there}
use Rattle.cjc_shape_proof.proofs.FindsLaws.Descs.{parts_are, read_of}
use Rattle.cjc_shape_proof.proofs.FindsLaws.Receivers.{receiver_of}
use Rattle.cjc_narrow_proof.proofs.LawsLaws.Own.{class_by_name, own_kept}
use Rattle.cjc_check_proof.proofs.WorldProofRules.{method_kept}
use Rattle.cjc_classes.specs.Narrow.Rows.Package.{named}
use Rattle.cjc_narrow_proof.specs.Laws.Unbroken.{KeepsNames}
use Rattle.cjc_narrow_proof.specs.Runs.Types.{IsThere}
use Rattle.cjc_narrow_proof.specs.NCode.ByLabel.{Named}
use Rattle.cjc_narrow_proof.specs.NCode.declared.narrow.NMethod.{NMethod}
use Rattle.cjc_narrow_proof.specs.Script.Sorts.{Reference, Shape, shape_name}
use Rattle.cjc_narrow_proof.specs.Selection.Relation.{IsMadeOf}
use Rattle.cjc_check_proof.specs.WorldProof.Files.{AreReadFiles}
use Rattle.cjc_narrow_proof.specs.Tables.Calls.{types_of}
use Rattle.cjc_world.proofs.UpwardLaws.Lines.{first_has, line_named, of_line}
use Rattle.cjc_world.specs.declared.found.Found.{Found}
use Rattle.cjc_world.specs.declared.image.StaticImage.{StaticImage}
use Rattle.cjc_world.specs.Classes.{Class, Member, all_classes, class_named}
use Rattle.cjc_world.specs.Files.{Files}
use Rattle.cjc_world.specs.Supertypes.{line}
use Rattle.cjc_world.specs.Lookup.{find_method, is_selectable, object, own_method, receiver, selected}
use Rattle.cjc_world.specs.Subtype.{is_subtype}

-- nothing, where something is impossible
pub none_where : {A : Type 0} (o : Option A) → ((a : A) → o ≡ Some a → ⊥) → o ≡ None
none_where None h = refl
none_where (Some a) h = absurd (h a refl)

abbrev is_method_of : MemberId → MethodTree → Bool
is_method_of id k = bytes_eq k.name id.name && bytes_eq k.desc id.desc

abbrev declares : MemberId → ClassTree → Bool
declares id t = list_any (λ k. is_method_of id k) t.methods

-- A method of the package of this name and descriptor.
record IsOwnNamed (files : Files) (id : MemberId) : Type 0 where
  class : ClassTree
  method : MethodTree
  number : ℕ
  place : ℕ
  is_class : slice_get files.classes number ≡ Some class
  is_method : slice_get class.methods place ≡ Some method
  name : method.name ≡ id.name
  desc : method.desc ≡ id.desc

declared_one : (files : Files) (id : MemberId) → list_any (λ t. declares id t) files.classes ≡ true
    → IsOwnNamed files id
declared_one files id e =
    let c = any_at (λ t. declares id t) files.classes e in
    let t = c.1 in
    let m = any_at (λ k. is_method_of id k) t.methods c.3 in
    let k = m.1 in
    record {
      class = t;
      method = k;
      number = c.0;
      place = m.0;
      is_class = c.2;
      is_method = m.2;
      name = bytes_true k.name id.name (both_front (bytes_eq k.name id.name) (bytes_eq k.desc id.desc) m.3);
      desc = bytes_true k.desc id.desc (both_back (bytes_eq k.name id.name) (bytes_eq k.desc id.desc) m.3);
    }

declared_none : (files : Files) (id : MemberId) → list_any (λ t. declares id t) files.classes ≡ false
    → IsOwnNamed files id → ⊥
declared_none files id e o =
    let t = o.class in
    let k = o.method in
    let a = any_off (λ t. declares id t) files.classes o.number t e o.is_class in
    let b = any_off (λ k. is_method_of id k) t.methods o.place k a o.is_method in
    let yes : is_method_of id k ≡ true = ap (λ n. bytes_eq n id.name && bytes_eq k.desc id.desc) o.name
    ∙ ap (λ b. b && bytes_eq k.desc id.desc) (name_is id.name) ∙ ap (λ n. bytes_eq n id.desc) o.desc
    ∙ name_is id.desc in
    true_not_false (is_method_of id k) yes b

-- a script names no initialiser
pub called_plain : (files : Files) (w : List Class) (id : MemberId) (m : Method) → entry_named files w id ≡ Some m
    → is_initialiser id.name ≡ false
called_plain files w id m e = not_far (is_initialiser id.name) (option_and_then (entry_in files id)
    (class_named w id.class)) m e

pub sent_plain : (files : Files) (w : List Class) (type : List ℕ) (id : MemberId) (m : Method)
    → sent_named files w type id ≡ Some m → is_initialiser id.name ≡ false
sent_plain files w type id m e =
    let one = then_some (λ f. option_and_then (sent_by files w (select_in w) type id) (method_hit w f))
    (find_method w id.class id.name id.desc) m e in
    let two = then_some (sent_by files w (select_in w) type id) (method_hit w one.0) m one.2 in
    let h = two.0 in
    let sendable = both_front (is_sendable id h) (is_subtype w type id.class) (is_true (is_sendable id h
    && is_subtype w type id.class) two.2) in
    is_false (is_initialiser id.name) (both_back (is_selectable h.flags && not (is_constructor id.name))
    (not (is_initialiser id.name)) sendable)
  where
    is_true : (b : Bool) → (if b then option_and_then (method_at files) (select_in w type id) else None) ≡ Some m
        → b ≡ true
    is_true true e = refl
    is_true false e = absurd cc

    is_false : (b : Bool) → not b ≡ true → b ≡ false
    is_false true e = absurd cc
    is_false false e = refl

module _ (files : Files) (solid : IsSolid files) where
  abbrev v : List Class
  v = all_classes files

  -- what is called is declared in the package
  called_own : (id : MemberId) (m : Method) → entry_named files v id ≡ Some m → IsOwnNamed files id
  called_own id m e =
      let r = called_method files solid id m e in
      let code = r.0 in
      let own = code.own in
      record {
        class = code.class;
        method = code.method;
        number = own.number;
        place = own.place;
        is_class = own.is_class;
        is_method = own.is_method;
        name = code.name;
        desc = code.desc;
      }

  -- and so is what is sent
  sent_own : (type : List ℕ) (id : MemberId) (m : Method) → sent_named files v type id ≡ Some m → IsOwnNamed files id
  unfolding selected
  sent_own type id m e =
      let x = receiver type in
      let one = then_some (λ f. option_and_then (sent_by files v (select_in v) type id) (method_hit v f))
      (find_method v id.class id.name id.desc) m e in
      let two = then_some (sent_by files v (select_in v) type id) (method_hit v one.0) m one.2 in
      let three = where_true (is_sendable id two.0 && is_subtype v type id.class) (option_and_then (method_at files)
      (select_in v type id)) m two.2 in
      let four = then_some (method_at files) (select_in v type id) m three in
      let g = four.0 in
      let has = first_has (own_method true id.name id.desc) (line v x) g four.1 in
      let d = has.0 in
      let on = of_line v solid.ordered.acyclic x d has.1 in
      let p = own_at true id.name id.desc d g has.2 in
      let n = p.member in
      let own : d.is_imported ≡ false = sym (ap (λ (f : Found). f.imported) p.is) ∙ not_far g.imported _ m four.2 in
      let k = own_tree files solid d p.place n (line_named v x d on) own p.is_member in
      record {
        class = k.0;
        method = k.1;
        number = d.number;
        place = p.place;
        is_class = k.2;
        is_method = k.3;
        name = sym (ap (λ (q : Member). q.name) k.5) ∙ p.has_name;
        desc = sym (ap (λ (q : Member). q.desc) k.5) ∙ p.has_desc;
      }

module _ (list : List ℕ) (files : Files) (codes : List MethodCode) (settings : Settings) (is : KeepsNames list files
    codes settings) (read : AreReadFiles files) (solid : IsSolid files) (root : IsReceiver (all_classes files) object)
    (image : StaticImage) (written : Method → NMethod) where
  abbrev w : List Class
  w = all_classes files

  abbrev l : Named
  l = named files image written

  -- a method of the package has a short descriptor
  own_short : (n k : ℕ) (t : ClassTree) (method : MethodTree) → slice_get files.classes n ≡ Some t
      → slice_get t.methods k ≡ Some method → length method.desc < 2 ^ 32
  own_short n k t method is_class is_method =
      let bytes = read.classes n t is_class in
      let few = spelt_fits t bytes.0 bytes.1 bytes.2 in
      let one = all_at fits.MethodFits t.methods k method few.methods is_method in
      let short = one.desc in omega (arith, short)

  -- what is sent to what may be there
  pub sent_to : (id : MemberId) (kind : Shape (List ℕ)) (m : Method) → IsMadeOf l kind → sent_named files w
      (shape_name kind) id ≡ Some m → IsSentTo files (receiver (shape_name kind)) id m
  sent_to id kind m made e = sent_method files solid (shape_name kind) (receiver_of files image written solid root
      kind made) id m e

  -- a method of the package has types that a package may use, and what it takes is there
  member_is : (id : MemberId) → IsOwnNamed files id → IsMemberFound files l id
  member_is id o =
      let t = o.class in
      let k = o.method in
      let short = own_short o.number o.place t k o.is_class o.is_method in
      let parsed = (let r = read_of files read o.number t o.is_class in r.methods) o.place k o.is_method in
      let fine = method_kept list files codes settings is.checks o.number t o.is_class o.place k o.is_method in
      let kept = own_kept files list is.listed is.world o.number t o.is_class in
      let there = (kept.methods o.place k o.is_method).1 in
      record {
        desc = subst (IsUsable true) o.desc (record {
          types = parsed.0;
          short = short;
          is_desc = parsed.1;
          of_method = parsed.2;
          supported = fine.0;
        });
        known = subst (λ d. AllByRecursion (λ type. (kind : Shape (List ℕ)) → type ≡ Reference kind
            → IsThere w kind) (let types = types_of d in types.params)) o.desc (params_there w k.desc short
            (parts_are k.desc parsed.0 short parsed.1) there);
        is_called = λ m e. called_method files solid id m e;
        is_sent = λ kind m made e. (let s = sent_to id kind m made e in (s.code, s.on_object));
        receives = λ kind m made e. (let s = sent_to id kind m made e in let code = s.code in let own = code.own in
            let open_name = solid.plain (let c = code.class in c.name) _ (class_by_name files list is.listed is.world
            own.number code.class own.is_class) in
            subst (λ n. is_subtype w (shape_name kind) n ≡ true) (sym (ap (λ (n : Method). let i = n.id in i.class)
            code.is)) (below_type w (shape_name kind) (let c = code.class in c.name) open_name s.below));
      }

  pub script_is : (id : MemberId) → IsScriptFound files l id
  script_is id = ⊎_elim
      (λ yes. finds_member (member_is id (declared_one files id yes)))
      (λ no. finds_none
      (none_where (entry_named files w id) (λ m e. declared_none files id no (called_own files solid id m e)))
      (λ kind made. none_where (sent_named files w (shape_name kind) id) (λ m e. declared_none files id no
      (sent_own files solid (shape_name kind) id m e))))
      (true_or_false (list_any (λ t. declares id t) files.classes))
