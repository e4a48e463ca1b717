-- Headers of a converted package have the words of their methods' types, and none is abstract of a method with code.
use Rattle.std.proofs.Common.{◌≡◌, ⊎_elim, ℕ, zero, suc, ◌+◌, ◌-◌, ◌≤◌, ◌==◌, refl, sym, ap, subst, ◌∙◌, arith}
use Rattle.std.proofs.Common.{Bool, true, false, List, [], ◌∷◌, ◌++◌, length, map, Option, Some, None}
use Rattle.std.specs.Prelude.{◌&&◌, ◌||◌, not, flat_map, if◌then◌else◌, option_and_then, option_map, slice_get}
use Rattle.std.specs.List.{list_all, list_any}
use Rattle.std.proofs.lemmas.List.{length-map}
use Rattle.std.proofs.lemmas.List.Concat.{flat_map-cons}
use Rattle.std.proofs.lemmas.Map.Keys.{any_passes_from_place}
use Rattle.cjc_verified_proof.specs.Bytecode.declared.method_code.MethodCode.{MethodCode}
use Rattle.cjc_verified_proof.specs.Bytes.AccessFlags.{is_abstract, is_interface, is_static}
use Rattle.cjc_verified_proof.specs.Bytes.Descriptor.{Parts}
use Rattle.cjc_verified_proof.specs.Bytes.declared.fault.MemberId.{MemberId}
use Rattle.cjc_verified_proof.specs.Bytes.Spots.{desc_of}
use Rattle.cjc_verified_proof.proofs.BytesBools.{not_true}
use Rattle.cjc_verified_proof.proofs.BytesGets.{all_at, find_got, mapped_at}
use Rattle.cjc_verified_proof.proofs.BytesNumbers.{like_number, number_same}
use Rattle.cjc_verified_proof.proofs.BytesPlain.{same_some}
use Rattle.cjc_verified_proof.specs.CapRead.declared.tree.ClassDescriptor.{ClassDescriptor}
use Rattle.cjc_verified_proof.specs.CapRead.declared.tree.ClassRef.{ClassRef}
use Rattle.cjc_verified_proof.specs.CapRead.declared.tree.MethodDescriptor.{MethodDescriptor}
use Rattle.cjc_verified_proof.specs.CapRead.declared.tree.TypeDescriptor.{TypeDescriptor}
use Rattle.cjc_accepted_proof.specs.CardActs.CardTypes.{MemberType, type_at, type_by, type_of, types_in, width, widths}
use Rattle.cjc_verified_proof.specs.CardSemantics.Bytecode.Arguments as sorts
use Rattle.cjc_verified_proof.specs.CardSemantics.Bytecode.Machine.{Start}
use Rattle.cjc_verified_proof.specs.CardSemantics.Machine.Methods.{Code, start_at, start_of}
use Rattle.cjc_accepted_proof.proofs.CheckProofSupers.{in_place}
use Rattle.cjc_accepted_proof.proofs.CheckProofLists.{has-back, has-flat, has-front, has-map}
use Rattle.cjc_accepted_proof.proofs.CheckProofTypes.{type_begins}
use Rattle.cjc_accepted_proof.proofs.CheckProofOwnClasses.{own_classes}
use Rattle.cjc_verified_proof.specs.CheckRules.Codes.{whole_spots}
use Rattle.cjc_verified_proof.specs.CheckRules.Instructions.{jump_spots}
use Rattle.cjc_verified_proof.specs.CheckRules.Spots.{in_info, item_at, unless}
use Rattle.cjc_verified_proof.specs.CheckRules.Described.{types_at}
use Rattle.cjc_verified_proof.specs.ClassFile.Code.{CodeTree}
use Rattle.cjc_verified_proof.specs.ClassFile.declared.tree.ClassTree.{ClassTree}
use Rattle.cjc_verified_proof.specs.ClassFile.declared.tree.MethodTree.{MethodTree}
use Rattle.cjc_verified_proof.specs.Components.Descriptor.{as_added, class_descriptor, descriptor, method_descriptor}
use Rattle.cjc_verified_proof.specs.Components.Descriptor.{method_in}
use Rattle.cjc_verified_proof.specs.Components.Methods.{method_offset}
use Rattle.cjc_verified_proof.specs.Components.Names.{class_ref}
use Rattle.cjc_verified_proof.specs.Components.Package.{Package, has_applets, pool, world}
use Rattle.cjc_verified_proof.specs.Components.Class.{fields_of}
use Rattle.cjc_verified_proof.specs.Components.Types.{all_descs, desc_of_field, desc_of_key, descs_of_class, nibbles_by}
use Rattle.cjc_verified_proof.specs.Components.Types.{nibbles_of}
use Rattle.cjc_verified_proof.specs.Components.Types.{type_offset}
use Rattle.cjc_verified_proof.specs.Components.Written.{added_words}
use Rattle.cjc_verified_proof.specs.JvmSemantics.Linked.{Method}
use Rattle.cjc_verified_proof.specs.JvmSemantics.OnePackage.{method_at, method_by}
use Rattle.cjc_verified_proof.specs.JvmSemantics.OnePackage as by_file
use Rattle.cjc_verified_proof.specs.NCode.Lowering.Placed.{start_on_card}
use Rattle.cjc_verified_proof.specs.Narrow.Rows.Package.{flags_of}
use Rattle.cjc_verified_proof.specs.Narrow.Rows.Resolved.{argument_words, method_found, parameter_words}
use Rattle.cjc_verified_proof.specs.Script.Sorts.{Boolean, Byte, Int, NoValue, Reference, Short, Signature, Sort}
use Rattle.cjc_verified_proof.specs.Script.Sorts.{result_by}
use Rattle.cjc_verified_proof.specs.Script.Sorts.{signature_by, signature_of, sort_of}
use Rattle.cjc_narrow_proof.proofs.LawsLaws.Own.{flags_by_name}
use Rattle.cjc_theorem.proofs.ShapeProofDescs.{member_desc}
use Rattle.cjc_theorem.proofs.ShapeProofMeant.{added_method}
use Rattle.cjc_theorem.proofs.ShapeProofOrder.{order_filed}
use Rattle.cjc_shape_proof.proofs.WrittenLaws.Checked.{files_sound, own_solid, read_files}
use Rattle.cjc_theorem.specs.LowerJudge.declared.judged.Judged.{Judged}
use Rattle.cjc_theorem.specs.ShapeProof.Written.Checked.{IsOfFiles}
use Rattle.cjc_theorem.specs.ShapeProof.Written.LaidOut.{IsLaidOut}
use Rattle.cjc_verified_proof.proofs.TokenProofClean.{own_name}
use Rattle.cjc_verified_proof.proofs.TokenProofOrder.{kind-in, order_has, order_in, own_names}
use Rattle.cjc_verified_proof.proofs.TokenProofWrittenCallsBegins.{same_itself}
use Rattle.cjc_verified_proof.proofs.TokenProofWrittenCallsWords.{Counts}
use Rattle.cjc_verified_proof.specs.TokenProof.Calls.Reaching.{BeginsAtOffsets, is_in_method, is_same}
use Rattle.cjc_verified_proof.specs.List.Listed.{ListTree}
use Rattle.cjc_verified_proof.specs.TokenProof.Tables.Sound.{IsSound}
use Rattle.cjc_verified_proof.specs.TokenProof.Tables.Loading.{components, loaded, naming}
use Rattle.cjc_verified_proof.specs.TokenProof.WrittenCalls.Standing.{place}
use Rattle.cjc_verified_proof.proofs.BodyLaws.{body_stands}
use Rattle.cjc_verified_proof.proofs.DescribedLaws.{either_part}
use Rattle.cjc_verified_proof.proofs.MethodLaws.{body_starts}
use Rattle.cjc_verified_proof.proofs.TokenProofWrittenCallsFlags.{static_same}
use Rattle.cjc_verified_proof.proofs.TypeLaws.{method_read, type_for}
use Rattle.cjc_verified_proof.specs.Verify.Bodies.{Body, bodies}
use Rattle.cjc_verified_proof.specs.Verify.Headers.{header_spots}
use Rattle.cjc_verified_proof.specs.Verify.Headers as headers
use Rattle.cjc_verified_proof.specs.Verify.Named.{holds}
use Rattle.cjc_verified_proof.specs.Verify.Pairs.{Described, Pair, described, is_card_result}
use Rattle.cjc_verified_proof.specs.Verify.Pairs.{is_card_sort, is_card_type, is_method_at}
use Rattle.cjc_verified_proof.specs.Verify.Pairs as pairs
use Rattle.cjc_verified_proof.specs.Tokens.Members.{is_initialiser}
use Rattle.cjc_theorem.proofs.VTableFiled.{Has, at_front, behind, get-has, has-get}
use Rattle.cjc_verified_proof.specs.World.Added.{added, without_initialiser}
use Rattle.cjc_verified_proof.specs.ExportFile.Members.{as_desc, same_bool}
use Rattle.cjc_verified_proof.specs.World.Classes.{Class, Member, class_at, class_named, declared}
use Rattle.cjc_verified_proof.specs.World.Classes.{field_of_class}
use Rattle.cjc_verified_proof.specs.World.Classes.{method_of_class}
use Rattle.cjc_verified_proof.specs.World.Lookup.{member_at}
use Rattle.cjc_verified_proof.specs.World.Order.{class_order, in_order, method_order, methods_in_turn, methods_of_class}
use Rattle.cjc_verified_proof.specs.World.declared.found.Found.{Found}
use Rattle.cjc_accepted_proof.specs.Accepted.{HeadersFit}
use Rattle.cjc_accepted_proof.specs.Carded.{HasCardTypes, IsOnCard}
use Rattle.cjc_accepted_proof.specs.Written.{written_pair}
use Rattle.cjc_accepted_proof.proofs.DescribedLaws.{type_there}
use Rattle.cjc_accepted_theorem.specs.Begins.{Begins}
use Rattle.cjc_accepted_theorem.proofs.MethodsLaws.{IsMethodOf, IsSaid, all_said, method_from, of_file, of_interfaces}

-- ---- lists

flat_none : {A B : Type 0} (f : A → List B) (xs : List A) → ((k : ℕ) (x : A) → slice_get xs k ≡ Some x → f x ≡ [])
    → flat_map f xs ≡ []
flat_none f [] h = refl
flat_none f (x ∷ xs) h = flat_map-cons f x xs ∙ ap (λ ys. ys ++ flat_map f xs) (h 0 x refl) ∙ flat_none f xs (λ k y e.
    h (suc k) y e)

pub past_end : {A : Type 0} (xs : List A) (k : ℕ) → length xs ≤ k → slice_get xs k ≡ None
past_end [] k le = refl
past_end (x ∷ xs) zero le = absurd (omega (arith, le))
past_end (x ∷ xs) (suc k) le = past_end xs k (omega (arith, le))

any_in_front : {A : Type 0} (test : A → Bool) (xs ys : List A) → list_any test xs ≡ true → list_any test (xs ++ ys)
    ≡ true
any_in_front test [] ys e = absurd cc
any_in_front test (x ∷ xs) ys e = by (test x) e (any_in_front test xs ys)
  where
    by : (b : Bool) → (b || list_any test xs) ≡ true → (list_any test xs ≡ true → list_any test (xs ++ ys) ≡ true)
        → (b || list_any test (xs ++ ys)) ≡ true
    by true f more = refl
    by false f more = more f

any_behind : {A : Type 0} (test : A → Bool) (xs ys : List A) → list_any test ys ≡ true → list_any test (xs ++ ys)
    ≡ true
any_behind test [] ys e = e
any_behind test (x ∷ xs) ys e = by (test x) (any_behind test xs ys e)
  where
    by : (b : Bool) → list_any test (xs ++ ys) ≡ true → (b || list_any test (xs ++ ys)) ≡ true
    by true f = refl
    by false f = f

in_turn : (w : List Class) (test : Found → Bool) (cs : List Class) (k : ℕ) (c : Class) → slice_get cs k ≡ Some c
    → list_any test (methods_of_class w c) ≡ true → list_any test (methods_in_turn w cs) ≡ true
in_turn w test [] k c e any = absurd cc
in_turn w test (d ∷ cs) zero c e any = any_in_front test (methods_of_class w d) (methods_in_turn w cs)
    (ap (λ x. list_any test (methods_of_class w x)) (same_some e) ∙ any)
in_turn w test (d ∷ cs) (suc k) c e any = any_behind test (methods_of_class w d) (methods_in_turn w cs)
    (in_turn w test cs k c e any)

-- ---- words

word_sort : (ref : List ℕ → ClassRef) (s : Sort) → is_card_sort s ≡ true → width (type_for ref s) ≡ sorts.width s
word_sort ref Boolean e = refl
word_sort ref Byte e = refl
word_sort ref Short e = refl
word_sort ref Int e = refl
word_sort ref (Reference shape) e = refl
word_sort ref NoValue e = absurd cc

two : (a b : Bool) → (a && b) ≡ true → (a ≡ true) × (b ≡ true)
two true b e = (refl, e)
two false b e = absurd cc

pub word_sorts : (ref : List ℕ → ClassRef) (ss : List Sort) → list_all is_card_sort ss ≡ true
    → widths (map (type_for ref) ss) ≡ sorts.widths ss
word_sorts ref [] e = refl
word_sorts ref (s ∷ ss) e =
    let b = two (is_card_sort s) (list_all is_card_sort ss) e in
    ap (λ n. n + widths (map (type_for ref) ss)) (word_sort ref s b.0)
    ∙ ap (λ n. sorts.width s + n) (word_sorts ref ss b.1)

-- the type that a type descriptor says
pub said_type : (o : Option TypeDescriptor) (ns : List ℕ) → option_map (λ (t : TypeDescriptor). t.nibbles) o ≡ Some ns
    → type_of o ≡ type_by (types_in ns)
said_type None ns e = absurd cc
said_type (Some t) ns e = ap (λ xs. type_by (types_in xs)) (same_some e)

-- ---- a converted package

module _ (list : ListTree) (codes : List MethodCode) (p : Package) (is : IsOfFiles list codes p) where
  abbrev w : List Class
  w = world p

  abbrev q : Pair
  q = written_pair p

  abbrev sound : IsSound list.name p.files
  sound = files_sound list codes p is.checked

  -- each method of each class of the package that is no interface begins as it should
  abbrev pub ClassesBegin : Type 0
  ClassesBegin = (k : ℕ) (d : Class) → slice_get (class_order w) k ≡ Some d → is_interface d.flags ≡ false
      → (j : ℕ) (f : Found) → slice_get (methods_of_class w d) j ≡ Some f → Begins p d f

  -- what begins where a method that its class got stands
  abbrev pub AddedBegin : Type 0
  AddedBegin = (f : Found) → f.imported ≡ false → is_in_method w f ≡ true → method_at p.files f ≡ None
      → (s : Start Code) × (start_of (loaded p) 0 (method_offset p f) ≡ Some s) × (s.is_abstract ≡ true)
      × (s.nargs ≡ added_words w f (class_at w f.imported f.class))

  id_of : (t : ClassTree) (x : MethodTree) (o : Option CodeTree) → (let k = method_by t x o in k.id) ≡ record {
    class = t.name;
    name = x.name;
    desc = x.desc;
  }
  id_of t x None = refl
  id_of t x (Some tree) = refl

  found_flags : (n i : ℕ) (t : ClassTree) (x : MethodTree) → (let v = p.files in slice_get v.classes n ≡ Some t)
      → slice_get t.methods i ≡ Some x → flags_of (method_found w (record {
        class = t.name;
        name = x.name;
        desc = x.desc;
      })) ≡ x.flags
  found_flags n i t x e f =
      let its = is.checked in
      flags_by_name p.files list.name its.listed its.unbroken n t e i x f

  -- code stands where a method is not abstract
  bare_one : (t : ClassTree) (x : MethodTree) (n i : ℕ) → (let v = p.files in slice_get v.classes n ≡ Some t)
      → slice_get t.methods i ≡ Some x → (let k = method_by t x x.code in k.is_abstract ≡ true) → is_abstract x.flags
      ≡ true
  bare_one t x n i e f a = by (is_abstract x.flags) refl
    where
      by : (b : Bool) → is_abstract x.flags ≡ b → b ≡ true
      by true g = refl
      by false g =
          let solid = own_solid list codes p is.checked in
          let c = solid.coded t x (record { number = n; place = i; is_class = e; is_method = f }) g in
          let no : (let k = method_by t x x.code in k.is_abstract) ≡ false = ap (λ o. let k = method_by t x o
          in k.is_abstract) c.1 in
          absurd (clash (let k = method_by t x x.code in k.is_abstract) a no)
        where
          clash : (b : Bool) → b ≡ true → b ≡ false → ⊥
          clash true g h = cc
          clash false g h = cc

  module _ (begins : BeginsAtOffsets p.files w (naming p) (method_offset p) (place p)) (counts : Counts p (place p))
      (added_begins : AddedBegin) where
    -- a method of a class file
    own_begun : (n : ℕ) (t : ClassTree) → (let v = p.files in slice_get v.classes n ≡ Some t) → (i : ℕ) (m : Member)
        → (let c = declared n t in slice_get c.methods i ≡ Some m) → (f : Found) → (let c = declared n t in f
        ≡ member_at c (length c.fields + i)) → is_in_method w f ≡ true → method_in w (declared n t) f.member ≡ m
        → Begins p (declared n t) f
    own_begun n t e i m there f is_f inside same =
        let c = declared n t in
        let r = mapped_at method_of_class t.methods i m there in
        let x = r.0 in
        let k : Method = method_by t x x.code in
        let g = member_at c (length c.fields + i) in
        let many : length c.fields ≡ length t.fields = length-map t.fields field_of_class in
        let left : length c.fields + i - length t.fields ≡ i = omega (arith, many) in
        let named : method_at p.files f ≡ Some k =
        ap (method_at p.files) is_f
        ∙ ap (option_and_then (by_file.method_in (length c.fields + i))) e
        ∙ ap (λ j. option_map (λ (y : MethodTree). method_by t y y.code) (slice_get t.methods j)) left
        ∙ ap (option_map (λ (y : MethodTree). method_by t y y.code)) r.1 in
        let x_desc : x.desc ≡ m.desc = ap (λ (y : Member). y.desc) r.2 in
        let x_flags : x.flags ≡ m.flags = ap (λ (y : Member). y.flags) r.2 in
        let began = begins f k inside named in
        record {
          start = start_on_card (naming p) k.is_abstract (place p k);
          starts = began;
          words = counts f k inside named
              ∙ ap (λ (id : MemberId). argument_words (flags_of (method_found w id)) id.desc) (id_of t x x.code)
              ∙ ap (λ fl. argument_words fl x.desc) (found_flags n i t x e r.1)
              ∙ ap (λ fl. argument_words fl x.desc) x_flags ∙ ap (argument_words m.flags) x_desc
              ∙ ap (λ (y : Member). argument_words y.flags y.desc) (sym same);
          bare = λ a. ap (λ (y : Member). is_abstract y.flags) same ∙ ap is_abstract (sym x_flags)
              ∙ bare_one t x n i e r.1 a;
        }

    -- one that its class got
    got_begun : (n : ℕ) (t : ClassTree) → (let v = p.files in slice_get v.classes n ≡ Some t) → (i : ℕ) (m : Member)
        → (f : Found) → (let c = declared n t in f ≡ member_at c (length c.fields + (length c.methods + i)))
        → is_in_method w f ≡ true → class_at w false n ≡ Some (declared n t)
        → method_in w (declared n t) f.member ≡ as_added m → Begins p (declared n t) f
    got_begun n t e i m f is_f inside numbered same =
        let c = declared n t in
        let fields : length c.fields ≡ length t.fields = length-map t.fields field_of_class in
        let methods : length c.methods ≡ length t.methods = length-map t.methods method_of_class in
        let past : length t.methods ≤ length c.fields + (length c.methods + i) - length t.fields =
        omega (arith, fields, methods) in
        let none : method_at p.files f ≡ None =
        ap (method_at p.files) is_f
        ∙ ap (option_and_then (by_file.method_in (length c.fields + (length c.methods + i)))) e
        ∙ ap (option_map (λ (y : MethodTree). method_by t y y.code)) (past_end t.methods (length c.fields + (length
        c.methods + i) - length t.fields) past) in
        let s = added_begins f (ap (λ (g : Found). g.imported) is_f) inside none in
        let class : class_at w f.imported f.class ≡ Some c = ap (λ (g : Found). class_at w g.imported g.class) is_f
        ∙ numbered in
        record {
          start = s.0;
          starts = s.1;
          words = s.3 ∙ ap (added_words w f) class;
          bare = λ a. ap (λ (y : Member). is_abstract y.flags) same;
        }

    -- a method of a class of the package
    pub class_begun : ClassesBegin
    unfolding method_order
    class_begun k d here plain j f e =
        let there = get-has d (class_order w) k here in
        let o = order_in list.name p.files sound d there in
        let t = order_filed p.files d there in
        let solid = own_solid list codes p is.checked in
        let named = own_name list.name p.files sound d o.0 in
        let numbered : class_at w false d.number ≡ Some d = ap (λ b. class_at w b d.number) (sym o.1)
        ∙ solid.numbered d.name d named in
        let at = has-get d (in_order w false) (in_place list.name p sound d false o.0 o.1 plain) in
        by d t.0 t.1 t.2 o.1 numbered (λ own. in_turn w (is_same f) (in_order w false) at.0 d at.1
        (any_passes_from_place (is_same f) (methods_of_class w d) j f e (same_itself f own))) (method_from w d j f e)
      where
        by : (d : Class) (t : ClassTree) → (let v = p.files in slice_get v.classes d.number ≡ Some t) → d
            ≡ declared d.number t → d.is_imported ≡ false → class_at w false d.number ≡ Some d → (f.imported ≡ false
            → is_in_method w f ≡ true) → IsMethodOf w d f → Begins p d f
        by d t here filed own numbered inside (of_file i m is_m is_f same no_init) =
            let in_it = inside (ap (λ (g : Found). g.imported) is_f ∙ own) in
            subst (λ (c : Class). Begins p c f) (sym filed) (own_begun d.number t here i m (sym (ap (λ (c : Class).
            slice_get c.methods i) filed) ∙ is_m) f (is_f ∙ ap (λ (c : Class). member_at c (length c.fields + i)) filed)
            in_it (sym (ap (λ (c : Class). method_in w c f.member) filed) ∙ same))
        by d t here filed own numbered inside (of_interfaces i m is_m is_f same) =
            let in_it = inside (ap (λ (g : Found). g.imported) is_f ∙ own) in
            subst (λ (c : Class). Begins p c f) (sym filed) (got_begun d.number t here i m f (is_f ∙ ap (λ (c : Class).
            member_at c (length c.fields + (length c.methods + i))) filed) in_it (numbered ∙ ap Some filed)
            (sym (ap (λ (c : Class). method_in w c f.member) filed) ∙ same))

  module _ (class_begun : ClassesBegin) where
    -- ---- methods of Descriptor

    -- each is that of its class
    record IsOf (cs : List Class) (m : MethodDescriptor) : Type 0 where
      class : Class
      number : ℕ
      is_class : slice_get cs number ≡ Some class
      place_in : ℕ
      found : Found
      is_found : slice_get (methods_of_class w class) place_in ≡ Some found
      same : method_descriptor p class found ≡ m

    later : (c : Class) (cs : List Class) (m : MethodDescriptor) → IsOf cs m → IsOf (c ∷ cs) m
    later c cs m r = record {
      class = r.class;
      number = suc r.number;
      is_class = r.is_class;
      place_in = r.place_in;
      found = r.found;
      is_found = r.is_found;
      same = r.same;
    }

    method_of : (cs : List Class) (k : ℕ) (m : MethodDescriptor) → slice_get (flat_map (λ (d : ClassDescriptor).
        d.methods)
        (map (class_descriptor p) cs)) k ≡ Some m → IsOf cs m
    method_of [] k m e = absurd cc
    method_of (c ∷ cs) k m e =
        let rest = flat_map (λ (d : ClassDescriptor). d.methods) (map (class_descriptor p) cs) in
        let first = map (method_descriptor p c) (methods_of_class w c) in
        ⊎_elim
        (λ a. (
        let r = mapped_at (method_descriptor p c) (methods_of_class w c) k m a in
        record {
          class = c;
          number = 0;
          is_class = refl;
          place_in = k;
          found = r.0;
          is_found = r.1;
          same = r.2;
        }
        ))
        (λ b. later c cs m (method_of cs b.0 m b.1))
        (either_part first rest k m (sym (ap (λ ms. slice_get ms k) (flat_map-cons (λ (d : ClassDescriptor). d.methods)
        (class_descriptor p c) (map (class_descriptor p) cs))) ∙ e))

    -- ---- descriptors of methods

    kept_there : (ms : List Member) (i : ℕ) (m : Member) → slice_get ms i ≡ Some m → is_initialiser m.name ≡ false
        → Has m (without_initialiser ms)
    kept_there [] i m e plain = absurd cc
    kept_there (x ∷ ms) i m e plain = by (is_initialiser x.name) refl i e (λ j f. kept_there ms j m f plain)
      where
        by : (b : Bool) → is_initialiser x.name ≡ b → (i : ℕ) → slice_get (x ∷ ms) i ≡ Some m → ((j : ℕ) → slice_get ms
            j ≡ Some m → Has m (without_initialiser ms)) → Has m (if b then without_initialiser ms
            else x ∷ without_initialiser ms)
        by true g zero f rest = let no : is_initialiser x.name ≡ false = ap (λ (y : Member). is_initialiser y.name)
            (same_some f) ∙ plain in absurd cc
        by true g (suc j) f rest = rest j f
        by false g zero f rest = subst (λ (y : Member). Has y (x ∷ without_initialiser ms)) (same_some f) at_front
        by false g (suc j) f rest = behind (rest j f)

    -- it is among those that types are written for
    pub listed_desc : (d : Class) → Has d (class_order w) → (f : Found) → IsMethodOf w d f
        → Has (let m = method_in w d f.member in m.desc) (all_descs p)
    listed_desc d there f of =
        has-back (let m = method_in w d f.member in m.desc) (flat_map desc_of_key (pool p)) _ (has-flat
        (descs_of_class p) d (let m = method_in w d f.member in m.desc) (class_order w) there (has-back
        (let m = method_in w d f.member in m.desc) (flat_map desc_of_field (fields_of p.files d)) _ (by of)))
      where
        by : IsMethodOf w d f → Has (let m = method_in w d f.member in m.desc) (map (λ (m : Member). m.desc)
            (without_initialiser d.methods) ++ map (λ (m : Member). m.desc) (added w d))
        by (of_file i m is_m is_f same plain) = subst (λ (y : Member). Has y.desc (map (λ (m : Member). m.desc)
            (without_initialiser d.methods) ++ map (λ (m : Member). m.desc) (added w d))) (sym same) (has-front
            m.desc _ _ (has-map (λ (m : Member). m.desc) m (without_initialiser d.methods)
            (kept_there d.methods i m is_m
            plain)))
        by (of_interfaces i m is_m is_f same) = subst (λ (y : Member). Has y.desc (map (λ (m : Member). m.desc)
            (without_initialiser d.methods) ++ map (λ (m : Member). m.desc) (added w d))) (sym same) (has-back m.desc
            (map (λ (m : Member). m.desc) (without_initialiser d.methods)) _ (has-map (λ (m : Member). m.desc) m
            (added w d) (get-has m (added w d) i is_m)))

    -- a descriptor of a method has types
    types_there : (desc : List ℕ) (parts : Parts) → desc_of desc ≡ Some parts → parts.is_method ≡ true
        → (s : Signature) × (signature_of desc ≡ Some s)
    types_there desc parts e m =
        let s : Signature = record {
          params = map sort_of parts.params;
          result = (let r = parts.result in result_by r.kind r);
        } in
        (s, ap (option_and_then signature_by) e ∙ ap (λ b. if b then Some s else None) m)

    written_types : (desc : List ℕ) → as_desc true desc ≡ Some desc → (s : Signature) × (signature_of desc ≡ Some s)
    written_types desc e = by (desc_of desc) refl e
      where
        go : (d : Parts) → desc_of desc ≡ Some d → (b : Bool) → d.is_method ≡ b → (if same_bool true b then Some desc
            else None) ≡ Some desc → (s : Signature) × (signature_of desc ≡ Some s)
        go d f true g h = types_there desc d f g
        go d f false g h = absurd cc

        by : (o : Option Parts) → desc_of desc ≡ o → option_and_then (λ d. if same_bool true d.is_method then Some desc
            else None) o ≡ Some desc → (s : Signature) × (signature_of desc ≡ Some s)
        by None f g = absurd cc
        by (Some d) f g = go d f d.is_method refl g

    signed : (files : List (List ℕ)) (judged : Judged) → IsLaidOut list files judged p → (d : Class)
        → class_named w d.name ≡ Some d → (f : Found) → IsMethodOf w d f → (s : Signature)
        × (signature_of (let m = method_in w d f.member in m.desc) ≡ Some s)
    signed files judged laid d named f (of_file i m is_m is_f same plain) =
        let r = member_desc p.files (read_files list codes p is.checked) d named i m is_m in
        let t = r.0 in
        subst (λ (y : Member). (s : Signature) × (signature_of y.desc ≡ Some s)) (sym same) (types_there m.desc t.0 t.1
        t.2)
    signed files judged laid d named f (of_interfaces i m is_m is_f same) =
        let r = (added_method list files judged p laid d.name d named i m is_m).0 in
        subst (λ (y : Member). (s : Signature) × (signature_of y.desc ≡ Some s)) (sym same) (written_types m.desc
        r.is_desc)

    -- ---- headers

    module _ (whole : whole_spots (components p) ≡ []) (jump : jump_spots (components p) ≡ [])
        (card : HasCardTypes p) (files : List (List ℕ)) (judged : Judged) (laid : IsLaidOut list files judged p) where
      card_both : (desc : List ℕ) (s : Signature) → signature_of desc ≡ Some s → IsOnCard desc
          → (list_all is_card_sort s.params && is_card_result s.result) ≡ true
      card_both desc s e on = sym (ap (is_card_type desc) e) ∙ on

      -- the words of the type that Descriptor gives a method
      words_said : (desc : List ℕ) → Has desc (all_descs p) → IsOnCard desc → (s : Signature)
          → signature_of desc ≡ Some s → widths (let t = type_at (descriptor p) (type_offset p desc) in t.params)
          ≡ parameter_words (signature_of desc)
      words_said desc there on s e =
          let types = type_there p desc (type_begins p desc there).0 in
          let both = card_both desc s e on in
          ap (λ (t : MemberType). widths t.params) (said_type (item_at (types_at (descriptor p)) (type_offset p desc))
          (nibbles_of p desc) types
          ∙ ap (λ o. type_by (types_in (nibbles_by (class_ref p) desc o))) e ∙ method_read (class_ref p) desc s both)
          ∙ word_sorts (class_ref p) s.params (two (list_all is_card_sort s.params) (is_card_result s.result) both).0
          ∙ sym (ap parameter_words e)

      arguments_same : (d : Class) (f : Found) (m : MethodDescriptor) → method_descriptor p d f ≡ m → Has
          (let x = method_in w d f.member in x.desc) (all_descs p) → IsOnCard (let x = method_in w d f.member in x.desc)
          → (s : Signature) → signature_of (let x = method_in w d f.member in x.desc) ≡ Some s
          → (if is_static m.flags then 0 else 1) + widths (let t = type_at (descriptor p) m.type_offset in t.params)
          ≡ (let x = method_in w d f.member in argument_words x.flags x.desc)
      arguments_same d f m same there on s e =
          let x = method_in w d f.member in
          ap (λ (y : MethodDescriptor). (if is_static y.flags then 0 else 1) + widths (let t = type_at (descriptor p)
          y.type_offset in t.params)) (sym same)
          ∙ ap (λ b. (if b then 0 else 1) + widths (let t = type_at (descriptor p) (type_offset p x.desc) in t.params))
          (static_same x)
          ∙ ap (λ n. (if is_static x.flags then 0 else 1) + n) (words_said x.desc there on s e)

      -- a method that begins abstract is abstract in the package
      no_code : (off : ℕ) (s : Start Code) → start_of (loaded p) 0 off ≡ Some s → s.is_abstract ≡ true
          → (o : Option Described) → pairs.method_at q off ≡ o → holds (headers.has_code q) o ≡ false
      no_code off s e a None f = refl
      no_code off s e a (Some d) f =
          let got = find_got (is_method_at off) (described q) d f in
          let said = all_at (IsSaid p (class_order w)) (described q) got.0 d (all_said p (class_order w)) got.1 in
          by d got.2 said
        where
          by : (d : Described) → is_method_at off d ≡ true → IsSaid p (class_order w) d → headers.has_code q d ≡ false
          by d test said =
              let k = d.class in
              let m = d.method in
              let parts = two (not (is_interface k.flags)) (m.offset == off) test in
              let plain = not_true (is_interface k.flags) parts.0 in
              let b = class_begun said.0 d.class said.1 plain said.2 d.member said.3 in
              let at : method_offset p d.member ≡ off = sym said.4 ∙ number_same m.offset off parts.1 in
              let same : b.start ≡ s = same_some (sym b.starts ∙ ap (start_of (loaded p) 0) at ∙ e) in
              ap not (b.bare (ap (λ (x : Start Code). x.is_abstract) same ∙ a))

      fits : (h_abstract : Bool) (b c : Bool) → b ≡ true → (h_abstract ≡ true → c ≡ false) → (b && not (h_abstract
          && c)) ≡ true
      fits true true c e f = ap not (f refl)
      fits false true c e f = refl
      fits h false c e f = absurd cc

      one_header : (k : ℕ) (b : Body) → slice_get (bodies (components p)) k ≡ Some b → header_spots q b ≡ []
      one_header k b e =
          let c = components p in
          let s = body_stands c whole k b e in
          let apart = own_names list.name p.files sound in
          let md = b.method in
          let of = method_of (in_order w false) k md (sym (ap (λ ms. slice_get ms k) (ap (flat_map (λ (d :
          ClassDescriptor). d.methods)) (own_classes p apart))) ∙ s.method) in
          let d = of.class in
          let f = of.found in
          let kind = kind-in list.name p.files sound false d (get-has d (in_order w false) of.number of.is_class) in
          let plain = not_true (is_interface d.flags) kind.2 in
          let listed = order_has list.name p.files sound d kind.0 kind.1 in
          let method = method_from w d of.place_in f of.is_found in
          let named = own_name list.name p.files sound d kind.0 in
          let ordered = has-get d (class_order w) listed in
          let begun = class_begun ordered.0 d ordered.1 plain of.place_in f of.is_found in
          let begins_here = body_starts (has_applets p) p.files p.image c whole jump k b e in
          let offset : md.offset ≡ method_offset p f = ap (λ (x : MethodDescriptor). x.offset) (sym of.same) in
          let same : start_at 0 md.offset b.header md ≡ begun.start = same_some (sym begins_here ∙ ap (start_of
          (loaded p) 0) offset ∙ begun.starts) in
          let sign = signed files judged laid d named f method in
          let place_of_class = has-get d (class_order w) listed in
          let on = card.methods place_of_class.0 d place_of_class.1 of.place_in f of.is_found in
          let words : (let h = b.header in h.nargs) ≡ headers.argument_words q b =
          ap (λ (x : Start Code). x.nargs) same ∙ begun.words ∙ sym (arguments_same d f md of.same (listed_desc d listed
          f method) on sign.0 sign.1) in
          let h = b.header in
          ap (λ t. unless t (in_info 7 md.offset)) (fits h.is_abstract (h.nargs == headers.argument_words q b)
          (holds (headers.has_code q) (pairs.method_at q md.offset)) (ap (λ n. n == headers.argument_words q b) words
          ∙ like_number (headers.argument_words q b)) (λ a. no_code md.offset (start_at 0 md.offset h md) begins_here a
          (pairs.method_at q md.offset) refl))

      pub headers_fit : HeadersFit p
      headers_fit = flat_none (header_spots q) (bodies (components p)) one_header
