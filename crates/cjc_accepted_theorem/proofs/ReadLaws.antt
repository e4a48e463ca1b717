-- Methods of Method of a converted package that are written for methods of class files with code: the type checker
-- reads of each the header, the result and the arguments that its class file says.
use Rattle.std.proofs.Common.{◌≡◌, ℕ, zero, suc, ◌+◌, ◌-◌, ◌≤◌, ◌<◌, ◌^◌, refl, sym, ap, subst, ◌∙◌, arith, Bool, true}
use Rattle.std.proofs.Common.{false, List, [], ◌∷◌, ◌++◌, length, map}
use Rattle.std.specs.Prelude.{Option, Some, None, flat_map, option_and_then, option_map, slice_get, if◌then◌else◌}
use Rattle.std.proofs.lemmas.List.{length-map}
use Rattle.std.proofs.lemmas.List.Concat.{flat_map-cons}
use Rattle.cjc_verified_proof.specs.Bytecode.declared.method_code.MethodCode.{MethodCode}
use Rattle.cjc_verified_proof.specs.Bytes.AccessFlags.{is_interface, is_static}
use Rattle.cjc_verified_proof.proofs.BodyLaws.{Under, body_stands, under_in}
use Rattle.cjc_verified_proof.proofs.BytesBools.{not_true}
use Rattle.cjc_verified_proof.proofs.BytesGets.{get_mapped, mapped_at}
use Rattle.cjc_verified_proof.proofs.BytesPlain.{same_some}
use Rattle.cjc_verified_proof.proofs.TokenProofClean.{own_name}
use Rattle.cjc_verified_proof.proofs.TokenProofOrder.{kind-in, order_has}
use Rattle.cjc_verified_proof.proofs.TokenProofWrittenCallsFlags.{static_same}
use Rattle.cjc_verified_proof.specs.CapRead.declared.tree.MethodDescriptor.{MethodDescriptor}
use Rattle.cjc_verified_proof.specs.CheckRules.Codes.{whole_spots}
use Rattle.cjc_verified_proof.specs.CheckRules.Described.{types_at}
use Rattle.cjc_verified_proof.specs.CheckRules.Spots.{item_at}
use Rattle.cjc_verified_proof.specs.ClassFile.Code.{CodeTree}
use Rattle.cjc_verified_proof.specs.ClassFile.declared.tree.ClassTree.{ClassTree}
use Rattle.cjc_verified_proof.specs.ClassFile.declared.tree.MethodTree.{MethodTree}
use Rattle.cjc_verified_proof.specs.Components.Descriptor.{class_descriptor, descriptor, method_descriptor}
use Rattle.cjc_verified_proof.specs.Components.Descriptor.{method_flags, method_in}
use Rattle.cjc_verified_proof.specs.Components.Names.{class_ref}
use Rattle.cjc_verified_proof.specs.Components.Package.{LaidMethod, Package, world}
use Rattle.cjc_verified_proof.specs.Components.Types.{all_descs, nibbles_of, type_offset}
use Rattle.cjc_verified_proof.specs.JvmSemantics.Linked.{Method}
use Rattle.cjc_verified_proof.specs.JvmSemantics.OnePackage.{method_at, method_by}
use Rattle.cjc_verified_proof.specs.JvmSemantics.OnePackage as by_file
use Rattle.cjc_verified_proof.specs.List.Listed.{ListTree}
use Rattle.cjc_verified_proof.specs.Narrow.Rows.Resolved.{argument_words, parameter_words}
use Rattle.cjc_verified_proof.specs.TokenProof.Components.Methods.{HasMethods}
use Rattle.cjc_verified_proof.specs.TokenProof.Components.OwnNames.{HaveOwnNames}
use Rattle.cjc_verified_proof.specs.TokenProof.Tables.Loading.{components}
use Rattle.cjc_verified_proof.specs.TokenProof.Tables.Sound.{IsSound}
use Rattle.cjc_verified_proof.specs.Verify.Bodies.{Body, bodies, type_of_body}
use Rattle.cjc_verified_proof.specs.World.Classes.{Class, Member, class_named, declared, field_of_class}
use Rattle.cjc_verified_proof.specs.World.Classes.{method_of_class}
use Rattle.cjc_verified_proof.specs.World.Lookup.{member_at}
use Rattle.cjc_verified_proof.specs.World.Order.{class_order, in_order, method_order, methods_in_turn, methods_of_class}
use Rattle.cjc_verified_proof.specs.World.declared.found.Found.{Found}
use Rattle.cjc_types.specs.Types.{parts, value_of}
use Rattle.cjc_types.specs.declared.cell.Cell.{Cell}
use Rattle.cjc_types.specs.declared.cell.Cell.TheVariants.{Refs}
use Rattle.cjc_narrow_proof.specs.Laws.Unbroken.{KeepsNames}
use Rattle.cjc_narrow_proof.specs.Tables.Calls.{IsWordDesc}
use Rattle.cjc_narrow_proof.specs.Tables.Names.{IsDesc}
use Rattle.cjc_verified_proof.specs.Bytecode.ReadLaws.Members.{IsDescOf}
use Rattle.cjc_verified_proof.specs.Bytes.Descriptor.{Parts}
use Rattle.cjc_verified_proof.specs.Script.Sorts.{signature_of}
use Rattle.cjc_narrow_proof.proofs.LawsLaws.Own.{class_by_name}
use Rattle.cjc_narrow_proof.proofs.RunsLaws.Whole.{words_of_all}
use Rattle.cjc_narrow_proof.proofs.TablesLaws.Called.{signature_is}
use Rattle.cjc_accepted_proof.proofs.CheckProofOwnClasses.{own_classes}
use Rattle.cjc_accepted_proof.proofs.CheckProofTypes.{type_begins}
use Rattle.cjc_accepted_proof.proofs.DescribedLaws.{type_there, wanted}
use Rattle.cjc_accepted_proof.specs.Beside.{Beside, IsBeside}
use Rattle.cjc_accepted_proof.specs.CardActs.CardTypes.{type_at, type_by, types_in}
use Rattle.cjc_accepted_proof.specs.Carded.{HasCardTypes, IsOnCard}
use Rattle.cjc_theorem.proofs.ShapeProofDescs.{member_desc, parts_are}
use Rattle.cjc_theorem.proofs.ShapeProofOrder.{order_filed}
use Rattle.cjc_theorem.proofs.VTableFiled.{Has, get-has, has-get}
use Rattle.cjc_theorem.specs.LowerJudge.Rules.{settings_of}
use Rattle.cjc_shape_proof.proofs.WrittenLaws.Checked.{files_sound, own_names, read_files}
use Rattle.cjc_theorem.specs.ShapeProof.Written.Checked.{IsOfFiles}
use Rattle.cjc_accepted_theorem.proofs.HeadersLaws.{ClassesBegin, listed_desc, past_end, said_type}
use Rattle.cjc_accepted_theorem.proofs.MethodsLaws.{IsMethodOf, method_from, of_file, of_interfaces}
use Rattle.cjc_accepted_theorem.proofs.TypedLaws.{AreOnCard, desc_typed, method_signature, sorts_in, sorts_on_card}
use Rattle.cjc_accepted_theorem.proofs.TypedLaws.{typed_as}

-- ---- methods in turn

module _ (w : List Class) {A : Type 0} (f : Class → Found → A) where
  -- the class of a method among those of classes in turn, and what is made of it
  record IsInTurn (cs : List Class) (o : Option A) (g : Found) : Type 0 where
    class : Class
    number : ℕ
    is_class : slice_get cs number ≡ Some class
    place : ℕ
    is_found : slice_get (methods_of_class w class) place ≡ Some g
    made : o ≡ Some (f class g)

  abbrev made_of : List Class → List A
  made_of cs = flat_map (λ (c : Class). map (f c) (methods_of_class w c)) cs

  in_class : (c : Class) (cs : List Class) (fs : List Found) → ((j : ℕ) (h : Found) → slice_get fs j ≡ Some h → (i : ℕ)
      × (slice_get (methods_of_class w c) i ≡ Some h)) → (gs : List Found) (ys : List A) → ((k : ℕ) (g : Found)
      → slice_get gs k ≡ Some g → IsInTurn cs (slice_get ys k) g) → (k : ℕ) (g : Found) → slice_get (fs ++ gs) k
      ≡ Some g → IsInTurn (c ∷ cs) (slice_get (map (f c) fs ++ ys) k) g
  in_class c cs [] all gs ys rest k g e = let r = rest k g e in record {
    class = r.class;
    number = suc r.number;
    is_class = r.is_class;
    place = r.place;
    is_found = r.is_found;
    made = r.made;
  }
  in_class c cs (h ∷ fs) all gs ys rest zero g e = let r = all 0 h refl in record {
    class = c;
    number = 0;
    is_class = refl;
    place = r.0;
    is_found = r.1 ∙ e;
    made = ap (option_map (f c)) e;
  }
  in_class c cs (h ∷ fs) all gs ys rest (suc k) g e = in_class c cs fs (λ j x i. all (suc j) x i) gs ys rest k g e

  in_turn : (cs : List Class) (k : ℕ) (g : Found) → slice_get (methods_in_turn w cs) k ≡ Some g → IsInTurn cs (slice_get
      (made_of cs) k) g
  in_turn [] k g e = absurd cc
  in_turn (c ∷ cs) k g e = subst (λ xs. IsInTurn (c ∷ cs) (slice_get xs k) g) (sym (flat_map-cons (λ (d : Class). map
      (f d) (methods_of_class w d)) c cs)) (in_class c cs (methods_of_class w c) (λ j h i. (j, i)) (methods_in_turn w
      cs) (made_of cs) (in_turn cs) k g e)

-- ---- methods of Descriptor under their classes

module _ (p : Package) where
  -- a method under its class
  abbrev as_under : Class → Found → Under
  as_under c g = record { holder = class_ref p c.name; method = method_descriptor p c g }

  under_same : (c : Class) (fs : List Found) → map (λ (m : MethodDescriptor). record {
    holder = class_ref p c.name;
    method = m;
  }) (map (method_descriptor p c) fs) ≡ map (as_under c) fs
  under_same c [] = refl
  under_same c (g ∷ fs) = ap (λ (xs : List Under). as_under c g ∷ xs) (under_same c fs)

  all_under : (cs : List Class) → flat_map under_in (map (class_descriptor p) cs) ≡ made_of (world p) as_under cs
  all_under [] = refl
  all_under (c ∷ cs) =
      flat_map-cons under_in (class_descriptor p c) (map (class_descriptor p) cs)
      ∙ ap (λ (xs : List Under). xs ++ flat_map under_in (map (class_descriptor p) cs)) (under_same c
      (methods_of_class (world p) c))
      ∙ ap (λ (xs : List Under). map (as_under c) (methods_of_class (world p) c) ++ xs) (all_under cs)
      ∙ sym (flat_map-cons (λ (d : Class). map (as_under d) (methods_of_class (world p) d)) c cs)

-- ---- methods of class files

method_class : (t : ClassTree) (x : MethodTree) (o : Option CodeTree) → (let k = method_by t x o in let id = k.id
    in id.class) ≡ t.name
method_class t x None = refl
method_class t x (Some tree) = refl

-- the words of a method's arguments are those that inference has
pub words_are : (flags : ℕ) (class desc : List ℕ) → IsWordDesc desc → argument_words flags desc
    ≡ length ((if is_static flags then [] else Refs (class ∷ []) ∷ []) ++ map value_of (let d = parts desc
    in d.params))
words_are flags class desc word =
    ap (λ o. (if is_static flags then 0 else 1) + parameter_words o) (signature_is desc word)
    ∙ ap (λ n. (if is_static flags then 0 else 1) + n) (words_of_all (let d = parts desc in d.params) word.params)
    ∙ by (is_static flags) (map value_of (let d = parts desc in d.params))
  where
    by : (b : Bool) (cells : List Cell) → (if b then 0 else 1) + length cells ≡ length ((if b then []
        else Refs (class ∷ []) ∷ []) ++ cells)
    by true cells = omega arith
    by false cells = omega arith

module _ (list : ListTree) (codes : List MethodCode) (p : Package) (is : IsOfFiles list codes p) (apart : HaveOwnNames
    (class_order (world p))) (has : HasMethods p) where
  abbrev w : List Class
  w = world p

  abbrev u : KeepsNames list.name p.files codes (settings_of list)
  u = own_names list codes p is.checked

  abbrev sound : IsSound list.name p.files
  sound = files_sound list codes p is.checked

  -- the class of a method of Method, which is no interface
  record IsOf (g : Found) (o : Option Under) : Type 0 where
    class : Class
    listed : Has class (class_order w)
    named : class_named w class.name ≡ Some class
    plain : is_interface class.flags ≡ false
    file : ClassTree
    is_file : (let v = p.files in slice_get v.classes class.number ≡ Some file)
    is_declared : class ≡ declared class.number file
    place : ℕ
    is_found : slice_get (methods_of_class w class) place ≡ Some g
    member : IsMethodOf w class g
    under : o ≡ Some (as_under p class g)

  of_place : (k : ℕ) (m : LaidMethod) → slice_get p.methods k ≡ Some m → IsOf m.member (slice_get (made_of w (as_under
      p) (in_order w false)) k)
  unfolding method_order
  of_place k m e =
      let there : slice_get (methods_in_turn w (in_order w false)) k ≡ Some m.member =
      sym (ap (λ fs. slice_get fs k) has) ∙ get_mapped (λ (l : LaidMethod). l.member) p.methods k
      ∙ ap (option_map (λ (l : LaidMethod). l.member)) e in
      let r = in_turn w (as_under p) (in_order w false) k m.member there in
      let d = r.class in
      let kind = kind-in list.name p.files sound false d (get-has d (in_order w false) r.number r.is_class) in
      let listed = order_has list.name p.files sound d kind.0 kind.1 in
      let file = order_filed p.files d listed in
      record {
        class = d;
        listed = listed;
        named = own_name list.name p.files sound d kind.0;
        plain = not_true (is_interface d.flags) kind.2;
        file = file.0;
        is_file = file.1;
        is_declared = file.2;
        place = r.place;
        is_found = r.is_found;
        member = method_from w d r.place m.member r.is_found;
        under = r.made;
      }

  -- it is one of that class's
  place_of : (d : Class) (g : Found) → IsMethodOf w d g → (i : ℕ) × (g ≡ member_at d i)
  place_of d g (of_file i m is_m is_g same plain) = (length d.fields + i, is_g)
  place_of d g (of_interfaces i m is_m is_g same) = (length d.fields + (length d.methods + i), is_g)

  pub own_place : (k : ℕ) (m : LaidMethod) → slice_get p.methods k ≡ Some m → (let g = m.member in g.imported) ≡ false
  own_place k m e =
      let o = of_place k m e in
      let at = place_of o.class m.member o.member in
      ap (λ (h : Found). h.imported) at.1 ∙ ap (λ (c : Class). c.is_imported) o.is_declared

  -- ---- a method that is written is none of an interface

  pub class_plain : (m : Beside) → IsBeside p m codes → is_interface (let c = m.class in c.flags) ≡ false
  class_plain m b =
      let o = of_place b.number m.laid b.is_laid in
      let d = o.class in
      let at = place_of d (let l = m.laid in l.member) o.member in
      let own : d.is_imported ≡ false = ap (λ (c : Class). c.is_imported) o.is_declared in
      let found : option_and_then (by_file.method_in at.0) (let v = p.files in slice_get v.classes d.number)
      ≡ Some (method_by m.class m.method (Some m.tree)) =
      sym (ap (method_at p.files) at.1 ∙ ap (λ (v : Bool). if v then None else option_and_then (by_file.method_in at.0)
      (let v = p.files in slice_get v.classes d.number)) own) ∙ b.named in
      let name = in_file o.file at.0 (slice_get (let t = o.file in t.methods) (at.0 - length (let t = o.file in
      t.fields))) (method_by m.class m.method (Some m.tree)) (sym (ap (option_and_then (by_file.method_in at.0))
      o.is_file) ∙ found) in
      let code = m.code in
      let c = m.class in
      let of = b.is_method in
      let here : class_named w c.name ≡ Some (declared code.class c) = (let v = u in class_by_name p.files list.name
      v.listed v.world code.class c of.is_class) in
      let file_name : d.name ≡ (let t = o.file in t.name) = ap (λ (x : Class). x.name) o.is_declared in
      let one : d ≡ declared code.class c = same_some (sym o.named ∙ ap (class_named w) (file_name ∙ name) ∙ here) in
      ap (λ (x : Class). is_interface x.flags) (sym one) ∙ o.plain
    where
      in_file : (t : ClassTree) (i : ℕ) (v : Option MethodTree) (k : Method) → option_map (λ (y : MethodTree).
          method_by t y y.code) v ≡ Some k → t.name ≡ (let id = k.id in id.class)
      in_file t i None k e = absurd cc
      in_file t i (Some y) k e = sym (method_class t y y.code) ∙ ap (λ (z : Method). let id = z.id in id.class)
          (same_some e)

  -- ---- a method as it is read

  module _ (whole : whole_spots (components p) ≡ []) (begin : ClassesBegin list codes p is)
      (card : HasCardTypes p) where
    -- the type at the offset of a method's descriptor
    type_is : (desc : List ℕ) → signature_of desc ≡ Some (sorts_in p desc) → IsOnCard desc → Has desc (all_descs p)
        → type_at (descriptor p) (type_offset p desc) ≡ typed_as p desc
    type_is desc sig on there =
        said_type (item_at (types_at (descriptor p)) (type_offset p desc)) (nibbles_of p desc) (type_there p desc
        (type_begins p desc there).0)
        ∙ same_some (sym (ap (option_map (λ ns. type_by (types_in ns))) (wanted p desc on)) ∙ desc_typed p desc sig
        (sorts_on_card p desc sig on))

    -- What is known of the method of a class file, and of what Descriptor says of it.
    pub record IsSaid (v : Body) (t : ClassTree) (x : MethodTree) : Type 0 where
      pub class : Class
      pub named : class_named w t.name ≡ Some class
      pub static : (let m = v.method in is_static m.flags) ≡ is_static x.flags
      pub holder : v.holder ≡ class_ref p t.name
      pub is_desc : IsDesc x.desc
      pub is_method : (let d = parts x.desc in d.is_method) ≡ true
      pub short : length x.desc < 2 ^ 32
      pub on_card : AreOnCard p x.desc
      pub type : type_of_body (components p) v ≡ typed_as p x.desc
      pub listed : Has x.desc (all_descs p)

    module _ (k : ℕ) (v : Body) (there : slice_get (bodies (components p)) k ≡ Some v) (m : LaidMethod)
        (is_laid : slice_get p.methods k ≡ Some m) (t : ClassTree) (x : MethodTree) (tree : CodeTree)
        (is_class : (let g = m.member in let v = p.files in slice_get v.classes g.class ≡ Some t))
        (is_method : (let g = m.member in slice_get t.methods (g.member - length t.fields) ≡ Some x))
        (is_code : x.code ≡ Some tree) where
      abbrev o : IsOf m.member (slice_get (made_of w (as_under p) (in_order w false)) k)
      o = of_place k m is_laid

      -- Descriptor lists it so
      under_is : record { holder = v.holder; method = v.method } ≡ as_under p (let r = o in r.class) m.member
      under_is =
          let s = body_stands (components p) whole k v there in
          let r = o in
          same_some (sym s.listed ∙ ap (λ ds. slice_get (flat_map under_in ds) k) (own_classes p apart)
          ∙ ap (λ xs. slice_get xs k) (all_under p (in_order w false)) ∙ r.under)

      -- its descriptor
      parsed : IsDescOf true x.desc × (length x.desc < 2 ^ 32)
      parsed =
          let g = m.member in
          let d = declared g.class t in
          let named = (let v = u in class_by_name p.files list.name v.listed v.world g.class t is_class) in
          let row : slice_get d.methods (g.member - length t.fields) ≡ Some (method_of_class x) =
          get_mapped method_of_class t.methods (g.member - length t.fields) ∙ ap (option_map method_of_class) is_method
          in
          member_desc p.files (read_files list codes p is.checked) d named (g.member - length t.fields)
          (method_of_class x) row

      is_its : IsDesc x.desc
      is_its = let r = parsed in let one = r.0 in parts_are x.desc one.0 r.1 one.1

      of_method : (let d = parts x.desc in d.is_method) ≡ true
      of_method =
          let r = parsed in
          let one = r.0 in
          let same : one.0 ≡ parts x.desc = same_some (sym one.1 ∙ is_its) in
          ap (λ (d : Parts). d.is_method) (sym same) ∙ one.2

      -- the method's file and place
      of_one : (d : Class) (g : Found) → class_named w d.name ≡ Some d → Has d (class_order w) → (f : ClassTree)
          → (let v = p.files in slice_get v.classes d.number ≡ Some f) → d ≡ declared d.number f → IsMethodOf w d g
          → (let v = p.files in slice_get v.classes g.class ≡ Some t)
          → slice_get t.methods (g.member - length t.fields) ≡ Some x
          → record { holder = v.holder; method = v.method } ≡ as_under p d g
          → (let y = method_in w d g.member in IsOnCard y.desc) → IsSaid v t x
      of_one d g name order f is_f row (of_interfaces i y is_y is_g same) at_class at_method under on =
          let file : f ≡ t = same_some (sym is_f ∙ sym (ap (λ (h : Found). let v = p.files in slice_get v.classes
          h.class)
          is_g) ∙ at_class) in
          let fields : length d.fields ≡ length t.fields = ap (λ (c : Class). length c.fields) row
          ∙ length-map f.fields field_of_class ∙ ap (λ (c : ClassTree). length c.fields) file in
          let methods : length d.methods ≡ length t.methods = ap (λ (c : Class). length c.methods) row
          ∙ length-map f.methods method_of_class ∙ ap (λ (c : ClassTree). length c.methods) file in
          let at : g.member ≡ length d.fields + (length d.methods + i) = ap (λ (h : Found). h.member) is_g in
          let past : length t.methods ≤ g.member - length t.fields = omega (arith, fields, methods, at) in
          let none : None ≡ Some x = sym (past_end t.methods (g.member - length t.fields) past) ∙ at_method in
          absurd cc
      of_one d g name order f is_f row (of_file i y is_y is_g same plain) at_class at_method under on =
          let file : f ≡ t = same_some (sym is_f ∙ sym (ap (λ (h : Found). let v = p.files in slice_get v.classes
          h.class)
          is_g) ∙ at_class) in
          let fields : length d.fields ≡ length t.fields = ap (λ (c : Class). length c.fields) row
          ∙ length-map f.fields field_of_class ∙ ap (λ (c : ClassTree). length c.fields) file in
          let at : g.member ≡ length d.fields + i = ap (λ (h : Found). h.member) is_g in
          let left : g.member - length t.fields ≡ i = omega (arith, fields, at) in
          let tree_there : slice_get t.methods i ≡ Some x = sym (ap (slice_get t.methods) left) ∙ at_method in
          let listed_there : slice_get (map method_of_class t.methods) i ≡ Some y = sym (ap (λ (c : Class). slice_get
          c.methods i) row ∙ ap (λ (c : ClassTree). slice_get (map method_of_class c.methods) i) file) ∙ is_y in
          let r = mapped_at method_of_class t.methods i y listed_there in
          let one : r.0 ≡ x = same_some (sym r.1 ∙ tree_there) in
          let said : method_in w d g.member ≡ method_of_class x = same ∙ sym r.2 ∙ ap method_of_class one in
          let holder_name : d.name ≡ t.name = ap (λ (c : Class). c.name) row ∙ ap (λ (c : ClassTree). c.name) file in
          let listed : Has x.desc (all_descs p) = subst (λ (z : Member). Has z.desc (all_descs p)) said (listed_desc
          list codes p is begin d order g (of_file i y is_y is_g same plain)) in
          let sig = method_signature p x.desc is_its of_method in
          let on_card : IsOnCard x.desc = subst (λ (z : Member). IsOnCard z.desc) said on in
          let parsed_here = parsed in
          record {
            class = d;
            named = ap (class_named w) (sym holder_name) ∙ name;
            static = ap (λ (z : Under). let a = z.method in is_static a.flags) under
                ∙ ap (λ (z : Member). is_static (method_flags z)) said ∙ static_same (method_of_class x);
            holder = ap (λ (z : Under). z.holder) under ∙ ap (class_ref p) holder_name;
            is_desc = is_its;
            is_method = of_method;
            short = parsed_here.1;
            on_card = sorts_on_card p x.desc sig on_card;
            type = ap (λ (z : Under). let a = z.method in type_at (descriptor p) a.type_offset) under
                ∙ ap (λ (z : Member). type_at (descriptor p) (type_offset p z.desc)) said
                ∙ type_is x.desc sig on_card listed;
            listed = listed;
          }

      pub said : IsSaid v t x
      said =
          let r = o in
          let place = has-get r.class (class_order w) r.listed in
          of_one r.class m.member r.named r.listed r.file r.is_file r.is_declared r.member is_class is_method under_is
          (card.methods place.0 r.class place.1 r.place m.member r.is_found)

      -- it is the one of the class file
      pub at_place : method_at p.files m.member ≡ Some (method_by t x (Some tree))
      at_place =
          let r = o in
          let g = m.member in
          let at = place_of r.class g r.member in
          let own : g.imported ≡ false = ap (λ (h : Found). h.imported) at.1
          ∙ ap (λ (c : Class). c.is_imported) r.is_declared in
          ap (λ (b : Bool). if b then None else option_and_then (by_file.method_in g.member) (let v = p.files
          in slice_get v.classes g.class)) own
          ∙ ap (option_and_then (by_file.method_in g.member)) is_class
          ∙ ap (option_map (λ (y : MethodTree). method_by t y y.code)) is_method
          ∙ ap (λ c. Some (method_by t x c)) is_code
