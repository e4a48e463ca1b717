-- Class infos have slots for the fields of their classes, by the three items on instance fields.
use Rattle.std.proofs.Common.{◌≡◌, ◌+◌, ℕ, zero, suc, Bool, true, false, List, [], ◌∷◌, ◌++◌, length, map}
use Rattle.std.proofs.Common.{slice_get, Option, Some, None, refl, sym, ap, subst, ◌∙◌, arith}
use Rattle.std.specs.Prelude.{◌==◌, ◌&&◌, nat_le, nat_lt, position, option_and_then, option_map, if◌then◌else◌}
use Rattle.cjc_bytes.specs.Descriptor.{Parts}
use Rattle.cjc_bytes.specs.AccessFlags.{is_interface}
use Rattle.cjc_capread.specs.declared.tree.ClassEntry.{ClassEntry}
use Rattle.cjc_capread.specs.declared.tree.ClassRef.{ClassRef}
use Rattle.cjc_capread.specs.declared.tree.ClassRef.TheVariants.{Inside, Outside}
use Rattle.cjc_capread.specs.ClassRefs.{same_class}
use Rattle.cjc_check_rules.specs.declared.spot.ComponentPlace.{ComponentPlace}
use Rattle.cjc_check_rules.specs.Spots.{beside, in_info, placed, starts, unless}
use Rattle.cjc_check_rules.specs.Classes.{first_interface}
use Rattle.cjc_check_rules.specs.ClassRefs.{maps_begin}
use Rattle.cjc_check_rules.specs.Complete.{Complete, map_size}
use Rattle.cjc_world.specs.ClassFile.declared.tree.ClassTree.{ClassTree}
use Rattle.cjc_world.specs.ClassFile.declared.tree.FieldTree.{FieldTree}
use Rattle.cjc_world.specs.declared.image.StaticImage.{StaticImage}
use Rattle.cjc_world.specs.Classes.{Class, Member, all_classes, declared, field_of_class}
use Rattle.cjc_world.specs.Files.{Files}
use Rattle.cjc_world.specs.Order.{class_order}
use Rattle.cjc_tokens.specs.Fields.{instance_cells, instance_field_token, instance_token, instance_tokens, is_instance}
use Rattle.cjc_tokens.specs.Fields.{is_reference}
use Rattle.cjc_tokens.specs.Tokens.{assigned, field_of_token, has_token}
use Rattle.cjc_tokens.specs.Tokens as tokens
use Rattle.cjc_card_semantics.specs.Script.Sorts.{Booleans, Bytes, Shorts, Ints, OfClass, OfNumbers, OfReferences, Sort}
use Rattle.cjc_card_semantics.specs.Script.Sorts.{Boolean, Byte, Short, Int, Reference, NoValue, Signature, field_sort}
use Rattle.cjc_card_semantics.specs.Script.Sorts.{result_by}
use Rattle.cjc_card_semantics.specs.Script.Sorts.{signature_by, signature_of, sort_of}
use Rattle.cjc_card_semantics.specs.Machine.Classes.{Own, External, Info, IsInterface, IsClass, info_of, info_size}
use Rattle.cjc_card_semantics.specs.Machine.Classes.{is_reference_token, number_from}
use Rattle.cjc_card_semantics.specs.Machine.Classes as card
use Rattle.cjc_card_acts.specs.CardTypes.{ValueType, types_in}
use Rattle.cjc_components.specs.Class.{fields_in, fields_of, first_reference_token, info_flags, reference_count}
use Rattle.cjc_components.specs.Class.{superclass}
use Rattle.cjc_components.specs.Types.{nibbles_by, sort_nibbles}
use Rattle.cjc_token_proof.specs.VTable.Tables.{table_of}
use Rattle.cjc_token_proof.specs.ByToken.Objects.{is_reference as is_reference_sort}
use Rattle.cjc_token_proof.specs.Tables.Sound.{IsSound, AreTyped, AreFieldDescs, IsTyped, IsFieldDesc}
use Rattle.cjc_verify.specs.Infos.{class_spots, info_spots, infos, interface_spots, map_interface}
use Rattle.cjc_verify.specs.Named.{own_field_desc}
use Rattle.cjc_verify.specs.Pairs.{Pair, class_at, class_ref, is_card_sort, is_card_type, nibbles_of, pair_of, world}
use Rattle.cjc_verify.specs.Pairs as pairs
use Rattle.cjc_verify.specs.Verified.{IsVerified}
use Rattle.cjc_verify_proof.specs.Memories.{AreDeclared, IsDeclared, begins_as}
use Rattle.cjc_verified_proof.specs.PackageTypes.{StaticInInterfaces, field_types, instance_desc, instance_type}
use Rattle.cjc_verified_proof.specs.PackageTypes.{type_of_desc, type_said}
use Rattle.cjc_bytes.proofs.Gets.{get_inside, mapped_at, position_there}
use Rattle.cjc_bytes.proofs.Numbers.{number_same}
use Rattle.cjc_tokens.proofs.Facts.{position-cons}
use Rattle.cjc_components.proofs.VTableFiled.{get-has}
use Rattle.cjc_verify.proofs.CardLinkInfoPlaces.{all_starts}
use Rattle.cjc_token_proof.proofs.TablesLaws.Filed.{own_filed}
use Rattle.cjc_token_proof.proofs.TablesLaws.Order.{order_in}
use Rattle.cjc_token_proof.proofs.TablesLaws.Spans.{token_below, span_is}
use Rattle.cjc_verify_proof.proofs.FreshLaws.{number_within}
use Rattle.cjc_verified_proof.proofs.EntryLaws.{beside_none, infos_none}
use Rattle.cjc_tokens.proofs.Means.{kept-at}

-- ---- tokens

instance_row : (fs : List FieldTree) (k : ℕ) (rest : List FieldTree) (i : ℕ) (x : Option ℕ)
    → slice_get (instance_tokens fs k rest) i ≡ Some x
    → (f : FieldTree) × (slice_get rest i ≡ Some f) × (x ≡ instance_field_token fs (k + i) f)
unfolding instance_tokens
instance_row fs k [] i x e = cc
instance_row fs k (f ∷ rest) zero x e =
    let is : instance_field_token fs k f ≡ x = cc in
    let z : k ≡ k + 0 = omega arith in
    (f, refl, sym is ∙ ap (λ m. instance_field_token fs m f) z)
instance_row fs k (f ∷ rest) (suc i) x e =
    let r = instance_row fs (k + 1) rest i x e in
    let s : k + 1 + i ≡ k + suc i = omega arith in
    (r.0, r.1, r.2 ∙ ap (λ m. instance_field_token fs m r.0) s)

-- the instance field of a token
record IsField (fs : List FieldTree) (token : ℕ) (desc : List ℕ) : Type 0 where
  place : ℕ
  field : FieldTree
  there : slice_get fs place ≡ Some field
  is_one : is_instance field ≡ true
  token_is : token ≡ instance_token fs place field
  desc_is : field.desc ≡ desc

token_of : (fs : List FieldTree) (i token : ℕ) (f : FieldTree) → has_token token (instance_field_token fs i f) ≡ true
    → (is_instance f ≡ true) × (token ≡ instance_token fs i f)
token_of fs i token f e = by (is_instance f) refl e
  where
    by : (b : Bool) → is_instance f ≡ b → has_token token (if b then Some (instance_token fs i f) else None) ≡ true
        → (is_instance f ≡ true) × (token ≡ instance_token fs i f)
    by true is h = (is, sym (number_same (instance_token fs i f) token h))
    by false is h = cc

module _ (applets : Bool) (files : Files) (n : ℕ) (t : ClassTree)
    (is_class : slice_get files.classes n ≡ Some t) where
  place_of : (token i : ℕ) → field_of_token (assigned applets files) n token ≡ Some i
      → position (λ (o : Option ℕ). has_token token o) (instance_tokens t.fields 0 t.fields) ≡ Some i
  unfolding assigned
  place_of token i e =
      let r = kept-at files applets n t is_class in
      sym (ap (option_and_then (λ (c : tokens.OfClass). position (λ
      (o : Option ℕ). has_token token o) c.instances)) r.1) ∙ e

  field_there : (token : ℕ) (desc : List ℕ) → option_map (λ (f : Member). f.desc) (option_and_then
      (slice_get (map field_of_class t.fields)) (field_of_token (assigned applets files) n token)) ≡ Some desc
      → IsField t.fields token desc
  field_there token desc e = by (field_of_token (assigned applets files) n token) refl e
    where
      at : (i : ℕ) → field_of_token (assigned applets files) n token ≡ Some i → (o : Option Member)
          → slice_get (map field_of_class t.fields) i ≡ o → option_map (λ (f : Member). f.desc) o ≡ Some desc
          → IsField t.fields token desc
      at i is None g h = cc
      at i is (Some m) g h =
          let p = position_there (λ (o : Option ℕ). has_token token o) (instance_tokens t.fields 0 t.fields) i
          (place_of token i is) in
          let r = instance_row t.fields 0 t.fields i p.0 p.1 in
          let z : 0 + i ≡ i = omega arith in
          let q = token_of t.fields i token r.0 (ap (has_token token) (ap (λ k. instance_field_token t.fields k r.0)
          (sym z) ∙ sym r.2) ∙ p.2) in
          let f = mapped_at field_of_class t.fields i m g in
          let both : Some f.0 ≡ Some r.0 = sym f.1 ∙ r.1 in
          let one : f.0 ≡ r.0 = cc in
          let m_desc : m.desc ≡ desc = cc in
          let f_desc : (let x = f.0 in x.desc) ≡ m.desc = ap (λ (x : Member). x.desc) f.2 in
          record {
            place = i;
            field = r.0;
            there = r.1;
            is_one = q.0;
            token_is = q.1;
            desc_is = ap (λ (x : FieldTree). x.desc) (sym one) ∙ f_desc ∙ m_desc;
          }

      by : (o : Option ℕ) → field_of_token (assigned applets files) n token ≡ o → option_map (λ (f : Member). f.desc)
          (option_and_then (slice_get (map field_of_class t.fields)) o) ≡ Some desc → IsField t.fields token desc
      by None g h = cc
      by (Some i) g h = at i g (slice_get (map field_of_class t.fields) i) refl h

-- ---- types

reference_said : (ref : List ℕ → ClassRef) (class : List ℕ) (r : ClassRef) → ref class ≡ r
    → (begins_as true (type_said (sort_nibbles ref (Reference (OfClass class)))) ≡ true)
    × (begins_as true (type_said (sort_nibbles ref (Reference (OfReferences class)))) ≡ true)
unfolding types_in
reference_said ref class (Inside offset) e = subst (λ x. (begins_as true (type_said (sort_nibbles (λ (c : List ℕ). x)
    (Reference (OfClass class)))) ≡ true) × (begins_as true (type_said (sort_nibbles (λ (c : List ℕ). x)
    (Reference (OfReferences class)))) ≡ true)) (sym e) (refl, refl)
reference_said ref class (Outside import token) e = subst (λ x. (begins_as true (type_said (sort_nibbles
    (λ (c : List ℕ). x) (Reference (OfClass class)))) ≡ true) × (begins_as true (type_said (sort_nibbles
    (λ (c : List ℕ). x) (Reference (OfReferences class)))) ≡ true)) (sym e) (refl, refl)

-- a type that nibbles say of a field begins as null where it is a reference
sort_said : (ref : List ℕ → ClassRef) (s : Sort) → is_card_sort s ≡ true
    → begins_as (is_reference_sort s) (type_said (sort_nibbles ref s)) ≡ true
unfolding types_in
sort_said ref Boolean e = refl
sort_said ref Byte e = refl
sort_said ref Short e = refl
sort_said ref Int e = refl
sort_said ref NoValue e = cc
sort_said ref (Reference (OfNumbers Booleans)) e = refl
sort_said ref (Reference (OfNumbers Bytes)) e = refl
sort_said ref (Reference (OfNumbers Shorts)) e = refl
sort_said ref (Reference (OfNumbers Ints)) e = refl
sort_said ref (Reference (OfClass class)) e = (reference_said ref class (ref class) refl).0
sort_said ref (Reference (OfReferences class)) e = (reference_said ref class (ref class) refl).1

no_signature : (d : Parts) → d.is_method ≡ false → signature_by d ≡ None
no_signature d e = ap (λ b. if b then Some (record {
  params = map sort_of d.params;
  result = (let r = d.result in result_by r.kind r);
}) else None) e

-- the type that a field's descriptor says
pub said_of : (p : Pair) (desc : List ℕ) (type : ValueType) → IsFieldDesc desc → type_of_desc p desc ≡ Some type
    → (is_card_sort (field_sort desc) ≡ true) × (type ≡ type_said (sort_nibbles (class_ref p) (field_sort desc)))
said_of p desc type field e = by (is_card_sort (field_sort desc)) refl (sym (ap (option_map type_said) plain) ∙ e)
  where
    no_method : signature_of desc ≡ None
    no_method = ap (option_and_then signature_by) field.is_desc ∙ no_signature field.parts field.is_field

    plain : nibbles_of p desc ≡ (if is_card_sort (field_sort desc) then Some (sort_nibbles (class_ref p) (field_sort
        desc)) else None)
    plain = ap (λ (s : Option Signature). if is_card_type desc s then Some (nibbles_by (class_ref p) desc s) else None)
        no_method

    by : (b : Bool) → is_card_sort (field_sort desc) ≡ b → option_map type_said (if b then Some (sort_nibbles
        (class_ref p) (field_sort desc)) else None) ≡ Some type → (is_card_sort (field_sort desc) ≡ true) × (type
        ≡ type_said (sort_nibbles (class_ref p) (field_sort desc)))
    by false is h = cc
    by true is h =
        let same : type_said (sort_nibbles (class_ref p) (field_sort desc)) ≡ type = cc in
        (is, sym same)

kind_said : (p : Pair) (desc : List ℕ) (type : ValueType) → IsTyped desc → IsFieldDesc desc
    → type_of_desc p desc ≡ Some type → begins_as (is_reference desc) type ≡ true
kind_said p desc type typed field e =
    let r = said_of p desc type field e in
    subst (λ x. begins_as (is_reference desc) x ≡ true) (sym r.1) (subst (λ b. begins_as b (type_said (sort_nibbles
    (class_ref p) (field_sort desc))) ≡ true) typed.reference (sort_said (class_ref p) (field_sort desc) r.0))

-- ---- class infos

-- the number of the info at an offset
position_number : (at : ℕ) (is : List Info) (offset : ℕ) → position (λ n. n == offset) (starts info_size at is)
    ≡ number_from at is offset
unfolding placed
position_number at [] offset = refl
position_number at (i ∷ is) offset =
    position-cons (λ (n : ℕ). n == offset) at (starts info_size (at + info_size i) is)
    ∙ ap (λ (o : Option ℕ). if at == offset then Some 0 else option_map suc o)
    (position_number (at + info_size i) is offset)

-- tests of which none is broken
six : (a b c d e : Bool) (s t u v w : ComponentPlace) (rest : List ComponentPlace) → unless a s ++ unless b t
    ++ unless c u ++ unless d v ++ unless e w ++ rest ≡ [] → (c ≡ true) × (d ≡ true) × (e ≡ true)
six true true true true true s t u v w rest h = (refl, refl, refl)
six false b c d e s t u v w rest h = cc
six true false c d e s t u v w rest h = cc
six true true false d e s t u v w rest h = cc
six true true true false e s t u v w rest h = cc
six true true true true false s t u v w rest h = cc

otherwise : (b : Bool) (xs ys : List ComponentPlace) → b ≡ false → (if b then xs else ys) ≡ [] → ys ≡ []
otherwise true xs ys e h = cc
otherwise false xs ys e h = h

module _ (applets : Bool) (list : List ℕ) (files : Files) (image : StaticImage) (c : Complete)
    (sound : IsSound list files) (typed : AreTyped files) (descs : AreFieldDescs files)
    (static_ones : StaticInInterfaces files) (verified : IsVerified (pair_of applets files image c)) where
  abbrev p : Pair
  p = pair_of applets files image c

  -- a class of the package has a number among the infos
  record IsNumbered (offset : ℕ) (cl : Class) : Type 0 where
    number : ℕ
    from : number_from 2 (infos c.class) offset ≡ Some number
    ordered : slice_get (class_order (all_classes files)) number ≡ Some cl

  numbered : (offset : ℕ) (cl : Class) → class_at p offset ≡ Some cl → IsNumbered offset cl
  numbered offset cl e = by (position (λ at. at == offset) (pairs.starts p)) refl e
    where
      place : position (λ at. at == offset) (pairs.starts p) ≡ number_from 2 (infos c.class) offset
      place = ap (position (λ at. at == offset)) (all_starts c.class) ∙ position_number 2 (infos c.class) offset

      by : (o : Option ℕ) → position (λ at. at == offset) (pairs.starts p) ≡ o
          → option_and_then (slice_get (class_order (all_classes files))) o ≡ Some cl → IsNumbered offset cl
      by None f h = cc
      by (Some k) f h = record { number = k; from = sym place ∙ f; ordered = h }

  -- the items on instance fields are those of the class
  pub record HasInfo (offset : ℕ) (cl : Class) : Type 0 where
    pub entry : ClassEntry
    pub info : info_of p.loaded 0 offset ≡ Some (IsClass entry)
    pub cells : entry.declared_instance_size ≡ instance_cells (fields_of files cl)
    pub first : entry.first_reference_token ≡ first_reference_token (fields_of files cl)
    pub count : entry.reference_count ≡ reference_count (fields_of files cl)

  pub has_info : (offset : ℕ) (cl : Class) → class_at p offset ≡ Some cl → is_interface cl.flags ≡ false
      → HasInfo offset cl
  has_info offset cl e plain =
      let k = numbered offset cl e in
      let got = get_inside (infos c.class) k.number (number_within 2 (infos c.class) offset k.number k.from) in
      let none = beside_none info_size (info_spots p) first_interface (infos c.class) (class_order (all_classes files))
      k.number got.0 cl (infos_none p verified) got.1 k.ordered in
      by got.0 (ap (option_and_then (slice_get (infos c.class))) k.from ∙ got.1) none.0 none.1
    where
      by : (i : Info) → info_of p.loaded 0 offset ≡ Some i → (at : ℕ) → info_spots p at i cl ≡ [] → HasInfo offset cl
      by (IsInterface i) is at h = let no = otherwise (is_interface cl.flags) (interface_spots p at i cl)
          (in_info 6 at ∷ []) plain h in cc
      by (IsClass x) is at h =
          let fields = fields_of files cl in
          let table = table_of (world p) cl in
          let clean = otherwise (is_interface cl.flags) (in_info 6 at ∷ []) (class_spots p at x cl) plain h in
          let r = six ((x.flags == info_flags (world p) cl) && (length x.interfaces == length table.maps))
          (same_class x.superclass (class_ref p (superclass cl))) (x.declared_instance_size == instance_cells fields)
          (x.first_reference_token == first_reference_token fields) (x.reference_count == reference_count fields)
          (in_info 6 at) (in_info 6 (at + 1)) (in_info 6 (at + 3)) (in_info 6 (at + 4)) (in_info 6 (at + 5))
          (beside map_size (map_interface p) (maps_begin at x) x.interfaces table.maps) clean in
          record {
            entry = x;
            info = is;
            cells = number_same x.declared_instance_size (instance_cells fields) r.0;
            first = number_same x.first_reference_token (first_reference_token fields) r.1;
            count = number_same x.reference_count (reference_count fields) r.2;
          }

  -- the slot of an instance field
  slot_there : (offset token : ℕ) (cl : Class) (desc : List ℕ) (type : ValueType) → class_at p offset ≡ Some cl
      → own_field_desc p token cl ≡ Some desc → type_of_desc p desc ≡ Some type
      → IsDeclared p.loaded (record { class = Own 0 offset; token = token }) type
  slot_there offset token cl desc type e own is_type =
      let k = numbered offset cl e in
      let in_world = order_in list files sound cl (get-has cl (class_order (all_classes files)) k.number k.ordered) in
      let filed = own_filed files sound.classes sound.exports cl in_world.0 in_world.1 in
      by filed.0 filed.1 filed.2 filed.3
    where
      by : (n : ℕ) (t : ClassTree) → slice_get files.classes n ≡ Some t → cl ≡ declared n t
          → IsDeclared p.loaded (record { class = Own 0 offset; token = token }) type
      by n t is_class same =
          let f = field_there applets files n t is_class token desc (subst (λ (x : Class). own_field_desc p token x
          ≡ Some desc) same own) in
          let i = has_info offset cl e (ap (λ (x : Class). is_interface x.flags) same ∙ plain
          (is_interface t.flags) refl f)
          in
          let fields : fields_of files cl ≡ t.fields = ap (λ (x : Class). fields_of files x) same
          ∙ ap fields_in is_class
          in
          let cells = i.cells ∙ ap instance_cells fields in
          let first = i.first ∙ ap first_reference_token fields in
          let count = i.count ∙ ap reference_count fields in
          let lt = token_below t.fields f.place f.field f.there f.is_one in
          let token_is = f.token_is in
          let span = span_is t.fields f.place f.field f.there f.is_one in
          let entry = i.entry in
          let test : is_reference_token entry token ≡ is_reference f.field.desc =
          ap (λ (a : ℕ). nat_le a token && nat_lt token (a + entry.reference_count)) first
          ∙ ap (λ (b : ℕ). nat_le (first_reference_token t.fields) token && nat_lt token (first_reference_token t.fields
          + b)) count
          ∙ ap (λ (x : ℕ). nat_le (first_reference_token t.fields) x && nat_lt x (first_reference_token t.fields
          + reference_count t.fields)) token_is ∙ span in
          let kind = kind_said p f.field.desc type (typed n f.place t f.field is_class f.there)
          (descs n f.place t f.field
          is_class f.there) (ap (type_of_desc p) f.desc_is ∙ is_type) in
          record {
            part = 0;
            offset = offset;
            entry = entry;
            class = refl;
            info = i.info;
            below = omega (arith, lt, token_is, cells);
            kind = ap (λ b. begins_as b type) test ∙ kind;
          }
        where
          plain : (b : Bool) → is_interface t.flags ≡ b → IsField t.fields token desc → b ≡ false
          plain false h f = refl
          plain true h f = let no = static_ones n f.place t f.field is_class f.there h in
              let clash : true ≡ false = sym f.is_one ∙ no in cc

  pub all_declared : AreDeclared p.loaded (field_types p)
  all_declared f type e = by f.class refl e
    where
      found : (offset : ℕ) (o : Option Class) → class_at p offset ≡ o
          → option_and_then (type_of_desc p) (option_and_then (own_field_desc p f.token) o) ≡ Some type
          → IsDeclared p.loaded (record { class = Own 0 offset; token = f.token }) type
      found offset None g h = cc
      found offset (Some cl) g h = desc_of_field (own_field_desc p f.token cl) refl h
        where
          desc_of_field : (o : Option (List ℕ)) → own_field_desc p f.token cl ≡ o
              → option_and_then (type_of_desc p) o ≡ Some type
              → IsDeclared p.loaded (record { class = Own 0 offset; token = f.token }) type
          desc_of_field None q r = cc
          desc_of_field (Some desc) q r = slot_there offset f.token cl desc type g q r

      by : (class : card.Class) → f.class ≡ class → instance_type p class f.token ≡ Some type
          → IsDeclared p.loaded f type
      by (External tree token) g h = cc
      by (Own part offset) g h = at (part == 0) refl h
        where
          at : (b : Bool) → (part == 0) ≡ b
              → (if b then option_and_then (type_of_desc p) (instance_desc p offset f.token) else None) ≡ Some type
              → IsDeclared p.loaded f type
          at false is r = cc
          at true is r =
              let zero_part = number_same part 0 is in
              let same : record { class = Own 0 offset; token = f.token } ≡ f = ap (λ x. record {
                class = x;
                token = f.token;
              }) (sym (g ∙ ap (λ n. Own n offset) zero_part)) in
              subst (λ x. IsDeclared p.loaded x type) same (found offset (class_at p offset) refl r)
