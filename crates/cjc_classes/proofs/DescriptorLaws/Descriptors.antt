-- What is made of a package gives its Descriptor.
use Rattle.std.proofs.Common.{◌≡◌, ℕ, zero, suc, ◌+◌, ◌-◌, ◌<◌, Bool, true, false, List, [], ◌∷◌, ◌++◌, map, length}
use Rattle.std.proofs.Common.{slice_get, refl, sym, ap, ◌∙◌, arith, Some}
use Rattle.std.specs.Prelude.{if◌then◌else◌, option_map, option_and_then, unwrap_or, codes}
use Rattle.std.specs.List.{flat_map, range_with_len}
use Rattle.std.specs.Str.{bytes_eq}
use Rattle.std.proofs.lemmas.List.{map-append, length-map}
use Rattle.std.proofs.lemmas.List.Concat.{flat_map_single}
use Rattle.std.proofs.lemmas.Option.{slice_get-map, slice_get_within}
use Rattle.cjc_bytes.specs.AccessFlags.{is_static}
use Rattle.cjc_components.specs.LowerCapRead.declared.tree.ClassDescriptor.{ClassDescriptor}
use Rattle.cjc_components.specs.LowerCapRead.declared.tree.TypeDescriptor.{TypeDescriptor}
use Rattle.cjc_components.specs.LowerCapRead.declared.tree.FieldPlace.TheVariants as places
use Rattle.cjc_components.specs.LowerScript.Sorts.{Sort, Boolean, Byte, Short, Int, Reference, NoValue, field_sort}
use Rattle.cjc_world.specs.ClassFile.declared.tree.ClassTree.{ClassTree}
use Rattle.cjc_world.specs.ClassFile.declared.tree.FieldTree.{FieldTree}
use Rattle.cjc_world.specs.ClassFile.declared.tree.MethodTree.{MethodTree}
use Rattle.cjc_world.specs.Files.{Files}
use Rattle.cjc_world.specs.Classes.{Member, declared, field_of_class, method_of_class}
use Rattle.cjc_world.specs.Added.{added, named_by}
use Rattle.cjc_world.specs.Lookup.{member_at}
use Rattle.cjc_world.specs.Order.{class_order, methods_of_class, places, written}
use Rattle.cjc_tokens.specs.Fields.{is_constant}
use Rattle.cjc_components.specs.LowerClinit.Image.{field_id}
use Rattle.cjc_components.specs.LowerNCode.declared.narrow.PoolKey.{PoolKey}
use Rattle.cjc_components.specs.Class.{fields_in}
use Rattle.cjc_components.specs.Package.{Package, pool, tokens, world}
use Rattle.cjc_components.specs.Methods.{extent_of}
use Rattle.cjc_components.specs.Names.{class_ref, member_token}
use Rattle.cjc_components.specs.Statics.{cell_offset}
use Rattle.cjc_components.specs.Types.{desc_of_key, type_descriptor, type_offset}
use Rattle.cjc_components.specs.Descriptor.{as_added, class_descriptor, described_by, descriptor, field_descriptor}
use Rattle.cjc_components.specs.Descriptor.{field_type, fields_from, method_descriptor, method_flags, method_in}
use Rattle.cjc_components.specs.Descriptor.{methods_with_added, no_member, pool_type, type_by}
use Rattle.cjc_classes.specs.TypeInfo.TypeTable.{TypeTable, class_at as numbered_class, type_table}
use Rattle.cjc_classes.proofs.TypeInfo.Order.{added_is, along_order}
use Rattle.cjc_classes.specs.declared.descriptor.parts.Extent.{Extent}
use Rattle.cjc_classes.specs.declared.descriptor.parts.Parts.{Parts}
use Rattle.cjc_classes.specs.Descriptor.Made.{AreMade, cells_of, extent_by, extents_in, extents_of, member_count}
use Rattle.cjc_classes.specs.Descriptor.Made.{numbered}
use Rattle.cjc_classes.specs.Descriptor.Working.Described.{Inputs, added_at, class_at, class_where, classes_at}
use Rattle.cjc_classes.specs.Descriptor.Working.Described.{extent_in, field_at, field_type_by, fields_at, inputs_of}
use Rattle.cjc_classes.specs.Descriptor.Working.Described.{key_type, method_by, methods_at, nowhere, number_in}
use Rattle.cjc_classes.specs.Descriptor.Working.Described.{own_methods_at, type_where}

-- what is made of a package
abbrev pub made_of : Package → Inputs
made_of p = record {
  files = p.files;
  tokens = tokens p;
  ref = class_ref p;
  cells = cells_of p;
  extents = extents_of p;
  table = type_table p;
}

pub inputs_are : (p : Package) (q : Parts) → AreMade p q → inputs_of q ≡ made_of p
inputs_are p q h =
    let of = h.of in
    let files = sym of.by_files in
    let toks = h.by_tokens in
    let refs = of.by_refs in
    let cells = h.by_cells in
    let extents = h.by_extents in
    let table = h.by_types in
    (λ i. record {
      files = files i;
      tokens = toks i;
      ref = refs i;
      cells = cells i;
      extents = extents i;
      table = table i;
    })

module _ (p : Package) (n : ℕ) (t : ClassTree) (there : slice_get (let files = p.files in files.classes) n ≡ Some t)
  where
    -- ---- fields

    cell_is : (k : ℕ) (f : FieldTree) → slice_get t.fields k ≡ Some f → number_in (cells_of p) n k
        ≡ cell_offset p.image (field_id t.name f)
    cell_is k f e =
        let files = p.files in
        let row : ClassTree → List ℕ = λ d. map (λ g. cell_offset p.image (field_id d.name g)) d.fields in
        let at : slice_get (map row files.classes) n ≡ Some (row t) = slice_get-map row files.classes n
        ∙ ap (option_map row) there in
        ap (λ o. unwrap_or (option_and_then (λ (r : List ℕ). slice_get r k) o) 0) at
        ∙ ap (λ o. unwrap_or o 0) (slice_get-map (λ g. cell_offset p.image (field_id t.name g)) t.fields k
        ∙ ap (option_map (λ g. cell_offset p.image (field_id t.name g))) e)

    type_is : (desc : List ℕ) (s : Sort) → field_type_by (type_offset p desc) s ≡ field_type p desc s
    type_is desc Boolean = refl
    type_is desc Byte = refl
    type_is desc Short = refl
    type_is desc Int = refl
    type_is desc (Reference shape) = refl
    type_is desc NoValue = refl

    field_is : (k : ℕ) (f : FieldTree) → slice_get t.fields k ≡ Some f → field_at (made_of p) n t.name k f
        ≡ field_descriptor p (declared n t) k f
    field_is k f e =
        let token = member_token p (Some (member_at (declared n t) k)) in
        let place = ap (λ o. if is_static f.flags then places.Static o else places.Instance (class_ref p t.name) token)
        (cell_is k f e) in
        let type_ = type_is f.desc (field_sort f.desc) in
        (λ i. record {
          token = token;
          flags = (field_descriptor p (declared n t) k f).flags;
          place = place i;
          type_ = type_ i;
        })

    fields_are : (k : ℕ) (fs : List FieldTree) → ((j : ℕ) (f : FieldTree) → slice_get fs j ≡ Some f
        → slice_get t.fields (k + j) ≡ Some f) → fields_at (made_of p) n t.name k fs ≡ fields_from p (declared n t) k fs
    fields_are k [] h = refl
    fields_are k (f ∷ fs) h =
        let z : k + 0 ≡ k = omega arith in
        let here : slice_get t.fields k ≡ Some f = ap (slice_get t.fields) (sym z) ∙ h 0 f refl in
        let rest = fields_are (k + 1) fs (λ j g e. let s : k + 1 + j ≡ k + suc j = omega arith
        in ap (slice_get t.fields) s ∙ h (suc j) g e) in
        ap (λ d. (if is_constant f then [] else d ∷ []) ++ fields_at (made_of p) n t.name (k + 1) fs)
        (field_is k f here)
        ∙ ap (λ xs. (if is_constant f then [] else field_descriptor p (declared n t) k f ∷ []) ++ xs) rest

    -- ---- methods

    numbered_at : (m : ℕ) (ts : List ClassTree) (k : ℕ) (u : ClassTree) → slice_get ts k ≡ Some u
        → slice_get (numbered m ts) k ≡ Some (declared (m + k) u)
    numbered_at m [] k u e = absurd cc
    numbered_at m (x ∷ ts) zero u e = let z : m ≡ m + 0 = omega arith in let same : x ≡ u = cc
        in ap (λ k. Some (declared k x)) z ∙ ap (λ y. Some (declared (m + 0) y)) same
    numbered_at m (x ∷ ts) (suc k) u e = let s : m + 1 + k ≡ m + suc k = omega arith in numbered_at (m + 1) ts k u e
        ∙ ap (λ j. Some (declared j u)) s

    range_at : (a count k : ℕ) → k < count → slice_get (range_with_len a count) k ≡ Some (a + k)
    range_at a zero k lt = absurd (omega arith)
    range_at a (suc count) zero lt = let z : a ≡ a + 0 = omega arith in ap Some z
    range_at a (suc count) (suc k) lt = let less : k < count = omega arith in let s : a + 1 + k ≡ a + suc k =
        omega arith
        in range_at (a + 1) count k less ∙ ap Some s

    extent_is : (k : ℕ) → k < member_count (world p) (declared n t) → extent_in (extents_of p) n k
        ≡ extent_by (extent_of p (member_at (declared n t) k))
    extent_is k lt =
        let files = p.files in
        let zn : 0 + n ≡ n = omega arith in
        let zk : 0 + k ≡ k = omega arith in
        let class : slice_get (numbered 0 files.classes) n ≡ Some (declared n t) = numbered_at 0 files.classes n t there
        ∙ ap (λ j. Some (declared j t)) zn in
        let at : slice_get (extents_of p) n ≡ Some (extents_in p (declared n t)) =
        slice_get-map (extents_in p) (numbered 0 files.classes) n ∙ ap (option_map (extents_in p)) class in
        let one : slice_get (extents_in p (declared n t)) k
        ≡ Some (extent_by (extent_of p (member_at (declared n t) k))) =
        slice_get-map (λ j. extent_by (extent_of p (member_at (declared n t) j)))
        (range_with_len 0 (member_count (world p) (declared n t))) k
        ∙ ap (option_map (λ j. extent_by (extent_of p (member_at (declared n t) j))))
        (range_at 0 (member_count (world p) (declared n t)) k lt ∙ ap Some zk) in
        ap (λ o. unwrap_or (option_and_then (λ (r : List Extent). slice_get r k) o) nowhere) at
        ∙ ap (λ o. unwrap_or o nowhere) one

    method_is : (k : ℕ) (m : Member) → k < member_count (world p) (declared n t) → method_in (world p) (declared n t) k
        ≡ m
        → method_by (made_of p) n k m.flags m.name m.desc ≡ method_descriptor p (declared n t) (member_at (declared n t)
        k)
    method_is k m lt e =
        ap (λ (x : Extent). record {
          token = member_token p (Some (member_at (declared n t) k));
          flags = method_flags m;
          offset = x.offset;
          type_offset = type_offset p m.desc;
          bytecode_count = x.bytecode_count;
          handler_count =
              x.handler_count;
          first_handler = x.first_handler;
        }) (extent_is k lt)
        ∙ ap (λ (y : Member). described_by p (member_token p (Some (member_at (declared n t) k))) y
        (extent_of p (member_at (declared n t) k))) (sym e)

    in_front : {A : Type 0} (xs ys : List A) (k : ℕ) (x : A) → slice_get xs k ≡ Some x → slice_get (xs ++ ys) k ≡ Some x
    in_front [] ys k x e = absurd cc
    in_front (y ∷ xs) ys zero x e = e
    in_front (y ∷ xs) ys (suc k) x e = in_front xs ys k x e

    in_back : {A : Type 0} (xs ys : List A) (k : ℕ) → slice_get (xs ++ ys) (length xs + k) ≡ slice_get ys k
    in_back [] ys k = let z : 0 + k ≡ k = omega arith in ap (slice_get ys) z
    in_back (x ∷ xs) ys k = let s : suc (length xs) + k ≡ suc (length xs + k) = omega arith
        in ap (slice_get (x ∷ xs ++ ys)) s ∙ in_back xs ys k

    -- the methods of the class file from one on
    own_are : (j : ℕ) (ms : List MethodTree) → ((i : ℕ) (m : MethodTree) → slice_get ms i ≡ Some m
        → slice_get t.methods (j + i) ≡ Some m)
        → own_methods_at (made_of p) n (length t.fields + j) ms ≡ map (method_descriptor p (declared n t))
        (written (declared n t) (length t.fields + j) (map method_of_class ms))
    own_are j [] h = refl
    own_are j (m ∷ ms) h =
        let z : j + 0 ≡ j = omega arith in
        let here : slice_get t.methods j ≡ Some m = ap (slice_get t.methods) (sym z) ∙ h 0 m refl in
        let lt : j < length t.methods = slice_get_within t.methods j m here in
        let fields : length (declared n t).fields ≡ length t.fields = length-map t.fields field_of_class in
        let methods : length (declared n t).methods ≡ length t.methods = length-map t.methods method_of_class in
        let less : length t.fields + j < length (declared n t).fields + length (declared n t).methods + length
        (added (world p) (declared n t)) = omega (arith, fields, methods, lt) in
        let place : length t.fields + j - length (declared n t).fields ≡ j = omega (arith, fields) in
        let is : method_in (world p) (declared n t) (length t.fields + j) ≡ method_of_class m =
        ap (λ k. unwrap_or (slice_get (methods_with_added (world p) (declared n t)) k) no_member) place
        ∙ ap (λ o. unwrap_or o no_member) (in_front (declared n t).methods
        (map as_added (added (world p) (declared n t)))
        j (method_of_class m) (slice_get-map method_of_class t.methods j ∙ ap (option_map method_of_class) here)) in
        let s : length t.fields + j + 1 ≡ length t.fields + (j + 1) = omega arith in
        let rest = own_are (j + 1) ms (λ i q e. let k : j + 1 + i ≡ j + suc i = omega arith
        in ap (slice_get t.methods) k
        ∙ h (suc i) q e) in
        by (bytes_eq m.name (codes "<clinit>")) (method_is (length t.fields + j) (method_of_class m) less is)
        (ap (λ k. own_methods_at (made_of p) n k ms) s ∙ rest
        ∙ ap (λ k. map (method_descriptor p (declared n t)) (written (declared n t) k (map method_of_class ms)))
        (sym s))
      where
        by : (b : Bool) → method_by (made_of p) n (length t.fields + j) m.flags m.name m.desc
            ≡ method_descriptor p (declared n t) (member_at (declared n t) (length t.fields + j))
            → own_methods_at (made_of p) n (length t.fields + j + 1) ms ≡ map (method_descriptor p (declared n t))
            (written (declared n t) (length t.fields + j + 1) (map method_of_class ms))
            → (if b then [] else method_by (made_of p) n (length t.fields + j) m.flags m.name m.desc ∷ [])
            ++ own_methods_at (made_of p) n (length t.fields + j + 1) ms
            ≡ map (method_descriptor p (declared n t)) (if b then written (declared n t) (length t.fields + j + 1)
            (map method_of_class ms) else member_at (declared n t) (length t.fields + j)
            ∷ written (declared n t) (length t.fields + j + 1) (map method_of_class ms))
        by true one more = more
        by false one more = ap (λ d. d ∷ own_methods_at (made_of p) n (length t.fields + j + 1) ms) one
            ∙ ap (λ ds. method_descriptor p (declared n t) (member_at (declared n t) (length t.fields + j)) ∷ ds) more

    -- those that the class got, from one on
    added_are : (j : ℕ) (ms : List Member) → ((i : ℕ) (m : Member) → slice_get ms i ≡ Some m
        → slice_get (added (world p) (declared n t)) (j + i) ≡ Some m)
        → added_at (made_of p) n (length t.fields + length t.methods + j) (map (named_by t.name) ms)
        ≡ map (method_descriptor p (declared n t)) (places (declared n t) (length t.fields + length t.methods + j)
        (length ms))
    added_are j [] h = refl
    added_are j (m ∷ ms) h =
        let z : j + 0 ≡ j = omega arith in
        let more = added (world p) (declared n t) in
        let here : slice_get more j ≡ Some m = ap (slice_get more) (sym z) ∙ h 0 m refl in
        let lt : j < length more = slice_get_within more j m here in
        let fields : length (declared n t).fields ≡ length t.fields = length-map t.fields field_of_class in
        let methods : length (declared n t).methods ≡ length t.methods = length-map t.methods method_of_class in
        let at = length t.fields + length t.methods + j in
        let less : length t.fields + length t.methods + j < length (declared n t).fields + length (declared n t).methods
        +
        length (added (world p) (declared n t)) = omega (arith, fields, methods, lt) in
        let place : length t.fields + length t.methods + j - length (declared n t).fields
        ≡ length (declared n t).methods
        + j = omega (arith, fields, methods) in
        let is : method_in (world p) (declared n t) at ≡ as_added m =
        ap (λ k. unwrap_or (slice_get (methods_with_added (world p) (declared n t)) k) no_member) place
        ∙ ap (λ o. unwrap_or o no_member) (in_back (declared n t).methods (map as_added more) j
        ∙ slice_get-map as_added more j ∙ ap (option_map as_added) here) in
        let s : length t.fields + length t.methods + j + 1 ≡ length t.fields + length t.methods + (j + 1) = omega arith
        in
        let rest = added_are (j + 1) ms (λ i q e. let k : j + 1 + i ≡ j + suc i = omega arith in ap (slice_get more) k
        ∙ h (suc i) q e) in
        ap (λ d. d ∷ added_at (made_of p) n (at + 1) (map (named_by t.name) ms)) (method_is at (as_added m) less is)
        ∙ ap (λ ds. method_descriptor p (declared n t) (member_at (declared n t) at) ∷ ds)
        (ap (λ k. added_at (made_of p) n k (map (named_by t.name) ms)) s ∙ rest
        ∙ ap (λ k. map (method_descriptor p (declared n t)) (places (declared n t) k (length ms))) (sym s))

    methods_are : methods_at (made_of p) n (map (named_by t.name) (added (world p) (declared n t))) t
        ≡ map (method_descriptor p (declared n t)) (methods_of_class (world p) (declared n t))
    methods_are =
        let d = method_descriptor p (declared n t) in
        let fields : length t.fields ≡ length (declared n t).fields = sym (length-map t.fields field_of_class) in
        let methods : length t.methods ≡ length (declared n t).methods = sym (length-map t.methods method_of_class) in
        let zf : length t.fields ≡ length t.fields + 0 = omega arith in
        let za : length t.fields + length t.methods ≡ length t.fields + length t.methods + 0 = omega arith in
        let more = added (world p) (declared n t) in
        let own = own_are 0 t.methods (λ i m e. let z : 0 + i ≡ i = omega arith in ap (slice_get t.methods) z ∙ e) in
        let got = added_are 0 more (λ i m e. let z : 0 + i ≡ i = omega arith in ap (slice_get more) z ∙ e) in
        let front : own_methods_at (made_of p) n (length t.fields) t.methods
        ≡ map d (written (declared n t) (length (declared n t).fields) (declared n t).methods) =
        ap (λ k. own_methods_at (made_of p) n k t.methods) zf ∙ own
        ∙ ap (λ k. map d (written (declared n t) k (map method_of_class t.methods))) (sym zf ∙ fields) in
        let back : added_at (made_of p) n (length t.fields + length t.methods) (map (named_by t.name) more)
        ≡ map d (places (declared n t) (length (declared n t).fields + length (declared n t).methods) (length more)) =
        ap (λ k. added_at (made_of p) n k (map (named_by t.name) more)) za ∙ got
        ∙ ap (λ k. map d (places (declared n t) k (length more))) (sym za ∙ ap (λ k. k + length t.methods) fields
        ∙ ap (λ k. length (declared n t).fields + k) methods) in
        ap (λ xs. xs ++ added_at (made_of p) n (length t.fields + length t.methods) (map (named_by t.name) more)) front
        ∙ ap (λ xs. map d (written (declared n t) (length (declared n t).fields) (declared n t).methods) ++ xs) back
        ∙ sym (map-append d (written (declared n t) (length (declared n t).fields) (declared n t).methods)
        (places (declared n t) (length (declared n t).fields + length (declared n t).methods) (length more)))

    -- ---- the class

    class_is : class_at (made_of p) n (map (named_by t.name) (added (world p) (declared n t))) t
        ≡ class_descriptor p (declared n t)
    class_is =
        let whole = class_descriptor p (declared n t) in
        let fields : fields_at (made_of p) n t.name 0 t.fields ≡ whole.fields =
        fields_are 0 t.fields (λ j f e. let z : 0 + j ≡ j = omega arith in ap (slice_get t.fields) z ∙ e)
        ∙ ap (λ o. fields_from p (declared n t) 0 (fields_in o)) (sym there) in
        let methods = methods_are in
        (λ i. record {
          token = whole.token;
          flags = whole.flags;
          this_class = whole.this_class;
          interfaces = whole.interfaces;
          fields = fields i;
          methods = methods i;
        })

    pub number_is : classes_at (made_of p) n ≡ class_descriptor p (declared n t) ∷ []
    number_is =
        ap (class_where (made_of p) n) there
        ∙ ap (λ ms. class_at (made_of p) n ms t ∷ []) (added_is p.files n t there)
        ∙ ap (λ d. d ∷ []) class_is

-- ---- the component

classes_are : (p : Package) (order : List ℕ) → map Some (class_order (world p))
    ≡ map (numbered_class (let files = p.files in files.classes)) order
    → flat_map (classes_at (made_of p)) order ≡ map (class_descriptor p) (class_order (world p))
classes_are p order in_order =
    along_order (let files = p.files in files.classes) (classes_at (made_of p)) (λ c. class_descriptor p c
    ∷ []) (number_is p) (class_order (world p)) order in_order
    ∙ flat_map_single (class_descriptor p) (class_order (world p))

type_is_by : (p : Package) (descs : List (List ℕ)) → type_where (made_of p) descs ≡ type_by p descs
type_is_by p [] = refl
type_is_by p (desc ∷ rest) = refl

key_types_are : (p : Package) (keys : List PoolKey) → map (key_type (made_of p)) keys ≡ map (pool_type p) keys
key_types_are p [] = refl
key_types_are p (key ∷ keys) = ap (λ n. n ∷ map (key_type (made_of p)) keys) (type_is_by p (desc_of_key key))
    ∙ ap (λ ns. pool_type p key ∷ ns) (key_types_are p keys)

pub descriptor_is : (p : Package) (q : Parts) (classes : List ClassDescriptor) (pool_types : List ℕ)
    (types : List TypeDescriptor) → AreMade p q
    → classes ≡ flat_map (classes_at (inputs_of q)) q.order.now → pool_types ≡ map (key_type (inputs_of q)) q.keys.now
    → types ≡ map type_descriptor (let t = q.types.now in t.types)
    → record { classes = classes; pool_types = pool_types; types = types } ≡ descriptor p
descriptor_is p q classes pool_types types h is_classes is_pool is_types =
    let of = h.of in
    let same = inputs_are p q h in
    let order : map Some (class_order (world p)) ≡ map (numbered_class (let files = p.files in files.classes))
    q.order.now =
    of.in_order ∙ ap (λ (files : Files). map (numbered_class files.classes) q.order.now) (sym of.by_files) in
    let all = is_classes ∙ ap (λ (x : Inputs). flat_map (classes_at x) q.order.now) same
    ∙ classes_are p q.order.now order in
    let keyed = is_pool ∙ ap (λ (x : Inputs). map (key_type x) q.keys.now) same
    ∙ ap (map (key_type (made_of p))) of.by_keys ∙ key_types_are p (pool p) in
    let typed = is_types ∙ ap (λ (t : TypeTable). map type_descriptor t.types) h.by_types in
    (λ i. record { classes = all i; pool_types = keyed i; types = typed i })
