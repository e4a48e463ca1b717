-- The classes that code puts together for Descriptor are those that the package wants.
use Rattle.std.proofs.Common.{◌≡◌, ℕ, suc, ◌+◌, ◌-◌, Bool, true, false, List, [], ◌∷◌, ◌++◌, map, length}
use Rattle.std.proofs.Common.{slice_get, refl, sym, ap, ◌∙◌, arith, Some}
use Rattle.std.specs.Prelude.{if◌then◌else◌, option_map, option_and_then, unwrap_or, codes}
use Rattle.std.specs.List.{flat_map}
use Rattle.std.specs.Str.{bytes_eq}
use Rattle.std.proofs.lemmas.List.{length-map, map-append}
use Rattle.std.proofs.lemmas.List.Concat.{flat_map_single}
use Rattle.std.proofs.lemmas.Option.{slice_get-map}
use Rattle.cjc_bytes.specs.AccessFlags.{is_static}
use Rattle.cjc_bytes.proofs.Gets.{get_behind, in_front}
use Rattle.cjc_classes.proofs.TypeInfo.Order.{added_is, along_order}
use Rattle.cjc_classes.specs.Descriptor.Working.Described.{number_in}
use Rattle.cjc_capread.specs.declared.tree.ClassRef.{ClassRef}
use Rattle.cjc_capread.specs.declared.tree.FieldPlace.TheVariants as places
use Rattle.cjc_classes.specs.Clinit.Image.{field_id}
use Rattle.cjc_classes.specs.LowerComponents.Class.{fields_in}
use Rattle.cjc_classes.specs.LowerComponents.Descriptor.{as_added, field_flags, method_flags, method_in}
use Rattle.cjc_classes.specs.LowerComponents.Descriptor.{methods_with_added}
use Rattle.cjc_classes.specs.LowerComponents.Descriptor.{no_member}
use Rattle.cjc_card_acts.specs.Script.Sorts.{Sort, Boolean, Byte, Short, Int, Reference, NoValue, field_sort}
use Rattle.cjc_classes.specs.LowerComponents.Statics.{cell_offset}
use Rattle.cjc_classes.specs.ClassOrder.Classes.Numbers.{declared_at}
use Rattle.cjc_methods.specs.Tokens.Fields.{is_constant}
use Rattle.cjc_methods.specs.Tokens.Tokens.{Assigned}
use Rattle.cjc_world.specs.ClassFile.declared.tree.ClassTree.{ClassTree}
use Rattle.cjc_world.specs.ClassFile.declared.tree.FieldTree.{FieldTree}
use Rattle.cjc_world.specs.ClassFile.declared.tree.MethodTree.{MethodTree}
use Rattle.cjc_world.specs.Files.{Files}
use Rattle.cjc_world.specs.Classes.{Member, declared, field_of_class, method_of_class}
use Rattle.cjc_world.specs.Added.{added, named_by}
use Rattle.cjc_world.specs.Lookup.{member_at}
use Rattle.cjc_world.specs.Order.{class_order, methods_of_class, places, written}
use Rattle.cjc_verify.specs.Described.{fields_from, member_token}
use Rattle.cjc_verify.specs.Pairs.{Pair, class_ref, nibbles_of, world}
use Rattle.cjc_verify.specs.WantedDescribed.{wanted_class, wanted_classes, wanted_field, wanted_method, wanted_type}
use Rattle.cjc_verify.specs.WantedMembers.{Inputs, added_by, class_by, class_where, classes_by, field_by}
use Rattle.cjc_verify.specs.WantedMembers.{fields_by, method_by, methods_by, own_methods_by, type_by}
use Rattle.cjc_verify.specs.declared.described.wanted.WantedField.{WantedField}
use Rattle.cjc_verify.specs.declared.described.wanted.WantedMethod.{WantedMethod}

-- the offset of the cell of each field by the number of its class and its own
abbrev pub cells_of : Pair → List (List ℕ)
cells_of p = let files = p.files in map (λ c. map (λ f. cell_offset p.image (field_id c.name f)) c.fields) files.classes

-- what is made of a package
abbrev pub made_of : Pair → Inputs
made_of p = record { files = p.files; tokens = p.tokens; ref = class_ref p; cells = cells_of p }

pub inputs_are : (p : Pair) (files : Files) (tokens : Assigned) (ref : List ℕ → ClassRef) (cells : List (List ℕ))
    → p.files ≡ files → p.tokens ≡ tokens → ((name : List ℕ) → ref name ≡ class_ref p name) → cells ≡ cells_of p
    → record { files = files; tokens = tokens; ref = ref; cells = cells } ≡ made_of p
inputs_are p files tokens ref cells by_files by_tokens by_refs by_cells =
    let same_files : files ≡ p.files = sym by_files in
    let same_tokens : tokens ≡ p.tokens = sym by_tokens in
    (λ i. record { files = same_files i; tokens = same_tokens i; ref = λ name. by_refs name i; cells = by_cells i })

module _ (p : Pair) (n : ℕ) (t : ClassTree) (there : slice_get (let files = p.files in files.classes) n ≡ Some t) where
  -- ---- fields

  cell_is : (k : ℕ) (f : FieldTree) → slice_get t.fields k ≡ Some f → number_in (cells_of p) n k
      ≡ cell_offset p.image (field_id t.name f)
  cell_is k f e =
      let files = p.files in
      let row : ClassTree → List ℕ = λ d. map (λ g. cell_offset p.image (field_id d.name g)) d.fields in
      let at : slice_get (map row files.classes) n ≡ Some (row t) = slice_get-map row files.classes n
      ∙ ap (option_map row) there in
      ap (λ o. unwrap_or (option_and_then (λ (r : List ℕ). slice_get r k) o) 0) at
      ∙ ap (λ o. unwrap_or o 0) (slice_get-map (λ g. cell_offset p.image (field_id t.name g)) t.fields k
      ∙ ap (option_map (λ g. cell_offset p.image (field_id t.name g))) e)

  type_is : (desc : List ℕ) (s : Sort) → type_by (nibbles_of p desc) s ≡ wanted_type p desc s
  type_is desc Boolean = refl
  type_is desc Byte = refl
  type_is desc Short = refl
  type_is desc Int = refl
  type_is desc (Reference shape) = refl
  type_is desc NoValue = refl

  field_is : (k : ℕ) (f : FieldTree) → slice_get t.fields k ≡ Some f → field_by (made_of p) n t.name k f
      ≡ wanted_field p (declared n t) (record { number = k; field = f })
  field_is k f e =
      let token = member_token p (member_at (declared n t) k) in
      let place = ap (λ o. if is_static f.flags then places.Static o else places.Instance (class_ref p t.name) token)
      (cell_is k f e) in
      let type_ = type_is f.desc (field_sort f.desc) in
      (λ i. record { token = token; flags = field_flags f.flags; place = place i; type_ = type_ i })

  fields_are : (k : ℕ) (fs : List FieldTree) → ((j : ℕ) (f : FieldTree) → slice_get fs j ≡ Some f
      → slice_get t.fields (k + j) ≡ Some f) → fields_by (made_of p) n t.name k fs
      ≡ map (wanted_field p (declared n t)) (fields_from k fs)
  fields_are k [] h = refl
  fields_are k (f ∷ fs) h =
      let z : k + 0 ≡ k = omega arith in
      let here : slice_get t.fields k ≡ Some f = ap (slice_get t.fields) (sym z) ∙ h 0 f refl in
      by (is_constant f) (field_is k f here) (fields_are (k + 1) fs (λ j g e. let s : k + 1 + j ≡ k + suc j = omega
      arith
      in ap (slice_get t.fields) s ∙ h (suc j) g e))
    where
      by : (b : Bool) → field_by (made_of p) n t.name k f ≡ wanted_field p (declared n t) (record {
        number = k;
        field = f;
      })
          → fields_by (made_of p) n t.name (k + 1) fs ≡ map (wanted_field p (declared n t)) (fields_from (k + 1) fs)
          → (if b then [] else field_by (made_of p) n t.name k f ∷ []) ++ fields_by (made_of p) n t.name (k + 1) fs
          ≡ map (wanted_field p (declared n t)) ((if b then [] else record { number = k; field = f } ∷ [])
          ++ fields_from (k + 1) fs)
      by true one more = more
      by false one more = ap (λ (w : WantedField). w ∷ fields_by (made_of p) n t.name (k + 1) fs) one
          ∙ ap (λ (ws : List WantedField). wanted_field p (declared n t) (record { number = k; field = f }) ∷ ws) more

  -- ---- methods

  method_is : (k : ℕ) (m : Member) → method_in (world p) (declared n t) k ≡ m
      → method_by (made_of p) n k m.flags m.name m.desc ≡ wanted_method p (declared n t) (member_at (declared n t) k)
  method_is k m e =
      let with : Member → WantedMethod = λ y. record {
        token = member_token p (member_at (declared n t) k);
        flags = method_flags y;
        nibbles = nibbles_of p y.desc;
      } in
      ap with (sym e)

  -- the methods of the class file from one on
  own_are : (j : ℕ) (ms : List MethodTree) → ((i : ℕ) (m : MethodTree) → slice_get ms i ≡ Some m
      → slice_get t.methods (j + i) ≡ Some m)
      → own_methods_by (made_of p) n (length t.fields + j) ms ≡ map (wanted_method p (declared n t))
      (written (declared n t) (length t.fields + j) (map method_of_class ms))
  own_are j [] h = refl
  own_are j (m ∷ ms) h =
      let z : j + 0 ≡ j = omega arith in
      let here : slice_get t.methods j ≡ Some m = ap (slice_get t.methods) (sym z) ∙ h 0 m refl in
      let fields : length (declared n t).fields ≡ length t.fields = length-map t.fields field_of_class in
      let place : length t.fields + j - length (declared n t).fields ≡ j = omega (arith, fields) in
      let is : method_in (world p) (declared n t) (length t.fields + j) ≡ method_of_class m =
      ap (λ k. unwrap_or (slice_get (methods_with_added (world p) (declared n t)) k) no_member) place
      ∙ ap (λ o. unwrap_or o no_member) (in_front (declared n t).methods
      (map as_added (added (world p) (declared n t)))
      j (method_of_class m) (slice_get-map method_of_class t.methods j ∙ ap (option_map method_of_class) here)) in
      let s : length t.fields + j + 1 ≡ length t.fields + (j + 1) = omega arith in
      let rest = own_are (j + 1) ms (λ i q e. let k : j + 1 + i ≡ j + suc i = omega arith
      in ap (slice_get t.methods) k ∙ h (suc i) q e) in
      by (bytes_eq m.name (codes "<clinit>")) (method_is (length t.fields + j) (method_of_class m) is)
      (ap (λ k. own_methods_by (made_of p) n k ms) s ∙ rest
      ∙ ap (λ k. map (wanted_method p (declared n t)) (written (declared n t) k (map method_of_class ms))) (sym s))
    where
      by : (b : Bool) → method_by (made_of p) n (length t.fields + j) m.flags m.name m.desc
          ≡ wanted_method p (declared n t) (member_at (declared n t) (length t.fields + j))
          → own_methods_by (made_of p) n (length t.fields + j + 1) ms ≡ map (wanted_method p (declared n t))
          (written (declared n t) (length t.fields + j + 1) (map method_of_class ms))
          → (if b then [] else method_by (made_of p) n (length t.fields + j) m.flags m.name m.desc ∷ [])
          ++ own_methods_by (made_of p) n (length t.fields + j + 1) ms
          ≡ map (wanted_method p (declared n t)) (if b then written (declared n t) (length t.fields + j + 1)
          (map method_of_class ms) else member_at (declared n t) (length t.fields + j)
          ∷ written (declared n t) (length t.fields + j + 1) (map method_of_class ms))
      by true one more = more
      by false one more = ap (λ (w : WantedMethod). w ∷ own_methods_by (made_of p) n (length t.fields + j + 1) ms) one
          ∙ ap (λ (ws : List WantedMethod). wanted_method p (declared n t) (member_at (declared n t) (length t.fields
          + j))
          ∷ ws) more

  -- those that the class got, from one on
  added_are : (j : ℕ) (ms : List Member) → ((i : ℕ) (m : Member) → slice_get ms i ≡ Some m
      → slice_get (added (world p) (declared n t)) (j + i) ≡ Some m)
      → added_by (made_of p) n (length t.fields + length t.methods + j) (map (named_by t.name) ms)
      ≡ map (wanted_method p (declared n t)) (places (declared n t) (length t.fields + length t.methods + j)
      (length ms))
  added_are j [] h = refl
  added_are j (m ∷ ms) h =
      let z : j + 0 ≡ j = omega arith in
      let more = added (world p) (declared n t) in
      let here : slice_get more j ≡ Some m = ap (slice_get more) (sym z) ∙ h 0 m refl in
      let fields : length (declared n t).fields ≡ length t.fields = length-map t.fields field_of_class in
      let methods : length (declared n t).methods ≡ length t.methods = length-map t.methods method_of_class in
      let at = length t.fields + length t.methods + j in
      let place : length t.fields + length t.methods + j - length (declared n t).fields ≡ length (declared n t).methods
      + j = omega (arith, fields, methods) in
      let is : method_in (world p) (declared n t) at ≡ as_added m =
      ap (λ k. unwrap_or (slice_get (methods_with_added (world p) (declared n t)) k) no_member) place
      ∙ ap (λ o. unwrap_or o no_member) (get_behind (declared n t).methods (map as_added more) j
      ∙ slice_get-map as_added more j ∙ ap (option_map as_added) here) in
      let s : length t.fields + length t.methods + j + 1 ≡ length t.fields + length t.methods + (j + 1) = omega arith in
      let rest = added_are (j + 1) ms (λ i q e. let k : j + 1 + i ≡ j + suc i = omega arith in ap (slice_get more) k
      ∙ h (suc i) q e) in
      ap (λ (w : WantedMethod). w ∷ added_by (made_of p) n (at + 1) (map (named_by t.name) ms))
      (method_is at (as_added m) is)
      ∙ ap (λ (ws : List WantedMethod). wanted_method p (declared n t) (member_at (declared n t) at) ∷ ws)
      (ap (λ k. added_by (made_of p) n k (map (named_by t.name) ms)) s ∙ rest
      ∙ ap (λ k. map (wanted_method p (declared n t)) (places (declared n t) k (length ms))) (sym s))

  methods_are : methods_by (made_of p) n (map (named_by t.name) (added (world p) (declared n t))) t
      ≡ map (wanted_method p (declared n t)) (methods_of_class (world p) (declared n t))
  methods_are =
      let d = wanted_method p (declared n t) in
      let fields : length t.fields ≡ length (declared n t).fields = sym (length-map t.fields field_of_class) in
      let methods : length t.methods ≡ length (declared n t).methods = sym (length-map t.methods method_of_class) in
      let zf : length t.fields ≡ length t.fields + 0 = omega arith in
      let za : length t.fields + length t.methods ≡ length t.fields + length t.methods + 0 = omega arith in
      let more = added (world p) (declared n t) in
      let own = own_are 0 t.methods (λ i m e. let z : 0 + i ≡ i = omega arith in ap (slice_get t.methods) z ∙ e) in
      let got = added_are 0 more (λ i m e. let z : 0 + i ≡ i = omega arith in ap (slice_get more) z ∙ e) in
      let front : own_methods_by (made_of p) n (length t.fields) t.methods
      ≡ map d (written (declared n t) (length (declared n t).fields) (declared n t).methods) =
      ap (λ k. own_methods_by (made_of p) n k t.methods) zf ∙ own
      ∙ ap (λ k. map d (written (declared n t) k (map method_of_class t.methods))) (sym zf ∙ fields) in
      let back : added_by (made_of p) n (length t.fields + length t.methods) (map (named_by t.name) more)
      ≡ map d (places (declared n t) (length (declared n t).fields + length (declared n t).methods) (length more)) =
      ap (λ k. added_by (made_of p) n k (map (named_by t.name) more)) za ∙ got
      ∙ ap (λ k. map d (places (declared n t) k (length more))) (sym za ∙ ap (λ k. k + length t.methods) fields
      ∙ ap (λ k. length (declared n t).fields + k) methods) in
      ap (λ xs. xs ++ added_by (made_of p) n (length t.fields + length t.methods) (map (named_by t.name) more)) front
      ∙ ap (λ xs. map d (written (declared n t) (length (declared n t).fields) (declared n t).methods) ++ xs) back
      ∙ sym (map-append d (written (declared n t) (length (declared n t).fields) (declared n t).methods)
      (places (declared n t) (length (declared n t).fields + length (declared n t).methods) (length more)))

  -- ---- the class

  class_is : class_by (made_of p) n (map (named_by t.name) (added (world p) (declared n t))) t
      ≡ wanted_class p (declared n t)
  class_is =
      let whole = wanted_class p (declared n t) in
      let fields : fields_by (made_of p) n t.name 0 t.fields ≡ whole.fields =
      fields_are 0 t.fields (λ j f e. let z : 0 + j ≡ j = omega arith in ap (slice_get t.fields) z ∙ e)
      ∙ ap (λ o. map (wanted_field p (declared n t)) (fields_from 0 (fields_in o))) (sym there) in
      let methods = methods_are in
      (λ i. record { token = whole.token; flags = whole.flags; fields = fields i; methods = methods i })

  pub number_is : classes_by (made_of p) n ≡ wanted_class p (declared n t) ∷ []
  number_is =
      ap (class_where (made_of p) n) there
      ∙ ap (λ ms. class_by (made_of p) n ms t ∷ []) (added_is p.files n t there)
      ∙ ap (λ d. d ∷ []) class_is

-- ---- all

pub classes_are : (p : Pair) (order : List ℕ) → map Some (class_order (world p))
    ≡ map (declared_at (let files = p.files in files.classes)) order
    → flat_map (classes_by (made_of p)) order ≡ wanted_classes p
classes_are p order in_order =
    along_order (let files = p.files in files.classes) (classes_by (made_of p)) (λ c. wanted_class p c
    ∷ []) (number_is p) (class_order (world p)) order in_order
    ∙ flat_map_single (wanted_class p) (class_order (world p))
