-- Names by the numbers of classes are those of the classes in their order.
use Rattle.std.proofs.Common.{◌≡◌, ℕ, suc, ◌+◌, ◌-◌, Bool, true, false, List, [], ◌∷◌, ◌++◌, map, length}
use Rattle.std.proofs.Common.{slice_get, refl, sym, ap, ◌∙◌, arith, append-nil, Some, None}
use Rattle.std.specs.Prelude.{if◌then◌else◌, option_map, unwrap_or, codes}
use Rattle.std.specs.List.{flat_map}
use Rattle.std.specs.Str.{bytes_eq}
use Rattle.std.proofs.lemmas.List.{map-append, length-map}
use Rattle.std.proofs.lemmas.List.Concat.{flat_map_single}
use Rattle.std.proofs.lemmas.Option.{slice_get-map}
use Rattle.cjc_card_link.specs.Bytes.AccessFlags.{is_interface}
use Rattle.cjc_classes.specs.CardSemantics.Machine.Loaded.{MethodName, ClassNames}
use Rattle.cjc_card_link.specs.declared.names.ClassNames.{ClassNames as ClassNamesData}
use Rattle.cjc_card_link.specs.Names.{class_names_of}
use Rattle.cjc_classes.specs.ClassOrder.Classes.Numbers.{declared_at}
use Rattle.cjc_classes.specs.ClassFile.declared.tree.ClassTree.{ClassTree}
use Rattle.cjc_classes.specs.ClassFile.declared.tree.FieldTree.{FieldTree}
use Rattle.cjc_classes.specs.ClassFile.declared.tree.MethodTree.{MethodTree}
use Rattle.cjc_classes.specs.LowerComponents.Class.{fields_in}
use Rattle.cjc_classes.specs.LowerComponents.Descriptor.{as_added, method_in, methods_with_added, no_member}
use Rattle.cjc_classes.specs.LowerComponents.Paired.Naming.{class_names, fields_from, interface_names, method_name}
use Rattle.cjc_classes.specs.LowerComponents.Paired.Naming.{method_names}
use Rattle.cjc_classes.specs.LowerComponents.Paired.Naming.{signature_name}
use Rattle.cjc_classes.specs.LowerTokens.Fields.{is_instance}
use Rattle.cjc_classes.specs.LowerTokens.Members.{Signature}
use Rattle.cjc_classes.specs.LowerTokens.Methods.{interface_methods}
use Rattle.cjc_classes.specs.LowerTokens.Tokens.{Assigned}
use Rattle.cjc_classes.proofs.TypeInfo.Order.{along_order}
use Rattle.cjc_card_link.specs.World.Added.{added}
use Rattle.cjc_card_link.specs.World.Classes.{Class, Member, all_classes, declared, field_of_class, method_of_class}
use Rattle.cjc_card_link.specs.World.declared.found.Found.{Found}
use Rattle.cjc_card_link.specs.World.Files.{Files}
use Rattle.cjc_card_link.specs.World.Order.{class_order, in_order, written}
use Rattle.cjc_pairing.specs.CardNames.Working.Classes.{each_from, field_where, name_in, name_where, names_at, names_of}
use Rattle.cjc_pairing.specs.CardNames.Working.Classes.{names_where}
use Rattle.cjc_classes.proofs.BytesGets.{in_front}

-- ---- methods

module _ (w : List Class) (n : ℕ) (t : ClassTree) where
  abbrev name_of : Found → MethodName
  name_of f = method_name (method_in w (declared n t) f.member)

  method_is : (j : ℕ) (m : MethodTree) → slice_get t.methods j ≡ Some m
      → method_in w (declared n t) (length t.fields + j) ≡ method_of_class m
  method_is j m e =
      let fields : length (declared n t).fields ≡ length t.fields = length-map t.fields field_of_class in
      let place : length t.fields + j - length (declared n t).fields ≡ j = omega (arith, fields) in
      ap (λ k. unwrap_or (slice_get (methods_with_added w (declared n t)) k) no_member) place
      ∙ ap (λ o. unwrap_or o no_member) (in_front (declared n t).methods (map as_added (added w (declared n t))) j
      (method_of_class m) (slice_get-map method_of_class t.methods j ∙ ap (option_map method_of_class) e))

  -- the methods of the class file from one on
  own_are : (j : ℕ) (ms : List MethodTree) → ((i : ℕ) (m : MethodTree) → slice_get ms i ≡ Some m
      → slice_get t.methods (j + i) ≡ Some m)
      → flat_map name_where ms ≡ map name_of (written (declared n t) (length t.fields + j) (map method_of_class ms))
  own_are j [] h = refl
  own_are j (m ∷ ms) h =
      let z : j + 0 ≡ j = omega arith in
      let here : slice_get t.methods j ≡ Some m = ap (slice_get t.methods) (sym z) ∙ h 0 m refl in
      let s : length t.fields + j + 1 ≡ length t.fields + (j + 1) = omega arith in
      let rest = own_are (j + 1) ms (λ i q e. let k : j + 1 + i ≡ j + suc i = omega arith in ap (slice_get t.methods) k
      ∙ h (suc i) q e) in
      by (bytes_eq m.name (codes "<clinit>")) (ap method_name (method_is j m here)) (rest
      ∙ ap (λ k. map name_of (written (declared n t) k (map method_of_class ms))) (sym s))
    where
      by : (b : Bool) → method_name (method_in w (declared n t) (length t.fields + j)) ≡ record {
        name = m.name;
        desc = m.desc;
      }
          → flat_map name_where ms ≡ map name_of (written (declared n t) (length t.fields + j + 1)
          (map method_of_class ms))
          → (if b then [] else record { name = m.name; desc = m.desc } ∷ []) ++ flat_map name_where ms
          ≡ map name_of (if b then written (declared n t) (length t.fields + j + 1) (map method_of_class ms)
          else record { imported = false; class = n; member = length t.fields + j }
          ∷ written (declared n t) (length t.fields + j + 1) (map method_of_class ms))
      by true one more = more
      by false one more = ap (λ d. d ∷ flat_map name_where ms) (sym one)
          ∙ ap (λ ds. method_name (method_in w (declared n t) (length t.fields + j)) ∷ ds) more

  pub methods_are : flat_map name_where t.methods ≡ method_names w (declared n t)
  methods_are =
      let fields : length t.fields ≡ length (declared n t).fields = sym (length-map t.fields field_of_class) in
      let zf : length t.fields + 0 ≡ length (declared n t).fields = omega (arith, fields) in
      own_are 0 t.methods (λ i m e. let z : 0 + i ≡ i = omega arith in ap (slice_get t.methods) z ∙ e)
      ∙ ap (λ k. map name_of (written (declared n t) k (map method_of_class t.methods))) zf

-- ---- an interface's methods

pub slots_are : (ss : List Signature) → flat_map name_in (map Some ss) ≡ map signature_name ss
slots_are [] = refl
slots_are (s ∷ ss) = ap (λ ms. signature_name s ∷ ms) (slots_are ss)

pub interface_is : (w : List Class) (c : Class) → is_interface c.flags ≡ true
    → map signature_name (interface_methods w c) ≡ interface_names w c
interface_is w c e = ap (λ b. if b then map signature_name (interface_methods w c) else []) (sym e)

-- ---- fields

pub fields_are : (a : Assigned) (n : ℕ) (t : ClassTree) (k : ℕ) (fs : List FieldTree) → each_from (field_where a n) k fs
    ≡ fields_from a (declared n t) k fs
fields_are a n t k [] = refl
fields_are a n t k (f ∷ fs) = ap (λ xs. field_where a n k f ++ xs) (fields_are a n t (k + 1) fs)

-- ---- one class

module _ (files : Files) (a : Assigned) where
  class_is : (n : ℕ) (t : ClassTree) → slice_get files.classes n ≡ Some t → names_of files a n t
      ≡ class_names files a (declared n t)
  class_is n t there =
      let whole = class_names files a (declared n t) in
      let methods = methods_are (all_classes files) n t in
      let fields : each_from (field_where a n) 0 t.fields ≡ whole.fields = fields_are a n t 0 t.fields
      ∙ ap (λ o. fields_from a (declared n t) 0 (fields_in o)) (sym there) in
      (λ i. record {
        name = whole.name;
        methods = methods i;
        fields = fields i;
        interface_methods = whole.interface_methods;
      })

  number_is : (n : ℕ) (t : ClassTree) → slice_get files.classes n ≡ Some t
      → names_at files a n ≡ class_names files a (declared n t) ∷ []
  number_is n t there = ap (names_where files a n) there ∙ ap (λ c. c ∷ []) (class_is n t there)
      -- ---- the names of a number at the end of others

  pub some_there : (n : ℕ) (t : ClassTree) (old new : List ClassNamesData) (x : ClassNamesData)
      → slice_get files.classes n ≡ Some t → class_names_of x ≡ names_of files a n t → new ≡ old ++ x ∷ []
      → map class_names_of new ≡ map class_names_of old ++ names_at files a n
  some_there n t old new x there is e =
      ap (map class_names_of) e
      ∙ map-append class_names_of old (x ∷ [])
      ∙ ap (λ y. map class_names_of old ++ y ∷ []) is
      ∙ ap (λ o. map class_names_of old ++ names_where files a n o) (sym there)

  pub none_there : (n : ℕ) (old : List ClassNamesData) → slice_get files.classes n ≡ None → map class_names_of old
      ≡ map class_names_of old ++ names_at files a n
  none_there n old none = sym (append-nil (map class_names_of old)) ∙ ap (λ o. map class_names_of old
      ++ names_where files a n o) (sym none)

  -- ---- all

  numbers_are : (cs : List Class) (ns : List ℕ) → map Some cs ≡ map (declared_at files.classes) ns
      → flat_map (names_at files a) ns ≡ map (class_names files a) cs
  numbers_are cs ns e =
      along_order files.classes (names_at files a) (λ c. class_names files a c ∷ []) number_is cs ns e
      ∙ flat_map_single (class_names files a) cs

  pub both_are : (is cs : List ℕ) (named first : List ClassNames) → map Some (in_order (all_classes files) true)
      ≡ map (declared_at files.classes) is
      → map Some (in_order (all_classes files) false) ≡ map (declared_at files.classes) cs
      → first ≡ flat_map (names_at files a) is → named ≡ first ++ flat_map (names_at files a) cs
      → named ≡ map (class_names files a) (class_order (all_classes files))
  unfolding class_order
  both_are is cs named first of_is of_cs one two =
      let w = all_classes files in
      let f = class_names files a in
      two
      ∙ ap (λ xs. xs ++ flat_map (names_at files a) cs) (one ∙ numbers_are (in_order w true) is of_is)
      ∙ ap (λ xs. map f (in_order w true) ++ xs) (numbers_are (in_order w false) cs of_cs)
      ∙ sym (map-append f (in_order w true) (in_order w false))
