-- Where 301 is not broken, each field of a class file is of a type that values have.
use Rattle.std.proofs.Common.{◌≡◌, ℕ, zero, suc, ◌+◌, ◌^◌, refl, sym, ap, subst, ◌∙◌, arith, Bool, true, false, List}
use Rattle.std.proofs.Common.{[], ◌∷◌, ◌++◌, length, inl, inr, ⊎_elim, take}
use Rattle.std.specs.Prelude.{not, ◌&&◌, ◌||◌, ◌==◌, ◌⊎◌, Some, None, is_some, option_and_then, slice_get}
use Rattle.std.specs.Prelude.{unwrap_or, if◌then◌else◌}
use Rattle.std.proofs.lemmas.Bool.{eqb-true, lt-ltb}
use Rattle.cjc_bytes.specs.Breaks.{Break, at, each_from}
use Rattle.cjc_bytes.specs.Order.{file_of}
use Rattle.cjc_bytes.specs.Descriptor.{IsClassName, IsDescriptor, IsName, IsType, Part, Parts, array, base, base_kind}
use Rattle.cjc_bytes.specs.Descriptor.{field, method, object, plain}
use Rattle.cjc_bytes.specs.Descriptor as spelling
use Rattle.cjc_bytes.specs.Spots.{desc_of, part_of}
use Rattle.cjc_bytes.specs.declared.descriptor.Kind.{Kind}
use Rattle.cjc_bytes.specs.declared.descriptor.Kind.TheVariants as kinds
use Rattle.cjc_bytes.proofs.DescriptorTypes.{desc_read, desc_spelt}
use Rattle.cjc_card_semantics.specs.Machine.ByToken.{letter_of}
use Rattle.cjc_world_proof.specs.Bytecode.declared.method_code.MethodCode.{MethodCode}
use Rattle.cjc_bytes.specs.AccessFlags.{is_interface}
use Rattle.cjc_bytes.specs.declared.settings.Settings.{Settings}
use Rattle.cjc_bytes.proofs.Gets.{all_but_last}
use Rattle.cjc_bytes.proofs.BrokenRules.{not_broken}
use Rattle.cjc_bytes.proofs.Options.{some_shape}
use Rattle.cjc_bytes.proofs.Lists.{none_left, none_right}
use Rattle.cjc_bytes.proofs.Bools.{or_left}
use Rattle.cjc_bytes.proofs.Numbers.{first_byte}
use Rattle.cjc_script.specs.Sorts.{OfClass, OfReferences, array_by, array_of, reference_to, shape_named, sort_by}
use Rattle.cjc_script.specs.Sorts.{sort_of, sort_or_none}
use Rattle.cjc_world_proof.specs.Subset.Checks.{check_breaks, class_breaks, code_breaks, field_breaks, list_breaks}
use Rattle.cjc_world_proof.specs.Subset.Checks.{method_breaks}
use Rattle.cjc_world_proof.specs.Subset.Checks.{own_breaks}
use Rattle.cjc_world_proof.specs.Subset.Flags.{is_unfit_field}
use Rattle.cjc_world_proof.specs.Subset.Overriding.{overriding_breaks}
use Rattle.cjc_world_proof.specs.Subset.Places.{at_field}
use Rattle.cjc_world_proof.specs.Subset.Types.{is_any_unsupported, is_unsupported_desc, is_unsupported_element}
use Rattle.cjc_world_proof.specs.Subset.Types.{is_unsupported_name}
use Rattle.cjc_world_proof.specs.Subset.Types.{is_unsupported_part, is_int_desc, is_other}
use Rattle.cjc_tokens.specs.Fields.{is_reference}
use Rattle.cjc_token_proof.specs.ByToken.Objects.{is_reference as is_reference_sort}
use Rattle.cjc_world.specs.Files.{Files}
use Rattle.cjc_token_proof.specs.Tables.Sound.{AreFieldDescs, AreTyped, IsFieldDesc, IsTyped}

-- ---- letters

is_plain : Kind → Bool
is_plain kinds.Bool = true
is_plain kinds.Byte = true
is_plain kinds.Short = true
is_plain kinds.Int = true
is_plain _ = false

-- a letter is of a type that values have, or it is unsupported
letters : (b : ℕ) (kind : Kind) → base_kind b ≡ Some kind → (is_plain kind ≡ true) ⊎ ((is_other kind ≡ true)
    × (is_unsupported_element (b ∷ []) ≡ true))
unfolding is_plain
letters b kind e = go (b == 66) (b == 67) (b == 68) (b == 70) (b == 73) (b == 74) (b == 83) (b == 90) refl refl refl
    refl e
  where
    good : (k : Kind) → Some k ≡ Some kind → is_plain k ≡ true → (is_plain kind ≡ true) ⊎ ((is_other kind ≡ true)
        × (is_unsupported_element (b ∷ []) ≡ true))
    good k same h = let is : k ≡ kind = cc in inl (ap is_plain (sym is) ∙ h)

    bad : Some kinds.Other ≡ Some kind → (c : ℕ) → (b == c) ≡ true → is_unsupported_element (c ∷ []) ≡ true
        → (is_plain kind ≡ true) ⊎ ((is_other kind ≡ true) × (is_unsupported_element (b ∷ []) ≡ true))
    bad same c at h = let is : kinds.Other ≡ kind = cc
        in inr (ap is_other (sym is), ap (λ x. is_unsupported_element (x ∷ [])) (eqb-true b c at) ∙ h)

    go : (x1 x2 x3 x4 x5 x6 x7 x8 : Bool) → (b == 67) ≡ x2 → (b == 68) ≡ x3 → (b == 70) ≡ x4 → (b == 74) ≡ x6
        → (if x1 then Some kinds.Byte else if x2 then Some kinds.Other else if x3 then Some kinds.Other else if x4
        then Some kinds.Other else if x5 then Some kinds.Int else if x6 then Some kinds.Other else if x7
        then Some kinds.Short else if x8 then Some kinds.Bool else None) ≡ Some kind
        → (is_plain kind ≡ true) ⊎ ((is_other kind ≡ true) × (is_unsupported_element (b ∷ []) ≡ true))
    go true x2 x3 x4 x5 x6 x7 x8 p q r s f = good kinds.Byte f refl
    go false true x3 x4 x5 x6 x7 x8 p q r s f = bad f 67 p refl
    go false false true x4 x5 x6 x7 x8 p q r s f = bad f 68 q refl
    go false false false true x5 x6 x7 x8 p q r s f = bad f 70 r refl
    go false false false false true x6 x7 x8 p q r s f = good kinds.Int f refl
    go false false false false false true x7 x8 p q r s f = bad f 74 s refl
    go false false false false false false true x8 p q r s f = good kinds.Short f refl
    go false false false false false false false true p q r s f = good kinds.Bool f refl
    go false false false false false false false false p q r s f = cc

-- no letter begins a class or an array
no_reference : (b : ℕ) (kind : Kind) → base_kind b ≡ Some kind → ((b == 76) ≡ false) × ((b == 91) ≡ false)
no_reference b kind e = (go 76 (b == 76) refl refl, go 91 (b == 91) refl refl)
  where
    go : (c : ℕ) (q : Bool) → (b == c) ≡ q → base_kind c ≡ None → q ≡ false
    go c true h none = let clash : None ≡ Some kind = sym none ∙ ap base_kind (sym (eqb-true b c h)) ∙ e in cc
    go c false h none = refl

plain_sort : (kind : Kind) → is_plain kind ≡ true → (is_some (letter_of (sort_by kind [])) ≡ true)
    × (is_reference_sort (sort_by kind []) ≡ false)
unfolding is_plain
plain_sort kinds.Bool e = (refl, refl)
plain_sort kinds.Byte e = (refl, refl)
plain_sort kinds.Short e = (refl, refl)
plain_sort kinds.Int e = (refl, refl)
plain_sort kinds.Other e = cc
plain_sort kinds.Ref e = cc
plain_sort kinds.Void e = cc

plain_array : (kind : Kind) → is_plain kind ≡ true → is_some (array_of kind []) ≡ true
unfolding is_plain
plain_array kinds.Bool e = refl
plain_array kinds.Byte e = refl
plain_array kinds.Short e = refl
plain_array kinds.Int e = refl
plain_array kinds.Other e = cc
plain_array kinds.Ref e = cc
plain_array kinds.Void e = cc

-- ---- names of classes

record BeginsAsName (name : List ℕ) : Type 0 where
  byte : ℕ
  more : List ℕ
  is : name ≡ byte ∷ more
  no_array : (byte == 91) ≡ false

name_begins : (name : List ℕ) → IsName name → BeginsAsName name
name_begins _ (spelling.last {b = b} e) = record { byte = b; more = []; is = refl; no_array = first_byte b e }
name_begins _ (spelling.more {b = b} {name = name} e h) = record {
  byte = b;
  more = name;
  is = refl;
  no_array = first_byte b e;
}

class_begins : (name : List ℕ) → IsClassName name → BeginsAsName name
class_begins name (spelling.simple h) = name_begins name h
class_begins _ (spelling.inside {front = front} {back = back} h more) =
    let first = name_begins front h in
    record {
      byte = first.byte;
      more = first.more ++ 47 ∷ back;
      is = ap (λ f. f ++ 47 ∷ back) first.is;
      no_array = first.no_array;
    }

take_all : (name : List ℕ) → take (length name) (name ++ 59 ∷ []) ≡ name
take_all [] = refl
take_all (b ∷ name) = ap (λ n. b ∷ n) (take_all name)

-- ---- types

abbrev Typed : Part → List ℕ → Type 0
Typed d bytes = (is_some (letter_of (sort_of d)) ≡ true) × (is_reference_sort (sort_of d) ≡ is_reference bytes)

array_typed : (bytes : List ℕ) → is_some (shape_named (91 ∷ bytes)) ≡ true
    → Typed (record { kind = kinds.Ref; class = 91 ∷ bytes }) (91 ∷ bytes)
array_typed bytes e = let r = some_shape (shape_named (91 ∷ bytes)) e
    in (ap (λ o. is_some (letter_of (reference_to o))) r.1, ap (λ o. is_reference_sort (reference_to o)) r.1)

element_shape : {d : Part} {bytes : List ℕ} → IsType d bytes → is_unsupported_element bytes ≡ false
    → is_some (shape_named (91 ∷ bytes)) ≡ true
element_shape (base {b = b} {kind = kind} e) f =
    let described = desc_read _ (91 ∷ b ∷ []) (field (array (base e))) in
    let n = no_reference b kind e in
    let part : part_of (b ∷ []) ≡ plain kind =
    ap (λ q. if q then record { kind = kinds.Ref; class = b ∷ [] } else (if b == 76 then record {
      kind = kinds.Ref;
      class = [];
    } else plain (unwrap_or (base_kind b) kinds.Void))) n.1
    ∙ ap (λ q. if q then record { kind = kinds.Ref; class = [] } else plain (unwrap_or (base_kind b) kinds.Void)) n.0
    ∙ ap (λ o. plain (unwrap_or o kinds.Void)) e in
    ap (λ o. is_some (option_and_then (λ d. array_by (part_of (b ∷ []))) o)) described
    ∙ ap (λ (q : Part). is_some (array_by q)) part
    ∙ ⊎_elim (λ p. plain_array kind p) (λ r. (let clash : true ≡ false = sym r.1 ∙ f in absurd (cc))) (letters b kind e)
element_shape (object {name = name} spelt) f =
    let h = class_begins name spelt in
    let described = desc_read _ (91 ∷ 76 ∷ name ++ 59 ∷ []) (field (array (object spelt))) in
    ap (λ o. is_some (option_and_then (λ d. array_by (part_of (76 ∷ name ++ 59 ∷ []))) o)) described
    ∙ ap (λ c. is_some (array_of kinds.Ref c)) (all_but_last name ∙ h.is)
    ∙ ap (λ q. is_some (if q then None else Some (OfReferences (h.byte ∷ h.more)))) h.no_array
element_shape (array t) f = cc

type_typed : {d : Part} {bytes : List ℕ} → IsType d bytes → is_unsupported_part d ≡ false → Typed d bytes
type_typed (base {b = b} {kind = kind} e) f =
    let n = no_reference b kind e in
    let nothing : is_reference (b ∷ []) ≡ false = ap (λ q. q || (b == 91)) n.0 ∙ n.1 in
    ⊎_elim {C = Typed (plain kind) (b ∷ [])} (λ p. (let r = plain_sort kind p in (r.0, r.1 ∙ sym nothing)))
    (λ r. (let clash : true ≡ false = sym r.0 ∙ or_left (is_other kind) (is_unsupported_name []) f in absurd (cc)))
    (letters b kind e)
type_typed (object {name = name} spelt) f =
    let h = class_begins name spelt in
    let shape : shape_named name ≡ Some (OfClass (h.byte ∷ h.more)) = ap shape_named h.is
    ∙ ap (λ q. if q then option_and_then (λ d. array_by (part_of h.more)) (desc_of (h.byte ∷ h.more))
    else Some (OfClass (h.byte ∷ h.more))) h.no_array in
    (ap (λ o. is_some (letter_of (reference_to o))) shape, ap (λ o. is_reference_sort (reference_to o)) shape)
type_typed (array {bytes = bytes} t) f = array_typed bytes (element_shape t f)

-- ---- a descriptor

result_typed : {d : Parts} {desc : List ℕ} → IsDescriptor d desc → d.is_method ≡ false → is_any_unsupported (Some d)
    ≡ false → Typed d.result desc
result_typed (field {p = part} t) m f = type_typed t (or_left (is_unsupported_part part) false f)
result_typed (method ts r) m f = cc

desc_typed : (desc : List ℕ) → IsFieldDesc desc → is_unsupported_desc desc ≡ false → IsTyped desc
unfolding is_unsupported_desc
desc_typed desc h external =
    let parts : is_any_unsupported (desc_of desc) ≡ false = ap (λ b. b && is_any_unsupported (desc_of desc))
    (sym (lt-ltb (length desc) (2 ^ 32) h.short)) ∙ external in
    let r = result_typed (desc_spelt h.parts desc h.is_desc) h.is_field (ap is_any_unsupported (sym h.is_desc) ∙ parts)
    in
    record {
      some = ap (λ o. is_some (letter_of (sort_or_none o))) h.is_desc ∙ r.0;
      reference = ap (λ o. is_reference_sort (sort_or_none o)) h.is_desc ∙ r.1;
    }

-- ---- 301

each_none : {A : Type 0} (f : ℕ → A → List Break) (i : ℕ) (xs : List A) → each_from f i xs ≡ [] → (k : ℕ) (x : A)
    → slice_get xs k ≡ Some x → f (i + k) x ≡ []
unfolding each_from
each_none f i [] e k x h = cc
each_none f i (y ∷ xs) e zero x h = let is : y ≡ x = cc in let z : i + 0 ≡ i = omega arith in ap (λ j. f j x) z
    ∙ ap (f i) (sym is) ∙ none_left (f i y) (each_from f (i + 1) xs) e
each_none f i (y ∷ xs) e (suc k) x h = let s : i + suc k ≡ i + 1 + k = omega arith in ap (λ j. f j x) s
    ∙ each_none f (i + 1) xs (none_right (f i y) (each_from f (i + 1) xs) e) k x h

pub fields_typed : (list : List ℕ) (files : Files) (codes : List MethodCode) (settings : Settings) → AreFieldDescs files
    → check_breaks list files codes settings ≡ [] → AreTyped files
unfolding check_breaks class_breaks field_breaks
fields_typed list files codes settings read e n k c f is_class is_field =
    let A = list_breaks list files settings in
    let B = each_from (λ n c. class_breaks files settings (file_of files.lines n) n c) 0 files.classes in
    let C = each_from (λ _ code. code_breaks files settings code) 0 codes in
    let z : 0 + n ≡ n = omega arith in
    let y : 0 + k ≡ k = omega arith in
    let p = file_of files.lines n in
    let class = each_none (λ n c. class_breaks files settings (file_of files.lines n) n c) 0 files.classes
    (none_right A B (none_left (A ++ B) C e)) n c is_class in
    let here : class_breaks files settings p n c ≡ [] = subst (λ m. class_breaks files settings (file_of files.lines m)
    m c ≡ []) z class in
    let O = own_breaks files settings p n c in
    let F = each_from (λ i m. field_breaks settings p c i m) 0 c.fields in
    let M = each_from (λ i m. method_breaks settings p c i m) 0 c.methods in
    let fields = each_none (λ i m. field_breaks settings p c i m) 0 c.fields
    (none_right O F (none_left (O ++ F) M (none_left (O ++ F ++ M) (overriding_breaks files p c) here))) k f is_field
    in
    let one : field_breaks settings p c k f ≡ [] = subst (λ m. field_breaks settings p c m f ≡ []) y fields in
    let X = at (is_unsupported_desc f.desc) (at_field p c k f) 301 in
    let Y = at (not settings.ints && is_int_desc f.desc) (at_field p c k f) 302 in
    let Z = at (is_unfit_field (is_interface c.flags) f.flags) (at_field p c k f) 304 in
    desc_typed f.desc (read n k c f is_class is_field) (not_broken (is_unsupported_desc f.desc) (at_field p c k f) 301
    (none_left X Y (none_left (X ++ Y) Z one)))
