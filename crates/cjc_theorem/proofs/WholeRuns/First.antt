-- What a static image says is of sound types: its arrays are of so many numbers of their type, and each static cell
-- holds what its descriptor says.
use Rattle.std.proofs.Common.{◌≡◌, ℕ, zero, suc, ◌≤◌, refl, sym, ap, subst, ◌∙◌, arith, Bool, true, false}
use Rattle.std.proofs.Common.{List, [], ◌∷◌, length}
use Rattle.std.specs.Prelude.{◌==◌, Some, None, option_and_then}
use Rattle.std.specs.Prelude.{replicate, if◌then◌else◌, ℤ, pos, negsuc, codes}
use Rattle.std.specs.List.{All, AllByRecursion}
use Rattle.std.specs.Str.{bytes_eq}
use Rattle.std.proofs.lemmas.List.{get_or-replicate}
use Rattle.cjc_bytes.specs.Descriptor.{array, base, base_kind, field, plain}
use Rattle.cjc_bytes.specs.Spots.{part_of}
use Rattle.cjc_bytes.specs.declared.fault.MemberId.{MemberId}
use Rattle.cjc_bytes.specs.declared.descriptor.Kind.{Kind}
use Rattle.cjc_bytes.specs.declared.descriptor.Kind.TheVariants as kinds
use Rattle.cjc_bytes.proofs.DescriptorTypes.{desc_read}
use Rattle.cjc_bytes.proofs.Lists.{bytes_true}
use Rattle.cjc_bytes.proofs.Gets.{set_length}
use Rattle.cjc_bytes.proofs.Options.{option_taken}
use Rattle.cjc_bytes.proofs.Quantified.{all_both}
use Rattle.cjc_jvm_semantics.specs.OnePackage as by_name
use Rattle.cjc_world.specs.ClassFile.declared.tree.ClassTree.{ClassTree}
use Rattle.cjc_token_proof.specs.Clinit.declared.stage.Held.{Held}
use Rattle.cjc_token_proof.specs.Clinit.Fields.{ANull, ANumber, AnArray, Contents, array_desc, fits, fits_kind}
use Rattle.cjc_token_proof.specs.Clinit.Fields.{number_kind, takes}
use Rattle.cjc_token_proof.specs.Clinit.Image.{AreInitialised, array_in, arrays_of}
use Rattle.cjc_token_proof.specs.Clinit.Image.{own_field}
use Rattle.cjc_token_proof.specs.Clinit.Image as images
use Rattle.cjc_token_proof.specs.Clinit.Initialiser.{Initialises, Makes, Put, Stores, element_kind}
use Rattle.cjc_token_proof.specs.Clinit.Initialiser.{of_array, of_null, of_number, open_place}
use Rattle.cjc_token_proof.specs.Clinit.Initialiser as init
use Rattle.cjc_components.specs.Bytecode.declared.insn.JOp.{JOp}
use Rattle.cjc_components.specs.Bytecode.declared.method_code.MethodCode.{MethodCode}
use Rattle.cjc_token_proof.specs.Narrow.Rows.Package.{element_of_kind}
use Rattle.cjc_ncode.specs.ByLabel.{Named}
use Rattle.cjc_components.specs.Range.Span.{Holds}
use Rattle.cjc_token_proof.specs.Script.declared.value.Value.TheVariants.{Num}
use Rattle.cjc_token_proof.specs.Script.Sorts.{Boolean, Booleans, Byte, Bytes, Element, Int, Ints, NoValue, OfNumbers}
use Rattle.cjc_token_proof.specs.Script.Sorts.{Reference}
use Rattle.cjc_token_proof.specs.Script.Sorts.{Short, Shorts, Sort, array_by, array_name, array_of, field_sort}
use Rattle.cjc_token_proof.specs.Script.Sorts.{reference_to}
use Rattle.cjc_token_proof.specs.Script.Sorts.{sort_by, sort_or_none, zero_of}
use Rattle.cjc_narrow_proof.specs.Selection.Relation.{CellFits, Heap, a_boolean, a_byte, a_null, a_short}
use Rattle.cjc_narrow_proof.specs.Selection.Relation.{an_int, element_range}
use Rattle.cjc_narrow_proof.specs.Selection.Objects.{has_values}
use Rattle.cjc_narrow_proof.proofs.SelectionLaws.Items.{all_with}
use Rattle.cjc_narrow_proof.proofs.SelectionLaws.Replies.{held_if}
use Rattle.cjc_world.specs.declared.image.ArrayCell.{ArrayCell}
use Rattle.cjc_world.specs.Files.{Files}

-- ---- kinds of numbers and their types

letter_sort : (b : ℕ) (kind : Kind) → base_kind b ≡ Some kind → field_sort (b ∷ []) ≡ sort_by kind []
letter_sort b kind e = ap sort_or_none (desc_read (record { is_method = false; params = []; result = plain kind }) (b
    ∷ []) (field (base e)))

letter_array : (b : ℕ) (kind : Kind) (el : Element) → base_kind b ≡ Some kind → array_by (part_of (b ∷ []))
    ≡ Some (OfNumbers el) → field_sort (91 ∷ b ∷ []) ≡ Reference (OfNumbers el)
letter_array b kind el e same =
    let d = desc_read _ (91 ∷ b ∷ []) (field (array (base e))) in
    ap sort_or_none d ∙ ap (λ o. reference_to (option_and_then (λ d. array_by (part_of (b ∷ []))) o)) d
    ∙ ap reference_to same

-- What an array of numbers of a kind is.
pub record IsNumbers (kind : Kind) : Type 0 where
  pub named : by_name.array_desc (array_of kind []) ≡ array_name (element_of_kind kind)
  pub sort : field_sort (array_desc kind) ≡ Reference (OfNumbers (element_of_kind kind))
  pub held : (z : ℤ) → fits kind z ≡ true → Holds (element_range (element_of_kind kind)) z
  pub zero_fits : fits kind (pos 0) ≡ true

numbers_are : (number : ℕ) (kind : Kind) → element_kind number ≡ Some kind → IsNumbers kind
numbers_are number kind e = by (number == 4) (number == 8) (number == 9) (number == 10) e
  where
    is : (k : Kind) → Some k ≡ Some kind → IsNumbers k → IsNumbers kind
    is k same h = let kind_is : k ≡ kind = cc in subst IsNumbers kind_is h

    by : (a b c d : Bool) → (if a then Some kinds.Bool else if b then Some kinds.Byte else if c then Some kinds.Short
        else if d then Some kinds.Int else None) ≡ Some kind → IsNumbers kind
    by true b c d e = is kinds.Bool e (record {
      named = refl;
      sort = letter_array 90 kinds.Bool Booleans refl refl;
      held = λ z f. held_if (pos 0) (pos 1) z f;
      zero_fits = refl;
    })
    by false true c d e = is kinds.Byte e (record {
      named = refl;
      sort = letter_array 66 kinds.Byte Bytes refl refl;
      held = λ z f. held_if (negsuc 127) (pos 127) z f;
      zero_fits = refl;
    })
    by false false true d e = is kinds.Short e (record {
      named = refl;
      sort = letter_array 83 kinds.Short Shorts refl
          refl;
      held = λ z f. held_if (negsuc 32767) (pos 32767) z f;
      zero_fits = refl;
    })
    by false false false true e = is kinds.Int e (record {
      named = refl;
      sort = letter_array 73 kinds.Int Ints refl
          refl;
      held = λ z f. held_if (negsuc 2147483647) (pos 2147483647) z f;
      zero_fits = refl;
    })
    by false false false false e = absurd cc

module _ (l : Named) (heap : Heap) where
  pub number_fits : (desc : List ℕ) (z : ℤ) → fits_kind (number_kind desc) z ≡ true
      → CellFits l heap (field_sort desc) (Num z)
  number_fits desc z e = by (bytes_eq desc (codes "Z")) (bytes_eq desc (codes "B")) (bytes_eq desc (codes "S"))
      (bytes_eq desc (codes "I")) refl refl refl refl e
    where
      at : (b : ℕ) (kind : Kind) → base_kind b ≡ Some kind → bytes_eq desc (b ∷ []) ≡ true
          → CellFits l heap (sort_by kind []) (Num z) → CellFits l heap (field_sort desc) (Num z)
      at b kind k same h = subst (λ s. CellFits l heap s (Num z)) (sym (ap field_sort (bytes_true desc (b ∷ []) same)
          ∙ letter_sort b kind k)) h

      by : (a b c d : Bool) → bytes_eq desc (codes "Z") ≡ a → bytes_eq desc (codes "B") ≡ b → bytes_eq desc (codes "S")
          ≡ c → bytes_eq desc (codes "I") ≡ d
          → fits_kind (if a then Some kinds.Bool else if b then Some kinds.Byte else if c then Some kinds.Short
          else if d then Some kinds.Int else None) z ≡ true → CellFits l heap (field_sort desc) (Num z)
      by true b c d f g h k e = at 90 kinds.Bool refl f (a_boolean (held_if (pos 0) (pos 1) z e))
      by false true c d f g h k e = at 66 kinds.Byte refl g (a_byte (held_if (negsuc 127) (pos 127) z e))
      by false false true d f g h k e = at 83 kinds.Short refl h (a_short (held_if (negsuc 32767) (pos 32767) z e))
      by false false false true f g h k e =
          at 73 kinds.Int refl k (an_int (held_if (negsuc 2147483647) (pos 2147483647) z e))
      by false false false false f g h k e = absurd cc

  pub zero_cell : (s : Sort) → has_values s ≡ true → CellFits l heap s (zero_of s)
  zero_cell Boolean e = a_boolean (held_if (pos 0) (pos 1) (pos 0) refl)
  zero_cell Byte e = a_byte (held_if (negsuc 127) (pos 127) (pos 0) refl)
  zero_cell Short e = a_short (held_if (negsuc 32767) (pos 32767) (pos 0) refl)
  zero_cell Int e = an_int (held_if (negsuc 2147483647) (pos 2147483647) (pos 0) refl)
  zero_cell (Reference shape) e = a_null
  zero_cell NoValue e = absurd cc

-- ---- arrays

-- Of so many numbers of a kind.
pub record AreItems (kind : Kind) (items : List ℤ) : Type 0 where
  pub numbers : IsNumbers kind
  pub few : length items ≤ 32767
  pub all : All (Holds (element_range (element_of_kind kind))) items

stores_keep : (kind : Kind) (P : ℤ → Type 0) → ((z : ℤ) → fits kind z ≡ true → P z)
    → {before after : List ℤ} {ops : List JOp} → Stores kind before ops after → All P before → All P after
    × (length after ≡ length before)
stores_keep kind P held init.none all = (all, refl)
stores_keep kind P held (init.one {items = items} {i = i} {z = z} low fit rest) all =
    let r = stores_keep kind P held rest (all_with P items i z (held z fit) all) in
    (r.0, r.1 ∙ set_length items i z)

replicate_all : (P : ℤ → Type 0) (n : ℕ) (z : ℤ) → P z → All P (replicate n z)
replicate_all P n z p k d low = let long = length_replicated n z
    in subst P (sym (get_or-replicate n k z d (omega (arith, low, long)))) p
  where
    length_replicated : (n : ℕ) (z : ℤ) → length (replicate n z) ≡ n
    length_replicated zero z = refl
    length_replicated (suc n) z = ap suc (length_replicated n z)

abbrev Puts : Contents → Type 0
Puts (AnArray kind items) = AreItems kind items
Puts _ = Unit {0}

made_items : {ops : List JOp} {c : Contents} → Makes ops c → Puts c
made_items of_number = tt
made_items of_null = tt
made_items (of_array {count = count} {number = number} {kind = kind} few is stores) =
    let n = numbers_are number kind is in
    let P = Holds (element_range (element_of_kind kind)) in
    let r = stores_keep kind P n.held stores (replicate_all P count (pos 0) (n.held (pos 0) n.zero_fits)) in
    let long = length_of count (pos 0) in
    let same = r.1 in
    record { numbers = n; few = omega (arith, few, long, same); all = r.0 }
  where
    length_of : (n : ℕ) (z : ℤ) → length (replicate n z) ≡ n
    length_of zero z = refl
    length_of (suc n) z = ap suc (length_of n z)

-- An array of the image: of so many numbers, in a field of its type.
pub record IsArray (a : ArrayCell) : Type 0 where
  pub items : AreItems a.kind a.items
  pub desc : (let f = a.field in f.desc) ≡ array_desc a.kind

array_put : (c : ClassTree) (id : MemberId) (contents : Contents) → Puts contents → takes contents id.desc ≡ true
    → AllByRecursion IsArray (array_in (own_field c id) contents)
array_put c id (ANumber z) p e = tt
array_put c id ANull p e = tt
array_put c id (AnArray kind items) p e = (record { items = p; desc = bytes_true id.desc (array_desc kind) e }, tt)

module _ (files : Files) where
  puts_arrays : (number : ℕ) (c : ClassTree) {before after : List Held} {ops : List JOp} {ps : List Put}
      → Initialises files number c before ops ps after → AllByRecursion IsArray (arrays_of c ps)
  puts_arrays number c init.ends = tt
  puts_arrays number c (init.puts {fields = fields} {contents = contents} {id = id} {k = k} {rest = rest} made place
      more) =
      let p = option_taken (takes contents id.desc) (open_place files number c fields id) k place in
      all_both IsArray (array_in (own_field c id) contents) (arrays_of c rest) (array_put c id contents
      (made_items made) p.0) (puts_arrays number c more)

  pub initialised_arrays : {before after : List (List Held)} {codes : List MethodCode} {arrays : List ArrayCell}
      → AreInitialised files before codes arrays after → AllByRecursion IsArray arrays
  initialised_arrays images.none = tt
  initialised_arrays (images.other none rest) = initialised_arrays rest
  initialised_arrays (images.one {code = code} {arrays = arrays} c puts fields is made rest) =
      all_both IsArray (arrays_of c puts) arrays (puts_arrays code.class c made) (initialised_arrays rest)
