-- Reading and putting a static field by name is reading and putting its cell in the image.
use Rattle.std.proofs.Common.{◌≡◌, ℕ, suc, ◌+◌, ◌*◌, ◌/◌, ◌%◌, refl, sym, ap, subst, ◌∙◌, arith, Bool, true, false}
use Rattle.std.proofs.Common.{List, [], ◌∷◌, ◌++◌, length, drop, zero-add, ⊎_elim}
use Rattle.std.specs.Prelude.{not, Some, None, map, nat_le, slice_get, slice_set, if◌then◌else◌, ◌==◌, ◌&&◌, ◌-◌}
use Rattle.std.specs.Prelude.{option_map, option_and_then}
use Rattle.std.proofs.lemmas.Bool.Decides.{nat_tests}
use Rattle.cjc_bytes.specs.declared.fault.MemberId.{MemberId}
use Rattle.cjc_bytes.proofs.Bools.{both_front, both_back, or_right, hidden_closed}
use Rattle.cjc_bytes.proofs.Lists.{length_mapped}
use Rattle.cjc_script.specs.declared.value.Value.{Value}
use Rattle.cjc_script.specs.declared.value.Value.TheVariants.{Num, Null, Obj}
use Rattle.cjc_script.specs.declared.report.FieldValue.{FieldValue}
use Rattle.cjc_script.specs.Sorts.{field_sort, zero_of}
use Rattle.cjc_card_semantics.specs.Bytecode.Effects.{Letter, Reference, Byte, Short, Int, slot_of, slots_with}
use Rattle.cjc_card_semantics.specs.Bytecode.Effects.{IsOperand, same_kind}
use Rattle.cjc_card_semantics.specs.Bytecode.Renaming.{option_as, keys}
use Rattle.cjc_card_semantics.specs.Machine.ByToken.{value_or, shown_cell}
use Rattle.cjc_card_semantics.specs.Machine.Statics.{bytes_at, cell_in, cell_put, get_static, number_bytes, number_in}
use Rattle.cjc_card_semantics.specs.Machine.Statics.{overwritten, put_static}
use Rattle.cjc_ncode.specs.ByLabel.{put_cell, shown_slot}
use Rattle.cjc_ncode.specs.ByLabel.{put_static as put_by_name}
use Rattle.cjc_ncode.specs.PoolOrder.{same_member}
use Rattle.cjc_token_proof.specs.ByToken.Cells.{letter, width, is_number, Order, fields, offset_from, is_one_of}
use Rattle.cjc_token_proof.specs.ByToken.Cells.{are_apart, IsOrder, HasCells, fits, are_cells, value_in, value_of}
use Rattle.cjc_token_proof.specs.ByToken.Cells.{bytes_of, image_of, cell_of, cell_names, same_letter, may_access}
use Rattle.cjc_token_proof.specs.ByToken.Cells.{CellsAgree}
use Rattle.cjc_token_proof.proofs.ByToken.Members.{member_tells, member_apart}
use Rattle.cjc_token_proof.proofs.ByToken.Members.{other_slot, own_slot, front_one, behind_one, front_all, behind_all}
use Rattle.cjc_token_proof.proofs.ByToken.Members.{either_field, shown_all}
use Rattle.cjc_token_proof.proofs.ByToken.Image.{Held, HoldsValue, AllHold, AllNumbers, operand_fits, number_read}
use Rattle.cjc_token_proof.proofs.ByToken.Image.{number_put, other_bytes, other_values, behind, at_first, first_is}
use Rattle.cjc_token_proof.proofs.ByToken.Image.{apart_first}

-- ---- offsets

-- the number of a field among some
place : List MemberId → MemberId → ℕ
place [] f = 0
place (g ∷ gs) f = if same_member g f then 0 else suc (place gs f)

-- all of them are references
abbrev AllReferences : List MemberId → Type 0
AllReferences gs = (f : MemberId) → is_one_of f gs ≡ true → is_number (letter f) ≡ false

two_wide : (k : Letter) → is_number k ≡ false → width k ≡ 2
two_wide Reference e = refl
two_wide Byte e = cc
two_wide Short e = cc
two_wide Int e = cc

reference_offset : (gs more : List MemberId) (f : MemberId) → is_one_of f gs ≡ true → AllReferences gs
    → offset_from 0 (gs ++ more) f ≡ 2 * place gs f
unfolding place
reference_offset [] more f is all = cc
reference_offset (g ∷ gs) more f is all = by (λ on. reference_offset gs more f on (λ h e. all h (behind_one h g gs e)))
    (same_member g f) refl
  where
    by : (is_one_of f gs ≡ true → offset_from 0 (gs ++ more) f ≡ 2 * place gs f) → (t : Bool) → same_member g f ≡ t
        → offset_from 0 (g ∷ (gs ++ more)) f ≡ 2 * (if same_member g f then 0 else suc (place gs f))
    by rest true e = at_first g (gs ++ more) f e ∙ sym (ap (λ t. 2 * (if t then 0 else suc (place gs f))) e)
    by rest false e =
        let w = two_wide (letter g) (all g (front_one g gs)) in
        let r = rest (first_is g f (is_one_of f gs) e is) in
        let sum : width (letter g) + offset_from 0 (gs ++ more) f ≡ 2 * suc (place gs f) = omega (arith, w, r) in
        behind g (gs ++ more) f e ∙ sum ∙ sym (ap (λ t. 2 * (if t then 0 else suc (place gs f))) e)

number_offset : (gs more : List MemberId) (f : MemberId) → is_one_of f gs ≡ false → AllReferences gs
    → offset_from 0 (gs ++ more) f ≡ 2 * length gs + offset_from 0 more f
number_offset [] more f off all = sym (zero-add (offset_from 0 more f))
number_offset (g ∷ gs) more f off all =
    let w = two_wide (letter g) (all g (front_one g gs)) in
    let r = number_offset gs more f (or_right (same_member g f) (is_one_of f gs) off)
    (λ h e. all h (behind_one h g gs e)) in
    let sum : width (letter g) + offset_from 0 (gs ++ more) f ≡ 2 * suc (length gs) + offset_from 0 more f =
    omega (arith, w, r) in
    behind g (gs ++ more) f (apart_first g f (is_one_of f gs) off) ∙ sum

-- ---- references

reference_read : (x : Held) (gs : List MemberId) (s : MemberId) → is_one_of s gs ≡ true
    → slice_get (map (value_of x) gs) (place gs s) ≡ Some (value_of x s)
unfolding place
reference_read x [] s is = cc
reference_read x (g ∷ gs) s is = by (reference_read x gs s) (same_member g s) refl
  where
    by : (is_one_of s gs ≡ true → slice_get (map (value_of x) gs) (place gs s) ≡ Some (value_of x s)) → (t : Bool)
        → same_member g s ≡ t → slice_get (value_of x g ∷ map (value_of x) gs) (if same_member g s then 0
        else suc (place gs s)) ≡ Some (value_of x s)
    by rest true e = ap (λ t. slice_get (value_of x g ∷ map (value_of x) gs) (if t then 0 else suc (place gs s))) e
        ∙ ap (λ f. Some (value_of x f)) (member_tells g s e)
    by rest false e = ap (λ t. slice_get (value_of x g ∷ map (value_of x) gs) (if t then 0 else suc (place gs s))) e
        ∙ rest (first_is g s (is_one_of s gs) e is)

reference_put : (x : Held) (gs : List MemberId) (s : MemberId) (v old : Value) → slot_of same_member x s ≡ Some old
    → is_one_of s gs ≡ true → are_apart gs ≡ true
    → slice_set (map (value_of x) gs) (place gs s) v ≡ map (value_of (slots_with same_member x s v)) gs
unfolding place
reference_put x [] s v old there is apart = cc
reference_put x (g ∷ gs) s v old there is apart =
    by (λ on. reference_put x gs s v old there on (both_back (not (is_one_of g gs)) (are_apart gs) apart))
    (same_member g s) refl
  where
    by : (is_one_of s gs ≡ true → slice_set (map (value_of x) gs) (place gs s) v
        ≡ map (value_of (slots_with same_member x s v)) gs) → (t : Bool) → same_member g s ≡ t
        → slice_set (value_of x g ∷ map (value_of x) gs) (if same_member g s then 0 else suc (place gs s)) v
        ≡ value_of (slots_with same_member x s v) g ∷ map (value_of (slots_with same_member x s v)) gs
    by rest true e =
        let same : g ≡ s = member_tells g s e in
        let alone : is_one_of s gs ≡ false = ap (λ f. is_one_of f gs) (sym same)
        ∙ hidden_closed (is_one_of g gs) (are_apart gs) apart in
        ap (λ t. slice_set (value_of x g ∷ map (value_of x) gs) (if t then 0 else suc (place gs s)) v) e
        ∙ (ap (λ vs. v ∷ vs) (sym (other_values x s v gs alone))
        ∙ (ap (λ o. value_in o ∷ map (value_of (slots_with same_member x s v)) gs) (sym (own_slot s v x old there))
        ∙ ap (λ f. value_of (slots_with same_member x s v) f ∷ map (value_of (slots_with same_member x s v)) gs)
        (sym same)))
    by rest false e =
        ap (λ t. slice_set (value_of x g ∷ map (value_of x) gs) (if t then 0 else suc (place gs s)) v) e
        ∙ (ap (λ vs. value_of x g ∷ vs) (rest (first_is g s (is_one_of s gs) e is))
        ∙ ap (λ o. value_in o ∷ map (value_of (slots_with same_member x s v)) gs)
        (sym (other_slot s v x g (member_apart g s e))))

-- ---- what is held

letter_tells : (j k : Letter) → same_letter j k ≡ true → j ≡ k
letter_tells Reference Reference e = refl
letter_tells Byte Byte e = refl
letter_tells Short Short e = refl
letter_tells Int Int e = refl
letter_tells Reference Byte e = cc
letter_tells Reference Short e = cc
letter_tells Reference Int e = cc
letter_tells Byte Reference e = cc
letter_tells Byte Short e = cc
letter_tells Byte Int e = cc
letter_tells Short Reference e = cc
letter_tells Short Byte e = cc
letter_tells Short Int e = cc
letter_tells Int Reference e = cc
letter_tells Int Byte e = cc
letter_tells Int Short e = cc

-- each of the fields holds a value that its cell can hold
all_hold : (all : List MemberId) (x : Held) → are_cells all x ≡ true → AllHold x all
all_hold [] x e f is = cc
all_hold (g ∷ gs) [] e f is = cc
all_hold (g ∷ gs) (s ∷ x) e f is = by (all_hold gs x (both_back (fits (letter g) s.value) (are_cells gs x) rest) f)
    (same_member s.key f) refl
  where
    rest : (fits (letter g) s.value && are_cells gs x) ≡ true
    rest = both_back (same_member s.key g) (fits (letter g) s.value && are_cells gs x) e

    key : s.key ≡ g
    key = member_tells s.key g (both_front (same_member s.key g) (fits (letter g) s.value && are_cells gs x) e)

    by : (is_one_of f gs ≡ true → HoldsValue x f) → (t : Bool) → same_member s.key f ≡ t → HoldsValue (s ∷ x) f
    by later true h =
        let same : g ≡ f = sym key ∙ member_tells s.key f h in
        record {
          value = s.value;
          is = ap (λ t. if t then Some s.value else slot_of same_member x f) h;
          fit = ap (λ k. fits (letter k) s.value) (sym same) ∙ both_front (fits (letter g) s.value) (are_cells gs x)
              rest;
        }
    by later false h =
        let off : same_member g f ≡ false = ap (λ k. same_member k f) (sym key) ∙ h in
        let r = later (first_is g f (is_one_of f gs) off is) in
        record {
          value = r.value;
          is = ap (λ t. if t then Some s.value else slot_of same_member x f) h ∙ r.is;
          fit = r.fit;
        }

-- a put of a value that fits keeps that
cells_kept : (all : List MemberId) (x : Held) (f : MemberId) (v : Value) → fits (letter f) v ≡ true
    → are_cells all x ≡ true → are_cells all (slots_with same_member x f v) ≡ true
cells_kept [] [] f v fit e = refl
cells_kept [] (s ∷ x) f v fit e = cc
cells_kept (g ∷ gs) [] f v fit e = cc
cells_kept (g ∷ gs) (s ∷ x) f v fit e =
    by (cells_kept gs x f v fit (both_back (fits (letter g) s.value) (are_cells gs x) rest)) (same_member s.key f) refl
  where
    rest : (fits (letter g) s.value && are_cells gs x) ≡ true
    rest = both_back (same_member s.key g) (fits (letter g) s.value && are_cells gs x) e

    first : same_member s.key g ≡ true
    first = both_front (same_member s.key g) (fits (letter g) s.value && are_cells gs x) e

    by : are_cells gs (slots_with same_member x f v) ≡ true → (t : Bool) → same_member s.key f ≡ t
        → are_cells (g ∷ gs) (if t then record s { value = v } ∷ x else s ∷ slots_with same_member x f v) ≡ true
    by later true h =
        let same : f ≡ g = sym (member_tells s.key f h) ∙ member_tells s.key g first in
        ap (λ t. t && (fits (letter g) v && are_cells gs x)) first
        ∙ (ap (λ t. t && are_cells gs x) (ap (λ k. fits (letter k) v) (sym same) ∙ fit)
        ∙ both_back (fits (letter g) s.value) (are_cells gs x) rest)
    by later false h =
        ap (λ t. t && (fits (letter g) s.value && are_cells gs (slots_with same_member x f v))) first
        ∙ (ap (λ t. t && are_cells gs (slots_with same_member x f v)) (both_front (fits (letter g) s.value)
        (are_cells gs x) rest) ∙ later)

-- ---- one field

halves : (n : ℕ) → 2 * n / 2 ≡ n
halves n = omega arith

is_even : (n : ℕ) → (2 * n % 2 == 0) ≡ true
is_even n = grind (arith, nat_tests)

reference_value : (k : Letter) (v : Value) → k ≡ Reference → fits k v ≡ true → value_in (Some v) ≡ v
reference_value k v is e = refl

-- a reference is no number
not_both : (gs : List MemberId) (f : MemberId) (t : Bool) → is_one_of f gs ≡ t → is_number (letter f) ≡ false
    → AllNumbers gs → is_one_of f gs ≡ false
not_both gs f false e num nums = e
not_both gs f true e num nums = let h = nums f e in cc

not_among : (gs : List MemberId) (f : MemberId) (t : Bool) → is_one_of f gs ≡ t → is_number (letter f) ≡ true
    → AllReferences gs → is_one_of f gs ≡ false
not_among gs f false e num refs = e
not_among gs f true e num refs = let h = refs f e in cc

reference_letter : (k : Letter) → is_number k ≡ false → k ≡ Reference
reference_letter Reference e = refl
reference_letter Byte e = cc
reference_letter Short e = cc
reference_letter Int e = cc

kinds_same : (k : Letter) (a b : Value) → fits k a ≡ true → fits k b ≡ true → same_kind a b ≡ true
kinds_same Reference Null Null e f = refl
kinds_same Reference Null (Obj k) e f = refl
kinds_same Reference (Obj j) Null e f = refl
kinds_same Reference (Obj j) (Obj k) e f = refl
kinds_same Reference (Num y) b e f = cc
kinds_same Reference Null (Num z) e f = cc
kinds_same Reference (Obj j) (Num z) e f = cc
kinds_same Byte (Num y) (Num z) e f = refl
kinds_same Byte Null b e f = cc
kinds_same Byte (Obj j) b e f = cc
kinds_same Byte (Num y) Null e f = cc
kinds_same Byte (Num y) (Obj j) e f = cc
kinds_same Short (Num y) (Num z) e f = refl
kinds_same Short Null b e f = cc
kinds_same Short (Obj j) b e f = cc
kinds_same Short (Num y) Null e f = cc
kinds_same Short (Num y) (Obj j) e f = cc
kinds_same Int (Num y) (Num z) e f = refl
kinds_same Int Null b e f = cc
kinds_same Int (Obj j) b e f = cc
kinds_same Int (Num y) Null e f = cc
kinds_same Int (Num y) (Obj j) e f = cc

module _ (o : Order) (order : IsOrder o) (x : Held) (s : MemberId) (all : AllHold x (fields o)) where
  numbers_hold : AllHold x o.numbers
  numbers_hold f e = all f (behind_all o.references o.numbers f e)

  -- ---- a reference

  module _ (is : is_one_of s o.references ≡ true) where
    offset_there : offset_from 0 (fields o) s ≡ 2 * place o.references s
    offset_there = reference_offset o.references o.numbers s is order.references

    get_reference : cell_in Reference (image_of o x) (offset_from 0 (fields o) s) ≡ slot_of same_member x s
    get_reference =
        let n = place o.references s in
        let h = all s (front_all o.references o.numbers s is) in
        ap (λ k. cell_in Reference (image_of o x) k) offset_there
        ∙ (ap (λ t. option_and_then (slice_get (map (value_of x) o.references)) (if t then Some (2 * n / 2) else None))
        (is_even n)
        ∙ (ap (λ k. slice_get (map (value_of x) o.references) k) (halves n)
        ∙ (reference_read x o.references s is
        ∙ (ap (λ u. Some (value_in u)) h.is ∙ sym h.is))))

    put_reference : (v : Value) → cell_put Reference v (image_of o x) (offset_from 0 (fields o) s)
        ≡ image_of o (slots_with same_member x s v)
    put_reference v =
        let h = all s (front_all o.references o.numbers s is) in
        let off = not_both o.numbers s (is_one_of s o.numbers) refl (order.references s is) order.numbers in
        ap (λ k. record (image_of o x) { references = slice_set (map (value_of x) o.references) k v })
        (ap (λ m. m / 2) offset_there ∙ halves (place o.references s))
        ∙ (ap (λ vs. record (image_of o x) { references = vs }) (reference_put x o.references s v h.value h.is is
        order.references_once)
        ∙ ap (λ bytes. record {
          references = map (value_of (slots_with same_member x s v)) o.references;
          bytes = bytes;
        }) (sym (other_bytes x s v o.numbers off)))

  -- ---- a number

  module _ (is : is_one_of s o.numbers ≡ true) where
    far : ℕ
    far = offset_from 0 o.numbers s

    offset_behind : offset_from 0 (fields o) s ≡ 2 * length o.references + offset_from 0 o.numbers s
    offset_behind = number_offset o.references o.numbers s (not_among o.references s (is_one_of s o.references) refl
        (order.numbers s is) order.references) order.references

    back : offset_from 0 (fields o) s - 2 * length (map (value_of x) o.references) ≡ offset_from 0 o.numbers s
    back = let len = length_mapped (value_of x) o.references in let e = offset_behind in omega (arith, len, e)

    bytes_there : bytes_at (image_of o x) (offset_from 0 (fields o) s)
        ≡ Some (drop (offset_from 0 o.numbers s) (bytes_of x o.numbers))
    bytes_there =
        let len = length_mapped (value_of x) o.references in
        let e = offset_behind in
        let le : nat_le (2 * length (map (value_of x) o.references)) (offset_from 0 (fields o) s) ≡ true =
        grind (arith, nat_tests, len, e) in
        ap (λ t. if t then Some (drop (offset_from 0 (fields o) s - 2 * length (map (value_of x) o.references))
        (bytes_of x o.numbers)) else None) le
        ∙ ap (λ k. Some (drop k (bytes_of x o.numbers))) back

    get_number : (k : Letter) → letter s ≡ k → is_number k ≡ true
        → cell_in k (image_of o x) (offset_from 0 (fields o) s) ≡ slot_of same_member x s
    get_number k same num =
        by k num
        ∙ (ap (option_and_then (number_in k)) bytes_there
        ∙ (ap (λ l. number_in l (drop (offset_from 0 o.numbers s) (bytes_of x o.numbers))) (sym same)
        ∙ number_read x s o.numbers is numbers_hold order.numbers))
      where
        by : (k : Letter) → is_number k ≡ true → cell_in k (image_of o x) (offset_from 0 (fields o) s)
            ≡ option_and_then (number_in k) (bytes_at (image_of o x) (offset_from 0 (fields o) s))
        by Reference num = cc
        by Byte num = refl
        by Short num = refl
        by Int num = refl

    put_number : (k : Letter) (v : Value) → letter s ≡ k → is_number k ≡ true → fits k v ≡ true
        → cell_put k v (image_of o x) (offset_from 0 (fields o) s) ≡ image_of o (slots_with same_member x s v)
    put_number k v same num fit =
        let off = not_among o.references s (is_one_of s o.references) refl (order.numbers s is) order.references in
        by k num
        ∙ (ap (λ m. record (image_of o x) { bytes = overwritten (bytes_of x o.numbers) m (number_bytes k v) }) back
        ∙ (ap (λ l. record (image_of o x) {
          bytes = overwritten (bytes_of x o.numbers) (offset_from 0 o.numbers s)
              (number_bytes l v);
        }) (sym same)
        ∙ (ap (λ bytes. record (image_of o x) { bytes = bytes }) (number_put x s v o.numbers is order.numbers_once
        (ap (λ l. fits l v) same ∙ fit) numbers_hold order.numbers)
        ∙ ap (λ vs. record { references = vs; bytes = bytes_of (slots_with same_member x s v) o.numbers })
        (sym (other_values x s v o.references off)))))
      where
        by : (k : Letter) → is_number k ≡ true → cell_put k v (image_of o x) (offset_from 0 (fields o) s)
            ≡ record (image_of o x) {
              bytes = overwritten (bytes_of x o.numbers) (offset_from 0 (fields o) s - 2 *
                  length (map (value_of x) o.references)) (number_bytes k v);
            }
        by Reference num = cc
        by Byte num = refl
        by Short num = refl
        by Int num = refl

  -- ---- any field

  cell_read : (k : Letter) → is_one_of s (fields o) ≡ true → letter s ≡ k
      → cell_in k (image_of o x) (offset_from 0 (fields o) s) ≡ slot_of same_member x s
  cell_read k is same = ⊎_elim
      (λ is. subst (λ l. cell_in l (image_of o x) (offset_from 0 (fields o) s) ≡ slot_of same_member x s)
      (sym (reference_letter (letter s) (order.references s is)) ∙ same) (get_reference is))
      (λ is. get_number is k same (ap is_number (sym same) ∙ order.numbers s is))
      (either_field o.references o.numbers s is)

  cell_written : (k : Letter) (v : Value) → is_one_of s (fields o) ≡ true → letter s ≡ k → fits k v ≡ true
      → cell_put k v (image_of o x) (offset_from 0 (fields o) s) ≡ image_of o (slots_with same_member x s v)
  cell_written k v is same fit = ⊎_elim
      (λ is. subst (λ l. cell_put l v (image_of o x) (offset_from 0 (fields o) s)
      ≡ image_of o (slots_with same_member x s v)) (sym (reference_letter (letter s) (order.references s is))
      ∙ same) (put_reference is v))
      (λ is. put_number is k v same (ap is_number (sym same) ∙ order.numbers s is) fit)
      (either_field o.references o.numbers s is)

  -- by name a put of a value that fits is made
  made_by_name : (v : Value) → is_one_of s (fields o) ≡ true → fits (letter s) v ≡ true
      → put_by_name x s v ≡ Some (slots_with same_member x s v)
  made_by_name v is fit =
      let h = all s is in
      ap (option_and_then (put_cell x s v)) h.is ∙ ap (λ t. if t then Some (slots_with same_member x s v)
      else None) (kinds_same (letter s) h.value v h.fit fit)

-- ---- all fields

module _ (o : Order) (all : List MemberId) (has : HasCells o all) where
  hold : (x : Held) → are_cells all x ≡ true → AllHold x (fields o)
  hold x e f is = all_hold all x e f (has.no_other f is)

  accessed : (k : Letter) (f : MemberId) → may_access o k f ≡ true → (is_one_of f (fields o) ≡ true) × (letter f ≡ k)
  accessed k f e = (
    both_front (is_one_of f (fields o)) (same_letter (letter f) k) e,
    letter_tells (letter f) k (both_back (is_one_of f (fields o)) (same_letter (letter f) k) e),
  )

  get_there : (k : Letter) (f : MemberId) (x : Held) → may_access o k f ≡ true → are_cells all x ≡ true
      → get_static k (cell_of o f) (image_of o x ∷ []) ≡ slot_of same_member x f
  get_there k f x may e = let a = accessed k f may in cell_read o has.order x f (hold x e) k a.0 a.1

  put_there : (k : Letter) (f : MemberId) (v : Value) (x : Held) → IsOperand k v → may_access o k f ≡ true
      → are_cells all x ≡ true
      → put_static k (cell_of o f) v (image_of o x ∷ []) ≡ option_as (λ y. image_of o y ∷ []) (put_by_name x f v)
  put_there k f v x operand may e =
      let a = accessed k f may in
      let h = hold x e f a.0 in
      let fit = operand_fits operand in
      ap (option_map (λ old. cell_put k v (image_of o x) (offset_from 0 (fields o) f) ∷ [])) (cell_read o has.order x f
      (hold x e) k a.0 a.1 ∙ h.is)
      ∙ (ap (λ i. Some (i ∷ [])) (cell_written o has.order x f (hold x e) k v a.0 a.1 fit)
      ∙ sym (ap (option_as (λ y. image_of o y ∷ [])) (made_by_name o has.order x f (hold x e) v a.0
      (ap (λ l. fits l v) a.1 ∙ fit))))

  put_stays : (k : Letter) (f : MemberId) (v : Value) (x after : Held) → IsOperand k v → may_access o k f ≡ true
      → are_cells all x ≡ true → put_by_name x f v ≡ Some after → are_cells all after ≡ true
  put_stays k f v x after operand may e put =
      let a = accessed k f may in
      let fit : fits (letter f) v ≡ true = ap (λ l. fits l v) a.1 ∙ operand_fits operand in
      let made = sym (made_by_name o has.order x f (hold x e) v a.0 fit) ∙ put in
      let same : slots_with same_member x f v ≡ after = cc in
      subst (λ y. are_cells all y ≡ true) same (cells_kept all x f v fit e)

  -- the keys are the fields
  keys_are : (gs : List MemberId) (x : Held) → are_cells gs x ≡ true → keys x ≡ gs
  keys_are [] [] e = refl
  keys_are [] (s ∷ x) e = cc
  keys_are (g ∷ gs) [] e = cc
  keys_are (g ∷ gs) (s ∷ x) e =
      let rest = both_back (fits (letter g) s.value) (are_cells gs x) (both_back (same_member s.key g)
      (fits (letter g) s.value && are_cells gs x) e) in
      ap (λ k. k ∷ keys x) (member_tells s.key g (both_front (same_member s.key g) (fits (letter g) s.value
      && are_cells gs x) e)) ∙ ap (λ ks. g ∷ ks) (keys_are gs x rest)

  named : (gs : List MemberId) (x : Held) → map (shown_cell 0 (image_of o x ∷ [])) (cell_names o gs)
      ≡ map (λ f. shown_cell 0 (image_of o x ∷ []) (record { offset = offset_from 0 (fields o) f; id = f })) gs
  named [] x = refl
  named (g ∷ gs) x = ap (λ vs. shown_cell 0 (image_of o x ∷ []) (record { offset = offset_from 0 (fields o) g; id = g })
      ∷ vs) (named gs x)

  cells_shown : (x : Held) → are_cells all x ≡ true → map (shown_cell 0 (image_of o x ∷ [])) (cell_names o all)
      ≡ map shown_slot x
  cells_shown x e =
      let same = keys_are all x e in
      named all x
      ∙ (ap (map shown) (sym same)
      ∙ shown_all shown x (ap are_apart same ∙ has.once) (λ f v is there. look f v (ap (is_one_of f) (sym same)
      ∙ is) there))
    where
      shown : MemberId → FieldValue
      shown f = shown_cell 0 (image_of o x ∷ []) (record { offset = offset_from 0 (fields o) f; id = f })

      look : (f : MemberId) (v : Value) → is_one_of f all ≡ true → slot_of same_member x f ≡ Some v
          → shown_cell 0 (image_of o x ∷ []) (record { offset = offset_from 0 (fields o) f; id = f })
          ≡ record { field = f; value = v }
      look f v is there =
          ap (λ l. record {
            field = f;
            value = value_or (zero_of (field_sort f.desc))
                (option_and_then (λ k. get_static k (cell_of o f) (image_of o x ∷ [])) l);
          }) (has.typed f is)
          ∙ ap (λ u. record { field = f; value = value_or (zero_of (field_sort f.desc)) u }) (cell_read o has.order x f
          (hold x e) (letter f) (has.each f is) refl ∙ there)

  pub cells_agree : CellsAgree o all
  cells_agree = record { get = get_there; put = put_there; put_known = put_stays; shown = cells_shown }
