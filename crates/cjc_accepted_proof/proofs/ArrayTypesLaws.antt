-- What the card's types of arrays say of the arrays that they stand for, where each is written for its name.
use Rattle.std.proofs.Common.{◌≡◌, ℕ, refl, sym, ap, subst, ◌∙◌, arith, Bool, true, false, List, [], ◌∷◌, length, ◌-◌}
use Rattle.std.specs.Prelude.{◌==◌, ◌||◌, Option, Some, None, if◌then◌else◌, is_some, option_and_then, take}
use Rattle.std.specs.Str.{bytes_eq}
use Rattle.std.proofs.lemmas.Slice.Eq.{bytes_eq-Decides}
use Rattle.cjc_types.specs.Bytecode.Jvm as jvm
use Rattle.cjc_types.specs.Bytes.Descriptor.{Parts}
use Rattle.cjc_types.specs.Bytes.Spots.{desc_of, part_of}
use Rattle.cjc_types.specs.Bytes.declared.descriptor.Kind.{Kind}
use Rattle.cjc_types.specs.Bytes.declared.descriptor.Kind.TheVariants as kinds
use Rattle.cjc_types.specs.Rules.{is_array_by, is_array_for}
use Rattle.cjc_types.specs.Types.{held as held_by_name, held_by}
use Rattle.cjc_types.specs.World.Classes.{Class}
use Rattle.cjc_types.specs.World.Subtype.{starts}
use Rattle.cjc_frames.specs.Types.{begins_with, held}
use Rattle.cjc_verify.specs.CapRead.declared.tree.ClassRef.{ClassRef}
use Rattle.cjc_verify.specs.CardActs.CardTypes.{all_arrays, arrays_of}
use Rattle.cjc_verify.specs.CardSemantics.Bytecode.Effects.{Letter}
use Rattle.cjc_verify.specs.CardSemantics.Bytecode.Effects as effects
use Rattle.cjc_verify.specs.Components.Types.{shape_nibbles}
use Rattle.cjc_verify.specs.Script.Sorts.{Booleans, Bytes, Ints, OfClass, OfNumbers, OfReferences, Shape, Shorts}
use Rattle.cjc_verify.specs.Script.Sorts.{array_by, array_of, shape_named}
use Rattle.cjc_accepted_proof.specs.Elements.{ArraysAgree, IsHeld, letter_for, works_on_int}
use Rattle.cjc_accepted_proof.specs.Frames.{is_there, nibbles_there, type_named}

some_same : {A : Type 0} (a b : A) → Some a ≡ Some b → a ≡ b
some_same a b e = cc

-- ---- shapes by name

-- an array's name says what it holds
array_shape : (b : ℕ) (bs : List ℕ) (a : Shape (List ℕ)) → (b == 91) ≡ true → shape_named (b ∷ bs) ≡ Some a
    → array_by (part_of bs) ≡ Some a
array_shape b bs a t e = by (b == 91) (desc_of (b ∷ bs)) t e
  where
    by : (t : Bool) (o : Option Parts) → t ≡ true → (if t then option_and_then (λ (d : Parts). array_by (part_of bs)) o
        else Some (OfClass (b ∷ bs))) ≡ Some a → array_by (part_of bs) ≡ Some a
    by true None f g = absurd cc
    by true (Some d) f g = g
    by false o f g = absurd cc

-- the class of an array of references
ref_class : (class c : List ℕ) → array_of kinds.Ref class ≡ Some (OfReferences c) → (class ≡ c)
    × (shape_named c ≡ Some (OfClass c))
ref_class [] c e = absurd cc
ref_class (x ∷ xs) c e = by (x == 91) refl e
  where
    by : (t : Bool) → (x == 91) ≡ t → (if t then None else Some (OfReferences (x ∷ xs))) ≡ Some (OfReferences c)
        → (x ∷ xs ≡ c) × (shape_named c ≡ Some (OfClass c))
    by true f g = absurd cc
    by false f g =
        let same : x ∷ xs ≡ c = cc in (
          same,
          subst (λ (v : List ℕ). shape_named v ≡ Some (OfClass v)) same (ap (λ t. if t
              then option_and_then (λ (d : Parts). array_by (part_of xs)) (desc_of (x ∷ xs))
              else Some (OfClass (x ∷ xs))) f),
        )

plain_none : (k : Kind) (c : List ℕ) → array_of k [] ≡ Some (OfReferences c) → ⊥
plain_none kinds.Bool c e = absurd cc
plain_none kinds.Byte c e = absurd cc
plain_none kinds.Short c e = absurd cc
plain_none kinds.Int c e = absurd cc
plain_none kinds.Other c e = absurd cc
plain_none kinds.Ref c e = absurd cc
plain_none kinds.Void c e = absurd cc

held_is : (bs c : List ℕ) → array_by (part_of bs) ≡ Some (OfReferences c) → (held_by bs ≡ Some c)
    × (shape_named c ≡ Some (OfClass c))
held_is [] c e = absurd cc
held_is (x ∷ xs) c e = by (x == 91) (x == 76) _ refl e
  where
    by : (p q : Bool) (k : Kind) → (x == 91) ≡ p → array_by (if p then record { kind = kinds.Ref; class = x ∷ xs } else
        if q
        then record { kind = kinds.Ref; class = take (length xs - 1) xs }
        else record { kind = k; class = [] }) ≡ Some (OfReferences c) → ((if p then Some (x ∷ xs) else if q
        then Some (take (length xs - 1) xs) else None) ≡ Some c) × (shape_named c ≡ Some (OfClass c))
    by true q k f g =
        let no : None ≡ Some (OfReferences c) = ap (λ t. if t then None else Some (OfReferences (x ∷ xs))) (sym f) ∙ g
        in
        absurd cc
    by false true k f g = let r = ref_class (take (length xs - 1) xs) c g in (ap (λ v. Some v) r.0, r.1)
    by false false k f g = absurd (plain_none k c g)

module _ (w : List Class) (ref : List ℕ → ClassRef) where
  -- what a name with a type on the card stands for
  record IsOf (name type : List ℕ) : Type 0 where
    shape : Shape (List ℕ)
    named : shape_named name ≡ Some shape
    there : is_there w shape ≡ true
    written : shape_nibbles ref shape ≡ type

  of_named : (name type : List ℕ) → type_named w ref name ≡ Some type → IsOf name type
  of_named name type e = by (shape_named name) refl e
    where
      at : (a : Shape (List ℕ)) → shape_named name ≡ Some a → (t : Bool) → is_there w a ≡ t
          → (if t then Some (shape_nibbles ref a) else None) ≡ Some type → IsOf name type
      at a f true h i = record {
        shape = a;
        named = f;
        there = h;
        written = some_same (shape_nibbles ref a) type i;
      }
      at a f false h i = absurd cc

      by : (o : Option (Shape (List ℕ))) → shape_named name ≡ o → option_and_then (nibbles_there w ref) o ≡ Some type
          → IsOf name type
      by None f g = absurd cc
      by (Some a) f g = at a f (is_there w a) refl g

  -- ---- arrays

  kind_array : (k : Kind) (class : List ℕ) (a : Shape (List ℕ)) → array_of k class ≡ Some a
      → begins_with all_arrays (shape_nibbles ref a) ≡ true
  kind_array kinds.Bool class a e = ap (λ v. begins_with all_arrays (shape_nibbles ref v)) (sym (some_same (OfNumbers
      Booleans) a e))
  kind_array kinds.Byte class a e = ap (λ v. begins_with all_arrays (shape_nibbles ref v)) (sym (some_same (OfNumbers
      Bytes) a e))
  kind_array kinds.Short class a e = ap (λ v. begins_with all_arrays (shape_nibbles ref v)) (sym (some_same (OfNumbers
      Shorts) a e))
  kind_array kinds.Int class a e = ap (λ v. begins_with all_arrays (shape_nibbles ref v)) (sym (some_same (OfNumbers
      Ints) a e))
  kind_array kinds.Other class a e = absurd cc
  kind_array kinds.Ref [] a e = absurd cc
  kind_array kinds.Ref (x ∷ xs) a e = by (x == 91) e
    where
      by : (t : Bool) → (if t then None else Some (OfReferences (x ∷ xs))) ≡ Some a
          → begins_with all_arrays (shape_nibbles ref a) ≡ true
      by true g = absurd cc
      by false g = ap (λ v. begins_with all_arrays (shape_nibbles ref v)) (sym (some_same (OfReferences (x ∷ xs)) a g))
  kind_array kinds.Void class a e = absurd cc

  are_arrays : (name type : List ℕ) → type_named w ref name ≡ Some type → starts 91 name ≡ true
      → begins_with all_arrays type ≡ true
  are_arrays [] type e s = absurd cc
  are_arrays (b ∷ bs) type e s =
      let r = of_named (b ∷ bs) type e in
      ap (begins_with all_arrays) (sym r.written) ∙ kind_array (let v = part_of bs in v.kind) (let v = part_of bs
      in v.class) r.shape (array_shape b bs r.shape s r.named)

  -- ---- loads and stores

  ref_serves : (class : List ℕ) (a : Shape (List ℕ)) → array_of kinds.Ref class ≡ Some a
      → begins_with (arrays_of effects.Reference) (shape_nibbles ref a) ≡ true
  ref_serves [] a e = absurd cc
  ref_serves (x ∷ xs) a e = by (x == 91) e
    where
      by : (t : Bool) → (if t then None else Some (OfReferences (x ∷ xs))) ≡ Some a
          → begins_with (arrays_of effects.Reference) (shape_nibbles ref a) ≡ true
      by true g = absurd cc
      by false g = ap (λ v. begins_with (arrays_of effects.Reference) (shape_nibbles ref v)) (sym (some_same
          (OfReferences
          (x ∷ xs)) a g))

  held_serves : (bs : List ℕ) (a : Shape (List ℕ)) → array_by (part_of bs) ≡ Some a → is_some (held_by bs) ≡ true
      → begins_with (arrays_of effects.Reference) (shape_nibbles ref a) ≡ true
  held_serves [] a e h = absurd cc
  held_serves (x ∷ xs) a e h = by (x == 91) (x == 76) _ e h
    where
      by : (p q : Bool) (k : Kind) → array_by (if p then record { kind = kinds.Ref; class = x ∷ xs } else if q
          then record { kind = kinds.Ref; class = take (length xs - 1) xs }
          else record { kind = k; class = [] }) ≡ Some a → is_some (if p then Some (x ∷ xs) else if q
          then Some (take (length xs - 1) xs) else None) ≡ true
          → begins_with (arrays_of effects.Reference) (shape_nibbles ref a) ≡ true
      by true q k g i = ref_serves (x ∷ xs) a g
      by false true k g i = ref_serves (take (length xs - 1) xs) a g
      by false false k g i = absurd cc

  refs_serve : (name : List ℕ) (a : Shape (List ℕ)) → shape_named name ≡ Some a → is_some (held_by_name name) ≡ true
      → begins_with (arrays_of effects.Reference) (shape_nibbles ref a) ≡ true
  refs_serve [] a e h = absurd cc
  refs_serve (b ∷ bs) a e h = by (b == 91) refl h
    where
      by : (t : Bool) → (b == 91) ≡ t → is_some (if t then held_by bs else None) ≡ true
          → begins_with (arrays_of effects.Reference) (shape_nibbles ref a) ≡ true
      by true f i = held_serves bs a (array_shape b bs a f e) i
      by false f i = absurd cc

  numbers_serve : (letter : ℕ) (l : Letter) (b : Shape (List ℕ)) → array_by (part_of (letter ∷ [])) ≡ Some b
      → begins_with (arrays_of l) (shape_nibbles ref b) ≡ true → (name : List ℕ) (a : Shape (List ℕ))
      → shape_named name ≡ Some a → is_array_by letter name ≡ true
      → begins_with (arrays_of l) (shape_nibbles ref a) ≡ true
  numbers_serve letter l b known begins name a e h =
      let same : name ≡ 91 ∷ letter ∷ [] = grind (arith, bytes_eq-Decides) in
      let one : Some b ≡ Some a = sym known ∙ array_shape 91 (letter ∷ []) a refl (ap shape_named (sym same) ∙ e) in
      ap (λ v. begins_with (arrays_of l) (shape_nibbles ref v)) (sym (some_same b a one)) ∙ begins

  serves : (opcode : ℕ) (name type : List ℕ) → type_named w ref name ≡ Some type → works_on_int opcode ≡ false
      → is_array_for opcode name ≡ true → begins_with (arrays_of (letter_for opcode)) type ≡ true
  serves opcode name type e no_int good =
      let r = of_named name type e in
      ap (begins_with (arrays_of (letter_for opcode))) (sym r.written)
      ∙ by r.shape r.named (works_on_int opcode) ((opcode == jvm.aaload) || (opcode == jvm.aastore))
      ((opcode == jvm.baload) || (opcode == jvm.bastore)) no_int good
    where
      bytes : (a : Shape (List ℕ)) → shape_named name ≡ Some a → (p : Bool) → is_array_by 66 name ≡ p
          → (p || is_array_by 90 name) ≡ true → begins_with (arrays_of effects.Byte) (shape_nibbles ref a) ≡ true
      bytes a f true g h = numbers_serve 66 effects.Byte (OfNumbers Bytes) refl refl name a f g
      bytes a f false g h = numbers_serve 90 effects.Byte (OfNumbers Booleans) refl refl name a f h

      by : (a : Shape (List ℕ)) → shape_named name ≡ Some a → (i r n : Bool) → i ≡ false → (if i
          then is_array_by 73 name else if r then is_some (held_by_name name) else if n then is_array_by 66 name
          || is_array_by 90 name else is_array_by 83 name) ≡ true → begins_with (arrays_of (if r
          then effects.Reference else if n then effects.Byte else effects.Short)) (shape_nibbles ref a) ≡ true
      by a f true r n g h = absurd cc
      by a f false true n g h = refs_serve name a f h
      by a f false false true g h = bytes a f (is_array_by 66 name) refl h
      by a f false false false g h = numbers_serve 83 effects.Short (OfNumbers Shorts) refl refl name a f h

  ints_serve : (opcode : ℕ) (name type : List ℕ) → type_named w ref name ≡ Some type → works_on_int opcode ≡ true
      → is_array_for opcode name ≡ true → begins_with (arrays_of effects.Int) type ≡ true
  ints_serve opcode name type e on_int good =
      let r = of_named name type e in
      ap (begins_with (arrays_of effects.Int)) (sym r.written)
      ∙ by r.shape r.named (works_on_int opcode) ((opcode == jvm.aaload) || (opcode == jvm.aastore))
      ((opcode == jvm.baload) || (opcode == jvm.bastore)) on_int good
    where
      by : (a : Shape (List ℕ)) → shape_named name ≡ Some a → (i r n : Bool) → i ≡ true → (if i
          then is_array_by 73 name else if r then is_some (held_by_name name) else if n then is_array_by 66 name
          || is_array_by 90 name else is_array_by 83 name) ≡ true → begins_with (arrays_of effects.Int) (shape_nibbles
          ref a) ≡ true
      by a f true r n g h = numbers_serve 73 effects.Int (OfNumbers Ints) refl refl name a f h
      by a f false r n g h = absurd cc

  -- ---- what arrays hold

  holds : (name type element : List ℕ) → type_named w ref name ≡ Some type → held type ≡ Some element
      → IsHeld (type_named w ref) name element
  holds name type element e h = let r = of_named name type e in by r.shape r.named r.there (ap held r.written ∙ h)
    where
      at : (n : List ℕ) (c : List ℕ) → shape_named n ≡ Some (OfReferences c) → (held_by_name n ≡ Some c)
          × (shape_named c ≡ Some (OfClass c))
      at [] c f = absurd cc
      at (b ∷ bs) c f = split (b == 91) refl
        where
          split : (t : Bool) → (b == 91) ≡ t → ((if t then held_by bs else None) ≡ Some c)
              × (shape_named c ≡ Some (OfClass c))
          split true g = held_is bs c (array_shape b bs (OfReferences c) g f)
          split false g =
              let no : Some (OfClass (b ∷ bs)) ≡ Some (OfReferences c) =
              ap (λ t. if t then option_and_then (λ (d : Parts). array_by (part_of bs)) (desc_of (b ∷ bs))
              else Some (OfClass (b ∷ bs))) (sym g) ∙ f in
              absurd cc

      by : (a : Shape (List ℕ)) → shape_named name ≡ Some a → is_there w a ≡ true → held (shape_nibbles ref a)
          ≡ Some element → IsHeld (type_named w ref) name element
      by (OfClass c) f t g = absurd cc
      by (OfNumbers Booleans) f t g = absurd cc
      by (OfNumbers Bytes) f t g = absurd cc
      by (OfNumbers Shorts) f t g = absurd cc
      by (OfNumbers Ints) f t g = absurd cc
      by (OfReferences c) f t g =
          let r = at name c f in
          record {
            inner = c;
            holds = r.0;
            typed = ap (option_and_then (nibbles_there w ref)) r.1
                ∙ ap (λ b. if b then Some (shape_nibbles ref (OfClass c)) else None) t ∙ g;
          }

  pub arrays_agree : ArraysAgree (type_named w ref)
  arrays_agree = record { arrays = are_arrays; served = serves; ints = ints_serve; inside = holds }
