-- Constants, classes and arrays that instructions of a converted package name, in whichever mode their methods are, and
-- the keys of what an invokespecial calls.
use Rattle.std.proofs.Common.{◌≡◌, ℕ, refl, sym, ap, ◌∙◌, Bool, true, false, List, [], ◌∷◌, ℤ}
use Rattle.std.specs.Prelude.{◌&&◌, ◌||◌, not, Option, Some, None, is_some, option_and_then, option_map, if◌then◌else◌}
use Rattle.cjc_verified_proof.specs.Bytecode.declared.insn.JOp.TheVariants as jop
use Rattle.cjc_verified_proof.specs.Bytecode.declared.method_code.MethodCode.{MethodCode}
use Rattle.cjc_verified_proof.specs.Bytes.AccessFlags.{is_abstract, is_interface, is_private}
use Rattle.cjc_verified_proof.specs.Bytes.Spots.{after, bad_at, desc_of}
use Rattle.cjc_verified_proof.specs.Bytes.declared.fault.MemberId.{MemberId}
use Rattle.cjc_verified_proof.specs.CapRead.declared.tree.PoolEntry.TheVariants as entries
use Rattle.cjc_verified_proof.specs.ClassFile.declared.tree.ClassTree.{ClassTree}
use Rattle.cjc_verified_proof.specs.Components.Names.{class_ref, names}
use Rattle.cjc_verified_proof.specs.Components.Package.{Package, world}
use Rattle.cjc_verified_proof.specs.JvmSemantics.Linked.{Static}
use Rattle.cjc_verified_proof.specs.JvmSemantics.OnePackage.{constant_at, field_by, field_hit, field_named, is_made}
use Rattle.cjc_verified_proof.specs.JvmSemantics.OnePackage.{is_constructor, method_hit, object_fields, of_class}
use Rattle.cjc_verified_proof.specs.List.Listed.{ListTree}
use Rattle.cjc_verified_proof.specs.NCode.Lowering.Naming.{Holds}
use Rattle.cjc_verified_proof.specs.NCode.declared.narrow.NInsn.TheVariants as insns
use Rattle.cjc_verified_proof.specs.NCode.declared.narrow.PoolKey.TheVariants as keys
use Rattle.cjc_verified_proof.specs.Narrow.Rows.Resolved.{constant_named, method_found, special_by}
use Rattle.cjc_verified_proof.specs.Script.Sorts.{Booleans, Bytes, Ints, OfClass, OfNumbers, OfReferences, Shape}
use Rattle.cjc_verified_proof.specs.Script.Sorts.{Shorts, shape_named}
use Rattle.cjc_verified_proof.specs.TokenProof.Tables.Loading.{naming}
use Rattle.cjc_verified_proof.specs.Verify.Named.{names_unmade}
use Rattle.cjc_verified_proof.specs.Verify.Pairs.{Pair}
use Rattle.cjc_verified_proof.specs.World.Classes.{Class, class_named}
use Rattle.cjc_verified_proof.specs.World.Lookup.{find_field}
use Rattle.cjc_verified_proof.specs.World.declared.found.Found.{Found}
use Rattle.cjc_verified_proof.specs.WorldProof.Calls.Solid.{IsSolid}
use Rattle.cjc_check_proof.specs.Types.Types.{array_of, parts, result_of}
use Rattle.cjc_check_proof.specs.Types.declared.cell.Cell.TheVariants.{Number}
use Rattle.cjc_ncode.specs.Written.{Resolution, type_test}
use Rattle.cjc_narrow_proof.specs.Laws.Unbroken.{IsInsnOf, KeepsNames}
use Rattle.cjc_narrow_proof.specs.Runs.Types.{IsThere}
use Rattle.cjc_narrow_proof.specs.Runs.Types as there
use Rattle.cjc_narrow_proof.proofs.LawsLaws.Instructions.{array_of_class, new_fields, op_fit, op_there}
use Rattle.cjc_verify.specs.ClassTypes.{array_type, class_type}
use Rattle.cjc_accepted_proof.specs.Coded.{card_type, is_of}
use Rattle.cjc_accepted_proof.specs.Served.{TypeServed, entry_for}
use Rattle.cjc_accepted_proof.specs.Served as serves
use Rattle.cjc_accepted_proof.specs.Written.{written_pair}
use Rattle.cjc_shape_proof.specs.Finds.{IsStaticFieldFound, finds_cell, finds_constant}
use Rattle.cjc_shape_proof.proofs.WrittenLaws.Checked.{own_names, own_solid, read_files}
use Rattle.cjc_theorem.proofs.AlikeLaws.MetLaws.KeySources.{Calls_method}
use Rattle.cjc_theorem.proofs.WholeRuns.Statics.{static_found}
use Rattle.cjc_theorem.specs.LowerJudge.Rules.{settings_of}
use Rattle.cjc_theorem.specs.ShapeProof.Written.Checked.{IsOfFiles}
use Rattle.cjc_accepted_theorem.proofs.PassedLaws.{array_typed, class_typed, made_class}
use Rattle.cjc_accepted_theorem.proofs.TypedLaws.{shape_typed}

module _ (list : ListTree) (codes : List MethodCode) (p : Package) (is : IsOfFiles list codes p) where
  abbrev w : List Class
  w = world p

  abbrev q : Pair
  q = written_pair p

  abbrev u : KeepsNames list.name p.files codes (settings_of list)
  u = own_names list codes p is.checked

  abbrev solid : IsSolid p.files
  solid = own_solid list codes p is.checked

  -- ---- constants

  -- one is found as a constant
  constant_found : (id : MemberId) (z : ℤ) → constant_named p.files w id ≡ Some z → (f : MemberId)
      → field_named p.files w id ≡ Some (Static f) → ⊥
  constant_found id z e f g = by (find_field w id.class id.name id.desc) e g
    where
      at : (o : Option ℤ) (x : Found) → constant_at p.files x ≡ o → o ≡ Some z
          → option_map (field_by (constant_at p.files x) id) (field_hit w x) ≡ Some (Static f) → ⊥
      at None x h i k = absurd cc
      at (Some y) x h i k = hit (field_hit w x) (sym (ap (λ o. option_map (field_by o id) (field_hit w x)) h) ∙ k)
        where
          hit : (o : Option _) → option_map (field_by (Some y) id) o ≡ Some (Static f) → ⊥
          hit None k = cc
          hit (Some v) k = cc

      by : (o : Option Found) → option_and_then (constant_at p.files) o ≡ Some z → option_and_then (λ x. option_map
          (field_by (constant_at p.files x) id) (field_hit w x)) o ≡ Some (Static f) → ⊥
      by None h k = cc
      by (Some x) h k = at (constant_at p.files x) x refl h k

  -- it is read alone, and is a number
  pub constant_read : (class : ClassTree) (put : Bool) (id : MemberId)
      → IsInsnOf p.files codes class (jop.Static put id)
      → (z : ℤ) → constant_named p.files w id ≡ Some z → (put ≡ false)
      × ((let d = parts id.desc in result_of d.result) ≡ Number ∷ [])
  constant_read class put id of z e = by (static_found list.name p.files codes (settings_of list) u (read_files list
      codes p is.checked) solid p.image class put id of)
    where
      by : IsStaticFieldFound p.files p.image put id → (put ≡ false)
          × ((let d = parts id.desc in result_of d.result) ≡ Number ∷ [])
      by (finds_constant y read usable number held found) = (read, number)
      by (finds_cell target usable found told) = absurd (constant_found id z e target found)

  -- ---- classes

  -- the class of a new
  pub new_entry : (class : ClassTree) (name : List ℕ) → IsInsnOf p.files codes class (jop.New name)
      → Holds (naming p) (keys.Class name)
      → (entry_for q (names p) (keys.Class name) ≡ Some (entries.Classref (class_ref p name)))
      × (card_type p name ≡ Some (class_type (class_ref p name))) × (names_unmade q (class_ref p name) ≡ false)
  new_entry class name of holds =
      let ok = op_there list.name p.files codes (settings_of list) u class (jop.New name) of in
      by (class_named w name) refl (new_fields p.files class name ok.0 ok.2)
    where
      two : (a b : Bool) → (not a && not b) ≡ true → (a ≡ false) × (b ≡ false)
      two true b e = absurd cc
      two false true e = absurd cc
      two false false e = (refl, refl)

      made : (c : Class) (v : Bool) → is_made c ≡ v → (if v then Some (object_fields w name) else None)
          ≡ Some (object_fields w name) → is_made c ≡ true
      made c true e f = e
      made c false e f = absurd cc

      by : (o : Option Class) → class_named w name ≡ o → option_and_then (λ c. if is_made c
          then Some (object_fields w name) else None) o ≡ Some (object_fields w name)
          → (entry_for q (names p) (keys.Class name) ≡ Some (entries.Classref (class_ref p name)))
          × (card_type p name ≡ Some (class_type (class_ref p name))) × (names_unmade q (class_ref p name) ≡ false)
      by None e f = absurd cc
      by (Some c) e f =
          let t = two (is_interface c.flags) (is_abstract c.flags) (made c (is_made c) refl f) in
          (holds.there, class_typed list codes p is name c e, made_class list codes p is name c e t.0 t.1)

  -- that of the elements of an anewarray
  pub array_entry : (class : ClassTree) (name : List ℕ) → IsInsnOf p.files codes class (jop.ANewArray name)
      → Holds (naming p) (keys.Class name)
      → (entry_for q (names p) (keys.Class name) ≡ Some (entries.Classref (class_ref p name)))
      × (card_type p (array_of name) ≡ Some (array_type (class_ref p name)))
  array_entry class name of holds =
      let ok = op_there list.name p.files codes (settings_of list) u class (jop.ANewArray name) of in
      let fit = op_fit list.name p.files codes (settings_of list) u class (jop.ANewArray name) of in
      let c = array_of_class w name ok.0 fit.0 in
      (holds.there, array_typed list codes p is name c.0 c.1)

  -- ---- keys

  -- that of a method that an invokespecial calls: a constructor or a private method, or one of a superclass
  pub special_key : (class : ClassTree) (id : MemberId) (n : Calls_method list codes p is class 0xB7 id)
      → special_by class.name id (method_found w id) ≡ (if is_constructor id.name || is_private (let a = n.at in let x =
      a.member in x.flags) then keys.StaticMethod (of_class (let d = n.owner in d.name) id)
      else keys.Super (of_class class.name id))
  special_key class id n = ap (special_by class.name id) (ap (option_and_then (method_hit w)) n.found ∙ n.hit)

-- ---- types of tests, and arrays of numbers

module _ (p : Package) where
  -- the type that a test names, whose class or whose elements' class the pool holds
  pub type_served : (r : Resolution) (name : List ℕ) (kind : Shape (List ℕ)) → shape_named name ≡ Some kind
      → IsThere (world p) kind
      → ((number : ℕ) (c : List ℕ) → type_test 0x94 (Some kind) ≡ insns.TypeTest 0x94 number (Some c) ∷ []
      → Holds (naming p) (keys.Class c))
      → TypeServed (card_type p) (is_of p) (world p) (written_pair p) (names p) r name
  type_served r name _ e (there.of_class {class = x} c known) holds = (let h = holds 0 x refl in serves.a_class x
      (class_ref p x) e h.there (shape_typed p name (OfClass x) e (ap is_some known)))
  type_served r name _ e (there.of_numbers {element = element}) holds = serves.numbers element e (shape_typed p name
      (OfNumbers element) e refl)
  type_served r name _ e (there.of_references {class = x} c known) holds = (let h = holds 14 x refl
      in serves.references x (class_ref p x) e h.there (shape_typed p name (OfReferences x) e (ap is_some known)))

  -- the card's types of arrays of booleans, bytes, shorts and ints
  pub numbers_typed : (card_type p (91 ∷ 90 ∷ []) ≡ Some (10 ∷ [])) × (card_type p (91 ∷ 66 ∷ []) ≡ Some (11 ∷ []))
      × (card_type p (91 ∷ 83 ∷ []) ≡ Some (12 ∷ [])) × (card_type p (91 ∷ 73 ∷ []) ≡ Some (13 ∷ []))
  unfolding desc_of bad_at after
  numbers_typed = (
    shape_typed p (91 ∷ 90 ∷ []) (OfNumbers Booleans) refl refl,
    shape_typed p (91 ∷ 66 ∷ []) (OfNumbers Bytes) refl refl,
    shape_typed p (91 ∷ 83 ∷ []) (OfNumbers Shorts) refl refl,
    shape_typed p (91 ∷ 73 ∷ []) (OfNumbers Ints) refl refl,
  )
