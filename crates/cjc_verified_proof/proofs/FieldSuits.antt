-- Instructions on fields of the package, and those that make objects, are what their acts say.
use Rattle.std.proofs.Common.{◌≡◌, ◌<◌, ◌+◌, ◌==◌, ◌^◌, ℕ, zero, suc, Bool, true, false, not, List, [], ◌∷◌, ◌++◌}
use Rattle.std.proofs.Common.{slice_get}
use Rattle.std.proofs.Common.{Option, Some, None, refl, sym, ap, subst, ◌∙◌, append-nil, length}
use Rattle.std.specs.Prelude.{◌&&◌, if◌then◌else◌, is_some, option_and_then, option_map}
use Rattle.cjc_capread.specs.declared.tree.ClassRef.{ClassRef}
use Rattle.cjc_capread.specs.declared.tree.ClassRef.TheVariants.{Inside, Outside}
use Rattle.cjc_capread.specs.declared.tree.StaticRef.{StaticRef}
use Rattle.cjc_capread.specs.declared.tree.StaticRef.TheVariants as statics
use Rattle.cjc_capread.specs.declared.tree.PoolEntry.{PoolEntry}
use Rattle.cjc_capread.specs.declared.tree.PoolEntry.TheVariants.{Classref, InstanceFieldref, StaticFieldref}
use Rattle.cjc_check_rules.specs.Complete.{Complete}
use Rattle.cjc_world.specs.declared.image.StaticImage.{StaticImage}
use Rattle.cjc_world.specs.Files.{Files}
use Rattle.cjc_card_semantics.specs.Script.Sorts.{OfClass}
use Rattle.cjc_card_semantics.specs.Bytecode.Effects.{Get, GetStatic, Letter, New, Put, PutStatic}
use Rattle.cjc_card_semantics.specs.Bytecode.Meanings.{Gets, GetsStatic, Makes, Puts, PutsStatic, Use}
use Rattle.cjc_card_semantics.specs.Machine.Loaded.{Import, Loaded, OfFile}
use Rattle.cjc_card_semantics.specs.Machine.Classes.{Class, External, Field, Own, class_of, imported_class}
use Rattle.cjc_card_semantics.specs.Machine.Classes.{is_interface}
use Rattle.cjc_card_semantics.specs.Machine.Classes.{is_there}
use Rattle.cjc_card_semantics.specs.Machine.Operations.{Resolved, or_undone}
use Rattle.cjc_card_semantics.specs.Machine.Operations as machine
use Rattle.cjc_card_semantics.specs.Machine.Statics.{StaticCell}
use Rattle.cjc_verify.specs.Frames.declared.acts.Act.{Act}
use Rattle.cjc_verify.specs.Frames.declared.acts.Need.{Need}
use Rattle.cjc_verify.specs.Frames.declared.acts.Need.TheVariants.{OfType}
use Rattle.cjc_verify.specs.Frames.declared.acts.Given.TheVariants as given
use Rattle.cjc_card_acts.specs.CardTypes.{MemberType, ValueType, is_moved_by, needs_of, shape_by, words}
use Rattle.cjc_card_acts.specs.Rows.{idle, reading}
use Rattle.cjc_components.specs.Paired.Naming.{files_from}
use Rattle.cjc_token_proof.specs.Tables.Sound.{AreFieldDescs, AreTyped, IsSound}
use Rattle.cjc_verify.specs.ClassTypes.{class_type}
use Rattle.cjc_verify.specs.Instructions.{using}
use Rattle.cjc_verify.specs.Named.{entry_of, entry_type, is_unmade_class, names_unmade}
use Rattle.cjc_verify.specs.Pairs.{Pair, class_at, pair_of}
use Rattle.cjc_verify.specs.Verified.{IsVerified}
use Rattle.cjc_verify_proof.specs.Frames.{Program}
use Rattle.cjc_verify_proof.specs.Instructions.{Suits}
use Rattle.cjc_verify_proof.specs.Instructions as suits
use Rattle.cjc_verify_proof.specs.Memories.{AreDeclared, FieldTypes}
use Rattle.cjc_verified_proof.specs.Entries.{AreRefs, IsRef}
use Rattle.cjc_verified_proof.specs.PackageTypes.{StaticInInterfaces, field_types}
use Rattle.cjc_verified_proof.specs.Programs.{IsProgramOf, is_made}
use Rattle.cjc_verified_proof.specs.Suited.{IsRight}
use Rattle.cjc_bytes.proofs.Plain.{same_some}
use Rattle.cjc_verified_proof.proofs.DeclaredLaws.{all_declared}
use Rattle.cjc_verified_proof.proofs.EntryLaws.{cell_typed, instance_typed}
use Rattle.cjc_verified_proof.proofs.MakeLaws.{made_there}
use Rattle.cjc_verified_proof.proofs.PlaceLaws.{all_read, import_is}
use Rattle.cjc_verified_proof.proofs.UseLaws.{class_meant, class_named}
use Rattle.cjc_verify_proof.proofs.WordLaws.{true_of}

module _ (applets : Bool) (list : List ℕ) (files : Files) (image : StaticImage) (c : Complete)
    (sound : IsSound list files) (typed : AreTyped files) (descs : AreFieldDescs files)
    (static_ones : StaticInInterfaces files) (verified : IsVerified (pair_of applets files image c))
    (counts : (let d = c.descriptor in let q = c.pool in length d.pool_types ≡ length q.entries)) (refs : AreRefs c)
    (program : Program) (of : IsProgramOf (pair_of applets files image c) program) (result : ValueType) where
  abbrev p : Pair
  p = pair_of applets files image c

  abbrev l : Loaded
  l = p.loaded

  declared : AreDeclared l (field_types p)
  declared = all_declared applets list files image c sound typed descs static_ones verified

  abbrev typed_as : ℕ → ValueType
  typed_as k = let t = entry_type p k in t.result

  -- what is done with an entry is what its act says
  abbrev Suit : Use → ℕ → PoolEntry → Type 0
  Suit how k item = Suits l program result (using p how (entry_type p k) item) (or_undone (machine.using l 0 how item))

  module _ (k offset token : ℕ) (is : entry_of p k ≡ Some (InstanceFieldref (Inside offset) token)) where
    abbrev f : Field
    f = record { class = Own 0 offset; token = token }

    field_is : (let t = field_types p in t.field f) ≡ Some (typed_as k)
    field_is = instance_typed p verified counts k offset token is

    in_program : (let t = program.fields in t.field f) ≡ Some (typed_as k)
    in_program = ap (λ (t : FieldTypes). t.field f) of.fields ∙ field_is

    named : shape_by l (class_type (Inside offset)) ≡ Some (OfClass (Own 0 offset))
    named = class_named l (field_types p) declared offset token (typed_as k) field_is (refs.entries k
        (InstanceFieldref (Inside offset) token) is)

    meant : (how : Field → Resolved) → or_undone (option_map (λ (x : Class). how (record { class = x; token = token }))
        (class_of l 0 (Inside offset))) ≡ how f
    meant how = ap (λ (o : Option Class). or_undone (option_map (λ (x : Class). how (record {
      class = x;
      token = token;
    })) o)) (class_meant l (field_types p) declared offset token (typed_as k) field_is)

    got : (this : Bool) (letter : Letter) → not (is_moved_by letter (typed_as k)) ≡ false
        → Suit (Gets this letter) k (InstanceFieldref (Inside offset) token)
    got false letter fit = subst (Suits l program result (using p (Gets false letter) (entry_type p k)
        (InstanceFieldref (Inside offset) token))) (sym (meant (Get false letter)))
        (subst (λ b. Suits l program result (record idle {
          takes = OfType (class_type (Inside offset)) ∷ [];
          gives = words (typed_as k);
          misfits = b;
        }) (Get false letter f)) (sym fit) (suits.getfield f letter (typed_as k) (class_type (Inside offset)) in_program
        (true_of (is_moved_by letter (typed_as k)) fit) named))
    got true letter fit = subst (Suits l program result (using p (Gets true letter) (entry_type p k)
        (InstanceFieldref (Inside offset) token))) (sym (meant (Get true letter)))
        (subst (λ b. Suits l program result (record idle {
          reads = reading 0 (OfType (class_type (Inside offset))) ∷ [];
          gives = words (typed_as k);
          misfits = b;
        }) (Get true letter f)) (sym fit) (suits.getfield_this f letter (typed_as k) (class_type
        (Inside offset)) in_program
        (true_of (is_moved_by letter (typed_as k)) fit) named))

    written : (this : Bool) (letter : Letter) → not (is_moved_by letter (typed_as k)) ≡ false
        → Suit (Puts this letter) k (InstanceFieldref (Inside offset) token)
    written false letter fit = subst (Suits l program result (using p (Puts false letter) (entry_type p k)
        (InstanceFieldref (Inside offset) token))) (sym (meant (Put false letter)))
        (subst (λ b. Suits l program result (record idle {
          takes = needs_of (typed_as k) ++ OfType (class_type (Inside offset)) ∷ [];
          misfits = b;
        }) (Put false letter f)) (sym fit) (suits.putfield f letter (typed_as k) (class_type (Inside offset)) in_program
        (true_of (is_moved_by letter (typed_as k)) fit) named))
    written true letter fit = subst (Suits l program result (using p (Puts true letter) (entry_type p k)
        (InstanceFieldref (Inside offset) token))) (sym (meant (Put true letter)))
        (subst (λ (needs : List Need). Suits l program result (record idle {
          takes = needs;
          reads = reading 0 (OfType (class_type (Inside offset))) ∷ [];
          misfits = not (is_moved_by letter (typed_as k));
        }) (Put true letter f)) (sym (append-nil (needs_of (typed_as k)))) (subst (λ b. Suits l program result
        (record idle {
          takes = needs_of (typed_as k);
          reads = reading 0 (OfType (class_type (Inside offset))) ∷ [];
          misfits = b;
        }) (Put true letter f)) (sym fit) (suits.putfield_this f letter (typed_as k) (class_type
        (Inside offset)) in_program
        (true_of (is_moved_by letter (typed_as k)) fit) named)))

  module _ (k offset : ℕ) (is : entry_of p k ≡ Some (StaticFieldref (statics.Inside offset))) where
    abbrev cell : StaticCell
    cell = record { part = 0; offset = offset }

    cell_is : (let t = program.fields in t.cell cell) ≡ Some (typed_as k)
    cell_is = ap (λ (t : FieldTypes). t.cell cell) of.fields ∙ cell_typed p verified counts k offset is

    got_static : (letter : Letter) → not (is_moved_by letter (typed_as k)) ≡ false
        → Suit (GetsStatic letter) k (StaticFieldref (statics.Inside offset))
    got_static letter fit = subst (λ b. Suits l program result (record idle {
      gives = words (typed_as k);
      misfits = b;
    }) (GetStatic letter cell)) (sym fit) (suits.getstatic cell letter (typed_as k) cell_is (true_of
        (is_moved_by letter (typed_as k)) fit))

    written_static : (letter : Letter) → not (is_moved_by letter (typed_as k)) ≡ false
        → Suit (PutsStatic letter) k (StaticFieldref (statics.Inside offset))
    written_static letter fit = subst (λ b. Suits l program result (record idle {
      takes = needs_of (typed_as k);
      misfits = b;
    }) (PutStatic letter cell)) (sym fit) (suits.putstatic cell letter (typed_as k) cell_is (true_of
        (is_moved_by letter (typed_as k)) fit))

  -- an instruction on an instance field
  pub field_suits : (this : Bool) (letter : Letter) (r : ClassRef) (token k : ℕ) → entry_of p k
      ≡ Some (InstanceFieldref r token) → IsRight (using p (Gets this letter) (entry_type p k)
      (InstanceFieldref r token))
      → Suit (Gets this letter) k (InstanceFieldref r token)
  field_suits this letter (Inside offset) token k is right = got k offset token is this letter right.fit
  field_suits this letter (Outside import class) token k is right = absurd (let no = right.named in cc)

  pub field_put_suits : (this : Bool) (letter : Letter) (r : ClassRef) (token k : ℕ) → entry_of p k
      ≡ Some (InstanceFieldref r token) → IsRight (using p (Puts this letter) (entry_type p k)
      (InstanceFieldref r token))
      → Suit (Puts this letter) k (InstanceFieldref r token)
  field_put_suits this letter (Inside offset) token k is right = written k offset token is this letter right.fit
  field_put_suits this letter (Outside import class) token k is right = absurd (let no = right.named in cc)

  -- one on a static field
  pub cell_suits : (letter : Letter) (r : StaticRef) (k : ℕ) → entry_of p k ≡ Some (StaticFieldref r)
      → IsRight (using p (GetsStatic letter) (entry_type p k) (StaticFieldref r)) → Suit (GetsStatic letter) k
      (StaticFieldref r)
  cell_suits letter (statics.Inside offset) k is right = got_static k offset is letter right.fit
  cell_suits letter (statics.Outside import class token) k is right = absurd (let no = right.named in cc)

  pub cell_put_suits : (letter : Letter) (r : StaticRef) (k : ℕ) → entry_of p k ≡ Some (StaticFieldref r)
      → IsRight (using p (PutsStatic letter) (entry_type p k) (StaticFieldref r)) → Suit (PutsStatic letter) k
      (StaticFieldref r)
  cell_put_suits letter (statics.Inside offset) k is right = written_static k offset is letter right.fit
  cell_put_suits letter (statics.Outside import class token) k is right = absurd (let no = right.named in cc)

  -- ---- objects that are made

  -- a class of which objects are made
  made_so : (r : ClassRef) (class : Class) → class_of l 0 r ≡ Some class → names_unmade p r ≡ false
      → is_interface l class ≡ false → is_made p class ≡ true
  made_so (Inside offset) class e unmade plain = by (is_there l (Own 0 offset)) e
    where
      by : (b : Bool) → (if b then Some (Own 0 offset) else None) ≡ Some class → is_made p class ≡ true
      by true f = subst (λ x. is_made p x ≡ true) (same_some f) (ap (λ b. not b) unmade)
      by false f = absurd cc
  made_so (Outside import token) class e unmade plain = by (slice_get (files_from 0 files.exports) import) refl e
    where
      there : (n : ℕ) (b : Bool) → (if b then Some (External n token) else None) ≡ Some class → is_made p class ≡ true
      there n true f = subst (λ x. is_interface l x ≡ false → is_made p x ≡ true) (same_some f) (λ no. ap
          (λ b. not b) no)
          plain
      there n false f = absurd cc

      by : (o : Option Import) → slice_get (files_from 0 files.exports) import ≡ o
          → option_and_then (imported_class l token) o ≡ Some class → is_made p class ≡ true
      by None f g = absurd cc
      by (Some x) f g =
          let is = import_is 0 files.exports import x f in
          there (0 + import) (is_there l (External (0 + import) token)) (sym (ap (imported_class l token) is) ∙ g)

  -- an instruction that makes an object
  pub new_suits : (r : ClassRef) (k : ℕ) → entry_of p k ≡ Some (Classref r) → IsRight (using p Makes (entry_type p k)
      (Classref r)) → Suit Makes k (Classref r)
  new_suits r k is right =
      let made = made_there applets list files image c sound typed descs static_ones verified r right.named in
      let shape : shape_by l (class_type r) ≡ Some (OfClass made.class) = ap (option_map OfClass) (all_read l r
      (refs.entries k (Classref r) is) ∙ made.meant) in
      let so : program.made made.class ≡ true = ap (λ (m : Class → Bool). m made.class) of.made ∙ made_so r made.class
      made.meant right.named made.plain in
      subst (λ (o : Option Class). Suits l program result (using p Makes (entry_type p k) (Classref r)) (or_undone
      (option_map (λ (x : Class). New x) o))) (sym made.meant) (subst (λ b. Suits l program result (record idle {
        gives = given.AnObject (class_type r) ∷ [];
        misnames = b;
      }) (New made.class)) (sym right.named) (suits.new made.class (class_type r) so made.plain shape))
