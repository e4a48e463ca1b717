-- Fields that instructions of a converted package name: their entries say what the class files say.
use Rattle.std.proofs.Common.{◌≡◌, ℕ, refl, sym, ap, subst, ◌∙◌, Bool, true, false, List, []}
use Rattle.std.specs.Prelude.{Option, Some, None}
use Rattle.cjc_verified_proof.specs.Bytecode.declared.insn.JOp.TheVariants as jop
use Rattle.cjc_verified_proof.specs.Bytecode.declared.method_code.MethodCode.{MethodCode}
use Rattle.cjc_verified_proof.specs.Bytes.Descriptor.{Parts}
use Rattle.cjc_verified_proof.proofs.BytesPlain.{same_some}
use Rattle.cjc_verified_proof.specs.Bytes.declared.descriptor.Kind.{Kind}
use Rattle.cjc_verified_proof.specs.Bytes.declared.descriptor.Kind.TheVariants as kinds
use Rattle.cjc_verified_proof.specs.Bytes.declared.fault.MemberId.{MemberId}
use Rattle.cjc_verified_proof.specs.CapRead.declared.tree.ClassRef.{ClassRef}
use Rattle.cjc_verified_proof.specs.CapRead.declared.tree.PoolEntry.TheVariants as entries
use Rattle.cjc_verified_proof.specs.CapRead.declared.tree.StaticRef.{StaticRef}
use Rattle.cjc_verified_proof.specs.ClassFile.declared.tree.ClassTree.{ClassTree}
use Rattle.cjc_verified_proof.specs.Components.Names.{class_at, class_ref, field_ref, field_token, names}
use Rattle.cjc_verified_proof.specs.Components.Package.{Package, world}
use Rattle.cjc_verified_proof.specs.Components.Statics.{cell_offset}
use Rattle.cjc_verified_proof.specs.JvmSemantics.OnePackage.{of_class}
use Rattle.cjc_verified_proof.specs.List.Listed.{ListTree}
use Rattle.cjc_verified_proof.specs.NCode.Lowering.Naming.{Holds}
use Rattle.cjc_verified_proof.specs.NCode.declared.narrow.PoolKey.{PoolKey}
use Rattle.cjc_verified_proof.specs.NCode.declared.narrow.PoolKey.TheVariants as keys
use Rattle.cjc_verified_proof.specs.Narrow.Rows.Resolved.{constant_named, resolved_field}
use Rattle.cjc_verified_proof.specs.Script.Sorts.{Shape, field_sort, reference_to, shape_named, sort_by, sort_of}
use Rattle.cjc_verified_proof.specs.Script.Sorts.{sort_or_none}
use Rattle.cjc_verified_proof.specs.TokenProof.Tables.Loading.{naming}
use Rattle.cjc_verified_proof.specs.TokenProof.Tables.Sound.{IsSound as FilesAreSound}
use Rattle.cjc_verified_proof.specs.Verify.Described.{described_spots}
use Rattle.cjc_verified_proof.specs.Verify.Named.{is_outside, is_static_outside}
use Rattle.cjc_verified_proof.specs.Verify.Pairs.{Pair}
use Rattle.cjc_verified_proof.specs.World.Classes.{Class, Member}
use Rattle.cjc_verified_proof.specs.World.Order.{class_order}
use Rattle.cjc_verified_proof.specs.WorldProof.Calls.Solid.{IsSolid}
use Rattle.cjc_verified_proof.proofs.TokenProofOrder.{order_has, own_names}
use Rattle.cjc_verified_proof.proofs.TokenProofClean.{has_named}
use Rattle.cjc_verified_proof.proofs.TokenProofStarts.{ref_is_start}
use Rattle.cjc_check_proof.specs.Classes.Premises.{TypesAreKnown}
use Rattle.cjc_check_proof.specs.NarrowProof.Selection.Rows.{is_word_sort}
use Rattle.cjc_check_proof.specs.Types.Types.{is_void, parts}
use Rattle.cjc_narrow_proof.specs.Laws.Unbroken.{IsInsnOf, KeepsNames}
use Rattle.cjc_narrow_proof.specs.Runs.Names.{IsWordField}
use Rattle.cjc_narrow_proof.specs.Tables.Names.{IsDesc}
use Rattle.cjc_narrow_proof.proofs.LawsLaws.Instructions.{field_there, op_there}
use Rattle.cjc_token_proof.specs.Subset.Ints.{works_on_int}
use Rattle.cjc_token_proof.specs.Subset.Types.{is_int_desc}
use Rattle.cjc_accepted_proof.specs.CardActs.CardTypes.{ValueType, is_moved_by}
use Rattle.cjc_accepted_proof.specs.CardActs.CardTypes as types
use Rattle.cjc_accepted_proof.specs.Carded.{EntriesAreNamed}
use Rattle.cjc_accepted_proof.specs.Coded.{card_type, is_of}
use Rattle.cjc_accepted_proof.specs.Frames.{FieldFits, IsTypeFor, PassesFor, SubtypesAgree}
use Rattle.cjc_accepted_proof.specs.Members.{StaticFits}
use Rattle.cjc_accepted_proof.specs.Served.{entry_for, letter_of, type_for}
use Rattle.cjc_accepted_proof.specs.Written.{written_pair}
use Rattle.cjc_theorem.proofs.AlikeLaws.MetLaws.KeySources.{IsMet, of_field, of_static}
use Rattle.cjc_theorem.proofs.AlikeLaws.MetLaws.Own.{declared_by, field_own}
use Rattle.cjc_theorem.proofs.AlikeLaws.NamedLaws.Members.{NamesField, field_named, static_named, static_own}
use Rattle.cjc_theorem.proofs.WholeRuns.Objects.{own_field_word}
use Rattle.cjc_theorem.specs.LowerJudge.Rules.{settings_of}
use Rattle.cjc_shape_proof.proofs.FindsLaws.Descs.{parts_are}
use Rattle.cjc_verify.specs.ClassTypes.{class_type}
use Rattle.cjc_shape_proof.proofs.WrittenLaws.Checked.{field_descs, files_sound, own_names as names_kept}
use Rattle.cjc_shape_proof.proofs.WrittenLaws.Checked.{own_solid, read_files}
use Rattle.cjc_theorem.specs.ShapeProof.Written.Checked.{IsOfFiles}
use Rattle.cjc_theorem.proofs.VTableFiled.{has-get}
use Rattle.cjc_accepted_theorem.specs.NamesDesc.{NamesItsDesc}
use Rattle.cjc_accepted_theorem.proofs.EntriesLaws.{own_ref}
use Rattle.cjc_accepted_theorem.proofs.PassedLaws.{class_passes, own_inside}
use Rattle.cjc_accepted_theorem.proofs.TypedLaws.{EntrySays, entry_says, field_fits, part_value}

-- the letter of a type moves the card's type of it
moved_for : (card : List ℕ → Option (List ℕ)) (k : Kind) (class : List ℕ) (t : ValueType)
    → is_word_sort (sort_by k class) ≡ true → IsTypeFor card k class t → is_moved_by (letter_of (sort_by k class)) t
    ≡ true
moved_for card kinds.Bool class types.Boolean e h = refl
moved_for card kinds.Bool class types.Void e h = absurd h
moved_for card kinds.Bool class types.Byte e h = absurd h
moved_for card kinds.Bool class types.Short e h = absurd h
moved_for card kinds.Bool class types.Int e h = absurd h
moved_for card kinds.Bool class (types.Reference type) e h = absurd h
moved_for card kinds.Byte class types.Byte e h = refl
moved_for card kinds.Byte class types.Void e h = absurd h
moved_for card kinds.Byte class types.Boolean e h = absurd h
moved_for card kinds.Byte class types.Short e h = absurd h
moved_for card kinds.Byte class types.Int e h = absurd h
moved_for card kinds.Byte class (types.Reference type) e h = absurd h
moved_for card kinds.Short class types.Short e h = refl
moved_for card kinds.Short class types.Void e h = absurd h
moved_for card kinds.Short class types.Boolean e h = absurd h
moved_for card kinds.Short class types.Byte e h = absurd h
moved_for card kinds.Short class types.Int e h = absurd h
moved_for card kinds.Short class (types.Reference type) e h = absurd h
moved_for card kinds.Int class t e h = absurd cc
moved_for card kinds.Other class t e h = absurd cc
moved_for card kinds.Void class t e h = absurd cc
moved_for card kinds.Ref class (types.Reference type) e h = by (shape_named class)
  where
    by : (o : Option (Shape (List ℕ))) → is_moved_by (letter_of (reference_to o)) (types.Reference type) ≡ true
    by None = refl
    by (Some s) = refl
moved_for card kinds.Ref class types.Void e h = absurd h
moved_for card kinds.Ref class types.Boolean e h = absurd h
moved_for card kinds.Ref class types.Byte e h = absurd h
moved_for card kinds.Ref class types.Short e h = absurd h
moved_for card kinds.Ref class types.Int e h = absurd h

module _ (list : ListTree) (codes : List MethodCode) (p : Package) (is : IsOfFiles list codes p)
    (subtypes : SubtypesAgree (card_type p) (is_of p) (world p)) (described : described_spots (written_pair p) ≡ [])
    (named : EntriesAreNamed p) (known : TypesAreKnown p)
    (met : (key : PoolKey) → IsMet p.files codes key → NamesItsDesc p key) where
  abbrev w : List Class
  w = world p

  abbrev q : Pair
  q = written_pair p

  abbrev u : KeepsNames list.name p.files codes (settings_of list)
  u = names_kept list codes p is.checked

  abbrev solid : IsSolid p.files
  solid = own_solid list codes p is.checked

  abbrev sound : FilesAreSound list.name p.files
  sound = files_sound list codes p is.checked

  module _ (id : MemberId) (static : Bool) (n : NamesField list.name p.files codes (settings_of list) u solid id static)
      (own : (let d = n.owner in d.is_imported) ≡ false) where
    -- the descriptor of a field that is declared in the package is no method's
    desc_of_field : IsDesc id.desc × ((let d = parts id.desc in d.is_method) ≡ false)
    desc_of_field =
        let d = n.owner in
        let at = n.at in
        let t = declared_by list codes p is d n.named own at.place at.member at.is_member in
        let x = t.tree in
        let f = field_descs list codes p is.checked d.number at.place t.file x t.is_file t.in_file in
        let its = parts_are x.desc f.parts f.short f.is_desc in
        let same : f.parts ≡ parts x.desc = same_some (sym f.is_desc ∙ its) in
        subst (λ v. IsDesc v × ((let q = parts v in q.is_method) ≡ false)) (sym (ap (λ (v : Member). v.desc) t.same)
        ∙ at.has_desc) (its, ap (λ (q : Parts). q.is_method) (sym same) ∙ f.is_field)

    -- where it is not int, it is of one word
    word_of : is_int_desc id.desc ≡ false → IsWordField id.desc
    word_of no_int =
        let d = n.owner in
        let at = n.at in
        let t = declared_by list codes p is d n.named own at.place at.member at.is_member in
        let x = t.tree in
        let same : x.desc ≡ id.desc = sym (ap (λ (v : Member). v.desc) t.same) ∙ at.has_desc in
        subst IsWordField same (own_field_word list.name p.files codes (settings_of list) u.checks (read_files list
        codes p is.checked) d.number at.place t.file x t.is_file t.in_file (ap is_int_desc same ∙ no_int))

  -- ---- what is named, of whatever type

  -- what the entry of the key of a field says
  pub record FieldEntry (id g : MemberId) : Type 0 where
    pub class : ClassRef
    pub token : ℕ
    pub entry : entry_for q (names p) (keys.Field g) ≡ Some (entries.InstanceFieldref class token)
    pub says : EntrySays p (keys.Field g) id.desc
    pub receiver : PassesFor (card_type p) (is_of p) w id.class (class_type class)
    pub inside : is_outside class ≡ false
    pub is_desc : IsDesc id.desc
    pub is_field : (let d = parts id.desc in d.is_method) ≡ false

  pub record StaticEntry (id g : MemberId) : Type 0 where
    pub field : StaticRef
    pub entry : entry_for q (names p) (keys.StaticField g) ≡ Some (entries.StaticFieldref field)
    pub says : EntrySays p (keys.StaticField g) id.desc
    pub inside : is_static_outside field ≡ false
    pub is_desc : IsDesc id.desc
    pub is_field : (let d = parts id.desc in d.is_method) ≡ false

  pub field_entry : (class : ClassTree) (put : Bool) (id : MemberId) → IsInsnOf p.files codes class (jop.Field put id)
      → Holds (naming p) (keys.Field (resolved_field w id)) → FieldEntry id (resolved_field w id)
  field_entry class put id of holds =
      let n = field_named list.name p.files codes (settings_of list) u solid class put id of in
      let own = field_own list codes p is id n in
      let its = met (keys.Field (resolved_field w id)) (of_field class put id of) in
      subst (FieldEntry id) (sym n.resolved) (made n own (subst (λ (g : MemberId). Holds (naming p) (keys.Field g))
      n.resolved holds) (subst (λ (g : MemberId). NamesItsDesc p (keys.Field g)) n.resolved its))
    where
      made : (n : NamesField list.name p.files codes (settings_of list) u solid id false)
          → (let d = n.owner in d.is_imported) ≡ false
          → Holds (naming p) (keys.Field (of_class (let d = n.owner in d.name) id))
          → NamesItsDesc p (keys.Field (of_class (let d = n.owner in d.name) id))
          → FieldEntry id (of_class (let d = n.owner in d.name) id)
      made n own held its =
          let d = n.owner in
          let g = of_class d.name id in
          let ok = op_there list.name p.files codes (settings_of list) u class (jop.Field put id) of in
          let there = field_there p.files class put id ok.0 ok.1 in
          let desc = desc_of_field id false n own in
          record {
            class = class_ref p d.name;
            token = field_token p g;
            entry = held.there;
            says = entry_says p described named known (keys.Field g) held id.desc its.0;
            receiver = class_passes list codes p is subtypes id.class d.name there.0 d there.2 n.named n.below;
            inside = own_inside list codes p is d.name d n.named own;
            is_desc = desc.0;
            is_field = desc.1;
          }

  pub static_entry : (class : ClassTree) (put : Bool) (id : MemberId) → IsInsnOf p.files codes class (jop.Static put id)
      → constant_named p.files w id ≡ None → Holds (naming p) (keys.StaticField (resolved_field w id))
      → StaticEntry id (resolved_field w id)
  static_entry class put id of none holds =
      let n = static_named list.name p.files codes (settings_of list) u solid class put id of in
      let own = static_own list.name p.files codes (settings_of list) u solid id n none in
      let its = met (keys.StaticField (resolved_field w id)) (of_static class put id of none) in
      subst (StaticEntry id) (sym n.resolved) (made n own (subst (λ (g : MemberId). Holds (naming p) (keys.StaticField
      g)) n.resolved holds) (subst (λ (g : MemberId). NamesItsDesc p (keys.StaticField g)) n.resolved its))
    where
      made : (n : NamesField list.name p.files codes (settings_of list) u solid id true)
          → (let d = n.owner in d.is_imported) ≡ false
          → Holds (naming p) (keys.StaticField (of_class (let d = n.owner in d.name) id))
          → NamesItsDesc p (keys.StaticField (of_class (let d = n.owner in d.name) id))
          → StaticEntry id (of_class (let d = n.owner in d.name) id)
      made n own held its =
          let d = n.owner in
          let g = of_class d.name id in
          let apart = own_names list.name p.files sound in
          let place = has-get d (class_order w) (order_has list.name p.files sound d (has_named w d.name d n.named) own)
          in
          let start = ref_is_start p apart place.0 d place.1 in
          let desc = desc_of_field id true n own in
          record {
            field = field_ref p g;
            entry = held.there;
            says = entry_says p described named known (keys.StaticField g) held id.desc its.0;
            inside = ap is_static_outside (own_ref (class_at p d.name) start.0 (cell_offset p.image g) (field_token p g)
                start.2);
            is_desc = desc.0;
            is_field = desc.1;
          }

  -- ---- where it is of one word

  -- what is said of the key of a field
  pub record FieldAt (id g : MemberId) : Type 0 where
    pub class : ClassRef
    pub token : ℕ
    pub entry : entry_for q (names p) (keys.Field g) ≡ Some (entries.InstanceFieldref class token)
    pub fits : FieldFits (card_type p) (is_of p) w id (letter_of (field_sort id.desc)) class (let t = type_for q (names
        p)
        (keys.Field g) in t.result)
    pub is_value : (let d = parts id.desc in let v = d.result in is_void v.kind) ≡ false

  pub record StaticAt (id g : MemberId) : Type 0 where
    pub field : StaticRef
    pub entry : entry_for q (names p) (keys.StaticField g) ≡ Some (entries.StaticFieldref field)
    pub fits : StaticFits (card_type p) id (letter_of (field_sort id.desc)) field (let t = type_for q (names p)
        (keys.StaticField g) in t.result)
    pub is_value : (let d = parts id.desc in let v = d.result in is_void v.kind) ≡ false

  -- what the letter of a type of one word moves
  moved : (id : MemberId) → IsWordField id.desc → (t : ValueType) → (let d = parts id.desc in let r = d.result
      in IsTypeFor (card_type p) r.kind r.class t) → (is_moved_by (letter_of (field_sort id.desc)) t ≡ true)
      × ((let d = parts id.desc in let v = d.result in is_void v.kind) ≡ false)
  moved id word t typed =
      let x = parts id.desc in
      let r = x.result in
      let sort : field_sort id.desc ≡ sort_of r = ap sort_or_none word.is_desc in
      let one : is_word_sort (sort_of r) ≡ true = ap is_word_sort (sym sort) ∙ word.one_word in (
        ap (λ s. is_moved_by (letter_of s) t) sort ∙ moved_for (card_type p) r.kind r.class t one typed,
        part_value p r one,
      )

  pub field_at : (class : ClassTree) (put : Bool) (id : MemberId) → IsInsnOf p.files codes class (jop.Field put id)
      → works_on_int (jop.Field put id) ≡ false
      → Holds (naming p) (keys.Field (resolved_field w id)) → FieldAt id (resolved_field w id)
  unfolding works_on_int
  field_at class put id of free holds =
      let g = resolved_field w id in
      let n = field_named list.name p.files codes (settings_of list) u solid class put id of in
      let e = field_entry class put id of holds in
      let word = word_of id false n (field_own list codes p is id n) free in
      let t = type_for q (names p) (keys.Field g) in
      let typed = field_fits p (keys.Field g) id e.says word in
      let its = moved id word t.result typed in
      record {
        class = e.class;
        token = e.token;
        entry = e.entry;
        fits = record { receiver = e.receiver; typed = typed; moved = its.0; inside = e.inside };
        is_value = its.1;
      }

  pub static_at : (class : ClassTree) (put : Bool) (id : MemberId) → IsInsnOf p.files codes class (jop.Static put id)
      → works_on_int (jop.Static put id) ≡ false → constant_named p.files w id ≡ None
      → Holds (naming p) (keys.StaticField (resolved_field w id)) → StaticAt id (resolved_field w id)
  unfolding works_on_int
  static_at class put id of free none holds =
      let g = resolved_field w id in
      let n = static_named list.name p.files codes (settings_of list) u solid class put id of in
      let e = static_entry class put id of none holds in
      let word = word_of id true n (static_own list.name p.files codes (settings_of list) u solid id n none) free in
      let t = type_for q (names p) (keys.StaticField g) in
      let typed = field_fits p (keys.StaticField g) id e.says word in
      let its = moved id word t.result typed in
      record {
        field = e.field;
        entry = e.entry;
        fits = record { typed = typed; moved = its.0; inside = e.inside };
        is_value = its.1;
      }
