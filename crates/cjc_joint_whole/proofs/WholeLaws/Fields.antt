-- A field of objects that code of a package names is the same in the joint world, and each object there that may be its
-- receiver has it.
use Rattle.std.proofs.Common.{◌≡◌, ℕ, ◌&&◌, ◌||◌, Bool, true, false, List, [], ◌∷◌, Option, Some, None, refl, sym, ap}
use Rattle.std.proofs.Common.{subst, ◌∙◌, inl, inr, ⊎_elim}
use Rattle.std.specs.Prelude.{slice_get}
use Rattle.std.specs.List.{list_all}
use Rattle.cjc_bytes.specs.AccessFlags.{is_interface, is_static}
use Rattle.cjc_bytes.specs.declared.fault.MemberId.{MemberId}
use Rattle.cjc_bytes.proofs.Bools.{true_not_false, true_or_false}
use Rattle.cjc_jvm_semantics.specs.Linked.{Method, ResolvedField}
use Rattle.cjc_jvm_semantics.specs.Group.{joint_image}
use Rattle.cjc_jvm_semantics.specs.OnePackage.{field_named, member_of as member_in, object_fields, of_class}
use Rattle.cjc_world.specs.ClassFile.declared.tree.ClassTree.{ClassTree}
use Rattle.cjc_world.specs.Classes.{Class, all_classes, field_of_class}
use Rattle.cjc_world.specs.Files.{Files}
use Rattle.cjc_world.specs.Lookup.{object, receiver}
use Rattle.cjc_world.specs.Subtype.{is_subtype, starts}
use Rattle.cjc_world.specs.Upwards.{Below, Has}
use Rattle.cjc_world.proofs.Cycles.{above-class}
use Rattle.cjc_world.proofs.Subtypes.{transitive}
use Rattle.cjc_world.proofs.UpwardLaws.Lines.{below_on}
use Rattle.cjc_shape_proof.proofs.FindsLaws.Fields.{lists_has}
use Rattle.cjc_shape_proof.proofs.FindsLaws.Receivers.{made_class, plain_class}
use Rattle.cjc_narrow_proof.specs.NCode.ByLabel.{Named}
use Rattle.cjc_narrow_proof.specs.Script.Sorts.{Booleans, Bytes, Ints, OfClass, OfNumbers, OfReferences, Shape, Shorts}
use Rattle.cjc_narrow_proof.specs.Script.Sorts.{shape_name, shape_named}
use Rattle.cjc_narrow_proof.specs.Selection.Relation.{HasObjects, IsMadeOf, bare, made}
use Rattle.cjc_narrow_proof.specs.Selection.Replies.{is_of_some}
use Rattle.cjc_narrow_proof.specs.Selection.Rows.{HasField, lists}
use Rattle.cjc_narrow_proof.specs.Tables.Kinds.{is_named, is_one_of}
use Rattle.cjc_narrow_proof.proofs.TablesLaws.Spelt.{shape_spelt}
use Rattle.cjc_token_proof.proofs.WorldProofTypes.{receiver_class, type_below}
use Rattle.cjc_joint_proof.specs.Worlds.{IsOwn}
use Rattle.cjc_joint_proof.proofs.AboveLaws.{above_stays}
use Rattle.cjc_joint_proof.proofs.MemberLaws.{field_resolves}
use Rattle.cjc_joint_proof.proofs.SoundLaws.{apart, listed}
use Rattle.cjc_joint_theorem.specs.Asked.{group_named}
use Rattle.cjc_joint_theorem.specs.Members.{Member, files_of, home_by, homes_of, images_of, member_of, number_of}
use Rattle.cjc_joint_theorem.specs.Members.{tables_of}
use Rattle.cjc_joint_theorem.specs.Together.Homes.{Home, files_for, group_look_ups, joint_world}
use Rattle.cjc_joint_theorem.specs.Together.Names.{IsFieldIn}
use Rattle.cjc_joint_theorem.proofs.MembersLaws.Worlds.{files_at}
use Rattle.cjc_joint_theorem.proofs.OrderedLaws.Fields.{no_array, not_abroad, objects_have}
use Rattle.cjc_joint_whole.specs.Whole.{AreWholeWith}
use Rattle.cjc_joint_whole.proofs.WholeLaws.Imports.{imports_told}
use Rattle.cjc_joint_whole.proofs.WholeLaws.Known.{IsKnown}
use Rattle.cjc_joint_whole.proofs.WholeLaws.Members.{ordered_together, plain_together, supers_together}
use Rattle.cjc_joint_whole.proofs.WholeLaws.Solid.{solid_at}

-- ---- types

pub all_below : (P Q : List ℕ → Bool) → ((x : List ℕ) → P x ≡ true → Q x ≡ true) → (xs : List (List ℕ)) → list_all P xs
    ≡ true → list_all Q xs ≡ true
all_below P Q under [] e = refl
all_below P Q under (x ∷ xs) e = by (P x) (Q x) (under x) e (all_below P Q under xs)
  where
    by : (a b : Bool) → (a ≡ true → b ≡ true) → (a && list_all P xs) ≡ true → (list_all P xs ≡ true
        → list_all Q xs ≡ true) → (b && list_all Q xs) ≡ true
    by true true f e rest = rest e
    by true false f e rest = absurd (true_not_false true refl (sym (f refl)))
    by false b f e rest = absurd cc

-- what is of one of some types is of each class that all of them are of
module _ (w : List Class) (l : Named) (subtypes : (a b : Shape (List ℕ)) → l.is_of a b
    ≡ is_subtype w (shape_name a) (shape_name b)) where
  one_named : (name : List ℕ) (kind : Shape (List ℕ)) → is_named l name kind ≡ true
      → is_subtype w (shape_name kind) name ≡ true
  one_named name kind e = by (shape_named name) refl e
    where
      by : (o : Option (Shape (List ℕ))) → shape_named name ≡ o → is_of_some l kind o ≡ true
          → is_subtype w (shape_name kind) name ≡ true
      by None f e = absurd cc
      by (Some shape) f e = ap (is_subtype w (shape_name kind)) (sym (shape_spelt name shape f))
          ∙ sym (subtypes kind shape) ∙ e

  pub named_of : (class : List ℕ) (names : List (List ℕ)) (kind : Shape (List ℕ))
      → list_all (λ name. is_subtype w name class) names ≡ true → is_one_of l names kind ≡ true
      → is_subtype w (shape_name kind) class ≡ true
  named_of class [] kind all e = absurd cc
  named_of class (name ∷ names) kind all e = by (is_named l name kind) (is_subtype w name class) refl refl all e
      (named_of class names kind)
    where
      by : (a b : Bool) → is_named l name kind ≡ a → is_subtype w name class ≡ b
          → (b && list_all (λ name. is_subtype w name class) names) ≡ true → (a || is_one_of l names kind) ≡ true
          → (list_all (λ name. is_subtype w name class) names ≡ true → is_one_of l names kind ≡ true
          → is_subtype w (shape_name kind) class ≡ true) → is_subtype w (shape_name kind) class ≡ true
      by true true f g all e rest = transitive w (shape_name kind) name class (one_named name kind f) g
      by false true f g all e rest = rest all e
      by a false f g all e rest = absurd cc

-- ---- of a method of a package

module _ {K : _} (members : List Member) (is : AreWholeWith K members) (p : Member) (m : Method)
    (at : member_of members m ≡ Some p)
  where
    abbrev group : List Files
    group = files_of members

    abbrev w : List Class
    w = joint_world group

    abbrev v : List Class
    v = all_classes p.files

    abbrev q : ℕ
    q = number_of members m

    abbrev l : Named
    l = group_look_ups group (joint_image (images_of members)) (homes_of members) (tables_of members)

    pub files_are : files_for (homes_of members) m ≡ p.files
    files_are = ap (λ (h : Home). h.files) (ap (home_by q) at)

    member_is : slice_get group q ≡ Some p.files
    member_is = files_at members q p at

    own_is : (id : MemberId) (static : Bool) (k : IsKnown p.files id static) → IsOwn group q k.number p.files k.class
    own_is id static k = record { member = member_is; file = k.is_class }

    -- the joint world has the field that the package has
    pub same_field : (id : MemberId) (static : Bool) (k : IsKnown p.files id static) (f : ResolvedField)
        → field_named p.files v id ≡ Some f → IsFieldIn group (files_for (homes_of members) m) id f
    same_field id static k f named = subst (λ files. IsFieldIn group files id f) (sym files_are) (record {
      own = named;
      together = field_resolves group (apart group is.sound) q k.number p.files k.class (own_is id static k)
          (listed group is.sound q k.number p.files k.class (own_is id static k)) id k.place k.own k.found ∙ named;
    })

    -- ---- objects

    module _ (id : MemberId) (k : IsKnown p.files id false) where
      abbrev t : ClassTree
      t = k.class

      ground : is_interface (let c = t in c.flags) ≡ false
      ground = ⊎_elim (λ yes. absurd (true_not_false (is_static (let f = k.field in f.flags))
          (let s = solid_at members is q p at in s.fields k.number k.at k.class k.field k.is_class k.is_field yes)
          k.kind)) (λ no. no) (true_or_false (is_interface (let c = t in c.flags)))

      open_name : starts 91 id.class ≡ false
      open_name = let s = solid_at members is q p at in ⊎_elim
          (λ same. ap (starts 91) same ∙ s.plain (let c = t in c.name) _ k.named)
          (λ far. let c = above-class v id.class (let c = t in c.name) far in s.plain id.class c.0 c.1)
          k.below

      below_in : Below w id.class (let c = t in c.name)
      below_in = ⊎_elim (λ same. inl same) (λ far. inr (above_stays group (apart group is.sound) is.outside (imports_told members is) q
          p.files member_is id.class (let c = t in c.name) far)) k.below

      subtypes : (a b : Shape (List ℕ)) → l.is_of a b ≡ is_subtype w (shape_name a) (shape_name b)
      unfolding group_named
      subtypes a b = refl

      keeps : (cls : List ℕ) → Below w cls (let c = t in c.name) → (fields : List MemberId) → HasObjects l cls fields
          → lists fields (of_class (let c = t in c.name) id) ≡ true
      unfolding group_named
      keeps cls below fields (bare none e) =
          let c = plain_class w cls cls e in
          absurd (true_not_false (let d = c.class in d.is_imported) c.imported (not_abroad group (ordered_together
          members is) q k.number p.files k.class (own_is id false k) ground cls c.class c.found below))
      keeps cls below fields (made e) =
          let c = made_class w cls fields e in
          let f = k.field in
          let has = objects_have group (ordered_together members is) q k.number p.files k.class (own_is id false k)
          ground k.at f k.is_field k.kind cls c.class c.found c.no_interface below in
          let same : member_in (let c = t in c.name) (field_of_class f) ≡ of_class (let c = t in c.name) id =
          ap (λ n. record { class = (let c = t in c.name); name = n; desc = f.desc }) k.has_name
          ∙ ap (λ n. record { class = (let c = t in c.name); name = id.name; desc = n }) k.has_desc in
          lists_has (of_class (let c = t in c.name) id) fields (subst (Has (of_class (let c = t in c.name) id))
          (sym c.fields_are) (subst (λ g. Has g (object_fields w cls)) same has))

      no_object : Below w object id.class → ⊥
      no_object below = no_array group (ordered_together members is) q k.number p.files k.class (own_is id false k)
          ground (below_on w object id.class (let c = t in c.name) below below_in)

      of_kind : (kind : Shape (List ℕ)) → Below w (receiver (shape_name kind)) id.class → IsMadeOf l kind
          → HasField l (of_class (let c = t in c.name) id) kind
      unfolding group_named
      of_kind (OfClass cls) below one = record {
        class = cls;
        is_class = refl;
        has = λ fields objects. keeps cls (below_on w cls id.class (let c = t in c.name) (subst (λ x. Below w x
            id.class) (name_is objects) below) below_in) fields objects;
      }
        where
          name_is : {fields : List MemberId} → HasObjects l cls fields → receiver cls ≡ cls
          name_is {fields = fields} (made e) = let c = made_class w cls fields e
              in receiver_class cls (plain_together members is cls c.class c.found)
          name_is {fields = fields} (bare none e) = let c = plain_class w cls cls e
              in receiver_class cls (plain_together members is cls c.class c.found)
      of_kind (OfNumbers Booleans) below one = absurd (no_object below)
      of_kind (OfNumbers Bytes) below one = absurd (no_object below)
      of_kind (OfNumbers Shorts) below one = absurd (no_object below)
      of_kind (OfNumbers Ints) below one = absurd (no_object below)
      of_kind (OfReferences class) below one = absurd (no_object below)

      pub has_field : (names : List (List ℕ)) → list_all (λ name. is_subtype v name id.class) names ≡ true
          → (kind : Shape (List ℕ)) → is_one_of l names kind ≡ true → IsMadeOf l kind
          → HasField l (of_class (let c = t in c.name) id) kind
      has_field names all kind one made_one =
          let stays = all_below (λ name. is_subtype v name id.class) (λ name. is_subtype w name id.class)
          (λ name e. supers_together members is q p.files member_is name id.class e) names all in
          of_kind kind (type_below w (shape_name kind) id.class open_name (named_of w l subtypes id.class names kind
          stays one)) made_one
