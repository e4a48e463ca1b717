-- Fields that are found stand among those of the class that declares them: instance fields among its own, static ones
-- that are
-- no constants among the package's cells.
use Rattle.std.proofs.Common.{◌≡◌, ℕ, zero, suc, refl, sym, ap, subst, ◌∙◌, Bool, true, false, not, List, [], ◌∷◌}
use Rattle.std.specs.Prelude.{◌&&◌, ◌||◌, Option, Some, None, is_some, option_and_then, slice_get, if◌then◌else◌, ℤ}
use Rattle.cjc_bytes.specs.AccessFlags.{is_static}
use Rattle.cjc_bytes.specs.declared.fault.MemberId.{MemberId}
use Rattle.cjc_jvm_semantics.specs.OnePackage.{constant_at, instance_fields, member_of, of_class}
use Rattle.cjc_token_proof.proofs.ByToken.Members.{member_same}
use Rattle.cjc_token_proof.specs.ByToken.Cells.{is_one_of}
use Rattle.cjc_token_proof.proofs.WorldProofOwn.{IsFieldAt, mapped_at}
use Rattle.cjc_world.specs.ClassFile.declared.tree.ClassTree.{ClassTree}
use Rattle.cjc_world.specs.ClassFile.declared.tree.FieldTree.{FieldTree}
use Rattle.cjc_token_proof.specs.Clinit.Fields.{is_cell}
use Rattle.cjc_token_proof.specs.Clinit.Image.{field_id}
use Rattle.cjc_world.specs.ExportFile.Members.{may_be_constant}
use Rattle.cjc_ncode.specs.PoolOrder.{same_member}
use Rattle.cjc_token_proof.proofs.TablesLaws.Groups.{chosen_has, statics_are}
use Rattle.cjc_token_proof.specs.Tables.Known.{is_field_of, statics_of}
use Rattle.cjc_vtable.proofs.Filed.{IsFiled, in_class_file, in_export_file}
use Rattle.cjc_world.specs.declared.found.Found.{Found}
use Rattle.cjc_world.specs.Classes.{Class, Member, field_of_class}
use Rattle.cjc_world.specs.Files.{Files}

-- ---- of objects

one_of_objects : (class : List ℕ) (ms : List Member) (i : ℕ) (g : Member) → slice_get ms i ≡ Some g
    → is_static g.flags ≡ false → is_one_of (member_of class g) (instance_fields class ms) ≡ true
one_of_objects class [] i g e h = cc
one_of_objects class (f ∷ ms) zero g e h =
    let same : f ≡ g = cc in
    subst (λ (v : Member). is_one_of (member_of class g) (if is_static v.flags then instance_fields class ms
    else member_of class v ∷ instance_fields class ms) ≡ true) (sym same) (first (is_static g.flags) h)
  where
    first : (b : Bool) → b ≡ false → is_one_of (member_of class g) (if b then instance_fields class ms
        else member_of class g ∷ instance_fields class ms) ≡ true
    first true h = cc
    first false h = ap (λ q. q || is_one_of (member_of class g) (instance_fields class ms))
        (member_same (member_of class g))
one_of_objects class (f ∷ ms) (suc i) g e h = skip (is_static f.flags) (one_of_objects class ms i g e h)
  where
    later : (a b : Bool) → b ≡ true → (a || b) ≡ true
    later true b r = refl
    later false b r = r

    skip : (b : Bool) → is_one_of (member_of class g) (instance_fields class ms) ≡ true
        → is_one_of (member_of class g) (if b then instance_fields class ms else member_of class f
        ∷ instance_fields class ms) ≡ true
    skip true r = r
    skip false r = later (same_member (member_of class f) (member_of class g)) (is_one_of (member_of class g)
        (instance_fields class ms)) r

-- a member as it is named
as_named : (class : List ℕ) (id : MemberId) (name desc : List ℕ) → name ≡ id.name → desc ≡ id.desc
    → ◌≡◌ {A = MemberId} (record { class = class; name = name; desc = desc }) (of_class class id)
as_named class id name desc e g = ap (λ (n : List ℕ). record { class = class; name = n; desc = desc }) e
    ∙ ap (λ (d : List ℕ). record { class = class; name = id.name; desc = d }) g

-- an instance field is one of the class that declares it
pub object_field : (id : MemberId) (d : Class) (f : Found) (at : IsFieldAt id.name id.desc d f)
    → is_static (let m = at.member in m.flags) ≡ false → is_field_of (of_class d.name id) (Some d) ≡ true
object_field id d f at plain =
    by d.is_imported
    (subst (λ m. is_one_of m (instance_fields d.name d.fields) ≡ true) (as_named d.name id (let m = at.member
    in m.name) (let m = at.member in m.desc) at.has_name at.has_desc)
    (one_of_objects d.name d.fields at.place at.member at.is_member plain))
  where
    by : (b : Bool) → is_one_of (of_class d.name id) (instance_fields d.name d.fields) ≡ true
        → (b || is_one_of (of_class d.name id) (if b then [] else instance_fields d.name d.fields)) ≡ true
    by true e = refl
    by false e = e

-- ---- static ones

cell_is : (f : FieldTree) → is_static f.flags ≡ true → (if may_be_constant f.flags f.desc then f.constant else None)
    ≡ None → is_cell f ≡ true
cell_is f static none = ap (λ b. b && not (may_be_constant f.flags f.desc && is_some f.constant)) static
    ∙ ap not (no_value (may_be_constant f.flags f.desc) f.constant none)
  where
    no_value : (b : Bool) (o : Option ℤ) → (if b then o else None) ≡ None → (b && is_some o) ≡ false
    no_value true None e = refl
    no_value true (Some z) e = cc
    no_value false o e = refl

-- a static field of the package that is no constant is one of those with cells
pub static_field : (files : Files) (id : MemberId) (d : Class) → IsFiled files d → d.is_imported ≡ false
    → (f : Found) (at : IsFieldAt id.name id.desc d f) → is_static (let m = at.member in m.flags) ≡ true
    → constant_at files f ≡ None
    → is_one_of (of_class d.name id) (statics_of files.classes) ≡ true
static_field files id _ (in_export_file n t e) own f at static none = cc
static_field files id _ (in_class_file n t e) own f at static none =
    let x = mapped_at field_of_class t.fields at.place at.member at.is_member in
    let value : (if may_be_constant x.0.flags x.0.desc then x.0.constant else None) ≡ None =
    sym (ap (option_and_then (λ (c : ClassTree). option_and_then (λ (g : FieldTree). if may_be_constant g.flags g.desc
    then g.constant else None) (slice_get c.fields at.place))) e
    ∙ ap (option_and_then (λ (g : FieldTree). if may_be_constant g.flags g.desc then g.constant else None)) x.1)
    ∙ ap (constant_at files) (sym at.is) ∙ none in
    let cell = cell_is x.0 (ap (λ (m : Member). is_static m.flags) (sym x.2) ∙ static) value in
    subst (λ m. is_one_of m (statics_of files.classes) ≡ true) (as_named t.name id x.0.name x.0.desc
    (ap (λ (m : Member). m.name) (sym x.2) ∙ at.has_name) (ap (λ (m : Member). m.desc) (sym x.2) ∙ at.has_desc))
    (ap (is_one_of (field_id t.name x.0)) (statics_are 0 files.classes)
    ∙ chosen_has (λ n k f. is_cell f) 0 files.classes n t at.place x.0 e x.1 cell)
