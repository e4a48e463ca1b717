-- The look-ups of several packages that run together: a name is looked up in the world of the package that asks, and
-- what is
-- found there of another package of the group is that package's own member.
use Rattle.std.specs.Prelude.{ℕ, ◌+◌, List, [], ◌∷◌, ◌++◌, length, map, position, Option, Some, None, option_map}
use Rattle.std.specs.Prelude.{option_and_then, is_some, Bool, true, false, not, ◌==◌, ◌&&◌, ◌||◌, if◌then◌else◌, ℤ}
use Rattle.std.specs.List.{find, flat_map, list_any}
use Rattle.std.specs.Str.{bytes_eq}
use Rattle.cjc_code.specs.Bytes.declared.fault.MemberId.{MemberId}
use Rattle.cjc_code.specs.Bytes.declared.settings.FileLine.{FileLine}
use Rattle.cjc_code.specs.Bytes.AccessFlags.{is_public, is_protected, is_private}
use Rattle.cjc_code.specs.ClassFile.declared.tree.ClassTree.{ClassTree}
use Rattle.cjc_world.specs.ExportFile.declared.tree.ExportTree.{ExportTree}
use Rattle.cjc_script.specs.declared.script.Script.{Script}
use Rattle.cjc_script.specs.declared.report.Report.{Report}
use Rattle.cjc_world.specs.declared.found.Found.{Found}
use Rattle.cjc_world.specs.declared.image.StaticImage.{StaticImage}
use Rattle.cjc_world.specs.Files.{Files}
use Rattle.cjc_world.specs.Classes.{Class, all_classes, class_named}
use Rattle.cjc_world.specs.Supertypes.{supertypes, line}
use Rattle.cjc_world.specs.Interfaces.{gathered, known}
use Rattle.cjc_world.specs.Lookup.{first, or_else, find_field, find_method, own_method, is_called, member_at}
use Rattle.cjc_world.specs.Lookup.{is_selectable, receiver}
use Rattle.cjc_jvm_semantics.specs.Linked.{Method, ResolvedField, Constant, Call, Linked}
use Rattle.cjc_jvm_semantics.specs.OnePackage.{ResolvedMember, Selection, method_hit, field_hit, constant_at, field_by}
use Rattle.cjc_jvm_semantics.specs.OnePackage.{call_by, is_initialiser, made_of, sent_by}
use Rattle.cjc_jvm_semantics.specs.ByName.{linked_by}
use Rattle.cjc_jvm_semantics.specs.Machine

-- ---- the joint world

-- a package of the group has this name
abbrev pub is_of_group : (group : List Files) → (name : List ℕ) → Bool
is_of_group group name = list_any (λ (p : Files). bytes_eq p.package_name name) group

-- one of these export files is of a package of this name
abbrev pub is_among : List ExportTree → (name : List ℕ) → Bool
is_among trees name = list_any (λ (t : ExportTree). bytes_eq t.name name) trees

-- the export files of packages that are not of the group, each once by its name
abbrev pub outside_once : (group : List Files) → (seen : List ExportTree) → List ExportTree → List ExportTree
outside_once group seen [] = []
outside_once group seen (t ∷ trees) =
    if is_of_group group t.name || is_among seen t.name then outside_once group seen trees
    else t ∷ outside_once group (seen ++ t ∷ []) trees

-- the class files of all packages, package by package
abbrev pub joint_classes : (group : List Files) → List ClassTree
joint_classes group = flat_map (λ (p : Files). p.classes) group

-- the export files of what is outside
abbrev pub joint_exports : (group : List Files) → List ExportTree
joint_exports group = outside_once group [] (flat_map (λ (p : Files). p.exports) group)

-- a line of a list
abbrev pub line_of : (class_file : Bool) → FileLine
line_of class_file = record { class_file = class_file; name = [] }

-- the classes of all packages, and those outside
abbrev pub joint : (group : List Files) → Files
joint group = record {
  package_name = [];
  lines = map (λ c. line_of true) (joint_classes group) ++ map (λ t. line_of false) (joint_exports group);
  classes = joint_classes group;
  exports = joint_exports group;
}

-- ---- who asks

-- the package's name: what stands before the last part of a class's name; 47 is /
abbrev pub before_last : (begun : List ℕ) → List ℕ → List ℕ → List ℕ
before_last begun found [] = found
before_last begun found (b ∷ bs) = if b == 47 then before_last (begun ++ b ∷ []) begun bs else before_last (begun
    ++ b ∷ []) found bs

-- the package of a class
abbrev pub package_of : (class : List ℕ) → List ℕ
package_of class = before_last [] [] class

-- the files of the package of a class, where it is of the group
abbrev pub files_of_class : (group : List Files) → (class : List ℕ) → Option Files
files_of_class group class = find (λ (p : Files). bytes_eq p.package_name (package_of class)) group

-- the files of the package that asks have a class
abbrev pub have_class : (asker : Option Files) → (class : List ℕ) → Bool
have_class None class = false
have_class (Some files) class = is_some (class_named (all_classes files) class)

-- for code the files of its package have a class; for a script the joint world has it
abbrev pub knows : (group : List Files) → List Class → (asker : Option (List ℕ)) → (class : List ℕ) → Bool
knows group w None class = is_some (class_named w class)
knows group w (Some holder) class = have_class (files_of_class group holder) class

-- ---- members

-- public or protected
abbrev pub is_exposed : (flags : ℕ) → Bool
is_exposed flags = is_public flags || is_protected flags

-- neither public, protected nor private
abbrev pub is_package_visible : (flags : ℕ) → Bool
is_package_visible flags = not (is_exposed flags) && not (is_private flags)

-- a class's own method of a name and descriptor whose flags pass a test
abbrev pub own_where : (passes : (flags : ℕ) → Bool) → (name desc : List ℕ) → Class → Option Found
own_where passes name desc c =
    option_map (λ i. member_at c (length c.fields + i)) (position (λ m. passes m.flags && is_called name desc m)
    c.methods)

-- the public or protected method that a class declares or inherits
abbrev pub find_exposed : List Class → (class : List ℕ) → MemberId → Option Found
find_exposed w class id =
    or_else (first (own_where is_exposed id.name id.desc) (line w class))
    (first (own_where is_exposed id.name id.desc) (known (gathered false (supertypes w (class ∷ [])))))

-- what a method that a package found in a class of its world is in the joint world
abbrev pub joint_method : List Class → (owner : Class) → MemberId → Option Found
joint_method w owner id =
    option_and_then (λ c. if owner.is_imported && not c.is_imported then find_exposed w owner.name id
    else own_method false id.name id.desc c)
    (class_named w owner.name)

-- ---- selection

-- can be selected and is not package-visible
abbrev pub is_open : (flags : ℕ) → Bool
is_open flags = is_selectable flags && not (is_package_visible flags)

-- a class's own method that can be selected, where the class is of this package
abbrev pub own_within : (package_name name desc : List ℕ) → Class → Option Found
own_within package_name name desc c = if bytes_eq (package_of c.name) package_name
    then own_where is_selectable name desc c else None

-- Selection for a package-visible method passes over the classes of other packages, and for any other over
-- package-visible methods.
abbrev pub selection_for : List Class → ResolvedMember → Selection
selection_for w hit class id =
    let owner = hit.owner in
    if is_package_visible hit.flags
    then first (own_within (package_of owner.name) id.name id.desc) (line w (receiver class))
    else first (own_where is_open id.name id.desc) (line w (receiver class))

-- ---- look-ups of code

-- a call of what the joint world has for a method that was found
abbrev pub joint_call : Files → List Class → (holder : List ℕ) → (op : ℕ) → MemberId → ResolvedMember → Option Call
joint_call files w holder op id found =
    option_and_then (λ f. option_and_then (λ hit. call_by files w (selection_for w hit) holder op id f hit)
    (method_hit w f))
    (joint_method w found.owner id)

-- found in the files of the package that asks
abbrev pub call_from : Files → List Class → (holder : List ℕ) → (op : ℕ) → MemberId → (asker : Files) → Option Call
call_from files w holder op id asker =
    let own = all_classes asker in
    option_and_then (λ f. option_and_then (joint_call files w holder op id) (method_hit own f))
    (find_method own id.class id.name id.desc)

-- none of an initialiser, and none where no package of the group asks
abbrev pub group_call : Files → List Class → (holder : List ℕ) → (op : ℕ) → MemberId → (asker : Option Files)
    → Option Call
group_call files w holder op id asker = if is_initialiser id.name then None else option_and_then (call_from files w
    holder op id) asker

-- the field that the joint world has for one that was found in a class of this name
abbrev pub joint_field : Files → List Class → MemberId → (owner : List ℕ) → Option ResolvedField
joint_field files w id owner =
    option_and_then (λ f. option_map (field_by (constant_at files f) id) (field_hit w f)) (find_field w owner id.name
    id.desc)

-- a constant's value, or another field
abbrev pub or_field : Option ℤ → Option ResolvedField → Option ResolvedField
or_field (Some z) field = Some (Constant z)
or_field None field = field

-- the same for one that is there
abbrev pub joint_field_hit : Files → List Class → MemberId → ResolvedMember → Option ResolvedField
joint_field_hit files w id hit = let owner = hit.owner in joint_field files w id owner.name

-- found in the files of the package that asks
abbrev pub field_from : Files → List Class → MemberId → (asker : Files) → Option ResolvedField
field_from files w id asker =
    let own = all_classes asker in
    option_and_then (λ f. or_field (constant_at asker f) (option_and_then (joint_field_hit files w id)
    (field_hit own f)))
    (find_field own id.class id.name id.desc)

-- ---- what scripts name

-- the method of `send`, by the joint world
abbrev pub group_sent : Files → List Class → (type : List ℕ) → MemberId → Option Method
group_sent files w type id =
    option_and_then (λ f. option_and_then (λ hit. sent_by files w (selection_for w hit) type id hit) (method_hit w f))
    (find_method w id.class id.name id.desc)

-- ---- the group

-- the look-ups over the joint world
abbrev pub group_by : (group : List Files) → (joint : Files) → StaticImage → List Class → Linked
group_by group files image w = record (linked_by files image w) {
  field = λ holder id. option_and_then (field_from files w id) (files_of_class group holder);
  call = λ holder op id. group_call files w holder op id (files_of_class group holder);
  made = λ holder class. if knows group w (Some holder) class then made_of w class else None;
  is_there = knows group w;
  sent = group_sent files w;
}

-- the look-ups of a group, whose static cells the image tells
unfoldable pub group_linked : (group : List Files) → StaticImage → Linked
group_linked group image = group_by group (joint group) image (all_classes (joint group))

-- static arrays are numbered package by package
abbrev pub joint_image : List StaticImage → StaticImage
joint_image images = record {
  arrays = flat_map (λ (i : StaticImage). i.arrays) images;
  nulls = flat_map (λ (i : StaticImage). i.nulls) images;
  zeros = flat_map (λ (i : StaticImage). i.zeros) images;
  others = flat_map (λ (i : StaticImage). i.others) images;
}

-- The joint run of n instructions of packages, from what the static cells of each hold at first.
abbrev pub run_group : (group : List Files) → List StaticImage → Script → ℕ → Report
run_group group images script n = Machine.run (group_linked group (joint_image images)) script n
