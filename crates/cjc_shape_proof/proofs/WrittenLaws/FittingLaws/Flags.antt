-- The flags of a class file and of its fields and methods have two bytes.
use Rattle.std.proofs.Common.{ℕ, zero, suc, ◌^◌, ◌<◌, subst, List}
use Rattle.std.specs.List.{AllByRecursion}
use Rattle.cjc_bytes.proofs.Inverse.{InBytes, given, inner, u2_is}
use Rattle.cjc_bytes.specs.Format.{FileSpells, Format, Spells, gives, in_a_row, repeated, u2, ◌>>=◌}
use Rattle.cjc_world.specs.ClassFile.ClassFile.{back_part, class_file}
use Rattle.cjc_world.specs.ClassFile.Entry.{Entry}
use Rattle.cjc_world.specs.ClassFile.Members.{attribute, field_tree}
use Rattle.cjc_world.specs.ClassFile.Methods.{method_tree}
use Rattle.cjc_world.specs.ClassFile.declared.tree.ClassTree.{ClassTree}
use Rattle.cjc_world.specs.ClassFile.declared.tree.FieldTree.{FieldTree}
use Rattle.cjc_world.specs.ClassFile.declared.tree.MethodTree.{MethodTree}
use Rattle.cjc_world.specs.ClassFile.PoolItem.{PoolItem}

abbrev pub HasFlags : FieldTree → Type 0
HasFlags f = f.flags < 2 ^ 16

abbrev pub HasMethodFlags : MethodTree → Type 0
HasMethodFlags m = m.flags < 2 ^ 16

pub record SmallFlags (t : ClassTree) : Type 0 where
  pub own : t.flags < 2 ^ 16
  pub fields : AllByRecursion HasFlags t.fields
  pub methods : AllByRecursion HasMethodFlags t.methods

field_flags : (pool : List Entry) (at : ℕ) (f : FieldTree) (bytes : List ℕ) → InBytes bytes
    → Spells (field_tree pool) at f bytes → HasFlags f
unfolding field_tree
field_flags pool at f bytes ok h =
    let flags = inner _ _ _ _ _ ok h in
    let name = inner _ _ _ _ _ flags.backs flags.rest in
    let desc = inner _ _ _ _ _ name.backs name.rest in
    let count = inner _ _ _ _ _ desc.backs desc.rest in
    let constant = inner _ _ _ _ _ count.backs count.rest in
    subst HasFlags (given _ _ _ _ constant.rest).0 (u2_is _ flags.x flags.front flags.fronts flags.one).0

method_flags : (pool : List Entry) (at : ℕ) (m : MethodTree) (bytes : List ℕ) → InBytes bytes
    → Spells (method_tree pool) at m bytes → HasMethodFlags m
unfolding method_tree
method_flags pool at m bytes ok h =
    let flags = inner _ _ _ _ _ ok h in
    let name = inner _ _ _ _ _ flags.backs flags.rest in
    let desc = inner _ _ _ _ _ name.backs name.rest in
    let count = inner _ _ _ _ _ desc.backs desc.rest in
    let tree = inner _ _ _ _ _ count.backs count.rest in
    subst HasMethodFlags (given _ _ _ _ tree.rest).0 (u2_is _ flags.x flags.front flags.fronts flags.one).0

all_flags : {A : Type 0} (P : A → Type 0) (f : Format A) → ((at : ℕ) (x : A) (bytes : List ℕ) → InBytes bytes
    → Spells f at x bytes → P x)
    → (n at : ℕ) (xs : List A) (bytes : List ℕ) → InBytes bytes → Spells (repeated n f) at xs bytes
    → AllByRecursion P xs
unfolding repeated
all_flags P f one zero at xs bytes ok h = subst (AllByRecursion P) (given _ _ _ _ h).0 tt
all_flags P f one (suc n) at xs bytes ok h =
    let x = inner _ _ _ _ _ ok h in
    let ys = inner _ _ _ _ _ x.backs x.rest in
    subst (AllByRecursion P) (given _ _ _ _ ys.rest).0 (
      one _ x.x x.front x.fronts x.one,
      all_flags P f one n _ ys.x ys.front ys.fronts ys.one,
    )

-- the class behind its interfaces
abbrev members_part : ℕ → List Entry → List PoolItem
    → (flags : ℕ) (name superclass : List ℕ) (interfaces : List (List ℕ)) → Format ClassTree
members_part major pool items flags name superclass interfaces = do
  field_count ← u2
  fields ← repeated field_count (field_tree pool)
  method_count ← u2
  methods ← repeated method_count (method_tree pool)
  attribute_count ← u2
  free ← in_a_row attribute_count (attribute pool)
  gives (record {
    major = major;
    flags = flags;
    name = name;
    superclass = superclass;
    interfaces = interfaces;
    pool = items;
    fields = fields;
    methods = methods;
  })

members_flags : (major : ℕ) (pool : List Entry) (items : List PoolItem) (flags : ℕ) (name superclass : List ℕ)
    (interfaces : List (List ℕ)) (at : ℕ) (t : ClassTree) (bytes : List ℕ) → flags < 2 ^ 16 → InBytes bytes
    → Spells (members_part major pool items flags name superclass interfaces) at t bytes → SmallFlags t
members_flags major pool items flags name superclass interfaces at t bytes small ok h =
    let field_count = inner _ _ _ _ _ ok h in
    let fields = inner _ _ _ _ _ field_count.backs field_count.rest in
    let method_count = inner _ _ _ _ _ fields.backs fields.rest in
    let methods = inner _ _ _ _ _ method_count.backs method_count.rest in
    let attribute_count = inner _ _ _ _ _ methods.backs methods.rest in
    let free = inner _ _ _ _ _ attribute_count.backs attribute_count.rest in
    subst SmallFlags (given _ _ _ _ free.rest).0 (record {
      own = small;
      fields = all_flags HasFlags (field_tree pool)
          (field_flags pool) field_count.x _ fields.x fields.front fields.fronts fields.one;
      methods =
          all_flags HasMethodFlags (method_tree pool) (method_flags pool) method_count.x _ methods.x methods.front
          methods.fronts methods.one;
    })

back_flags : (major : ℕ) (pool : List Entry) (items : List PoolItem) (at : ℕ) (t : ClassTree) (bytes : List ℕ)
    → InBytes bytes → Spells (back_part major pool items) at t bytes → SmallFlags t
unfolding back_part
back_flags major pool items at t bytes ok h =
    let flags = inner _ _ _ _ _ ok h in
    let name = inner _ _ _ _ _ flags.backs flags.rest in
    let superclass = inner _ _ _ _ _ name.backs name.rest in
    let interface_count = inner _ _ _ _ _ superclass.backs superclass.rest in
    let interfaces = inner _ _ _ _ _ interface_count.backs interface_count.rest in
    members_flags major pool items flags.x name.x superclass.x interfaces.x _ t interfaces.back
    (u2_is _ flags.x flags.front flags.fronts flags.one).0 interfaces.backs interfaces.rest

pub small_flags : (t : ClassTree) (bytes : List ℕ) → InBytes bytes → FileSpells class_file t bytes → SmallFlags t
unfolding class_file
small_flags t bytes ok h =
    let front = inner _ _ _ _ _ ok h in
    let items = inner _ _ _ _ _ front.backs front.rest in
    back_flags front.x.0 front.x.1 items.x _ t items.back items.backs items.rest
