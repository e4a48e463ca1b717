-- What a package wants of Descriptor and StaticField (Java Card Virtual Machine Specification 2.2.2, sections 6.10 and
-- 6.13).
use Rattle.std.specs.Prelude.{ℕ, List, map, option_and_then, Option, if◌then◌else◌}
use Rattle.cjc_bytes.specs.declared.fault.MemberId.{MemberId}
use Rattle.cjc_bytes.specs.AccessFlags.{is_static}
use Rattle.cjc_capread.specs.declared.tree.FieldPlace.{FieldPlace}
use Rattle.cjc_capread.specs.declared.tree.FieldPlace.TheVariants as places
use Rattle.cjc_capread.specs.declared.tree.PoolEntry.{PoolEntry}
use Rattle.cjc_capread.specs.declared.tree.PoolEntry.TheVariants.{Classref}
use Rattle.cjc_card_acts.specs.Script.Sorts.{Sort, Boolean, Byte, Short, Int, Reference, NoValue, field_sort}
use Rattle.cjc_world.specs.ClassFile.declared.tree.FieldTree.{FieldTree}
use Rattle.cjc_world.specs.declared.found.Found.{Found}
use Rattle.cjc_world.specs.Classes.{Class}
use Rattle.cjc_world.specs.Lookup.{member_at}
use Rattle.cjc_world.specs.Order.{class_order, methods_of_class}
use Rattle.cjc_classes.specs.Clinit.Image.{field_id}
use Rattle.cjc_classes.specs.LowerComponents.Descriptor.{class_flags, field_flags, method_flags, method_in}
use Rattle.cjc_classes.specs.LowerComponents.Statics.{cell_offset, cell_order}
use Rattle.cjc_verify.specs.Pairs.{Pair, class_ref, nibbles_of, world}
use Rattle.cjc_verify.specs.Named.{named_desc}
use Rattle.cjc_verify.specs.Described.{Numbered, array_number, class_token, member_token, wanted_fields}
use Rattle.cjc_verify.specs.declared.described.wanted.WantedClass.{WantedClass}
use Rattle.cjc_verify.specs.declared.described.wanted.WantedEntry.{WantedEntry}
use Rattle.cjc_verify.specs.declared.described.wanted.WantedEntry.TheVariants as entries
use Rattle.cjc_verify.specs.declared.described.wanted.WantedField.{WantedField}
use Rattle.cjc_verify.specs.declared.described.wanted.WantedMethod.{WantedMethod}
use Rattle.cjc_verify.specs.declared.described.wanted.WantedType.{WantedType}
use Rattle.cjc_verify.specs.declared.described.wanted.WantedType.TheVariants as wanted

-- the type of a field
abbrev pub wanted_type : Pair → (desc : List ℕ) → Sort → WantedType
wanted_type p desc Boolean = wanted.Boolean
wanted_type p desc Byte = wanted.Byte
wanted_type p desc Short = wanted.Short
wanted_type p desc Int = wanted.Int
wanted_type p desc (Reference shape) = wanted.Described (nibbles_of p desc)
wanted_type p desc NoValue = wanted.NoValue

-- the place of a field: its cell, or its class and its token
abbrev pub wanted_place : Pair → Class → FieldTree → (token : ℕ) → FieldPlace
wanted_place p c f token = if is_static f.flags then places.Static (cell_offset p.image (field_id c.name f))
    else places.Instance (class_ref p c.name) token

-- a field
abbrev pub wanted_field : Pair → Class → Numbered → WantedField
wanted_field p c n =
    let f = n.field in
    let token = member_token p (member_at c n.number) in
    record {
      token = token;
      flags = field_flags f.flags;
      place = wanted_place p c f token;
      type_ = wanted_type p f.desc (field_sort f.desc);
    }

-- a method
abbrev pub wanted_method : Pair → Class → Found → WantedMethod
wanted_method p c f = let m = method_in (world p) c f.member in record {
  token = member_token p f;
  flags = method_flags m;
  nibbles = nibbles_of p m.desc;
}

-- a class
abbrev pub wanted_class : Pair → Class → WantedClass
wanted_class p c = record {
  token = class_token p c;
  flags = class_flags c.flags;
  fields = map (wanted_field p c) (wanted_fields p c);
  methods = map (wanted_method p c) (methods_of_class (world p) c);
}

-- all classes, in the order of Descriptor
abbrev pub wanted_classes : Pair → List WantedClass
wanted_classes p = map (wanted_class p) (class_order (world p))

-- the type of an entry of the constant pool
abbrev pub wanted_entry : Pair → PoolEntry → WantedEntry
wanted_entry p (Classref class) = entries.Class
wanted_entry p entry = entries.Member (option_and_then (nibbles_of p) (named_desc p entry))

-- all entries
abbrev pub wanted_entries : Pair → List WantedEntry
wanted_entries p = let c = p.components in let pool = c.pool in map (wanted_entry p) pool.entries

-- the type numbers of the arrays that fields have
abbrev pub wanted_numbers : Pair → List (Option ℕ)
wanted_numbers p = map (λ (f : MemberId). array_number f.desc) (cell_order p.image)
