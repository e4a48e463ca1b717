-- Rules 203, 205 and 206 of the instructions and catch types of methods.
use Rattle.std.specs.Prelude.{ℕ, List, ◌+◌, ◌*◌, [], ◌++◌, slice_get, Bool, true, false, not, ◌&&◌, ◌||◌, ◌==◌}
use Rattle.std.specs.Prelude.{if◌then◌else◌, Option, Some, None}
use Rattle.std.specs.Str.{bytes_eq}
use Rattle.cjc_bytes.specs.declared.fault.MemberId.{MemberId}
use Rattle.cjc_code.specs.ClassFile.declared.tree.Catch.{Catch}
use Rattle.cjc_code.specs.ClassFile.declared.tree.ClassTree.{ClassTree}
use Rattle.cjc_code.specs.ClassFile.declared.tree.MethodTree.{MethodTree}
use Rattle.cjc_code.specs.ClassFile.Code.{CodeTree}
use Rattle.cjc_code.specs.ClassFile.PoolItem.{PoolItem}
use Rattle.cjc_code.specs.declared.insn.JInsn.{JInsn}
use Rattle.cjc_code.specs.declared.insn.JOp.{JOp}
use Rattle.cjc_code.specs.declared.insn.JOp.TheVariants as jop
use Rattle.cjc_code.specs.declared.method_code.MethodCode.{MethodCode}
use Rattle.cjc_code.specs.Items.{is_interface_method}
use Rattle.cjc_code.specs.Jvm as jvm
use Rattle.cjc_world.specs.declared.found.Found.{Found}
use Rattle.cjc_world.specs.Access.{is_accessible}
use Rattle.cjc_world.specs.Classes.{Class, all_classes, class_named}
use Rattle.cjc_bytes.specs.AccessFlags.{is_abstract, is_final, is_interface, is_private, is_static}
use Rattle.cjc_world.specs.Exported.{is_imported}
use Rattle.cjc_world.specs.Files.{Files}
use Rattle.cjc_world.specs.Supertypes.{is_below}
use Rattle.cjc_world.specs.Lookup.{find_field, find_method, own_of, selected}
use Rattle.cjc_world.specs.Rules.{is_missing, is_type_missing, is_desc_missing, is_interface_of, is_class_of}
use Rattle.cjc_bytes.specs.Breaks.{Break, at, each}
use Rattle.cjc_subset.specs.Places.{at_method, of_code}
use Rattle.cjc_bytes.specs.Order.{FilePlace}
use Rattle.cjc_subset.specs.Members.{ResolvedMember, hit, is_array, is_constant, is_constructor, is_descriptor}
use Rattle.cjc_subset.specs.Members.{is_initialiser}

-- ---- 203: a class that an instruction or a catch type names is in no file

-- The name of a class, or the descriptor of an array. What begins as one and is none names a class in no file.
unfoldable pub is_name_missing : List Class → List ℕ → Bool
is_name_missing w name = if is_array name then not (is_descriptor name) || is_type_missing w name else is_missing w name

-- the class of a member, and the classes of its descriptor
abbrev pub is_member_missing : List Class → MemberId → Bool
is_member_missing w id = is_name_missing w id.class || is_desc_missing w id.desc

-- the instruction names a class that is in no file, or a member with such a class or one in its descriptor
unfoldable pub names_missing : List Class → JOp → Bool
names_missing w (jop.Static put id) = is_member_missing w id
names_missing w (jop.Field put id) = is_member_missing w id
names_missing w (jop.Call op id) = is_member_missing w id
names_missing w (jop.New name) = is_name_missing w name
names_missing w (jop.ANewArray name) = is_name_missing w name
names_missing w (jop.CheckCast name) = is_name_missing w name
names_missing w (jop.InstanceOf name) = is_name_missing w name
names_missing w _ = false

-- a catch type that is an array too; none catches everything
unfoldable pub catches_missing : List Class → Option (List ℕ) → Bool
catches_missing w None = false
catches_missing w (Some name) = is_array name || is_missing w name

-- ---- 205: a named member is in neither the class nor its supers, or the class is an array; a constructor is not in
-- the
-- ---- class itself; or a method of a class is named as one of an interface, or the other way round. It needs the
-- class,
-- ---- so that 203 is not broken by the class's name

-- the look-up found nothing
abbrev pub is_not_found : Option Found → Bool
is_not_found None = true
is_not_found (Some f) = false

-- the class is in some file, and it is an array or has no such member
abbrev pub lacks : List Class → MemberId → (absent : Bool) → Bool
lacks w id absent = not (is_name_missing w id.class) && (is_array id.class || absent)

-- the class is in some file, and it is an array or the look-up found no such member
abbrev pub is_unfound : List Class → MemberId → Option Found → Bool
is_unfound w id found = lacks w id (is_not_found found)

-- The method that a call names: a constructor in the named class alone, any other looked up from that class on (Java
-- Virtual Machine Specification, 6.5, invokespecial).
abbrev pub callee_found : List Class → MemberId → Option Found
callee_found w id =
    if is_constructor id.name then own_of id.name id.desc (class_named w id.class)
    else find_method w id.class id.name id.desc

-- The instruction names a field or method that is in neither its class nor the supers, a constructor that is not in
-- its class, or a member of an array.
unfoldable pub names_unfound : List Class → JOp → Bool
names_unfound w (jop.Static put id) = is_unfound w id (find_field w id.class id.name id.desc)
names_unfound w (jop.Field put id) = is_unfound w id (find_field w id.class id.name id.desc)
names_unfound w (jop.Call op id) = is_unfound w id (callee_found w id)
names_unfound w _ = false

-- the entry of a pool by the two bytes of an index, where both are there
abbrev pub entry_at : List PoolItem → (high low : Option ℕ) → Option PoolItem
entry_at pool (Some high) (Some low) = slice_get pool (high * 256 + low)
entry_at pool _ _ = None

-- the entry whose index stands behind the opcode at this place of a code
abbrev pub entry_behind : List PoolItem → (code : List ℕ) → (place : ℕ) → Option PoolItem
entry_behind pool code place = entry_at pool (slice_get code (place + 1)) (slice_get code (place + 2))

-- it is an InterfaceMethodref
abbrev pub has_interface_entry : List PoolItem → Option CodeTree → (place : ℕ) → Bool
has_interface_entry pool None place = false
has_interface_entry pool (Some code) place = is_interface_method (entry_behind pool code.bytes place)

-- Whether a call at this place of a method names its method as one of an interface. Invokevirtual always has a
-- Methodref
-- and invokeinterface an InterfaceMethodref, which 103 sees to; invokespecial and invokestatic have either.
abbrev pub is_by_interface : ClassTree → MethodTree → (place op : ℕ) → Bool
is_by_interface c m place op =
    if op == jvm.invokevirtual then false
    else (op == jvm.invokeinterface) || has_interface_entry c.pool m.code place

-- a Methodref names an interface, or an InterfaceMethodref a class that is none (5.4.3.3, 5.4.3.4)
abbrev pub refers_wrongly : (by_interface : Bool) → Option Class → Bool
refers_wrongly true named = is_class_of named
refers_wrongly false named = is_interface_of named

-- an instruction at this place of a method of the class
unfoldable pub names_other_kind : List Class → ClassTree → MethodTree → (place : ℕ) → JOp → Bool
names_other_kind w c m place (jop.Call op id) = refers_wrongly (is_by_interface c m place op) (class_named w id.class)
names_other_kind w c m place _ = false

-- ---- 206: what is named can't be used so. Of a member it needs that one is found

-- the member is not accessible to the class that holds the code
abbrev pub is_hidden : List Class → ClassTree → MemberId → ResolvedMember → Bool
is_hidden w c id h = not (is_accessible w c.name id.class h.owner h.flags)

-- the instruction needs a static member and this is none, or the other way round
abbrev pub is_other_kind : (static : Bool) → ℕ → Bool
is_other_kind static flags = if is_static flags then not static else static

-- a field was found, and it is a constant
abbrev pub is_constant_found : Files → Option Found → Bool
is_constant_found files None = false
is_constant_found files (Some f) = is_constant files f

-- a final field is put by code of another class than the one that declares it (6.5, putfield and putstatic)
abbrev pub puts_final : ClassTree → (put : Bool) → ResolvedMember → Bool
puts_final c put h = put && is_final h.flags && not (bytes_eq h.owner.name c.name)

-- the field that an instruction names was found and can't be used so
abbrev pub is_unfit_field : Files → ClassTree → (static put : Bool) → MemberId → Option Found → Option ResolvedMember
    → Bool
is_unfit_field files c static put id found None = false
is_unfit_field files c static put id found (Some h) =
    -- the field is not accessible
    is_hidden (all_classes files) c id h
    -- getstatic and putstatic need a static field, getfield and putfield one that is not
    || is_other_kind static h.flags
    -- putstatic names a constant
    || (static && put && is_constant_found files found)
    -- a putfield or putstatic names a final field of another class
    || puts_final c put h

-- invokevirtual names an imported class and its method is found in an interface
abbrev pub is_unfit_virtual : Option Class → ResolvedMember → Bool
is_unfit_virtual named h = is_imported named && is_interface h.owner.flags

-- the method that invokeinterface names is not found in an interface
abbrev pub is_unfit_interface : ResolvedMember → Bool
is_unfit_interface h = not (is_interface h.owner.flags)

-- no method, or an abstract one
abbrev pub is_bodiless : Option ResolvedMember → Bool
is_bodiless None = true
is_bodiless (Some h) = is_abstract h.flags

-- The named class is not a superclass of the class that holds the code, or the search from that class's superclass
-- upwards selects no method or an abstract one.
abbrev pub is_unfit_super : List Class → ClassTree → MemberId → Bool
is_unfit_super w c id =
    not (is_below w c.superclass id.class)
    || is_bodiless (hit w false (selected w c.superclass id.name id.desc))

-- 182 is invokevirtual, 183 invokespecial, 184 invokestatic, 185 invokeinterface
abbrev pub is_unfit_call : (op : ℕ) → (name : List ℕ) → (flags : ℕ) → Bool
is_unfit_call op name flags =
    -- invokestatic needs a static method, the others one that is not
    is_other_kind (op == jvm.invokestatic) flags
    -- invokevirtual and invokeinterface need one that is not private
    || (((op == jvm.invokevirtual) || (op == jvm.invokeinterface)) && is_private flags)
    || is_initialiser name
    -- an instruction other than invokespecial names a constructor
    || (not (op == jvm.invokespecial) && is_constructor name)

-- the class by which a method is named does not fit the instruction, or invokespecial selects no method with code
abbrev pub is_unfit_class : List Class → ClassTree → (op : ℕ) → MemberId → ResolvedMember → Bool
is_unfit_class w c op id h =
    if op == jvm.invokevirtual then is_unfit_virtual (class_named w id.class) h
    else if op == jvm.invokeinterface then is_unfit_interface h
    -- invokespecial of neither a constructor nor a private method
    else (op == jvm.invokespecial) && not (is_constructor id.name) && not (is_private h.flags) && is_unfit_super w c id

-- the method that an instruction names was found and can't be called so
abbrev pub is_unfit_method : List Class → ClassTree → (op : ℕ) → MemberId → Option ResolvedMember → Bool
is_unfit_method w c op id None = false
is_unfit_method w c op id (Some h) =
    -- the method is not accessible
    is_hidden w c id h
    -- it is of another kind, or it can't be called by name
    || is_unfit_call op id.name h.flags
    -- it is named by a class that does not fit the instruction
    || is_unfit_class w c op id h

-- there is a class, and it is abstract
abbrev pub is_abstract_of : Option Class → Bool
is_abstract_of None = false
is_abstract_of (Some c) = is_abstract c.flags

-- new names an array, an abstract class or an interface
abbrev pub is_unfit_new : List Class → List ℕ → Bool
is_unfit_new w name = is_array name || is_abstract_of (class_named w name) || is_interface_of (class_named w name)

-- the field that an instruction names, as look-up finds it
abbrev pub field_found : List Class → MemberId → Option Found
field_found w id = find_field w id.class id.name id.desc

-- the method that an instruction names, as look-up finds it
abbrev pub method_found : List Class → MemberId → Option Found
method_found w id = find_method w id.class id.name id.desc

-- by an instruction of the class
unfoldable pub names_unfit : Files → ClassTree → JOp → Bool
names_unfit files c (jop.Static put id) = is_unfit_field files c true put id (field_found (all_classes files) id)
    (hit (all_classes files) true (field_found (all_classes files) id))
names_unfit files c (jop.Field put id) = is_unfit_field files c false put id (field_found (all_classes files) id)
    (hit (all_classes files) true (field_found (all_classes files) id))
names_unfit files c (jop.Call op id) = is_unfit_method (all_classes files) c op id (hit (all_classes files) false
    (method_found (all_classes files) id))
names_unfit files c (jop.New name) = is_unfit_new (all_classes files) name
names_unfit files c _ = false

-- ---- what is broken, and where

-- at an instruction of the method at this place of the class
unfoldable pub insn_breaks : Files → FilePlace → ClassTree → (method : ℕ) → MethodTree → JInsn → List Break
insn_breaks files f c i m insn =
    at (names_missing (all_classes files) insn.op) (at_method f c i m insn.at) 203
    ++ at (names_unfound (all_classes files) insn.op) (at_method f c i m insn.at) 205
    ++ at (names_other_kind (all_classes files) c m insn.at insn.op) (at_method f c i m insn.at) 205
    ++ at (names_unfit files c insn.op) (at_method f c i m insn.at) 206

-- a catch type stands at the first instruction of its handler
unfoldable pub catch_breaks : Files → FilePlace → ClassTree → (method : ℕ) → MethodTree → Catch → List Break
catch_breaks files f c i m k = at (catches_missing (all_classes files) k.class) (at_method f c i m k.target) 203

-- the entries of the exception table, none without code
abbrev pub catches_of : Option CodeTree → List Catch
catches_of None = []
catches_of (Some code) = code.catches

-- of a method that has these instructions
unfoldable pub method_breaks : Files → FilePlace → ClassTree → (method : ℕ) → MethodTree → List JInsn → List Break
method_breaks files f c i m insns =
    each (λ _ insn. insn_breaks files f c i m insn) insns
    ++ each (λ _ k. catch_breaks files f c i m k) (catches_of m.code)

-- at the instructions and catch types of the method that this code is of
unfoldable pub code_breaks : Files → MethodCode → List Break
code_breaks files code = of_code files code.class code.method (λ f c m. method_breaks files f c code.method m
    code.insns)

-- All that is broken of 203, 205 and 206 in the methods that have instructions.
unfoldable pub name_breaks : Files → List MethodCode → List Break
name_breaks files codes = each (λ _ code. code_breaks files code) codes
