-- What reached instructions of packages by the modes of their methods name of fields, objects and methods stands for what
-- the joint world has.
use Rattle.std.proofs.Common.{◌≡◌, ℕ, arith, Bool, true, false, List, Some, refl, sym, ap, subst, ◌∙◌}
use Rattle.std.specs.Prelude.{if◌then◌else◌, nat_lt}
use Rattle.cjc_bytes.specs.declared.fault.MemberId.{MemberId}
use Rattle.cjc_code.specs.ClassFile.declared.tree.ClassTree.{ClassTree}
use Rattle.cjc_code.specs.declared.insn.JOp.{JOp}
use Rattle.cjc_code.specs.declared.insn.JOp.TheVariants as jop
use Rattle.cjc_code.specs.declared.method_code.MethodCode.{MethodCode}
use Rattle.cjc_jvm_semantics.specs.Group.{have_class, joint_image}
use Rattle.cjc_jvm_semantics.specs.Linked.{Instance, Method, Static}
use Rattle.cjc_jvm_semantics.specs.OnePackage.{object_fields, of_class}
use Rattle.cjc_narrow.specs.Rows.Package.{named}
use Rattle.cjc_ncode.specs.ByLabel.{Callee, Named}
use Rattle.cjc_ncode.specs.Written.{Resolution}
use Rattle.cjc_ncode.specs.declared.narrow.NMethod.{NMethod}
use Rattle.cjc_types.specs.Rules.{is_of, receiver_class}
use Rattle.cjc_types.specs.Search.{cells_of}
use Rattle.cjc_types.specs.Steps.{operand, receivers}
use Rattle.cjc_types.specs.declared.cell.Cell.{Cell}
use Rattle.cjc_types.specs.declared.state.State.{State}
use Rattle.cjc_world.specs.Classes.{Class, all_classes}
use Rattle.cjc_world.specs.Files.{Files}
use Rattle.cjc_world.specs.Lookup.{object}
use Rattle.cjc_world.specs.declared.image.StaticImage.{StaticImage}
use Rattle.cjc_narrow_proof.specs.Laws.Unbroken.{IsInsnOf, KeepsNames}
use Rattle.cjc_narrow_proof.specs.Runs.Tables.{Tables}
use Rattle.cjc_narrow_proof.specs.Selection.Callees.{Names, a_direct, a_static, a_super, a_virtual, an_interface}
use Rattle.cjc_narrow_proof.specs.Selection.Rows.{HasField}
use Rattle.cjc_narrow_proof.specs.Tables.Calls.{count_of}
use Rattle.cjc_shape_proof.specs.Finds.{IsNamedMethod, IsReceiverFound}
use Rattle.cjc_shape_proof.specs.Whole.{Accepts, HoldsFor}
use Rattle.cjc_shape_proof.specs.WorldProof.Calls.Targets.{IsReceiver}
use Rattle.cjc_shape_proof.proofs.FindsLaws.Calls.{interface_call, special_call, static_call, virtual_call}
use Rattle.cjc_shape_proof.proofs.FindsLaws.Receivers.{root_of}
use Rattle.cjc_int_alike.specs.ByModes.{analysis_by_mode, bodies_by_mode, codes_by_mode, int_resolution}
use Rattle.cjc_int_alike.specs.ByModes.{look_ups_by_mode, result_in}
use Rattle.cjc_int_alike.specs.Callees.{IsCalledByMode, calls_import, calls_method, calls_on_receiver}
use Rattle.cjc_int_alike.specs.Named.{IsIntFieldOf, IsIntNamed}
use Rattle.cjc_int_alike.specs.Named as alone
use Rattle.cjc_int_theorem.proofs.Finds.{usable_method}
use Rattle.cjc_jvm_semantics.specs.ByName.{linked}
use Rattle.cjc_joint_theorem.specs.Members.{Member, files_of, homes_of, images_of, member_of, number_of, tables_of}
use Rattle.cjc_joint_theorem.specs.Together.Homes.{Homes, joint_world}
use Rattle.cjc_joint_modes.specs.Calls.{IsIntReceiverIn, IsIntStaticIn}
use Rattle.cjc_joint_modes.specs.Codes.{group_look_ups_by_mode}
use Rattle.cjc_joint_modes.specs.Members.{IsLeftByMode, StandByModes, modes_of}
use Rattle.cjc_joint_modes.specs.Names.{IsIntInstanceIn, IsIntNamedIn}
use Rattle.cjc_joint_modes.specs.Names as names
use Rattle.cjc_joint_whole.specs.ModesCalls.{IsNamedCallee}
use Rattle.cjc_joint_whole.specs.Told.{IsToldAbove}
use Rattle.cjc_joint_whole.proofs.WholeLaws.Fields.{files_are, has_field, same_field}
use Rattle.cjc_joint_whole.proofs.WholeLaws.FixedCalls.{static_reached}
use Rattle.cjc_joint_whole.proofs.WholeLaws.Joined.{field_off, static_off}
use Rattle.cjc_joint_whole.proofs.WholeLaws.Known.{known}
use Rattle.cjc_joint_whole.proofs.WholeLaws.Objects.{fields_have_values, is_made_in}
use Rattle.cjc_joint_whole.proofs.WholeLaws.Reached.{IsReached}
use Rattle.cjc_joint_whole.proofs.WholeLaws.Solid.{solid_at, spelt}
use Rattle.cjc_joint_whole.proofs.WholeLaws.Statics.{cell_stays}
use Rattle.cjc_joint_whole.proofs.WholeLaws.ToldCalls.{choices_stand}
use Rattle.cjc_joint_whole_modes.specs.Whole.{AreWholeByModes}
use Rattle.cjc_joint_whole_modes.proofs.WholeModes.Begun.{receiver_of, static_of}
use Rattle.cjc_joint_whole_modes.proofs.WholeModes.Looks.{field_by_mode, made_short, one_of}
use Rattle.cjc_joint_whole_modes.proofs.WholeModes.Reached.{reached_by_mode}

otherwise : (c x y : Bool) → c ≡ false → (if c then x else y) ≡ true → y ≡ true
otherwise true x y f e = absurd cc
otherwise false x y f e = e

-- a method that a package names
abbrev callee_named : {files : Files} {id : MemberId} → IsNamedMethod files id → IsNamedCallee files id
callee_named c = record {
  place = c.place;
  hit = c.hit;
  found = c.found;
  is_hit = c.is_hit;
  again = c.again;
  above = c.above;
  no_initialiser = c.no_initialiser;
  result = c.result;
}

module _ (members : List Member) (modes : ℕ → Method → Bool) (is : AreWholeByModes members modes)
    (tell : IsToldAbove members) (p : Member) (m : Method) (at : member_of members m ≡ Some p) (t : State) where
  abbrev group : List Files
  group = files_of members

  abbrev image : StaticImage
  image = joint_image (images_of members)

  abbrev homes : Homes
  homes = homes_of members

  abbrev tables : Tables
  tables = tables_of members

  abbrev is_int : Method → Bool
  is_int = modes_of members modes

  abbrev v : List Class
  v = all_classes p.files

  abbrev q : ℕ
  q = number_of members m

  abbrev codes : List MethodCode
  codes = let one = is.each q p at in one.codes

  abbrev l : Named
  l = group_look_ups_by_mode group image homes tables is_int

  abbrev stack : List Cell
  stack = cells_of t.stack

  abbrev holder : List ℕ
  holder = let n = m.id in n.class

  abbrev Alone : JOp → Type 0
  Alone op = IsIntNamed p.files p.image p.near p.tables (modes q) m stack op

  abbrev Together : JOp → Type 0
  Together op = IsIntNamedIn group image homes tables is_int m stack op

  -- ---- fields

  of_field : (class : ClassTree) (put : Bool) (id f : MemberId) (receiver : Cell) → IsInsnOf p.files codes class
      (jop.Field put id) → is_of v id.class receiver ≡ true
      → IsIntFieldOf p.files p.image p.near p.tables (modes q) m id f receiver
      → IsIntInstanceIn group image homes tables is_int m id f receiver
  of_field class put id f receiver insn fits h =
      let k = known p.files (solid_at members is q p at) id f false h.found (field_off members is q p at class put id
      insn) in
      let one = k.0 in
      let is_field : f ≡ of_class (let c = one.class in c.name) id = k.1 in
      record {
        desc = h.desc;
        found = same_field members is p m at id false one (Instance f) h.found;
        has = λ names on kind some made.
            subst (λ g. HasField l g kind) (sym is_field) (field_by_mode group image homes tables is_int (of_class (let c =
            one.class in c.name) id) kind (has_field members is p m at id one names (ap (is_of v id.class) (sym on)
            ∙ fits) kind (sym (one_of group image homes tables is_int names kind) ∙ some)
            (made_short group image homes tables is_int kind made)));
      }

  -- ---- calls

  its_names : (let one = is.each q p at in KeepsNames one.list p.files one.codes one.settings)
  its_names = let one = is.each q p at in let whole = one.whole in whole.unbroken

  root : IsReceiver v object
  root = let one = is.each q p at in let whole = one.whole in root_of p.files whole.sound

  abbrev written : Method → NMethod
  written = codes_by_mode p.files p.image p.near p.tables (modes q)

  abbrev its_look : Named
  its_look = named p.files p.image written

  holds : (name : List ℕ) (cell : Cell) → is_of v name cell ≡ true → HoldsFor p.files name cell
  holds name cell e = λ names on. ap (is_of v name) (sym on) ∙ e

  receiver_fits : (op : ℕ) (id : MemberId) → receivers op ≡ 1 → (r : IsReached p.files codes m (jop.Call op id) t)
      → Accepts p.files r.body op id stack
  receiver_fits op id one r =
      let n = count_of id.desc in
      let no : nat_lt n n ≡ false = grind arith in
      holds (receiver_class v r.body op id) (operand stack n) (otherwise (nat_lt n n) _ (is_of v (receiver_class v r.body
      op id) (operand stack n)) no (r.fits n (omega (arith, one))))

  receives : (op : ℕ) (id : MemberId) → IsReached p.files codes m (jop.Call op id) t
      → IsReceiverFound p.files its_look holder stack op id → Together (jop.Call op id)
  receives op id r f =
      let c = f.method in
      names.a_call_on_receiver (subst (λ files. IsIntReceiverIn group homes tables is_int id l files holder stack op)
      (sym (files_are members is p m at)) (receiver_of members modes is id (usable_method id.desc c.desc) p.files holder
      stack op (choices_stand members is tell q p at m t id (callee_named c) f.form r)))

  static_named : (id : MemberId) → IsReached p.files codes m (jop.Call 0xB8 id) t → Together (jop.Call 0xB8 id)
  static_named id r =
      let one = is.each q p at in
      let whole = one.whole in
      let s = static_call one.list p.files one.codes one.settings its_names (spelt one.list p.files one.codes one.settings
      whole) whole.read (solid_at members is q p at) root p.image written r.class id r.insn in
      let c = s.method in
      names.a_static_call (subst (λ files. IsIntStaticIn group homes tables is_int id files) (sym (files_are members is p
      m at)) (static_of members modes is id (usable_method id.desc c.desc) p.files (static_reached members is q p at id
      (callee_named c) s.is_static_one s.no_constructor)))

  virtual_named : (id : MemberId) → IsReached p.files codes m (jop.Call 0xB6 id) t → Together (jop.Call 0xB6 id)
  virtual_named id r =
      let one = is.each q p at in
      let whole = one.whole in
      receives 0xB6 id r (virtual_call one.list p.files one.codes one.settings its_names (spelt one.list p.files
      one.codes one.settings whole) whole.read (solid_at members is q p at) root p.image written r.body stack holder
      r.class id r.insn (receiver_fits 0xB6 id refl r))

  interface_named : (id : MemberId) → IsReached p.files codes m (jop.Call 0xB9 id) t → Together (jop.Call 0xB9 id)
  interface_named id r =
      let one = is.each q p at in
      let whole = one.whole in
      receives 0xB9 id r (interface_call one.list p.files one.codes one.settings its_names (spelt one.list p.files
      one.codes one.settings whole) whole.read (solid_at members is q p at) root p.image written r.body stack holder
      r.class id r.insn (receiver_fits 0xB9 id refl r))

  special_named : (id : MemberId) → IsReached p.files codes m (jop.Call 0xB7 id) t → Together (jop.Call 0xB7 id)
  special_named id r =
      let one = is.each q p at in
      let whole = one.whole in
      receives 0xB7 id r (subst (λ h. IsReceiverFound p.files its_look h stack 0xB7 id) (sym r.holder) (special_call one.list
      p.files one.codes one.settings its_names (spelt one.list p.files one.codes one.settings whole) whole.read
      (solid_at members is q p at) root p.image written r.body stack r.class id r.of_holder r.insn
      (receiver_fits 0xB7 id refl r)))

  by_names : {res : Resolution} {op : ℕ} {id : MemberId} {named : Callee} → Names res op id named → receivers op ≡ 1
      → IsReached p.files codes m (jop.Call op id) t → Together (jop.Call op id)
  by_names (a_static e) one r = absurd (let no : 0 ≡ 1 = one in cc)
  by_names (a_direct e) one r = special_named _ r
  by_names (a_super e) one r = special_named _ r
  by_names (a_virtual e) one r = virtual_named _ r
  by_names an_interface one r = interface_named _ r

  abbrev IsCalled : JOp → Type 0
  IsCalled op = IsCalledByMode (linked p.files p.image) (look_ups_by_mode p.files p.image p.near p.tables (modes q)) v
      (analysis_by_mode p.files p.image p.near p.tables (modes q))
      (bodies_by_mode p.files p.image p.near p.tables (modes q)) (result_in p.files p.image p.near p.tables (modes q))
      (int_resolution p.files p.image p.near p.tables (modes q) m) m stack op

  call_stands : (op : JOp) → IsReached p.files codes m op t → IsCalled op → Together op
  call_stands _ r (calls_method {id = id} named desc its on words callee finds enters begun) = static_named id r
  call_stands _ r (calls_import {id = id} named desc its on words event finds makes asked) = static_named id r
  call_stands _ r (calls_on_receiver {op = op} {id = id} named desc its one on words selected finds selects) =
      by_names its one r

  -- ---- an instruction

  stand : (op : JOp) → IsReached p.files codes m op t → (h : Alone op) → IsLeftByMode h → Together op
  stand _ r (alone.a_field {named = id} f h) left = names.a_field f (of_field r.class false id f (operand stack 0)
      r.insn (r.fits 0 (omega arith)) h)
  stand _ r (alone.a_put_field {named = id} f h) left = names.a_put_field f (of_field r.class true id f
      (operand stack 1) r.insn (r.fits 1 (omega arith)) h)
  stand _ r (alone.a_static {put = put} {named = id} f h) left =
      let k = known p.files (solid_at members is q p at) id f true h.found (static_off members is q p at r.class put id
      r.insn) in
      names.a_static f (record {
        desc = h.desc;
        found = same_field members is p m at id true k.0 (Static f) h.found;
        has = cell_stays members is q p at f h.has;
      })
  stand _ r (alone.a_class {class = class} fields made are) left =
      let c = is_made_in members is q p at class fields made in
      names.a_class (object_fields (joint_world group) class) (ap (λ f. have_class (Some f) class) (files_are members is
      p m at) ∙ c.0) c.1 (fields_have_values members is class)
  stand op r (alone.calls h) left = call_stands op r h
  stand _ r (alone.names_nothing plain) left = elim left [ ]
  stand _ r (alone.is_on_array on) left = elim left [ ]
  stand _ r (alone.returns is_one) left = elim left [ ]
  stand _ r alone.throws left = elim left [ ]
  stand _ r (alone.a_constant z number holds found) left = elim left [ ]
  stand _ r (alone.an_array c there) left = elim left [ ]
  stand _ r alone.booleans left = elim left [ ]
  stand _ r alone.bytes left = elim left [ ]
  stand _ r alone.shorts left = elim left [ ]
  stand _ r alone.ints left = elim left [ ]
  stand _ r (alone.a_cast kind named there) left = elim left [ ]
  stand _ r (alone.a_test kind named there) left = elim left [ ]

pub names_stand : (members : List Member) (modes : ℕ → Method → Bool) → AreWholeByModes members modes
    → IsToldAbove members → StandByModes members modes
names_stand members modes is tell p m at place i t there row h left = stand members modes is tell p m at t i.op
    (reached_by_mode members modes is (number_of members m) p at m place i t there row) h left
