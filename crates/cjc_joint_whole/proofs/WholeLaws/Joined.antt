-- The fields and objects that reached instructions of packages name, and static methods, constructors and private
-- methods, stand for what the joint world has.
use Rattle.std.proofs.Common.{◌≡◌, ℕ, arith, Bool, true, false, List, Option, Some, refl, sym, ap, subst, ◌∙◌, inl, inr}
use Rattle.std.specs.Prelude.{◌⊎◌, slice_get}
use Rattle.cjc_bytes.specs.AccessFlags.{is_interface}
use Rattle.cjc_bytes.specs.declared.fault.MemberId.{MemberId}
use Rattle.cjc_components.specs.Bytecode.declared.insn.JOp.{JOp}
use Rattle.cjc_components.specs.Bytecode.declared.insn.JOp.TheVariants as jop
use Rattle.cjc_jvm_semantics.specs.Linked.{Callee, Instance, Method, Static}
use Rattle.cjc_jvm_semantics.specs.Group.{have_class, is_package_visible, joint_image}
use Rattle.cjc_jvm_semantics.specs.OnePackage.{is_constructor, object_fields, of_class}
use Rattle.cjc_world.specs.ClassFile.declared.tree.ClassTree.{ClassTree}
use Rattle.cjc_world.specs.Classes.{Class, all_classes}
use Rattle.cjc_world.specs.Files.{Files}
use Rattle.cjc_world.specs.Lookup.{find_field, is_selectable}
use Rattle.cjc_narrow_proof.specs.Laws.Unbroken.{IsInsnOf}
use Rattle.cjc_narrow_proof.specs.NCode.ByLabel.{Named}
use Rattle.cjc_narrow_proof.specs.Runs.Calls.{Chooses, IsReceiverOn}
use Rattle.cjc_narrow_proof.specs.Runs.Calls as calls
use Rattle.cjc_narrow_proof.specs.Runs.Names as alone
use Rattle.cjc_narrow_proof.specs.Runs.Names.{IsFieldOf, IsNamed}
use Rattle.cjc_narrow_proof.specs.Runs.Tables.{look_ups}
use Rattle.cjc_narrow_proof.specs.Selection.Rows.{HasField}
use Rattle.cjc_narrow_proof.specs.Tables.Calls.{IsWordDesc}
use Rattle.cjc_narrow_proof.proofs.LawsLaws.Instructions.{op_fit}
use Rattle.cjc_token_proof.specs.Subset.Checks.{is_imported_variable, names_variable}
use Rattle.cjc_token_proof.specs.Types.declared.cell.Cell.{Cell}
use Rattle.cjc_token_proof.specs.Types.declared.state.State.{State}
use Rattle.cjc_token_proof.specs.Types.Rules.{is_of}
use Rattle.cjc_token_proof.specs.Types.Search.{cells_of}
use Rattle.cjc_token_proof.specs.Types.Steps.{operand}
use Rattle.cjc_joint_theorem.specs.Members.{IsLeft, Member, StandTogether, files_of, homes_of, images_of, member_of}
use Rattle.cjc_joint_theorem.specs.Members.{number_of, tables_of}
use Rattle.cjc_joint_theorem.specs.Together.Calls.{IsStaticIn}
use Rattle.cjc_joint_theorem.specs.Together.Calls as together
use Rattle.cjc_joint_theorem.specs.Together.Homes.{group_look_ups, joint_world}
use Rattle.cjc_joint_theorem.specs.Together.Names.{IsInstanceIn, IsNamedIn}
use Rattle.cjc_joint_theorem.specs.Together.Names as names
use Rattle.cjc_joint_whole.specs.ModesCalls.{IsReceiverIn, named_callee}
use Rattle.cjc_joint_whole.specs.Whole.{AreWhole, AreWholeWith, IsLeftVirtual, IsOfMember, IsSelecting}
use Rattle.cjc_joint_whole.specs.Whole.{IsSelectingCall, SelectionsStand}
use Rattle.cjc_joint_whole.proofs.WholeLaws.Begun.{receiver_of}
use Rattle.cjc_joint_whole.proofs.WholeLaws.Fields.{files_are, has_field, same_field}
use Rattle.cjc_joint_whole.proofs.WholeLaws.FixedCalls.{itself_stands, static_stands}
use Rattle.cjc_joint_whole.proofs.WholeLaws.HiddenStands.{hidden_stands}
use Rattle.cjc_joint_whole.proofs.WholeLaws.Known.{known}
use Rattle.cjc_joint_whole.proofs.WholeLaws.Objects.{fields_have_values, is_made_in}
use Rattle.cjc_joint_whole.proofs.WholeLaws.OpenCalls.{shared_or_not}
use Rattle.cjc_joint_whole.proofs.WholeLaws.Members.{reached_at}
use Rattle.cjc_joint_whole.proofs.WholeLaws.Reached.{IsReached}
use Rattle.cjc_joint_whole.proofs.WholeLaws.Solid.{solid_at}
use Rattle.cjc_joint_whole.proofs.WholeLaws.Statics.{cell_stays}

module _ {K : _} (members : List Member) (is : AreWholeWith K members) (q : ℕ) (p : Member)
    (at : slice_get members q ≡ Some p) where
  -- 310
  variable_off : (class : ClassTree) (op : JOp) → IsInsnOf p.files (let one = is.each q p at in one.codes) class op
      → names_variable p.files op ≡ false
  variable_off class op insn =
      let one = is.each q p at in
      let whole = one.whole in
      (op_fit one.list p.files one.codes one.settings whole.unbroken class op insn).1

  pub static_off : (class : ClassTree) (put : Bool) (id : MemberId) → IsInsnOf p.files (let one = is.each q p at in
      one.codes) class (jop.Static put id)
      → is_imported_variable p.files (find_field (all_classes p.files) id.class id.name id.desc) ≡ false
  unfolding names_variable
  static_off class put id insn = variable_off class (jop.Static put id) insn

  pub field_off : (class : ClassTree) (put : Bool) (id : MemberId) → IsInsnOf p.files (let one = is.each q p at in
      one.codes) class (jop.Field put id)
      → is_imported_variable p.files (find_field (all_classes p.files) id.class id.name id.desc) ≡ false
  unfolding names_variable
  field_off class put id insn = variable_off class (jop.Field put id) insn

module _ (members : List Member) (is : AreWhole members) (p : Member) (m : Method) (at : member_of members m ≡ Some p)
    (t : State) where
  abbrev group : List Files
  group = files_of members

  abbrev v : List Class
  v = all_classes p.files

  abbrev q : ℕ
  q = number_of members m

  abbrev l : Named
  l = group_look_ups group (joint_image (images_of members)) (homes_of members) (tables_of members)

  abbrev stack : List Cell
  stack = cells_of t.stack

  abbrev Alone : JOp → Type 0
  Alone op = IsNamed p.files p.image p.near p.tables m stack op

  abbrev Together : JOp → Type 0
  Together op = IsNamedIn group (joint_image (images_of members)) (homes_of members) (tables_of members) m stack op

  of_field : (class : ClassTree) (put : Bool) (id f : MemberId) (receiver : Cell) → IsInsnOf p.files (let one =
      is.each q p at
      in one.codes) class (jop.Field put id) → is_of v id.class receiver ≡ true
      → IsFieldOf p.files p.image p.near p.tables m id f receiver
      → IsInstanceIn group (joint_image (images_of members)) (homes_of members) (tables_of members) m id f receiver
  of_field class put id f receiver insn fits h =
      let k = known p.files (solid_at members is q p at) id f false h.found (field_off members is q p at class put id insn)
      in
      let one = k.0 in
      let is_field : f ≡ of_class (let c = one.class in c.name) id = k.1 in
      record {
        desc = h.desc;
        found = same_field members is p m at id false one (Instance f) h.found;
        has = λ names on kind some made.
            subst (λ g. HasField l g kind) (sym is_field) (has_field members is p m at id one names
            (ap (is_of v id.class) (sym on) ∙ fits) kind some made);
      }

  -- a call on a receiver, whose types are one word each
  receives : (op : ℕ) (id : MemberId) → IsWordDesc id.desc → IsReceiverIn members id p.files (let n = m.id in n.class)
      stack op → Together (jop.Call op id)
  receives op id word h = names.a_call_on_receiver (subst (λ f. together.IsReceiverIn group l (homes_of members)
      (tables_of members) f (let n = m.id in n.class) stack op id) (sym (files_are members is p m at))
      (receiver_of members is id word p.files (let n = m.id in n.class) stack op h))

  -- a call by invokevirtual
  virtual_stands : (id : MemberId) → IsReached p.files (let one = is.each q p at in one.codes) m (jop.Call 0xB6 id) t
      → (c : calls.IsCallee p.files id) → is_constructor id.name ≡ false
      → (let hit = c.hit in is_selectable hit.flags) ≡ true
      → (IsLeftVirtual members c.hit → Together (jop.Call 0xB6 id)) → Together (jop.Call 0xB6 id)
  virtual_stands id r c plain wanted rest = by (is_package_visible (let hit = c.hit in hit.flags)) refl
      (is_interface (let hit = c.hit in let o = hit.owner in o.flags)) refl
    where
      by : (a : Bool) → is_package_visible (let hit = c.hit in hit.flags) ≡ a → (b : Bool)
          → is_interface (let hit = c.hit in let o = hit.owner in o.flags) ≡ b → Together (jop.Call 0xB6 id)
      by true e b f = receives 0xB6 id c.desc (hidden_stands members is q p at (let one = is.each q p at in one.codes) m
          t id r (named_callee c) plain wanted e (let n = m.id in n.class))
      by false e true f = rest (inl f)
      by false e false f = either (shared_or_not members is q p at (let one = is.each q p at in one.codes) m t id r
          (named_callee c) plain wanted e f (let n = m.id in n.class))
        where
          either : (let hit = c.hit in IsOfMember members hit.owner)
              ⊎ IsReceiverIn members id p.files (let n = m.id in n.class) stack 0xB6 → Together (jop.Call 0xB6 id)
          either (inl shared) = rest (inr shared)
          either (inr h) = receives 0xB6 id c.desc h

  -- a call on a receiver, of a method that is selected or not
  call_stands : (op : ℕ) (id : MemberId) → IsReached p.files (let one = is.each q p at in one.codes) m (jop.Call op id)
      t → ((h : Alone (jop.Call op id)) → IsSelectingCall members h → Together (jop.Call op id))
      → (h : IsReceiverOn p.files (look_ups p.files p.image p.near p.tables) p.tables (let n = m.id in n.class) stack op
      id) → Together (jop.Call op id)
  call_stands op id r selects h = by h.form r (λ wanted. selects (alone.a_call_on_receiver h) wanted)
    where
      by : {op : ℕ} {class : List ℕ} {choice : List ℕ → Option Callee} → (f : Chooses p.files (let n = m.id in n.class)
          id (let c = h.method in c.place) (let c = h.method in c.hit) op class choice) → IsReached p.files (let one =
          is.each q p at in one.codes) m (jop.Call op id) t → (IsSelecting members f → Together (jop.Call op id))
          → Together (jop.Call op id)
      by (calls.on_class plain wanted) r rest = virtual_stands id r h.method plain wanted rest
      by (calls.itself ground special) r rest = receives 0xB7 id (let c = h.method in c.desc) (itself_stands members is
          q p at (let one = is.each q p at in one.codes) m t id r (named_callee h.method) ground special (let n = m.id
          in n.class))
      by (calls.above_holder callee ground plain chosen) r rest = rest tt
      by (calls.by_interface plain wanted) r rest = rest tt

  -- a reached instruction that selects no method
  stand : (op : JOp) → IsReached p.files (let one = is.each q p at in one.codes) m op t
      → ((h : Alone op) → IsSelectingCall members h → Together op) → (h : Alone op) → IsLeft h → Together op
  stand _ r selects (alone.a_field {named = id} f h) left = names.a_field f (of_field r.class false id f (operand stack 0)
      r.insn (r.fits 0 (omega arith)) h)
  stand _ r selects (alone.a_put_field {named = id} f h) left = names.a_put_field f (of_field r.class true id f
      (operand stack 1) r.insn (r.fits 1 (omega arith)) h)
  stand _ r selects (alone.a_static {put = put} {named = id} f h) left =
      let k = known p.files (solid_at members is q p at) id f true h.found (static_off members is q p at r.class put id
      r.insn) in
      names.a_static f (record {
        desc = h.desc;
        found = same_field members is p m at id true k.0 (Static f) h.found;
        has = cell_stays members is q p at f h.has;
      })
  stand _ r selects (alone.a_class {class = class} fields made are) left =
      let c = is_made_in members is q p at class fields made in
      names.a_class (object_fields (joint_world group) class) (ap (λ f. have_class (Some f) class) (files_are members is
      p m at) ∙ c.0) c.1 (fields_have_values members is class)
  stand _ r selects (alone.a_static_call {id = id} h) left = names.a_static_call (subst (λ f. IsStaticIn group
      (homes_of members) (tables_of members) f id) (sym (files_are members is p m at)) (static_stands members is q p at
      id h))
  stand _ r selects (alone.a_call_on_receiver {op = op} {id = id} h) left = call_stands op id r selects h
  stand _ r selects (alone.names_nothing plain) left = elim left [ ]
  stand _ r selects (alone.is_on_array on) left = elim left [ ]
  stand _ r selects (alone.returns is_one) left = elim left [ ]
  stand _ r selects alone.throws left = elim left [ ]
  stand _ r selects (alone.a_constant z number holds found) left = elim left [ ]
  stand _ r selects (alone.an_array c there) left = elim left [ ]
  stand _ r selects alone.booleans left = elim left [ ]
  stand _ r selects alone.bytes left = elim left [ ]
  stand _ r selects alone.shorts left = elim left [ ]
  stand _ r selects (alone.a_cast kind named there) left = elim left [ ]
  stand _ r selects (alone.a_test kind named there) left = elim left [ ]

module _ (members : List Member) (is : AreWhole members) where
  pub names_stand : SelectionsStand members → StandTogether members
  names_stand selects p m at place i t there row h left = stand members is p m at t i.op (reached_at members is
      (number_of members m) p at m place i t there row) (λ g wanted. selects p m at place i t there row g wanted) h left
