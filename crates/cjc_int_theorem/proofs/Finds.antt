-- What code and scripts of a package by modes name is found as whole runs by modes ask, where each of its methods begins
-- in its mode.
use Rattle.std.proofs.Common.{◌≡◌, ℕ, refl, sym, ap, subst, ◌∙◌, Bool, true, false, not, List}
use Rattle.std.specs.Prelude.{Some}
use Rattle.std.specs.List.{list_all}
use Rattle.cjc_bytes.specs.AccessFlags.{is_static}
use Rattle.cjc_bytes.specs.declared.fault.MemberId.{MemberId}
use Rattle.cjc_check_proof.specs.WorldProof.Calls.Solid.{IsSolid}
use Rattle.cjc_check_proof.specs.WorldProof.Calls.Targets.{IsOwnCode, IsReceiver, IsTarget}
use Rattle.cjc_check_proof.specs.WorldProof.Calls.Targets as targets
use Rattle.cjc_check_proof.proofs.WorldProofTypes.{below_type}
use Rattle.cjc_classes.specs.JvmSemantics.Linked.{Callee, Method}
use Rattle.cjc_classes.specs.JvmSemantics.OnePackage.{is_initialiser, method_by}
use Rattle.cjc_classes.specs.List.Listed.{ListTree}
use Rattle.cjc_classes.specs.Types.Flow.{Body}
use Rattle.cjc_classes.specs.Types.declared.cell.Cell.{Cell}
use Rattle.cjc_classes.specs.Types.declared.cell.Cell.TheVariants.{Refs}
use Rattle.cjc_components.specs.Bytecode.declared.insn.JOp.{JOp}
use Rattle.cjc_components.specs.Bytecode.declared.insn.JOp.TheVariants as jop
use Rattle.cjc_components.specs.Bytecode.declared.method_code.MethodCode.{MethodCode}
use Rattle.cjc_components.specs.Package.{Package}
use Rattle.cjc_jvm_semantics.specs.ByName.{linked}
use Rattle.cjc_narrow_proof.specs.Laws.Unbroken.{IsInsnOf, KeepsNames}
use Rattle.cjc_narrow_proof.specs.NCode.ByLabel.{Named}
use Rattle.cjc_narrow_proof.specs.NCode.declared.narrow.NMethod.{NMethod}
use Rattle.cjc_narrow_proof.specs.Runs.Tables.{Tables}
use Rattle.cjc_narrow_proof.specs.Script.Sorts.{field_sort, shape_name}
use Rattle.cjc_narrow_proof.proofs.LawsLaws.ClassNames.{own_name}
use Rattle.cjc_narrow_proof.proofs.LawsLaws.Own.{class_by_name, flags_by_name}
use Rattle.cjc_shape.specs.LowerJudge.Rules.{settings_of}
use Rattle.cjc_shape_proof.specs.Finds.{IsNamedMethod, IsOfClass, IsOnReceiver, IsReceiverFound, IsScriptFound}
use Rattle.cjc_shape_proof.specs.Finds.{IsStaticFieldFound, IsUsable, finds_cell, finds_constant, finds_member}
use Rattle.cjc_shape_proof.specs.Finds.{finds_none}
use Rattle.cjc_shape_proof.specs.Whole.{Accepts}
use Rattle.cjc_shape_proof.specs.Written.Checked.{IsChecked}
use Rattle.cjc_shape_proof.proofs.FindsLaws.Calls.{interface_call, special_call, static_call, virtual_call}
use Rattle.cjc_shape_proof.proofs.FindsLaws.Descs.{parts_are}
use Rattle.cjc_shape_proof.proofs.FindsLaws.Fields.{field_is, value_field}
use Rattle.cjc_shape_proof.proofs.FindsLaws.Receivers.{root_abroad, root_of}
use Rattle.cjc_shape_proof.proofs.FindsLaws.Scripts.{called_plain, script_is, sent_plain}
use Rattle.cjc_shape_proof.proofs.WrittenLaws.Checked.{are_spelt, own_names, own_solid, read_files}
use Rattle.cjc_theorem.proofs.WholeRuns.Statics.{static_found}
use Rattle.cjc_int_alike.specs.ByModes.{analysis_by_mode, bodies_by_mode, codes_by_mode, look_ups_by_mode, result_in}
use Rattle.cjc_int_alike.specs.Calls.{IsIntDesc}
use Rattle.cjc_int_alike.specs.Callees.{IsBegunByMode}
use Rattle.cjc_int_alike.specs.Converted.{IsFoundByMode, a_member, no_method}
use Rattle.cjc_int_alike.specs.Named.{IsFieldDesc, IsIntFieldOf, IsIntNamed, a_constant, a_static, calls}
use Rattle.cjc_int_alike.specs.Reached.{IsBegunIn, IsChosenIn, IsIntCallee, IsIntReceiverOn, IsIntStaticOn, IsReachedIn}
use Rattle.cjc_int_alike.specs.Reached.{abroad, abroad_of, inside, inside_of}
use Rattle.cjc_int_alike.proofs.Reached.{receiver_called, static_called}
use Rattle.cjc_int_theorem.proofs.IntTables.{int_desc, of_values}
use Rattle.cjc_int_theorem.specs.Tabled.{IsOwnMethod}
use Rattle.cjc_world.specs.ClassFile.declared.tree.ClassTree.{ClassTree}
use Rattle.cjc_world.specs.Classes.{Class, all_classes}
use Rattle.cjc_world.specs.Lookup.{object}
use Rattle.cjc_world.specs.Subtype.{is_subtype}

-- 301 of a method that may have int
pub usable_method : (desc : List ℕ) → IsUsable true desc → IsIntDesc desc
usable_method desc d = int_desc desc d.types d.short d.is_desc d.of_method d.supported

-- 301 of a field that may be int
pub usable_field : (desc : List ℕ) → IsUsable false desc → IsFieldDesc desc
usable_field desc d = record {
  is_desc = parts_are desc d.types d.short d.is_desc;
  some_value = of_values (field_sort desc) (value_field desc d.types d.short d.is_desc d.of_method d.supported);
}

module _ (list : ListTree) (codes : List MethodCode) (p : Package) (is : IsChecked list codes p) (near : List MemberId)
    (tables : Tables) (is_int : Method → Bool)
    (begins : (m : Method) → IsOwnMethod p.files m → IsBegunByMode (linked p.files p.image)
    (look_ups_by_mode p.files p.image near tables is_int) (all_classes p.files)
    (analysis_by_mode p.files p.image near tables is_int) (bodies_by_mode p.files p.image near tables is_int)
    (result_in p.files p.image near tables is_int) m) where
  abbrev w : List Class
  w = all_classes p.files

  abbrev l : Named
  l = look_ups_by_mode p.files p.image near tables is_int

  abbrev written : Method → NMethod
  written = codes_by_mode p.files p.image near tables is_int

  kept : KeepsNames list.name p.files codes (settings_of list)
  kept = own_names list codes p is

  solid : IsSolid p.files
  solid = own_solid list codes p is

  root : IsReceiver w object
  root = root_of p.files is.exports

  -- ---- the methods that are begun

  begun : (on : Bool) (id : MemberId) → is_initialiser id.name ≡ false → (m : Method) (code : IsOwnCode p.files id m)
      → is_static (let k = code.method in k.flags) ≡ not on
      → IsBegunIn p.files p.image near tables is_int on id.desc m
  begun on id other m code static =
      let own = code.own in
      let plain = ap is_initialiser code.name ∙ other in
      subst (IsBegunIn p.files p.image near tables is_int on id.desc) (sym code.is) (record {
        begun = begins (method_by code.class code.method (Some code.tree)) (record {
          class = code.class;
          method = code.method;
          tree = code.tree;
          own = own;
          plain = plain;
          is_code = code.is_code;
          is = refl;
        });
        desc = code.desc;
        flags = ap is_static (flags_by_name p.files list.name is.listed is.unbroken own.number code.class own.is_class
            own.place code.method own.is_method) ∙ static;
        named = own_name p.files list.name is.listed is.unbroken (are_spelt list codes p is) own.number code.class
            own.is_class;
      })

  reached : (id : MemberId) → is_initialiser id.name ≡ false → (callee : Callee) → IsTarget p.files id IsOfClass callee
      → IsReachedIn p.files p.image near tables is_int id callee
  reached id other _ (targets.inside {m = m} code static) = inside (begun false id other m code static)
  reached id other _ (targets.abroad e) = abroad e

  chosen : (id : MemberId) → is_initialiser id.name ≡ false → (type : List ℕ) (callee : Callee)
      → IsTarget p.files id (IsOnReceiver p.files type) callee
      → IsChosenIn p.files p.image near tables is_int id type callee
  chosen id other type _ (targets.inside {m = m} code on) =
      let own = code.own in
      let open_name = solid.plain (let t = code.class in t.name) _ (class_by_name p.files list.name is.listed
      is.unbroken own.number code.class own.is_class) in
      inside_of (begun true id other m code on.0) (subst (λ n. is_subtype w type n ≡ true)
      (sym (ap (λ (n : Method). let i = n.id in i.class) code.is)) (below_type w type (let t = code.class
      in t.name) open_name on.1))
  chosen id other type _ (targets.abroad e) = abroad_of e

  -- ---- calls

  callee_is : (id : MemberId) → IsNamedMethod p.files id → IsIntCallee p.files id
  callee_is id c = record {
    place = c.place;
    hit = c.hit;
    found = c.found;
    is_hit = c.is_hit;
    again = c.again;
    above = c.above;
    no_initialiser = c.no_initialiser;
    desc = usable_method id.desc c.desc;
    result = c.result;
  }

  module _ (class : ClassTree) (m : Method) (own : (let id = m.id in id.class) ≡ class.name) (stack : List Cell) where
    abbrev Names : JOp → Type 0
    Names op = IsIntNamed p.files p.image near tables is_int m stack op

    pub static_named : (id : MemberId) → IsInsnOf p.files codes class (jop.Call 0xB8 id) → Names (jop.Call 0xB8 id)
    unfolding callee_is
    static_named id at = calls (static_called p.files p.image near tables is_int m id stack on)
      where
        on : IsIntStaticOn p.files p.image near tables is_int id
        on =
            let s = static_call list.name p.files codes (settings_of list) kept (are_spelt list codes p is)
            (read_files list codes p is) solid root p.image written class id at in
            let c = s.method in
            record {
              method = callee_is id c;
              is_static_one = s.is_static_one;
              no_constructor = s.no_constructor;
              callee = s.callee;
              reaches = s.reaches;
              is_reached = reached id c.no_initialiser s.callee s.target;
            }

    on_receiver : (op : ℕ) (id : MemberId) → IsReceiverFound p.files l class.name stack op id → Names (jop.Call op id)
    unfolding callee_is
    on_receiver op id r = calls (receiver_called p.files p.image near tables is_int m stack op id
        (subst (λ holder. IsIntReceiverOn p.files p.image near tables is_int holder stack op id) (sym own) on))
      where
        on : IsIntReceiverOn p.files p.image near tables is_int class.name stack op id
        on =
            let c = r.method in
            record {
              method = callee_is id c;
              class = r.class;
              choice = r.choice;
              form = r.form;
              choices = λ names has kind one made.
                  (let x = r.choices names has kind one made in
                  record {
                    is_of = x.is_of;
                    callee = x.callee;
                    chooses = x.chooses;
                    is_chosen = chosen id c.no_initialiser (shape_name kind) x.callee x.target;
                  });
            }

    pub virtual_named : (b : Body) (id : MemberId) → IsInsnOf p.files codes class (jop.Call 0xB6 id)
        → Accepts p.files b 0xB6 id stack → Names (jop.Call 0xB6 id)
    virtual_named b id at fits = on_receiver 0xB6 id (virtual_call list.name p.files codes (settings_of list) kept
        (are_spelt list codes p is) (read_files list codes p is) solid root p.image written b stack class.name class id
        at fits)

    pub interface_named : (b : Body) (id : MemberId) → IsInsnOf p.files codes class (jop.Call 0xB9 id)
        → Accepts p.files b 0xB9 id stack → Names (jop.Call 0xB9 id)
    interface_named b id at fits = on_receiver 0xB9 id (interface_call list.name p.files codes (settings_of list) kept
        (are_spelt list codes p is) (read_files list codes p is) solid root p.image written b stack class.name class id
        at fits)

    pub special_named : (b : Body) (id : MemberId) → b.class ≡ class.name
        → IsInsnOf p.files codes class (jop.Call 0xB7 id) → Accepts p.files b 0xB7 id stack → Names (jop.Call 0xB7 id)
    special_named b id holder at fits = on_receiver 0xB7 id (special_call list.name p.files codes (settings_of list)
        kept (are_spelt list codes p is) (read_files list codes p is) solid root p.image written b stack class id holder
        at fits)

    -- ---- fields

    pub field_named : (put : Bool) (id : MemberId) → IsInsnOf p.files codes class (jop.Field put id)
        → (cell : Cell) → ((names : List (List ℕ)) → cell ≡ Refs names
        → list_all (λ name. is_subtype w name id.class) names ≡ true)
        → (f : MemberId) × IsIntFieldOf p.files p.image near tables is_int m id f cell
    unfolding root
    field_named put id at cell fits =
        let f = field_is list.name p.files codes (settings_of list) kept (read_files list codes p is) solid root
        (root_abroad p.files is.exports) p.image written class put id at cell fits in
        (f.target, record { desc = usable_field id.desc f.desc; found = f.found; has = f.has })

    pub cell_named : (put : Bool) (id : MemberId) → IsInsnOf p.files codes class (jop.Static put id)
        → Names (jop.Static put id)
    cell_named put id at = by put (static_found list.name p.files codes (settings_of list) kept
        (read_files list codes p is) solid p.image class put id at)
      where
        by : (put : Bool) → IsStaticFieldFound p.files p.image put id → Names (jop.Static put id)
        by false (finds_constant z reads usable number held found) = a_constant z number held found
        by true (finds_constant z reads usable number held found) = absurd cc
        by put (finds_cell target d found has) = a_static target (record {
          desc = usable_field id.desc d;
          found = found;
          has = has;
        })

  -- ---- what scripts name

  pub script_named : (id : MemberId) → IsFoundByMode p.files p.image near tables is_int id
  script_named id = by (script_is list.name p.files codes (settings_of list) kept (read_files list codes p is) solid
      root p.image written id)
    where
      by : IsScriptFound p.files l id → IsFoundByMode p.files p.image near tables is_int id
      by (finds_none not_called not_sent) = no_method not_called not_sent
      by (finds_member o) = a_member (record {
        desc = usable_method id.desc o.desc;
        known = o.known;
        is_called = λ m e. (let r = o.is_called m e in begun false id (called_plain p.files w id m e) m r.0 r.1);
        is_sent = λ kind m made e. (let s = o.is_sent kind m made e in begun true id (sent_plain p.files w
            (shape_name kind) id m e) m s.0 s.1);
        receives = o.receives;
      })
