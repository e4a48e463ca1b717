-- What is found in a package in which no method works on int: what is named is of types of one word each, and the
-- methods of the package that are reached have tables.
use Rattle.std.proofs.Common.{◌≡◌, ℕ, sym, ap, ◌∙◌, Bool, true, false, List, ⊎_elim}
use Rattle.std.specs.List.{list_all}
use Rattle.cjc_bytes.specs.declared.fault.MemberId.{MemberId}
use Rattle.cjc_bytes.specs.declared.settings.Settings.{Settings}
use Rattle.cjc_bytes.proofs.Bools.{true_or_false, true_not_false}
use Rattle.cjc_check_proof.specs.WorldProof.Calls.Solid.{IsSolid}
use Rattle.cjc_check_proof.specs.WorldProof.Calls.Targets.{IsOwnCode, IsReceiver}
use Rattle.cjc_check_proof.specs.WorldProof.Files.{AreReadFiles}
use Rattle.cjc_check_proof.proofs.WorldProofScripts.{called_method}
use Rattle.cjc_classes.specs.JvmSemantics.Linked.{Method}
use Rattle.cjc_classes.specs.JvmSemantics.OnePackage.{entry_named, is_initialiser, sent_named}
use Rattle.cjc_classes.specs.Subset.Ints.{works_on_int}
use Rattle.cjc_classes.specs.Subset.Types.{is_int_desc}
use Rattle.cjc_classes.specs.Types.Flow.{Body}
use Rattle.cjc_classes.specs.Types.declared.cell.Cell.{Cell}
use Rattle.cjc_classes.specs.Types.declared.cell.Cell.TheVariants.{Refs}
use Rattle.cjc_components.specs.Bytecode.declared.insn.JOp.TheVariants as jop
use Rattle.cjc_components.specs.Bytecode.declared.method_code.MethodCode.{MethodCode}
use Rattle.cjc_narrow_proof.specs.Laws.Unbroken.{AreSpelt, IsInsnOf, IsUnbroken}
use Rattle.cjc_narrow_proof.specs.NCode.ByLabel.{Named}
use Rattle.cjc_narrow_proof.specs.NCode.declared.narrow.NMethod.{NMethod}
use Rattle.cjc_narrow_proof.specs.Runs.Calls.{IsCallee, IsReceiverOn, IsStaticOn}
use Rattle.cjc_narrow_proof.specs.Runs.Converted.{IsFound, IsMember, a_member, no_method}
use Rattle.cjc_narrow_proof.specs.Runs.Names.{IsFieldOf}
use Rattle.cjc_narrow_proof.specs.Runs.Tables.{Tables, look_ups, narrow_codes}
use Rattle.cjc_narrow_proof.specs.Script.Sorts.{shape_name}
use Rattle.cjc_narrow_proof.specs.Tables.Calls.{IsWordDesc}
use Rattle.cjc_narrow_proof.proofs.LawsLaws.Instructions.{kept_names}
use Rattle.cjc_narrow_proof.proofs.LawsLaws.OwnTypes.{called_word_desc}
use Rattle.cjc_narrow_proof.proofs.LawsLaws.WordTypes.{word_desc}
use Rattle.cjc_narrow_proof.proofs.SelectedLaws.IntFree.{op_free, own_desc}
use Rattle.cjc_shape_proof.specs.Finds.{IsMemberFound, IsNamedMethod, IsReceiverFound, IsScriptFound}
use Rattle.cjc_shape_proof.specs.Finds.{finds_member, finds_none}
use Rattle.cjc_shape_proof.specs.Whole.{Accepts, AreTabled}
use Rattle.cjc_shape_proof.proofs.FindsLaws.Begun.{begun, chosen, reached}
use Rattle.cjc_shape_proof.proofs.FindsLaws.Calls.{interface_call, special_call, static_call, virtual_call}
use Rattle.cjc_shape_proof.proofs.FindsLaws.Fields.{field_is, word_field}
use Rattle.cjc_shape_proof.proofs.FindsLaws.Scripts.{called_plain, none_where, script_is, sent_plain, sent_to}
use Rattle.cjc_world.specs.ClassFile.declared.tree.ClassTree.{ClassTree}
use Rattle.cjc_world.specs.Classes.{Class, all_classes}
use Rattle.cjc_world.specs.Files.{Files}
use Rattle.cjc_world.specs.Lookup.{object}
use Rattle.cjc_world.specs.Subtype.{is_subtype}
use Rattle.cjc_world.specs.declared.image.StaticImage.{StaticImage}

module _ (list : List ℕ) (files : Files) (codes : List MethodCode) (settings : Settings) (is : IsUnbroken list files
    codes settings) (spelt : AreSpelt files) (read : AreReadFiles files) (solid : IsSolid files)
    (root : IsReceiver (all_classes files) object)
    (image : StaticImage) (near : List MemberId) (tables : Tables) (tabled : AreTabled files codes tables) where
  abbrev w : List Class
  w = all_classes files

  abbrev l : Named
  l = look_ups files image near tables

  abbrev written : Method → NMethod
  written = narrow_codes files near tables

  -- ---- calls

  callee_is : (id : MemberId) → IsWordDesc id.desc → (c : IsNamedMethod files id) → IsCallee files id
  callee_is id desc c = record {
    place = c.place;
    hit = c.hit;
    found = c.found;
    is_hit = c.is_hit;
    again = c.again;
    above = c.above;
    no_initialiser = c.no_initialiser;
    desc = desc;
    result = c.result;
  }

  named_words : (class : ClassTree) (op : ℕ) (id : MemberId) → IsInsnOf files codes class (jop.Call op id)
      → IsNamedMethod files id → IsWordDesc id.desc
  named_words class op id at c = let d = c.desc in called_word_desc list files codes settings is class op id at d.types
      d.short d.is_desc d.of_method

  pub static_is : (class : ClassTree) (id : MemberId) → IsInsnOf files codes class (jop.Call 0xB8 id)
      → IsStaticOn files tables id
  unfolding callee_is
  static_is class id at =
      let s = static_call list files codes settings (kept_names is) spelt read solid root image written class id at in
      let c = s.method in
      record {
        method = callee_is id (named_words class 0xB8 id at c) c;
        is_static_one = s.is_static_one;
        no_constructor = s.no_constructor;
        callee = s.callee;
        reaches = s.reaches;
        is_reached = reached list files codes settings is spelt tables tabled id c.no_initialiser _ s.callee
            (λ t k h. h) s.target;
      }

  on_receiver : (holder : List ℕ) (stack : List Cell) (op : ℕ) (class : ClassTree) (id : MemberId)
      → IsInsnOf files codes class (jop.Call op id) → IsReceiverFound files l holder stack op id
      → IsReceiverOn files l tables holder stack op id
  unfolding callee_is
  on_receiver holder stack op class id at r =
      let c = r.method in
      record {
        method = callee_is id (named_words class op id at c) c;
        class = r.class;
        choice = r.choice;
        form = r.form;
        choices = λ names on kind one made.
            (let x = r.choices names on kind one made in
            record {
              is_of = x.is_of;
              callee = x.callee;
              chooses = x.chooses;
              is_chosen = chosen list files codes settings is spelt tables tabled solid.plain id c.no_initialiser
                  (shape_name kind) _ x.callee (λ t k h. h) x.target;
            });
      }

  pub virtual_is : (b : Body) (stack : List Cell) (holder : List ℕ) (class : ClassTree) (id : MemberId)
      → IsInsnOf files codes class (jop.Call 0xB6 id) → Accepts files b 0xB6 id stack
      → IsReceiverOn files l tables holder stack 0xB6 id
  virtual_is b stack holder class id at accepts_one = on_receiver holder stack 0xB6 class id at
      (virtual_call list files codes settings (kept_names is) spelt read solid root image written b stack holder class
      id at accepts_one)

  pub interface_is : (b : Body) (stack : List Cell) (holder : List ℕ) (class : ClassTree) (id : MemberId)
      → IsInsnOf files codes class (jop.Call 0xB9 id) → Accepts files b 0xB9 id stack
      → IsReceiverOn files l tables holder stack 0xB9 id
  interface_is b stack holder class id at accepts_one = on_receiver holder stack 0xB9 class id at
      (interface_call list files codes settings (kept_names is) spelt read solid root image written b stack holder class
      id at accepts_one)

  pub special_is : (b : Body) (stack : List Cell) (class : ClassTree) (id : MemberId) → b.class ≡ class.name
      → IsInsnOf files codes class (jop.Call 0xB7 id) → Accepts files b 0xB7 id stack
      → IsReceiverOn files l tables class.name stack 0xB7 id
  special_is b stack class id is_holder at accepts_one = on_receiver class.name stack 0xB7 class id at
      (special_call list files codes settings (kept_names is) spelt read solid root image written b stack class id
      is_holder at accepts_one)

  -- ---- fields

  pub field_of : (root_abroad : (let r = root in let c = r.class in c.is_imported) ≡ true) (class : ClassTree)
      (put : Bool) (id : MemberId) → IsInsnOf files codes class (jop.Field put id)
      → (cell : Cell) → ((names : List (List ℕ)) → cell ≡ Refs names → list_all (λ name. is_subtype w name id.class)
      names ≡ true)
      → (m : Method) → (f : MemberId) × IsFieldOf files image near tables m id f cell
  unfolding works_on_int
  field_of root_abroad class put id at cell accepts_one m =
      let f = field_is list files codes settings (kept_names is) read solid root root_abroad image written class put id
      at cell accepts_one in
      let d = f.desc in
      let no_int : is_int_desc id.desc ≡ false = op_free files codes is.no_int class (jop.Field put id) at in (
        f.target,
        record {
          desc = word_field id.desc d.types d.short d.is_desc d.of_method d.supported no_int;
          found = f.found;
          has = f.has;
        },
      )

  -- ---- what scripts name

  -- a method with code that is no initialiser does not name int
  code_free_of : (id : MemberId) → is_initialiser id.name ≡ false → (m : Method) → IsOwnCode files id m
      → is_int_desc id.desc ≡ false
  code_free_of id plain m code =
      let k = code.method in
      let h = tabled.own code.class k code.tree code.own (ap is_initialiser code.name ∙ plain) code.is_code in
      let same : k.desc ≡ (let n = h.method in n.desc) = ap (λ (x : Method). let i = x.id in i.desc) h.is in
      let free = own_desc files h.code h.class h.method h.tree h.of_package (is.no_int h.code h.class h.method h.tree
      h.listed h.of_package h.written) in
      ap is_int_desc (sym code.desc ∙ same) ∙ free

  member_is : (id : MemberId) → IsMemberFound files l id → is_int_desc id.desc ≡ false → IsMember files l tables id
  member_is id o no_int =
      let d = o.desc in
      record {
        desc = word_desc id.desc d.types d.short d.is_desc d.of_method d.supported no_int;
        known = o.known;
        is_called = λ m e. (let r = o.is_called m e in begun list files codes settings is spelt tables tabled false id
            (called_plain files w id m e) m r.0 r.1);
        is_sent = λ kind m made e. (let s = o.is_sent kind m made e in begun list files codes settings is spelt tables
            tabled true id (sent_plain files w (shape_name kind) id m e) m s.0 s.1);
        receives = o.receives;
      }

  -- no method with code has a descriptor that names int
  int_is : (id : MemberId) → is_int_desc id.desc ≡ true → IsFound files l tables id
  int_is id int = no_method
      (none_where (entry_named files w id) (λ m e. true_not_false (is_int_desc id.desc) int
      (code_free_of id (called_plain files w id m e) m (called_method files solid id m e).0)))
      (λ kind made. none_where (sent_named files w (shape_name kind) id) (λ m e. true_not_false (is_int_desc id.desc)
      int (code_free_of id (sent_plain files w (shape_name kind) id m e) m
      (let s = sent_to list files codes settings (kept_names is) read solid root image written id kind m made e
      in s.code))))

  pub found_is : (id : MemberId) → IsFound files l tables id
  found_is id = ⊎_elim (int_is id)
      (λ no_int. by no_int (script_is list files codes settings (kept_names is) read solid root image written id))
      (true_or_false (is_int_desc id.desc))
    where
      by : is_int_desc id.desc ≡ false → IsScriptFound files l id → IsFound files l tables id
      by no_int (finds_member o) = a_member (member_is id o no_int)
      by no_int (finds_none not_called not_sent) = no_method not_called not_sent
