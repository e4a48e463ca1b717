-- The tables of a package agree with the look-ups by name: classes, objects, static fields and names.
use Rattle.std.proofs.Common.{◌≡◌, ℕ, refl, sym, ap, ◌∙◌, Bool, true, false, List, [], ◌∷◌}
use Rattle.std.specs.Prelude.{not, ◌&&◌, ◌||◌, map, Option, Some, None, is_some, option_and_then, option_map}
use Rattle.std.specs.Prelude.{if◌then◌else◌, codes}
use Rattle.std.specs.List.{list_any}
use Rattle.std.specs.Str.{bytes_eq}
use Rattle.cjc_bytes.specs.AccessFlags.{is_abstract, is_interface}
use Rattle.cjc_bytes.specs.declared.fault.MemberId.{MemberId}
use Rattle.cjc_card_semantics.specs.Bytecode.Calculations.{Fault, Arithmetic, NullPointer, IndexOutside, NegativeSize}
use Rattle.cjc_card_semantics.specs.Bytecode.Calculations.{ClassCast, ArrayStore}
use Rattle.cjc_card_semantics.specs.Bytecode.Effects.{Slot, Object}
use Rattle.cjc_card_semantics.specs.Bytecode.Renaming.{KnownHeapObject, KnownShape, keys, object_known, option_as}
use Rattle.cjc_card_semantics.specs.Machine.ByToken as ByToken
use Rattle.cjc_card_semantics.specs.Machine.Classes.{IsInterface, IsClass, Own, class_of, is_interface_file}
use Rattle.cjc_card_semantics.specs.Machine.Classes.{is_interface_info}
use Rattle.cjc_card_semantics.specs.Machine.Classes as card
use Rattle.cjc_world_proof.specs.Bytecode.declared.method_code.MethodCode.{MethodCode}
use Rattle.cjc_script.specs.Sorts.{Shape, OfClass, OfNumbers, OfReferences}
use Rattle.cjc_world.specs.Classes.{Class, class_named}
use Rattle.cjc_world.specs.Subtype.{is_subtype}
use Rattle.cjc_world.proofs.Cycles.{class_named-name}
use Rattle.cjc_jvm_semantics.specs.Linked.{Method}
use Rattle.cjc_jvm_semantics.specs.OnePackage.{is_made, is_plain_import, made_of, object_fields}
use Rattle.cjc_world_proof.specs.LowerClinit.Image.{IsImage}
use Rattle.cjc_ncode.specs.ByLabel.{Callee, Named, shown_slot}
use Rattle.cjc_ncode.specs.declared.narrow.NMethod.{NMethod}
use Rattle.cjc_components.specs.LowerNarrow.Rows.Package.{name_there, named, named_by, plain_import}
use Rattle.cjc_components.specs.LowerNarrow.Rows.Package as narrow
use Rattle.cjc_ncode.specs.Lowering.Agreement.{known_by}
use Rattle.cjc_ncode.specs.Lowering.Naming.{IsClass as MeansClass}
use Rattle.cjc_world_proof.specs.Initialisers.Values.{StandOnce}
use Rattle.cjc_token_proof.specs.ByToken.Classes.{SaysClasses, memories, tests}
use Rattle.cjc_token_proof.specs.ByToken.Names.{IsImport, NamesAgree}
use Rattle.cjc_token_proof.specs.ByToken.Objects.{slots_of}
use Rattle.cjc_token_proof.specs.ByToken.Supers.{HasShape, KindsAgree, has_class}
use Rattle.cjc_token_proof.proofs.ByToken.Classes.{classes_alike}
use Rattle.cjc_token_proof.proofs.ByToken.Members.{member_same}
use Rattle.cjc_token_proof.proofs.ByToken.Names as names
use Rattle.cjc_token_proof.proofs.ByToken.Objects as objects
use Rattle.cjc_token_proof.proofs.ByToken.Subtypes as kinds
use Rattle.cjc_components.specs.Package.{Package, world}
use Rattle.cjc_components.specs.Class.{class_entry, interface_entry}
use Rattle.cjc_components.specs.Names.{class_at, class_ref, ref_to}
use Rattle.cjc_token_proof.specs.Tables.Known.{is_holder, is_own_exception, known_names, may_hold, may_name}
use Rattle.cjc_token_proof.specs.Tables.Known.{own_exceptions, same_members}
use Rattle.cjc_token_proof.specs.Tables.Loading.{loaded, naming, part}
use Rattle.cjc_token_proof.specs.Tables.Sound.{AreTyped, IsSound}
use Rattle.cjc_token_proof.specs.Tables.Tables.{ClassTablesAgree}
use Rattle.cjc_token_proof.proofs.TablesLaws.Above.{entry_of_name, info_of_name, says_kinds}
use Rattle.cjc_token_proof.proofs.TablesLaws.Infos.{none_at_zero}
use Rattle.cjc_token_proof.proofs.TablesLaws.Named.{has_none}
use Rattle.cjc_token_proof.proofs.TablesLaws.Objects.{has_objects, import_holds}
use Rattle.cjc_token_proof.proofs.TablesLaws.Statics.{cells_shown, has_cells, offset_is}
use Rattle.cjc_token_proof.proofs.TablesLaws.Telling.{has_lang, says_names}

same_all : (fs : List MemberId) → same_members fs fs ≡ true
same_all [] = refl
same_all (f ∷ fs) = ap (λ b. b && same_members fs fs) (member_same f) ∙ same_all fs

module _ (list : List ℕ) (p : Package) (sound : IsSound list p.files) where
  abbrev w : List Class
  w = world p

  pub kinds_agree : KindsAgree w (naming p)
  kinds_agree = kinds.kinds_agree w (naming p) (says_kinds list p sound)

  pub names_agree : NamesAgree w (naming p)
  names_agree = names.names_agree w (naming p) (part p) (says_names list p sound) (has_lang list p sound) kinds_agree

  -- a class_ref that means a class is of one that some file has
  means_there : (x : List ℕ) → MeansClass (naming p) x → has_class w x ≡ true
  means_there x h = by (class_named w x) refl
    where
      by : (o : Option Class) → class_named w x ≡ o → is_some (class_named w x) ≡ true
      by (Some c) e = ap is_some e
      by None e =
          let r = has_none list p sound x e in
          let nowhere : class_of (loaded p) 0 (class_ref p x) ≡ None = ap (λ c. class_of (loaded p) 0 (ref_to c))
          r.on_card ∙ ap (λ o. if is_some o then Some (Own 0 0) else None) (none_at_zero p) in
          let clash : None ≡ Some (class_at p x) = sym nowhere ∙ h in
          absurd (cc)

  plain_is : (x y : List ℕ) → plain_import w x ≡ Some y → (y ≡ x)
      × ((i : IsImport w x) × (is_interface i.class.flags ≡ false))
  plain_is x y e = by (class_named w x) refl e
    where
      parts : (a b : Bool) → (a && not b) ≡ true → (a ≡ true) × (b ≡ false)
      parts true true f = cc
      parts true false f = (refl, refl)
      parts false b f = cc

      only : (b : Bool) → (if b then Some x else None) ≡ Some y → (y ≡ x) × (b ≡ true)
      only true f = let is : x ≡ y = cc in (sym is, refl)
      only false f = cc

      by : (o : Option Class) → class_named w x ≡ o → (if is_plain_import o then Some x else None) ≡ Some y → (y ≡ x)
          × ((i : IsImport w x) × (is_interface i.class.flags ≡ false))
      by None m f = cc
      by (Some c) m f = let r = only (is_plain_import (Some c)) f in let q = parts c.is_imported (is_interface c.flags)
          r.1 in (r.0, (record { class = c; there = m; imported = q.0 }, q.1))

  there_is : (x y : List ℕ) → name_there w x ≡ Some y → (y ≡ x) × (has_class w x ≡ true)
  there_is x y e = by (class_named w x) refl e
    where
      by : (o : Option Class) → class_named w x ≡ o → option_map (λ (c : Class). c.name) o ≡ Some y → (y ≡ x)
          × (is_some (class_named w x) ≡ true)
      by None m f = cc
      by (Some c) m f = let is : c.name ≡ y = cc in (sym is ∙ class_named-name w x c m, ap is_some m)

  module _ (typed : AreTyped p.files) (insns : List MethodCode) (image : IsImage p.files insns p.image)
      (once : StandOnce p.files insns) (call : Callee → Bool) where
    -- an imported class of which there are objects is there, and they hold nothing
    import_known : (x : List ℕ) (i : IsImport w x) → is_holder (Some i.class) ≡ true → (has_class w x ≡ true)
        × (may_hold w x [] ≡ true)
    import_known x i holds = (ap is_some i.there, import_holds list p sound typed x i.class i.there i.imported holds)

    -- no interface
    plain_holds : (c : Class) → c.is_imported ≡ true → is_interface c.flags ≡ false → is_holder (Some c) ≡ true
    plain_holds c im f = ap (λ b. if b then is_own_exception c else (c.is_imported || not (is_abstract c.flags))) f
        ∙ ap (λ b. b || not (is_abstract c.flags)) im

    -- an exception of the machine's own
    exception_holds : (c : Class) → c.is_imported ≡ true → list_any (λ name. bytes_eq name c.name) own_exceptions ≡ true
        → is_holder (Some c) ≡ true
    exception_holds c im own = by (is_interface c.flags)
      where
        by : (b : Bool) → (if b then is_own_exception c else (c.is_imported || not (is_abstract c.flags))) ≡ true
        by true = ap (λ q. q && list_any (λ name. bytes_eq name c.name) own_exceptions) im ∙ own
        by false = ap (λ q. q || not (is_abstract c.flags)) im

    module _ (l : Named) (code : Method → NMethod) (is : l ≡ named_by p.files p.image w code) where
      says : SaysClasses (naming p) l (known_names call p)
      says = record {
        kinds = λ a b ka kb. kinds_agree a b (shape a ka) (shape b kb) ∙ ap (λ (v : Named). v.is_of a b) (sym is);
        made = λ c own known e. made_is c own (sym (ap (λ (v : Named). v.fields c) is) ∙ e) (class_named w c) refl;
        objects = λ c own h. has_objects list p sound typed c own h;
        statics = has_cells list p sound typed insns image once;
        cell = λ f e. ap (λ (n : ℕ). record { part = 0; offset = n }) (offset_is list p sound typed insns image once f);
      }
        where
          shape : (s : Shape (List ℕ)) → KnownShape (known_by (tests (known_names call p))) s → HasShape w s
          shape (OfClass c) k = k
          shape (OfNumbers element) k = k
          shape (OfReferences c) k = k

          both : (a b : Bool) → (not a && not b) ≡ true → (a ≡ false) × (b ≡ false)
          both false false e = (refl, refl)
          both false true e = cc
          both true b e = cc

          class_is : (c : List ℕ) (d : Class) → class_named w c ≡ Some d → is_interface d.flags ≡ false → (b : Bool)
              → d.is_imported ≡ b → card.is_interface (loaded p) (class_at p c) ≡ false
          class_is c d m f false im =
              let r = info_of_name list p sound c d m im in
              ap (λ x. card.is_interface (loaded p) (class_at p x)) (sym (class_named-name w c d m))
              ∙ ap (card.is_interface (loaded p)) r.on_card ∙ ap is_interface_info r.info
              ∙ ap (λ b. is_interface_info (Some (if b then IsInterface (interface_entry (class_ref p) w d)
              else IsClass (class_entry (class_ref p) p d)))) f
          class_is c d m f true im =
              let r = entry_of_name list p sound c d m im in
              ap (λ x. card.is_interface (loaded p) (class_at p x)) (sym (class_named-name w c d m))
              ∙ ap (card.is_interface (loaded p)) r.on_card ∙ ap is_interface_file r.there
              ∙ ap (λ (v : Class). is_interface v.flags) (sym r.class) ∙ f

          holder : (c : List ℕ) (d : Class) → class_named w c ≡ Some d → is_interface d.flags ≡ false
              → is_abstract d.flags ≡ false → may_hold w c (object_fields w c) ≡ true
          holder c d m f g =
              ap (λ o. is_holder o && same_members (object_fields w c) (object_fields w c)) m
              ∙ ap (λ b. (if b then is_own_exception d else (d.is_imported || not (is_abstract d.flags)))
              && same_members (object_fields w c) (object_fields w c)) f
              ∙ ap (λ b. (d.is_imported || not b) && same_members (object_fields w c) (object_fields w c)) g
              ∙ ap (λ b. (d.is_imported || true) && b) (same_all (object_fields w c))
              ∙ go d.is_imported
            where
              go : (b : Bool) → ((b || true) && true) ≡ true
              go true = refl
              go false = refl

          made_is : (c : List ℕ) (own : List MemberId) → made_of w c ≡ Some own → (o : Option Class)
              → class_named w c ≡ o → (may_hold w c own ≡ true) × (card.is_interface (loaded p) (class_at p c) ≡ false)
          made_is c own e None m = let none : None ≡ Some own =
              sym (ap (option_and_then (λ d. if is_made d then Some (object_fields w c) else None)) m) ∙ e in cc
          made_is c own e (Some d) m =
              go (is_made d) refl (sym (ap (option_and_then (λ d. if is_made d then Some (object_fields w c) else None))
              m) ∙ e)
            where
              go : (b : Bool) → is_made d ≡ b → (if b then Some (object_fields w c) else None) ≡ Some own
                  → (may_hold w c own ≡ true) × (card.is_interface (loaded p) (class_at p c) ≡ false)
              go false t f = cc
              go true t f =
                  let same : object_fields w c ≡ own = cc in
                  let plain = both (is_interface d.flags) (is_abstract d.flags) t in (
                    ap (may_hold w c) (sym same) ∙ holder c d m plain.0 plain.1,
                    class_is c d m plain.0 d.is_imported
                        refl,
                  )

      object_here : (x y : List ℕ) → y ≡ x → (i : IsImport w x) → is_holder (Some i.class) ≡ true
          → KnownHeapObject (known_by (tests (known_names call p))) (Object y [])
      object_here x y same i holds = let r = import_known x i holds in object_known (ap (has_class w) same
          ∙ r.0) (ap (λ z. may_hold w z []) same ∙ r.1)

      agree_by : ClassTablesAgree (naming p) (memories (naming p) (known_names call p)) l
          (known_by (tests (known_names call p)))
      agree_by = record {
        classes = classes_alike (naming p) l (known_names call p) says;
        class_known = means_there;
        fault = λ f. (let n = names_agree in n.fault f ∙ ap (λ (v : Named). option_as (class_at p) (v.fault f))
            (sym is));
        fault_known = λ f c e. (let lang = has_lang list p sound
            in fault_one f c (sym (ap (λ (v : Named). v.fault f) is) ∙ e));
        class_named = λ x. (let n = names_agree in n.class_named x
            ∙ ap (λ (v : Named). option_as (class_at p) (v.class_named x)) (sym is));
        class_named_known = λ x c e. (let r = there_is x c (sym (ap (λ (v : Named). v.class_named x) is) ∙ e)
            in ap (has_class w) r.0 ∙ r.1);
        imported = λ x. (let n = names_agree in n.imported x ∙ ap (λ (v : Named). option_as (class_at p) (v.imported x))
            (sym is));
        imported_known = λ x c e. (let r = plain_is x c (sym (ap (λ (v : Named). v.imported x) is) ∙ e)
            in plain_here x c r);
        throwable = λ x. (let n = names_agree in n.throwable x
            ∙ ap (λ (v : Named). option_as (class_at p) (v.throwable x)) (sym is));
        throwable_known = λ x c e. (let r = thrown x c (is_subtype w x (codes "java/lang/Throwable"))
            (sym (ap (λ (v : Named). v.throwable x) is) ∙ e) in plain_here x c r);
        name = λ c k. (let n = names_agree in n.name c k);
        fields = shown;
        cells = λ x k. cells_shown list p sound typed insns image once x k;
      }
        where
          plain_here : (x y : List ℕ) → (y ≡ x) × ((i : IsImport w x) × (is_interface i.class.flags ≡ false))
              → KnownHeapObject (known_by (tests (known_names call p))) (Object y [])
          plain_here x y r = let i = r.1.0 in object_here x y r.0 i (plain_holds i.class i.imported r.1.1)

          thrown : (x c : List ℕ) (b : Bool) → (if b then plain_import w x else None) ≡ Some c → (c ≡ x)
              × ((i : IsImport w x) × (is_interface i.class.flags ≡ false))
          thrown x c true e = plain_is x c e
          thrown x c false e = cc

          fault_one : (f : Fault) (c : List ℕ) → name_there w (narrow.fault_name f) ≡ Some c
              → KnownHeapObject (known_by (tests (known_names call p))) (Object c [])
          fault_one f c e =
              let r = there_is (narrow.fault_name f) c e in
              let i = there f in
              object_here (narrow.fault_name f) c r.0 i (exception_holds i.class i.imported
              (ap (λ x. list_any (λ name. bytes_eq name x) own_exceptions) (class_named-name w (narrow.fault_name f)
              i.class i.there) ∙ listed f))
            where
              listed : (f : Fault) → list_any (λ name. bytes_eq name (narrow.fault_name f)) own_exceptions ≡ true
              listed Arithmetic = refl
              listed NullPointer = refl
              listed IndexOutside = refl
              listed NegativeSize = refl
              listed ClassCast = refl
              listed ArrayStore = refl

              there : (f : Fault) → IsImport w (narrow.fault_name f)
              there Arithmetic = let lang = has_lang list p sound in lang.faults Arithmetic
              there NullPointer = let lang = has_lang list p sound in lang.faults NullPointer
              there IndexOutside = let lang = has_lang list p sound in lang.faults IndexOutside
              there NegativeSize = let lang = has_lang list p sound in lang.faults NegativeSize
              there ClassCast = let lang = has_lang list p sound in lang.faults ClassCast
              there ArrayStore = let lang = has_lang list p sound in lang.faults ArrayStore

          shown : (c : List ℕ) (slots : List (Slot MemberId)) → KnownHeapObject (known_by (tests (known_names call p)))
              (Object c slots) → ByToken.shown_fields (loaded p) (class_at p c) (slots_of (naming p) c slots)
              ≡ map shown_slot slots
          shown c slots (object_known k h) = let o = objects.objects_agree (naming p) (may_name w) c (keys slots)
              (has_objects list p sound typed c (keys slots) h) in o.shown slots refl

    -- for the look-ups of narrow code
    pub tables_agree : (code : Method → NMethod)
        → ClassTablesAgree (naming p) (memories (naming p) (known_names call p)) (named p.files p.image code)
        (known_by (tests (known_names call p)))
    unfolding named
    tables_agree code = agree_by (named p.files p.image code) code refl
