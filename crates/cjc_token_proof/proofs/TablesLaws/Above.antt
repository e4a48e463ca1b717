-- Class infos and export files say of each class what stands above it.
use Rattle.std.proofs.Common.{◌≡◌, ℕ, ◌+◌, refl, sym, ap, subst, ◌∙◌, arith, Bool, true, false, List, []}
use Rattle.std.proofs.Common.{◌∷◌, ◌++◌, ⊎_elim}
use Rattle.std.specs.Prelude.{map, not, Option, Some, None, is_some, option_and_then, option_map, option_to_list}
use Rattle.std.specs.Prelude.{slice_get, unwrap_or, if◌then◌else◌}
use Rattle.cjc_bytes.specs.AccessFlags.{is_interface}
use Rattle.cjc_card_semantics.specs.CapRead.declared.tree.ClassRef.{ClassRef}
use Rattle.cjc_world.specs.ExportFile.declared.tree.ExportClass.{ExportClass}
use Rattle.cjc_card_semantics.specs.Machine.Classes.{Class as CardClass, IsInterface, IsClass, Own, External}
use Rattle.cjc_card_semantics.specs.Machine.Classes.{class_named as class_on_card, class_of, external_named, external}
use Rattle.cjc_card_semantics.specs.Machine.Classes.{imported_class, number_of, object_class, offset_of, or_else}
use Rattle.cjc_card_semantics.specs.Machine.Loaded.{OfFile}
use Rattle.cjc_ncode.specs.Lowering.Naming.{IsClass as MeansClass}
use Rattle.cjc_tokens.specs.Lines.{line_at}
use Rattle.cjc_tokens.specs.Members.{Signature}
use Rattle.cjc_tokens.specs.Methods.{interfaces_at}
use Rattle.cjc_tokens.specs.Slots.{shown_token}
use Rattle.cjc_vtable.specs.Tables.{interface_map}
use Rattle.cjc_vtable.proofs.Filed.{Has, at_front, behind}
use Rattle.cjc_world.specs.Classes.{Class, class_named}
use Rattle.cjc_world.specs.Interfaces.{known}
use Rattle.cjc_world.specs.Supertypes.{Above, directly, Lists, foremost, after}
use Rattle.cjc_world.specs.Lookup.{object}
use Rattle.cjc_world.specs.Order.{class_order}
use Rattle.cjc_world.specs.Rules.{is_of_class_file}
use Rattle.cjc_world.specs.Subtype.{starts}
use Rattle.cjc_world.proofs.Cycles.{class_named-name}
use Rattle.cjc_world.proofs.Settled.{lists-front}
use Rattle.cjc_world.proofs.Unbroken.{unbroken_is_acyclic}
use Rattle.cjc_token_proof.specs.ByToken.Supers.{IsToldOf, SaysKinds, SaysSupers, above_each, has_class, listed_there}
use Rattle.cjc_token_proof.specs.ByToken.Supers.{of_file, of_package}
use Rattle.cjc_components.specs.Package.{Package, world}
use Rattle.cjc_components.specs.Class.{class_entry, implemented, interface_entry, superclass}
use Rattle.cjc_components.specs.Names.{class_at, class_ref}
use Rattle.cjc_token_proof.specs.Tables.Infos.{HasEntry, HasInfo}
use Rattle.cjc_token_proof.specs.Tables.Kept.{KeepsRules}
use Rattle.cjc_token_proof.specs.Tables.Loading.{loaded, naming, part}
use Rattle.cjc_token_proof.specs.Tables.Sound.{IsSound}
use Rattle.cjc_token_proof.proofs.TablesLaws.Clean.{has_named, kept}
use Rattle.cjc_token_proof.proofs.TablesLaws.Filed.{import_filed, own_filed}
use Rattle.cjc_token_proof.proofs.TablesLaws.Interfaces.{interface_has, interface_is}
use Rattle.cjc_token_proof.proofs.TablesLaws.Lists.{lists_either, no_array, right_supers, supers_there}
use Rattle.cjc_token_proof.proofs.TablesLaws.Named.{has_entry, has_info, has_none}
use Rattle.cjc_token_proof.proofs.TablesLaws.Telling.{has_object}
use Rattle.cjc_token_proof.proofs.WrittenCalls.Tables.{import_at}

pub class_there : (w : List Class) (x : List ℕ) → has_class w x ≡ true → (c : Class) × (class_named w x ≡ Some c)
class_there w x e = by (class_named w x) refl e
  where
    by : (o : Option Class) → class_named w x ≡ o → is_some o ≡ true → (c : Class) × (class_named w x ≡ Some c)
    by None f g = cc
    by (Some c) f g = (c, f)

-- ---- names among names of classes

names_of : List Class → List (List ℕ)
names_of cs = map (λ c. c.name) cs

lists_name : (cs : List Class) (y : List ℕ) → Lists y (map (λ c. c.name) cs) → (d : Class) × Has d cs × (d.name ≡ y)
lists_name [] y l = elim l [ ]
lists_name (c ∷ cs) y foremost = (c, at_front, refl)
lists_name (c ∷ cs) y (after l) = let r = lists_name cs y l in (r.0, behind r.1, r.2)

name_lists : (cs : List Class) (d : Class) → Has d cs → Lists d.name (map (λ c. c.name) cs)
name_lists [] d h = elim h [ ]
name_lists (c ∷ cs) d at_front = foremost
name_lists (c ∷ cs) d (behind h) = after (name_lists cs d h)

implemented_are : (ref : List ℕ → ClassRef) (w : List Class) (all : Signature → Option ℕ) (cs : List Class)
    → map (λ m. m.interface) (map (implemented ref) (map (interface_map w all) cs)) ≡ map ref (map (λ c. c.name) cs)
implemented_are ref w all [] = refl
implemented_are ref w all (c ∷ cs) = ap (λ rs. ref c.name ∷ rs) (implemented_are ref w all cs)

listed_are : (ref : List ℕ → ClassRef) (cs : List Class) → map (λ s. ref s.name) cs ≡ map ref (map (λ c. c.name) cs)
listed_are ref [] = refl
listed_are ref (c ∷ cs) = ap (λ rs. ref c.name ∷ rs) (listed_are ref cs)

module _ (list : List ℕ) (p : Package) (sound : IsSound list p.files) where
  abbrev w : List Class
  w = world p

  pub info_of_name : (x : List ℕ) (c : Class) → class_named w x ≡ Some c → c.is_imported ≡ false → HasInfo p c
  info_of_name x c e own = has_info list p sound c (has_named w x c e) own

  pub entry_of_name : (x : List ℕ) (c : Class) → class_named w x ≡ Some c → c.is_imported ≡ true → HasEntry p c
  entry_of_name x c e im = has_entry list p sound c (has_named w x c e) im

  pub rules_of : (x : List ℕ) (c : Class) → class_named w x ≡ Some c → KeepsRules (let files = p.files
      in files.package_name) w c
  rules_of x c e = kept list p.files sound c (has_named w x c e)

  -- ---- a class_ref means its class

  pub class_refs_mean : (y : List ℕ) → has_class w y ≡ true → MeansClass (naming p) y
  class_refs_mean y h =
      let r = class_there w y h in
      by r.0 r.1 r.0.is_imported refl
    where
      by : (c : Class) → class_named w y ≡ Some c → (b : Bool) → c.is_imported ≡ b
          → class_of (loaded p) 0 (class_ref p y) ≡ Some (class_at p y)
      by c e false f =
          let r = info_of_name y c e f in
          subst (λ z. class_of (loaded p) 0 (class_ref p z) ≡ Some (class_at p z)) (class_named-name w y c e)
          (ap (class_of (loaded p) 0) r.ref ∙ ap (λ o. if is_some o then Some (Own 0 r.offset) else None) r.info
          ∙ ap (λ (v : CardClass). Some v) (sym r.on_card))
      by c e true f =
          let r = entry_of_name y c e f in
          let token = (let q = r.entry in q.token) in
          let z : 0 + r.file ≡ r.file = omega arith in
          let import_is : slice_get (let q = part p in q.imports) r.file ≡ Some (OfFile r.file) =
          import_at 0 (let files = p.files in files.exports) r.file r.tree r.in_list
          ∙ ap (λ m. Some (OfFile m)) z in
          subst (λ z. class_of (loaded p) 0 (class_ref p z) ≡ Some (class_at p z)) (class_named-name w y c e)
          (ap (class_of (loaded p) 0) r.ref ∙ ap (option_and_then (imported_class (loaded p) token)) import_is
          ∙ ap (λ o. if is_some o then Some (External r.file token) else None) r.there
          ∙ ap (λ (v : CardClass). Some v) (sym r.on_card))

  -- ---- java/lang/Object

  object_has : has_class w object ≡ true
  object_has = let r = has_object list p sound in ap is_some r.there

  object_is : object_class (loaded p) ≡ Some (class_at p object)
  object_is =
      let o = has_object list p sound in
      let r = entry_of_name object o.class o.there o.imported in
      let name_is = class_named-name w object o.class o.there in
      subst (λ x. class_on_card (loaded p) x ≡ Some (class_at p x)) name_is
      (ap (λ n. or_else (or_else (option_and_then (λ k. option_map (Own 0) (offset_of (part p) k)) n) None)
      (external_named (loaded p) (let c = o.class in c.name))) r.has_no_info ∙ r.found
      ∙ ap (λ (v : CardClass). Some v) (sym r.on_card))

  -- ---- two names are never one class

  pub once : (x y : List ℕ) → has_class w x ≡ true → has_class w y ≡ true → class_at p x ≡ class_at p y → x ≡ y
  once x y h g same =
      let r = class_there w x h in
      let s = class_there w y g in
      let x_is = class_named-name w x r.0 r.1 in
      let y_is = class_named-name w y s.0 s.1 in
      sym x_is ∙ by r.0 s.0 r.1 s.1 r.0.is_imported s.0.is_imported refl refl (ap (class_at p) x_is ∙ same
      ∙ ap (class_at p) (sym y_is)) ∙ y_is
    where
      by : (c d : Class) → class_named w x ≡ Some c → class_named w y ≡ Some d → (a b : Bool) → c.is_imported ≡ a
          → d.is_imported ≡ b → class_at p c.name ≡ class_at p d.name → c.name ≡ d.name
      by c d e f false false i j same =
          let r = info_of_name x c e i in
          let s = info_of_name y d f j in
          let place : Own 0 r.offset ≡ Own 0 s.offset = sym r.on_card ∙ same ∙ s.on_card in
          let offsets : r.offset ≡ s.offset = cc in
          let numbers : Some r.number ≡ Some s.number = sym r.numbered ∙ ap (number_of (part p)) offsets ∙ s.numbered in
          let number : r.number ≡ s.number = cc in
          let both : Some c ≡ Some d = sym r.ordered ∙ ap (slice_get (class_order w)) number ∙ s.ordered in
          let is : c ≡ d = cc in
          ap (λ (v : Class). v.name) is
      by c d e f false true i j same =
          let r = info_of_name x c e i in
          let s = entry_of_name y d f j in
          let clash : Own 0 r.offset ≡ External s.file (let q = s.entry in q.token) = sym r.on_card ∙ same ∙ s.on_card
          in
          cc
      by c d e f true false i j same =
          let r = entry_of_name x c e i in
          let s = info_of_name y d f j in
          let clash : External r.file (let q = r.entry in q.token) ≡ Own 0 s.offset = sym r.on_card ∙ same ∙ s.on_card
          in
          cc
      by c d e f true true i j same =
          let r = entry_of_name x c e i in
          let s = entry_of_name y d f j in
          let place : External r.file (let q = r.entry in q.token) ≡ External s.file (let q = s.entry in q.token) =
          sym r.on_card ∙ same ∙ s.on_card in
          let file : r.file ≡ s.file = cc in
          let token : (let q = r.entry in q.token) ≡ (let q = s.entry in q.token) = cc in
          let both : Some r.entry ≡ Some s.entry = sym r.there ∙ ap (λ k. external (loaded p) k (let q = r.entry
          in q.token)) file ∙ ap (external (loaded p) s.file) token ∙ s.there in
          let is : r.entry ≡ s.entry = cc in
          ap (λ (v : Class). v.name) r.class ∙ ap (λ (v : ExportClass). v.name) is
          ∙ ap (λ (v : Class). v.name) (sym s.class)

  -- ---- no class has an array's name

  plain_names : (x : List ℕ) → has_class w x ≡ true → starts 91 x ≡ false
  plain_names x h =
      let r = class_there w x h in
      ap (starts 91) (sym (class_named-name w x r.0 r.1)) ∙ by r.0 r.1 r.0.is_imported refl
    where
      by : (c : Class) → class_named w x ≡ Some c → (b : Bool) → c.is_imported ≡ b → starts 91 c.name ≡ false
      by c e false f =
          let read = sound.read in
          let k = rules_of x c e in
          no_array (let files = p.files in files.package_name) c.name read.package_name (k.of_package f)
      by c e true f =
          let r = import_filed p.files sound.classes sound.exports c (has_named w x c e) f in
          ap (λ (v : Class). starts 91 v.name) r.3 ∙ sound.names r.0 r.1 r.2

  -- ---- supers

  module _ (x : List ℕ) (c : Class) (e : class_named w x ≡ Some c) where
    abbrev above_all : List Class
    above_all = known (interfaces_at w c)

    rules : KeepsRules (let files = p.files in files.package_name) w c
    rules = rules_of x c e

    interface_told : (y : List ℕ) → Lists y (map (λ d. d.name) above_all) → (has_class w y ≡ true) × Above w x y
    interface_told y l =
        let d = lists_name above_all y l in
        let r = interface_is w (unbroken_is_acyclic list p.files sound.unbroken) c x d.0 e d.1 in
        subst (λ z. (has_class w z ≡ true) × Above w x z) d.2 (ap is_some r.0, r.1)

    interface_listed : (y : List ℕ) → Lists y c.interfaces → has_class w y ≡ true
        → Lists y (map (λ d. d.name) above_all)
    interface_listed y l h =
        let d = class_there w y h in
        let r = interface_has w (unbroken_is_acyclic list p.files sound.unbroken) c y d.0 l d.1 in
        subst (λ z. Lists z (map (λ d. d.name) above_all)) r.2 (name_lists above_all r.0 r.1)

    super_told : c.is_imported ≡ false → (y : List ℕ) → Lists y c.supers → (has_class w y ≡ true) × Above w x y
    super_told own y l = (supers_there w c (rules.there own) y l, directly c e (lists-front y c.supers c.interfaces l))

    one_super : c.is_imported ≡ false → c.supers ≡ superclass c ∷ []
    one_super own =
        let r = own_filed p.files sound.classes sound.exports c (has_named w x c e) own in
        ap (λ (v : Class). v.supers) r.3 ∙ ap (λ (v : Class). unwrap_or (slice_get v.supers 0) [] ∷ []) (sym r.3)

    -- a class
    class_told : c.is_imported ≡ false → (y : List ℕ) → IsToldOf (naming p) (IsClass (class_entry (class_ref p) p c))
        (superclass c ∷ map (λ d. d.name) above_all) y → (has_class w y ≡ true) × Above w x y
    class_told own y (listed_there l) = by y l
      where
        by : (y : List ℕ) → Lists y (superclass c ∷ map (λ d. d.name) above_all) → (has_class w y ≡ true) × Above w x y
        by y foremost = super_told own (superclass c) (subst (Lists (superclass c)) (sym (one_super own)) foremost)
        by y (after l) = interface_told y l
    class_told own y (above_each f) = let clash : [] ≡ class_at p object ∷ [] = f ∙ ap option_to_list object_is in cc

    class_listed : c.is_imported ≡ false → (y : List ℕ) → Lists y (c.supers ++ c.interfaces) → has_class w y ≡ true
        → IsToldOf (naming p) (IsClass (class_entry (class_ref p) p c)) (superclass c ∷ map (λ d. d.name) above_all) y
    class_listed own y l h =
        ⊎_elim (λ m. listed_there (by y (subst (Lists y) (one_super own) m)))
        (λ m. listed_there (after (interface_listed y m h))) (lists_either c.supers c.interfaces y l)
      where
        by : (y : List ℕ) → Lists y (superclass c ∷ []) → Lists y (superclass c ∷ map (λ d. d.name) above_all)
        by y foremost = foremost
        by y (after m) = elim m [ ]

    -- an interface
    super_is_object : c.is_imported ≡ false → is_interface c.flags ≡ true → superclass c ≡ object
    super_is_object own i = let right = right_supers w c rules.supers in right.of_interface i (superclass c)
        (subst (Lists (superclass c)) (sym (one_super own)) foremost)

    interface_tells : c.is_imported ≡ false → is_interface c.flags ≡ true → (y : List ℕ)
        → IsToldOf (naming p) (IsInterface (interface_entry (class_ref p) w c)) (map (λ d. d.name) above_all) y
        → (has_class w y ≡ true) × Above w x y
    interface_tells own i y (listed_there l) = interface_told y l
    interface_tells own i y (above_each f) = super_told own object (subst (Lists object) (sym (one_super own))
        (subst (λ s. Lists object (s ∷ [])) (sym (super_is_object own i)) foremost))

    interface_lists : c.is_imported ≡ false → is_interface c.flags ≡ true → (y : List ℕ)
        → Lists y (c.supers ++ c.interfaces) → has_class w y ≡ true
        → IsToldOf (naming p) (IsInterface (interface_entry (class_ref p) w c)) (map (λ d. d.name) above_all) y
    interface_lists own i y l h =
        ⊎_elim
        (λ m. let right = right_supers w c rules.supers
        in subst (IsToldOf (naming p) (IsInterface (interface_entry (class_ref p) w c))
        (map (λ d. d.name) above_all)) (sym (right.of_interface i y m)) (above_each refl))
        (λ m. listed_there (interface_listed y m h)) (lists_either c.supers c.interfaces y l)

    own_supers : c.is_imported ≡ false → (b : Bool) → is_interface c.flags ≡ b → SaysSupers w (naming p) x c
    own_supers own true i =
        let r = info_of_name x c e own in
        let info = IsInterface (interface_entry (class_ref p) w c) in
        of_package r.offset info (map (λ d. d.name) above_all) (ap (class_at p) (sym (class_named-name w x c e))
        ∙ r.on_card)
        (r.info ∙ ap (λ b. Some (if b then info else IsClass (class_entry (class_ref p) p c))) i)
        (listed_are (class_ref p) above_all) (interface_tells own i) (interface_lists own i)
    own_supers own false i =
        let r = info_of_name x c e own in
        let info = IsClass (class_entry (class_ref p) p c) in
        of_package r.offset info (superclass c ∷ map (λ d. d.name) above_all)
        (ap (class_at p) (sym (class_named-name w x c e)) ∙ r.on_card)
        (r.info ∙ ap (λ b. Some (if b then IsInterface (interface_entry (class_ref p) w c) else info)) i)
        (ap (λ rs. class_ref p (superclass c) ∷ rs) (implemented_are (class_ref p) w (shown_token (line_at w c))
        above_all))
        (class_told own) (class_listed own)

    -- a class of an export file
    file_supers : c.is_imported ≡ true → SaysSupers w (naming p) x c
    file_supers im =
        let r = entry_of_name x c e im in
        let right = right_supers w c rules.supers in
        of_file r.file (let q = r.entry in q.token) r.entry (ap (class_at p) (sym (class_named-name w x c e))
        ∙ r.on_card) r.there (ap (λ (v : Class). v.supers) (sym r.class)) (ap (λ (v : Class). v.interfaces)
        (sym r.class))
        (λ y l. by y (class_named w y) refl (right.of_import im y l))
      where
        imported_one : (d : Class) → not d.is_imported ≡ false → d.is_imported ≡ true
        imported_one d f = go d.is_imported f
          where
            go : (b : Bool) → not b ≡ false → b ≡ true
            go true g = refl
            go false g = cc

        by : (y : List ℕ) (o : Option Class) → class_named w y ≡ o → is_of_class_file o ≡ false
            → external_named (loaded p) y ≡ (if has_class w y then Some (class_at p y) else None)
        by y None f g = let r = has_none list p sound y f in r.in_no_file
            ∙ sym (ap (λ o. if is_some o then Some (class_at p y) else None) f)
        by y (Some d) f g =
            let r = entry_of_name y d f (imported_one d g) in
            ap (external_named (loaded p)) (sym (class_named-name w y d f)) ∙ r.found
            ∙ ap (λ (v : CardClass). Some v) (sym r.on_card)
            ∙ ap (λ z. Some (class_at p z)) (class_named-name w y d f)
            ∙ sym (ap (λ o. if is_some o then Some (class_at p y) else None) f)

  all_supers : (x : List ℕ) (c : Class) → class_named w x ≡ Some c → SaysSupers w (naming p) x c
  all_supers x c e = by c.is_imported refl
    where
      by : (b : Bool) → c.is_imported ≡ b → SaysSupers w (naming p) x c
      by true f = file_supers x c e f
      by false f = own_supers x c e f (is_interface c.flags) refl

  pub says_kinds : SaysKinds w (naming p)
  says_kinds = record {
    class_ref = class_refs_mean;
    object_there = object_has;
    object_class = object_is;
    once = once;
    no_array = plain_names;
    supers = all_supers;
  }
