-- Names of classes mean the same by the files and on the card.
use Rattle.std.proofs.Common.{◌≡◌, ℕ, zero, suc, ◌+◌, ◌<◌, ◌≤◌, refl, sym, ap, ◌∙◌, arith, Bool, true, false, List, []}
use Rattle.std.proofs.Common.{◌∷◌}
use Rattle.std.specs.Prelude.{Option, Some, None, is_some, if◌then◌else◌, ◌==◌, ◌&&◌, not, option_and_then, option_map}
use Rattle.std.specs.Prelude.{unwrap_or, slice_get, codes}
use Rattle.std.proofs.lemmas.Bool.Decides.{nat_tests}
use Rattle.std.specs.Str.{bytes_eq}
use Rattle.cjc_bytes.specs.AccessFlags as flags
use Rattle.cjc_world.specs.ExportFile.declared.tree.ExportClass.{ExportClass}
use Rattle.cjc_script.specs.Sorts.{OfClass}
use Rattle.cjc_card_semantics.specs.Bytecode.Calculations.{Fault, Arithmetic, NullPointer, IndexOutside, NegativeSize}
use Rattle.cjc_card_semantics.specs.Bytecode.Calculations.{ClassCast, ArrayStore}
use Rattle.cjc_card_semantics.specs.Bytecode.Renaming.{option_as}
use Rattle.cjc_card_semantics.specs.Machine.Calls.{imported, imported_class_of, if_below, throwable}
use Rattle.cjc_card_semantics.specs.Machine.Classes.{Own, External, Info, IsInterface, IsClass, info_size, infos}
use Rattle.cjc_card_semantics.specs.Machine.Classes.{number_from, offset_from, number_of, offset_of}
use Rattle.cjc_card_semantics.specs.Machine.Classes.{class_named as class_on_card, fault_class, fault_name}
use Rattle.cjc_card_semantics.specs.Machine.Classes.{external_named, name_of, number_named, own_from, or_else}
use Rattle.cjc_card_semantics.specs.Machine.Classes.{is_interface, is_interface_file}
use Rattle.cjc_card_semantics.specs.Machine.Loaded.{ClassNames, Part}
use Rattle.cjc_world.specs.Classes.{Class, class_named}
use Rattle.cjc_world.proofs.Cycles.{class_named-name}
use Rattle.cjc_world.specs.Subtype.{is_subtype}
use Rattle.cjc_jvm_semantics.specs.OnePackage.{is_plain_import}
use Rattle.cjc_components.specs.LowerNarrow.Rows.Package.{name_there, plain_import, throwable_import}
use Rattle.cjc_components.specs.LowerNarrow.Rows.Package
use Rattle.cjc_ncode.specs.Lowering.Naming.{Naming}
use Rattle.cjc_token_proof.specs.ByToken.Supers.{has_class, KindsAgree}
use Rattle.cjc_token_proof.specs.ByToken.Names.{SaysNames, HasLang, NamesAgree, NamesStand, StandsInside}
use Rattle.cjc_token_proof.specs.ByToken.Names.{StandsOutside}
use Rattle.cjc_token_proof.proofs.ByToken.Members.{bytes_tell}

-- ---- infos

infos_have_bytes : (i : Info) → 0 < info_size i
infos_have_bytes (IsInterface i) = omega arith
infos_have_bytes (IsClass c) = omega arith

-- an offset is not before the first
not_before : (at : ℕ) (is : List Info) (k offset : ℕ) → offset_from at is k ≡ Some offset → at ≤ offset
not_before at [] k offset e = cc
not_before at (i ∷ is) zero offset e = let same : at ≡ offset = cc in omega (arith, same)
not_before at (i ∷ is) (suc k) offset e = let h = not_before (at + info_size i) is k offset e in omega (arith, h)

-- the number of an info's offset
number_back : (at : ℕ) (is : List Info) (k offset : ℕ) → offset_from at is k ≡ Some offset → number_from at is offset
    ≡ Some k
number_back at [] k offset e = cc
number_back at (i ∷ is) zero offset e =
    let same : at ≡ offset = cc in
    let t : (at == offset) ≡ true = grind (arith, nat_tests) in
    ap (λ b. if b then Some 0 else option_map suc (number_from (at + info_size i) is offset)) t
number_back at (i ∷ is) (suc k) offset e =
    let h = not_before (at + info_size i) is k offset e in
    let b = infos_have_bytes i in
    let t : (at == offset) ≡ false = grind (arith, nat_tests, h, b) in
    ap (λ b. if b then Some 0 else option_map suc (number_from (at + info_size i) is offset)) t
    ∙ ap (option_map suc) (number_back (at + info_size i) is k offset e)

-- the names with a number have the name
named_there : (classes : List ClassNames) (x : List ℕ) (k : ℕ) → number_named classes x ≡ Some k
    → option_map (λ (c : ClassNames). c.name) (slice_get classes k) ≡ Some x
named_there [] x k e = cc
named_there (c ∷ classes) x k e = by (bytes_eq c.name x) refl (number_named classes x) refl k e (named_there classes x)
  where
    by : (t : Bool) → bytes_eq c.name x ≡ t → (o : Option ℕ) → number_named classes x ≡ o → (k : ℕ)
        → (if t then Some 0 else option_map suc o) ≡ Some k
        → ((k : ℕ) → number_named classes x ≡ Some k → option_map (λ (c : ClassNames). c.name) (slice_get classes k)
        ≡ Some x) → option_map (λ (c : ClassNames). c.name) (slice_get (c ∷ classes) k) ≡ Some x
    by true is o e zero h rest = ap Some (bytes_tell c.name x is)
    by true is o e (suc k) h rest = cc
    by false is None e k h rest = cc
    by false is (Some j) e zero h rest = cc
    by false is (Some j) e (suc k) h rest = let same : j ≡ k = cc in rest k (e ∙ ap Some same)

-- ---- names that stand for their classes

module _ (w : List Class) (n : Naming) (stand : NamesStand w n) where
  named_same : (x : List ℕ) → class_on_card n.loaded x ≡ option_as n.class (name_there w x)
  named_same x = by (class_named w x) refl
    where
      by : (o : Option Class) → class_named w x ≡ o → class_on_card n.loaded x ≡ option_as n.class (name_there w x)
      by None e = (stand.none x e).0 ∙ sym (ap (λ o. option_as n.class (option_map (λ (c : Class). c.name) o)) e)
      by (Some c) e = kind c.is_imported refl
        where
          here : option_as n.class (option_map (λ (c : Class). c.name) (class_named w x)) ≡ Some (n.class x)
          here = ap (λ o. option_as n.class (option_map (λ (c : Class). c.name) o)) e
              ∙ ap (λ y. Some (n.class y)) (class_named-name w x c e)

          kind : (b : Bool) → c.is_imported ≡ b → class_on_card n.loaded x ≡ option_as n.class (name_there w x)
          kind false is = (let s = stand.own x c e is in s.named) ∙ sym here
          kind true is = (let s = stand.file x c e is in s.named) ∙ sym here

  imported_same : (x : List ℕ) → imported n.loaded x ≡ option_as n.class (plain_import w x)
  imported_same x = by (class_named w x) refl
    where
      by : (o : Option Class) → class_named w x ≡ o → imported n.loaded x ≡ option_as n.class (plain_import w x)
      by None e =
          ap (option_and_then (imported_class_of n.loaded)) (stand.none x e).1
          ∙ sym (ap (λ o. option_as n.class (if is_plain_import o then Some x else None)) e)
      by (Some c) e = kind c.is_imported refl
        where
          kind : (b : Bool) → c.is_imported ≡ b → imported n.loaded x ≡ option_as n.class (plain_import w x)
          kind false is =
              let s = stand.own x c e is in
              ap (option_and_then (imported_class_of n.loaded)) s.in_no_file
              ∙ sym (ap (λ o. option_as n.class (if is_plain_import o then Some x else None)) e
              ∙ ap (λ b. option_as n.class (if b && not (flags.is_interface c.flags) then Some x else None)) is)
          kind true is =
              let s = stand.file x c e is in
              ap (option_and_then (imported_class_of n.loaded)) (s.found ∙ ap Some s.on_card)
              ∙ (ap (λ o. if is_interface_file o then None else Some (External s.tree s.token)) s.there
              ∙ (ap (λ b. if b then None else Some (External s.tree s.token)) s.flags
              ∙ (turn (flags.is_interface c.flags) (External s.tree s.token) (sym s.on_card)
              ∙ sym (ap (λ o. option_as n.class (if is_plain_import o then Some x else None)) e
              ∙ ap (λ b. option_as n.class (if b && not (flags.is_interface c.flags) then Some x else None)) is))))
            where
              turn : (b : Bool) (d : Rattle.cjc_card_semantics.specs.Machine.Classes.Class) → d ≡ n.class x
                  → (if b then None else Some d) ≡ option_as n.class (if true && not b then Some x else None)
              turn true d e = refl
              turn false d e = ap Some e

  throwable_same : HasLang w → KindsAgree w n → (x : List ℕ) → throwable n.loaded x
      ≡ option_as n.class (throwable_import w x)
  throwable_same lang kinds x =
      ap (option_and_then (λ c. option_and_then (if_below n.loaded c) (external_named n.loaded
      (codes "java/lang/Throwable")))) (imported_same x) ∙ by (is_plain_import (class_named w x)) refl
    where
      found : external_named n.loaded (codes "java/lang/Throwable") ≡ Some (n.class (codes "java/lang/Throwable"))
      found = let j = lang.throwable in let s = stand.file (codes "java/lang/Throwable") j.class j.there j.imported
          in s.found

      has_top : has_class w (codes "java/lang/Throwable") ≡ true
      has_top = let j = lang.throwable in ap is_some j.there

      some_there : (o : Option Class) → is_plain_import o ≡ true → is_some o ≡ true
      some_there None e = cc
      some_there (Some c) e = refl

      turn : (t : Bool) → (if t then Some (n.class x) else None) ≡ option_as n.class (if t then Some x else None)
      turn true = refl
      turn false = refl

      nothing : (t : Bool) → None ≡ option_as n.class (if t then None else None)
      nothing true = refl
      nothing false = refl

      by : (b : Bool) → is_plain_import (class_named w x) ≡ b
          → option_and_then (λ c. option_and_then (if_below n.loaded c) (external_named n.loaded
          (codes "java/lang/Throwable"))) (option_as n.class (if b then Some x else None))
          ≡ option_as n.class (if is_subtype w x (codes "java/lang/Throwable") then (if b then Some x else None)
          else None)
      by false e = nothing (is_subtype w x (codes "java/lang/Throwable"))
      by true e =
          ap (option_and_then (if_below n.loaded (n.class x))) found
          ∙ (ap (λ t. if t then Some (n.class x) else None) (kinds (OfClass x) (OfClass (codes "java/lang/Throwable"))
          (some_there (class_named w x) e) has_top)
          ∙ turn (is_subtype w x (codes "java/lang/Throwable")))

  fault_same : (lang : HasLang w) (f : Fault) → fault_class n.loaded f
      ≡ option_as n.class (name_there w (Package.fault_name f))
  fault_same lang f =
      let i = lang.faults f in
      let s = stand.file (fault_name f) i.class i.there i.imported in
      s.found ∙ sym (ap (λ y. option_as n.class (name_there w y)) (same f)
      ∙ (ap (λ o. option_as n.class (option_map (λ (c : Class). c.name) o)) i.there
      ∙ ap (λ y. Some (n.class y)) (class_named-name w (fault_name f) i.class i.there)))
    where
      same : (f : Fault) → Package.fault_name f ≡ fault_name f
      same Arithmetic = refl
      same NullPointer = refl
      same IndexOutside = refl
      same NegativeSize = refl
      same ClassCast = refl
      same ArrayStore = refl

  name_same : (x : List ℕ) → has_class w x ≡ true → name_of n.loaded (n.class x) ≡ x
  name_same x there = by (class_named w x) refl there
    where
      by : (o : Option Class) → class_named w x ≡ o → is_some o ≡ true → name_of n.loaded (n.class x) ≡ x
      by None e h = cc
      by (Some c) e h = kind c.is_imported refl
        where
          kind : (b : Bool) → c.is_imported ≡ b → name_of n.loaded (n.class x) ≡ x
          kind false is = let s = stand.own x c e is in s.name
          kind true is = let s = stand.file x c e is in s.name

  pub standing_names_agree : HasLang w → KindsAgree w n → NamesAgree w n
  standing_names_agree lang kinds = record {
    class_named = named_same;
    imported = imported_same;
    throwable = throwable_same lang kinds;
    fault = fault_same lang;
    name = name_same;
  }

-- ---- of one package

module _ (w : List Class) (n : Naming) (part : Part) (says : SaysNames w n part) where
  -- the names of infos alone
  own_alone : (x : List ℕ) → class_on_card n.loaded x
      ≡ or_else (or_else (option_and_then (λ k. option_map (Own 0) (offset_of part k)) (number_named part.classes x))
      None) (external_named n.loaded x)
  own_alone x = ap (λ parts. or_else (own_from 0 parts x) (external_named n.loaded x)) says.alone

  inside : (x : List ℕ) (c : Class) → class_named w x ≡ Some c → c.is_imported ≡ false → StandsInside n x
  inside x c e is =
      let s = says.own x c e is in
      record {
        named = own_alone x ∙ ap (λ o. or_else (or_else (option_and_then (λ k. option_map (Own 0) (offset_of part k))
            o) None) (external_named n.loaded x)) s.numbered
            ∙ ap (λ o. or_else (or_else (option_map (Own 0) o) None) (external_named n.loaded x)) s.at
            ∙ ap Some (sym s.on_card);
        in_no_file = s.in_no_file;
        name = ap (name_of n.loaded) s.on_card
            ∙ ap (λ parts. unwrap_or (option_map (λ (c : ClassNames). c.name)
            (option_and_then (λ (p : Part). option_and_then (slice_get p.classes) (number_of p s.offset))
            (slice_get parts 0))) []) says.alone
            ∙ ap (λ o. unwrap_or (option_map (λ (c : ClassNames). c.name) (option_and_then (slice_get part.classes)
            o)) []) (number_back 2 (infos part) s.number s.offset s.at)
            ∙ ap (λ o. unwrap_or o []) (named_there part.classes x s.number s.numbered);
      }

  outside : (x : List ℕ) (c : Class) → class_named w x ≡ Some c → c.is_imported ≡ true → StandsOutside n x c
  outside x c e is =
      let s = says.file x c e is in
      record {
        named = own_alone x ∙ ap (λ o. or_else (or_else (option_and_then (λ k. option_map (Own 0) (offset_of part k))
            o) None) (external_named n.loaded x)) s.has_no_info
            ∙ s.found ∙ ap Some (sym s.on_card);
        found = s.found ∙ ap Some (sym s.on_card);
        name = ap (name_of n.loaded) s.on_card ∙ ap (λ o. unwrap_or (option_map (λ (c : ExportClass). c.name) o) [])
            s.there ∙ s.name;
        tree = s.tree;
        token = s.token;
        entry = s.entry;
        on_card = s.on_card;
        there = s.there;
        flags = s.flags;
      }

  names_stand : NamesStand w n
  names_stand = record {
    own = inside;
    file = outside;
    none = λ x e. (let no = says.none x e in (
      own_alone x
          ∙ ap (λ o. or_else (or_else (option_and_then (λ k. option_map (Own 0) (offset_of part k)) o) None)
          (external_named n.loaded x)) no.0 ∙ no.1,
      no.1,
    ));
  }

  pub names_agree : HasLang w → KindsAgree w n → NamesAgree w n
  names_agree = standing_names_agree w n names_stand
