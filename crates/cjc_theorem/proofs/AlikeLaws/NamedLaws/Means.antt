-- What keys of the pool name is what opcodes use.
use Rattle.std.proofs.Common.{◌≡◌, ℕ, ap, ◌∙◌, true, false, List, [], ◌∷◌}
use Rattle.std.specs.Prelude.{◌||◌, Some, flat_map, option_map, slice_get}
use Rattle.std.specs.List.{list_any}
use Rattle.std.proofs.lemmas.Option.{slice_get-map}
use Rattle.cjc_token_proof.specs.CardSemantics.Bytecode.Meanings.{Calls, Gets, GetsStatic, Makes, MakesReferences, Puts}
use Rattle.cjc_token_proof.specs.CardSemantics.Bytecode.Meanings.{PutsStatic, Special, Static, Use, Virtual}
use Rattle.cjc_bytes.specs.declared.fault.MemberId.{MemberId}
use Rattle.cjc_bytes.proofs.Quantified.{any_front, any_right}
use Rattle.cjc_bytes.proofs.Gets.{any_flat}
use Rattle.cjc_shape_proof.specs.LowerCheckProof.Code.Kinds.{is_for}
use Rattle.cjc_components.specs.Package.{LaidMethod, Package, codes}
use Rattle.cjc_ncode.specs.Lowering.Naming.{Fit, Holds, IsCell, IsClass, Naming, gets, gets_static, makes}
use Rattle.cjc_ncode.specs.Lowering.Naming.{makes_references, puts, puts_static}
use Rattle.cjc_ncode.specs.PoolOrder.{class_key, insn_keys, method_keys, same_key}
use Rattle.cjc_ncode.specs.declared.narrow.NCatch.{NCatch}
use Rattle.cjc_ncode.specs.declared.narrow.NInsn.{NInsn}
use Rattle.cjc_ncode.specs.declared.narrow.PoolKey.{PoolKey}
use Rattle.cjc_ncode.specs.declared.narrow.PoolKey.TheVariants as keys
use Rattle.cjc_shape_proof.proofs.PoolEntries.{all_held}
use Rattle.cjc_shape_proof.proofs.PoolKeys.{same_itself}
use Rattle.cjc_token_proof.specs.Tables.Loading.{loaded, naming}

-- ---- each kind of key

module _ (n : Naming) where
  pub class_fits : (c : List ℕ) → IsClass n c → (how : Use) → is_for how (keys.Class c) ≡ true
      → Fit n how (keys.Class c)
  class_fits c is Makes e = makes is
  class_fits c is MakesReferences e = makes_references is
  class_fits c is (Gets this letter) e = cc
  class_fits c is (Puts this letter) e = cc
  class_fits c is (GetsStatic letter) e = cc
  class_fits c is (PutsStatic letter) e = cc
  class_fits c is (Calls Virtual) e = cc
  class_fits c is (Calls Special) e = cc
  class_fits c is (Calls Static) e = cc

  pub field_fits : (f : MemberId) → IsClass n f.class → (how : Use) → is_for how (keys.Field f) ≡ true
      → Fit n how (keys.Field f)
  field_fits f is (Gets this letter) e = gets is
  field_fits f is (Puts this letter) e = puts is
  field_fits f is Makes e = cc
  field_fits f is MakesReferences e = cc
  field_fits f is (GetsStatic letter) e = cc
  field_fits f is (PutsStatic letter) e = cc
  field_fits f is (Calls Virtual) e = cc
  field_fits f is (Calls Special) e = cc
  field_fits f is (Calls Static) e = cc

  pub static_field_fits : (f : MemberId) → IsCell n f → (how : Use) → is_for how (keys.StaticField f) ≡ true
      → Fit n how (keys.StaticField f)
  static_field_fits f is (GetsStatic letter) e = gets_static is
  static_field_fits f is (PutsStatic letter) e = puts_static is
  static_field_fits f is (Gets this letter) e = cc
  static_field_fits f is (Puts this letter) e = cc
  static_field_fits f is Makes e = cc
  static_field_fits f is MakesReferences e = cc
  static_field_fits f is (Calls Virtual) e = cc
  static_field_fits f is (Calls Special) e = cc
  static_field_fits f is (Calls Static) e = cc

  pub virtual_fits : (m : MemberId) → Fit n (Calls Virtual) (keys.Virtual m) → (how : Use) → is_for how (keys.Virtual m)
      ≡ true → Fit n how (keys.Virtual m)
  virtual_fits m is (Calls Virtual) e = is
  virtual_fits m is (Calls Special) e = cc
  virtual_fits m is (Calls Static) e = cc
  virtual_fits m is (GetsStatic letter) e = cc
  virtual_fits m is (PutsStatic letter) e = cc
  virtual_fits m is (Gets this letter) e = cc
  virtual_fits m is (Puts this letter) e = cc
  virtual_fits m is Makes e = cc
  virtual_fits m is MakesReferences e = cc

  pub super_fits : (m : MemberId) → Fit n (Calls Special) (keys.Super m) → (how : Use) → is_for how (keys.Super m)
      ≡ true → Fit n how (keys.Super m)
  super_fits m is (Calls Special) e = is
  super_fits m is (Calls Virtual) e = cc
  super_fits m is (Calls Static) e = cc
  super_fits m is (GetsStatic letter) e = cc
  super_fits m is (PutsStatic letter) e = cc
  super_fits m is (Gets this letter) e = cc
  super_fits m is (Puts this letter) e = cc
  super_fits m is Makes e = cc
  super_fits m is MakesReferences e = cc

  pub method_fits : (m : MemberId) → Fit n (Calls Special) (keys.StaticMethod m)
      → Fit n (Calls Static) (keys.StaticMethod m) → (how : Use) → is_for how (keys.StaticMethod m) ≡ true
      → Fit n how (keys.StaticMethod m)
  method_fits m special static (Calls Special) e = special
  method_fits m special static (Calls Static) e = static
  method_fits m special static (Calls Virtual) e = cc
  method_fits m special static (GetsStatic letter) e = cc
  method_fits m special static (PutsStatic letter) e = cc
  method_fits m special static (Gets this letter) e = cc
  method_fits m special static (Puts this letter) e = cc
  method_fits m special static Makes e = cc
  method_fits m special static MakesReferences e = cc

-- ---- keys stand in the pool

module _ (p : Package) (k : ℕ) (m : LaidMethod) (e : slice_get p.methods k ≡ Some m) where
  in_all : (key : PoolKey) → list_any (same_key key) (method_keys m.code) ≡ true
      → list_any (same_key key) (flat_map method_keys (codes p)) ≡ true
  in_all key h = any_flat (same_key key) method_keys (codes p) k m.code (slice_get-map (λ (x : LaidMethod). x.code)
      p.methods k ∙ ap (option_map (λ (x : LaidMethod). x.code)) e) h

  held : (key : PoolKey) → list_any (same_key key) (method_keys m.code) ≡ true → Holds (naming p) key
  held key h = all_held p (loaded p) key (in_all key h)

  -- a key that an instruction names
  pub insn_held : (j : ℕ) (insn : NInsn) → (let code = m.code in slice_get code.insns j ≡ Some insn) → (key : PoolKey)
      → insn_keys insn ≡ key ∷ [] → Holds (naming p) key
  insn_held j insn f key is =
      let code = m.code in
      let one : list_any (same_key key) (insn_keys insn) ≡ true = ap (list_any (same_key key)) is
      ∙ ap (λ b. b || false) (same_itself key) in
      held key (any_front (same_key key) (flat_map insn_keys code.insns) (flat_map
      (λ c. class_key c.class) code.catches)
      (any_flat (same_key key) insn_keys code.insns j insn f one))

  -- a class that a handler names
  pub catch_needed : (j : ℕ) (c : NCatch) → (let code = m.code in slice_get code.catches j ≡ Some c) → (name : List ℕ)
      → c.class ≡ Some name → list_any (same_key (keys.Class name)) (flat_map method_keys (codes p)) ≡ true
  catch_needed j c f name is =
      let code = m.code in
      let one : list_any (same_key (keys.Class name)) (class_key c.class) ≡ true =
      ap (λ o. list_any (same_key (keys.Class name)) (class_key o)) is
      ∙ ap (λ b. b || false) (same_itself (keys.Class name)) in
      in_all (keys.Class name) (any_right (same_key (keys.Class name)) (flat_map insn_keys code.insns)
      (flat_map (λ (d : NCatch). class_key d.class) code.catches)
      (any_flat (same_key (keys.Class name)) (λ (d : NCatch). class_key d.class) code.catches j c f one))

  pub catch_held : (j : ℕ) (c : NCatch) → (let code = m.code in slice_get code.catches j ≡ Some c) → (name : List ℕ)
      → c.class ≡ Some name → Holds (naming p) (keys.Class name)
  catch_held j c f name is = all_held p (loaded p) (keys.Class name) (catch_needed j c f name is)
