-- No interface of a package that breaks no rule has a private or static method but its initialiser.
use Rattle.std.proofs.Common.{◌≡◌, ℕ, refl, sym, ap, ◌∙◌, Bool, true, false, List}
use Rattle.std.specs.Prelude.{Option, Some, None, is_some, not, option_map, slice_get, ◌&&◌, ◌||◌}
use Rattle.std.proofs.lemmas.Option.{slice_get-map}
use Rattle.std.proofs.lemmas.Bool.{or_parts}
use Rattle.cjc_bytes.specs.AccessFlags.{acc_native, acc_strict, acc_synchronized, has, is_abstract, is_interface}
use Rattle.cjc_bytes.specs.AccessFlags.{is_private, is_static}
use Rattle.cjc_bytes.specs.declared.settings.Settings.{Settings}
use Rattle.cjc_world.specs.ClassFile.declared.tree.ClassTree.{ClassTree}
use Rattle.cjc_world.specs.ClassFile.declared.tree.MethodTree.{MethodTree}
use Rattle.cjc_world_proof.specs.Bytecode.declared.method_code.MethodCode.{MethodCode}
use Rattle.cjc_world_proof.specs.Subset.Flags.{has_two_accesses, is_unfit_method}
use Rattle.cjc_tokens.specs.Members.{is_constructor, is_initialiser}
use Rattle.cjc_vtable.proofs.Clean.{fit-method}
use Rattle.cjc_vtable.proofs.Filed.{IsFiled, filed, get-has, in_class_file, in_export_file}
use Rattle.cjc_vtable.proofs.Read.{has-code}
use Rattle.cjc_vtable.specs.Kept.{IsKept}
use Rattle.cjc_world.specs.Classes.{Class, Member, all_classes, method_of_class}
use Rattle.cjc_world.specs.Files.{Files}
use Rattle.cjc_world.specs.Lookup.{is_selectable}
use Rattle.cjc_token_proof.specs.WrittenCalls.Calls.{NoStaticMethods}
use Rattle.cjc_token_proof.specs.WrittenSends.Sends.{InterfacesAsk}

not_static : (private static : Bool) → (not private && not static) ≡ true → static ≡ false
not_static private false e = refl
not_static true true e = absurd (cc)
not_static false true e = absurd (cc)

-- a method that is fit for an interface has no code, so it is abstract, and neither private nor static
fit : (native synchronized strict twice abstract constructor initialiser static private code : Bool)
    → initialiser ≡ false
    → (((((((native || synchronized) || strict) || twice) || (abstract && (static || private)))
    || (abstract && (constructor || initialiser))) || (initialiser && not static))
    || ((true && code) && not initialiser)) ≡ false
    → (abstract ≡ false → native ≡ false → code ≡ true) → (not private && not static) ≡ true
fit native synchronized strict twice abstract constructor initialiser static private code plain off coded =
    let k1 = or_parts ((((((native || synchronized) || strict) || twice) || (abstract && (static || private)))
    || (abstract && (constructor || initialiser))) || (initialiser && not static)) ((true && code)
    && not initialiser) off in
    let k2 = or_parts (((((native || synchronized) || strict) || twice) || (abstract && (static || private)))
    || (abstract && (constructor || initialiser))) (initialiser && not static) k1.0 in
    let k3 = or_parts ((((native || synchronized) || strict) || twice) || (abstract && (static || private))) (abstract
    && (constructor || initialiser)) k2.0 in
    let k4 = or_parts (((native || synchronized) || strict) || twice) (abstract && (static || private)) k3.0 in
    let k5 = or_parts ((native || synchronized) || strict) twice k4.0 in
    let k6 = or_parts (native || synchronized) strict k5.0 in
    let k7 = or_parts native synchronized k6.0 in
    by abstract static private code initialiser k4.1 k1.1 plain (λ a. coded a k7.0)
  where
    by : (a s p h i : Bool) → (a && (s || p)) ≡ false → ((true && h) && not i) ≡ false → i ≡ false
        → (a ≡ false → h ≡ true) → (not p && not s) ≡ true
    by true false false h i open_one none plain coded = refl
    by true true p h i open_one none plain coded = absurd (cc)
    by true false true h i open_one none plain coded = absurd (cc)
    by false s p true true open_one none plain coded = absurd (cc)
    by false s p true false open_one none plain coded = absurd (cc)
    by false s p false i open_one none plain coded = let clash : false ≡ true = coded refl in absurd (cc)

module _ (list : List ℕ) (files : Files) (codes : List MethodCode) (settings : Settings) (kept : IsKept list files codes
    settings) where
  pub asks : InterfacesAsk false (all_classes files)
  asks x i known here own k m there plain = by i (filed files x i known) here own there
    where
      in_file : (n : ℕ) (t : ClassTree) → slice_get files.classes n ≡ Some t → is_interface t.flags ≡ true
          → (o : Option MethodTree) → slice_get t.methods k ≡ o → option_map method_of_class o ≡ Some m
          → is_selectable m.flags ≡ true
      in_file n t g inter None at is = absurd (cc)
      in_file n t g inter (Some r) at is =
          let same : method_of_class r ≡ m = cc in
          let fine = fit-method list files codes settings (let u = kept.unbroken
          in u.flags) t r (get-has t files.classes n g) (get-has r t.methods k at) in
          let spelt = (let q = kept.read in q.classes) n t g in
          ap (λ (q : Member). is_selectable q.flags) (sym same)
          ∙ fit (has r.flags acc_native) (has r.flags acc_synchronized) (has r.flags acc_strict)
          (has_two_accesses r.flags) (is_abstract r.flags) (is_constructor r.name) (is_initialiser r.name)
          (is_static r.flags) (is_private r.flags) (is_some r.code)
          (ap (λ (q : Member). is_initialiser q.name) same ∙ plain)
          (ap (λ b. is_unfit_method b r.flags r.name (is_some r.code)) (sym inter) ∙ fine)
          (λ a f. has-code t spelt.0 r spelt.1 (get-has r t.methods k at) a f)

      by : (i : Class) → IsFiled files i → is_interface i.flags ≡ true → i.is_imported ≡ false → slice_get i.methods k
          ≡ Some m → is_selectable m.flags ≡ true
      by i (in_class_file n t g) inter own at = in_file n t g inter (slice_get t.methods k) refl
          (sym (slice_get-map method_of_class t.methods k) ∙ at)
      by i (in_export_file n c g) inter own at = absurd (cc)

  pub no_static : NoStaticMethods (all_classes files)
  no_static x c known own here k m there static = by (is_initialiser m.name) refl
    where
      by : (b : Bool) → is_initialiser m.name ≡ b → b ≡ true
      by true is = refl
      by false plain =
          let clash : false ≡ true = sym (not_static (is_private m.flags) (is_static m.flags) (asks x c known here own k
          m there plain)) ∙ static in absurd (cc)
