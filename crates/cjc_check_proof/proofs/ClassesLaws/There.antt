-- The class of each name that some file has is there, and what a class lists are such names.
use Rattle.std.proofs.Common.{◌≡◌, ℕ, ◌<◌, ◌==◌, ◌++◌, arith, refl, sym, ap, subst, ◌∙◌, Bool, true, false, List, []}
use Rattle.std.proofs.Common.{◌∷◌}
use Rattle.std.specs.Prelude.{◌||◌, if◌then◌else◌, Option, Some, None, is_some, slice_get, option_map, option_and_then}
use Rattle.std.specs.List.{list_any}
use Rattle.cjc_token_proof.specs.CardSemantics.Machine.Classes.{Own, External, external_from, or_else, with_token}
use Rattle.cjc_world.specs.ExportFile.declared.tree.ExportClass.{ExportClass}
use Rattle.cjc_world.specs.ExportFile.declared.tree.ExportTree.{ExportTree}
use Rattle.cjc_world.specs.ExportFile.Writable.{ClassFits, EachAfter}
use Rattle.cjc_vtable.proofs.Filed.{Has, at_front, behind}
use Rattle.cjc_world.specs.Classes.{Class, class_named}
use Rattle.cjc_world.specs.Rules.{is_missing, is_none_of, lists_missing}
use Rattle.cjc_world.proofs.Cycles.{class_named-name}
use Rattle.cjc_components.specs.Package.{Package, world}
use Rattle.cjc_components.specs.Names.{class_offset, class_ref, info_starts}
use Rattle.cjc_token_proof.specs.Components.Found.{IsFound}
use Rattle.cjc_token_proof.proofs.ComponentsLaws.Starts.{ref_is_start}
use Rattle.cjc_token_proof.specs.Tables.Infos.{HasInfo, HasEntry}
use Rattle.cjc_token_proof.specs.Tables.Sound.{IsSound}
use Rattle.cjc_token_proof.proofs.TablesLaws.Clean.{has_named, kept}
use Rattle.cjc_token_proof.proofs.TablesLaws.Named.{has_info, has_entry}
use Rattle.cjc_token_proof.proofs.TablesLaws.Order.{own_names}
use Rattle.cjc_check_proof.specs.Classes.Premises.{HasShortRefs, is_known}
use Rattle.cjc_check_proof.proofs.ClassesLaws.Nibbles.{IsShort}
use Rattle.cjc_check_proof.proofs.ClassesLaws.Refs.{ref_within}
use Rattle.cjc_bytes.proofs.Gets.{get_below}

some_either : {A : Type 0} (a b : Option A) (x : A) → b ≡ Some x → is_some (or_else a b) ≡ true
some_either None b x e = ap is_some e
some_either (Some y) b x e = refl

token_has : (cs : List ExportClass) (token : ℕ) (e : ExportClass) → with_token cs token ≡ Some e → Has e cs
token_has [] token e h = absurd (cc)
token_has (c ∷ cs) token e h = by (c.token == token) h (token_has cs token e)
  where
    by : (b : Bool) → (if b then Some c else with_token cs token) ≡ Some e → (with_token cs token ≡ Some e → Has e cs)
        → Has e (c ∷ cs)
    by true f rest = let is : c ≡ e = cc in subst (λ (d : ExportClass). Has d (c ∷ cs)) is at_front
    by false f rest = behind (rest f)

token_byte : (before cs : List ExportClass) (e : ExportClass) → EachAfter ClassFits before cs → Has e cs → e.token < 256
token_byte before [] e f h = elim h [ ]
token_byte before (c ∷ cs) e f at_front = let fits = f.0 in fits.token
token_byte before (c ∷ cs) e f (behind h) = token_byte (before ++ c ∷ []) cs e f.1 h

module _ (list : List ℕ) (p : Package) (sound : IsSound list p.files) where
  found_own : (c : Class) → HasInfo p c → IsFound p c.name
  found_own c r =
      let names = own_names list p.files sound in
      let s = ref_is_start p names r.number c r.ordered in
      let offset : class_offset p c.name ≡ Some s.0 = ap (option_and_then (slice_get (info_starts p)))
      (names r.number c r.ordered) ∙ s.1 in
      ap (λ o. is_some (or_else (option_map (Own 0) o) (let files = p.files in external_from 0 files.exports c.name)))
      offset

  found_there : (c : Class) → HasEntry p c → IsFound p c.name
  found_there c r = some_either (option_map (Own 0) (class_offset p c.name)) _ (External r.file (let e = r.entry
      in e.token)) r.found

  pub found : (x : List ℕ) (c : Class) → class_named (world p) x ≡ Some c → IsFound p x
  found x c e = subst (IsFound p) (class_named-name (world p) x c e) (by c.is_imported refl)
    where
      by : (b : Bool) → c.is_imported ≡ b → IsFound p c.name
      by true f = found_there c (has_entry list p sound c (has_named (world p) x c e) f)
      by false f = found_own c (has_info list p sound c (has_named (world p) x c e) f)

  pub known_found : (x : List ℕ) → is_known (world p) x ≡ true → IsFound p x
  known_found x e = by (class_named (world p) x) refl e
    where
      by : (o : Option Class) → class_named (world p) x ≡ o → is_some o ≡ true → IsFound p x
      by None f g = absurd (cc)
      by (Some c) f g = found x c f

  -- the superclass of a class of the package
  pub super_known : (c : Class) (s : List ℕ) → Has c (world p) → c.is_imported ≡ false → c.supers ≡ s ∷ []
      → is_known (world p) s ≡ true
  unfolding lists_missing
  super_known c s h own is =
      let w = world p in
      let k = kept list p.files sound c h in
      let all = ap (λ xs. list_any (λ x. is_missing w x) xs || list_any (λ x. is_missing w x) c.interfaces) (sym is)
      ∙ k.there own in
      by (class_named w s) _ _ all
    where
      by : (o : Option Class) (rest more : Bool) → ((is_none_of o || rest) || more) ≡ false → is_some o ≡ true
      by None rest more e = absurd (cc)
      by (Some c) rest more e = refl

  -- ---- class_refs

  -- a class_ref to a class that some file has is said by two bytes
  pub short : HasShortRefs p → (x : List ℕ) → is_known (world p) x ≡ true → IsShort (class_ref p x)
  unfolding IsShort
  short s x e = by (class_named (world p) x) refl e
    where
      own : (c : Class) → HasInfo p c → IsShort (class_ref p c.name)
      own c r =
          let g = ref_within p (own_names list p.files sound) r.number c r.ordered in
          let lt = g.2 in
          let few = s.few_bytes in
          subst IsShort (sym g.1) (omega (arith, lt, few))

      there : (c : Class) → HasEntry p c → IsShort (class_ref p c.name)
      there c r =
          let files = p.files in
          let lt = get_below files.exports r.file r.tree r.in_list in
          let few = s.few_imports in
          let read = sound.read in
          let tree = read.exports r.file r.tree r.in_list in
          let with_it : with_token r.tree.classes r.entry.token ≡ Some r.entry =
          sym (ap (option_and_then (λ (t : ExportTree). with_token t.classes r.entry.token)) r.in_list) ∙ r.there in
          let byte = token_byte [] r.tree.classes r.entry tree.classes (token_has r.tree.classes r.entry.token r.entry
          with_it) in
          subst IsShort (sym r.ref) (omega (arith, lt, few), omega (arith, byte))

      either : (c : Class) (b : Bool) → c.is_imported ≡ b → Has c (world p) → IsShort (class_ref p c.name)
      either c true f h = there c (has_entry list p sound c h f)
      either c false f h = own c (has_info list p sound c h f)

      by : (o : Option Class) → class_named (world p) x ≡ o → is_some o ≡ true → IsShort (class_ref p x)
      by None f g = absurd (cc)
      by (Some c) f g = subst (λ y. IsShort (class_ref p y)) (class_named-name (world p) x c f) (either c c.is_imported
          refl (has_named (world p) x c f))
