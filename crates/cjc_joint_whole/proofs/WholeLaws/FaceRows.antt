-- The methods of an interface that a package exports, as the packages have them that import it: at the same places.
use Rattle.std.proofs.Common.{◌≡◌, ℕ, zero, suc, ◌+◌, ◌<◌, ◌≤◌, ◌==◌, refl, sym, ap, subst, ◌∙◌, arith, Bool}
use Rattle.std.proofs.Common.{true, false, List, [], ◌∷◌, ◌++◌, length, map, Some, ⊎_elim}
use Rattle.std.specs.Prelude.{◌&&◌, slice_get, if◌then◌else◌}
use Rattle.std.proofs.lemmas.Bool.{eqb-false}
use Rattle.std.proofs.lemmas.List.{length-map}
use Rattle.std.proofs.lemmas.Option.{slice_get_within}
use Rattle.cjc_bytes.specs.AccessFlags.{is_interface}
use Rattle.cjc_bytes.proofs.Bools.{both_back}
use Rattle.cjc_bytes.proofs.Gets.{contained, find_got, item_there}
use Rattle.cjc_bytes.proofs.Numbers.{number_same}
use Rattle.cjc_components.specs.Class.{is_shareable}
use Rattle.cjc_components.specs.ExportFile.{export_class}
use Rattle.cjc_components.specs.Package.{Package, world}
use Rattle.cjc_joint_proof.proofs.FlagLaws.{interface_kept}
use Rattle.cjc_shape_proof.proofs.CheckProofLists.{has-mapped}
use Rattle.cjc_shape_proof.proofs.WrittenLaws.FittingLaws.Order.{has_cons}
use Rattle.cjc_token_proof.proofs.TablesLaws.Filed.{has-back, has-front}
use Rattle.cjc_token_proof.specs.Tables.Sound.{IsSound}
use Rattle.cjc_token_proof.specs.WrittenCalls.Calls.{ExportsKeep}
use Rattle.cjc_tokens.proofs.TokenLaws.Meant.{has_token}
use Rattle.cjc_tokens.specs.Members.{Signature, is_initialiser, same, signature_of}
use Rattle.cjc_tokens.specs.Methods.{interface_methods}
use Rattle.cjc_tokens.specs.Slots.{new_in}
use Rattle.cjc_vtable.proofs.Filed.{Has, at_front, behind, get-has, has-get}
use Rattle.cjc_world.specs.Added.{asked_by, by_token, own_methods, with_token, without_initialiser}
use Rattle.cjc_world.specs.ClassFile.declared.tree.ClassTree.{ClassTree}
use Rattle.cjc_world.specs.Classes.{Class, Member, class_named, declared, imported, method_of_export}
use Rattle.cjc_world.specs.ExportFile.Supers as exports
use Rattle.cjc_world.specs.ExportFile.declared.tree.ExportClass.{ExportClass}
use Rattle.cjc_world.specs.ExportFile.declared.tree.ExportMethod.{ExportMethod}
use Rattle.cjc_world.specs.Supertypes.{supertypes}
use Rattle.cjc_world.specs.Upwards.{IsOrdered}
use Rattle.cjc_joint_whole.proofs.WholeLaws.FaceEntries.{all_there, enough, entry_placed, entry_there, methods_plain}
use Rattle.cjc_joint_whole.proofs.WholeLaws.FaceEntries.{signed_once}

-- ---- methods by tokens

-- the first method of a token
with_first : (t : ℕ) (ms : List Member) (m : Member) → Has m ms → m.token ≡ t → (x : Member)
    × (with_token t ms ≡ x ∷ []) × Has x ms × (x.token ≡ t)
with_first t [] m h e = elim h [ ]
with_first t (x ∷ ms) m h e = by (x.token == t) refl (λ g. with_first t ms m g e)
  where
    apart : m ≡ x → (x.token == t) ≡ false → ⊥
    apart one f = eqb-false x.token t f (sym (ap (λ (y : Member). y.token) one) ∙ e)

    by : (b : Bool) → (x.token == t) ≡ b → (Has m ms → (y : Member) × (with_token t ms ≡ y ∷ []) × Has y ms
        × (y.token ≡ t)) → (y : Member) × ((if b then x ∷ [] else with_token t ms) ≡ y ∷ []) × Has y (x ∷ ms)
        × (y.token ≡ t)
    by true f rest = (x, refl, at_front, number_same x.token t f)
    by false f rest = let r = rest (⊎_elim (λ one. absurd (apart one f)) (λ g. g) (has_cons m x ms h))
        in (r.0, r.1, behind r.2, r.3)

by_token_has : (count low t : ℕ) (ms : List Member) (x : Member) → low ≤ t → t < low + count → with_token t ms ≡ x ∷ []
    → Has x (by_token count low ms)
by_token_has zero low t ms x le lt e = absurd (omega (arith, le, lt))
by_token_has (suc n) low t ms x le lt e = by (low == t) refl (λ more. by_token_has n (low + 1) t ms x more (omega (
  arith,
  lt,
)) e)
  where
    by : (b : Bool) → (low == t) ≡ b → (low + 1 ≤ t → Has x (by_token n (low + 1) ms)) → Has x (with_token low ms
        ++ by_token n (low + 1) ms)
    by true f rest = has-front x (with_token low ms) (by_token n (low + 1) ms) (subst (λ xs. Has x xs)
        (sym (ap (λ k. with_token k ms) (number_same low t f) ∙ e)) at_front)
    by false f rest = let ne = eqb-false low t f in has-back x (with_token low ms) (by_token n (low + 1) ms)
        (rest (omega (arith, le, ne)))

plain_has : (ms : List Member) (m : Member) → Has m ms → is_initialiser m.name ≡ false → Has m (without_initialiser ms)
plain_has [] m h e = elim h [ ]
plain_has (x ∷ ms) m h e = by (is_initialiser x.name) refl (λ g. plain_has ms m g e)
  where
    apart : m ≡ x → is_initialiser x.name ≡ true → ⊥
    apart one f = let no : true ≡ false = sym f ∙ ap (λ (y : Member). is_initialiser y.name) (sym one) ∙ e in cc

    by : (b : Bool) → is_initialiser x.name ≡ b → (Has m ms → Has m (without_initialiser ms))
        → Has m (if b then without_initialiser ms else x ∷ without_initialiser ms)
    by true f rest = rest (⊎_elim (λ one. absurd (apart one f)) (λ g. g) (has_cons m x ms h))
    by false f rest = ⊎_elim (λ one. subst (λ (y : Member). Has m (y ∷ without_initialiser ms)) one at_front)
        (λ g. behind (rest g)) (has_cons m x ms h)

-- so an imported interface has them
own_has : (k : ℕ) (e : ExportClass) (x : Member) → Has x (by_token (length (map method_of_export e.methods)) 0 (map
    method_of_export e.methods)) → is_initialiser x.name ≡ false → Has x (own_methods (imported k e))
unfolding own_methods
own_has k e x h plain = plain_has (by_token (length (map method_of_export e.methods)) 0 (map method_of_export
    e.methods)) x h plain

has_place : (v : List Class) (k : ℕ) (e : ExportClass) (x : Member) → Has x (own_methods (imported k e)) → (t : ℕ)
    × (slice_get (interface_methods v (imported k e)) t ≡ Some (signature_of x))
has_place v k e x h =
    let i = has-get x (own_methods (imported k e)) h in
    has_token v (imported k e) x (contained (own_methods (imported k e)) i.0 x i.1)

same_sign : {a b : Signature} → Some a ≡ Some b → a ≡ b
same_sign e = cc

same_place : {a b : ℕ} → Some a ≡ Some b → a ≡ b
same_place e = cc

-- ---- an interface of a package, and a package that imports it

module _ (list : List ℕ) (p : Package) (sound : IsSound list p.files) (order : IsOrdered (world p)) (n : ℕ)
    (t : ClassTree) (there : (let v = p.files in slice_get v.classes n ≡ Some t)) (face : is_interface t.flags ≡ true)
    (q : Package) (keep : ExportsKeep q) (k : ℕ)
    (known : class_named (world q) t.name ≡ Some (imported k (export_class p (declared n t)))) where
  abbrev w : List Class
  w = world p

  abbrev c : Class
  c = declared n t

  abbrev e : ExportClass
  e = export_class p c

  abbrev entries : List ExportMethod
  entries = let x = e in x.methods

  abbrev its : List Signature
  its = interface_methods w c

  abbrev ms : List Member
  ms = map method_of_export entries

  kind : is_interface (let x = e in x.flags) ≡ true
  kind = interface_kept t.flags (is_shareable w c) ∙ face

  placed : (x : ExportMethod) → Has x entries → slice_get its x.token ≡ Some (signature_of (method_of_export x))
  placed x h = entry_placed list p sound order n t there face x h

  -- what it has at a place the interface has there
  pub of_import : (i : ℕ) (s : Signature) → slice_get (interface_methods (world q) (imported k e)) i ≡ Some s
      → slice_get its i ≡ Some s
  of_import i s at =
      let o = keep.methods t.name k e known kind i s at in
      let m = o.0 in
      let r = find_got (λ (u : ExportMethod). exports.is_virtual u && (u.token == i)) entries m o.1 in
      let same_one = number_same m.token i (both_back (exports.is_virtual m) (m.token == i) r.2) in
      ap (slice_get its) (sym same_one) ∙ placed m (get-has m entries r.0 r.1) ∙ ap (λ (u : Signature). Some u) o.2

  -- and the other way
  pub to_import : (i : ℕ) (s : Signature) → slice_get its i ≡ Some s
      → slice_get (interface_methods (world q) (imported k e)) i ≡ Some s
  to_import i s at =
      let x = entry_there list p sound order n t there face i s at in
      let g = has-get x.0 entries x.1 in
      let has_one = get-has (method_of_export x.0) ms g.0 (item_there method_of_export entries g.0 x.0 g.1) in
      let first = with_first i ms (method_of_export x.0) has_one x.2 in
      let y = first.0 in
      let z = has-mapped method_of_export y entries first.2 in
      let at_y : (let u = z.0 in u.token) ≡ i = ap (λ (m : Member). m.token) z.2 ∙ first.3 in
      let signed : s ≡ signature_of y = same_sign (sym at ∙ ap (slice_get its) (sym at_y) ∙ placed z.0 z.1
      ∙ ap (λ (m : Member). Some (signature_of m)) z.2) in
      let low = slice_get_within its i s at in
      let many = enough (length its) (map (λ (u : ExportMethod). u.token) entries) (λ j lt. has_number j lt) in
      let long = length-map entries (λ (u : ExportMethod). u.token) in
      let longer = length-map entries method_of_export in
      let among = by_token_has (length ms) 0 i ms y (omega arith) (omega (arith, low, many, long, longer)) first.1 in
      let plain : is_initialiser y.name ≡ false = ap (λ (u : Signature). is_initialiser u.name) (sym signed)
      ∙ methods_plain list p sound order n t there face i s at in
      let place = has_place (world q) k e y (own_has k e y among plain) in
      let back : slice_get its place.0 ≡ Some s = of_import place.0 (signature_of y) place.1
      ∙ ap (λ (u : Signature). Some u) (sym signed) in
      let one : place.0 ≡ i = same_place (sym (signed_once list p sound order n t there face place.0 s back)
      ∙ signed_once list p sound order n t there face i s at) in
      ap (slice_get (interface_methods (world q) (imported k e))) (sym one) ∙ place.1
      ∙ ap (λ (u : Signature). Some u) (sym signed)
    where
      has_number : (j : ℕ) → j < length its → Has j (map (λ (u : ExportMethod). u.token) entries)
      has_number j lt =
          let x = all_there list p sound order n t there face j lt in
          let g = has-get x.0 entries x.1 in
          subst (λ a. Has a (map (λ (u : ExportMethod). u.token) entries)) x.2 (get-has (let u = x.0 in u.token) (map
          (λ (u : ExportMethod). u.token) entries) g.0 (item_there (λ (u : ExportMethod). u.token) entries g.0 x.0
          g.1))

-- ---- an imported interface

row_is : (v : List Class) (c : Class) → c.is_imported ≡ true → interface_methods v c
    ≡ new_in [] (map signature_of (without_initialiser (by_token (length c.methods) 0 c.methods)))
unfolding interface_methods own_methods
row_is v c e =
    ap (λ b. new_in [] (map signature_of (if b then own_methods c
    else asked_by (supertypes v c.supers) (supertypes v c.interfaces) ++ own_methods c))) e
    ∙ ap (λ b. new_in [] (map signature_of (without_initialiser (if b then by_token (length c.methods) 0 c.methods
    else c.methods)))) e

-- its row is that of its methods, whoever imports it
pub same_rows : (v u : List Class) (c d : Class) → c.is_imported ≡ true → d.is_imported ≡ true → c.methods ≡ d.methods
    → interface_methods v c ≡ interface_methods u d
same_rows v u c d e f same_methods =
    row_is v c e
    ∙ ap (λ ms. new_in [] (map signature_of (without_initialiser (by_token (length ms) 0 ms)))) same_methods
    ∙ sym (row_is u d f)
