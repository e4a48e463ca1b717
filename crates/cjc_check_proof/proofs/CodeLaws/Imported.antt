-- Entries of the pool name the members of imported classes that their keys name.
use Rattle.std.proofs.Common.{◌≡◌, ℕ, zero, suc, ◌+◌, refl, sym, ap, ◌∙◌, arith, Bool, true, false, List, [], ◌∷◌, ◌++◌}
use Rattle.std.proofs.Common.{length, map, Some, None}
use Rattle.std.specs.Prelude.{◌==◌, ◌&&◌, ◌||◌, not, if◌then◌else◌, is_none, is_some, option_and_then, option_map}
use Rattle.std.specs.Prelude.{reverse, slice_get, unwrap_or}
use Rattle.std.specs.List.{list_any}
use Rattle.std.proofs.lemmas.List.{length-map}
use Rattle.std.proofs.lemmas.Option.{slice_get-map}
use Rattle.std.proofs.lemmas.Map.Keys.{any_passes_from_place}
use Rattle.cjc_bytes.specs.declared.fault.MemberId.{MemberId}
use Rattle.cjc_bytes.specs.AccessFlags.{is_static}
use Rattle.cjc_bytes.proofs.Numbers.{like_number}
use Rattle.cjc_bytes.proofs.Gets.{in_front, get_behind}
use Rattle.cjc_world.specs.ExportFile.declared.tree.ExportClass.{ExportClass}
use Rattle.cjc_world.specs.ExportFile.declared.tree.ExportField.{ExportField}
use Rattle.cjc_world.specs.ExportFile.declared.tree.ExportMethod.{ExportMethod}
use Rattle.cjc_world.specs.ExportFile.declared.tree.ExportTree.{ExportTree}
use Rattle.cjc_capread.specs.declared.tree.ClassRef.TheVariants.{Outside}
use Rattle.cjc_capread.specs.declared.tree.ClassEntry.{ClassEntry}
use Rattle.cjc_world.specs.ExportFile.Supers.{classes_of, has_virtual as lists_or_inherits, inherits_virtual}
use Rattle.cjc_world.specs.ExportFile.Supers.{is_virtual, upwards}
use Rattle.cjc_check_rules.specs.Spots.{Placed}
use Rattle.cjc_check_rules.specs.Classes.{class_with, classes_at, imported}
use Rattle.cjc_check_rules.specs.Members.{class_has, class_has_field, describes_field, has_field, has_static_field}
use Rattle.cjc_check_rules.specs.Members.{has_static_method, has_token, has_virtual, in_imported, is_unbound}
use Rattle.cjc_check_rules.specs.Members.{lists_field}
use Rattle.cjc_check_rules.specs.PoolEntries.{is_field, is_method, names_member}
use Rattle.cjc_tokens.specs.Members.{is_initialiser}
use Rattle.cjc_tokens.specs.Tokens.{assigned, imports_of, joined, listed_field_token, listed_method_token, of_import}
use Rattle.cjc_world.specs.Lookup.{find_method}
use Rattle.cjc_ncode.specs.declared.narrow.PoolKey.TheVariants as keys
use Rattle.cjc_ncode.specs.Lowering.Naming.{entry_of}
use Rattle.cjc_components.specs.Package.{Package, world}
use Rattle.cjc_components.specs.Names.{field_token, member_ref, member_token, names, offset_where, ref_to}
use Rattle.cjc_components.specs.Names.{virtual_token}
use Rattle.cjc_components.specs.Statics.{cell_offset}
use Rattle.cjc_token_proof.specs.Components.Whole.{exports_of, whole}
use Rattle.cjc_check_proof.specs.Code.Members.{classes_before, imported_member, IsImportedClass, IsImportedField}
use Rattle.cjc_check_proof.specs.Code.Members.{IsImportedMethod, IsImportedVirtual}

-- ---- lists

three : (a b c : Bool) → a ≡ true → b ≡ true → c ≡ true → (a && b && c) ≡ true
three true true true e f g = refl
three false b c e f g = absurd cc
three true false c e f g = absurd cc
three true true false e f g = absurd cc

-- ---- tokens

-- the tokens of an imported class stand at its number
imports_there : (trees : List ExportTree) (file place : ℕ) (t : ExportTree) (c : ExportClass) → slice_get trees file
    ≡ Some t → slice_get t.classes place ≡ Some c
    → slice_get (imports_of trees) (classes_before file trees + place) ≡ Some (of_import c)
imports_there [] zero place t c e f = absurd cc
imports_there [] (suc file) place t c e f = absurd cc
imports_there (u ∷ trees) zero place t c e f =
    let same : u ≡ t = cc in
    let z : 0 + place ≡ place = omega arith in
    let here : slice_get (map of_import u.classes) place ≡ Some (of_import c) =
    slice_get-map of_import u.classes place
    ∙ ap (option_map of_import) (ap (λ (x : ExportTree). slice_get x.classes place) same ∙ f) in
    ap (slice_get (map of_import u.classes ++ imports_of trees)) z
    ∙ in_front (map of_import u.classes) (imports_of trees) place (of_import c) here
imports_there (u ∷ trees) (suc file) place t c e f =
    let many : length (map of_import u.classes) ≡ length u.classes = length-map u.classes of_import in
    let at : length u.classes + classes_before file trees + place ≡ length (map of_import u.classes) +
    (classes_before file trees + place) = omega (arith, many) in
    ap (slice_get (map of_import u.classes ++ imports_of trees)) at
    ∙ get_behind (map of_import u.classes) (imports_of trees) (classes_before file trees + place)
    ∙ imports_there trees file place t c e f

module _ (p : Package) where
  -- the token of a member of an imported class
  listed_token : (name : List ℕ) (c : ExportClass) (of : IsImportedClass p name c) (member token : ℕ)
      → slice_get (of_import c) member ≡ Some (Some token)
      → member_token p (Some (imported_member of.file of.place member (exports_of p))) ≡ token
  unfolding assigned
  listed_token name c of member token e =
      ap (λ o. unwrap_or (option_and_then (λ ms. joined (slice_get ms member)) o) 0xFF) (imports_there (exports_of p)
      of.file of.place of.tree c of.is_tree of.is_class)
      ∙ ap (λ o. unwrap_or (joined o) 0xFF) e

  method_token : (c : ExportClass) (k : ℕ) (m : ExportMethod) → slice_get c.methods k ≡ Some m → is_initialiser m.name
      ≡ false → slice_get (of_import c) (length c.fields + k) ≡ Some (Some m.token)
  method_token c k m e none =
      let fields = map listed_field_token c.fields in
      let methods = map listed_method_token c.methods in
      let many : length fields ≡ length c.fields = length-map c.fields listed_field_token in
      ap (λ n. slice_get (fields ++ methods) (n + k)) (sym many) ∙ get_behind fields methods k
      ∙ slice_get-map listed_method_token c.methods k ∙ ap (option_map listed_method_token) e
      ∙ ap (λ b. Some (if b then None else Some m.token)) none

  field_token_of : (c : ExportClass) (k : ℕ) (f : ExportField) → slice_get c.fields k ≡ Some f → f.constant ≡ None
      → slice_get (of_import c) k ≡ Some (Some f.token)
  field_token_of c k f e none =
      let fields = map listed_field_token c.fields in
      in_front fields (map listed_method_token c.methods) k (Some f.token)
      (slice_get-map listed_field_token c.fields k ∙ ap (option_map listed_field_token) e
      ∙ ap (λ o. Some (if is_some o then None else Some f.token)) none)

  -- ---- what entries name

  -- the class of the entry is the imported one
  class_is : (name : List ℕ) (c : ExportClass) (of : IsImportedClass p name c) → imported (exports_of p) of.file c.token
      ≡ Some c
  class_is name c of = ap (option_and_then (class_with c.token)) of.is_tree ∙ of.first

  pub method_listed : (m : MemberId) → IsImportedMethod p m
      → names_member (whole p) (exports_of p) (entry_of (names p) (keys.StaticMethod m)) ≡ true
  method_listed m is =
      let of = is.of in
      let c = is.class in
      let em = is.method in
      let f = find_method (world p) m.class m.name m.desc in
      let token : member_token p f ≡ em.token =
      ap (member_token p) is.found ∙ listed_token m.class c of (length c.fields + is.place) em.token
      (method_token c is.place em is.there is.is_no_initialiser) in
      let there : list_any (λ (x : ExportMethod). x.token == em.token && is_unbound x) c.methods ≡ true =
      any_passes_from_place (λ (x : ExportMethod). x.token == em.token && is_unbound x) c.methods is.place em is.there
      (ap (λ b. b
      && is_unbound em) (like_number em.token) ∙ is.is_unbound) in
      ap (λ x. is_method (whole p) (exports_of p) (member_ref x (offset_where p f) (member_token p f))) of.named
      ∙ ap (λ t. has_static_method (imported (exports_of p) of.file c.token) t) token
      ∙ ap (λ o. has_static_method o em.token) (class_is m.class c of) ∙ there

  pub cell_listed : (f : MemberId) → IsImportedField p true f
      → names_member (whole p) (exports_of p) (entry_of (names p) (keys.StaticField f)) ≡ true
  cell_listed f is =
      let of = is.of in
      let c = is.class in
      let ef = is.field in
      let token : field_token p f ≡ ef.token = ap (member_token p) is.found
      ∙ listed_token f.class c of is.place ef.token (field_token_of c is.place ef is.there is.is_no_constant) in
      let there : list_any (λ (x : ExportField). x.token == ef.token && is_static x.flags && is_none x.constant)
      c.fields ≡ true =
      any_passes_from_place (λ (x : ExportField). x.token == ef.token && is_static x.flags && is_none x.constant)
      c.fields is.place ef
      is.there
      (three (ef.token == ef.token) (is_static ef.flags) (is_none ef.constant) (like_number ef.token) is.is_static
      (ap is_none is.is_no_constant)) in
      ap (λ x. is_field (whole p) (exports_of p) (member_ref x (cell_offset p.image f) (field_token p f))) of.named
      ∙ ap (λ t. has_static_field (imported (exports_of p) of.file c.token) t) token
      ∙ ap (λ o. has_static_field o ef.token) (class_is f.class c of) ∙ there

  or_second : (a b : Bool) → b ≡ true → (a || b) ≡ true
  or_second true b e = refl
  or_second false b e = e

  pub field_listed : (f : MemberId) → IsImportedField p false f
      → names_member (whole p) (exports_of p) (entry_of (names p) (keys.Field f)) ≡ true
  field_listed f is =
      let of = is.of in
      let c = is.class in
      let ef = is.field in
      let token : field_token p f ≡ ef.token = ap (member_token p) is.found
      ∙ listed_token f.class c of is.place ef.token (field_token_of c is.place ef is.there is.is_no_constant) in
      let there : list_any (λ (x : ExportField). x.token == ef.token && not (is_static x.flags) && is_none x.constant)
      c.fields ≡ true =
      any_passes_from_place (λ (x : ExportField). x.token == ef.token && not
      (is_static x.flags) && is_none x.constant) c.fields
      is.place ef is.there
      (three (ef.token == ef.token) (not (is_static ef.flags)) (is_none ef.constant) (like_number ef.token)
      (ap not is.is_static) (ap is_none is.is_no_constant)) in
      let listed : class_has_field (exports_of p) (imported (exports_of p) of.file c.token) (field_token p f) ≡ true =
      ap (λ o. class_has_field (exports_of p) o (field_token p f)) (class_is f.class c of)
      ∙ ap (class_has_field (exports_of p) (Some c)) token
      ∙ ap (λ b. b || list_any (lists_field ef.token) (upwards (classes_of (exports_of p)) c.supers)) there in
      ap (λ x. has_field (whole p) (exports_of p) (ref_to x) (field_token p f)) of.named
      ∙ or_second (describes_field (whole p) (Outside of.file c.token) (field_token p f))
      (class_has_field (exports_of p) (imported (exports_of p) of.file c.token) (field_token p f)) listed

  -- a class_ref outside is no class of the package
  pub outside_has : (items : List (Placed ClassEntry)) (import class token : ℕ)
      → has_token items (exports_of p) (Outside import class) token ≡ in_imported (exports_of p) (Outside import class)
      token
  unfolding has_token
  outside_has [] import class token = refl
  outside_has (x ∷ items) import class token = outside_has items import class token

  pub virtual_listed : (m : MemberId) → IsImportedVirtual p m
      → names_member (whole p) (exports_of p) (entry_of (names p) (keys.Virtual m)) ≡ true
  virtual_listed m is =
      let of = is.of in
      let c = is.class in
      let em = is.method in
      let listed : list_any (λ (x : ExportMethod). is_virtual x && (x.token == em.token)) c.methods ≡ true =
      any_passes_from_place (λ (x : ExportMethod). is_virtual x && (x.token == em.token)) c.methods is.place em is.there
      (ap (λ b. b
      && (em.token == em.token)) is.is_virtual ∙ like_number em.token) in
      ap (λ x. has_virtual (whole p) (exports_of p) (ref_to x) (virtual_token p m)) of.named
      ∙ ap (has_virtual (whole p) (exports_of p) (Outside of.file c.token)) is.token
      ∙ outside_has (reverse (let w = whole p in classes_at w.class)) of.file c.token em.token
      ∙ ap (λ o. class_has (exports_of p) o em.token) (class_is m.class c of)
      ∙ ap (λ b. not b && lists_or_inherits (classes_of (exports_of p)) em.token c) is.is_class
      ∙ ap (λ b. b || inherits_virtual (classes_of (exports_of p)) em.token c) listed
