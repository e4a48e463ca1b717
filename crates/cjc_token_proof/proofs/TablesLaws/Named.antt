-- Where the class of each name is on the card.
use Rattle.std.proofs.Common.{◌≡◌, ℕ, suc, ◌+◌, refl, sym, ap, ◌∙◌, arith, Bool, true, false, List, [], ◌∷◌, ◌++◌}
use Rattle.std.proofs.Common.{⊎_elim}
use Rattle.std.specs.Prelude.{map, not, ◌||◌, ◌==◌, position, Option, Some, None, slice_get, option_map}
use Rattle.std.specs.Prelude.{option_and_then, unwrap_or, if◌then◌else◌}
use Rattle.std.specs.List.{list_any}
use Rattle.std.specs.Str.{bytes_eq}
use Rattle.std.proofs.lemmas.Bool.Decides.{nat_tests}
use Rattle.std.proofs.lemmas.List.Folds.{list_any-append}
use Rattle.std.proofs.lemmas.Option.{slice_get-map}
use Rattle.cjc_bytes.specs.AccessFlags.{is_interface}
use Rattle.cjc_bytes.proofs.Lists.{name_is as bytes-refl, bytes_true, map_map}
use Rattle.cjc_card_semantics.specs.CapRead.declared.tree.ClassRef.TheVariants.{Inside}
use Rattle.cjc_world.specs.ExportFile.ExportFile.{class_token, token_taken}
use Rattle.cjc_world.specs.ExportFile.Writable.{ClassFits, EachAfter}
use Rattle.cjc_world.specs.ExportFile.declared.tree.ExportClass.{ExportClass}
use Rattle.cjc_world.specs.ExportFile.declared.tree.ExportTree.{ExportTree}
use Rattle.cjc_card_semantics.specs.Machine.Classes.{Class as CardClass, IsInterface, IsClass, Own, External}
use Rattle.cjc_card_semantics.specs.Machine.Classes.{external_from, infos, number_of, offset_of, or_else, token_named}
use Rattle.cjc_card_semantics.specs.Machine.Classes.{with_token}
use Rattle.cjc_world_proof.specs.Subset.Members.{imports}
use Rattle.cjc_vtable.proofs.Filed.{Has, at_front, behind, get-has, has-get, of-imports}
use Rattle.cjc_vtable.proofs.SlotNames.{position-at}
use Rattle.cjc_world.specs.Classes.{Class, class_named, imported}
use Rattle.cjc_world.specs.Order.{class_order, in_order}
use Rattle.cjc_components.specs.Package.{Package, tokens, world}
use Rattle.cjc_components.specs.Class.{class_entry, class_info, interface_entry}
use Rattle.cjc_components.specs.Names.{class_at, class_offset, class_ref, info_starts, ref_to}
use Rattle.cjc_components.specs.Paired.Naming.{class_names}
use Rattle.cjc_token_proof.proofs.ComponentsLaws.Starts.{infos_stand_alike, ref_is_start}
use Rattle.cjc_token_proof.specs.Tables.Infos.{HasEntry, HasInfo, HasNone}
use Rattle.cjc_token_proof.specs.Tables.Loading.{info_for, part}
use Rattle.cjc_token_proof.specs.Tables.Sound.{IsSound}
use Rattle.cjc_token_proof.proofs.TablesLaws.Clean.{own_name}
use Rattle.cjc_token_proof.proofs.TablesLaws.Filed.{has-back, has-front, import_filed, import_in}
use Rattle.cjc_token_proof.proofs.TablesLaws.Infos.{either_of, numbers_are, numbers_named, offsets_are}
use Rattle.cjc_token_proof.proofs.TablesLaws.Order.{kind-in, order_has, order_in, own_names}

-- ---- classes of export files by names and tokens

token_found : (cs : List ExportClass) (x : List ℕ) (token : ℕ) → token_named cs x ≡ Some token → (e : ExportClass)
    × Has e cs × (e.name ≡ x) × (e.token ≡ token)
token_found [] x token e = cc
token_found (c ∷ cs) x token e = by (bytes_eq c.name x) refl e (token_found cs x token)
  where
    by : (b : Bool) → bytes_eq c.name x ≡ b → (if b then Some c.token else token_named cs x) ≡ Some token
        → (token_named cs x ≡ Some token → (e : ExportClass) × Has e cs × (e.name ≡ x) × (e.token ≡ token))
        → (e : ExportClass) × Has e (c ∷ cs) × (e.name ≡ x) × (e.token ≡ token)
    by true f g rest = let is : c.token ≡ token = cc in (c, at_front, bytes_true c.name x f, is)
    by false f g rest = let r = rest g in (r.0, behind r.1, r.2, r.3)

token_there : (cs : List ExportClass) (e : ExportClass) → Has e cs → (token : ℕ) × (token_named cs e.name ≡ Some token)
token_there [] e h = elim h [ ]
token_there (c ∷ cs) e at_front = (
  e.token,
  ap (λ b. if b then Some e.token else token_named cs e.name)
      (bytes-refl e.name),
)
token_there (c ∷ cs) e (behind h) = by (bytes_eq c.name e.name) (token_there cs e h)
  where
    by : (b : Bool) → (token : ℕ) × (token_named cs e.name ≡ Some token) → (token : ℕ)
        × ((if b then Some c.token else token_named cs e.name) ≡ Some token)
    by true r = (c.token, refl)
    by false r = r

-- what is found in files from this number on
record InFile (n : ℕ) (trees : List ExportTree) (x : List ℕ) (class : CardClass) : Type 0 where
  file : ℕ
  tree : ExportTree
  entry : ExportClass
  in_list : slice_get trees file ≡ Some tree
  in_file : Has entry tree.classes
  named : entry.name ≡ x
  is : class ≡ External (n + file) entry.token

file_found : (n : ℕ) (trees : List ExportTree) (x : List ℕ) (class : CardClass) → external_from n trees x ≡ Some class
    → InFile n trees x class
file_found n [] x class e = cc
file_found n (t ∷ trees) x class e = by (token_named t.classes x) refl e (file_found (n + 1) trees x class)
  where
    by : (o : Option ℕ) → token_named t.classes x ≡ o
        → or_else (option_map (External n) o) (external_from (n + 1) trees x) ≡ Some class
        → (external_from (n + 1) trees x ≡ Some class → InFile (n + 1) trees x class) → InFile n (t ∷ trees) x class
    by (Some token) f g rest =
        let r = token_found t.classes x token f in
        let z : n ≡ n + 0 = omega arith in
        let same : class ≡ External n token = cc in
        record {
          file = 0;
          tree = t;
          entry = r.0;
          in_list = refl;
          in_file = r.1;
          named = r.2;
          is = same
              ∙ ap (λ (q : ℕ). External n q) (sym r.3) ∙ ap (λ m. External m r.0.token) z;
        }
    by None f g rest =
        let r = rest g in
        let s : n + 1 + r.file ≡ n + suc r.file = omega arith in
        record {
          file = suc r.file;
          tree = r.tree;
          entry = r.entry;
          in_list = r.in_list;
          in_file = r.in_file;
          named = r.named;
          is = r.is ∙ ap (λ m. External m (let q = r.entry in q.token)) s;
        }

file_there : (n : ℕ) (trees : List ExportTree) (t : ExportTree) (e : ExportClass) → Has t trees → Has e t.classes
    → (class : CardClass) × (external_from n trees e.name ≡ Some class)
file_there n [] t e h g = elim h [ ]
file_there n (u ∷ trees) t e at_front g = let r = token_there t.classes e g
    in (External n r.0, ap (λ o. or_else (option_map (External n) o) (external_from (n + 1) trees e.name)) r.1)
file_there n (u ∷ trees) t e (behind h) g = by (token_named u.classes e.name) (file_there (n + 1) trees t e h g)
  where
    by : (o : Option ℕ) → (class : CardClass) × (external_from (n + 1) trees e.name ≡ Some class) → (class : CardClass)
        × (or_else (option_map (External n) o) (external_from (n + 1) trees e.name) ≡ Some class)
    by (Some token) r = (External n token, refl)
    by None r = r

-- ---- each token once

taken_more : (before : List ExportClass) (c : ExportClass) (token : ℕ) → token_taken (before ++ c ∷ []) token ≡ false
    → (c.token == token) ≡ false
taken_more before c token e = by (list_any (λ d. d.token == token) before) (c.token == token)
    (sym (list_any-append (λ d. d.token == token) before (c ∷ [])) ∙ e)
  where
    by : (a b : Bool) → (a || (b || false)) ≡ false → b ≡ false
    by a false f = refl
    by false true f = cc
    by true true f = cc

own_token : (before : List ExportClass) (c : ExportClass) → class_token before c.token ≡ Some c.token
    → token_taken before c.token ≡ false
own_token before c e = by (token_taken before c.token) e
  where
    by : (b : Bool) → (if b then None else Some c.token) ≡ Some c.token → b ≡ false
    by true f = cc
    by false f = refl

taken_less : (before : List ExportClass) (c : ExportClass) (token : ℕ) → token_taken (before ++ c ∷ []) token ≡ false
    → token_taken before token ≡ false
taken_less before c token e = by (list_any (λ d. d.token == token) before) (c.token == token)
    (sym (list_any-append (λ d. d.token == token) before (c ∷ [])) ∙ e)
  where
    by : (a b : Bool) → (a || (b || false)) ≡ false → a ≡ false
    by false b f = refl
    by true b f = cc

not_taken : (before cs : List ExportClass) (e : ExportClass) → EachAfter ClassFits before cs → Has e cs
    → token_taken before e.token ≡ false
not_taken before [] e f h = elim h [ ]
not_taken before (c ∷ cs) e f at_front = let fits = f.0 in own_token before e fits.own_token
not_taken before (c ∷ cs) e f (behind h) = taken_less before c e.token (not_taken (before ++ c ∷ []) cs e f.1 h)

by_token : (before cs : List ExportClass) (e : ExportClass) → EachAfter ClassFits before cs → Has e cs
    → with_token cs e.token ≡ Some e
by_token before [] e f h = elim h [ ]
by_token before (c ∷ cs) e f at_front = let same : (e.token == e.token) ≡ true = grind (arith, nat_tests)
    in ap (λ b. if b then Some e else with_token cs e.token) same
by_token before (c ∷ cs) e f (behind h) =
    let other = taken_more before c e.token (not_taken (before ++ c ∷ []) cs e f.1 h) in
    ap (λ b. if b then Some c else with_token cs e.token) other ∙ by_token (before ++ c ∷ []) cs e f.1 h

-- ---- a package

module _ (list : List ℕ) (p : Package) (sound : IsSound list p.files) where
  abbrev w : List Class
  w = world p

  abbrev exports : List ExportTree
  exports = let files = p.files in files.exports

  -- the class that an export file has of a name is the class of the name
  record Found (x : List ℕ) (class : CardClass) : Type 0 where
    in_file : InFile 0 exports x class
    number : ℕ
    numbered : slice_get (imports exports) number ≡ Some (let f = in_file in f.entry)
    is : class_named w x ≡ Some (imported number (let f = in_file in f.entry))

  pub has_imports : (trees : List ExportTree) (t : ExportTree) (e : ExportClass) → Has t trees → Has e t.classes
      → Has e (imports trees)
  has_imports [] t e h g = elim h [ ]
  has_imports (u ∷ trees) t e at_front g = has-front e t.classes (imports trees) g
  has_imports (u ∷ trees) t e (behind h) g = has-back e u.classes (imports trees) (has_imports trees t e h g)

  found_by : (x : List ℕ) (class : CardClass) → external_from 0 exports x ≡ Some class → Found x class
  found_by x class e =
      let r = file_found 0 exports x class e in
      let m = has-get r.entry (imports exports) (has_imports exports r.tree r.entry (get-has r.tree exports r.file
      r.in_list) r.in_file) in
      let named = own_name list p.files sound (imported m.0 r.entry) (import_in p.files sound.classes sound.exports m.0
      r.entry m.1) in
      record { in_file = r; number = m.0; numbered = m.1; is = ap (class_named w) (sym r.named) ∙ named }

  -- ---- classes of the package

  info_numbered : (k : ℕ) (c : Class) → slice_get (class_order w) k ≡ Some c → slice_get (infos (part p)) k
      ≡ Some (info_for p c)
  unfolding class_order
  info_numbered k c e =
      let is = in_order w true in
      let cs = in_order w false in
      let f = λ (d : Class). IsInterface (interface_entry (class_ref p) w d) in
      let g = λ (d : Class). IsClass (class_entry (class_ref p) p d) in
      ap (λ ys. slice_get (ys ++ map IsClass (map (class_entry (class_ref p) p) cs)) k)
      (map_map IsInterface (interface_entry (class_ref p) w) is)
      ∙ ap (λ ys. slice_get (map f is ++ ys) k) (map_map IsClass (class_entry (class_ref p) p) cs)
      ∙ ⊎_elim (λ r. r.1 ∙ ap (λ b. Some (if b then f c else g c)) (sym (kind-in list p.files sound true c r.0).2))
      (λ r. r.1 ∙ ap (λ b. Some (if b then f c else g c))
      (sym (no_interface (is_interface c.flags) (kind-in list p.files sound false c r.0).2)))
      (either_of f g is cs k c e)
    where
      no_interface : (b : Bool) → not b ≡ true → b ≡ false
      no_interface true h = cc
      no_interface false h = refl

  not_in_files : (c : Class) → Has c w → c.is_imported ≡ false → external_from 0 exports c.name ≡ None
  not_in_files c h e = by (external_from 0 exports c.name) refl
    where
      by : (o : Option CardClass) → external_from 0 exports c.name ≡ o → o ≡ None
      by None f = refl
      by (Some class) f =
          let r = found_by c.name class f in
          let both : Some c ≡ Some (imported r.number (let q = r.in_file in q.entry)) =
          sym (own_name list p.files sound c h) ∙ r.is in
          let is : c ≡ imported r.number (let q = r.in_file in q.entry) = cc in
          let yes_it = ap (λ (v : Class). v.is_imported) is in
          cc

  pub has_info : (c : Class) → Has c w → c.is_imported ≡ false → HasInfo p c
  has_info c h e =
      let k = has-get c (class_order w) (order_has list p.files sound c h e) in
      let r = ref_is_start p (own_names list p.files sound) k.0 c k.1 in
      let position_is = own_names list p.files sound k.0 c k.1 in
      let offset : class_offset p c.name ≡ Some r.0 = ap (option_and_then (slice_get (info_starts p))) position_is ∙ r.1
      in
      let info = class_info (class_ref p) p in
      let at : offset_of (part p) k.0 ≡ Some r.0 = offsets_are 2 info.interfaces info.classes k.0
      ∙ ap (λ ss. slice_get ss k.0) (infos_stand_alike (class_ref p) (λ name. Inside 0) p) ∙ r.1 in
      let numbered : number_of (part p) r.0 ≡ Some k.0 = numbers_are 2 (infos (part p)) k.0 r.0 at in
      record {
        number = k.0;
        offset = r.0;
        ordered = k.1;
        on_card = ap (λ o. unwrap_or (or_else (option_map (Own 0) o) (external_from 0 exports c.name)) (Own 0 0))
            offset;
        ref = r.2;
        numbered = numbered;
        at = at;
        named = numbers_named p c.name ∙ position_is;
        info = ap (option_and_then (slice_get (infos (part p)))) numbered ∙ info_numbered k.0 c k.1;
        names = ap (option_and_then (slice_get (let q = part p in q.classes))) numbered
            ∙ slice_get-map (class_names p.files (tokens p)) (class_order w) k.0
            ∙ ap (option_map (class_names p.files (tokens p))) k.1;
        in_no_file = not_in_files c h e;
      }

  -- ---- other names

  -- no info has the name of a class that is none of the package
  no_place : (x : List ℕ) → ((c : Class) → class_named w x ≡ Some c → c.is_imported ≡ false → ⊥)
      → position (λ d. bytes_eq d.name x) (class_order w) ≡ None
  no_place x none = by (position (λ d. bytes_eq d.name x) (class_order w)) refl
    where
      by : (o : Option ℕ) → position (λ d. bytes_eq d.name x) (class_order w) ≡ o → o ≡ None
      by None f = refl
      by (Some k) f =
          let r = position-at (λ (d : Class). bytes_eq d.name x) (class_order w) k f in
          let i = order_in list p.files sound r.0 (get-has r.0 (class_order w) k r.1) in
          absurd (none r.0 (ap (class_named w) (sym (bytes_true r.0.name x r.2)) ∙ own_name list p.files sound r.0 i.0)
          i.1)

  no_offset : (x : List ℕ) → position (λ d. bytes_eq d.name x) (class_order w) ≡ None → class_offset p x ≡ None
  no_offset x e = ap (option_and_then (slice_get (info_starts p))) e

  pub has_entry : (c : Class) → Has c w → c.is_imported ≡ true → HasEntry p c
  has_entry c h e =
      let r = import_filed p.files sound.classes sound.exports c h e in
      let t = of-imports r.1 exports (get-has r.1 (imports exports) r.0 r.2) in
      let name_is : (let q = r.1 in q.name) ≡ c.name = ap (λ (v : Class). v.name) (sym r.3) in
      let there = file_there 0 exports t.0 r.1 t.1 t.2 in
      let found : external_from 0 exports c.name ≡ Some there.0 = ap (external_from 0 exports) (sym name_is) ∙ there.1
      in
      let s = found_by c.name there.0 found in
      let f = s.in_file in
      let both : Some c ≡ Some (imported s.number f.entry) = sym (own_name list p.files sound c h) ∙ s.is in
      let is : c ≡ imported s.number f.entry = cc in
      let none = no_place c.name (λ d g i. (let one : Some c ≡ Some d = sym (own_name list p.files sound c h) ∙ g
      in let same : c ≡ d = cc in let clash = ap (λ (v : Class). v.is_imported) same in cc)) in
      let z : 0 + f.file ≡ f.file = omega arith in
      let class_is : there.0 ≡ External f.file f.entry.token = f.is ∙ ap (λ m. External m (let q = f.entry in q.token))
      z in
      let on_card : class_at p c.name ≡ External f.file f.entry.token =
      ap (λ o. unwrap_or (or_else (option_map (Own 0) o) (external_from 0 exports c.name)) (Own 0 0))
      (no_offset c.name none) ∙ ap (λ o. unwrap_or o (Own 0 0)) found ∙ class_is in
      let read = sound.read in
      let tree = read.exports f.file f.tree f.in_list in
      record {
        file = f.file;
        tree = f.tree;
        entry = f.entry;
        number = s.number;
        in_list = f.in_list;
        on_card = on_card;
        ref = ap ref_to on_card;
        found = found ∙ ap (λ (v : CardClass). Some v) class_is;
        there = ap (option_and_then (λ (t : ExportTree). with_token t.classes f.entry.token)) f.in_list
            ∙ by_token [] f.tree.classes f.entry tree.classes f.in_file;
        class = is;
        has_no_info = numbers_named p c.name ∙ none;
      }

  pub has_none : (x : List ℕ) → class_named w x ≡ None → HasNone p x
  has_none x e =
      let none = no_place x (λ c f g. (let clash : None ≡ Some c = sym e ∙ f in cc)) in
      let no_file = by (external_from 0 exports x) refl in
      record {
        on_card = ap (λ o. unwrap_or (or_else (option_map (Own 0) o) (external_from 0 exports x)) (Own 0 0))
            (no_offset x none) ∙ ap (λ o. unwrap_or o (Own 0 0)) no_file;
        in_no_file = no_file;
        has_no_info = numbers_named p x ∙ none;
      }
    where
      by : (o : Option CardClass) → external_from 0 exports x ≡ o → o ≡ None
      by None f = refl
      by (Some class) f = let r = found_by x class f in let clash : None ≡ Some (imported r.number (let q = r.in_file
          in q.entry)) = sym e ∙ r.is in cc
