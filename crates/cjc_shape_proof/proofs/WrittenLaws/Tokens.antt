-- Where 413 is not broken, the tokens of the public and protected methods of classes fit seven bits.
use Rattle.std.proofs.Common.{◌≡◌, ℕ, zero, suc, ◌+◌, ◌≤◌, refl, sym, ap, subst, ◌∙◌, arith, Bool, true, false}
use Rattle.std.proofs.Common.{List, [], ◌∷◌, length}
use Rattle.std.specs.Prelude.{◌&&◌, ◌||◌, not, nat_lt, Some, slice_get, if◌then◌else◌, count_by}
use Rattle.std.specs.List.{AllByRecursion}
use Rattle.std.proofs.lemmas.Bool.{ltb-false, or_parts}
use Rattle.std.proofs.lemmas.Option.{slice_get_within}
use Rattle.cjc_bytes.specs.AccessFlags.{is_interface, is_private, is_static}
use Rattle.cjc_bytes.specs.Order.{file_of}
use Rattle.cjc_bytes.specs.declared.settings.FileLine.{FileLine}
use Rattle.cjc_bytes.proofs.Lists.{none_left, none_right}
use Rattle.cjc_world.specs.ClassFile.declared.tree.ClassTree.{ClassTree}
use Rattle.cjc_world.specs.ExportFile.Members.{is_unbound, method_token_taken, method_token_wrong}
use Rattle.cjc_world.specs.ExportFile.Writable.{ClassFits, IsWritable, MethodStands}
use Rattle.cjc_world.specs.ExportFile.declared.tree.ExportMethod.{ExportMethod}
use Rattle.cjc_world.specs.ExportFile.declared.tree.ExportTree.{ExportTree}
use Rattle.cjc_check_proof.proofs.WorldProofOwn.{mapped_at}
use Rattle.cjc_classes.specs.Subset.Members.{imports}
use Rattle.cjc_tokens.proofs.Held.{token-slot}
use Rattle.cjc_tokens.proofs.Walks.{supertypes-known}
use Rattle.cjc_tokens.specs.Lines.{line_in, line_of}
use Rattle.cjc_tokens.specs.Members.{In, first_of, is_constructor, is_initialiser, is_virtual, later}
use Rattle.cjc_tokens.specs.Methods.{interface_methods, is_open_bound}
use Rattle.cjc_tokens.specs.Rules.{at_class, breaks_from, breaks_where, has_high_method, has_high_token, token_breaks}
use Rattle.cjc_tokens.specs.Fields.{is_open_static}
use Rattle.cjc_tokens.specs.Slots.{slots}
use Rattle.cjc_world.specs.Upwards.{IsOrdered}
use Rattle.cjc_vtable.proofs.Filed.{IsFiled, filed, get-has, has-get, in_class_file, in_export_file, of-imports}
use Rattle.cjc_vtable.proofs.Read.{each-after}
use Rattle.cjc_world.specs.Classes.{Class, Member, all_classes, class_named, declared, imported, method_of_export}
use Rattle.cjc_world.specs.Exported.{is_exported}
use Rattle.cjc_world.specs.Files.{Files}
use Rattle.cjc_world.proofs.Cycles.{class_named-name}
use Rattle.cjc_world.proofs.Settled.{AreSupertypes-one, supertypes-AreSupertypes, lists-front}
use Rattle.cjc_shape_proof.proofs.WrittenLaws.FittingLaws.Slots.{IsLow, IsLowMember, class_few}
use Rattle.cjc_check_proof.specs.TokenProof.WrittenCalls.Calls.{KeepsTokens}
use Rattle.cjc_shape.proofs.JudgedLaws.Tokens.{unbroken_where}

-- ---- 413 at a class

none_high : (w : List Class) (applets : Bool) (lines : List FileLine) (k : ℕ) (cs : List ClassTree) (n : ℕ)
    (c : ClassTree) → breaks_from w applets lines k cs ≡ [] → slice_get cs n ≡ Some c
    → has_high_token w (is_exported w applets (declared (k + n) c)) (k + n) c ≡ false
unfolding breaks_from
none_high w applets lines k [] n c e f = cc
none_high w applets lines k (d ∷ cs) zero c e f =
    let is : d ≡ c = cc in
    let at : k ≡ k + 0 = omega arith in
    let here = unbroken_where (has_high_token w (is_exported w applets (declared k d)) k d) (at_class
    (file_of lines k) d.name)
    (none_left (breaks_where (has_high_token w (is_exported w applets (declared k d)) k d)
    (at_class (file_of lines k) d.name)) (breaks_from w applets lines (k + 1) cs) e) in
    subst (λ i. has_high_token w (is_exported w applets (declared i c)) i c ≡ false) at
    (subst (λ x. has_high_token w (is_exported w applets (declared k x)) k x ≡ false) is here)
none_high w applets lines k (d ∷ cs) (suc n) c e f =
    let at : k + 1 + n ≡ k + suc n = omega arith in
    subst (λ i. has_high_token w (is_exported w applets (declared i c)) i c ≡ false) at
    (none_high w applets lines (k + 1) cs n c
    (none_right (breaks_where (has_high_token w (is_exported w applets (declared k d)) k d)
    (at_class (file_of lines k) d.name)) (breaks_from w applets lines (k + 1) cs) e) f)

module _ (files : Files) (applets : Bool) (unbroken : token_breaks applets files ≡ [])
    (writable : (e : ℕ) (t : ExportTree) → slice_get files.exports e ≡ Some t → IsWritable t)
    (ordered : IsOrdered (all_classes files)) where
  abbrev w : List Class
  w = all_classes files

  high_class : (n : ℕ) (t : ClassTree) → slice_get files.classes n ≡ Some t → is_interface t.flags ≡ false
      → has_high_method w (declared n t) ≡ false
  unfolding token_breaks has_high_token
  high_class n t e plain =
      let at : 0 + n ≡ n = omega arith in
      let c = declared n t in
      let exported = is_exported w applets c in
      let none : has_high_token w exported n t ≡ false =
      subst (λ i. has_high_token w (is_exported w applets (declared i t)) i t ≡ false) at
      (none_high w applets files.lines 0 files.classes n t unbroken e) in
      let B = exported && nat_lt 255 (count_by is_open_static t.fields) in
      let M = has_high_method w c || (exported && nat_lt 255 (count_by is_open_bound c.methods)) in
      let first = (or_parts (if is_interface t.flags then nat_lt 128 (length (interface_methods w c))
      else M) B none).0 in
      (or_parts (has_high_method w c) (exported && nat_lt 255 (count_by is_open_bound c.methods))
      (sym (ap (λ b. if b then nat_lt 128 (length (interface_methods w c)) else M) plain) ∙ first)).0

  -- ---- imported classes

  -- a class of an export file that is no interface
  pub record IsFileClass (d : Class) : Type 0 where
    pub known : class_named w d.name ≡ Some d
    pub import : d.is_imported ≡ true
    pub plain : is_interface d.flags ≡ false

  file_token : (d : Class) → IsFileClass d → (m : Member) → In m d.methods → is_virtual m ≡ true → m.token ≤ 127
  file_token d is m i virtual = by d (filed files d.name d is.known) is.import is.plain i
    where
      place : (ms : List Member) → In m ms → (k : ℕ) × (slice_get ms k ≡ Some m)
      place [] j = elim j [ ]
      place (n ∷ ms) first_of = (0, refl)
      place (n ∷ ms) (later j) = let r = place ms j in (suc r.0, r.1)

      bound : (a b c d : Bool) → ((not a && not b) && not (c || d)) ≡ true → (b || c) ≡ false
      bound true true c d f = absurd (cc)
      bound false true c d f = absurd (cc)
      bound true false c d f = absurd (cc)
      bound false false true d f = absurd (cc)
      bound false false false d f = refl

      unbound_not : (o : ExportMethod) → method_of_export o ≡ m → is_unbound o.flags o.name ≡ false
      unbound_not o e =
          ap (λ (x : Member). is_static x.flags || is_constructor x.name) e
          ∙ bound (is_private m.flags) (is_static m.flags) (is_constructor m.name) (is_initialiser m.name) virtual

      low : (before : List ExportMethod) (o : ExportMethod) → method_of_export o ≡ m
          → method_token_wrong before (is_unbound o.flags o.name) o.token ≡ false → m.token ≤ 127
      low before o e f =
          let two = or_parts (method_token_taken before (is_unbound o.flags o.name) o.token)
          (not (is_unbound o.flags o.name) && nat_lt 127 o.token) f in
          let three : nat_lt 127 o.token ≡ false = sym (ap (λ b. not b && nat_lt 127 o.token) (unbound_not o e)) ∙ two.1
          in
          let l = ltb-false 127 o.token three in
          let same : o.token ≡ m.token = ap (λ (x : Member). x.token) e in
          omega (arith, l, same)

      by : (d : Class) → IsFiled files d → d.is_imported ≡ true → is_interface d.flags ≡ false → In m d.methods
          → m.token ≤ 127
      by d (in_class_file n t at) import plain i = cc
      by d (in_export_file n t at) import plain i =
          let k = place (imported n t).methods i in
          let o = mapped_at method_of_export t.methods k.0 m k.1 in
          let tree = of-imports t files.exports (get-has t (imports files.exports) n at) in
          let e = has-get tree.0 files.exports tree.1 in
          let written = writable e.0 tree.0 e.1 in
          let class = each-after ClassFits [] (let u = tree.0 in u.classes) t written.classes tree.2 in
          let fit = class.1 in
          let stands = each-after (MethodStands (is_interface t.flags) (length t.methods)) [] t.methods o.0 fit.methods
          (get-has o.0 t.methods k.0 o.1) in
          low stands.0 o.0 (sym o.2) ((subst (λ b. MethodStands b (length t.methods) stands.0 o.0) plain stands.1).1)

  -- what is known of a class of the world
  low : (x : List ℕ) (c : Class) → class_named w x ≡ Some c → IsLow w c
  low x c e = record {
    own = λ own plain. (let r = own_class (filed files x c e) own in ap (has_high_method w) r.2
        ∙ high_class r.0 r.1 r.3 (ap (λ (v : Class). is_interface v.flags) (sym r.2) ∙ plain));
    listed = λ import plain. all_low c.methods (λ m i. file_token c (record {
      known = ap (class_named w) (class_named-name w x c e) ∙ e;
      import = import;
      plain = plain;
    }) m i);
    supers = λ s d l f. ordered.supers x s c d e l f;
    abroad = λ import s d l f. ordered.abroad x s c d e import (lists-front s c.supers c.interfaces l) f;
  }
    where
      own_class : {v : Class} → IsFiled files v → v.is_imported ≡ false → (n : ℕ) × (t : ClassTree)
          × (v ≡ declared n t) × (slice_get files.classes n ≡ Some t)
      own_class (in_class_file n t at) f = (n, t, refl, at)
      own_class (in_export_file n t at) f = cc

      all_low : (ms : List Member) → ((m : Member) → In m ms → IsLowMember m) → AllByRecursion IsLowMember ms
      all_low [] each = tt
      all_low (m ∷ ms) each = (each m first_of, all_low ms (λ k i. each k (later i)))

  -- The places of all slots of a class fit seven bits.
  pub keeps_tokens : KeepsTokens w
  keeps_tokens x c s t e plain f =
      let are_supertypes = supertypes-AreSupertypes w ordered.acyclic in
      let few = (class_few w are_supertypes (AreSupertypes-one w) low x c e plain).0 in
      let line = ap (λ k. length (slots (line_in w k))) (supertypes-known w are_supertypes (AreSupertypes-one w) x c
      e) in
      let within = slice_get_within (slots (line_of w x)) t (Some s) (token-slot (slots (line_of w x)) s t f) in
      omega (arith, few, line, within)
