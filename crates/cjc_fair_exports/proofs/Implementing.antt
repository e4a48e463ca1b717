-- What fair export files say of the methods that implement interfaces, in the world of a package: whatever selection gives is
-- listed by a class, and so is public or protected.
use Rattle.std.proofs.Common.{◌≡◌, ℕ, suc, refl, sym, ap, subst, ◌∙◌, Bool, true, false, List, [], ◌∷◌, ◌++◌, ⊎_elim}
use Rattle.std.specs.Prelude.{Some, slice_get}
use Rattle.cjc_bytes.specs.AccessFlags.{is_interface}
use Rattle.cjc_call_laws.proofs.Own.{mapped_at}
use Rattle.cjc_fair_exports.specs.Fair.{ExportsAreFair}
use Rattle.cjc_fair_exports.proofs.Alone.{acyclic, filed}
use Rattle.cjc_solid_laws.proofs.Rules.{listed_abroad, super_class}
use Rattle.cjc_tables_by_token.specs.Sound.{IsSound}
use Rattle.cjc_tokens.proofs.Facts.{chosen-In}
use Rattle.cjc_tokens.specs.Members.{In, all_methods, first_of, is_exposed, later, signature_of}
use Rattle.cjc_upward_laws.specs.Upwards.{Has, OnLine, after, foremost, here, up}
use Rattle.cjc_upward_laws.proofs.Lines.{line_begins, of_line}
use Rattle.cjc_vtable.proofs.Given.{In-split}
use Rattle.cjc_vtable.specs.Calls.{selects}
use Rattle.cjc_world.specs.Classes.{Class, Member, all_classes, class_named, method_of_export}
use Rattle.cjc_world.specs.Files.{Files}
use Rattle.cjc_world.specs.Kin.{Lists, line}
use Rattle.cjc_world.proofs.Cycles.{class_named-name}
use Rattle.cjc_world.proofs.Settled.{lists-front}
use Rattle.cjc_written_sends.specs.Sends.{ExportsImplement}

-- ---- methods of classes

-- one of some classes' methods is one of a class among them
of_one : (ds : List Class) (m : Member) → In m (all_methods ds) → (d : Class) × Has d ds × In m d.methods
of_one [] m i = elim i [ ]
of_one (d ∷ ds) m i = ⊎_elim (λ j. (d, foremost, j)) (λ j. let r = of_one ds m j in (r.0, after r.1, r.2)) (In-split m d.methods (all_methods ds) i)

in_at : (m : Member) (ms : List Member) → In m ms → (k : ℕ) × (slice_get ms k ≡ Some m)
in_at m [] h = elim h [ ]
in_at m (x ∷ ms) first_of = (0, refl)
in_at m (x ∷ ms) (later h) = let r = in_at m ms h in (suc r.0, r.1)

same_class : {c d : Class} → Some c ≡ Some d → c ≡ d
same_class e = cc

-- a class of an export file that is no interface, found by its name
record IsPlain (w : List Class) (d : Class) : Type 0 where
  named : class_named w d.name ≡ Some d
  is : d.is_imported ≡ true
  plain : is_interface d.flags ≡ false

module _ (list : List ℕ) (files : Files) (sound : IsSound list files) where
  abbrev w : List Class
  w = all_classes files

  -- what stands over superclasses above such a class is one
  line_plain : (x : List ℕ) (c d : Class) → class_named w x ≡ Some c → c.is_imported ≡ true → is_interface c.flags ≡ false → OnLine w x d → IsPlain w d
  line_plain x c d e is plain (here f) =
      let same : c ≡ d = same_class (sym e ∙ f) in
      record {
        named = ap (class_named w) (class_named-name w x d f) ∙ f;
        is = ap (λ (q : Class). q.is_imported) (sym same) ∙ is;
        plain = ap (λ (q : Class). is_interface q.flags) (sym same) ∙ plain;
      }
  line_plain x c d e is plain (up {s = s} b f l rest) =
      let next = line_begins w s d rest in
      let here_too : Lists s c.supers = subst (λ (q : Class). Lists s q.supers) (same_class (sym f ∙ e)) l in
      line_plain s next.0 d next.1
      (listed_abroad list files sound.unbroken x s c next.0 e is (lists-front s c.supers c.interfaces here_too) next.1)
      (super_class list files sound.unbroken x s c next.0 e here_too next.1)
      rest

  pub exports_implement : ExportsAreFair files.exports → ExportsImplement w
  exports_implement fair x c i asked given e is plain f interface sub among choice =
      let o = of_one (line w x) given (chosen-In selects (signature_of asked) (all_methods (line w x)) given choice) in
      let d = line_plain x c o.0 e is plain (of_line w (acyclic list files sound) x o.0 o.1) in
      let r = filed list files sound (let q = o.0 in q.name) o.0 d.named d.is in
      let at = in_at given (let q = o.0 in q.methods) o.2 in
      let m = mapped_at method_of_export r.1.methods at.0 given (ap (λ (q : Class). slice_get q.methods at.0) (sym r.3) ∙ at.1) in
      ap (λ (q : Member). is_exposed q.flags) m.2 ∙ fair.exposed r.0 r.1 r.2 (ap (λ (q : Class). is_interface q.flags) (sym r.3) ∙ d.plain) at.0 m.0 m.1
