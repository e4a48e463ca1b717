-- Methods of Method in int mode of a package by modes: each is written for one of a class file with code.
use Rattle.std.proofs.Common.{◌≡◌, ℕ, refl, sym, ap, ◌∙◌, Bool, true, false, List, slice_get, Option, Some, None}
use Rattle.std.specs.Prelude.{option_and_then, option_map, if◌then◌else◌}
use Rattle.cjc_types.specs.Bytecode.declared.method_code.MethodCode.{MethodCode}
use Rattle.cjc_types.specs.Bytes.AccessFlags.{is_interface}
use Rattle.cjc_types.specs.ClassFile.Code.{CodeTree}
use Rattle.cjc_types.specs.ClassFile.declared.tree.ClassTree.{ClassTree}
use Rattle.cjc_types.specs.ClassFile.declared.tree.MethodTree.{MethodTree}
use Rattle.cjc_check_proof.specs.JvmSemantics.Linked.{Method}
use Rattle.cjc_check_proof.specs.JvmSemantics.OnePackage.{method_at, method_by, method_in}
use Rattle.cjc_check_proof.specs.LowerList.Listed.{ListTree}
use Rattle.cjc_shape_proof.specs.LowerIntPackage.LowerIntMode.declared.modes.Mode.{Mode}
use Rattle.cjc_shape_proof.specs.LowerIntPackage.LowerIntMode.declared.modes.Mode.TheVariants as modes
use Rattle.cjc_int_components.specs.Components.{is_in_int_mode}
use Rattle.cjc_int_components.specs.Modes.{Tables, is_int}
use Rattle.cjc_verify.specs.Components.Package.{LaidMethod, Package}
use Rattle.cjc_shape_proof.proofs.WrittenLaws.Coded.{ComesFrom, IsCoded, coded_class, comes_from, from_abstract}
use Rattle.cjc_shape_proof.proofs.WrittenLaws.Coded.{from_code, from_none, holder}
use Rattle.cjc_int_theorem.proofs.Methods.{are_methods, as_int_code, least, room}
use Rattle.cjc_int_theorem.specs.ByModes.{IsConvertedByModes}
use Rattle.cjc_accepted_theorem.specs.Stands.{StandsInIntMode}
use Rattle.cjc_accepted_modes.specs.InIntMode.{IntMethod, IsInIntMode}

int_is : (q : Mode) → is_int q ≡ true → q ≡ modes.Int
int_is modes.Int e = refl
int_is modes.Short e = absurd cc

module _ (list : ListTree) (codes : List MethodCode) (t : Tables) (p : Package) (is : IsConvertedByModes list codes t p)
    (k : ℕ) (laid : LaidMethod) (is_laid : slice_get p.methods k ≡ Some laid)
    (in_mode : is_in_int_mode t (method_at p.files laid.member) ≡ true) where
  coded : IsCoded p.files codes laid
  coded = by (comes_from list codes p is.checked (are_methods list codes t p is) k laid is_laid)
    where
      by : ComesFrom p.files codes laid → IsCoded p.files codes laid
      by (from_none none) = (let no : false ≡ true = sym (ap (is_in_int_mode t) none) ∙ in_mode in absurd cc)
      by (from_abstract class method known) = (let no : false ≡ true = sym (ap (is_in_int_mode t) known
          ∙ ap is_int (is.modes.without_code class method)) ∙ in_mode in absurd cc)
      by (from_code c) = c

  pub stands_beside : (m : IntMethod) × (m.laid ≡ laid) × IsInIntMode p t m codes k
  stands_beside = by coded
    where
      by : IsCoded p.files codes laid → (m : IntMethod) × (m.laid ≡ laid) × IsInIntMode p t m codes k
      by c =
          let x : Method = method_by c.class c.method (Some c.tree) in
          let of = c.of in
          let mode : t.mode x ≡ modes.Int = int_is (t.mode x) (sym (ap (is_in_int_mode t) c.known) ∙ in_mode) in (
            record { laid = laid; code = c.code; class = c.class; method = c.method; tree = c.tree },
            refl,
            record {
              is_laid = is_laid;
              named = c.known;
              class_there = ap (λ (n : ℕ). let w = p.files in slice_get w.classes n) (sym c.number) ∙ of.is_class;
              method_there = ap (λ (n : ℕ). let u = c.class in slice_get u.methods n) (sym c.place) ∙ of.is_method;
              no_interface = ap (λ (u : ClassTree). is_interface u.flags) (sym (coded_class list codes p is.checked
                  (are_methods list codes t p is) k laid is_laid c)) ∙ (let h = holder list codes p is.checked
                  (are_methods list codes t p is) k laid is_laid in h.no_interface);
              is_method = of;
              listed = c.listed;
              plain = c.plain;
              some = c.some;
              found = c.found;
              mode = mode;
              least = least list codes t p is k laid is_laid c;
              unbroken = is.typed c.code c.class c.method c.tree c.of;
              room = room list codes t p is k laid is_laid c mode;
              written = as_int_code list codes t p is k laid is_laid c mode;
            },
          )

-- a method that stands in int mode is in int mode by its tables
pub in_int_mode_by : (list : ListTree) (codes : List MethodCode) (t : Tables) (p : Package)
    → IsConvertedByModes list codes t p → (k : ℕ) (s : StandsInIntMode p t k)
    → (let laid = s.laid in is_in_int_mode t (method_at p.files laid.member) ≡ true)
in_int_mode_by list codes t p is k s =
    let h = holder list codes p is.checked (are_methods list codes t p is) k s.laid s.is_laid in
    let laid = s.laid in
    let f = laid.member in
    ap (is_in_int_mode t) (ap (λ (v : Bool). if v then None else option_and_then (method_in f.member) (let w = p.files
    in slice_get w.classes f.class)) h.own
    ∙ ap (option_and_then (method_in f.member)) s.is_class
    ∙ ap (option_map (λ (y : MethodTree). method_by s.class y y.code)) s.is_method
    ∙ ap (λ (o : Option CodeTree). Some (method_by s.class s.method o)) s.is_code) ∙ ap is_int s.mode
