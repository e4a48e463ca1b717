-- The arrays of a static image are of the types of their fields: an initialiser puts an array into a field of its type
-- alone.
use Rattle.std.proofs.Common.{◌≡◌, ℕ, ◌+◌, ◌==◌, refl, sym, ap, subst, ◌∙◌, Bool, true, false, List, [], ◌∷◌, ◌++◌, map}
use Rattle.std.proofs.Common.{Option, Some, None}
use Rattle.std.specs.Prelude.{if◌then◌else◌}
use Rattle.std.specs.List.{AllByRecursion}
use Rattle.cjc_types.specs.Bytes.declared.fault.MemberId.{MemberId}
use Rattle.cjc_types.specs.Bytes.declared.descriptor.Kind.{Kind}
use Rattle.cjc_types.specs.Bytes.declared.descriptor.Kind.TheVariants as kinds
use Rattle.cjc_types.proofs.BytesLists.{bytes_true}
use Rattle.cjc_types.proofs.BytesNumbers.{like_number}
use Rattle.cjc_types.proofs.BytesQuantified.{all_both}
use Rattle.cjc_verify.specs.CheckRules.Spots.{beside, in_info}
use Rattle.cjc_verify.specs.CheckRules.Complete.{array_size}
use Rattle.cjc_types.specs.ClassFile.declared.tree.ClassTree.{ClassTree}
use Rattle.cjc_types.specs.World.declared.image.ArrayCell.{ArrayCell}
use Rattle.cjc_types.specs.World.declared.image.StaticImage.{StaticImage}
use Rattle.cjc_types.specs.World.declared.image.ValueCell.{ValueCell}
use Rattle.cjc_types.specs.World.Files.{Files}
use Rattle.cjc_verify.specs.Clinit.declared.stage.Held.{Held}
use Rattle.cjc_verify.specs.Clinit.Fields.{Contents, array_desc, takes}
use Rattle.cjc_verify.specs.Clinit.Image.{AreInitialised, IsImage, array_in, arrays_of, own_field}
use Rattle.cjc_verify.specs.Clinit.Image.AreInitialised.{none as no_code, other as other_code, one as one_code}
use Rattle.cjc_verify.specs.Clinit.Initialiser.{Initialises, Makes, of_number, of_null, of_array, Put}
use Rattle.cjc_verify.specs.Clinit.Initialiser.{element_kind}
use Rattle.cjc_verify.specs.Clinit.Initialiser.{open_place}
use Rattle.cjc_verify.specs.Clinit.Initialiser.{place_for}
use Rattle.cjc_verify.specs.Clinit.Initialiser.Initialises.{ends, puts}
use Rattle.cjc_types.specs.Bytecode.declared.insn.JOp.{JOp}
use Rattle.cjc_types.specs.Bytecode.declared.method_code.MethodCode.{MethodCode}
use Rattle.cjc_verify.specs.Components.Package.{Package}
use Rattle.cjc_verify.specs.Components.Statics.{array_init, type_number}
use Rattle.cjc_check_proof.proofs.TokenProofTests.{none_in_both, passes}
use Rattle.cjc_check_proof.proofs.TokenProofGroups.{GroupsAre, groups_are}
use Rattle.cjc_verify.specs.Described.{all_array_spots, array_number, array_spots, is_number}
use Rattle.cjc_accepted_proof.specs.Written.{written_pair}

-- the field is one of arrays of this kind
abbrev IsOfField : ArrayCell → Type 0
IsOfField a = let f = a.field in array_number f.desc ≡ Some (type_number a.kind)

-- newarray's kinds are those of arrays of numbers
kind_number : (number : ℕ) (kind : Kind) → element_kind number ≡ Some kind → array_number (array_desc kind)
    ≡ Some (type_number kind)
kind_number number kind e = by (number == 4) (number == 8) (number == 9) (number == 10) e
  where
    at : (k : Kind) → Some k ≡ Some kind → array_number (array_desc k) ≡ Some (type_number k)
        → array_number (array_desc kind) ≡ Some (type_number kind)
    at k f g = let is : k ≡ kind = cc in subst (λ (x : Kind). array_number (array_desc x) ≡ Some (type_number x)) is g

    by : (a b c d : Bool) → (if a then Some kinds.Bool else if b then Some kinds.Byte else if c then Some kinds.Short
        else if d then Some kinds.Int else None) ≡ Some kind → array_number (array_desc kind) ≡ Some (type_number kind)
    by true b c d f = at kinds.Bool f refl
    by false true c d f = at kinds.Byte f refl
    by false false true d f = at kinds.Short f refl
    by false false false true f = at kinds.Int f refl
    by false false false false f = cc

-- a field takes what is put into it
taken : (files : Files) (n : ℕ) (c : ClassTree) (fields : List Held) (contents : Contents) (id : MemberId) (k : ℕ)
    → place_for files n c fields contents id ≡ Some k → takes contents id.desc ≡ true
taken files n c fields contents id k e = by (takes contents id.desc) (open_place files n c fields id) e
  where
    by : (b : Bool) (o : Option ℕ) → (if b then o else None) ≡ Some k → b ≡ true
    by true o f = refl
    by false o f = cc

made_typed : (field : MemberId) (made : List JOp) (contents : Contents) → Makes made contents → takes contents
    field.desc ≡ true → AllByRecursion IsOfField (array_in field contents)
made_typed field made contents of_number t = tt
made_typed field made contents of_null t = tt
made_typed field made contents (of_array {number = number} {kind = kind} le is stores) t = (
  ap array_number (bytes_true field.desc (array_desc kind) t) ∙ kind_number number kind is,
  tt,
)

puts_typed : (files : Files) (n : ℕ) (t : ClassTree) (before after : List Held) (ops : List JOp) (ps : List Put)
    → Initialises files n t before ops ps after → AllByRecursion IsOfField (arrays_of t ps)
puts_typed files n t before after ops ps ends = tt
puts_typed files n t before after ops ps (puts {made = made} {ops = more} {contents = contents} {id = id} {k = k}
    {rest = rest} makes place next) =
    all_both IsOfField (array_in (own_field t id) contents) (arrays_of t rest) (made_typed (own_field t id) made
    contents
    makes (taken files n t before contents id k place)) (puts_typed files n t _ after more rest next)

all_typed : (files : Files) (before after : List (List Held)) (codes : List MethodCode) (arrays : List ArrayCell)
    → AreInitialised files before codes arrays after → AllByRecursion IsOfField arrays
all_typed files before after codes arrays no_code = tt
all_typed files before after codes arrays (other_code {codes = more} is rest) = all_typed files before after more arrays
    rest
all_typed files before after codes arrays (one_code {code = code} {codes = more} {arrays = made} c ps fields is says
    rest) =
    all_both IsOfField (arrays_of c ps) made (puts_typed files code.class c _ fields _ ps says) (all_typed files _ after
    more made rest)

-- arrays beside the fields whose cells they fill
each_array : (at : ℕ) (arrays : List ArrayCell) (rest : List MemberId) → AllByRecursion IsOfField arrays
    → beside array_size array_spots at (map array_init arrays) (map (λ (a : ArrayCell). a.field) arrays ++ rest) ≡ []
unfolding beside
each_array at [] rest g = refl
each_array at (a ∷ arrays) rest g =
    let f = a.field in
    none_in_both (passes (is_number (type_number a.kind) (array_number f.desc)) (in_info 8 at) (ap (is_number
    (type_number
    a.kind)) g.0 ∙ like_number (type_number a.kind))) (each_array (at + array_size (array_init a)) arrays rest g.1)

pub array_spots_none : (p : Package) (codes : List MethodCode) → IsImage p.files codes p.image
    → all_array_spots (written_pair p) ≡ []
array_spots_none p codes image =
    let i = p.image in
    let classes = (let files = p.files in files.classes) in
    let groups = subst (λ (i : StaticImage). GroupsAre image.fields i classes image.arrays) (sym image.is) (groups_are
    image.fields classes image.arrays) in
    let good : AllByRecursion IsOfField i.arrays = subst (AllByRecursion IsOfField) (sym groups.array) (all_typed
    p.files
    _ image.fields codes image.arrays image.initialises) in
    each_array 6 i.arrays (i.nulls ++ (i.zeros ++ map (λ (v : ValueCell). v.field) i.others)) good
