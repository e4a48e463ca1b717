-- A package has one image at most.
use Rattle.std.proofs.Common.{◌≡◌, ◌∙◌, refl, sym, ap, List, [], ◌∷◌, ◌++◌, append_assoc, append-nil, ℕ}
use Rattle.std.specs.Prelude.{Option, Some, None, Result, Ok, slice_set}
use Rattle.cjc_subset.specs.LowerClassFile.declared.tree.ClassTree.{ClassTree}
use Rattle.cjc_subset.specs.LowerBytecode.declared.insn.JInsn.{JInsn}
use Rattle.cjc_subset.specs.LowerBytecode.declared.method_code.MethodCode.{MethodCode}
use Rattle.cjc_subset.specs.LowerWorld.declared.image.ArrayCell.{ArrayCell}
use Rattle.cjc_subset.specs.LowerWorld.declared.image.StaticImage.{StaticImage}
use Rattle.cjc_subset.specs.LowerWorld.Files.{Files}
use Rattle.cjc_clinit.specs.declared.stage.Held.{Held}
use Rattle.cjc_clinit.specs.Initialiser.{Initialises, IsInitialiser, Put, nothing_in, ops_of}
use Rattle.cjc_clinit.specs.Image.{AreInitialised, IsImage, arrays_of, image_of, initialised}
use Rattle.cjc_clinit.specs.Image.AreInitialised.{none, one, other}
use Rattle.cjc_clinit.specs.Working.Reading.{Puts, State, after_class, after_code, after_codes, after_initialiser}
use Rattle.cjc_clinit.specs.Working.Reading.{and_then, ended, puts, read, with_read}
use Rattle.cjc_clinit.proofs.Wrong.{start, ended-so, initialiser-reads}

-- ---- one code

pub right-so : (files : Files) (class : ℕ) (c : ClassTree) (insns : List JInsn) (s : State)
    → ended (read files class c (start c []) insns) ≡ Ok s → IsInitialiser files class c insns
right-so files class c insns s e = let h = ended-so files class c [] insns s e in (h.0, s.fields, h.1)

module _ (files : Files) (code : MethodCode) (before : List (List Held)) (arrays : List ArrayCell) where
  passed : initialised files code ≡ None → after_code files (puts before arrays) code ≡ Ok (puts before arrays)
  unfolding after_code
  passed is = ap (λ (o : Option ClassTree). after_class files code (puts before arrays) o) is

  done : (c : ClassTree) (ps : List Put) (fields : List Held) → initialised files code ≡ Some c
      → Initialises files code.class c (nothing_in c) (ops_of code.insns) ps fields
      → after_code files (puts before arrays) code ≡ Ok (puts (slice_set before code.class fields) (arrays
      ++ arrays_of c ps))
  unfolding after_code after_initialiser
  done c ps fields is h =
      ap (λ (o : Option ClassTree). after_class files code (puts before arrays) o) is
      ∙ ap (λ (r : Result State ℕ). with_read code (puts before arrays) r) (initialiser-reads files code.class c arrays
      code.insns (ps, fields, h))

-- ---- all codes

further : (files : Files) (code : MethodCode) (codes : List MethodCode) (before mid : Puts)
    → after_code files before code ≡ Ok mid → after_codes files before (code ∷ codes) ≡ after_codes files mid codes
unfolding after_codes
further files code codes before mid e = ap (λ (r : Result Puts ℕ). and_then r (λ later. after_codes files later codes))
    e

at-end : (files : Files) (before : Puts) → after_codes files before [] ≡ Ok before
unfolding after_codes
at-end files before = refl

all-done : {files : Files} {before after : List (List Held)} {codes : List MethodCode} {made : List ArrayCell}
    (arrays : List ArrayCell) → AreInitialised files before codes made after
    → after_codes files (puts before arrays) codes ≡ Ok (puts after (arrays ++ made))
all-done {files} {before} arrays none = at-end files (puts before arrays)
    ∙ ap (λ (q : List ArrayCell). Ok (puts before q)) (sym (append-nil arrays))
all-done {files} {before} arrays (other {code = code} {codes = codes} is rest) =
    further files code codes (puts before arrays) (puts before arrays) (passed files code before arrays is)
    ∙ all-done arrays rest
all-done {files} {before} {after} arrays (one {code = code} {codes = codes} {arrays = more} c ps fields is h rest) =
    further files code codes (puts before arrays) (puts (slice_set before code.class fields) (arrays ++ arrays_of c ps))
    (done files code before arrays c ps fields is h)
    ∙ all-done (arrays ++ arrays_of c ps) rest
    ∙ ap (λ (q : List ArrayCell). Ok (puts after q)) (append_assoc arrays (arrays_of c ps) more)

abbrev read-as : Puts → Result Puts ℕ
read-as p = Ok p

pub one-image : (files : Files) (codes : List MethodCode) (image second : StaticImage) → IsImage files codes image
    → IsImage files codes second → image ≡ second
one-image files codes image second h k = h.is ∙ by (puts h.fields h.arrays) (puts k.fields k.arrays)
    (sym (all-done [] h.initialises) ∙ all-done [] k.initialises) ∙ sym k.is
  where
    by : (p q : Puts) → read-as p ≡ read-as q → image_of files.classes p.arrays p.fields ≡ image_of files.classes
        q.arrays q.fields
    by p q e = let f : p ≡ q = cc in ap (λ (v : Puts). image_of files.classes v.arrays v.fields) f
