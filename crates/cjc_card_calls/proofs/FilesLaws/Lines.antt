-- Lines are kept class by class, and file by file.
use Rattle.std.proofs.Common.{◌≡◌, ℕ, zero, suc, ◌+◌, ◌<◌, List, [], ◌∷◌, ◌++◌, length, get_or, take, refl, sym, ap}
use Rattle.std.proofs.Common.{◌∙◌, Bool, true, false, Option, Some, None, arith}
use Rattle.std.specs.Prelude.{if◌then◌else◌, ◌==◌, option_and_then, option_map, slice_get, unwrap_or}
use Rattle.std.specs.Borrow.{Bor}
use Rattle.std.proofs.lemmas.List.{length-append, length-take-le, take_more}
use Rattle.cjc_card_semantics.specs.ExportFile.declared.tree.ExportClass.{ExportClass}
use Rattle.cjc_card_semantics.specs.ExportFile.declared.tree.ExportTree.{ExportTree}
use Rattle.cjc_card_semantics.specs.ExportFile.Supers.{classes_of}
use Rattle.cjc_card_semantics.specs.Machine.Loaded.{Loaded}
use Rattle.cjc_card_semantics.specs.Machine.Classes.{or_else, with_token}
use Rattle.cjc_card_semantics.specs.Machine.Dispatch.{exported_line}
use Rattle.cjc_card_calls.specs.declared.files.file.File.{File}
use Rattle.cjc_card_calls.specs.Files.Files.{classes_at, line_at, line_in, line_listed, line_of, line_or_none}
use Rattle.cjc_card_link.proofs.OrElse.{or_map}
use Rattle.cjc_card_semantics.proofs.BytesPlain.{the_same, none_is_some}

-- ---- the classes of a file

here : (classes : List ExportClass) (c : ExportClass) (b : Bool) (line : List (Bor ExportClass))
    → classes_at line ≡ line_of classes c
    → option_map classes_at (if b then Some line else None) ≡ (if b then Some (line_of classes c) else None)
here classes c true line is = ap Some is
here classes c false line is = refl

pub line_noted : (classes : List ExportClass) (c : ExportClass) (b : Bool) (line : List (Bor ExportClass))
    (old new : Option (List (Bor ExportClass))) → classes_at line ≡ line_of classes c
    → new ≡ or_else old (if b then Some line else None) → option_map classes_at new
    ≡ or_else (option_map classes_at old) (if b then Some (line_of classes c) else None)
line_noted classes c b line old new is e =
    ap (option_map classes_at) e
    ∙ or_map classes_at old (if b then Some line else None)
    ∙ ap (λ (o : Option (List ExportClass)). or_else (option_map classes_at old) o) (here classes c b line is)

by_test : (classes : List ExportClass) (b : Bool) (c : ExportClass) (rest : Option ExportClass)
    → option_map (line_of classes) (if b then Some c else rest) ≡ or_else (if b then Some (line_of classes c)
    else None) (option_map (line_of classes) rest)
by_test classes true c rest = refl
by_test classes false c rest = refl

pub one_line : (classes : List ExportClass) (x : ℕ) (c : ExportClass) (cs : List ExportClass)
    → option_map (line_of classes) (with_token (c ∷ cs) x) ≡ or_else (if c.token == x then Some (line_of classes c)
    else None) (option_map (line_of classes) (with_token cs x))
one_line classes x c cs = by_test classes (c.token == x) c (with_token cs x)

-- a line that is read
pub line_read : (classes : List ExportClass) (row : Option (List (Bor ExportClass))) (nothing : List (Bor ExportClass))
    (o : Option ExportClass) → nothing ≡ [] → option_map classes_at row ≡ option_map (line_of classes) o
    → classes_at (unwrap_or row nothing) ≡ line_or_none classes o
line_read classes None nothing None none e = ap classes_at none
line_read classes (Some line) nothing (Some c) none e = the_same (classes_at line) (line_of classes c) e
line_read classes None nothing (Some c) none e = absurd (none_is_some (line_of classes c) e)
line_read classes (Some line) nothing None none e = absurd (none_is_some (classes_at line) (sym e))

pub none_read : (row : Option (List (Bor ExportClass))) (nothing : List (Bor ExportClass)) → row ≡ None → nothing ≡ []
    → classes_at (unwrap_or row nothing) ≡ []
none_read row nothing gone none = ap (λ (o : Option (List (Bor ExportClass))). classes_at (unwrap_or o nothing)) gone
    ∙ ap classes_at none

-- ---- files

-- One more item is put at the end of two lists of which each place gives the same.
pub one_place : {A B C : Type 0} (f : A → C) (g : B → C) (xs : List A) (ys : List B) (x : A) (y : B)
    → length xs ≡ length ys → f x ≡ g y
    → ((n : ℕ) → option_map f (slice_get xs n) ≡ option_map g (slice_get ys n)) → (n : ℕ)
    → option_map f (slice_get (xs ++ x ∷ []) n) ≡ option_map g (slice_get (ys ++ y ∷ []) n)
one_place f g [] [] x y same e h zero = ap Some e
one_place f g [] [] x y same e h (suc n) = refl
one_place f g [] (b ∷ ys) x y same e h n = absurd (omega (arith, same))
one_place f g (a ∷ xs) [] x y same e h n = absurd (omega (arith, same))
one_place f g (a ∷ xs) (b ∷ ys) x y same e h zero = h 0
one_place f g (a ∷ xs) (b ∷ ys) x y same e h (suc n) = one_place f g xs ys x y (omega (arith, same)) e (λ m. h (suc m))
    n

-- One more file is kept.
pub file_more : (classes : List ExportClass) (i : ℕ) (t : ExportTree) (ts : List ExportTree) (listed : List ExportClass)
    (old new : List File) (file : File) → i < length ts → t ≡ get_or ts i t → listed ≡ t.classes
    → ((x : ℕ) → line_in file x ≡ line_or_none classes (with_token listed x)) → new ≡ old ++ file ∷ []
    → (length old ≡ i) × ((n token : ℕ) → line_at old n token ≡ line_listed classes (take i ts) n token)
    → (length new ≡ i + 1) × ((n token : ℕ) → line_at new n token ≡ line_listed classes (take (i + 1) ts) n token)
file_more classes i t ts listed old new file lt is has read put so_far =
    let fits : length (take i ts) ≡ i = length-take-le i ts (omega (arith, lt)) in
    let before = so_far.0 in
    let long : length new ≡ length old + 1 = ap (λ (fs : List File). length fs) put ∙ length-append old (file ∷ []) in
    let taken : take (i + 1) ts ≡ take i ts ++ t ∷ [] = take_more ts i t lt ∙ ap (λ (u : ExportTree). take i ts
    ++ u ∷ []) (sym is) in (
      omega (arith, before, long),
      λ n token.
          ap (λ (fs : List File). line_at fs n token) put
          ∙ one_place (λ f. line_in f token) (λ u. line_or_none classes (with_token u.classes token)) old (take i ts)
          file t (omega (arith, before, fits))
          (read token ∙ ap (λ (cs : List ExportClass). line_or_none classes (with_token cs token)) has)
          (λ m. so_far.1 m token) n
          ∙ ap (λ (us : List ExportTree). line_listed classes us n token) (sym taken),
    )

by_class : (l : Loaded) (o : Option ExportClass) → line_or_none (classes_of l.trees) o ≡ exported_line l o
by_class l None = refl
by_class l (Some c) = refl

-- a class by its file and token
pub line_there : (l : Loaded) (token : ℕ) (o : Option File) (t : Option ExportTree) (nothing : File)
    → line_in nothing token ≡ []
    → option_map (λ f. line_in f token) o ≡ option_map (λ t. line_or_none (classes_of l.trees)
    (with_token t.classes token)) t
    → line_in (unwrap_or o nothing) token ≡ exported_line l (option_and_then (λ t. with_token t.classes token) t)
line_there l token None None nothing none e = none
line_there l token (Some f) (Some t) nothing none e =
    the_same (line_in f token) (line_or_none (classes_of l.trees) (with_token t.classes token)) e
    ∙ by_class l (with_token t.classes token)
line_there l token None (Some t) nothing none e =
    absurd (none_is_some (line_or_none (classes_of l.trees) (with_token t.classes token)) e)
line_there l token (Some f) None nothing none e = absurd (none_is_some (line_in f token) (sym e))
