-- How writes and puts go on from those before them.
use Rattle.std.proofs.Common.{◌≡◌, ℕ, zero, suc, ◌+◌, ◌<◌, List, [], ◌∷◌, ◌++◌, length, map, take, drop, get_or, Bor}
use Rattle.std.proofs.Common.{Option, Some, None, IfSome, Ok, Err, refl, sym, ap, subst, ◌∙◌, append_assoc, append-nil}
use Rattle.std.proofs.Common.{add-one, arith}
use Rattle.std.specs.List.{concat}
use Rattle.std.specs.FinMap.{insert}
use Rattle.std.proofs.lemmas.List.{take_more, take-append-drop, length-map, get_or-map}
use Rattle.std.proofs.Math.Seq.{drop-cons, take-nil}
use Rattle.std.proofs.lemmas.List.Folds.{concat-append}
use Rattle.cjc_shelf.specs.declared.command.status.File.{File}
use Rattle.cjc_shelf.specs.Shelf.{Files, Shelved, Writes}
use Rattle.cjc_shelf.specs.Sink.{Sunk, Puts}
use Rattle.cjc_shelf.specs.declared.sink.SinkFailed.{SinkFailed}
use Rattle.cjc_shelf.specs.Command.Publish.{written_files, WritesAll}
use Rattle.cjc_shelf.proofs.CommandLaws.Gathering.{goes_on_twice, rose_later, stays}

-- what is said of the files after, said of those before
pub told_next : (o now : Option Files) (f : Files → Files) (P : Files → Type 0)
    → IfSome o (λ files. now ≡ Some (f files)) → IfSome now P → IfSome o (λ files. P (f files))
told_next None now f P e t = tt
told_next (Some files) now f P e t = subst (λ (n : Option Files). IfSome n P) e t

told_itself : (o : Option Files) → IfSome o (λ files. o ≡ Some files)
told_itself None = tt
told_itself (Some files) = refl

pub written_files-append : (front rest : List File) (files : Files) → written_files (front ++ rest) files
    ≡ written_files rest (written_files front files)
written_files-append [] rest files = refl
written_files-append (file ∷ front) rest files = written_files-append front rest (insert files file.name file.bytes)

-- no file is written
pub writes_none : (s : Shelved) → WritesAll {T = Unit {0}} [] s s (Ok tt)
writes_none s = record { goes_on = stays s; within = tt; cause = tt; told = told_itself s.files }

-- one file more
pub writes_more : (list : List File) (at : ℕ) (file : File) (old mid new : Shelved) → at < length list
    → file ≡ get_or list at file
    → WritesAll {T = Unit {0}} (take at list) old mid (Ok tt) → Writes {T = Unit {0}} file.name file.bytes mid new
    (Ok tt) → WritesAll {T = Unit {0}} (take (at + 1) list) old new (Ok tt)
writes_more list at file old mid new lt is a b =
    let parts : take (at + 1) list ≡ take at list ++ file ∷ [] = rw (take_more list at file lt, ← is) refl in
    record {
      goes_on = goes_on_twice a.goes_on b.goes_on;
      within = tt;
      cause = tt;
      told = subst (λ (l : List File). IfSome old.files (λ files. new.files ≡ Some (written_files l files))) (sym parts)
          (map_told old.files (λ files. (λ e. e
          ∙ ap Some (sym (written_files-append (take at list) (file ∷ []) files))))
          (told_next old.files mid.files (written_files (take at list)) (λ files. new.files
          ≡ Some (insert files file.name file.bytes)) a.told
          (map_told mid.files (λ files e. e.1) b.told)));
    }
  where
    map_told : (o : Option Files) {P Q : Files → Type 0} → ((files : Files) → P files → Q files) → IfSome o P
        → IfSome o Q
    map_told None f t = tt
    map_told (Some files) f t = f files t

-- what was put, of one that tells it, said of what was put before
told_put : (o now : Option (List ℕ)) (f : List ℕ → List ℕ) (P : List ℕ → Type 0)
    → IfSome o (λ before. now ≡ Some (f before)) → IfSome now P → IfSome o (λ before. P (f before))
told_put None now f P e t = tt
told_put (Some before) now f P e t = subst (λ (n : Option (List ℕ)). IfSome n P) e t

put_itself : (o : Option (List ℕ)) → IfSome o (λ before. o ≡ Some (before ++ []))
put_itself None = tt
put_itself (Some before) = ap Some (sym (append-nil before))

map_put : (o : Option (List ℕ)) {P Q : List ℕ → Type 0} → ((before : List ℕ) → P before → Q before) → IfSome o P
    → IfSome o Q
map_put None f t = tt
map_put (Some before) f t = f before t

-- a prefix of a piece, behind what stands before it, is a prefix of the whole
prefix_of_piece : (piece rest : List ℕ) (k : ℕ) → (n : ℕ) × (take k piece ≡ take n (piece ++ rest))
prefix_of_piece [] rest k = (0, take-nil k)
prefix_of_piece (x ∷ piece) rest zero = (0, refl)
prefix_of_piece (x ∷ piece) rest (suc k) = let p = prefix_of_piece piece rest k in (suc p.0, ap (λ xs. x ∷ xs) p.1)

prefix_behind : (front piece rest : List ℕ) (k : ℕ) → (n : ℕ)
    × (front ++ take k piece ≡ take n (front ++ (piece ++ rest)))
prefix_behind [] piece rest k = prefix_of_piece piece rest k
prefix_behind (x ∷ front) piece rest k = let p = prefix_behind front piece rest k in (suc p.0, ap (λ xs. x ∷ xs) p.1)

pub puts_none : (s : Sunk) → Puts {T = Unit {0}} [] s s (Ok tt)
puts_none s = record { goes_on = omega arith; cause = tt; told = put_itself s.written }

-- one piece more
pub puts_more : (front piece : List ℕ) (old mid new : Sunk) → Puts {T = Unit {0}} front old mid (Ok tt)
    → Puts {T = Unit {0}} piece mid new (Ok tt) → Puts {T = Unit {0}} (front ++ piece) old new (Ok tt)
puts_more front piece old mid new a b = record {
  goes_on = omega arith;
  cause = tt;
  told = map_put old.written (λ before e. e ∙ ap Some (append_assoc before front piece))
      (told_put old.written mid.written (λ before. before ++ front) (λ before. new.written ≡ Some (before ++ piece))
      a.told b.told);
}

-- a piece of which a prefix was put, and none of the rest
pub puts_end : (front piece rest : List ℕ) (old mid new : Sunk) (e : SinkFailed)
    → Puts {T = Unit {0}} front old mid (Ok tt) → Puts {T = Unit {0}} piece mid new (Err e)
    → Puts {T = Unit {0}} (front ++ (piece ++ rest)) old new (Err e)
puts_end front piece rest old mid new e a b = record {
  goes_on = omega arith;
  cause = rose_later old.faults mid.faults new.faults a.goes_on b.cause;
  told = map_put old.written (λ before t. let p = prefix_behind front piece rest t.0
      in (p.0, t.1 ∙ ap Some (append_assoc before front (take t.0 piece) ∙ ap (λ xs. before ++ xs) p.1)))
      (told_put old.written mid.written (λ before. before ++ front) (λ before. (count : ℕ)
      × (new.written ≡ Some (before ++ take count piece))) a.told b.told);
}

-- the pieces up to an index, it, and the rest
pub concat_parts : (lines : List (List ℕ)) (i : ℕ) (line : List ℕ) → i < length lines → line ≡ get_or lines i line
    → concat lines ≡ concat (take i lines) ++ (line ++ concat (drop (i + 1) lines))
concat_parts lines i line lt is =
    let tail : drop i lines ≡ line ∷ drop (i + 1) lines = rw (add-one, drop-cons lines i line lt, ← is) refl in
    ap concat (sym (take-append-drop i lines)) ∙ concat-append (take i lines) (drop i lines)
    ∙ ap (λ ls. concat (take i lines) ++ concat ls) tail

pub concat_more : (lines : List (List ℕ)) (i : ℕ) (line : List ℕ) → i < length lines → line ≡ get_or lines i line
    → concat (take (i + 1) lines) ≡ concat (take i lines) ++ line
concat_more lines i line lt is =
    let parts : take (i + 1) lines ≡ take i lines ++ line ∷ [] = rw (take_more lines i line lt, ← is) refl in
    ap concat parts ∙ concat-append (take i lines) (line ∷ []) ∙ ap (λ xs. concat (take i lines)
    ++ xs) (append-nil line)

module _ (pieces : List (Bor (List ℕ))) (i : ℕ) (d : Bor (List ℕ)) (lt : i < length pieces) where
  texts : List (List ℕ)
  texts = map (λ (piece : Bor (List ℕ)). piece.now) pieces

  within : i < length texts
  unfolding texts
  within = rw (length-map pieces (λ (piece : Bor (List ℕ)). piece.now)) lt

  piece_is : (get_or pieces i d).now ≡ get_or texts i (get_or pieces i d).now
  unfolding texts
  piece_is = sym (get_or-map (λ (piece : Bor (List ℕ)). piece.now) pieces i d _ lt)

  -- one lent piece more
  pub pieces_more : (old mid new : Sunk) → Puts {T = Unit {0}} (concat (take i (map (λ piece. piece.now) pieces))) old
      mid (Ok tt) → Puts {T = Unit {0}} (get_or pieces i d).now mid new (Ok tt)
      → Puts {T = Unit {0}} (concat (take (i + 1) (map (λ piece. piece.now) pieces))) old new (Ok tt)
  unfolding texts
  pieces_more old mid new a b = rw (concat_more texts i (get_or pieces i d).now within piece_is) (puts_more _ _ old mid
      new a b)

  pub pieces_end : (old mid new : Sunk) (e : SinkFailed)
      → Puts {T = Unit {0}} (concat (take i (map (λ piece. piece.now) pieces))) old mid (Ok tt)
      → Puts {T = Unit {0}} (get_or pieces i d).now mid new (Err e)
      → Puts {T = Unit {0}} (concat (map (λ piece. piece.now) pieces)) old new (Err e)
  unfolding texts
  pieces_end old mid new e a b = rw (concat_parts texts i (get_or pieces i d).now within piece_is)
      (puts_end _ _ _ old mid new e a b)
