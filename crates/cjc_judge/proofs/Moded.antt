-- Modes, one method after the other.
use Rattle.std.proofs.Common.{◌≡◌, ℕ, zero, suc, ◌+◌, ◌<◌, ◌≤◌, Bool, List, [], ◌∷◌, ◌++◌, length, get_or, take, sym}
use Rattle.std.proofs.Common.{ap, refl, subst}
use Rattle.std.specs.Prelude.{slice_get, Some}
use Rattle.std.proofs.lemmas.List.{take_all}
use Rattle.cjc_clinit.specs.Bytecode.declared.method_code.MethodCode.{MethodCode}
use Rattle.cjc_world.specs.Files.{Files}
use Rattle.cjc_int_mode.specs.declared.modes.Mode.{Mode}
use Rattle.cjc_judge.specs.Modes.{AreModes, IsModeIn}
use Rattle.cjc_judge.specs.Working.Groups.{PutsMode}
use Rattle.cjc_judge.proofs.Items.{front_more}

module _ (ints : Bool) (world : Files) where
  put_mode : (codes : List MethodCode) (modes : List Mode) (code : MethodCode) (mode : Mode)
      → AreModes ints world codes modes → IsModeIn ints world code mode → AreModes ints world (codes ++ code ∷ [])
      (modes ++ mode ∷ [])
  put_mode [] modes code mode e is = subst (λ (ms : List Mode). AreModes ints world (code ∷ []) (ms ++ mode ∷ []))
      (sym e) (is, refl)
  put_mode (c ∷ cs) [] code mode h is = absurd h
  put_mode (c ∷ cs) (m ∷ ms) code mode h is = (h.0, put_mode cs ms code mode h.1 is)

  -- one method more
  pub more_modes : (codes : List MethodCode) (i : ℕ) (code : MethodCode) (old new : List Mode) → i < length codes
      → code ≡ get_or codes i code → AreModes ints world (take i codes) old → PutsMode ints world code old new
      → AreModes ints world (take (i + 1) codes) new
  more_modes codes i code old new lt is h (mode, e, here) =
      subst (λ (ms : List Mode). AreModes ints world (take (i + 1) codes) ms) (sym e)
      (subst (λ (cs : List MethodCode). AreModes ints world cs (old ++ mode ∷ [])) (sym (front_more codes i code lt is))
      (put_mode (take i codes) old code mode h here))

  -- all of them
  pub all_modes : (codes : List MethodCode) (i : ℕ) (modes : List Mode) → length codes ≤ i
      → AreModes ints world (take i codes) modes → AreModes ints world codes modes
  all_modes codes i modes low h = subst (λ (cs : List MethodCode). AreModes ints world cs modes) (take_all i codes low)
      h

  -- as many as there are codes
  pub modes_sized : (codes : List MethodCode) (modes : List Mode) → AreModes ints world codes modes
      → length modes ≡ length codes
  modes_sized [] modes h = ap (λ (ms : List Mode). length ms) h
  modes_sized (c ∷ cs) [] h = absurd h
  modes_sized (c ∷ cs) (m ∷ ms) h = ap suc (modes_sized cs ms h.1)

  -- the mode of the method at a place
  pub mode_at : (codes : List MethodCode) (modes : List Mode) (i : ℕ) (code : MethodCode) (mode : Mode)
      → AreModes ints world codes modes → slice_get codes i ≡ Some code → slice_get modes i ≡ Some mode
      → IsModeIn ints world code mode
  mode_at [] modes i code mode h e f = absurd cc
  mode_at (c ∷ cs) [] i code mode h e f = absurd h
  mode_at (c ∷ cs) (m ∷ ms) zero code mode h e f =
      let same_code : c ≡ code = cc in
      let same_mode : m ≡ mode = cc in
      subst (λ x. IsModeIn ints world x mode) same_code (subst (IsModeIn ints world c) same_mode h.0)
  mode_at (c ∷ cs) (m ∷ ms) (suc i) code mode h e f = mode_at cs ms i code mode h.1 e f
