-- What is left to show of what is written for a package, so that the type checker accepts it: of headers, of abstract
-- methods, and of code.
use Rattle.std.specs.Prelude.{◌≡◌, ℕ, List, [], length, flat_map, slice_get, Option, Some}
use Rattle.cjc_verify.specs.CardActs.CardTypes.{is_type_of}
use Rattle.cjc_frames.specs.Flow.{frame_flow}
use Rattle.cjc_types.specs.Fixpoint.Tables.{IsClosed}
use Rattle.cjc_types.specs.declared.state.State.{State}
use Rattle.cjc_verify.specs.Components.Package.{Package}
use Rattle.cjc_check_proof.specs.TokenProof.Tables.Loading.{components}
use Rattle.cjc_verify.specs.Bodies.{Body, bodies, frames_of}
use Rattle.cjc_verify.specs.Headers.{header_spots}
use Rattle.cjc_verify.specs.Infos.{all_abstract_spots}
use Rattle.cjc_accepted_proof.specs.Tables.{BreaksNone}
use Rattle.cjc_accepted_proof.specs.Written.{written_pair}

-- no header breaks its rule
abbrev pub HeadersFit : Package → Type 0
HeadersFit p = flat_map (header_spots (written_pair p)) (bodies (components p)) ≡ []

-- no class of which objects are made has an abstract method for one of its tokens
abbrev pub HasNoAbstract : Package → Type 0
HasNoAbstract p = all_abstract_spots (written_pair p) ≡ []

-- a closed table of types of a method's frames that breaks no rule
pub record HasTable (p : Package) (b : Body) : Type 0 where
  pub rows : List (Option State)
  pub closed : (let f = frames_of (written_pair p) b in IsClosed (frame_flow f) (length f.steps) rows)
  pub unbroken : (let q = written_pair p in BreaksNone (is_type_of q.loaded) (frames_of q b) rows)

-- Each method has one.
abbrev pub CodeStands : Package → Type 0
CodeStands p = (k : ℕ) (b : Body) → slice_get (bodies (components p)) k ≡ Some b → HasTable p b
