-- When the answers of a run come, by its words and its input.
use Rattle.std.specs.Prelude.{◌≡◌, ◌≢◌, ◌⊎◌, ℕ, ◌<◌, ◌≤◌, List, None, Ok, Err, Some}
use Rattle.tree_model.specs.Tree.{linked}
use Rattle.tree_model.specs.Finding.{path_names, root_of}
use Rattle.fuse_wire.specs.Cuts.{cut}
use Rattle.fuse_wire.specs.Cuts.End.{done}
use Rattle.mount9_run.specs.Command.{Serve, command}
use Rattle.mount9_run.specs.Header.{HeaderRead, header}
use Rattle.mount9_run.specs.Outcome.{mount_refused}
use Rattle.fuse_gate.specs.declared.gate.TheConstants.{LEAST_MSIZE}

-- words and header are accepted, and frames follow
pub record IsAccepted (words : List (List ℕ)) (bytes : List ℕ) : Type 0 where
  pub serve : Serve
  pub commanded : command words ≡ Some serve
  pub described : HeaderRead
  pub rest : List ℕ
  pub headed : header bytes ≡ Ok (described, rest)

-- messages are long enough, the mount is let in, there may be a fid, the root is a directory, and
-- the input ends at a frame's end
pub record IsValidInput (words : List (List ℕ)) (bytes : List ℕ) : Type 0 where
  pub accepted : IsAccepted words bytes
  pub long : LEAST_MSIZE ≤ accepted.serve.msize
  pub let_in : mount_refused accepted.serve.target accepted.described ≡ None
  pub some : 1 ≤ accepted.serve.ids
  pub root : ℕ
  pub found : root_of (linked accepted.described.tree) (path_names accepted.serve.root) ≡ Ok root
  pub whole : (cut accepted.serve.turns accepted.rest).end ≡ done

-- messages are too short, the mount is refused, there may be no fid, the root is no directory, or
-- the input doesn't end so
pub record IsStoppedInput (words : List (List ℕ)) (bytes : List ℕ) : Type 0 where
  pub accepted : IsAccepted words bytes
  pub cause : (accepted.serve.msize < LEAST_MSIZE)
      ⊎ (mount_refused accepted.serve.target accepted.described ≢ None) ⊎ (accepted.serve.ids ≡ 0)
      ⊎ ((errno : ℕ) × (root_of (linked accepted.described.tree) (path_names accepted.serve.root)
      ≡ Err errno))
      ⊎ ((cut accepted.serve.turns accepted.rest).end ≢ done)

-- the words are accepted, and a line of the header is refused
pub record IsRefusedHeader (words : List (List ℕ)) (bytes : List ℕ) : Type 0 where
  pub serve : Serve
  pub commanded : command words ≡ Some serve
  pub line : ℕ
  pub refused : header bytes ≡ Err line
