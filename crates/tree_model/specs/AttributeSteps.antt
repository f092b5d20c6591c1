-- Attributes that are set step by step, in order: mode, owners, size, times, ctime.
use Rattle.std.specs.Prelude.{◌≡◌, ◌⊎◌, ℕ, Bool, true, false, not, ◌&&◌, ◌==◌, List, [], ◌∷◌, ◌++◌}
use Rattle.std.specs.Prelude.{Option, Some, None, Result, Ok, Err, if◌then◌else◌, MatchResult}
use Rattle.port_base.specs.declared.errno.TheConstants.{EISDIR, EINVAL, ELOOP}
use Rattle.tree_model.specs.Tree.{Tree, Body, body_at}
use Rattle.tree_model.specs.Tree.Body.{File, Directory, Link}
use Rattle.tree_model.specs.Attributing.{refused_at, set_mode_of, set_owner_of, set_len_of}
use Rattle.tree_model.specs.Attributing.{set_times_of, touch_ctime_of}
use Rattle.tree_model.specs.declared.attributes.Stamp.{Stamp}
use Rattle.tree_model.specs.declared.attributes.TheConstants.{UNCHANGED_ID}
use Rattle.tree_model.specs.declared.attributes.TimeSet.{TimeSet}
use Rattle.tree_model.specs.declared.attributes.TimeSet.TheVariants.{Keep, Now, At}

-- a change of a tree, or its refusal
abbrev pub Step : Type 0
Step = Tree → Result (Unit {0} × Tree) ℕ

-- a step where it is wanted
abbrev pub step_if : Bool → Step → List Step
step_if wanted step = if wanted then step ∷ [] else []

-- ---- owners

-- the owner that becomes that of the record, if one does
abbrev pub new_owner : Bool → ℕ → Option ℕ
new_owner given id = if given && not (id == UNCHANGED_ID) then Some id else None

-- ---- size

-- a directory has no size, a link keeps its own, and a file's stays where it is open to be read
-- alone
abbrev pub size_refused : Bool → Body → Option ℕ
size_refused is_read_alone (File bytes) = if is_read_alone then Some EINVAL else None
size_refused is_read_alone (Directory es next above) = Some EISDIR
size_refused is_read_alone (Link target) = Some ELOOP

abbrev pub step_unless : Option ℕ → Result (Unit {0} × Tree) ℕ → Result (Unit {0} × Tree) ℕ
step_unless (Some e) step = Err e
step_unless None step = step

abbrev pub resize_step : Bool → ℕ → ℕ → Step
resize_step is_read_alone ino size t =
    step_unless (refused_at (size_refused is_read_alone) (body_at t.records ino))
    (set_len_of t ino size)

-- ---- times

-- what becomes of a time: it stays, or becomes the moment or the given one
abbrev pub new_time : Bool → Bool → Stamp → TimeSet
new_time false given stamp = Keep
new_time true false stamp = Now
new_time true true stamp = At stamp

-- ---- all steps

-- which attributes are set, and what they become
pub record NewAttributes : Type 0 where
  pub sets_mode : Bool
  pub mode : ℕ
  pub sets_owner : Bool
  pub uid : Option ℕ
  pub gid : Option ℕ
  pub sets_size : Bool
  pub size : ℕ
  pub sets_times : Bool
  pub atime : TimeSet
  pub mtime : TimeSet
  pub touches_ctime : Bool

abbrev pub mode_steps : ℕ → NewAttributes → List Step
mode_steps ino a = step_if a.sets_mode (λ t. set_mode_of t ino a.mode)

abbrev pub owner_steps : ℕ → NewAttributes → List Step
owner_steps ino a = step_if a.sets_owner (λ t. set_owner_of t ino a.uid a.gid)

abbrev pub size_steps : Bool → ℕ → NewAttributes → List Step
size_steps is_read_alone ino a = step_if a.sets_size (resize_step is_read_alone ino a.size)

abbrev pub times_steps : ℕ → NewAttributes → List Step
times_steps ino a = step_if a.sets_times (λ t. set_times_of t ino a.atime a.mtime)

abbrev pub ctime_steps : ℕ → NewAttributes → List Step
ctime_steps ino a = step_if a.touches_ctime (λ t. touch_ctime_of t ino)

-- the steps of an inode, which may be open to be read alone
abbrev pub attribute_steps : Bool → ℕ → NewAttributes → List Step
attribute_steps is_read_alone ino a =
    mode_steps ino a ++ owner_steps ino a ++ size_steps is_read_alone ino a ++ times_steps ino a
    ++ ctime_steps ino a

-- these steps, one after another, up to the first that is refused
abbrev pub run_on : Result (Unit {0} × Tree) ℕ → Tree → (Tree → Result (Unit {0}) ℕ × Tree)
    → Result (Unit {0}) ℕ × Tree
run_on (Ok (u, t')) t rest = rest t'
run_on (Err e) t rest = (Err e, t)

abbrev pub run : List Step → Tree → Result (Unit {0}) ℕ × Tree
run [] t = (Ok tt, t)
run (step ∷ steps) t = run_on (step t) t (run steps)

-- the tree after a front part of these steps: each of them was done, one after another
abbrev pub IsAfterFront : List Step → Tree → Tree → Type 0
IsAfterFront [] t u = u ≡ t
IsAfterFront (step ∷ steps) t u =
    (u ≡ t) ⊎ MatchResult (step t) (λ done. IsAfterFront steps done.1 u) (λ e. ⊥)
