-- Steps of a Tsetattr on a host's tree.
use Rattle.std.specs.Prelude.{◌≡◌, ℕ, List, Option, Some, None, Result, Ok, Err}
use Rattle.std.specs.Prelude.{if◌then◌else◌}
use Rattle.port_base.specs.declared.errno.TheConstants.{EISDIR, EINVAL, ELOOP}
use Rattle.tree_model.specs.Tree.{Tree}
use Rattle.tree_model.specs.declared.attributes.Kind.{Kind}
use Rattle.tree_model.specs.declared.attributes.Kind.TheVariants as kind
use Rattle.tree_model.specs.declared.attributes.HostError.{HostError}
use Rattle.tree_model.specs.declared.attributes.HostError.TheVariants.{Errno, Fault, NoMemory}
use Rattle.p9_tmsg.specs.declared.message.Tsetattr.{Tsetattr}
use Rattle.fid_model.specs.Fids.{OpenState}
use Rattle.tree_model.specs.AttributeSteps.{Step, IsAfterFront, run}
use Rattle.fid_model.specs.Setattr.{Changes, changes, is_open_to_read_alone}

abbrev pub changes_of : Tsetattr → Changes
changes_of m = changes m.valid m.mode m.uid m.gid m.size m.atime_sec m.atime_nsec m.mtime_sec
    m.mtime_nsec

abbrev pub RunsBy : List Step → Tree → Tree → Result (Unit {0}) HostError → Type 0
RunsBy steps t u (Ok x) = run steps t ≡ (Ok tt, u)
RunsBy steps t u (Err (Errno e)) = run steps t ≡ (Err e, u)
RunsBy steps t u (Err Fault) = IsAfterFront steps t u
RunsBy steps t u (Err NoMemory) = IsAfterFront steps t u

-- all steps were done, or those before one that was refused; after a fault a front part of them
pub record Runs (steps : List Step) (t u : Tree) (result : Result (Unit {0}) HostError) : Type
    0 where
  pub exactly : RunsBy steps t u result

-- why what is of a kind gets no size, through a fid that is open so
abbrev pub kind_size_refused : OpenState → Kind → Option ℕ
kind_size_refused state kind.File = if is_open_to_read_alone state then Some EINVAL else None
kind_size_refused state kind.Directory = Some EISDIR
kind_size_refused state kind.Link = Some ELOOP
