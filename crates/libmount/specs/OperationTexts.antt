-- What operations and their errors print.
use Rattle.std.specs.Prelude.{◌≡◌, ℕ, List, [], ◌++◌, Option, Result, Ok, Err, codes}
use Rattle.std.specs.Fmt.{decimal}
use Rattle.port_base.specs.declared.errno.TheConstants.{EIO}
use Rattle.libmount.specs.declared.errors.Error.{Error}
use Rattle.libmount.specs.declared.errors.Failure.{Failure}
use Rattle.libmount.specs.declared.errors.Failure.TheVariants.{Bare, Explained}
use Rattle.libmount.specs.declared.errors.MountError.{MountError}
use Rattle.libmount.specs.declared.errors.MountError.TheVariants.{Io, NoMemory, Remount as Changing}
use Rattle.libmount.specs.declared.errors.OSError.{OSError}
use Rattle.libmount.specs.declared.errors.RemountError.TheVariants.{Io as NotRead}
use Rattle.libmount.specs.declared.operation.Operation.{Operation}
use Rattle.libmount.specs.declared.operation.Operation.TheVariants.{Bind, Move, Overlay, Remount}
use Rattle.libmount.specs.declared.operation.Operation.TheVariants.{Tmpfs}
use Rattle.libmount.specs.BuilderTexts.{bind_text, overlay_text, relocation_text, remount_text}
use Rattle.libmount.specs.BuilderTexts.{tmpfs_text}
use Rattle.libmount.specs.ErrorTexts.{cause_text, remount_error_text}
use Rattle.libmount.specs.Explanations.{bind_explanation, overlay_explanation}
use Rattle.libmount.specs.Explanations.{relocation_explanation, remount_explanation}
use Rattle.libmount.specs.Explanations.{tmpfs_explanation}
use Rattle.libmount.specs.Mounters.{Calls}
use Rattle.libmount.specs.Probes.{Explains, Facts}
use Rattle.libmount.specs.Texts.{shown}

unfoldable pub operation_text : Operation → List ℕ
operation_text (Bind bind) = bind_text bind
operation_text (Move relocation) = relocation_text relocation
operation_text (Overlay overlay) = overlay_text overlay
operation_text (Remount change) = remount_text change
operation_text (Tmpfs tmpfs) = tmpfs_text tmpfs

unfoldable pub mount_error_text : MountError → List ℕ
mount_error_text (Io errno) = codes "errno " ++ decimal errno
mount_error_text (Changing error) = remount_error_text error
mount_error_text NoMemory = codes "no memory"

abbrev pub os_error_text : OSError → List ℕ
os_error_text error = operation_text error.1 ++ (codes ": " ++ mount_error_text error.0)

abbrev pub explained_text : Error → List ℕ
explained_text error =
    operation_text error.0
    ++
    (codes ": "
    ++ (mount_error_text error.1 ++ (codes " (" ++ (shown error.2.items ++ codes ")"))))

abbrev pub failure_text : Failure → List ℕ
failure_text (Explained error) = explained_text error
failure_text (Bare error) = os_error_text error

-- ---- explanations

unfoldable pub operation_explanation : Operation → Facts → List ℕ
operation_explanation (Bind bind) facts = bind_explanation bind facts
operation_explanation (Move relocation) facts = relocation_explanation relocation facts
operation_explanation (Overlay overlay) facts = overlay_explanation overlay facts
operation_explanation (Remount change) facts = remount_explanation change facts
operation_explanation (Tmpfs tmpfs) facts = tmpfs_explanation tmpfs facts

-- what stands before the explanation: why the flags of a mount can't be told
unfoldable pub reason : MountError → List ℕ
reason (Io errno) = []
reason (Changing (NotRead cause)) = cause_text cause ++ codes ", "
reason (Changing error) = remount_error_text error ++ codes ", "
reason NoMemory = []

-- the error that is told beside the explanation
abbrev pub told_error : MountError → MountError
told_error (Changing (NotRead cause)) = Io EIO
told_error error = error

abbrev pub explanation_of : OSError → Facts → List ℕ
explanation_of error facts = reason error.0 ++ operation_explanation error.1 facts

abbrev pub ExplainsBy : Option Facts → OSError → Result Error OSError → Calls → Calls → Type 0
ExplainsBy facts error (Ok told) old new = (told.0 ≡ error.1) × (told.1 ≡ told_error error.0)
    × Explains facts (explanation_of error) told.2.items old new
ExplainsBy facts error (Err again) old new = again ≡ error

-- the operation and its error, and what the facts say of it; the error itself where there is no
-- memory
pub record ExplainsError (facts : Option Facts) (error : OSError) (result : Result Error OSError)
    (old new : Calls) : Type 0 where
  pub explained : ExplainsBy facts error result old new

abbrev pub FailsBy : Option Facts → OSError → Failure → Calls → Calls → Type 0
FailsBy facts error (Explained told) old new = ExplainsBy facts error (Ok told) old new
FailsBy facts error (Bare again) old new = again ≡ error

-- a failure tells the error, explained where there was memory
pub record Fails (facts : Option Facts) (error : OSError) (failure : Failure) (old new : Calls)
    : Type 0 where
  pub failed : FailsBy facts error failure old new

abbrev pub TellsBy : Option Facts → Result (Unit {0}) OSError → Result (Unit {0}) Failure → Calls
    → Calls → Type 0
TellsBy facts (Ok x) (Ok y) old new = new ≡ old
TellsBy facts (Ok x) (Err failure) old new = ⊥
TellsBy facts (Err error) (Ok y) old new = ⊥
TellsBy facts (Err error) (Err failure) old new = Fails facts error failure old new

-- what an operation answered, with its error explained
pub record TellsFailure (facts : Option Facts) (bare : Result (Unit {0}) OSError)
    (result : Result (Unit {0}) Failure) (old new : Calls) : Type 0 where
  pub told : TellsBy facts bare result old new
