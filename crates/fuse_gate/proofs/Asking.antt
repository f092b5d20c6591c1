-- What one message answered, of calls that change no tree.
use Rattle.std.proofs.Common.{◌≡◌, ℕ, Result, Ok, Err, OnErr, IfOk, Some, ap, subst, ◌⊎◌, ⊎_elim}
use Rattle.std.specs.FinMap.{get}
use Rattle.port_base.specs.Faults.{Rose}
use Rattle.port_base.specs.declared.errno.TheConstants.{EIO}
use Rattle.fid_model.specs.Fids.{ServerState, Fid}
use Rattle.fid_model.specs.Moments.{Moment, Untouched, Answered, FidAnswered}
use Rattle.fid_model.proofs.Moments.{asks_same}

abbrev pub pair : {A : Type 0} → A → ServerState → A × ServerState
pair a s = (a, s)

-- the answer and state that are told; or, only where the count of faults rose, EIO and the same
-- state
abbrev pub Tells : {A : Type 0} → Result A ℕ × ServerState → Result A ℕ → Moment → Moment → Type 0
Tells told answer old new =
    ((answer, new.state) ≡ told) ⊎ (Rose old.faults new.faults × (answer ≡ Err EIO)
    × (new.state ≡ old.state))

-- what a message answered
pub answered_tells : {A : Type 0} {told : Result A ℕ × ServerState} {answer : Result A ℕ}
    {old new : Moment} → Answered told Untouched answer old new → Tells told answer old new
answered_tells {told = told} {answer = answer} {old = old} {new = new} h =
    asks_same told answer old.state new.state old.faults new.faults h.asks

-- and one about a fid
pub fid_tells : {A : Type 0} {told : ServerState → Fid → Result A ℕ × ServerState} {fid : ℕ}
    {answer : Result A ℕ} {old new : Moment}
    → FidAnswered told Untouched fid answer old new → (f : Fid) → get old.state.fids fid ≡ Some f
    → Tells (told old.state f) answer old new
fid_tells {told = told} {answer = answer} {old = old} {new = new} h f at =
    asks_same (told old.state f) answer old.state new.state old.faults new.faults (h.asks f at)

-- the answer is known
pub tells_as : {A : Type 0} (told : Result A ℕ × ServerState) (x r : Result A ℕ) (old new : Moment)
    → x ≡ r → Tells told x old new → Tells told r old new
tells_as told x r old new is h = subst (λ r. Tells told r old new) is h

-- what doesn't change the state by what it tells doesn't change it
pub state_same : {A : Type 0} (told answer : Result A ℕ) (old new : Moment)
    → Tells (pair told old.state) answer old new → new.state ≡ old.state
state_same told answer old new h = ⊎_elim (λ e. ap (λ x. x.1) e) (λ k. k.2) h

-- ---- results by cases

pub ok_map : {A E : Type 0} (r : Result A E) (P Q : A → Type 0) → ((x : A) → P x → Q x) → IfOk r P
    → IfOk r Q
ok_map (Ok x) P Q f h = f x h
ok_map (Err e) P Q f h = tt

pub on_err : {A E : Type 0} (r : Result A E) (P : Type 0) → P → OnErr r P
on_err (Ok x) P h = tt
on_err (Err e) P h = h

pub err_map : {A E : Type 0} (r : Result A E) (P Q : Type 0) → (P → Q) → OnErr r P → OnErr r Q
err_map (Ok x) P Q f h = tt
err_map (Err e) P Q f h = f h
