-- A step's answer is the reply to its message.
use Rattle.std.proofs.Common.{◌≡◌, inl, inr, ℕ, ◌≤◌, Bool, List, [], ◌∷◌, map, refl, sym, ap, subst}
use Rattle.std.proofs.Common.{Result, Ok, Err, IfOk, arith}
use Rattle.port_base.specs.declared.errno.TheConstants.{EINVAL}
use Rattle.tree_model.specs.declared.attributes.HostError.{HostError}
use Rattle.tree_model.specs.declared.attributes.HostError.TheVariants as host
use Rattle.p9_wire.specs.declared.error.WireError.{WireError}
use Rattle.p9_wire.specs.declared.error.WireError.TheVariants.{NoMemory}
use Rattle.p9_wire.specs.Frames.{result_view}
use Rattle.p9_tmsg.specs.Messages.{Message}
use Rattle.p9_tmsg.specs.Messages.Message.{getattr, attach}
use Rattle.p9_rmsg.specs.Replies.{Reply, reply_of}
use Rattle.p9_rmsg.specs.Replies.Reply.{lerror}
use Rattle.p9_rmsg.specs.declared.message.Rmessage.{Rmessage}
use Rattle.fid_model.specs.Fids.{ServerState}
use Rattle.fid_model.specs.Handling.{Outcome}
use Rattle.fid_model.specs.Moments.{Moment, Stays, Steadily}
use Rattle.p9_server.specs.Steps.{IsStep, Steps}
use Rattle.p9_server.specs.Answering.{reply_told, IsShort, Fits, IsSized, Answered}

same_reply : (r : Rmessage) (told : Reply) → ◌≡◌ {A = Result Reply WireError} (Ok (reply_of r))
    (Ok told) → reply_of r ≡ told
same_reply r told e = cc

-- a short reply fits every frame
pub short_sized : (s0 s1 : ServerState) (r : Reply) → 256 ≤ s0.msize → IsShort r → IsSized s0 s1 r
short_sized s0 s1 r roomy short = record {
  fits =
      record { spells = short.spells; short = (let few = short.short in omega arith) };
  room =
      inl short;
}

-- what a step keeps beside its answer
pub record Kept (old new : Moment) : Type 0 where
  pub msize : new.state.msize ≡ old.state.msize
  pub settings : new.state.settings ≡ old.state.settings
  pub steady : new.steady ≡ old.steady

stays_by : (old new : Moment) → Kept old new → old.faults ≤ new.faults
    → Steadily old.steady old.faults new.faults → Stays old new
stays_by old new kept rises steadily = record {
  fixed = kept.settings;
  sized = (let same = kept.msize in omega arith);
  rises = rises;
  steady =
      kept.steady;
  steadily = steadily;
}

module _ {A : Type 0} (m : Message) (reply : A → Reply) (old new : Moment) where
  module _ (stays : Stays old new) where
    replied : (told : Reply) (r : Rmessage) → Outcome old.state m told new.state old.faults
        new.faults → ◌≡◌ {A = Result Reply WireError} (Ok (reply_of r)) (Ok told)
        → IsSized old.state new.state (reply_of r) → Answered (Ok m) old new (Ok r)
    replied told r outcome is sized = record {
      answer = (
        subst (λ (x : Reply). Outcome old.state m x new.state old.faults new.faults)
            (sym (same_reply r told is)) outcome,
        sized,
      );
      stays = stays;
    }

    stays_sized : (step : Result A HostError) (result : Result Rmessage WireError)
        → Steps m reply old new step → result_view reply_of result ≡ reply_told reply step
        → IfOk result (λ r. IsSized old.state new.state (reply_of r))
        → Answered (Ok m) old new result
    stays_sized (Ok a) (Ok r) s is sized = replied (reply a) r s.answer is sized
    stays_sized (Ok a) (Err e) s is sized = absurd (cc)
    stays_sized (Err (host.Errno n)) (Ok r) s is sized = replied (lerror n) r s.answer is sized
    stays_sized (Err (host.Errno n)) (Err e) s is sized = absurd (cc)
    stays_sized (Err host.Fault) (Ok r) s is sized = replied (lerror 5) r s.answer is sized
    stays_sized (Err host.Fault) (Err e) s is sized = absurd (cc)
    stays_sized (Err host.NoMemory) (Ok r) s is sized = absurd (cc)
    stays_sized (Err host.NoMemory) (Err e) s is sized =
        record { answer = (let same : e ≡ NoMemory = cc in same, s.answer); stays = stays }

  if_short : (result : Result Rmessage WireError) → 256 ≤ old.state.msize
      → IfOk result (λ r. IsShort (reply_of r))
      → IfOk result (λ r. IsSized old.state new.state (reply_of r))
  if_short (Ok r) roomy short = short_sized old.state new.state (reply_of r) roomy short
  if_short (Err e) roomy short = tt

  if_fits : (result : Result Rmessage WireError) → new.state ≡ old.state
      → IfOk result (λ r. Fits old.state.msize (reply_of r))
      → IfOk result (λ r. IsSized old.state new.state (reply_of r))
  if_fits (Ok r) same fits = record { fits = fits; room = inr same }
  if_fits (Err e) same fits = tt

  -- a short reply, where frames may become smaller
  pub answered_smaller : (step : Result A HostError) (result : Result Rmessage WireError)
      → 256 ≤ old.state.msize → new.state.settings ≡ old.state.settings
      → new.state.msize ≤ old.state.msize → new.steady ≡ old.steady
      → Steps m reply old new step → result_view reply_of result ≡ reply_told reply step
      → IfOk result (λ r. IsShort (reply_of r)) → Answered (Ok m) old new result
  answered_smaller step result roomy fixed sized steady s is short =
      stays_sized (record {
        fixed = fixed;
        sized = sized;
        rises = s.rises;
        steady =
            steady;
        steadily = s.steadily;
      }) step result s is (if_short result roomy short)

  module _ (kept : Kept old new) where
    -- a short reply
    pub answered : (step : Result A HostError) (result : Result Rmessage WireError)
        → 256 ≤ old.state.msize → Steps m reply old new step
        → result_view reply_of result ≡ reply_told reply step
        → IfOk result (λ r. IsShort (reply_of r)) → Answered (Ok m) old new result
    answered step result roomy s is short = stays_sized (stays_by old new kept s.rises s.steadily)
        step result s is (if_short result roomy short)

    -- a reply of any length, which leaves the state
    pub answered_long : (step : Result A HostError) (result : Result Rmessage WireError)
        → new.state ≡ old.state → Steps m reply old new step
        → result_view reply_of result ≡ reply_told reply step
        → IfOk result (λ r. Fits old.state.msize (reply_of r)) → Answered (Ok m) old new result
    answered_long step result same s is fits =
        stays_sized (stays_by old new kept s.rises s.steadily) step result s is
        (if_fits result same fits)

pub stays_refl : (old : Moment) → Stays old old
stays_refl old = record {
  fixed = refl;
  sized = omega arith;
  rises = omega arith;
  steady =
      refl;
  steadily = λ on. refl;
}

-- a malformed body
pub answered_malformed : (fault : WireError) (old : Moment) (r : Rmessage) → 256 ≤ old.state.msize
    → reply_of r ≡ lerror EINVAL → IsShort (reply_of r) → Answered (Err fault) old old (Ok r)
answered_malformed fault old r roomy is short =
    record {
      answer = ((is, refl), short_sized old.state old.state (reply_of r) roomy short);
      stays = stays_refl old;
    }

-- no step depends on the fields that the server ignores
pub any_mask : {A : Type 0} (reply : A → Reply) (s0 s1 : ServerState) (steady : Bool)
    (f0 f1 fid mask : ℕ) (r : Result A HostError)
    → IsStep (getattr fid 0) reply s0 s1 steady f0 f1 r
    → IsStep (getattr fid mask) reply s0 s1 steady f0 f1 r
any_mask reply s0 s1 steady f0 f1 fid mask (Ok a) s =
    record { answer = s.answer; rises = s.rises; steadily = s.steadily }
any_mask reply s0 s1 steady f0 f1 fid mask (Err (host.Errno n)) s =
    record { answer = s.answer; rises = s.rises; steadily = s.steadily }
any_mask reply s0 s1 steady f0 f1 fid mask (Err host.Fault) s =
    record { answer = s.answer; rises = s.rises; steadily = s.steadily }
any_mask reply s0 s1 steady f0 f1 fid mask (Err host.NoMemory) s =
    record { answer = s.answer; rises = s.rises; steadily = s.steadily }

pub any_user : {A : Type 0} (reply : A → Reply) (s0 s1 : ServerState) (steady : Bool)
    (f0 f1 fid afid : ℕ) (uname aname : List ℕ) (n_uname : ℕ) (r : Result A HostError)
    → IsStep (attach fid 0 [] [] 0) reply s0 s1 steady f0 f1 r
    → IsStep (attach fid afid uname aname n_uname) reply s0 s1 steady f0 f1 r
any_user reply s0 s1 steady f0 f1 fid afid uname aname n_uname (Ok a) s =
    record { answer = s.answer; rises = s.rises; steadily = s.steadily }
any_user reply s0 s1 steady f0 f1 fid afid uname aname n_uname (Err (host.Errno n)) s =
    record { answer = s.answer; rises = s.rises; steadily = s.steadily }
any_user reply s0 s1 steady f0 f1 fid afid uname aname n_uname (Err host.Fault) s =
    record { answer = s.answer; rises = s.rises; steadily = s.steadily }
any_user reply s0 s1 steady f0 f1 fid afid uname aname n_uname (Err host.NoMemory) s =
    record { answer = s.answer; rises = s.rises; steadily = s.steadily }

pub names_are : (names : List (List ℕ)) → names ≡ map (λ (s : List ℕ). s) names
names_are [] = refl
names_are (n ∷ names) = ap (λ (l : List (List ℕ)). n ∷ l) (names_are names)
