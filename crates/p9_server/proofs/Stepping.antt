-- Ways to make a step: an answer, a refusal that changes nothing, a fault.
use Rattle.std.proofs.Common.{◌≡◌, inl, inr, ℕ, Bool, false, sym, ap, ◌∙◌, Ok, Err, arith}
use Rattle.std.proofs.lemmas.Bool.{false≢true}
use Rattle.port_base.specs.Faults.{Faulted}
use Rattle.port_base.specs.declared.errno.TheConstants.{EIO}
use Rattle.tree_model.specs.declared.attributes.HostError.TheVariants.{Errno, Fault, NoMemory}
use Rattle.tree_model.specs.Sound.{IsKept}
use Rattle.p9_tmsg.specs.Messages.{Message}
use Rattle.p9_rmsg.specs.Replies.{Reply}
use Rattle.p9_rmsg.specs.Replies.Reply.{lerror}
use Rattle.fid_model.specs.Fids.{ServerState, kept_state, is_held}
use Rattle.fid_model.specs.Answers.{core, answer}
use Rattle.fid_model.specs.Handling.{IsHurtReply}
use Rattle.fid_model.specs.Moments.{Steadily}
use Rattle.fid_model.proofs.Moments.{same_alone}
use Rattle.fid_model.proofs.Parts.{front_part, unchanged_left}
use Rattle.fid_model.proofs.Keeping.{kept_state_kept}
use Rattle.fid_model.specs.Parts.{IsPartDone}
use Rattle.p9_server.specs.Steps.{IsStep}

abbrev pub pair : Reply → ServerState → Reply × ServerState
pair reply s = (reply, s)

-- a message that left the state left a part
pub same_part : (s : ServerState) (m : Message) (s1 : ServerState) → s1 ≡ s → IsPartDone s m s1.tree
same_part s m s1 same = front_part s m s1.tree (unchanged_left s m s1 same).1

-- a count that stays
pub not_steady : (steady : Bool) (f0 f1 : ℕ) → steady ≡ false → Steadily steady f0 f1
not_steady steady f0 f1 is on = absurd (false≢true (sym is ∙ on))

module _ {A : Type 0} (m : Message) (reply : A → Reply) (s0 s1 : ServerState) (steady : Bool)
    (f0 f1 : ℕ) where
  pub step_ok : (a : A) → pair (reply a) s1 ≡ answer s0 m → f1 ≡ f0
      → IsStep m reply s0 s1 steady f0 f1 (Ok a)
  step_ok a same count = record { answer = inl same; rises = omega arith; steadily = λ on. count }

  pub step_errno : (e : ℕ) → pair (lerror e) s1 ≡ answer s0 m → f1 ≡ f0
      → IsStep m reply s0 s1 steady f0 f1 (Err (Errno e))
  step_errno e same count = record {
    answer = inl same;
    rises = omega arith;
    steadily =
        λ on. count;
  }

  -- a refusal that leaves the state
  pub step_refused : (e : ℕ) → core s0 m ≡ pair (lerror e) s0
      → IsKept s0.tree.records (is_held s0.fids) → s1 ≡ s0 → f1 ≡ f0
      → IsStep m reply s0 s1 steady f0 f1 (Err (Errno e))
  step_refused e told kept same count =
      step_errno e ((λ j. pair (lerror e) (same j))
      ∙ (λ j. pair (lerror e) (sym (kept_state_kept s0 kept) j))
      ∙ sym (ap (λ (x : Reply × ServerState). pair x.0 (kept_state x.1)) told)) count

  pub step_fault : IsHurtReply s0 m (lerror EIO) → s1 ≡ s0 → Faulted f0 f1 → steady ≡ false
      → IsStep m reply s0 s1 steady f0 f1 (Err Fault)
  step_fault hurt same fault loose = record {
    answer =
        inr (fault.1, hurt, same_alone s0 s1 same, same_part s0 m s1 same);
    rises =
        fault.0;
    steadily = not_steady steady f0 f1 loose;
  }

  pub step_no_memory : s1 ≡ s0 → f1 ≡ f0 → IsStep m reply s0 s1 steady f0 f1 (Err NoMemory)
  step_no_memory same count = record {
    answer = unchanged_left s0 m s1 same;
    rises =
        omega arith;
    steadily = λ on. count;
  }
