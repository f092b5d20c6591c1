-- A message that is not served yet is answered EOPNOTSUPP, and nothing changes.
use Rattle.std.proofs.Common.{◌≡◌, inl, sym, ap, ◌∙◌, Ok}
use Rattle.port_base.specs.declared.errno.TheConstants.{EOPNOTSUPP}
use Rattle.p9_tmsg.specs.Messages.{Message}
use Rattle.p9_rmsg.specs.Replies.{Reply, reply_of}
use Rattle.p9_rmsg.specs.Replies.Reply.{lerror}
use Rattle.p9_rmsg.specs.declared.message.Rmessage.{Rmessage}
use Rattle.fid_model.specs.Fids.{ServerState, kept_state}
use Rattle.fid_model.specs.Answers.{core, answer}
use Rattle.fid_model.proofs.Keeping.{kept_state_good}
use Rattle.fid_model.specs.Fids.{IsGoodServer}
use Rattle.p9_server.specs.Answering.{IsShort, Answered}
use Rattle.fid_model.specs.Moments.{Moment}
use Rattle.p9_server.proofs.Answered.{short_sized, stays_refl}

-- a message that is answered at once, and changes nothing
pub at_once : (m : Message) (told : Reply) (old : Moment) → IsGoodServer old.state
    → core old.state m ≡ (told, old.state) → (r : Rmessage) → reply_of r ≡ told
    → IsShort (reply_of r) → Answered (Ok m) old old (Ok r)
at_once m told old good none r is short =
    let same : (told, old.state) ≡ answer old.state m =
    sym (ap (λ (x : Reply × ServerState). (x.0, kept_state x.1)) none
    ∙ ap (λ (u : ServerState). (told, u)) (kept_state_good old.state good)) in
    record {
      answer = (
        inl ((λ j. (is j, old.state)) ∙ same),
        short_sized old.state old.state (reply_of r)
            good.roomy short,
      );
      stays = stays_refl old;
    }

-- a message that the machine doesn't serve
pub unserved : (m : Message) (old : Moment) → IsGoodServer old.state
    → core old.state m ≡ (lerror EOPNOTSUPP, old.state) → (r : Rmessage)
    → reply_of r ≡ lerror EOPNOTSUPP → IsShort (reply_of r) → Answered (Ok m) old old (Ok r)
unserved m old = at_once m (lerror EOPNOTSUPP) old
