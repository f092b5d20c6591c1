-- A reply without a fault is the machine's on bytes.
use Rattle.std.proofs.Common.{◌≡◌, ⊎_elim, ℕ, List, Result, Ok, Err, Some, None, sym, ap, ◌∙◌}
use Rattle.std.proofs.Common.{subst}
use Rattle.std.specs.declared.option.Option.{Option}
use Rattle.port_base.specs.Faults.{Rose}
use Rattle.p9_wire.specs.declared.error.WireError.{WireError}
use Rattle.p9_wire.specs.Reading.{Found, ◌>>=◌, give}
use Rattle.p9_tmsg.specs.Messages.{Message}
use Rattle.p9_tmsg.specs.Frames.{frame_within}
use Rattle.p9_rmsg.specs.Replies.{Reply}
use Rattle.p9_rmsg.specs.Frames.{reply_frame}
use Rattle.fid_model.specs.Fids.{ServerState}
use Rattle.fid_model.specs.Handling.{Replied, BodyOutcome}
use Rattle.fid_model.specs.Serving.{serve, served, answer_body}

abbrev pair : Reply → ServerState → Reply × ServerState
pair reply s = (reply, s)

body_answered : (s0 s1 : ServerState) (f0 f1 : ℕ) (body : Result Message WireError) (reply : Reply)
    → BodyOutcome s0 body reply s1 f0 f1 → (Rose f0 f1 → ⊥) → pair reply s1 ≡ answer_body s0 body
body_answered s0 s1 f0 f1 (Ok m) reply o calm =
    ⊎_elim (λ same. same) (λ hurt. absurd (calm hurt.0)) o
body_answered s0 s1 f0 f1 (Err fault) reply o calm = λ j. (o.0 j, o.1 j)

found_served : (s0 : ServerState) (left0 left1 : Option (List ℕ))
    (frame : ℕ × Result Message WireError) → Found (frame_within s0.msize) left0 left1 frame
    → Found (serve s0) left0 left1 (served s0 frame)
found_served s0 None left1 frame h = tt
found_served s0 (Some xs) None frame h = absurd h
found_served s0 (Some xs) (Some ys) frame h =
    ap (λ (r : Result ((ℕ × Result Message WireError) × List ℕ) WireError). r >>= λ x. give
    (served s0 x.0) x.1) h

pub Replied-served : (s0 s1 : ServerState) (f0 f1 : ℕ) (left0 left1 : Option (List ℕ))
    (bytes : List ℕ) → Replied s0 s1 f0 f1 left0 left1 bytes → (Rose f0 f1 → ⊥)
    → Found (serve s0) left0 left1 (bytes, s1)
Replied-served s0 s1 f0 f1 left0 left1 bytes r calm =
    let same = body_answered s0 s1 f0 f1 r.body r.reply r.outcome calm in
    let bytes_same : bytes ≡ reply_frame r.tag (answer_body s0 r.body).0 = r.spelled
    ∙ ap (λ (x : Reply × ServerState). reply_frame r.tag x.0) same in
    let state_same : s1 ≡ (answer_body s0 r.body).1 = ap (λ (x : Reply × ServerState). x.1) same in
    subst (λ (x : List ℕ × ServerState). Found (serve s0) left0 left1 x)
    (λ j. (sym bytes_same j, sym state_same j))
    (found_served s0 left0 left1 (r.tag, r.body) r.read)
