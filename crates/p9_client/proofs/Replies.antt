-- What a server's handling says of a frame that was sent, and of the reply that is read.
use Rattle.std.proofs.Common.{◌≡◌, ◌≢◌, ⊎_elim, ℕ, ◌+◌, ◌-◌, ◌≤◌, ◌<◌, ◌^◌, List, [], ◌++◌, length}
use Rattle.std.proofs.Common.{take, drop, Result, Ok, Err, Some, refl, sym, ap, ◌∙◌, subst, arith}
use Rattle.std.proofs.Common.{IfOk, append-nil}
use Rattle.std.specs.Prelude.{slice_index}
use Rattle.std.proofs.lemmas.List.{take_all}
use Rattle.std.specs.declared.option.Option.{Option}
use Rattle.std.specs.Io.KnownBytes.{Appends}
use Rattle.p9_wire.specs.declared.error.WireError.{WireError}
use Rattle.p9_wire.specs.declared.error.WireError.TheVariants.{InvalidInput, InvalidData}
use Rattle.p9_wire.specs.declared.error.WireError.TheVariants.{UnexpectedEof, Read, Write, NoMemory}
use Rattle.p9_wire.specs.Reading.{Answers}
use Rattle.p9_wire.specs.Frames.{frame}
use Rattle.p9_wire.specs.FrameLaws.{frame_again, length-frame}
use Rattle.p9_tmsg.specs.Messages.{Message, MessageSpells, message_reading, message_spelling}
use Rattle.p9_tmsg.specs.Messages.{message_kind, IsReadableMessage}
use Rattle.p9_tmsg.specs.MessageLaws.{messages_lawful}
use Rattle.p9_tmsg.specs.Frames.{message_frame, frame_within}
use Rattle.p9_rmsg.specs.declared.message.Rmessage.{Rmessage}
use Rattle.p9_rmsg.specs.Replies.{Reply, ReplySpells, IsReadableReply, reply_reading, reply_kind}
use Rattle.p9_rmsg.specs.Replies.{reply_spelling, reply_of}
use Rattle.p9_rmsg.specs.ReplyLaws.{replies_lawful}
use Rattle.p9_rmsg.specs.Frames.{reply_frame}
use Rattle.fid_model.specs.Fids.{ServerState, IsGoodServer}
use Rattle.fid_model.specs.Handling.{Outcome, BodyOutcome, Replied, Handled, IsLeft}
use Rattle.fid_model.proofs.Parts.{unchanged_left}
use Rattle.p9_client.specs.Asking.{IsRequest, IsRepliedBy, RepliesWith, IsExchanged}
use Rattle.fid_model.specs.Moments.{Moment, AskedOne, Keeps, Stays}
use Rattle.p9_client.proofs.Sizes.{alone_sized, outcome_sized, sized_keeps}
use Rattle.p9_client.proofs.Readable.{outcome_readable}

-- a frame that was sent is read back
frame_read : (m : Message) (limit : ℕ) → MessageSpells m → IsReadableMessage m
    → 7 + length (message_spelling m) ≤ limit → limit < 2 ^ 32
    → frame_within limit (message_frame 0 m) ≡ Ok ((0, Ok m), [])
frame_read m limit spells readable le below =
    ap (frame_within limit) (sym (append-nil (message_frame 0 m)))
    ∙ frame_again message_kind MessageSpells message_spelling IsReadableMessage message_reading
    messages_lawful limit (0, m) [] le below (omega arith, (spells, omega arith)) readable

same_body : {M : Type 0} (tag n : ℕ) (b c : M) (x y : List ℕ)
    → (let f : (ℕ × M) × List ℕ → Result ((ℕ × M) × List ℕ) WireError =
    λ z. Ok z in f ((tag, b), x) ≡ f ((n, c), y)) → b ≡ c
same_body {M} tag n b c x y e =
    let p : ((tag, b), x) ≡ ((n, c), y) = cc in
    ap (λ (z : (ℕ × M) × List ℕ). z.0.1) p

long_enough : (bytes : List ℕ) (kind tag : ℕ) (body : List ℕ) → bytes ≡ frame kind tag body
    → 7 ≤ length bytes
long_enough bytes kind tag body is = omega (arith, ap length is, length-frame kind tag body)

-- of the frame of a message that message is read
body_read : (s : ServerState) → IsGoodServer s → (m : Message) (sent rest : List ℕ)
    → IsRequest sent m s → (tag : ℕ) (body : Result Message WireError)
    → frame_within s.msize sent ≡ Ok ((tag, body), rest) → body ≡ Ok m
body_read s good m sent rest request tag body read =
    let ask = request.askable in
    let law : frame_within s.msize sent ≡ Ok ((0, Ok m), []) =
    ap (frame_within s.msize) request.spelled
    ∙ frame_read m s.msize ask.spells ask.readable ask.short good.below in
    same_body tag 0 body (Ok m) rest [] (sym read ∙ law)

module _ (old new : Moment) (good : IsGoodServer old.state) (m : Message) (sent rest : List ℕ)
    (request : IsRequest sent m old.state) where
  pub replied : (before after bytes : List ℕ) → before ≡ []
      → Appends (Some before) (Some after) bytes
      → Replied old.state new.state old.faults new.faults (Some sent) (Some rest) bytes
      → IsRepliedBy m old new after
  replied before after bytes empty grew r =
      let body = body_read old.state good m sent rest request r.tag r.body r.read in
      let outcome : Outcome old.state m r.reply new.state old.faults new.faults =
      subst (λ b. BodyOutcome old.state b r.reply new.state old.faults new.faults) body
      r.outcome in
      record {
        tag = r.tag;
        reply = r.reply;
        spelled = grew ∙ ap (λ (l : List ℕ). l ++ bytes) empty ∙ r.spelled;
        spells = r.spells;
        readable = outcome_readable old.state m r.reply new.state old.faults new.faults
            request.askable.bounded outcome;
        long = long_enough after (reply_kind r.reply) r.tag (reply_spelling r.reply)
            (grew ∙ ap (λ (l : List ℕ). l ++ bytes) empty ∙ r.spelled);
        outcome = outcome;
      }

  -- what an error leaves: a reader and a writer in memory don't fail
  module _ (sent0 sent1 : Option (List ℕ)) where
    pub left_by : {X : Type 0} (e : WireError)
        → Handled {X = X} old new (Some sent) (Some rest) sent0 sent1 0 0 0 0 (Err e)
        → IsLeft old.state m new.state
    left_by Write h = absurd (omega (arith, h.answer.1.0, h.answer.1.1))
    left_by Read h = unchanged_left old.state m new.state h.answer.2.0
    left_by InvalidData h = unchanged_left old.state m new.state h.answer.1.0
    left_by UnexpectedEof h = unchanged_left old.state m new.state h.answer.1.0
    left_by InvalidInput h = absurd h.answer
    left_by NoMemory h = ⊎_elim (λ same. unchanged_left old.state m new.state same)
        (λ x. let is : ◌≡◌ {A = Result Message WireError} (Ok x.1) (Ok m) =
        body_read old.state good m sent rest request x.0 (Ok x.1) x.2 in
        let same : x.1 ≡ m = cc in
        subst (λ (n : Message). IsLeft old.state n new.state) same x.3)
        h.answer.2

    pub kept_by : {X : Type 0} (result : Result X WireError)
        → Handled old new (Some sent) (Some rest) sent0 sent1 0 0 0 0 result → Stays old new
        → Keeps old new
    kept_by (Err e) h stays = sized_keeps stays (alone_sized old.state new.state (left_by e h).0)
    kept_by (Ok x) h stays =
        let r = h.answer.1.2 in
        let body = body_read old.state good m sent rest request r.tag r.body r.read in
        sized_keeps stays (outcome_sized old.state m request.askable.bounded r.reply new.state
        old.faults new.faults
        (subst (λ b. BodyOutcome old.state b r.reply new.state old.faults new.faults) body
        r.outcome))

-- a reply that is spelled is read back
reply_read : (r : Reply) → ReplySpells r → IsReadableReply r
    → reply_reading (reply_kind r) (reply_spelling r) ≡ Ok (r, [])
reply_read r h readable = ap (reply_reading (reply_kind r)) (sym (append-nil (reply_spelling r)))
    ∙ replies_lawful.again r [] h readable

-- only memory may be wanted
only_memory : (r : Reply) (body : List ℕ) (left : Option (List ℕ)) (e : WireError) → ReplySpells r
    → IsReadableReply r → body ≡ reply_spelling r → e ≢ NoMemory
    → Answers {V = Rmessage} reply_of (reply_reading (reply_kind r)) (Some body) left 0 0 (Err e)
    → ⊥
only_memory r body left InvalidInput h readable is ne a = let good =
    ap (reply_reading (reply_kind r)) is ∙ reply_read r h readable in let bad = a.1 in cc
only_memory r body left InvalidData h readable is ne a = let good =
    ap (reply_reading (reply_kind r)) is ∙ reply_read r h readable in let bad = a.1 in cc
only_memory r body left UnexpectedEof h readable is ne a = let good =
    ap (reply_reading (reply_kind r)) is ∙ reply_read r h readable in let bad = a.1 in cc
only_memory r body left Read h readable is ne a = omega (arith, a.0, a.1)
only_memory r body left Write h readable is ne a = a
only_memory r body left NoMemory h readable is ne a = ne refl

same_value : (m r : Reply) (x y : List ℕ) → (let f : Reply × List ℕ
    → Result (Reply × List ℕ) WireError = λ z. Ok z in f (m, x) ≡ f (r, y)) → m ≡ r
same_value m r x y e =
    let p : (m, x) ≡ (r, y) = cc in
    ap (λ (z : Reply × List ℕ). z.0) p

body_of_frame : (kind tag : ℕ) (body : List ℕ)
    → take (length (frame kind tag body) - 7) (drop 7 (frame kind tag body)) ≡ body
unfolding frame
body_of_frame kind tag body = take_all (length (frame kind tag body) - 7) body (omega arith)

kind_of_frame : (kind tag : ℕ) (body : List ℕ) → slice_index (frame kind tag body) 4 ≡ kind
unfolding frame
kind_of_frame kind tag body = refl

module _ (tag : ℕ) (r : Reply) (sent src : List ℕ) (is : sent ≡ reply_frame tag r)
    (spells : ReplySpells r) (readable : IsReadableReply r)
    (at : src ≡ take (length sent - 7) (drop 7 sent)) where
  body_is : src ≡ reply_spelling r
  body_is = at ∙ ap (λ (f : List ℕ). take (length f - 7) (drop 7 f)) is
      ∙ body_of_frame (reply_kind r) tag (reply_spelling r)

  kind_is : slice_index sent 4 ≡ reply_kind r
  kind_is = ap (λ (f : List ℕ). slice_index f 4) is
      ∙ kind_of_frame (reply_kind r) tag (reply_spelling r)

  pub reply_found : (m : Reply) (rest : List ℕ)
      → reply_reading (slice_index sent 4) src ≡ Ok (m, rest) → m ≡ r
  reply_found m rest e = same_value m r rest []
      (sym e ∙ ap (λ k. reply_reading k src) kind_is ∙ ap (reply_reading (reply_kind r)) body_is
      ∙ reply_read r spells readable)

  pub reply_memory : (left : Option (List ℕ)) (e : WireError) → e ≢ NoMemory
      → Answers {V = Rmessage} reply_of (reply_reading (slice_index sent 4)) (Some src) left 0 0
      (Err e) → ⊥
  reply_memory left e ne a = only_memory r src left e spells readable body_is ne
      (subst (λ k. Answers {V = Rmessage} reply_of (reply_reading k) (Some src) left 0 0 (Err e))
      kind_is a)

pub exchanged : {E : Type 0} (res : Result Rmessage E) (m : Message) (old new : Moment)
    (bytes : List ℕ) (w : RepliesWith m old.state new.state old.faults new.faults bytes)
    → IfOk res (λ x. reply_of x ≡ w.reply) → AskedOne old new
    → IfOk res (λ x. IsExchanged m (reply_of x) old new)
exchanged (Ok x) m old new bytes w e asked = record {
  outcome = subst (λ r. Outcome old.state m r new.state old.faults new.faults) (sym e)
      w.outcome;
  asked = asked;
}
exchanged (Err e) m old new bytes w h asked = tt
