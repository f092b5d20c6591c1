-- What the loop keeps from turn to turn, and each of its answers.
use Rattle.std.proofs.Common.{◌≡◌, ℕ, ◌+◌, ◌-◌, ◌≤◌, ◌<◌, true, false, List, [], ◌∷◌, ◌++◌, length}
use Rattle.std.proofs.Common.{take, IfSome, Some, None, Ok, Err, refl, sym, ap, ◌∙◌, subst, arith}
use Rattle.std.proofs.Common.{length-append, append_assoc, append-nil, inl, inr}
use Rattle.std.proofs.Math.Seq.{take-append_seam}
use Rattle.std.specs.declared.option.Option.{Option}
use Rattle.std.specs.List.{concat}
use Rattle.std.specs.Io.KnownBytes.{Consumes, IsAtEnd, Appends, Keeps}
use Rattle.std.proofs.KnownBytes.{Consumes-trans, Consumes-nil, Appends-trans, Appends-kept}
use Rattle.std.proofs.KnownBytes.{Appends-nil, Consumes-whole, Keeps-refl}
use Rattle.port_base.specs.Faults.{Faulted}
use Rattle.fuse_wire.specs.Cuts.{IsFrame, AreFrames, front, Cut, cut, End, ends}
use Rattle.fuse_wire.specs.Cuts.Front.{nothing}
use Rattle.fuse_wire.specs.Cuts.End.{done, turns_spent, torn, bad_length}
use Rattle.fuse_wire.specs.Taking.{IsPart}
use Rattle.fuse_wire.proofs.Fronts.{front-nil}
use Rattle.fuse_wire.proofs.Cutting.{with_frames, cut-frames, cut-spent, cut-nothing, cut-part}
use Rattle.fuse_wire.proofs.Cutting.{cut-odd_length}
use Rattle.fuse_wire.proofs.Takings.{Consumes-if}
use Rattle.frame_pump.specs.Sessions.{Session, Answered}
use Rattle.frame_pump.specs.Turns.{Streams, Quiet, Turn, AreFirst, Fronts, Ended, ReadStopped}
use Rattle.frame_pump.specs.Turns.{TookTo, StopsBy, EndsQuietly}
use Rattle.frame_pump.specs.declared.outcome.BridgeError.{BridgeError}
use Rattle.frame_pump.specs.declared.outcome.BridgeError.TheVariants as cause
use Rattle.frame_pump.proofs.Answering.{Answered-none, Answered-more}

-- ---- frames one after another

concat-snoc : (fs : List (List ℕ)) (f : List ℕ) → concat (fs ++ f ∷ []) ≡ concat fs ++ f
concat-snoc [] f = append-nil f
concat-snoc (g ∷ fs) f = ap (λ (l : List ℕ). g ++ l) (concat-snoc fs f)
    ∙ sym (append_assoc g (concat fs) f)

AreFrames-snoc : (fs : List (List ℕ)) (f : List ℕ) → AreFrames fs → IsFrame f
    → AreFrames (fs ++ f ∷ [])
AreFrames-snoc [] f h k = (k, tt)
AreFrames-snoc (g ∷ fs) f h k = (h.0, AreFrames-snoc fs f h.1 k)

Consumes-snoc : (a b c : Option (List ℕ)) (fs : List (List ℕ)) (f : List ℕ)
    → Consumes a b (concat fs) → Consumes b c f → Consumes a c (concat (fs ++ f ∷ []))
Consumes-snoc a b c fs f h k = subst (Consumes a c) (sym (concat-snoc fs f))
    (Consumes-trans a b c (concat fs) f h k)

-- whole frames that were taken are the first of the cut
first_at : (a b : Option (List ℕ)) (turns : ℕ) (fs : List (List ℕ)) → AreFrames fs
    → length fs ≤ turns → Consumes a b (concat fs) → AreFirst a turns fs
first_at None b turns fs whole le h = tt
first_at (Some xs) None turns fs whole le h = absurd h
first_at (Some xs) (Some ys) turns fs whole le h =
    let n : turns ≡ length fs + (turns - length fs) = omega (arith, le) in
    let at : cut turns xs ≡ with_frames fs (cut (turns - length fs) ys) =
    ap (λ (m : ℕ). cut m xs) n ∙ ap (cut (length fs + (turns - length fs))) h
    ∙ cut-frames fs (turns - length fs) ys whole in
    ap (λ (c : Cut). take (length fs) c.frames) at
    ∙ take-append_seam fs (cut (turns - length fs) ys).frames

-- and all of it, where the cut of what is left has no more
whole_cut : (a b : Option (List ℕ)) (turns : ℕ) (end : End) (fs : List (List ℕ)) → AreFrames fs
    → length fs ≤ turns → Consumes a b (concat fs)
    → IfSome b (λ rest. cut (turns - length fs) rest ≡ ends end)
    → IfSome a (λ bytes. cut turns bytes ≡ record { frames = fs; end = end })
whole_cut None b turns end fs whole le h at = tt
whole_cut (Some xs) None turns end fs whole le h at = absurd h
whole_cut (Some xs) (Some ys) turns end fs whole le h at =
    let n : turns ≡ length fs + (turns - length fs) = omega (arith, le) in
    ap (λ (m : ℕ). cut m xs) n ∙ ap (cut (length fs + (turns - length fs))) h
    ∙ cut-frames fs (turns - length fs) ys whole
    ∙ ap (with_frames fs) at ∙ ap (λ (l : List (List ℕ)). record { frames = l; end = end })
    (append-nil fs)

-- ---- the invariant

pub record Pumping (s0 s1 : Session) (stands : Type 0) (p0 p1 : Streams) (handled : ℕ) : Type
    0 where
  pub frames : List (List ℕ)
  pub whole : AreFrames frames
  pub number : length frames ≡ handled
  pub taken : Consumes p0.left p1.left (concat frames)
  pub replies : List ℕ
  pub answered : Answered s0 s1 frames replies
  pub sent : Appends p0.sent p1.sent replies
  pub quiet : Quiet p0 p1
  pub standing : stands

pub Pumping-none : (s : Session) (stands : Type 0) (p : Streams) → stands → Pumping s s stands p p 0
Pumping-none s stands p h = record {
  frames = [];
  whole = tt;
  number = refl;
  taken = Consumes-nil p.left;
  replies = [];
  answered = Answered-none s;
  sent = Appends-nil p.sent;
  quiet = (refl, refl);
  standing = h;
}

quiet_after : (p0 p1 p2 : Streams) → Quiet p0 p1 → Quiet p1 p2 → Quiet p0 p2
quiet_after p0 p1 p2 h q = (q.0 ∙ h.0, q.1 ∙ h.1)

IfSome-weaker : (o : Option (List ℕ)) (P Q : List ℕ → Type 0) → ((x : List ℕ) → P x → Q x)
    → IfSome o P → IfSome o Q
IfSome-weaker None P Q f h = tt
IfSome-weaker (Some x) P Q f h = f x h

module _ (s0 s1 s2 : Session) (stands1 stands2 : Type 0) (p0 p1 p2 : Streams) (handled : ℕ) where
  pub Pumping-more : Pumping s0 s1 stands1 p0 p1 handled → Turn s1 s2 stands2 p1 p2 (Ok true)
      → Pumping s0 s2 stands2 p0 p2 (handled + 1)
  Pumping-more h (quiet, now, (frame, bytes, t, sends)) = record {
    frames = h.frames ++ frame ∷ [];
    whole = AreFrames-snoc h.frames frame h.whole t.whole;
    number = length-append h.frames (frame ∷ []) ∙ omega (arith, h.number);
    taken = Consumes-snoc p0.left p1.left p2.left h.frames frame h.taken t.consumed;
    replies = h.replies ++ bytes;
    answered = Answered-more s0 s1 s2 h.frames frame h.replies bytes h.answered t.answers;
    sent = Appends-trans p0.sent p1.sent p2.sent h.replies bytes h.sent sends;
    quiet = quiet_after p0 p1 p2 h.quiet quiet;
    standing = now;
  }

module _ (s0 s1 s2 : Session) (stands1 : Type 0) (p0 p1 p2 : Streams) (handled turns : ℕ)
    (h : Pumping s0 s1 stands1 p0 p1 handled) where
  -- nothing more is answered, where the cut of what is left has no more frames
  ended : (end : End) → handled ≤ turns → IfSome p1.left
      (λ rest. cut (turns - handled) rest ≡ ends end) → TookTo end h.frames p0.left p2.left
      → s2 ≡ s1 → Keeps p1.sent p2.sent → Ended s0 s2 p0 p2 turns handled end
  ended end le at took same keeps = record {
    frames = h.frames;
    whole = h.whole;
    number = h.number;
    cut = whole_cut p0.left p1.left turns end h.frames h.whole (omega (arith, h.number, le)) h.taken
        (subst (λ (n : ℕ). IfSome p1.left (λ rest. cut (turns - n) rest ≡ ends end)) (sym h.number)
        at);
    taken = took;
    replies = h.replies;
    answered = subst (λ s. Answered s0 s h.frames h.replies) (sym same) h.answered;
    sent = Appends-kept p0.sent p1.sent p2.sent h.replies h.sent keeps;
  }

  fronts : handled ≤ turns → Fronts p0.left turns handled h.frames
  fronts le = record {
    whole = h.whole;
    number = h.number;
    first =
        first_at p0.left p1.left turns h.frames h.whole (omega (arith, h.number, le)) h.taken;
  }

  -- one frame more was taken
  first_more : (frame : List ℕ) → handled < turns → IsFrame frame → Consumes p1.left p2.left frame
      → AreFirst p0.left turns (h.frames ++ frame ∷ [])
  first_more frame lt whole consumed =
      first_at p0.left p2.left turns (h.frames ++ frame ∷ [])
      (AreFrames-snoc h.frames frame h.whole whole)
      (omega (arith, length-append h.frames (frame ∷ []), h.number, lt))
      (Consumes-snoc p0.left p1.left p2.left h.frames frame h.taken consumed)

  -- the input ended at a frame's end
  pub Completes-turn : (stands2 : Type 0) → handled ≤ turns → Turn s1 s2 stands2 p1 p2 (Ok false)
      → EndsQuietly s0 s2 stands2 p0 p2 turns handled done
  Completes-turn stands2 le (quiet, now, idle, at, end) = (
    quiet_after p0 p1 p2 h.quiet quiet,
    now,
    ended done le (IfSome-weaker p1.left _ _ (λ rest at. cut-nothing (turns - handled) rest at) at)
        end idle.0 idle.1,
  )

  read_stopped : handled ≤ turns → (more : List ℕ) → Consumes p1.left p2.left more → IsPart more
      → s2 ≡ s1 → Keeps p1.sent p2.sent → ReadStopped s0 s2 p0 p2 turns handled
  read_stopped le more consumed short same keeps = record {
    frames = h.frames;
    fronts = fronts le;
    more = more;
    part = short;
    consumed = Consumes-trans p0.left p1.left p2.left (concat h.frames) more h.taken consumed;
    replies = h.replies;
    answered = subst (λ s. Answered s0 s h.frames h.replies) (sym same) h.answered;
    sent = Appends-kept p0.sent p1.sent p2.sent h.replies h.sent keeps;
  }

  read_faults : Faulted p1.read_faults p2.read_faults → Faulted p0.read_faults p2.read_faults
  read_faults fault = subst (λ (n : ℕ). Faulted n p2.read_faults) h.quiet.0 fault

  -- a turn stopped
  pub StopsBy-turn : (stands2 : Type 0) (e : BridgeError) → handled < turns
      → Turn s1 s2 stands2 p1 p2 (Err e) → StopsBy s0 s2 stands2 p0 p2 turns handled e
  StopsBy-turn stands2 cause.Torn lt (quiet, now, idle, at, end) = (
    quiet_after p0 p1 p2 h.quiet quiet,
    now,
    ended torn (omega (arith, lt)) (IfSome-weaker p1.left _ _
        (λ rest at. cut-part (turns - handled) rest (omega (arith, lt)) at) at) end idle.0 idle.1,
  )
  StopsBy-turn stands2 cause.BadLength lt (quiet, now, idle, at, (more, consumed, four)) = (
    quiet_after p0 p1 p2 h.quiet quiet,
    now,
    ended bad_length (omega (arith, lt)) (IfSome-weaker p1.left _ _
        (λ rest at. cut-odd_length (turns - handled) rest (omega (arith, lt)) at) at)
        (more, four, Consumes-trans p0.left p1.left p2.left (concat h.frames) more h.taken consumed)
        idle.0 idle.1,
  )
  StopsBy-turn stands2 cause.Read lt (failed, now, idle, (more, consumed, short)) = (
    (read_faults failed.0, failed.1 ∙ h.quiet.1),
    now,
    read_stopped (omega (arith, lt)) more consumed short idle.0 idle.1,
  )
  StopsBy-turn stands2 cause.Write lt (failed, now, (frame, bytes, t, (n, sends))) = (
    (failed.0 ∙ h.quiet.0, subst (λ (k : ℕ). Faulted k p2.write_faults) h.quiet.1 failed.1),
    now,
    record {
      frames = h.frames;
      last = frame;
      fronts = record {
        whole = AreFrames-snoc h.frames frame h.whole t.whole;
        number =
            refl;
        first = first_more frame lt t.whole t.consumed;
      };
      number = h.number;
      consumed = Consumes-trans p0.left p1.left p2.left (concat h.frames) frame h.taken t.consumed;
      replies = h.replies;
      bytes = bytes;
      between = s1;
      answered = h.answered;
      answers = t.answers;
      sent = (n, Appends-trans p0.sent p1.sent p2.sent h.replies (take n bytes) h.sent sends);
    },
  )
  StopsBy-turn stands2 cause.NoMemory lt (quiet, keeps, after) = (
    quiet_after p0 p1 p2 h.quiet quiet,
    record {
      frames = h.frames;
      fronts = fronts (omega (arith, lt));
      replies = h.replies;
      between = s1;
      answered = h.answered;
      sent = Appends-kept p0.sent p1.sent p2.sent h.replies h.sent keeps;
      after = elim after [
        | inl same ↦ inl same
        | inr (frame, whole, consumed, leaves) ↦ inr
            (frame, first_more frame lt whole consumed, whole, leaves)
      ];
    },
  )
  StopsBy-turn stands2 _ lt t = absurd t

-- after the last turn
module _ (s0 s1 : Session) (stands : Type 0) (p0 p1 p2 : Streams) (handled turns : ℕ)
    (h : Pumping s0 s1 stands p0 p1 handled) (last : handled ≡ turns) (sent : p2.sent ≡ p1.sent)
    (write_faults : p2.write_faults ≡ p1.write_faults) where
  keeps : Keeps p1.sent p2.sent
  keeps = subst (Keeps p1.sent) (sym sent) (Keeps-refl p1.sent)

  quiet_at : p2.read_faults ≡ p1.read_faults → Quiet p0 p2
  quiet_at read = (read ∙ h.quiet.0, write_faults ∙ h.quiet.1)

  -- nothing is left
  pub Completes-last : (bytes : List ℕ) → p2.read_faults ≡ p1.read_faults → length bytes ≡ 0
      → Consumes p1.left p2.left bytes → IsAtEnd p2.left
      → EndsQuietly s0 s1 stands p0 p2 turns turns done
  Completes-last bytes read none consumed end = (
    quiet_at read,
    h.standing,
    subst (λ (n : ℕ). Ended s0 s1 p0 p2 turns n done) last
        (ended s0 s1 s1 stands p0 p1 p2 handled turns h done (omega (arith, last))
        (IfSome-weaker p1.left _ _ (λ rest at. cut-nothing (turns - handled) rest at)
        (Consumes-whole p1.left p2.left bytes (λ bs. front bs ≡ nothing) consumed end
        (front-nil bytes none))) end refl keeps),
  )

  -- another byte follows
  pub StopsBy-spent : (bytes : List ℕ) → p2.read_faults ≡ p1.read_faults → length bytes ≡ 1
      → Consumes p1.left p2.left bytes → StopsBy s0 s1 stands p0 p2 turns turns cause.TurnsSpent
  StopsBy-spent bytes read some consumed =
      let none : turns - handled ≡ 0 = omega (arith, last) in (
        quiet_at read,
        h.standing,
        subst (λ (n : ℕ). Ended s0 s1 p0 p2 turns n turns_spent) last
            (ended s0 s1 s1 stands p0 p1 p2 handled turns h turns_spent (omega (arith, last))
            (Consumes-if p1.left p2.left bytes (λ bs. cut (turns - handled) bs ≡ ends turns_spent)
            consumed
            (λ more. ap (λ (k : ℕ). cut k (bytes ++ more)) none
            ∙ cut-spent (bytes ++ more) (omega (arith, length-append bytes more, some)))) (
              bytes,
              some,
              Consumes-trans p0.left p1.left p2.left (concat h.frames) bytes h.taken
                  consumed,
            ) refl keeps),
      )

  -- the input failed
  pub StopsBy-read : (more : List ℕ) → Faulted p1.read_faults p2.read_faults
      → Consumes p1.left p2.left more → length more < 1
      → StopsBy s0 s1 stands p0 p2 turns turns cause.Read
  StopsBy-read more fault consumed few = (
    (read_faults s0 s1 s1 stands p0 p1 p2 handled turns h fault, write_faults ∙ h.quiet.1),
    h.standing,
    subst (λ (n : ℕ). ReadStopped s0 s1 p0 p2 turns n) last
        (read_stopped s0 s1 s1 stands p0 p1 p2 handled turns h (omega (arith, last)) more consumed
        (inl (omega (arith, few))) refl keeps),
  )
