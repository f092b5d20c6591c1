-- Frames answered one after another: none, one more, and none that met a fault.
use Rattle.std.proofs.Common.{◌≡◌, ℕ, ◌+◌, ◌-◌, ◌≤◌, ◌<◌, ◌^◌, IsTrue, List, [], ◌∷◌, ◌++◌, refl}
use Rattle.std.proofs.Common.{sym, ap, ◌∙◌, subst, arith, append-nil, inl, inr}
use Rattle.tree_model.specs.Settings.{Settings}
use Rattle.tree_machine.specs.State.{MachineState}
use Rattle.tree_machine.specs.Step.{step}
use Rattle.tree_machine.specs.Play.{play_from}
use Rattle.tree_machine.specs.Messages.{messages, messages_from}
use Rattle.tree_machine.specs.Faults.{Hurt}
use Rattle.tree_machine.proofs.Hurting.{Hurt-append, Hurt-zero, messages_from-append}
use Rattle.frame_pump.specs.Sessions.{Session, Counted, Met, Stays, StepOutcome, Answers, Answered}

pub Stays-refl : (s : Session) → Stays s s
Stays-refl s = record {
  settings = refl;
  piece = refl;
  steady = refl;
  steadily = λ _. refl;
  rises =
      omega arith;
}

pub Stays-trans : (a b c : Session) → Stays a b → Stays b c → Stays a c
Stays-trans a b c h k = record {
  settings = k.settings ∙ h.settings;
  piece = k.piece ∙ h.piece;
  steady = k.steady ∙ h.steady;
  steadily = λ t. k.steadily (subst IsTrue (sym h.steady) t) ∙ h.steadily t;
  rises = omega (arith, h.rises, k.rises);
}

counted_more : (a m b k c : ℕ) → Counted a m b → Counted b k c → Counted a (m + k) c
counted_more a m b k c h g = omega (arith, h, g)

met_more : (a m b k c : ℕ) → Met a m b → Met b k c → Met a (m + k) c
met_more a m b k c h g = omega (arith, h, g)

-- a run of one frame, and how many faults it met: none or one
record One (piece : ℕ) (s : Settings) (m0 m1 : MachineState) (f0 f1 number : ℕ)
    (frame bytes : List ℕ) : Type 0 where
  pub hurt : ℕ
  pub run : Hurt s m0 (frame ∷ []) hurt bytes m1
  pub met : Met f0 hurt f1
  pub exact : hurt ≡ 0 → number ≡ messages piece s m0 frame

one : (piece : ℕ) (s : Settings) (m0 m1 : MachineState) (f0 f1 number : ℕ) (frame bytes : List ℕ)
    → f0 ≤ f1 → StepOutcome piece s m0 m1 f0 f1 number frame bytes
    → One piece s m0 m1 f0 f1 number frame bytes
one piece s m0 m1 f0 f1 number frame bytes rises (inl (replied, state, sent)) = record {
  hurt = 0;
  run = inl ([], replied ∙ sym (append-nil (step s m0 frame).0), (refl, refl, state));
  met = omega (arith, rises);
  exact = λ _. sent;
}
one piece s m0 m1 f0 f1 number frame bytes rises (inr (rose, hurt)) = record {
  hurt = 1;
  run = inr (bytes, [], m1, 0, hurt, sym (append-nil bytes), refl, (refl, refl, refl));
  met = rose;
  exact = λ e. absurd (omega (arith, e));
}

messages_more : (piece : ℕ) (s : Settings) (m0 m : MachineState) (frames : List (List ℕ))
    (frame : List ℕ) (replies : List ℕ) (hurt more number sent : ℕ)
    → Hurt s m0 frames hurt replies m → (hurt ≡ 0 → number ≡ messages_from piece s m0 frames)
    → (more ≡ 0 → sent ≡ messages piece s m frame) → hurt + more ≡ 0
    → number + sent ≡ messages_from piece s m0 (frames ++ frame ∷ [])
messages_more piece s m0 m frames frame replies hurt more number sent run before after none =
    let h : hurt ≡ 0 = omega (arith, none) in
    let k : more ≡ 0 = omega (arith, none) in
    let state : m ≡ (play_from s m0 frames).1 = (Hurt-zero s m0 m frames hurt replies h run).1 in
    let at : sent ≡ messages piece s (play_from s m0 frames).1 frame = after k
    ∙ ap (λ (x : MachineState). messages piece s x frame) state in
    let joined = messages_from-append s piece m0 frames (frame ∷ []) in
    omega (arith, before h, at, joined)

pub Answered-more : (s0 s1 s2 : Session) (frames : List (List ℕ)) (frame : List ℕ)
    (replies bytes : List ℕ) → Answered s0 s1 frames replies → Answers s1 s2 frame bytes
    → Answered s0 s2 (frames ++ frame ∷ []) (replies ++ bytes)
Answered-more s0 s1 s2 frames frame replies bytes h a =
    let outcome : StepOutcome s0.piece s0.settings s1.state s2.state s1.faults s2.faults a.number
    frame bytes =
    subst (λ p. StepOutcome p s0.settings s1.state s2.state s1.faults s2.faults a.number frame
    bytes) h.stays.piece
    (subst (λ s. StepOutcome s1.piece s s1.state s2.state s1.faults s2.faults a.number frame bytes)
    h.stays.settings a.outcome) in
    let k = one s0.piece s0.settings s1.state s2.state s1.faults s2.faults a.number frame bytes
    a.stays.rises outcome in
    record {
      stays = Stays-trans s0 s1 s2 h.stays a.stays;
      number = h.number + a.number;
      sent = counted_more s0.sent h.number s1.sent a.number s2.sent h.sent a.sent;
      asked = counted_more s0.asked h.number s1.asked a.number s2.asked h.asked a.asked;
      hurt = h.hurt + k.hurt;
      run = Hurt-append s0.settings s0.state s1.state s2.state frames (frame ∷ []) h.hurt k.hurt
          replies bytes h.run k.run;
      met = met_more s0.faults h.hurt s1.faults k.hurt s2.faults h.met k.met;
      exact = messages_more s0.piece s0.settings s0.state s1.state frames frame replies h.hurt
          k.hurt h.number a.number h.run h.exact k.exact;
    }

-- nothing was answered yet
pub Answered-none : (s : Session) → Answered s s [] []
Answered-none s = record {
  stays = Stays-refl s;
  number = 0;
  sent = omega arith;
  asked = omega arith;
  hurt = 0;
  run = (refl, refl, refl);
  met = omega arith;
  exact = λ _. refl;
}

-- where no fault was counted, all is as the machine has it
pub Answered-exact : (s0 s1 : Session) (frames : List (List ℕ)) (replies : List ℕ)
    → Answered s0 s1 frames replies → s1.faults ≡ s0.faults → s0.faults < 2 ^ 64 - 1
    → (replies ≡ (play_from s0.settings s0.state frames).0)
    × (s1.state ≡ (play_from s0.settings s0.state frames).1)
    × Counted s0.sent (messages_from s0.piece s0.settings s0.state frames) s1.sent
    × Counted s0.asked (messages_from s0.piece s0.settings s0.state frames) s1.asked
Answered-exact s0 s1 frames replies h same below =
    let none : h.hurt ≡ 0 = omega (arith, h.met, same, below) in
    let played = Hurt-zero s0.settings s0.state s1.state frames h.hurt replies none h.run in (
      played.0,
      played.1,
      subst (λ (n : ℕ). Counted s0.sent n s1.sent) (h.exact none) h.sent,
      subst (λ (n : ℕ). Counted s0.asked n s1.asked) (h.exact none) h.asked,
    )
