-- What serving a request leaves: refused, unchanged, hurt by a fault, made, and after messages.
use Rattle.std.proofs.Common.{◌≡◌, ℕ, ◌+◌, ◌-◌, ◌≤◌, ◌^◌, min, refl, sym, ap, ◌∙◌, subst, Option}
use Rattle.std.proofs.Common.{Some, None, Result, Ok, Err, arith, ◌⊎◌, inl, inr, ⊎_elim}
use Rattle.port_base.specs.Faults.{Rose}
use Rattle.port_base.specs.declared.errno.TheConstants.{EIO}
use Rattle.tree_model.specs.Tree.{Tree}
use Rattle.tree_model.specs.Settings.{Settings}
use Rattle.fuse_wire.specs.Request.{Request}
use Rattle.tree_machine.specs.State.{MachineState, kept_state}
use Rattle.tree_machine.specs.Replies.{Reply}
use Rattle.tree_machine.specs.Replies.Reply.{Refused}
use Rattle.tree_machine.specs.Refusals.{refused_or, none_or}
use Rattle.tree_machine.specs.Requests.{refusal_before, effect_of}
use Rattle.tree_machine.specs.Messages.{effect_messages}
use Rattle.tree_machine.specs.Faults.{PartOf}
use Rattle.tree_machine.specs.Good.{IsGoodMachine}
use Rattle.fid_model.specs.Fids.{ServerState, IsGoodServer}
use Rattle.fid_model.specs.Moments.{Moment, Untouched, AskedOne}
use Rattle.fuse_gate.specs.Standing.{IsInStep, ArePaired, machine_of, piece_of}
use Rattle.fuse_gate.specs.Steps.{Sent, Serves, LetsGo, machine_at, ServesRequest}
use Rattle.fuse_gate.specs.Changes.{one_sent}
use Rattle.fuse_gate.specs.declared.gate.TheConstants.{LEAST_MSIZE}
use Rattle.fuse_gate.specs.declared.gate.Gate.{Gate}
use Rattle.fuse_gate.proofs.Standings.{AreApart, kept_same, stands_kept, sent_stands}

-- ---- messages that leave the gate as it was

-- so many messages were sent, and the gate is as before but for their count
pub record SentAlone (count : ℕ) (g : Gate) (n : Moment) (g1 : Gate) (n1 : Moment) : Type 0 where
  pub gate : g1 ≡ record g { nine_frames = g1.nine_frames }
  pub messages : Sent count (g, n) (g1, n1)

pub none_sent : (g : Gate) (n : Moment) → SentAlone 0 g n g n
none_sent g n = record {
  gate = refl;
  messages =
      record { frames = omega arith; asked = omega arith };
}

pub one_more_sent : {count : ℕ} {g : Gate} {n : Moment} {g1 : Gate} {n1 : Moment}
    → SentAlone count g n g1 n1 → (g2 : Gate) (n2 : Moment) → g2 ≡ one_sent g1 → AskedOne n1 n2
    → SentAlone (count + 1) g n g2 n2
one_more_sent {g = g} {g1 = g1} h g2 n2 is asked =
    let frames : g2.nine_frames ≡ min (g1.nine_frames + 1) (2 ^ 64 - 1) =
    ap (λ (x : Gate). x.nine_frames) is in
    let before = h.messages.frames in
    let handed = h.messages.asked in
    record {
      gate = is ∙ ap one_sent h.gate ∙ ap (λ k. let x : Gate = record g { nine_frames = k } in x)
          (sym frames);
      messages = record {
        frames = omega (arith, before, frames);
        asked =
            omega (arith, handed, asked);
      };
    }

pub one_alone : {g : Gate} {n : Moment} (g1 : Gate) (n1 : Moment) → g1 ≡ one_sent g → AskedOne n n1
    → SentAlone 1 g n g1 n1
one_alone {g = g} {n = n} g1 n1 is asked = one_more_sent (none_sent g n) g1 n1 is asked

-- ---- a request that was carried out, or let fids go

module _ (told : Reply × MachineState) (count : ℕ) (part : Tree → Type 0) where
  pub made : (old new : Gate × Moment) (reply : Reply) → IsGoodServer new.1.state
      → ArePaired new.0 new.1.state → LEAST_MSIZE ≤ new.1.state.msize
      → new.1.state.settings ≡ old.1.state.settings
      → IsGoodMachine old.1.state.settings (kept_state told.1)
      → reply ≡ told.0 → machine_at new ≡ told.1 → Sent count old new
      → Serves told count part old new reply
  made old new reply good paired roomy fixed told_good is state messages =
      let apart : AreApart (machine_at new) = subst AreApart (sym state) told_good.apart in
      let all : machine_at new ≡ kept_state told.1 =
      sym (kept_same new.0 new.1.state paired apart good) ∙ ap kept_state state in
      record {
        stands = record {
          good = subst (λ (x : Settings). IsGoodMachine x (machine_at new))
              (sym fixed) (subst (IsGoodMachine old.1.state.settings) (sym all) told_good);
          paired =
              paired;
          roomy = roomy;
        };
        sent = count;
        messages = messages;
        outcome = inl (is, all, refl);
      }

  pub let_go_served : (old new : Gate × Moment) (reply : Reply) → reply ≡ told.0
      → LetsGo told.1 count old new → Serves told count part old new reply
  let_go_served old new reply is l = record {
    stands = l.stands;
    sent = count;
    messages =
        l.messages;
    outcome = inl (is, l.state, refl);
  }

  pub weaker : (other : Tree → Type 0) → ((t : Tree) → part t → other t)
      → (old new : Gate × Moment) (reply : Reply) → Serves told count part old new reply
      → Serves told count other old new reply
  weaker other lift old new reply served = record {
    stands = served.stands;
    sent = served.sent;
    messages = served.messages;
    outcome = ⊎_elim (λ e. inl e) (λ k. inr (k.0, k.1, k.2, lift new.1.state.tree k.3))
        served.outcome;
  }

  -- what is served after messages, which left the machine's state
  pub after : (sent : ℕ) (old between new : Gate × Moment) (reply : Reply) → Sent sent old between
      → old.1.faults ≤ between.1.faults → machine_at between ≡ machine_at old
      → Serves told count part between new reply → Serves told (sent + count) part old new reply
  after sent old between new reply first rises same served =
      let frames = first.frames in
      let asked = first.asked in
      let more = served.messages.frames in
      let handed = served.messages.asked in
      record {
        stands = served.stands;
        sent = sent + served.sent;
        messages = record {
          frames = omega (arith, frames, more);
          asked =
              omega (arith, asked, handed);
        };
        outcome = ⊎_elim
            (λ e. inl (e.0, e.1, ap (λ k. sent + k) e.2))
            (λ k. let rose = k.0 in inr (
              omega (arith, rises, rose),
              k.1,
              k.2
                  ∙ ap (λ (m : MachineState). let x : MachineState =
                  record m { tree = new.1.state.tree } in x) same,
              k.3,
            ))
            served.outcome;
      }

-- ---- where nothing but counts and the tree changed

module _ {g : Gate} {n : Moment} (st : IsInStep g n.state) (told : Reply × MachineState) (count : ℕ)
    (part : Tree → Type 0) where
  alone_stands : (sent : ℕ) (g1 : Gate) (n1 : Moment) → SentAlone sent g n g1 n1
      → n1.state ≡ n.state → IsInStep g1 n1.state
  alone_stands sent g1 n1 h same = subst (IsInStep g1) (sym same)
      (subst (λ (x : Gate). IsInStep x n.state) (sym h.gate) (sent_stands st g1.nine_frames))

  -- a fault left the state as it was
  pub hurt : (sent : ℕ) (g1 : Gate) (n1 : Moment) → SentAlone sent g n g1 n1 → n1.state ≡ n.state
      → Rose n.faults n1.faults → part n.state.tree
      → Serves told count part (g, n) (g1, n1) (Refused EIO)
  hurt sent g1 n1 h same rose left = record {
    stands = alone_stands sent g1 n1 h same;
    sent = sent;
    messages = h.messages;
    outcome = inr (
      rose,
      refl,
      ap (λ (x : Gate). machine_of x n1.state) h.gate,
      subst part
          (sym (ap (λ (x : ServerState). x.tree) same)) left,
    );
  }

  -- the machine's state is as it was
  pub unchanged : IsGoodServer n.state → (g1 : Gate) (n1 : Moment) (reply : Reply)
      → SentAlone count g n g1 n1 → n1.state ≡ n.state → reply ≡ told.0
      → told.1 ≡ machine_of g n.state
      → Serves told count part (g, n) (g1, n1) reply
  unchanged good g1 n1 reply h same is state = record {
    stands = alone_stands count g1 n1 h same;
    sent = count;
    messages = h.messages;
    outcome = inl (
      is,
      ap (machine_of g1) same ∙ ap (λ (x : Gate). machine_of x n.state) h.gate
          ∙ sym (ap kept_state state ∙ stands_kept st good),
      refl,
    );
  }

  -- one message, and then an answer: that of what is told, or EIO after a fault
  pub one_message : {A : Type 0} (asked : Result A ℕ × ServerState) (answer : Result A ℕ)
      (view : Result A ℕ → Reply) → view (Err EIO) ≡ Refused EIO
      → (sent : ℕ) (g1 : Gate) (n1 : Moment) → SentAlone sent g n g1 n1 → n.faults ≤ n1.faults
      → part n.state.tree
      → ((answer, n1.state) ≡ asked) ⊎ (Rose n.faults n1.faults × (answer ≡ Err EIO)
      × (n1.state ≡ n.state))
      → ((answer, n1.state) ≡ asked → Serves told count part (g, n) (g1, n1) (view answer))
      → Serves told count part (g, n) (g1, n1) (view answer)
  one_message asked answer view eio sent g1 n1 h rises left either step = ⊎_elim step
      (λ k. subst (λ r. Serves told count part (g, n) (g1, n1) r) (sym (ap view k.1 ∙ eio))
      (hurt sent g1 n1 h k.2 k.0 left))
      either

-- ---- requests

module _ {g : Gate} {n : Moment} (st : IsInStep g n.state) (good : IsGoodServer n.state) (node : ℕ)
    (r : Request) where
  -- a refusal that stands before the first message
  pub refused_before : (errno : ℕ) → refusal_before n.state.settings (machine_of g n.state) node r
      ≡ Some errno → ServesRequest node r (g, n) (g, n) (Refused errno)
  refused_before errno is =
      let m = machine_of g n.state in
      let part = PartOf n.state.settings m node (Ok r) in
      subst (λ (o : Option ℕ). Serves (refused_or m o (effect_of n.state.settings m node r))
      (none_or o (effect_messages (piece_of n.state) n.state.settings m node r)) part (g, n)
      (g, n) (Refused errno)) (sym is)
      (unchanged st (Refused errno, m) 0 part good g n (Refused errno) (none_sent g n) refl refl
      refl)

  -- none stands, and of a request that isn't carried out whole a part may be done
  pub served_in_part : refusal_before n.state.settings (machine_of g n.state) node r ≡ None
      → (new : Gate × Moment) (reply : Reply)
      → Serves (effect_of n.state.settings (machine_of g n.state) node r)
      (effect_messages (piece_of n.state) n.state.settings (machine_of g n.state) node r)
      (PartOf n.state.settings (machine_of g n.state) node (Ok r)) (g, n) new reply
      → ServesRequest node r (g, n) new reply
  served_in_part none new reply served =
      let m = machine_of g n.state in
      subst (λ (o : Option ℕ). Serves (refused_or m o (effect_of n.state.settings m node r))
      (none_or o (effect_messages (piece_of n.state) n.state.settings m node r))
      (PartOf n.state.settings m node (Ok r)) (g, n) new reply) (sym none) served

  -- none stands, and the tree stays
  pub served_after : refusal_before n.state.settings (machine_of g n.state) node r ≡ None
      → (new : Gate × Moment) (reply : Reply)
      → Serves (effect_of n.state.settings (machine_of g n.state) node r)
      (effect_messages (piece_of n.state) n.state.settings (machine_of g n.state) node r)
      (Untouched n.state.tree) (g, n) new reply
      → ServesRequest node r (g, n) new reply
  served_after none new reply served =
      let m = machine_of g n.state in
      let part = PartOf n.state.settings m node (Ok r) in
      served_in_part none new reply
      (weaker (effect_of n.state.settings m node r)
      (effect_messages (piece_of n.state) n.state.settings m node r) (Untouched n.state.tree)
      part (λ t same. inl (inl same)) (g, n) new reply served)
