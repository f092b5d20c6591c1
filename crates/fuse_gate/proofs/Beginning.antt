-- INIT, DESTROY and INTERRUPT: at most the phase changes.
use Rattle.std.proofs.Common.{◌≡◌, ◌≢◌, ℕ, ◌<◌, ◌≤◌, Bool, true, false, not, ◌||◌, refl, ap, min}
use Rattle.std.proofs.Common.{◌⊎◌, ⊎_elim, Some, None, arith, nat_lt}
use Rattle.std.specs.Prelude.{◌==◌}
use Rattle.std.proofs.lemmas.Bool.Decides.{nat_tests}
use Rattle.port_base.specs.declared.errno.TheConstants.{EPROTO}
use Rattle.fuse_wire.specs.Request.{init, destroy, interrupt}
use Rattle.tree_machine.specs.State.{MachineState}
use Rattle.tree_machine.specs.Replies.{Reply}
use Rattle.tree_machine.specs.Replies.Reply.{Granted, Done}
use Rattle.tree_machine.specs.Refusals.{refused_if}
use Rattle.tree_machine.specs.Core.{init_refusal, init_effect}
use Rattle.tree_machine.proofs.Steps.{kept_good, in_phase}
use Rattle.fid_model.specs.Fids.{IsGoodServer}
use Rattle.fid_model.specs.Moments.{Moment, Untouched}
use Rattle.fuse_gate.specs.Standing.{IsInStep, machine_of, phase_of}
use Rattle.fuse_gate.specs.Steps.{Serves, ServesRequest}
use Rattle.fuse_gate.specs.declared.gate.Gate.{Gate}
use Rattle.fuse_gate.specs.declared.gate.Phase.{Phase}
use Rattle.fuse_gate.specs.declared.gate.Phase.TheVariants as phase
use Rattle.fuse_gate.proofs.Serving.{made, served_after, unchanged, none_sent}

-- another phase, with a reply
phase_changes : {g : Gate} {n : Moment} → IsInStep g n.state → IsGoodServer n.state → (p : Phase)
    → (told reply : Reply) → reply ≡ told
    → Serves (told, record (machine_of g n.state) { phase = phase_of p }) 0
    (Untouched n.state.tree) (g, n) (record g { phase = p }, n) reply
phase_changes {g} {n} st good p told reply is =
    let m : MachineState = record (machine_of g n.state) { phase = phase_of p } in
    made (told, m) 0 (Untouched n.state.tree) (g, n) (record g { phase = p }, n) reply good
    (record {
      fids = st.paired.fids;
      used = st.paired.used;
      counted = st.paired.counted;
      ids = st.paired.ids;
      known = st.paired.known;
      node_kinds = st.paired.node_kinds;
      handle_kinds = st.paired.handle_kinds;
    })
    st.roomy refl (kept_good n.state.settings m
    (in_phase n.state.settings (machine_of g n.state) st.good (phase_of p)))
    is refl (record { frames = omega arith; asked = omega arith })

module _ (major minor : ℕ) where
  by_test : (b : Bool) → (not (major == 7) || nat_lt minor 23) ≡ b
      → init_refusal major minor ≡ refused_if b EPROTO
  by_test b t = ap (λ (b : Bool). refused_if b EPROTO) t

  pub init_refused : (major ≢ 7) ⊎ ((major ≡ 7) × (minor < 23))
      → init_refusal major minor ≡ Some EPROTO
  init_refused bad = by_test true (⊎_elim (λ h. grind (arith, nat_tests))
      (λ h. grind (arith, nat_tests)) bad)

  passes : major ≡ 7 → 23 ≤ minor → init_refusal major minor ≡ None
  passes seven enough = by_test false (grind (arith, nat_tests))

  pub init_begun : {g : Gate} {n : Moment} → IsInStep g n.state → IsGoodServer n.state
      → (max_readahead least : ℕ) → major ≡ 7 → 23 ≤ minor → least ≡ min minor 31
      → ServesRequest 0 (init major minor max_readahead 0) (g, n)
      (record g { phase = phase.Started }, n) (Granted least max_readahead)
  init_begun {g} {n} st good max_readahead least seven enough lower =
      let m = machine_of g n.state in
      served_after st good 0 (init major minor max_readahead 0) (passes seven enough)
      (record g { phase = phase.Started }, n) (Granted least max_readahead)
      (phase_changes st good phase.Started (init_effect m minor max_readahead).0
      (Granted least max_readahead) (ap (λ k. Granted k max_readahead) lower))

-- ---- DESTROY and INTERRUPT

pub destroyed : {g : Gate} {n : Moment} → IsInStep g n.state → IsGoodServer n.state
    → ServesRequest 0 destroy (g, n) (record g { phase = phase.Over }, n) Done
destroyed {g} {n} st good = served_after st good 0 destroy refl
    (record g { phase = phase.Over }, n) Done (phase_changes st good phase.Over Done Done refl)

pub passed_over : {g : Gate} {n : Moment} → IsInStep g n.state → IsGoodServer n.state
    → ServesRequest 0 interrupt (g, n) (g, n) Done
passed_over {g} {n} st good =
    served_after st good 0 interrupt refl (g, n) Done
    (unchanged st (Done, machine_of g n.state) 0 (Untouched n.state.tree) good g n Done
    (none_sent g n) refl refl refl)
