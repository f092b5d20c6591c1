-- The target of a link, where a frame has room for it.
use Rattle.std.proofs.Common.{◌≡◌, ℕ, ◌+◌, Bool, true, false, cond, List, length, refl, ap}
use Rattle.std.proofs.Common.{◌∙◌, Result, Ok, Err}
use Rattle.std.specs.Prelude.{nat_lt}
use Rattle.std.specs.Result.{IsErrAnd}
use Rattle.std.specs.FinMap.{get}
use Rattle.port_base.specs.declared.errno.TheConstants.{ENAMETOOLONG}
use Rattle.tree_model.specs.Tree.{Tree}
use Rattle.tree_model.specs.Sound.{IsKept}
use Rattle.tree_model.specs.Settings.{Settings}
use Rattle.tree_model.specs.Opening.{readlink_of}
use Rattle.tree_model.specs.declared.attributes.HostError.{HostError}
use Rattle.tree_model.specs.declared.attributes.HostError.TheVariants.{Errno, NoMemory}
use Rattle.tree_host.specs.Host.{Answers}
use Rattle.tree_host.specs.Calls.{Causes}
use Rattle.p9_tmsg.specs.Messages.Message.{readlink}
use Rattle.p9_rmsg.specs.Replies.{Reply}
use Rattle.p9_rmsg.specs.Replies.Reply.{readlink as target}
use Rattle.fid_model.specs.Fids.{Fids, Fid, ServerState, is_held as is_named}
use Rattle.fid_model.specs.FidCalls.{by_fid}
use Rattle.p9_wire.specs.declared.protocol.TheConstants.{RREADLINK_HEADER_SIZE}
use Rattle.fid_model.specs.Files.{fitting_target}
use Rattle.p9_server.specs.Steps.{IsStep, server_state, ino_told}
use Rattle.p9_server.proofs.Stepping.{step_no_memory}
use Rattle.p9_server.proofs.Showing.{passed_on}
use Rattle.p9_server.proofs.Asking.{by_known, told_step, refused_step, failed_step}

module _ (t : Tree) (fids : Fids) (msize : ℕ) (settings : Settings) (n : ℕ)
    (kept : IsKept t.records (is_named fids)) (steady : Bool) (ino : ℕ)
    (known : Ok ino ≡ ino_told (get fids n)) (t' : Tree) (same : t' ≡ t) (f0 f1 : ℕ) where
  abbrev before : ServerState
  before = server_state t fids msize settings

  abbrev after : ServerState
  after = server_state t' fids msize settings

  pub after_target : after ≡ before
  after_target j = server_state (same j) fids msize settings

  abbrev asked : Fid → Result (List ℕ) ℕ
  asked f = fitting_target msize (readlink_of t f.ino)

  abbrev told : Result (List ℕ) ℕ
  told = by_fid asked (get fids n)

  told_is : told ≡ fitting_target msize (readlink_of t ino)
  told_is = let f = by_known asked (get fids n) ino known in f.2
      ∙ ap (λ (i : ℕ). fitting_target msize (readlink_of t i)) f.3

  fitting : (text : List ℕ) (b : Bool) → readlink_of t ino ≡ Ok text
      → nat_lt msize (RREADLINK_HEADER_SIZE + length text) ≡ b
      → told ≡ cond {A = Result (List ℕ) ℕ} b (Err ENAMETOOLONG) (Ok text)
  fitting text b is long = told_is ∙ ap (fitting_target msize) is
      ∙ ap (λ b. cond {A = Result (List ℕ) ℕ} b (Err ENAMETOOLONG) (Ok text)) long

  -- the host tells none
  pub no_target_step : {A D : Type 0} (reply : A → Reply) (r : Result A HostError) (e : HostError)
      → IsErrAnd r (λ y. y ≡ e) → Answers (readlink_of t ino) (Err e)
      → Causes {A = D} steady f0 f1 (Err e) → IsStep (readlink n) reply before after steady f0 f1 r
  no_target_step reply r e passed a c = passed_on
      (λ (r : Result _ HostError). IsStep (readlink n) reply before after steady f0 f1 r) r e passed
      (failed_step (readlink n) reply target before kept steady told refl after after_target f0 f1
      (readlink_of t ino) (λ k none. told_is ∙ ap (fitting_target msize) none) refl e a c)

  module _ {A : Type 0} (reply : A → Reply) (text : List ℕ) (is : readlink_of t ino ≡ Ok text)
      (calm : f1 ≡ f0) where
    pub long_step : nat_lt msize (RREADLINK_HEADER_SIZE + length text) ≡ true
        → IsStep (readlink n) reply before after steady f0 f1 (Err (Errno ENAMETOOLONG))
    long_step long = refused_step (readlink n) reply target before kept steady told refl after
        after_target f0 f1 ENAMETOOLONG (fitting text true is long) calm

    pub target_step : nat_lt msize (RREADLINK_HEADER_SIZE + length text) ≡ false → (a : A)
        → reply a ≡ target text → IsStep (readlink n) reply before after steady f0 f1 (Ok a)
    target_step short a seen = told_step (readlink n) reply target before kept steady told refl
        after after_target f0 f1 a text (fitting text false is short) seen calm

    pub uncopied_step : IsStep (readlink n) reply before after steady f0 f1 (Err NoMemory)
    uncopied_step = step_no_memory (readlink n) reply before after steady f0 f1 after_target calm
