-- A session begins without fids.
use Rattle.std.proofs.Common.{◌≡◌, ℕ, ◌≤◌, ◌<◌, ◌^◌, Bool, true, false, cond, List, length, refl}
use Rattle.std.proofs.Common.{sym, ap, ◌∙◌, subst, Ok, Err, arith}
use Rattle.std.specs.Prelude.{min, nat_lt, codes, bytes_eq}
use Rattle.std.specs.FinMap.{empty}
use Rattle.port_base.specs.declared.errno.TheConstants.{EINVAL}
use Rattle.tree_model.specs.Tree.{Tree, keep}
use Rattle.tree_model.specs.Sound.{IsKept}
use Rattle.tree_model.specs.Settings.{Settings}
use Rattle.tree_model.specs.declared.attributes.HostError.TheVariants.{Errno}
use Rattle.p9_tmsg.specs.Messages.Message.{version}
use Rattle.p9_rmsg.specs.Replies.{Reply}
use Rattle.p9_rmsg.specs.Replies.Reply.{version as agreed, lerror}
use Rattle.fid_model.specs.Fids.{Fids, ServerState, kept_state, is_held as is_named}
use Rattle.fid_model.specs.Sessions.{spoken}
use Rattle.fid_model.specs.Answers.{core}
use Rattle.p9_server.specs.Steps.{IsStep, server_state}
use Rattle.p9_server.proofs.Stepping.{pair, step_ok, step_refused}

-- what is spoken is short
spoken_for : (b : Bool) → length (cond b (codes "9P2000.L") (codes "unknown")) ≤ 8
spoken_for true = omega arith
spoken_for false = omega arith

pub spoken_short : (protocol text : List ℕ) → text ≡ spoken protocol → length text ≤ 8
spoken_short protocol text is = subst (λ (l : List ℕ). length l ≤ 8) (sym is)
    (spoken_for (bytes_eq protocol (codes "9P2000.L")))

module _ {A : Type 0} (reply : A → Reply) (t : Tree) (fids : Fids) (size : ℕ) (settings : Settings)
    (msize : ℕ) (protocol : List ℕ) (steady : Bool) where
  abbrev before : ServerState
  before = server_state t fids size settings

  abbrev after : ServerState
  after = record before { fids = empty; msize = min size msize }

  core_by : (b : Bool) → nat_lt msize 256 ≡ b
      → core before (version msize protocol) ≡ cond b (pair (lerror EINVAL) before)
      (pair (agreed (min size msize) (spoken protocol)) after)
  core_by b is = ap (λ b. cond b (pair (lerror EINVAL) before)
      (pair (agreed (min size msize) (spoken protocol)) after)) is

  -- frames too small for a session
  pub too_small_step : IsKept t.records (is_named fids) → nat_lt msize 256 ≡ true → (f : ℕ)
      → IsStep (version msize protocol) reply before before steady f f (Err (Errno EINVAL))
  too_small_step kept small f = step_refused (version msize protocol) reply before before steady f f
      EINVAL (core_by true small) kept refl refl

  pub begun_step : nat_lt msize 256 ≡ false → (t' : Tree) → t' ≡ keep (is_named empty) t
      → (fids' : Fids) → fids' ≡ empty → (size' : ℕ) → size' ≡ min size msize → (f0 f1 : ℕ)
      → f1 ≡ f0
      → (a : A) → reply a ≡ agreed (min size msize) (spoken protocol)
      → IsStep (version msize protocol) reply before (server_state t' fids' size' settings)
      steady f0 f1 (Ok a)
  begun_step roomy t' swept fids' none size' sized f0 f1 count a seen =
      step_ok (version msize protocol) reply before (server_state t' fids' size' settings) steady f0
      f1 a
      ((λ j. pair (seen j) (server_state (swept j) (none j) (sized j) settings))
      ∙ sym (ap (λ (x : Reply × ServerState). pair x.0 (kept_state x.1)) (core_by false roomy)))
      count

-- ---- the greatest size of a frame

-- the smaller of two sizes that both have room for each reply
pub least_roomy : (a b : ℕ) → 256 ≤ a → 256 ≤ b → (c : ℕ) → c ≡ min a b → 256 ≤ c
least_roomy a b roomy enough c is = omega arith

pub least_below : (a b : ℕ) → a < 2 ^ 32 → (c : ℕ) → c ≡ min a b → c < 2 ^ 32
least_below a b below c is = omega arith
