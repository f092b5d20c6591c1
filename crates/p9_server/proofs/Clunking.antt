-- A fid goes, and its hold with it.
use Rattle.std.proofs.Common.{◌≡◌, ℕ, ◌-◌, ◌<◌, ◌≤◌, Bool, true, cond, refl, sym, ap, ◌∙◌, subst}
use Rattle.std.proofs.Common.{Option, Some, None, Ok, Err, arith}
use Rattle.std.specs.Prelude.{is_some}
use Rattle.std.specs.FinMap.{get, remove, len, len-remove, contains_key}
use Rattle.std.specs.Cmp.{nat_cmp_total}
use Rattle.tree_model.specs.Tree.{Tree, keep}
use Rattle.tree_model.specs.Settings.{Settings}
use Rattle.tree_model.specs.Sound.{IsKept}
use Rattle.tree_model.specs.declared.attributes.HostError.TheVariants.{Errno}
use Rattle.tree_model.proofs.Maps.{same_by, removed, remove_keeps}
use Rattle.tree_host.specs.Holds.{Holds, hold_count, held_less, is_held}
use Rattle.port_base.specs.declared.errno.TheConstants.{EBADF}
use Rattle.p9_tmsg.specs.Messages.Message.{clunk}
use Rattle.p9_rmsg.specs.Replies.Reply.{clunk as clunked}
use Rattle.fid_model.specs.Fids.{Fids, Fid, fid_count, kept_state, is_held as is_named}
use Rattle.fid_model.specs.Answers.{clunk_by}
use Rattle.fid_model.proofs.FidCounts.{fid_count-gone, fid_count-named}
use Rattle.p9_server.specs.Holding.{AreFids, IsSound}
use Rattle.p9_server.specs.Steps.{IsStep, server_state}
use Rattle.p9_server.proofs.HoldCounts.{less_counts_of, keep_named}
use Rattle.p9_server.proofs.Stepping.{pair, step_ok, step_refused}

remove_absent : (fids : Fids) (n : ℕ) → get fids n ≡ None → remove fids n ≡ fids
remove_absent fids n none = same_by _ fids n (removed fids n ∙ sym none)
    (λ q ne. remove_keeps fids n q ne)

module _ (h : Holds) (fids : Fids) (msize : ℕ) (settings : Settings)
    (sound : IsSound h fids msize settings) (n : ℕ) where
  -- where no fid has the number, all stays
  pub absent_sound : None ≡ get fids n → (fids' : Fids) → fids' ≡ remove fids n
      → IsSound h fids' msize settings
  absent_sound none fids' is = subst (λ (f : Fids). IsSound h f msize settings)
      (sym (is ∙ remove_absent fids n (sym none))) sound

  pub absent_step : None ≡ get fids n → (fids' : Fids) → fids' ≡ remove fids n → (t : Tree)
      → IsKept t.records (is_named fids) → (steady : Bool) (f : ℕ)
      → IsStep {A = Unit {0}} (clunk n) (λ _. clunked) (server_state t fids msize settings)
      (server_state t fids' msize settings) steady f f (Err (Errno EBADF))
  absent_step none fids' is t kept steady f =
      step_refused (clunk n) (λ _. clunked) (server_state t fids msize settings)
      (server_state t fids' msize settings) steady f f EBADF
      (ap (clunk_by (server_state t fids msize settings) n) (sym none)) kept
      (λ j. server_state t ((is ∙ remove_absent fids n (sym none)) j) msize settings) refl

  module _ (f : Fid) (at : Some f ≡ get fids n) where
    pub gone_held : (ino : ℕ) → ino ≡ f.ino → 0 < hold_count h ino
    gone_held ino is = let named = fid_count-named fids n f (sym at) in subst
        (λ i. 0 < hold_count h i) (sym is) (let same = sound.held f.ino in omega arith)

    module _ (ino : ℕ) (is : ino ≡ f.ino) (h' : Holds) (less : h' ≡ held_less h ino) (fids' : Fids)
        (rest : fids' ≡ remove fids n) where
      fewer : (i : ℕ) → hold_count h' i ≡ fid_count (remove fids n) i
      fewer i =
          let had = (less_counts_of h h' f.ino (gone_held f.ino refl)
          (less ∙ ap (held_less h) is)).counts i in
          let gone = fid_count-gone fids n f (sym at) i in
          let same = sound.held i in
          omega arith

      fewer_fids : len fids' ≤ settings.limit
      fewer_fids =
          let few = sound.few in
          let gone = ap len rest ∙ len-remove nat_cmp_total fids n in
          let there : contains_key fids n ≡ true = ap is_some (sym at) in
          let less = gone ∙ ap (λ b. cond b (len fids - 1) (len fids)) there in
          omega arith

      pub gone_sound : IsSound h' fids' msize settings
      gone_sound = record {
        held = subst (AreFids h') (sym rest) fewer;
        few = fewer_fids;
        bounded =
            sound.bounded;
        roomy = sound.roomy;
        below = sound.below;
      }

      pub gone_step : (t t' : Tree) → t' ≡ keep (is_held h') t → (steady : Bool) (f0 f1 : ℕ)
          → f1 ≡ f0
          → IsStep (clunk n) (λ _. clunked) (server_state t fids msize settings)
          (server_state t' fids' msize settings) steady f0 f1 (Ok (tt {0}))
      gone_step t t' swept steady f0 f1 count =
          step_ok (clunk n) (λ _. clunked) (server_state t fids msize settings)
          (server_state t' fids' msize settings) steady f0 f1 tt
          ((λ j. pair clunked (server_state ((swept ∙ keep_named h' fids' gone_sound.held t) j)
          fids' msize settings))
          ∙ (λ j. pair clunked (kept_state (server_state t (rest j) msize settings)))
          ∙ ap (λ (o : Option Fid). pair (clunk_by (server_state t fids msize settings) n o).0
          (kept_state (clunk_by (server_state t fids msize settings) n o).1)) at) count
