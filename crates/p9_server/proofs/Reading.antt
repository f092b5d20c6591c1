-- What is read of a fid that is open to be read.
use Rattle.std.proofs.Common.{◌≡◌, ℕ, ◌-◌, ◌<◌, Bool, true, false, cond, List, take, refl, sym, ap}
use Rattle.std.proofs.Common.{◌∙◌, subst, Option, Some, None, Result, Ok, Err, arith}
use Rattle.std.specs.Prelude.{min}
use Rattle.std.specs.FinMap.{get}
use Rattle.port_base.specs.declared.errno.TheConstants.{EBADF}
use Rattle.tree_model.specs.Tree.{Tree}
use Rattle.tree_model.specs.Sound.{IsKept}
use Rattle.tree_model.specs.Settings.{Settings}
use Rattle.tree_model.specs.Opening.{read_of}
use Rattle.tree_model.specs.declared.attributes.HostError.{HostError}
use Rattle.tree_model.specs.declared.attributes.HostError.TheVariants.{Errno, Fault, NoMemory}
use Rattle.tree_host.specs.Holds.{Holds, hold_count}
use Rattle.tree_host.specs.Host.{Reads}
use Rattle.tree_host.specs.Calls.{Causes}
use Rattle.p9_tmsg.specs.Messages.Message.{read}
use Rattle.p9_rmsg.specs.Replies.{Reply}
use Rattle.p9_rmsg.specs.Replies.Reply.{read as r_read, lerror}
use Rattle.fid_model.specs.Fids.{Fids, Fid, ServerState, is_readable, kept_state}
use Rattle.fid_model.specs.Fids.{is_held as is_named}
use Rattle.p9_wire.specs.declared.protocol.TheConstants.{RREAD_HEADER_SIZE}
use Rattle.fid_model.specs.Answers.{answer, read_by, read_reply}
use Rattle.fid_model.proofs.FidCounts.{fid_count-named}
use Rattle.fid_model.proofs.Keeping.{kept_state_kept}
use Rattle.p9_server.specs.Holding.{AreFids}
use Rattle.p9_server.specs.Steps.{IsStep, server_state, readable_told}
use Rattle.p9_server.proofs.Stepping.{pair, step_ok, step_errno, step_refused, step_fault}
use Rattle.p9_server.proofs.Stepping.{step_no_memory}

-- ---- fids that are open to be read

module _ (t : Tree) (offset most : ℕ) where
  refused_for : (readable : Bool) (ino : ℕ) (e : HostError)
      → Err e ≡ cond {A = Result ℕ HostError} readable (Ok ino) (Err (Errno EBADF))
      → (cond readable (read_reply (read_of t ino offset most)) (lerror EBADF) ≡ lerror EBADF)
      × (e ≡ Errno EBADF)
  refused_for true ino e is = absurd (cc)
  refused_for false ino e is = let same : e ≡ Errno EBADF = cc in (refl, same)

  taken_for : (readable : Bool) (own ino : ℕ)
      → Ok ino ≡ cond {A = Result ℕ HostError} readable (Ok own) (Err (Errno EBADF))
      → (cond readable (read_reply (read_of t own offset most)) (lerror EBADF) ≡ read_reply
      (read_of t own offset most)) × (own ≡ ino)
  taken_for true own ino is = let same : own ≡ ino = cc in (refl, same)
  taken_for false own ino is = absurd (cc)

module _ (t : Tree) (fids : Fids) (msize : ℕ) (settings : Settings) (offset count : ℕ) where
  abbrev state : ServerState
  state = server_state t fids msize settings

  abbrev most : ℕ
  most = min count (msize - RREAD_HEADER_SIZE)

  refused_by : (o : Option Fid) (e : HostError) → Err e ≡ readable_told o
      → (read_by state offset count o ≡ lerror EBADF) × (e ≡ Errno EBADF)
  refused_by None e is = let same : e ≡ Errno EBADF = cc in (refl, same)
  refused_by (Some f) e is = refused_for t offset most (is_readable f.open_state) f.ino e is

  taken_by : (o : Option Fid) (ino : ℕ) → Ok ino ≡ readable_told o → (f : Fid) × (o ≡ Some f)
      × (read_by state offset count o ≡ read_reply (read_of t f.ino offset most)) × (f.ino ≡ ino)
  taken_by None ino is = absurd (cc)
  taken_by (Some f) ino is = let x = taken_for t offset most (is_readable f.open_state) f.ino ino is
      in (f, refl, x.0, x.1)

-- what such a fid names is held
pub readable_held : (h : Holds) (fids : Fids) → AreFids h fids → (n ino : ℕ)
    → Ok ino ≡ readable_told (get fids n) → (t : Tree) (msize : ℕ) (settings : Settings)
    → 0 < hold_count h ino
readable_held h fids same n ino e t msize settings =
    let f = taken_by t fids msize settings 0 0 (get fids n) ino e in
    let some = fid_count-named fids n f.0 f.1 in
    let held = same f.0.ino in
    subst (λ i. 0 < hold_count h i) f.3 (omega arith)

-- ---- the step

module _ {A : Type 0} (items : A → List ℕ) (t : Tree) (fids : Fids) (msize : ℕ)
    (settings : Settings) (n offset count : ℕ) (kept : IsKept t.records (is_named fids))
    (steady : Bool) where
  abbrev before : ServerState
  before = server_state t fids msize settings

  abbrev reads : A → Reply
  reads v = r_read (items v)

  pub unreadable_step : (f : ℕ) (e : HostError) → Err e ≡ readable_told (get fids n)
      → IsStep (read n offset count) reads before before steady f f (Err e)
  unreadable_step f e is =
      let none = refused_by t fids msize settings offset count (get fids n) e is in
      subst (λ (e : HostError). IsStep (read n offset count) reads before before steady f f (Err e))
      (sym none.1)
      (step_refused (read n offset count) reads before before steady f f EBADF
      (ap (λ (r : Reply). pair r before) none.0) kept refl refl)

  module _ (ino : ℕ) (known : Ok ino ≡ readable_told (get fids n)) (t' : Tree) (same : t' ≡ t)
      (f0 f1 : ℕ) where
    abbrev after : ServerState
    after = server_state t' fids msize settings

    pub after_read : after ≡ before
    after_read j = server_state (same j) fids msize settings

    told : (r : Result (List ℕ) ℕ) → read_of t ino offset (min count (msize - RREAD_HEADER_SIZE))
        ≡ r → answer before (read n offset count) ≡ pair (read_reply r) before
    told r is =
        let f = taken_by t fids msize settings offset count (get fids n) ino known in
        ap (λ (r : Reply). pair r (kept_state before)) f.2
        ∙ ap (λ (i : ℕ). pair (read_reply (read_of t i offset
        (min count (msize - RREAD_HEADER_SIZE)))) (kept_state before)) f.3
        ∙ ap (λ (r : Result (List ℕ) ℕ). pair (read_reply r) (kept_state before)) is
        ∙ (λ j. pair (read_reply r) (kept_state_kept before kept j))

    pub unread_step : f1 ≡ f0 → IsStep (read n offset count) reads before after steady f0 f1
        (Err NoMemory)
    unread_step calm = step_no_memory (read n offset count) reads before after steady f0 f1
        after_read calm

    module _ (most : ℕ) (is : most ≡ min count (msize - RREAD_HEADER_SIZE)) (old new : List ℕ) where
      pub read_step : (v : A) (k : ℕ) → Reads (read_of t ino offset most) old new (Ok k)
          → items v ≡ take k new → f1 ≡ f0 → IsStep (read n offset count) reads before after steady
          f0 f1 (Ok v)
      read_step v k r front calm = step_ok (read n offset count) reads before after steady f0 f1 v
          ((λ j. pair (r_read (front j)) (after_read j))
          ∙ sym (told (Ok (take k new)) (sym (ap (λ (m : ℕ). read_of t ino offset m) is)
          ∙ r.exactly.0))) calm

      pub failed_step : (e : HostError) → Reads (read_of t ino offset most) old new (Err e)
          → Causes {A = ℕ} steady f0 f1 (Err e)
          → IsStep (read n offset count) reads before after steady f0 f1 (Err e)
      failed_step (Errno e) r c = step_errno (read n offset count) reads before after steady f0 f1 e
          ((λ j. pair (lerror e) (after_read j))
          ∙ sym (told (Err e) (sym (ap (λ (m : ℕ). read_of t ino offset m) is) ∙ r.exactly.0)))
          c.counted
      failed_step Fault r c = step_fault (read n offset count) reads before after steady f0 f1 refl
          after_read c.counted.0 c.counted.1
      failed_step NoMemory r c = step_no_memory (read n offset count) reads before after steady f0
          f1 after_read c.counted
