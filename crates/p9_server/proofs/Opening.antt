-- A fid is opened: it names the inode that it named, so no hold changes; with O_TRUNC its file is
-- emptied.
use Rattle.std.proofs.Common.{◌≡◌, ◌⊎◌, inl, inr, ⊎_elim, ℕ, ◌+◌, ◌<◌, Bool, true, cond}
use Rattle.std.proofs.Common.{◌||◌, refl, sym, ap, ◌∙◌, subst, Result, Ok, Err, arith, nat_lt}
use Rattle.std.specs.Prelude.{◌==◌, is_some}
use Rattle.std.specs.FinMap.{get, insert, len, len-insert, contains_key}
use Rattle.std.specs.Cmp.{nat_cmp_total}
use Rattle.port_base.specs.declared.errno.TheConstants.{EBADF}
use Rattle.tree_model.specs.Tree.{Tree, is_linked}
use Rattle.tree_model.specs.Sound.{IsKept, AreStored}
use Rattle.tree_model.specs.Settings.{Settings}
use Rattle.tree_model.specs.Attributes.{stat_of, qid_of as attr_qid}
use Rattle.tree_model.specs.Opening.{open_check_of}
use Rattle.tree_model.specs.declared.attributes.Attr.{Attr}
use Rattle.tree_model.specs.declared.attributes.HostError.{HostError}
use Rattle.tree_model.specs.declared.attributes.HostError.TheVariants.{Errno, Fault, NoMemory}
use Rattle.tree_host.specs.Holds.{Holds, hold_count, is_held}
use Rattle.tree_host.specs.Host.{Answers, Leaves}
use Rattle.tree_host.specs.Calls.{Causes}
use Rattle.p9_wire.specs.declared.qid.Qid.{Qid as QidStruct}
use Rattle.p9_wire.specs.Qids.{qid_of as qid_plain}
use Rattle.p9_tmsg.specs.Messages.Message.{lopen}
use Rattle.p9_rmsg.specs.Replies.{Reply}
use Rattle.p9_rmsg.specs.Replies.Reply.{lopen as r_lopen}
use Rattle.fid_model.specs.Fids.{Fids, ServerState, closed, fid_weight, fid_count, kept_state}
use Rattle.fid_model.specs.Fids.{is_held as is_named}
use Rattle.fid_model.specs.Answers.{core, answer, opened, emptied, emptied_where, open_of, lopen_by}
use Rattle.fid_model.specs.Answers.{lopen_answer, qid_told}
use Rattle.fid_model.specs.Parts.{IsPartDone}
use Rattle.fid_model.proofs.FidCounts.{fid_count-replaced}
use Rattle.fid_model.proofs.Keeping.{kept_state_kept}
use Rattle.p9_server.specs.Holding.{IsSound}
use Rattle.p9_server.specs.Steps.{IsStep, server_state, ino_told}
use Rattle.p9_server.specs.Opening.{Opens}
use Rattle.p9_server.proofs.Showing.{named, unnamed}
use Rattle.p9_server.proofs.Taking.{only_fault}
use Rattle.p9_server.proofs.Stepping.{pair, not_steady, step_ok, step_refused, step_no_memory}

-- ---- what the host tells

-- the refusal of the test before
pub first_refused : (t u : Tree) (ino flags : ℕ) (e : HostError) → u ≡ t
    → Answers {A = Unit {0}} (open_check_of t ino flags) (Err e) → Opens t u ino flags (Err e)
first_refused t u ino flags (Errno e) same a =
    record {
      exactly = (
        ap (λ (r : Result (Unit {0}) ℕ). emptied_where r t ino flags) a.exactly,
        same,
      );
    }
first_refused t u ino flags Fault same a = record { exactly = inl same }
first_refused t u ino flags NoMemory same a = record { exactly = same }

module _ (t u : Tree) (ino flags : ℕ) (may : open_check_of t ino flags ≡ Ok tt) where
  opens_so : open_of t ino flags ≡ emptied t ino flags
  opens_so = ap (λ (r : Result (Unit {0}) ℕ). emptied_where r t ino flags) may

  -- the file isn't emptied
  pub then_refused : (e : HostError) → Leaves (emptied t ino flags) t u (Err e)
      → Opens t u ino flags (Err e)
  then_refused (Errno e) l = record { exactly = (opens_so ∙ l.exactly.0, l.exactly.1) }
  then_refused Fault l = record { exactly = inl l.exactly }
  then_refused NoMemory l = record { exactly = l.exactly }

  -- what is told of what was opened, which is stored
  pub then_told : Leaves (emptied t ino flags) t u (Ok (tt {0})) → (h : Holds)
      → AreStored u.records (is_held h) → 0 < hold_count h ino → (u' : Tree) → u' ≡ u
      → (result : Result Attr HostError) → Answers (stat_of u ino) result
      → (result ≡ Err NoMemory → ⊥) → Opens t u' ino flags result
  then_told l h stored held u' same (Ok a) s free =
      record {
        exactly = (
          opens_so ∙ l.exactly
              ∙ (λ j. let r : Result (Unit {0} × Tree) ℕ = Ok (tt, sym same j) in r),
          ap
              (λ (v : Tree). stat_of v ino) same ∙ s.exactly,
        );
      }
  then_told l h stored held u' same (Err (Errno e)) s free =
      absurd (cc_errno (only_fault u h ino stored held (Errno e) s free)) where
        cc_errno : ◌≡◌ {A = Result Attr HostError} (Err (Errno e)) (Err Fault) → ⊥
        cc_errno is = cc
  then_told l h stored held u' same (Err Fault) s free =
      record {
        exactly = inr (opens_so ∙ l.exactly
            ∙ (λ j. let r : Result (Unit {0} × Tree) ℕ = Ok (tt, sym same j) in r));
      }
  then_told l h stored held u' same (Err NoMemory) s free = absurd (free refl)

-- ---- the fids

module _ (fids : Fids) (n ino flags : ℕ) (known : Ok ino ≡ ino_told (get fids n)) where
  same_count : (i : ℕ) → fid_count (insert fids n (opened (closed ino) flags)) i ≡ fid_count fids i
  same_count i =
      let f = named fids n ino known in
      let step = fid_count-replaced fids n (opened (closed ino) flags) f.0 f.1 i in
      let weight : fid_weight i f.0 ≡ fid_weight i (opened (closed ino) flags) =
      ap (λ (k : ℕ). cond {A = ℕ} (k == i) 1 0) f.2 in
      omega arith

  same_len : len (insert fids n (opened (closed ino) flags)) ≡ len fids
  same_len =
      let f = named fids n ino known in
      let there : contains_key fids n ≡ true = ap is_some f.1 in
      len-insert nat_cmp_total fids n (opened (closed ino) flags)
      ∙ ap (λ b. cond b (len fids) (len fids + 1)) there

  pub opened_sound : (h h' : Holds) → h' ≡ h → (msize : ℕ) (settings : Settings)
      → IsSound h fids msize settings → (fids' : Fids)
      → fids' ≡ insert fids n (opened (closed ino) flags) → IsSound h' fids' msize settings
  opened_sound h h' holds msize settings sound fids' is = record {
    held = λ i. ap (λ (k : Holds). hold_count k i) holds ∙ sound.held i
        ∙ sym (ap (λ (m : Fids). fid_count m i) is ∙ same_count i);
    few = (let few = sound.few in let same = ap (λ (m : Fids). len m) is ∙ same_len in omega arith);
    bounded = sound.bounded;
    roomy = sound.roomy;
    below = sound.below;
  }

  still_kept : (t : Tree) → IsKept t.records (is_named fids)
      → IsKept t.records (is_named (insert fids n (opened (closed ino) flags)))
  still_kept t kept i had = ap (λ k. is_linked t.records i || nat_lt 0 k) (same_count i)
      ∙ kept i had

-- ---- the step

abbrev pub opens : QidStruct → Reply
opens q = r_lopen (qid_plain q) 0

module _ (t : Tree) (fids : Fids) (msize : ℕ) (settings : Settings) (n flags : ℕ)
    (kept : IsKept t.records (is_named fids)) (steady : Bool) where
  abbrev state : ServerState
  state = server_state t fids msize settings

  pub unknown_step : (f : ℕ) (e : HostError) → Err e ≡ ino_told (get fids n)
      → IsStep (lopen n flags) opens state state steady f f (Err e)
  unknown_step f e is =
      let none = unnamed fids n e is in
      subst (λ (e : HostError). IsStep (lopen n flags) opens state state steady f f (Err e))
      (sym none.1)
      (step_refused (lopen n flags) opens state state steady f f EBADF
      (ap (lopen_by state n flags) none.0) kept refl refl)

  module _ (ino : ℕ) (known : Ok ino ≡ ino_told (get fids n)) (t' : Tree)
      (kept' : IsKept t'.records (is_named fids)) (f0 f1 : ℕ) where
    core_is : (r : Result (Unit {0} × Tree) ℕ) → open_of t ino flags ≡ r
        → core state (lopen n flags) ≡ lopen_answer state n flags (named fids n ino known).0 r
    core_is r is =
        let f = named fids n ino known in
        ap (lopen_by state n flags) f.1 ∙ ap (λ (i : ℕ). lopen_answer state n flags f.0
        (open_of t i flags)) f.2 ∙ ap (lopen_answer state n flags f.0) is

    own : opened (named fids n ino known).0 flags ≡ opened (closed ino) flags
    own j = opened (record {
      ino = (named fids n ino known).2 j;
      open_state =
          (closed ino).open_state;
    }) flags

    abbrev after : ServerState
    after = server_state t' (insert fids n (opened (closed ino) flags)) msize settings

    -- the answer of an open
    opened_answer : open_of t ino flags ≡ Ok (tt, t')
        → answer state (lopen n flags) ≡ pair (r_lopen (qid_told (stat_of t' ino)) 0) after
    opened_answer is =
        ap (λ (x : Reply × ServerState). pair x.0 (kept_state x.1)) (core_is (Ok (tt, t')) is)
        ∙ (λ j. pair (r_lopen (qid_told (stat_of t' ((named fids n ino known).2 j))) 0)
        (kept_state (server_state t' (insert fids n (own j)) msize settings)))
        ∙ (λ j. pair (r_lopen (qid_told (stat_of t' ino)) 0)
        (kept_state_kept after (still_kept fids n ino flags known t' kept') j))

    abbrev stayed : ServerState
    stayed = server_state t' fids msize settings

    stayed_same : t' ≡ t → stayed ≡ state
    stayed_same same j = server_state (same j) fids msize settings

    -- the tree as it was, or as it is opened
    part : (t' ≡ t) ⊎ (open_of t ino flags ≡ Ok (tt, t')) → IsPartDone state (lopen n flags) t'
    part = ⊎_elim (λ same. inl same) (λ done. inr
        (sym (ap (λ (x : Reply × ServerState). x.1.tree) (opened_answer done))))

    pub failed_step : (e : HostError) → Opens t t' ino flags (Err e)
        → Causes {A = Attr} steady f0 f1 (Err e)
        → IsStep (lopen n flags) opens state stayed steady f0 f1 (Err e)
    failed_step (Errno e) o c = step_refused (lopen n flags) opens state stayed steady f0 f1 e
        (core_is (Err e) o.exactly.0) kept (stayed_same o.exactly.1) c.counted
    failed_step Fault o c = record {
      answer =
          inr (c.counted.0.1, refl, refl, part o.exactly);
      rises = c.counted.0.0;
      steadily =
          not_steady steady f0 f1 c.counted.1;
    }
    failed_step NoMemory o c = step_no_memory (lopen n flags) opens state stayed steady f0 f1
        (stayed_same o.exactly) c.counted

    pub opened_step : (q : QidStruct) (a : Attr) → Opens t t' ino flags (Ok a)
        → qid_plain q ≡ attr_qid a → (fids' : Fids)
        → fids' ≡ insert fids n (opened (closed ino) flags) → f1 ≡ f0
        → IsStep (lopen n flags) opens state (server_state t' fids' msize settings) steady f0 f1
        (Ok q)
    opened_step q a o seen fids' is count = step_ok (lopen n flags) opens state
        (server_state t' fids' msize settings) steady f0 f1 q
        ((λ j. pair (r_lopen ((seen ∙ sym (ap qid_told o.exactly.1)) j) 0)
        (server_state t' (is j) msize settings)) ∙ sym (opened_answer o.exactly.0)) count
