-- Bytes that are written through a fid.
use Rattle.std.proofs.Common.{◌≡◌, ℕ, ◌<◌, ◌≤◌, ◌^◌, ◌%◌, Bool, true, false, cond, List}
use Rattle.std.proofs.Common.{length, refl, sym, ap, ◌∙◌, subst, Option, Some, None, Result}
use Rattle.std.proofs.Common.{Ok, Err, arith}
use Rattle.std.proofs.lemmas.Grind.{common_steps}
use Rattle.std.specs.FinMap.{get}
use Rattle.port_base.specs.declared.errno.TheConstants.{EBADF}
use Rattle.tree_model.specs.Tree.{Tree, body_at}
use Rattle.tree_model.specs.Good.{IsGoodTree}
use Rattle.tree_model.specs.Sound.{IsKept}
use Rattle.tree_model.specs.Settings.{Settings}
use Rattle.tree_model.specs.Making.{unless_refused}
use Rattle.tree_model.specs.Attributing.{write_of, fitting, refused_at, write_refused, with_changed}
use Rattle.tree_model.specs.Attributing.{overwritten_at}
use Rattle.tree_model.specs.declared.attributes.HostError.{HostError}
use Rattle.tree_model.specs.declared.attributes.HostError.TheVariants.{Errno, Fault, NoMemory}
use Rattle.tree_host.specs.Holds.{Holds, hold_count}
use Rattle.tree_host.specs.Host.{Answers, Leaves}
use Rattle.tree_host.specs.Calls.{Causes}
use Rattle.p9_tmsg.specs.Messages.Message.{write}
use Rattle.p9_rmsg.specs.Replies.Reply.{write as written}
use Rattle.fid_model.specs.Fids.{Fids, Fid, ServerState, is_writable, is_held as is_named}
use Rattle.fid_model.specs.FidCalls.{by_open_fid}
use Rattle.fid_model.specs.Files.{write_place}
use Rattle.fid_model.proofs.FidCounts.{fid_count-named}
use Rattle.p9_server.specs.Holding.{AreFids}
use Rattle.p9_server.specs.Steps.{IsStep, server_state}
use Rattle.p9_server.proofs.Stepping.{step_fault, step_no_memory}
use Rattle.p9_server.proofs.TreeSteps.{refused_step, failed_step, done_step}

-- ---- how many bytes are written

answer_of : {A : Type 0} (o : Option ℕ) (a b : A) (t u : Tree) → unless_refused o a t ≡ Ok (b, u)
    → b ≡ a
answer_of (Some e) a b t u is = absurd (cc)
answer_of {A} None a b t u is = let both : ◌≡◌ {A = A × Tree} (a, t) (b, u) =
    cc in sym (ap (λ (p : A × Tree). p.0) both)

few_fit : (limit offset : ℕ) (bytes : List ℕ) → length (fitting limit offset bytes) ≤ limit
few_fit limit offset bytes = grind (arith, common_steps)

-- a count of bytes that were written is a number of 32 bits
pub count_fits : (t u : Tree) → IsGoodTree t → (ino offset : ℕ) (bytes : List ℕ) (n : ℕ)
    → write_of t ino offset bytes ≡ Ok (n, u) → n % 2 ^ 32 ≡ n
count_fits t u good ino offset bytes n is =
    let same = answer_of (refused_at (write_refused t.limits.file offset bytes)
    (body_at t.records ino)) (length (fitting t.limits.file offset bytes)) n
    (with_changed (overwritten_at t.moment offset (fitting t.limits.file offset bytes)) ino t) u
    is in
    let few = few_fit t.limits.file offset bytes in
    let low = good.limits.0 in
    omega arith

-- ---- the step

module _ (t : Tree) (fids : Fids) (msize : ℕ) (settings : Settings) (n offset : ℕ)
    (payload : List ℕ) (kept : IsKept t.records (is_named fids)) (steady : Bool) where
  abbrev before : ServerState
  before = server_state t fids msize settings

  abbrev asked : Fid → Result (ℕ × Tree) ℕ
  asked f = write_of t f.ino (write_place t f offset) payload

  abbrev told : Option Fid → Result (ℕ × Tree) ℕ
  told o = by_open_fid is_writable asked o

  refused_for : told (get fids n) ≡ Err EBADF → (f : ℕ)
      → IsStep (write n offset payload) written before before steady f f (Err (Errno EBADF))
  refused_for is f = refused_step (write n offset payload) written written t fids msize settings
      steady (told (get fids n)) refl kept (Errno EBADF) (EBADF, refl, is) f

  -- no fid has the number
  pub unknown_step : None ≡ get fids n → (f : ℕ)
      → IsStep (write n offset payload) written before before steady f f (Err (Errno EBADF))
  unknown_step none = refused_for (ap told (sym none))

  module _ (f : Fid) (at : Some f ≡ get fids n) where
    open_by : (b : Bool) → b ≡ is_writable f.open_state
        → told (get fids n) ≡ cond b (asked f) (Err EBADF)
    open_by b is = ap told (sym at) ∙ ap (λ b. cond b (asked f) (Err EBADF)) (sym is)

    -- it isn't open to write
    pub unwritable_step : false ≡ is_writable f.open_state → (c : ℕ)
        → IsStep (write n offset payload) written before before steady c c (Err (Errno EBADF))
    unwritable_step shut = refused_for (open_by false shut)

    pub writable_held : (h : Holds) → AreFids h fids → (ino : ℕ) → ino ≡ f.ino
        → 0 < hold_count h ino
    writable_held h same ino is = let some = fid_count-named fids n f (sym at) in let held =
        same f.ino in subst (λ i. 0 < hold_count h i) (sym is) (omega arith)

    module _ (writes : true ≡ is_writable f.open_state) where
      -- the end of the file isn't told
      pub unplaced_step : (t' : Tree) → t' ≡ t → (f0 f1 : ℕ) (e : HostError)
          → Answers {A = ℕ} (Ok (write_place t f offset)) (Err e)
          → Causes {A = ℕ} steady f0 f1 (Err e)
          → IsStep (write n offset payload) written before (server_state t' fids msize settings)
          steady f0 f1 (Err e)
      unplaced_step t' same f0 f1 (Errno e) a c = absurd (let no = a.exactly in cc)
      unplaced_step t' same f0 f1 Fault a c =
          step_fault (write n offset payload) written before (server_state t' fids msize settings)
          steady f0 f1 refl (λ j. server_state (same j) fids msize settings) c.counted.0 c.counted.1
      unplaced_step t' same f0 f1 NoMemory a c =
          step_no_memory (write n offset payload) written before
          (server_state t' fids msize settings) steady f0 f1
          (λ j. server_state (same j) fids msize settings) c.counted

      module _ (ino place : ℕ) (own : ino ≡ f.ino)
          (at_place : Answers {A = ℕ} (Ok (write_place t f offset)) (Ok place)) (t1 t2 : Tree)
          (same : t1 ≡ t) (f0 f1 : ℕ) where
        placed : write_place t f offset ≡ place
        placed = let is : ◌≡◌ {A = Result ℕ ℕ} (Ok (write_place t f offset)) (Ok place) =
            at_place.exactly in cc

        asked_is : told (get fids n) ≡ write_of t1 ino place payload
        asked_is = open_by true writes ∙ (λ j. write_of (sym same j) (sym own j) (placed j) payload)

        leaves : {r : Result ℕ HostError} → Leaves (write_of t1 ino place payload) t1 t2 r
            → Leaves (told (get fids n)) t t2 r
        leaves {r} l = subst (λ (v : Tree). Leaves (told (get fids n)) v t2 r) same
            (subst (λ (x : Result (ℕ × Tree) ℕ). Leaves x t1 t2 r) (sym asked_is) l)

        pub failed_write : (e : HostError) → Leaves (write_of t1 ino place payload) t1 t2 (Err e)
            → Causes {A = ℕ} steady f0 f1 (Err e)
            → IsStep (write n offset payload) written before (server_state t2 fids msize settings)
            steady f0 f1 (Err e)
        failed_write e l c = failed_step (write n offset payload) written written t fids msize
            settings steady (told (get fids n)) refl kept refl t2 f0 f1 e (leaves l) c

        pub write_step : IsGoodTree t → IsKept t2.records (is_named fids) → (k : ℕ)
            → Leaves (write_of t1 ino place payload) t1 t2 (Ok k) → f1 ≡ f0
            → IsStep (write n offset payload) written before (server_state t2 fids msize settings)
            steady f0 f1 (Ok k)
        write_step good kept' k l count = done_step (write n offset payload) written written t fids
            msize settings steady (told (get fids n)) refl kept refl t2 f0 f1 kept' k k (leaves l)
            refl count
