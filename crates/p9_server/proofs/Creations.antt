-- Tlcreate: the fid of a directory names a new file.
use Rattle.std.proofs.Common.{◌≡◌, ◌⊎◌, inl, inr, ⊎_elim, ℕ, ◌+◌, ◌<◌, Bool, true, cond, List}
use Rattle.std.proofs.Common.{refl, sym, ap, ◌∙◌, subst, Option, Some, None, Result, Ok, Err, arith}
use Rattle.std.specs.Prelude.{◌==◌, is_some}
use Rattle.std.specs.FinMap.{get, insert, len, len-insert, contains_key}
use Rattle.std.specs.Cmp.{nat_cmp_total}
use Rattle.port_base.specs.declared.errno.TheConstants.{EBADF}
use Rattle.tree_model.specs.Tree.{Tree, keep, is_linked, body_at, is_directory_at}
use Rattle.tree_model.specs.Good.{IsGoodTree}
use Rattle.tree_model.specs.Sound.{IsKept}
use Rattle.tree_model.specs.Settings.{Settings}
use Rattle.tree_model.specs.Opening.{unless}
use Rattle.tree_model.specs.Creating.{create_of}
use Rattle.tree_model.specs.Attributes.{stat_of, qid_of as attr_qid}
use Rattle.tree_model.specs.declared.attributes.Attr.{Attr}
use Rattle.tree_model.specs.declared.attributes.HostError.{HostError}
use Rattle.tree_model.specs.declared.attributes.HostError.TheVariants.{Errno, Fault, NoMemory}
use Rattle.tree_host.specs.Holds.{Holds, hold_count, held_less, is_held}
use Rattle.tree_host.specs.Calls.{Causes}
use Rattle.p9_wire.specs.declared.qid.Qid.{Qid as QidStruct}
use Rattle.p9_wire.specs.Qids.{qid_of as qid_plain}
use Rattle.p9_tmsg.specs.Messages.Message.{lcreate}
use Rattle.p9_rmsg.specs.Replies.{Reply}
use Rattle.p9_rmsg.specs.Replies.Reply.{lcreate as r_lcreate}
use Rattle.fid_model.specs.Fids.{Fids, Fid, ServerState, closed, fid_weight, fid_count, kept_state}
use Rattle.fid_model.specs.Fids.{is_held as is_named}
use Rattle.fid_model.specs.TreeCalls.{unless_some}
use Rattle.fid_model.specs.Files.{new_file_of, new_file_refused}
use Rattle.fid_model.specs.Answers.{core, answer, opened, lcreate_answer, qid_told}
use Rattle.fid_model.specs.Parts.{IsPartDone}
use Rattle.fid_model.proofs.FidCounts.{fid_count-replaced}
use Rattle.fid_model.proofs.Keeping.{keep_same}
use Rattle.p9_server.specs.Holding.{AreFids, IsSound, IsMore}
use Rattle.p9_server.specs.Steps.{IsStep, server_state, ino_told}
use Rattle.p9_server.specs.Creating.{Creates}
use Rattle.p9_server.proofs.HoldCounts.{less_counts_of, keep_named}
use Rattle.p9_server.proofs.Showing.{named}
use Rattle.p9_server.proofs.Asking.{by_unknown, by_known}
use Rattle.p9_server.proofs.Created.{created_kept, created_linked, kept_without, fine_name}
use Rattle.p9_server.proofs.Stepping.{pair, not_steady, step_ok, step_refused, step_no_memory}

abbrev pub creates : QidStruct → Reply
creates q = r_lcreate (qid_plain q) 0

-- ---- the holds

module _ (h : Holds) (fids : Fids) (msize : ℕ) (settings : Settings)
    (sound : IsSound h fids msize settings) (n dir ino flags : ℕ)
    (known : Ok dir ≡ ino_told (get fids n)) (h1 : Holds) (more : IsMore h h1 ino) where
  pub dir_held : 0 < hold_count h dir → 0 < hold_count h1 dir
  dir_held held = let up = more.counts dir in omega arith

  module _ (held : 0 < hold_count h1 dir) (h2 : Holds) (less : h2 ≡ held_less h1 dir) (fids' : Fids)
      (is : fids' ≡ insert fids n (opened (closed ino) flags)) where
    moved_held : AreFids h2 fids'
    moved_held i =
        let f = named fids n dir known in
        let up = more.counts i in
        let down = (less_counts_of h1 h2 dir held less).counts i in
        let step = fid_count-replaced fids n (opened (closed ino) flags) f.0 f.1 i in
        let own : fid_weight i f.0 ≡ cond (dir == i) 1 0 =
        ap (λ (k : ℕ). cond {A = ℕ} (k == i) 1 0) f.2 in
        let same = ap (λ (m : Fids). fid_count m i) is in
        let here = sound.held i in
        omega arith

    moved_len : len fids' ≡ len fids
    moved_len =
        let f = named fids n dir known in
        let there : contains_key fids n ≡ true = ap is_some f.1 in
        ap len is ∙ len-insert nat_cmp_total fids n (opened (closed ino) flags)
        ∙ ap (λ b. cond b (len fids) (len fids + 1)) there

    pub moved_sound : IsSound h2 fids' msize settings
    moved_sound = record {
      held = moved_held;
      few =
          (let few = sound.few in let same = moved_len in omega arith);
      bounded =
          sound.bounded;
      roomy = sound.roomy;
      below = sound.below;
    }

    pub moved_tree : (u v : Tree) → v ≡ keep (is_held h2) u
        → v ≡ keep (is_named (insert fids n (opened (closed ino) flags))) u
    moved_tree u v swept = swept ∙ keep_named h2 fids' moved_held u
        ∙ ap (λ (m : Fids). keep (is_named m) u) is

-- ---- the step

module _ (t : Tree) (fids : Fids) (msize : ℕ) (settings : Settings) (n : ℕ) (name : List ℕ)
    (flags mode gid : ℕ) (kept : IsKept t.records (is_named fids)) (steady : Bool) where
  abbrev state : ServerState
  state = server_state t fids msize settings

  abbrev asked : Fid → Result (ℕ × Tree) ℕ
  asked f = new_file_of t f.ino name flags mode

  pub unknown_step : (f : ℕ) (e : HostError) → Err e ≡ ino_told (get fids n)
      → IsStep (lcreate n name flags mode gid) creates state state steady f f (Err e)
  unknown_step f e is =
      let none = by_unknown asked (get fids n) e is in
      subst (λ (e : HostError). IsStep (lcreate n name flags mode gid) creates state state steady f
      f (Err e)) (sym none.1)
      (step_refused (lcreate n name flags mode gid) creates state state steady f f EBADF
      (ap (lcreate_answer state n flags) none.0) kept refl refl)

  module _ (dir : ℕ) (known : Ok dir ≡ ino_told (get fids n)) (u : Tree) (f0 f1 : ℕ) where
    core_is : (r : Result (ℕ × Tree) ℕ) → new_file_of t dir name flags mode ≡ r
        → core state (lcreate n name flags mode gid) ≡ lcreate_answer state n flags r
    core_is r is =
        let f = by_known asked (get fids n) dir known in
        ap (lcreate_answer state n flags) (f.2 ∙ ap (λ (i : ℕ). new_file_of t i name flags mode) f.3
        ∙ is)

    abbrev with_file : ℕ → Fids
    with_file ino = insert fids n (opened (closed ino) flags)

    created_answer : (ino : ℕ) → new_file_of t dir name flags mode ≡ Ok (ino, u)
        → answer state (lcreate n name flags mode gid) ≡ pair
        (r_lcreate (qid_told (stat_of u ino)) 0)
        (server_state (keep (is_named (with_file ino)) u) (with_file ino) msize settings)
    created_answer ino is = ap (λ (x : Reply × ServerState). pair x.0 (kept_state x.1))
        (core_is (Ok (ino, u)) is)

    abbrev stayed : ServerState
    stayed = server_state u fids msize settings

    stayed_same : u ≡ t → stayed ≡ state
    stayed_same same j = server_state (same j) fids msize settings

    -- the new file stands in a linked directory, so nothing goes where the fid names the file
    all_kept : IsGoodTree t → (ino : ℕ) → new_file_of t dir name flags mode ≡ Ok (ino, u)
        → keep (is_named (with_file ino)) u ≡ u
    all_kept good ino is = by_refusal (new_file_refused (is_directory_at (body_at t.records dir))
        name flags) refl where
          by_refusal : (o : Option ℕ) → new_file_refused (is_directory_at (body_at t.records dir)) name
              flags ≡ o → keep (is_named (with_file ino)) u ≡ u
          by_refusal (Some e) other = absurd (let wrong : Err e ≡ Ok (ino, u) =
              sym (ap (λ o. unless_some o (create_of t dir name mode)) other) ∙ is in cc)
          by_refusal None free =
              let made : create_of t dir name mode ≡ Ok (ino, u) =
              sym (ap (λ o. unless_some o (create_of t dir name mode)) free) ∙ is in
              let fine = fine_name (is_directory_at (body_at t.records dir)) name flags (ap unless free)
              in
              let f = named fids n dir known in
              let linked = created_linked t good dir name mode ino u fine made in
              keep_same u (is_named (with_file ino))
              (created_kept t good dir name mode ino u fine made (is_named (with_file ino))
              (kept_without t fids n f.0 (opened (closed ino) flags) f.1
              (ap (is_linked t.records) f.2 ∙ linked) kept))

    part : IsGoodTree t → (u ≡ t) ⊎ ((ino : ℕ) × (new_file_of t dir name flags mode ≡ Ok (ino, u)))
        → IsPartDone state (lcreate n name flags mode gid) u
    part good = ⊎_elim (λ same. inl same) (λ made. inr
        (sym (all_kept good made.0 made.1) ∙ sym
        (ap (λ (x : Reply × ServerState). x.1.tree) (created_answer made.0 made.1))))

    pub failed_step : IsGoodTree t → (e : HostError) → Creates t u dir name flags mode (Err e)
        → Causes {A = Attr} steady f0 f1 (Err e)
        → IsStep (lcreate n name flags mode gid) creates state stayed steady f0 f1 (Err e)
    failed_step good (Errno e) o c = step_refused (lcreate n name flags mode gid) creates state
        stayed steady f0 f1 e (core_is (Err e) o.exactly.0) kept (stayed_same o.exactly.1) c.counted
    failed_step good Fault o c = record {
      answer =
          inr (c.counted.0.1, refl, refl, part good o.exactly);
      rises = c.counted.0.0;
      steadily =
          not_steady steady f0 f1 c.counted.1;
    }
    failed_step good NoMemory o c = step_no_memory (lcreate n name flags mode gid) creates state
        stayed steady f0 f1 (stayed_same o.exactly) c.counted

    pub created_step : (q : QidStruct) (a : Attr) → Creates t u dir name flags mode (Ok a)
        → qid_plain q ≡ attr_qid a → (fids' : Fids) → fids' ≡ with_file a.ino → (v : Tree)
        → v ≡ keep (is_named (with_file a.ino)) u → f1 ≡ f0
        → IsStep (lcreate n name flags mode gid) creates state (server_state v fids' msize settings)
        steady f0 f1 (Ok q)
    created_step q a o seen fids' is v swept count =
        step_ok (lcreate n name flags mode gid) creates state (server_state v fids' msize settings)
        steady f0 f1 q
        ((λ j. pair (r_lcreate ((seen ∙ sym (ap qid_told o.exactly.1)) j) 0)
        (server_state (swept j) (is j) msize settings))
        ∙ sym (created_answer a.ino o.exactly.0)) count
