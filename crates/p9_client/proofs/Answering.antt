-- What the machine answers to each message of the calls.
use Rattle.std.proofs.Common.{◌≡◌, ◌⊎◌, inl, inr, ⊎_elim, ℕ, ◌-◌, ◌<◌, ◌≤◌, Bool, true, false, cond}
use Rattle.std.proofs.Common.{not, ◌&&◌, ◌||◌, List, [], ◌∷◌, length, Result, Ok, Err, Some, None}
use Rattle.std.proofs.Common.{Option, refl, sym, ap, ◌∙◌, arith, nat_le, nat_lt}
use Rattle.std.proofs.lemmas.Bool.Decides.{nat_tests}
use Rattle.std.specs.Prelude.{◌==◌, is_some, min, slice_get, map as mapped}
use Rattle.std.specs.Ordering.{nat_cmp}
use Rattle.std.specs.FinMap as map
use Rattle.port_base.specs.Names.{name_fault}
use Rattle.port_base.specs.OpenFlags.{has_flag}
use Rattle.port_base.specs.declared.errno.TheConstants.{EBADF, ENFILE, EINVAL}
use Rattle.port_base.specs.declared.oflag.TheConstants.{O_TRUNC}
use Rattle.tree_model.specs.Tree.{Tree, is_linked}
use Rattle.tree_model.specs.Attributing.{set_len_of}
use Rattle.tree_model.specs.Finding.{find, root_of}
use Rattle.tree_model.specs.Attributes.{Qid, stat_of}
use Rattle.tree_model.specs.Opening.{open_check_of, read_of}
use Rattle.tree_model.specs.Settings.{shown_told}
use Rattle.tree_model.specs.declared.attributes.Attr.{Attr}
use Rattle.p9_tmsg.specs.Messages.Message.{attach as t_attach, clunk as t_clunk}
use Rattle.p9_tmsg.specs.Messages.Message.{getattr as t_getattr, lopen as t_lopen, read as t_read}
use Rattle.p9_tmsg.specs.Messages.Message.{walk as t_walk}
use Rattle.p9_wire.specs.declared.qid.Qid.{Qid as QidStruct}
use Rattle.p9_wire.specs.Qids.{qid_of}
use Rattle.p9_rmsg.specs.declared.message.Rmessage.{Rmessage}
use Rattle.p9_rmsg.specs.declared.message.Rmessage.TheVariants as rvariant
use Rattle.p9_rmsg.specs.declared.message.Rwalk.{Rwalk}
use Rattle.p9_rmsg.specs.Replies.{Reply, reply_of}
use Rattle.p9_rmsg.specs.Replies.Reply.{lerror as r_lerror, walk as r_walk}
use Rattle.p9_wire.specs.declared.protocol.TheConstants.{P9_MAXWELEM}
use Rattle.fid_model.specs.Fids.{ServerState, Fid, Fids, kept_state, IsGoodServer, closed}
use Rattle.fid_model.specs.Fids.{is_readable, fid_count, fid_weight}
use Rattle.p9_wire.specs.declared.protocol.TheConstants.{RREAD_HEADER_SIZE}
use Rattle.fid_model.specs.Answers.{answer, attach_core, attached, emptied_where, walk_core}
use Rattle.fid_model.specs.Answers.{walk_from, walk_answer, walk_names, walked_on, find_unless}
use Rattle.fid_model.specs.Answers.{getattr_by, getattr_reply, lopen_by, lopen_answer, opened}
use Rattle.fid_model.specs.Answers.{read_by, read_reply, clunk_by}
use Rattle.fid_model.specs.Handling.{Outcome, IsPartOfWalk}
use Rattle.fid_model.specs.Calls.{named, walk_one_told, attach_told, clunked}
use Rattle.fid_model.specs.Moments.{Untouched}
use Rattle.fid_model.proofs.Keeping.{kept_state_good, kept_state_kept}
use Rattle.fid_model.proofs.FidCounts.{fid_count-replaced}
use Rattle.fid_model.proofs.Moments.{same_state}
use Rattle.p9_client.specs.Asking.{IsUnfinished}
use Rattle.p9_client.specs.Views.{attach_view, walk_one_view, copy_view, open_view, attributes_view}
use Rattle.p9_client.specs.Views.{read_view, laid_out, attributes_told}
use Rattle.p9_client.specs.Opening.{copied_told, opened_by, opened_told, read_told}
use Rattle.p9_client.proofs.NewFids.{kept_state_new}
use Rattle.p9_client.proofs.Telling.{Tells}

abbrev pair : Reply → ServerState → Reply × ServerState
pair r s = (r, s)

abbrev seen_by : {A : Type 0} → (Reply → Option (Result A ℕ)) → Reply × ServerState
    → Option (Result A ℕ)
seen_by view x = view x.0

abbrev left_by : Reply × ServerState → ServerState
left_by x = kept_state x.1

-- ---- an attach to a server without fids

module _ (s : ServerState) (g : IsGoodServer s) (fid : ℕ) (none : s.fids ≡ map.empty) where
  no_fid : map.get s.fids fid ≡ None
  no_fid = ap (λ (m : Fids). map.get m fid) none ∙ map.get-empty {X = Fid} nat_cmp fid

  no_fids : map.len s.fids ≡ 0
  no_fids = ap (λ (m : Fids). map.len m) none ∙ map.len-empty nat_cmp Fid

  abbrev attached_if : Bool → Result ℕ ℕ → Reply × ServerState
  attached_if full root = cond full (pair (r_lerror ENFILE) s) (attached s fid root)

  abbrev told_if : Bool → Result ℕ ℕ → Result Qid ℕ × ServerState
  told_if full root = cond full (Err ENFILE, s) (named s fid root)

  core_is : attach_core s fid ≡ attached_if (nat_le s.settings.limit 0)
      (root_of s.tree s.settings.root)
  core_is =
      ap (λ (o : Option Fid). cond (is_some o) (pair (r_lerror EBADF) s)
      (attached_if (nat_le s.settings.limit (map.len s.fids)) (root_of s.tree s.settings.root)))
      no_fid
      ∙ ap (λ k. attached_if (nat_le s.settings.limit k) (root_of s.tree s.settings.root)) no_fids

  attach_seen : (full : Bool) (root : Result ℕ ℕ)
      → attach_view (attached_if full root).0 ≡ Some (told_if full root).0
  attach_seen true root = refl
  attach_seen false (Ok i) = refl
  attach_seen false (Err e) = refl

  attach_left : (full : Bool) (root : Result ℕ ℕ)
      → kept_state (attached_if full root).1 ≡ (told_if full root).1
  attach_left true root = kept_state_good s g
  attach_left false (Ok i) = kept_state_new s fid (closed i) g no_fid
  attach_left false (Err e) = kept_state_good s g

  attach_tree : (full : Bool) (root : Result ℕ ℕ) → (told_if full root).1.tree ≡ s.tree
  attach_tree true root = refl
  attach_tree false (Ok i) = refl
  attach_tree false (Err e) = refl

  pub attach_tells : (afid : ℕ) (uname aname : List ℕ) (n : ℕ)
      → Tells attach_view s (t_attach fid afid uname aname n) (attach_told s fid) Untouched
  attach_tells afid uname aname n = record {
    seen = ap (seen_by attach_view) core_is ∙ attach_seen (nat_le s.settings.limit 0)
        (root_of s.tree s.settings.root);
    state = ap left_by core_is ∙ attach_left (nat_le s.settings.limit 0)
        (root_of s.tree s.settings.root);
    whole = attach_tree (nat_le s.settings.limit 0) (root_of s.tree s.settings.root);
    hurt = λ r h. ap attach_view h;
    leaves = λ t h. h;
  }

-- ---- walks to a new fid

-- a walk by one name or none has no part
no_part : (s : ServerState) (fid : ℕ) (names : List (List ℕ)) (r : Reply) → length names ≤ 1
    → IsPartOfWalk s fid names r → ⊥
no_part s fid names (r_walk qids) few h = omega (arith, h.0, h.1)
no_part s fid names _ few h = h

-- the first qid of a walk's reply that was read, where such a reply has one
one_qid : (l : List QidStruct) (q : QidStruct) → slice_get l 0 ≡ Some q
    → (walk_one_view (r_walk (mapped qid_of l)) ≡ None → ⊥)
    → walk_one_view (r_walk (mapped qid_of l)) ≡ Some (Ok (qid_of q))
one_qid [] q at other = absurd (other refl)
one_qid (p ∷ []) q at other = let same : p ≡ q =
    cc in ap (λ (x : QidStruct). Some (Ok (qid_of x))) same
one_qid (p ∷ p' ∷ l) q at other = absurd (other refl)

pub first_qid : (x : Rmessage) (w : Rwalk) (qs : List QidStruct) (q : QidStruct)
    → x ≡ rvariant.Walk w → qs ≡ w.wqids.items → Some q ≡ slice_get qs 0
    → (walk_one_view (reply_of x) ≡ None → ⊥) → walk_one_view (reply_of x) ≡ Some (Ok (qid_of q))
first_qid x w qs q is items at other =
    let seen : walk_one_view (reply_of x) ≡ walk_one_view (r_walk (mapped qid_of w.wqids.items)) =
    ap (λ (y : Rmessage). walk_one_view (reply_of y)) is in
    seen ∙ one_qid w.wqids.items q (ap (λ (l : List QidStruct). slice_get l 0) (sym items) ∙ sym at)
    (λ none. other (seen ∙ none))

no_and : (b : Bool) → (b && false) ≡ false
no_and true = refl
no_and false = refl

module _ (s : ServerState) (g : IsGoodServer s) (fid newfid : ℕ) (f : Fid)
    (known : map.get s.fids fid ≡ Some f) (fresh : map.get s.fids newfid ≡ None)
    (below : map.len s.fids < s.settings.limit) where
  no_limit : nat_le s.settings.limit (map.len s.fids) ≡ false
  no_limit = grind (arith, nat_tests)

  abbrev walked : List (List ℕ) → Reply × ServerState
  walked names = cond (nat_lt P9_MAXWELEM (length names)) (pair (r_lerror EINVAL) s)
      (walk_answer s newfid (walk_names s.settings.casefold s.tree names f.ino))

  fresh_walk : (names : List (List ℕ)) → walk_core s fid newfid names ≡ walked names
  fresh_walk names =
      ap (λ (o : Option Fid). cond (not (newfid == fid) && is_some o) (pair (r_lerror EBADF) s)
      (walk_from s fid newfid names (map.get s.fids fid))) fresh
      ∙ ap (λ b. cond b (pair (r_lerror EBADF) s)
      (walk_from s fid newfid names (map.get s.fids fid))) (no_and (not (newfid == fid)))
      ∙ ap (walk_from s fid newfid names) known
      ∙ ap (λ b. cond (not (newfid == fid) && b) (pair (r_lerror ENFILE) s) (walked names)) no_limit
      ∙ ap (λ b. cond b (pair (r_lerror ENFILE) s) (walked names)) (no_and (not (newfid == fid)))

  pub copy_tells : Tells copy_view s (t_walk fid newfid []) (copied_told s f.ino newfid) Untouched
  copy_tells = record {
    seen = ap (seen_by copy_view) (fresh_walk []);
    state = ap left_by (fresh_walk []) ∙ kept_state_new s newfid (closed f.ino) g fresh;
    whole = refl;
    hurt = λ r h. ⊎_elim (λ is. ap copy_view is)
        (λ part. absurd (no_part s fid [] r (omega arith) part)) h;
    leaves = λ t h. h;
  }

  module _ (name : List ℕ) (good_name : name_fault name ≡ None) where
    abbrev stepped : Result ℕ ℕ → Reply × ServerState
    stepped found = walk_answer s newfid (walked_on s.tree (λ i. ([], Ok i)) found)

    one_walked : walk_core s fid newfid (name ∷ []) ≡ stepped
        (find s.settings.casefold s.tree f.ino name)
    one_walked = fresh_walk (name ∷ []) ∙ ap (λ o. stepped
        (find_unless o s.settings.casefold s.tree f.ino name)) good_name

    one_seen : (found : Result ℕ ℕ) → walk_one_view (stepped found).0 ≡ Some
        (named s newfid found).0
    one_seen (Ok i) = refl
    one_seen (Err e) = refl

    one_left : (found : Result ℕ ℕ) → kept_state (stepped found).1 ≡ (named s newfid found).1
    one_left (Ok i) = kept_state_new s newfid (closed i) g fresh
    one_left (Err e) = kept_state_good s g

    one_tree : (found : Result ℕ ℕ) → (named s newfid found).1.tree ≡ s.tree
    one_tree (Ok i) = refl
    one_tree (Err e) = refl

    pub walk_one_tells : Tells walk_one_view s (t_walk fid newfid (name ∷ []))
        (walk_one_told s f.ino newfid name) Untouched
    walk_one_tells = record {
      seen = ap (seen_by walk_one_view) one_walked
          ∙ one_seen (find s.settings.casefold s.tree f.ino name);
      state = ap left_by one_walked ∙ one_left (find s.settings.casefold s.tree f.ino name);
      whole = one_tree (find s.settings.casefold s.tree f.ino name);
      hurt = λ r h. ⊎_elim (λ is. ap walk_one_view is)
          (λ part. absurd (no_part s fid (name ∷ []) r (omega arith) part)) h;
      leaves = λ t h. h;
    }

-- ---- messages about one fid

module _ (s : ServerState) (g : IsGoodServer s) (fid : ℕ) (f : Fid)
    (known : map.get s.fids fid ≡ Some f) where
  shown_seen : (a : Result Attr ℕ) → attributes_view (getattr_reply s.settings a) ≡ Some
      (laid_out (shown_told s.settings a))
  shown_seen (Ok a) = refl
  shown_seen (Err e) = refl

  pub attributes_tell : (mask : ℕ) → Tells attributes_view s (t_getattr fid mask)
      (attributes_told s f.ino) Untouched
  attributes_tell mask = record {
    seen = ap (λ (o : Option Fid). attributes_view (getattr_by s o)) known
        ∙ shown_seen (stat_of s.tree f.ino);
    state = kept_state_good s g;
    whole = refl;
    hurt = λ r h. ap attributes_view h;
    leaves = λ t h. h;
  }

  pub clunk_done : (r : Reply) (s1 : ServerState) (f0 f1 : ℕ) → Outcome s (t_clunk fid) r s1 f0 f1
      → s1 ≡ clunked s fid
  clunk_done r s1 f0 f1 o = ⊎_elim (λ e. ap (λ (x : Reply × ServerState). x.1) e
      ∙ ap (λ (o : Option Fid). kept_state (clunk_by s fid o).1) known) (λ h. absurd h.1) o

  pub clunk_unfinished : (s1 : ServerState) (f0 f1 : ℕ) → IsUnfinished s (t_clunk fid) s1 f0 f1
      → (s1 ≡ s) ⊎ (s1 ≡ clunked s fid)
  clunk_unfinished s1 f0 f1 u = ⊎_elim (λ left. inl (same_state s s1 left.0 left.1))
      (λ o. inr (clunk_done o.0 s1 f0 f1 o.1)) u

  module _ (flags : ℕ) (whole : has_flag O_TRUNC flags ≡ false) where
    same_count : (i : ℕ) → fid_count (map.insert s.fids fid (opened f flags)) i ≡ fid_count s.fids i
    same_count i = let step = fid_count-replaced s.fids fid (opened f flags) f known i
        in let weight : fid_weight i (opened f flags) ≡ fid_weight i f =
        refl in omega (arith, step, weight)

    still_kept : kept_state (record s { fids = map.insert s.fids fid (opened f flags) }) ≡ record s
        { fids = map.insert s.fids fid (opened f flags) }
    still_kept = kept_state_kept (record s { fids = map.insert s.fids fid (opened f flags) })
        (λ i had. ap (λ k. is_linked s.tree.records i || nat_lt 0 k) (same_count i) ∙ g.kept i had)

    -- an open that empties nothing leaves the tree
    open_kept : Result (Unit {0}) ℕ → Result (Unit {0} × Tree) ℕ
    open_kept (Ok u) = Ok (tt, s.tree)
    open_kept (Err e) = Err e

    emptied_none : (r : Result (Unit {0}) ℕ) → emptied_where r s.tree f.ino flags ≡ open_kept r
    unfolding open_kept
    emptied_none (Ok u) = ap (λ b. cond b (set_len_of s.tree f.ino 0) (Ok (tt, s.tree))) whole
    emptied_none (Err e) = refl

    open_core : lopen_by s fid flags (map.get s.fids fid) ≡ lopen_answer s fid flags f
        (open_kept (open_check_of s.tree f.ino flags))
    open_core = ap (lopen_by s fid flags) known
        ∙ ap (lopen_answer s fid flags f) (emptied_none (open_check_of s.tree f.ino flags))

    open_seen : (r : Result (Unit {0}) ℕ) → open_view (lopen_answer s fid flags f (open_kept r)).0
        ≡ Some (opened_by s fid f flags r).0
    unfolding open_kept
    open_seen (Ok u) = refl
    open_seen (Err e) = refl

    open_left : (r : Result (Unit {0}) ℕ) → kept_state (lopen_answer s fid flags f (open_kept r)).1
        ≡ (opened_by s fid f flags r).1
    unfolding open_kept
    open_left (Ok u) = still_kept
    open_left (Err e) = kept_state_good s g

    open_tree : (r : Result (Unit {0}) ℕ) → (opened_by s fid f flags r).1.tree ≡ s.tree
    open_tree (Ok u) = refl
    open_tree (Err e) = refl

    open_state : (answer s (t_lopen fid flags)).1 ≡ (opened_told s fid f flags).1
    open_state = ap left_by open_core ∙ open_left (open_check_of s.tree f.ino flags)

    pub open_tells : Tells open_view s (t_lopen fid flags) (opened_told s fid f flags) Untouched
    open_tells = record {
      seen = ap (seen_by open_view) open_core ∙ open_seen (open_check_of s.tree f.ino flags);
      state = open_state;
      whole = open_tree (open_check_of s.tree f.ino flags);
      hurt = λ r h. ap open_view h;
      leaves = λ t h. ⊎_elim (λ e. e) (λ e. e ∙ ap (λ (x : ServerState). x.tree) open_state
          ∙ open_tree (open_check_of s.tree f.ino flags)) h;
    }

  module _ (offset count : ℕ) (reads : is_readable f.open_state ≡ true) where
    read_seen : (r : Result (List ℕ) ℕ) → read_view (read_reply r) ≡ Some r
    read_seen (Ok bytes) = refl
    read_seen (Err e) = refl

    pub read_tells : Tells read_view s (t_read fid offset count) (read_told s f.ino offset count)
        Untouched
    read_tells = record {
      seen =
          ap (λ (o : Option Fid). read_view (read_by s offset count o)) known
          ∙ ap (λ b. read_view (cond b (read_reply
          (read_of s.tree f.ino offset (min count (s.msize - RREAD_HEADER_SIZE))))
          (r_lerror EBADF))) reads
          ∙ read_seen (read_of s.tree f.ino offset (min count (s.msize - RREAD_HEADER_SIZE)));
      state = kept_state_good s g;
      whole = refl;
      hurt = λ r h. ap read_view h;
      leaves = λ t h. h;
    }
