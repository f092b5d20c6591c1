-- The fid machine on a small server: its answers follow by computation from what its maps have.
use Rattle.std.proofs.Common.{◌≡◌, ℕ, ◌+◌, Bool, true, false, cond, List, [], ◌∷◌, refl, sym, ap}
use Rattle.std.proofs.Common.{◌∙◌, subst, inl, inr, Option, Some, None, Result, Ok, Err, arith}
use Rattle.std.specs.Prelude.{codes, is_some, nat_le, option_map, MatchResult}
use Rattle.std.specs.Ordering.{nat_cmp}
use Rattle.std.specs.Cmp.{nat_cmp_total}
use Rattle.std.specs.FinMap.{get, insert, remove, empty, len, len-insert, len-empty, get-empty}
use Rattle.port_base.specs.declared.errno.TheConstants.{EBADF, EINVAL, EISDIR, ENFILE, ENOENT}
use Rattle.port_base.specs.declared.errno.TheConstants.{ENOTDIR}
use Rattle.port_base.proofs.ByComputing.{name_word, name_three_dots}
use Rattle.tree_model.specs.Finding.{find, root_of}
use Rattle.tree_model.specs.Tree.{Tree, Record, Body, body_at}
use Rattle.tree_model.specs.Making.{unless_refused}
use Rattle.tree_model.specs.Attributing.{with_changed, remoded, refused_at, refused_for_link}
use Rattle.tree_model.specs.Attributes.{attr_or_missing}
use Rattle.tree_model.specs.Samples.{born, hello, sample}
use Rattle.tree_model.proofs.Maps.{inserted, insert_keeps}
use Rattle.tree_model.proofs.Sampling.{looked_up, directory, top_at, file_at, found, open_top}
use Rattle.tree_model.proofs.Sampling.{read_file}
use Rattle.tree_model.proofs.Telling.{root_top}
use Rattle.p9_tmsg.specs.Messages.Message.{attach as t_attach, clunk as t_clunk}
use Rattle.p9_tmsg.specs.Messages.Message.{getattr as t_getattr, lopen as t_lopen, read as t_read}
use Rattle.p9_tmsg.specs.Messages.Message.{setattr as t_setattr, walk as t_walk}
use Rattle.p9_rmsg.specs.Replies.{Reply}
use Rattle.p9_rmsg.specs.Replies.Reply.{attach as r_attach, clunk as r_clunk, lerror as r_lerror}
use Rattle.p9_rmsg.specs.Replies.Reply.{lopen as r_lopen, read as r_read, walk as r_walk}
use Rattle.fid_model.specs.Fids.{Fid, ServerState, closed}
use Rattle.fid_model.specs.Fids.OpenState.{Opened}
use Rattle.fid_model.specs.Answers.{core, qid_at, qid_told, attached, Walked, walked_on, walk_names}
use Rattle.fid_model.specs.Answers.{walk_answer, walk_from, find_unless, emptied_where}
use Rattle.fid_model.specs.Answers.{lopen_answer, lopen_by, read_by, read_reply, clunk_by}
use Rattle.fid_model.specs.Answers.{getattr_by}
use Rattle.tree_model.specs.AttributeSteps.{IsAfterFront, resize_step}
use Rattle.fid_model.specs.Setattr.{changes, steps_at}
use Rattle.fid_model.specs.Parts.{IsPartDone}
use Rattle.fid_model.specs.Samples.{server, with_open, top_qid, file_qid}

-- ---- the tree

not_found : find false sample 1 (codes "...") ≡ Err ENOENT
not_found = ap (looked_up false (codes "...")) top_at

in_file : find false sample 2 hello ≡ Err ENOTDIR
in_file = ap (looked_up false hello) file_at

pub qid_of_top : qid_at sample 1 ≡ top_qid
qid_of_top = ap (λ o. qid_told (attr_or_missing 1 o)) top_at

pub qid_of_file : qid_at sample 2 ≡ file_qid
qid_of_file = ap (λ o. qid_told (attr_or_missing 2 o)) file_at

-- ---- the fids

pub seven : get server.fids 7 ≡ Some (closed 1)
seven = inserted empty 7 (closed 1)

none_of : (k : ℕ) → (k ≡ 7 → ⊥) → get server.fids k ≡ None
none_of k other = insert_keeps empty 7 (closed 1) k other ∙ get-empty {X = Fid} nat_cmp k

pub eight : get server.fids 8 ≡ None
eight = none_of 8 (λ h. absurd (omega (arith, h)))

pub nine : get server.fids 9 ≡ None
nine = none_of 9 (λ h. absurd (omega (arith, h)))

abbrev pub opened_file : Fid
opened_file = record { ino = 2; open_state = Opened 0 false }

pub eight_open : get with_open.fids 8 ≡ Some opened_file
eight_open = inserted server.fids 8 opened_file

pub seven_with_open : get with_open.fids 7 ≡ Some (closed 1)
seven_with_open = insert_keeps server.fids 8 opened_file 7 (λ h. absurd (omega (arith, h))) ∙ seven

pub nine_with_open : get with_open.fids 9 ≡ None
nine_with_open = insert_keeps server.fids 8 opened_file 9 (λ h. absurd (omega (arith, h))) ∙ nine

one_fid : len server.fids ≡ 1
one_fid =
    len-insert nat_cmp_total empty 7 (closed 1)
    ∙ ap (λ (o : Option Fid). cond (is_some o) (len (empty {X = Fid} {R = nat_cmp}))
    (len (empty {X = Fid} {R = nat_cmp}) + 1)) (get-empty {X = Fid} nat_cmp 7)
    ∙ ap (λ k. k + 1) (len-empty nat_cmp Fid)

two_fids : len with_open.fids ≡ 2
two_fids =
    len-insert nat_cmp_total server.fids 8 opened_file
    ∙ ap (λ (o : Option Fid). cond (is_some o) (len server.fids) (len server.fids + 1)) eight
    ∙ ap (λ k. k + 1) one_fid

pub room : nat_le 2 (len server.fids) ≡ false
room = ap (nat_le 2) one_fid

pub no_room : nat_le 2 (len with_open.fids) ≡ true
no_room = ap (nat_le 2) two_fids

abbrev Answer : Type 0
Answer = Reply × ServerState

-- ---- attach

abbrev attach_from : ServerState → ℕ → Option Fid → Bool → Answer
attach_from s fid o full = cond (is_some o) (r_lerror EBADF, s)
    (cond full (r_lerror ENFILE, s) (attached s fid (root_of s.tree s.settings.root)))

pub attach_new : core server (t_attach 8 4294967295 [] [] 0)
    ≡ (r_attach top_qid, record server { fids = insert server.fids 8 (closed 1) })
attach_new =
    ap (λ o. attach_from server 8 o (nat_le 2 (len server.fids))) eight
    ∙ ap (attach_from server 8 None) room
    ∙ ap (attached server 8) root_top ∙ ap (λ q.
    (r_attach q, record server { fids = insert server.fids 8 (closed 1) })) qid_of_top

pub attach_used : core server (t_attach 7 4294967295 [] [] 0) ≡ (r_lerror EBADF, server)
attach_used = ap (λ o. attach_from server 7 o (nat_le 2 (len server.fids))) seven

pub attach_full : core with_open (t_attach 9 4294967295 [] [] 0) ≡ (r_lerror ENFILE, with_open)
attach_full = ap (λ o. attach_from with_open 9 o (nat_le 2 (len with_open.fids))) nine_with_open
    ∙ ap (attach_from with_open 9 None) no_room

-- ---- walk

abbrev walk_by : ℕ → List (List ℕ) → Option Fid → Option Fid → Answer
walk_by fid names taken from = cond (is_some taken) (r_lerror EBADF, server)
    (walk_from server fid 8 names from)

-- few names from the top directory to the free fid 8
abbrev walk_at : List (List ℕ) → Bool → Answer
walk_at names full = cond full (r_lerror ENFILE, server)
    (walk_answer server 8 (walk_names false sample names 1))

abbrev stepped : Result ℕ ℕ → List (List ℕ) → Walked
stepped told names = walked_on sample (walk_names false sample names) told

one_found : (names : List (List ℕ)) → walk_names false sample (hello ∷ names) 1 ≡ stepped (Ok 2)
    names
one_found names = ap (λ (o : Option ℕ). stepped (find_unless o false sample 1 hello) names)
    name_word ∙ ap (λ told. stepped told names) found

pub walk_found : core server (t_walk 7 8 (hello ∷ []))
    ≡ (r_walk (file_qid ∷ []), record server { fids = insert server.fids 8 (closed 2) })
walk_found =
    ap (λ o. walk_by 7 (hello ∷ []) o (get server.fids 7)) eight
    ∙ ap (walk_by 7 (hello ∷ []) None) seven ∙ ap (walk_at (hello ∷ [])) room
    ∙ ap (walk_answer server 8) (one_found [])
    ∙ ap (λ q. (r_walk (q ∷ []), record server { fids = insert server.fids 8 (closed 2) }))
    qid_of_file

pub walk_copied : core server (t_walk 7 8 [])
    ≡ (r_walk [], record server { fids = insert server.fids 8 (closed 1) })
walk_copied = ap (λ o. walk_by 7 [] o (get server.fids 7)) eight ∙ ap (walk_by 7 [] None) seven
    ∙ ap (walk_at []) room

none_below : walk_names false sample (hello ∷ []) 2 ≡ ([], Err ENOTDIR)
none_below = ap (λ (o : Option ℕ). stepped (find_unless o false sample 2 hello) []) name_word
    ∙ ap (λ told. stepped told []) in_file

pub walk_part : core server (t_walk 7 8 (hello ∷ hello ∷ [])) ≡ (r_walk (file_qid ∷ []), server)
walk_part =
    ap (λ o. walk_by 7 (hello ∷ hello ∷ []) o (get server.fids 7)) eight
    ∙ ap (walk_by 7 (hello ∷ hello ∷ []) None) seven ∙ ap (walk_at (hello ∷ hello ∷ [])) room
    ∙ ap (walk_answer server 8) (one_found (hello ∷ []))
    ∙ ap (λ (w : Walked). walk_answer server 8 (qid_at sample 2 ∷ w.0, w.1)) none_below
    ∙ ap (λ q. (r_walk (q ∷ []), server)) qid_of_file

pub walk_missing : core server (t_walk 7 8 (codes "..." ∷ [])) ≡ (r_lerror ENOENT, server)
walk_missing =
    ap (λ o. walk_by 7 (codes "..." ∷ []) o (get server.fids 7)) eight
    ∙ ap (walk_by 7 (codes "..." ∷ []) None) seven ∙ ap (walk_at (codes "..." ∷ [])) room
    ∙ ap (λ (o : Option ℕ). walk_answer server 8
    (stepped (find_unless o false sample 1 (codes "...")) [])) name_three_dots
    ∙ ap (λ told. walk_answer server 8 (stepped told [])) not_found

pub walk_above : core server (t_walk 7 8 (codes ".." ∷ [])) ≡ (r_lerror EINVAL, server)
walk_above = ap (λ o. walk_by 7 (codes ".." ∷ []) o (get server.fids 7)) eight
    ∙ ap (walk_by 7 (codes ".." ∷ []) None) seven ∙ ap (walk_at (codes ".." ∷ [])) room

pub walk_unknown : core server (t_walk 9 8 []) ≡ (r_lerror EBADF, server)
walk_unknown = ap (λ o. walk_by 9 [] o (get server.fids 9)) eight ∙ ap (walk_by 9 [] None) nine

-- ---- open, read, clunk

abbrev opened_top : ℕ → Result (Unit {0}) ℕ → Answer
opened_top flags told = lopen_answer server 7 flags (closed 1) (emptied_where told sample 1 flags)

pub open_read : core server (t_lopen 7 0) ≡ (
  r_lopen top_qid 0,
  record server
      { fids = insert server.fids 7 (record { ino = 1; open_state = Opened 0 false }) },
)
open_read =
    ap (lopen_by server 7 0) seven ∙ ap (opened_top 0) (open_top 0)
    ∙ ap (λ q. (
      r_lopen q 0,
      record server {
        fids =
            insert server.fids 7 (record { ino = 1; open_state = Opened 0 false });
      },
    )) qid_of_top

pub open_written : core server (t_lopen 7 1) ≡ (r_lerror EISDIR, server)
open_written = ap (lopen_by server 7 1) seven ∙ ap (opened_top 1) (open_top 1)

pub open_emptied : core server (t_lopen 7 512) ≡ (r_lerror EISDIR, server)
open_emptied = ap (lopen_by server 7 512) seven ∙ ap (opened_top 512) (open_top 512)

pub open_unknown : core server (t_lopen 9 0) ≡ (r_lerror EBADF, server)
open_unknown = ap (lopen_by server 9 0) nine

pub read_part : core with_open (t_read 8 1 3) ≡ (r_read (codes "orl"), with_open)
read_part = ap (λ o. (read_by with_open 1 3 o, with_open)) eight_open
    ∙ ap (λ told. (read_reply told, with_open)) (read_file 1 3)

abbrev small : ServerState
small = record with_open { msize = 13 }

pub read_small : (core small (t_read 8 0 8)).0 ≡ r_read (codes "wo")
read_small = ap (read_by small 0 8) eight_open ∙ ap read_reply (read_file 0 2)

pub read_closed : core server (t_read 7 0 8) ≡ (r_lerror EBADF, server)
read_closed = ap (λ o. (read_by server 0 8 o, server)) seven

pub clunk_known : core with_open (t_clunk 8) ≡ (
  r_clunk,
  record with_open
      { fids = remove with_open.fids 8 },
)
clunk_known = ap (clunk_by with_open 8) eight_open

pub clunk_unknown : core server (t_clunk 9) ≡ (r_lerror EBADF, server)
clunk_unknown = ap (clunk_by server 9) nine

pub getattr_unknown : core server (t_getattr 9 0) ≡ (r_lerror EBADF, server)
getattr_unknown = ap (λ o. (getattr_by server o, server)) nine

-- ---- what a fault leaves of a Tsetattr

body_of_top : body_at sample.records 1 ≡ Some directory.body
body_of_top = ap (option_map (λ (r : Record). r.body)) top_at

abbrev new_mode : Tree
new_mode = with_changed (remoded 448 born) 1 sample

pub mode_done : IsPartDone server (t_setattr 7 9 448 0 0 0 0 0 0 0) new_mode
mode_done =
    let c = changes 9 448 0 0 0 0 0 0 0 in
    subst (λ (o : Option Fid). IsAfterFront (steps_at c o) sample new_mode) (sym seven)
    (inr (subst (λ (o : Option Body). MatchResult
    (unless_refused (refused_at refused_for_link o) (tt {0}) new_mode)
    (λ done. IsAfterFront (resize_step false 1 0 ∷ []) done.1 new_mode) (λ e. ⊥))
    (sym body_of_top) (inl refl)))
