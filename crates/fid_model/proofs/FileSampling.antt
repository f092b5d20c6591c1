-- Files of the small server that are emptied, made, written and given attributes.
use Rattle.std.proofs.Common.{◌≡◌, ℕ, Bool, true, false, cond, List, ap, ◌∙◌, Option}
use Rattle.std.proofs.Common.{Some, None, Result, arith}
use Rattle.std.specs.Prelude.{codes, option_map, ◌==◌, [], ◌∷◌}
use Rattle.std.specs.FinMap.{get, insert}
use Rattle.port_base.specs.declared.errno.TheConstants.{EBADF, EEXIST, EINVAL, EISDIR, ENOTDIR}
use Rattle.port_base.specs.Names.{name_fault}
use Rattle.port_base.proofs.ByComputing.{name_word, name_three_dots}
use Rattle.tree_model.specs.Tree.{Tree, Record, Body, is_directory_at}
use Rattle.tree_model.specs.Making.{changed, change, file_record, joined_by, unless_refused}
use Rattle.tree_model.specs.Attributes.{attr_or_missing}
use Rattle.tree_model.specs.Attributing.{len_refused, overwritten_at, refused_at, refused_for_link}
use Rattle.tree_model.specs.Attributing.{remoded, resized, rewritten_at, with_changed}
use Rattle.tree_model.specs.Renaming.{first_of}
use Rattle.port_base.specs.OpenFlags.{access}
use Rattle.tree_model.specs.Creating.{create_of, empty_file, stamped, with_new}
use Rattle.tree_model.specs.Samples.{born, hello, sample, world}
use Rattle.tree_model.proofs.Maps.{inserted, insert_keeps}
use Rattle.tree_model.proofs.Sampling.{body_of_file, body_of_top, directory, file_at, made_in_top}
use Rattle.tree_model.proofs.Sampling.{open_file, top_at, write_file}
use Rattle.p9_tmsg.specs.Messages.Message.{lcreate, lopen, setattr, write}
use Rattle.p9_rmsg.specs.Replies.{Reply}
use Rattle.p9_rmsg.specs.Replies.Reply.{lcreate as created, lerror, lopen as was_opened}
use Rattle.p9_rmsg.specs.Replies.Reply.{setattr as were_set, write as written}
use Rattle.fid_model.specs.Fids.{Fid, ServerState, closed, is_writable}
use Rattle.fid_model.specs.Fids.OpenState.{Opened}
use Rattle.fid_model.specs.FidCalls.{by_fid, by_open_fid}
use Rattle.fid_model.specs.TreeCalls.{tree_answer, unless_some}
use Rattle.fid_model.specs.Files.{new_file_of, new_file_refused, size_told, write_place}
use Rattle.tree_model.specs.AttributeSteps.{run_on, resize_step, run, size_refused, step_unless}
use Rattle.fid_model.specs.Setattr.{Changes, changes}
use Rattle.fid_model.specs.Answers.{core, emptied_where, lcreate_answer, lopen_answer, lopen_by}
use Rattle.fid_model.specs.Answers.{qid_told, setattr_by, setattr_reply}
use Rattle.fid_model.specs.Samples.{server, with_open, with_writer, file_qid}
use Rattle.fid_model.proofs.Sampling.{seven, nine, eight_open, opened_file}
use Rattle.tree_model.specs.Attributing.{set_len_of, write_of}

abbrev Answer : Type 0
Answer = Reply × ServerState

-- ---- emptied

abbrev empty_tree : Tree
empty_tree = with_changed (rewritten_at born (resized 0)) 2 sample

abbrev empty_record : Record
empty_record = rewritten_at born (resized 0) (file_record born world)

empty_at : get empty_tree.records 2 ≡ Some empty_record
empty_at = ap (λ o. get (changed (rewritten_at born (resized 0)) o sample.records 2) 2) file_at
    ∙ inserted sample.records 2 empty_record

pub file_emptied : core with_open (lopen 8 513)
    ≡ (
      was_opened file_qid 0,
      record with_open {
        tree = empty_tree;
        fids = insert with_open.fids 8
            (record { ino = 2; open_state = Opened 1 false });
      },
    )
file_emptied =
    ap (lopen_by with_open 8 513) eight_open
    ∙ ap (λ r. lopen_answer with_open 8 513 opened_file (emptied_where r sample 2 513))
    (open_file 513)
    ∙ ap (λ o. lopen_answer with_open 8 513 opened_file
    (unless_refused (refused_at (len_refused 8 0) o) tt empty_tree)) body_of_file
    ∙ ap (λ o. (
      was_opened (qid_told (attr_or_missing 2 o)) 0,
      record with_open {
        tree = empty_tree;
        fids = insert with_open.fids 8
            (record { ino = 2; open_state = Opened 1 false });
      },
    )) empty_at

-- ---- made

abbrev asked : List ℕ → ℕ → Fid → Result (ℕ × Tree) ℕ
asked name flags f = new_file_of sample f.ino name flags 420

-- by the body that the fid names
abbrev made_in : ServerState → ℕ → ℕ → List ℕ → ℕ → Option Body → Answer
made_in s fid dir name flags o = lcreate_answer s fid flags
    (unless_some (new_file_refused (is_directory_at o) name flags) (create_of sample dir name 420))

-- by the fault of the name
abbrev made_by : List ℕ → ℕ → Option ℕ → Answer
made_by name flags fault = lcreate_answer server 7 flags
    (unless_some (first_of fault (cond (access flags == 3) (Some EINVAL) None))
    (create_of sample 1 name 420))

in_top : (name : List ℕ) (flags : ℕ) → core server (lcreate 7 name flags 420 0) ≡ made_by name flags
    (name_fault name)
in_top name flags = ap (λ o. lcreate_answer server 7 flags (by_fid (asked name flags) o)) seven
    ∙ ap (made_in server 7 1 name flags) body_of_top

abbrev dots : List ℕ
dots = codes "..."

abbrev new_record : Record
new_record = empty_file born 420

abbrev with_file : Tree
with_file = with_new sample 1 dots new_record

abbrev joined : Record
joined = joined_by dots 3 directory

records_are : with_file.records ≡ insert (insert (insert sample.records 3 new_record) 1 joined) 1
    (stamped born joined)
records_are =
    ap (λ o. change (stamped born) (changed (joined_by dots 3) o
    (insert sample.records 3 new_record) 1) 1)
    (insert_keeps sample.records 3 new_record 1 (omega arith) ∙ top_at)
    ∙ ap (λ o. changed (stamped born) o (insert (insert sample.records 3 new_record) 1 joined) 1)
    (inserted (insert sample.records 3 new_record) 1 joined)

new_at : get with_file.records 3 ≡ Some new_record
new_at =
    ap (λ rs. get rs 3) records_are ∙ insert_keeps
    (insert (insert sample.records 3 new_record) 1 joined) 1 (stamped born joined) 3
    (omega arith)
    ∙ insert_keeps (insert sample.records 3 new_record) 1 joined 3 (omega arith)
    ∙ inserted sample.records 3 new_record

pub file_made : core server (lcreate 7 dots 1 420 0)
    ≡ (
      created (0, (7, 3)) 0,
      record server {
        tree = with_file;
        fids =
            insert server.fids 7 (record { ino = 3; open_state = Opened 1 false });
      },
    )
file_made =
    in_top dots 1 ∙ ap (made_by dots 1) name_three_dots
    ∙ ap (lcreate_answer server 7 1) (made_in_top 3 dots with_file)
    ∙ ap (λ o. (
      created (qid_told (attr_or_missing 3 o)) 0,
      record server {
        tree = with_file;
        fids = insert server.fids 7
            (record { ino = 3; open_state = Opened 1 false });
      },
    )) new_at

pub made_in_file : core with_open (lcreate 8 (codes "..") 3 420 0) ≡ (lerror ENOTDIR, with_open)
made_in_file = ap (λ o. lcreate_answer with_open 8 3 (by_fid (asked (codes "..") 3) o)) eight_open
    ∙ ap (made_in with_open 8 2 (codes "..") 3) body_of_file

pub made_above : core server (lcreate 7 (codes "..") 0 420 0) ≡ (lerror EINVAL, server)
made_above = in_top (codes "..") 0

pub made_for_nothing : core server (lcreate 7 dots 3 420 0) ≡ (lerror EINVAL, server)
made_for_nothing = in_top dots 3 ∙ ap (made_by dots 3) name_three_dots

pub made_again : core server (lcreate 7 hello 0 420 0) ≡ (lerror EEXIST, server)
made_again = in_top hello 0 ∙ ap (made_by hello 0) name_word
    ∙ ap (lcreate_answer server 7 0) (made_in_top 3 hello (with_new sample 1 hello new_record))

pub made_nowhere : core server (lcreate 9 (codes "..") 3 420 0) ≡ (lerror EBADF, server)
made_nowhere = ap (λ o. lcreate_answer server 9 3 (by_fid (asked (codes "..") 3) o)) nine

-- ---- written

abbrev writer : Bool → Fid
writer append = record { ino = 2; open_state = Opened 1 append }

abbrev written_by : ServerState → ℕ → List ℕ → Option Fid → Answer
written_by s offset bytes o = tree_answer s written
    (by_open_fid is_writable (λ f. write_of sample f.ino (write_place sample f offset) bytes) o)

eight_writes : (append : Bool) → get (with_writer append).fids 8 ≡ Some (writer append)
eight_writes append = inserted server.fids 8 (writer append)

pub written_within : core (with_writer false) (write 8 1 (codes "xy"))
    ≡ (
      written 2,
      record (with_writer false) {
        tree =
            with_changed (overwritten_at born 1 (codes "xy")) 2 sample;
      },
    )
written_within = ap (written_by (with_writer false) 1 (codes "xy")) (eight_writes false)
    ∙ ap (tree_answer (with_writer false) written) (write_file 1 (codes "xy"))

pub written_behind : core (with_writer true) (write 8 1 (codes "xy"))
    ≡ (
      written 2,
      record (with_writer true) {
        tree =
            with_changed (overwritten_at born 5 (codes "xy")) 2 sample;
      },
    )
written_behind =
    ap (written_by (with_writer true) 1 (codes "xy")) (eight_writes true)
    ∙ ap (λ o. tree_answer (with_writer true) written
    (write_of sample 2 (size_told (attr_or_missing 2 o)) (codes "xy"))) file_at
    ∙ ap (tree_answer (with_writer true) written) (write_file 5 (codes "xy"))

pub written_part : core (with_writer false) (write 8 7 (codes "xy"))
    ≡ (
      written 1,
      record (with_writer false) {
        tree =
            with_changed (overwritten_at born 7 (codes "x")) 2 sample;
      },
    )
written_part = ap (written_by (with_writer false) 7 (codes "xy")) (eight_writes false)
    ∙ ap (tree_answer (with_writer false) written) (write_file 7 (codes "xy"))

pub written_read_only : core with_open (write 8 1 (codes "xy")) ≡ (lerror EBADF, with_open)
written_read_only = ap (written_by with_open 1 (codes "xy")) eight_open

pub written_closed : core server (write 7 1 (codes "xy")) ≡ (lerror EBADF, server)
written_closed = ap (written_by server 1 (codes "xy")) seven

-- ---- attributes

abbrev moded : Tree
moded = with_changed (remoded 448 born) 1 sample

abbrev both : Changes
both = changes 9 448 0 0 0 0 0 0 0

moded_at : get moded.records 1 ≡ Some (remoded 448 born directory)
moded_at = ap (λ o. get (changed (remoded 448 born) o sample.records 1) 1) top_at
    ∙ inserted sample.records 1 (remoded 448 born directory)

abbrev ran : Result (Unit {0} × Tree) ℕ → Result (Unit {0}) ℕ × Tree
ran step = run_on step sample (run (resize_step false 1 0 ∷ []))

abbrev answered : Result (Unit {0}) ℕ × Tree → Answer
answered x = (setattr_reply x.0, record server { tree = x.1 })

pub mode_set_alone : core server (setattr 7 9 448 0 0 0 0 0 0 0)
    ≡ (lerror EISDIR, record server { tree = moded })
mode_set_alone =
    ap (setattr_by server both) seven
    ∙ ap (λ o. answered (ran (unless_refused (refused_at refused_for_link o) tt moded))) body_of_top
    ∙ ap (λ o. answered (run_on (step_unless (refused_at (size_refused false)
    (option_map (λ (r : Record). r.body) o)) (set_len_of moded 1 0)) moded (run []))) moded_at

pub nothing_set : core server (setattr 7 0 448 0 0 0 0 0 0 0) ≡ (were_set, server)
nothing_set = ap (setattr_by server (changes 0 448 0 0 0 0 0 0 0)) seven

pub set_nowhere : core server (setattr 9 9 448 0 0 0 0 0 0 0) ≡ (lerror EBADF, server)
set_nowhere = ap (setattr_by server both) nine
