-- Directories of the small server that are listed.
use Rattle.std.proofs.Common.{◌≡◌, ℕ, List, [], ◌∷◌, ◌++◌, ap, ◌∙◌, Option, Some}
use Rattle.std.proofs.Common.{Ok, Err, cond, not, false}
use Rattle.std.specs.FinMap.{get}
use Rattle.port_base.specs.declared.errno.TheConstants.{EBADF, ENOTDIR}
use Rattle.tree_model.specs.Tree.{Body, is_directory_at}
use Rattle.tree_model.specs.Reading.{Entry}
use Rattle.tree_model.specs.Pages.{front_within}
use Rattle.tree_model.specs.Samples.{hello}
use Rattle.tree_model.proofs.Maps.{inserted}
use Rattle.tree_model.proofs.PageSampling.{past_none, past_first}
use Rattle.tree_model.proofs.Sampling.{body_of_file, body_of_top}
use Rattle.p9_tmsg.specs.Messages.Message.{readdir}
use Rattle.p9_rmsg.specs.Replies.{Reply}
use Rattle.p9_rmsg.specs.Replies.Reply.{lerror, readdir as r_readdir}
use Rattle.fid_model.specs.Fids.{Fid, ServerState, closed, is_open}
use Rattle.fid_model.specs.Fids.OpenState.{Opened}
use Rattle.fid_model.specs.FidCalls.{by_fid, told_answer}
use Rattle.fid_model.specs.Listings.{entry_size, entries_spelling, page_by}
use Rattle.fid_model.specs.Answers.{core}
use Rattle.fid_model.specs.Samples.{server, with_listing, with_closed}
use Rattle.fid_model.proofs.Sampling.{seven, nine}

-- ---- by the fid

abbrev told : ServerState → ℕ → ℕ → Option Fid → Reply × ServerState
told s offset count o = told_answer s r_readdir (by_fid (page_by s offset count) o)

-- ---- by what it names, and the entries above the offset

abbrev listed : ServerState → Fid → ℕ → Option Body → List Entry → Reply × ServerState
listed s f room o es = told_answer s r_readdir
    (cond (not (is_directory_at o)) (Err ENOTDIR)
    (cond (is_open f.open_state) (Ok (entries_spelling (front_within entry_size room es)))
    (Err EBADF)))

abbrev pub open_top : Fid
open_top = record { ino = 1; open_state = Opened 0 false }

pub eight_listing : get with_listing.fids 8 ≡ Some open_top
eight_listing = inserted server.fids 8 open_top

eight_closed : get with_closed.fids 8 ≡ Some (closed 2)
eight_closed = inserted server.fids 8 (closed 2)

-- `hello`: its qid, the offset 1, the type of a file, and its name
abbrev pub hello_entry : List ℕ
hello_entry =
    (0 ∷ 7 ∷ 0 ∷ 0 ∷ 0 ∷ 2 ∷ 0 ∷ 0 ∷ 0 ∷ 0 ∷ 0 ∷ 0 ∷ 0 ∷ [])
    ++ ((1 ∷ 0 ∷ 0 ∷ 0 ∷ 0 ∷ 0 ∷ 0 ∷ 0 ∷ []) ++ ((8 ∷ 5 ∷ 0 ∷ []) ++ hello))

pub listed_whole : core with_listing (readdir 8 0 29) ≡ (r_readdir hello_entry, with_listing)
listed_whole = ap (told with_listing 0 29) eight_listing
    ∙ (λ j. listed with_listing open_top 29 (body_of_top j) (past_none j))

pub listed_short : core with_listing (readdir 8 0 28) ≡ (r_readdir [], with_listing)
listed_short = ap (told with_listing 0 28) eight_listing
    ∙ (λ j. listed with_listing open_top 28 (body_of_top j) (past_none j))

pub listed_past : core with_listing (readdir 8 1 256) ≡ (r_readdir [], with_listing)
listed_past = ap (told with_listing 1 256) eight_listing
    ∙ (λ j. listed with_listing open_top 245 (body_of_top j) (past_first j))

pub listed_closed : core server (readdir 7 0 256) ≡ (lerror EBADF, server)
listed_closed = ap (told server 0 256) seven
    ∙ ap (λ o. listed server (closed 1) 0 o []) body_of_top

pub listed_file : core with_closed (readdir 8 0 256) ≡ (lerror ENOTDIR, with_closed)
listed_file = ap (told with_closed 0 256) eight_closed
    ∙ ap (λ o. listed with_closed (closed 2) 0 o []) body_of_file

pub listed_nowhere : core server (readdir 9 0 256) ≡ (lerror EBADF, server)
listed_nowhere = ap (told server 0 256) nine
