-- Opens, reads and listings on a small server: they follow by computation from what its tree has.
use Rattle.std.proofs.Common.{◌≡◌, ℕ, not, false, cond, ap, ◌∙◌, Option, Result, Ok, Err, List, []}
use Rattle.std.proofs.Common.{◌∷◌}
use Rattle.std.specs.Prelude.{codes, map as each}
use Rattle.std.specs.FinMap.{insert}
use Rattle.port_base.specs.declared.errno.TheConstants.{EISDIR, ENOTDIR}
use Rattle.tree_model.specs.Pages.{front_within}
use Rattle.tree_model.specs.Reading.{Entry as Listed}
use Rattle.tree_model.specs.Samples.{hello}
use Rattle.tree_model.specs.Tree.{Body, is_directory_at}
use Rattle.tree_model.proofs.PageSampling.{past_none}
use Rattle.tree_model.proofs.Sampling.{body_of_top, open_top, read_file, read_top}
use Rattle.p9_rmsg.specs.Dirents.{Entry}
use Rattle.fid_model.specs.FidCalls.{by_fid}
use Rattle.fid_model.specs.Fids.{closed}
use Rattle.fid_model.specs.Fids.OpenState.{Opened}
use Rattle.fid_model.specs.Listings.{entry_size, entry_told}
use Rattle.fid_model.specs.Samples.{server, with_listing, with_open, top_qid}
use Rattle.fid_model.proofs.ListingSampling.{eight_listing}
use Rattle.fid_model.proofs.Sampling.{qid_of_top}
use Rattle.p9_client.specs.Listing.{entries_by, entries_told}
use Rattle.p9_client.specs.Opening.{opened_told, opened_by, read_told}

pub open_read : opened_told server 7 (closed 1) 0
    ≡ (
      Ok top_qid,
      record server {
        fids = insert server.fids 7
            (record { ino = 1; open_state = Opened 0 false });
      },
    )
open_read =
    ap (opened_by server 7 (closed 1) 0) (open_top 0)
    ∙ ap (λ q. (
      Ok q,
      record server {
        fids = insert server.fids 7
            (record { ino = 1; open_state = Opened 0 false });
      },
    )) qid_of_top

pub open_written : opened_told server 7 (closed 1) 1 ≡ (Err EISDIR, server)
open_written = ap (opened_by server 7 (closed 1) 1) (open_top 1)

pub read_part : read_told with_open 2 1 3 ≡ (Ok (codes "orl"), with_open)
read_part = ap (λ told. (told, with_open)) (read_file 1 3)

pub read_small : (read_told (record with_open { msize = 13 }) 2 0 8).0 ≡ Ok (codes "wo")
read_small = read_file 0 2

pub read_directory : read_told server 1 0 8 ≡ (Err EISDIR, server)
read_directory = ap (λ told. (told, server)) (read_top 0 8)

-- ---- listings

-- the entries of a directory that is open, by what it holds above the offset
abbrev listed : ℕ → Option Body → List Listed → Result (List Entry) ℕ
listed room o es = cond (not (is_directory_at o)) (Err ENOTDIR)
    (Ok (each entry_told (front_within entry_size room es)))

pub listed_whole : entries_told with_listing 8 0 29 ≡ Ok (((0, (7, 2)), (1, (8, hello))) ∷ [])
listed_whole = ap (by_fid (entries_by with_listing 0 29)) eight_listing
    ∙ (λ j. listed 29 (body_of_top j) (past_none j))

pub listed_short : entries_told with_listing 8 0 28 ≡ Ok []
listed_short = ap (by_fid (entries_by with_listing 0 28)) eight_listing
    ∙ (λ j. listed 28 (body_of_top j) (past_none j))
