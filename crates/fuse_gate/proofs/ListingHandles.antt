-- A handle that is listed.
use Rattle.std.proofs.Common.{◌≡◌, ◌≢◌, ℕ, ◌+◌, Bool, true, false, not, [], ◌∷◌, length, min, refl}
use Rattle.std.proofs.Common.{sym, ap, ◌∙◌, subst, Option, Some, None}
use Rattle.std.specs.Prelude.{option_map, unwrap_or}
use Rattle.std.specs.FinMap.{get}
use Rattle.port_base.specs.declared.errno.TheConstants.{EBADF, ENOTDIR}
use Rattle.tree_model.specs.Tree.{body_at, is_directory_at}
use Rattle.tree_model.specs.Pages.{page_of}
use Rattle.fuse_wire.specs.Request.{readdir}
use Rattle.fuse_wire.specs.declared.protocol.TheConstants.{MAX_READ}
use Rattle.tree_machine.specs.State.{MachineState, Handle as MachineHandle}
use Rattle.tree_machine.specs.Replies.{Reply}
use Rattle.tree_machine.specs.Replies.Reply.{Bytes}
use Rattle.tree_machine.specs.Refusals.{refused_if, first_refusal}
use Rattle.tree_machine.specs.Core.{handle_ino, readdir_refusal, listed}
use Rattle.tree_machine.specs.Listing.{entry_size, listing_bytes}
use Rattle.tree_machine.specs.Messages.{listing_messages, readdir_messages}
use Rattle.fid_model.specs.Fids.{Fid, IsGoodServer}
use Rattle.fid_model.specs.Moments.{Moment, Untouched}
use Rattle.fuse_gate.specs.Standing.{IsInStep, machine_of, piece_of, opened}
use Rattle.fuse_gate.specs.Steps.{Serves, ServesRequest}
use Rattle.fuse_gate.specs.Listings.{directory_at, ListsDirectory, ServesListing}
use Rattle.fuse_gate.specs.declared.gate.Gate.{Gate}
use Rattle.fuse_gate.specs.declared.gate.Handle.{Handle}
use Rattle.fuse_gate.proofs.Standings.{handle_fid, handle_seen}
use Rattle.fuse_gate.proofs.Serving.{served_after}
use Rattle.fuse_gate.proofs.Reading.{directory_at_handle, file_body}

module _ {g : Gate} (n : Moment) (st : IsInStep g n.state) (handle : ℕ) where
  abbrev m : MachineState
  m = machine_of g n.state

  abbrev refusal : Option ℕ
  refusal = readdir_refusal m (get m.handles handle)

  pub readdir_unknown : get g.handles handle ≡ None → refusal ≡ Some EBADF
  readdir_unknown at = ap (λ (o : Option MachineHandle). readdir_refusal m o)
      (handle_seen st handle None at)

  module _ (h : Handle) (at : get g.handles handle ≡ Some h) where
    by_test : (directory : Bool) → is_directory_at (body_at n.state.tree.records h.ino) ≡ directory
        → refusal ≡ first_refusal (refused_if (not directory) ENOTDIR ∷ [])
    by_test directory kind =
        ap (λ (o : Option MachineHandle). readdir_refusal m o) (handle_seen st handle (Some h) at)
        ∙ ap (λ (b : Bool). first_refusal (refused_if (not b) ENOTDIR ∷ [])) kind

    pub readdir_file : h.kind ≢ 128 → refusal ≡ Some ENOTDIR
    readdir_file kind = by_test false
        (ap (λ b. is_directory_at b) (file_body st handle h at kind).1)

    module _ (kind : h.kind ≡ 128) where
      directory : is_directory_at (body_at n.state.tree.records h.ino) ≡ true
      directory = directory_at_handle st handle h at kind

      named : directory_at n.state handle ≡ h.ino
      named = ap (λ (o : Option Fid). unwrap_or (option_map (λ (f : Fid). f.ino) o) 0)
          (handle_fid st handle h at)

      pub lists_directory : ListsDirectory n.state handle (directory_at n.state handle)
      lists_directory = record {
        f = opened h;
        at = handle_fid st handle h at;
        names = sym named;
        open_now = refl;
        directory = ap (λ (d : ℕ). is_directory_at (body_at n.state.tree.records d)) named
            ∙ directory;
      }

      pub readdir_served : IsGoodServer n.state → (offset size most : ℕ) → most ≡ min size MAX_READ
          → (new : Gate × Moment) (reply : Reply)
          → ServesListing handle offset most (g, n) new reply
          → ServesRequest 0 (readdir handle offset size 0 None) (g, n) new reply
      readdir_served good offset size most is new reply served =
          served_after st good 0 (readdir handle offset size 0 None) (by_test true directory) new
          reply
          (subst (λ (o : Option MachineHandle). Serves (listed m offset size o, m)
          (readdir_messages (piece_of n.state) n.state.tree (handle_ino o) offset size)
          (Untouched n.state.tree) (g, n) new reply)
          (sym (handle_seen st handle (Some h) at))
          (subst (λ (d : ℕ).
          let page = page_of entry_size (min size MAX_READ) n.state.tree d offset in
          Serves (Bytes (listing_bytes page), m)
          (listing_messages (length page + 1) (piece_of n.state) n.state.tree d offset page)
          (Untouched n.state.tree) (g, n) new reply) named
          (subst (λ (k : ℕ). ServesListing handle offset k (g, n) new reply) is served)))
