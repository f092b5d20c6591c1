-- WRITE: the refusals, and then the file of a handle.
use Rattle.std.proofs.Common.{◌≡◌, ◌≢◌, ℕ, Bool, true, false, List, [], ◌∷◌, length, take, refl}
use Rattle.std.proofs.Common.{sym, ap, ◌∙◌}
use Rattle.std.proofs.Common.{subst, Some, None, Option, Result, Ok, arith, inr}
use Rattle.std.specs.Prelude.{◌==◌, not}
use Rattle.std.specs.FinMap.{get}
use Rattle.std.proofs.lemmas.Bool.Decides.{nat_tests}
use Rattle.port_base.specs.declared.errno.TheConstants.{EBADF}
use Rattle.port_base.specs.declared.oflag.TheConstants.{O_RDONLY}
use Rattle.tree_model.specs.Attributing.{write_of}
use Rattle.tree_model.specs.Tree.{Tree, Body, body_at}
use Rattle.tree_model.specs.Tree.Body.{File, Directory, Link}
use Rattle.fuse_wire.specs.Request.{write}
use Rattle.tree_machine.specs.State.{MachineState, Handle as MachineHandle}
use Rattle.tree_machine.specs.Replies.{Reply}
use Rattle.tree_machine.specs.Refusals.{refused_if, first_refusal}
use Rattle.tree_machine.specs.Core.{handle_ino}
use Rattle.tree_machine.specs.Good.{IsOpenable}
use Rattle.tree_machine.specs.Messages.{write_messages, write_piece}
use Rattle.tree_machine.specs.Faults.{PartOf}
use Rattle.tree_machine.specs.Writing.{place_written, write_refusal, write_told, written_tree}
use Rattle.tree_machine.specs.Writing.{wrote}
use Rattle.fid_model.specs.Fids.{IsGoodServer}
use Rattle.fid_model.specs.Files.{write_told as fid_told}
use Rattle.fid_model.specs.Moments.{Moment}
use Rattle.fuse_gate.specs.Standing.{IsInStep, machine_of, handle_of, opened, piece_of}
use Rattle.fuse_gate.specs.Steps.{Serves, ServesRequest}
use Rattle.fuse_gate.specs.Writing.{WritesFile, LeavesFront, ServesWriting}
use Rattle.fuse_gate.specs.declared.gate.Gate.{Gate}
use Rattle.fuse_gate.specs.declared.gate.Handle.{Handle}
use Rattle.fuse_gate.proofs.Standings.{handle_fid, handle_good, handle_seen}
use Rattle.fuse_gate.proofs.Serving.{served_in_part, weaker}
use Rattle.fuse_gate.proofs.WritingPieces.{told_by}

not_zero : (access : ℕ) → access ≢ 0 → (access == 0) ≡ false
not_zero access ne = grind (arith, nat_tests)

-- what is open to be written is a file
file_there : (h : MachineHandle) (b : Option Body) → IsOpenable b h → h.access ≢ 0
    → (file : List ℕ) × (b ≡ Some (File file))
file_there h None able ne = absurd able
file_there h (Some (File bytes)) able ne = (bytes, refl)
file_there h (Some (Directory es next above)) able ne = absurd (ne able.0)
file_there h (Some (Link target)) able ne = absurd able

module _ {g : Gate} (n : Moment) (st : IsInStep g n.state) (handle offset : ℕ) (bytes : List ℕ) where
  abbrev m : MachineState
  m = machine_of g n.state

  abbrev refusal : Option ℕ
  refusal = write_refusal (get m.handles handle)

  pub write_unknown : get g.handles handle ≡ None → refusal ≡ Some EBADF
  write_unknown at = ap write_refusal (handle_seen st handle None at)

  module _ (h : Handle) (at : get g.handles handle ≡ Some h) where
    by_access : (alone : Bool) → (h.access == O_RDONLY) ≡ alone
        → refusal ≡ first_refusal (refused_if alone EBADF ∷ [])
    by_access alone is = ap write_refusal (handle_seen st handle (Some h) at)
        ∙ ap (λ (b : Bool). first_refusal (refused_if b EBADF ∷ [])) is

    pub write_read_only : h.access ≡ 0 → refusal ≡ Some EBADF
    write_read_only none = by_access true (ap (λ k. k == O_RDONLY) none)

    module _ (ne : h.access ≢ 0) where
      pub writes_file : WritesFile n.state handle
      writes_file =
          let there = file_there (handle_of h) (body_at n.state.tree.records h.ino)
          (handle_good st handle h at).openable ne in record {
            f = opened h;
            at = handle_fid st handle h at;
            writable = ap not (not_zero h.access ne);
            bytes = there.0;
            file = there.1;
          }

      -- the machine tells what the fid tells
      same_told : (xs : List ℕ) → fid_told n.state handle offset xs ≡ write_told m handle offset xs
      unfolding writes_file
      same_told xs =
          told_by g n handle offset bytes writes_file n.state (handle_fid st handle h at) offset xs
          ∙ sym (ap (λ (o : Option MachineHandle). write_of n.state.tree (handle_ino o)
          (place_written n.state.tree o offset) xs) (handle_seen st handle (Some h) at))

      abbrev part : Tree → Type 0
      part t = PartOf n.state.settings m 0 (Ok (write handle offset bytes)) t

      -- a front part of the bytes
      pub write_part : (t : Tree) → LeavesFront handle offset bytes n.state t → part t
      write_part t (k, is) = inr
          (k, is ∙ ap (written_tree n.state.tree) (same_told (take k bytes)))

      pub write_served : IsGoodServer n.state → (new : Gate × Moment) (reply : Reply)
          → ServesWriting handle offset bytes (g, n) new reply
          → ServesRequest 0 (write handle offset bytes) (g, n) new reply
      write_served good new reply served =
          served_in_part st good 0 (write handle offset bytes)
          (by_access false (not_zero h.access ne)) new reply
          (weaker (wrote m (write_told m handle offset bytes))
          (write_messages (write_piece (piece_of n.state)) (length bytes)
          (write_told m handle offset bytes)) (LeavesFront handle offset bytes n.state) part
          write_part (g, n) new reply
          (subst (λ (x : Result (ℕ × Tree) ℕ). Serves (wrote m x)
          (write_messages (write_piece (piece_of n.state)) (length bytes) x)
          (LeavesFront handle offset bytes n.state) (g, n) new reply) (same_told bytes) served))
