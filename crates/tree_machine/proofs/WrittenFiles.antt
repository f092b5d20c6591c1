-- WRITE leaves a good state: a write keeps a good tree good, and all kinds.
use Rattle.std.proofs.Common.{◌≡◌, ℕ, Bool, true, false, cond, List, length, refl, Result, Ok, Err}
use Rattle.std.specs.Prelude.{◌==◌}
use Rattle.std.specs.FinMap.{get}
use Rattle.tree_model.specs.declared.attributes.Stamp.{Stamp}
use Rattle.tree_model.specs.Attributes.{kind_of}
use Rattle.tree_model.specs.Attributing.{fitting, overwritten_at, refused_at, rewritten_at}
use Rattle.tree_model.specs.Attributing.{write_of, write_refused, written}
use Rattle.tree_model.specs.Good.{IsGoodTree}
use Rattle.tree_model.specs.Settings.{Settings}
use Rattle.tree_model.specs.Tree.{Tree, Record, body_at}
use Rattle.tree_model.proofs.Attributing.{call_good}
use Rattle.tree_model.proofs.Rewriting.{overwritten_good}
use Rattle.tree_machine.specs.Core.{handle_ino}
use Rattle.tree_machine.specs.Good.{IsGoodMachine}
use Rattle.tree_machine.specs.State.{MachineState}
use Rattle.tree_machine.specs.Writing.{place_written, write_told, wrote}
use Rattle.tree_machine.proofs.KeptStates.{Gives, kept_good}
use Rattle.tree_machine.proofs.Setting.{Keeps, bytes_kind, changed_kinds, set_to}

overwritten_kind : (moment : Stamp) (place : ℕ) (new : List ℕ) (r : Record)
    → kind_of (overwritten_at moment place new r).body ≡ kind_of r.body
overwritten_kind moment place new r = by_test (length new == 0) where
  by_test : (none : Bool)
      → kind_of (cond none r (rewritten_at moment (written place new) r)).body ≡ kind_of r.body
  by_test true = refl
  by_test false = bytes_kind (written place new) r.body

-- a write that was told
pub write_keeps : (t : Tree) → IsGoodTree t → (ino place : ℕ) (new : List ℕ) (n : ℕ) (u : Tree)
    → write_of t ino place new ≡ Ok (n, u) → Keeps t u
write_keeps t g ino place new n u is =
    let cut = fitting t.limits.file place new in record {
      good = call_good t g ino (write_refused t.limits.file place new)
          (overwritten_at t.moment place cut) (overwritten_good t g ino place new) (length cut) n u is;
      kinds = changed_kinds (overwritten_at t.moment place cut)
          (overwritten_kind t.moment place cut) (length cut) n ino t u
          (refused_at (write_refused t.limits.file place new) (body_at t.records ino)) is;
    }

module _ (s : Settings) (m : MachineState) (g : IsGoodMachine s m) where
  by_told : (ino place : ℕ) (new : List ℕ) (told : Result (ℕ × Tree) ℕ)
      → write_of m.tree ino place new ≡ told → Gives s (wrote m told)
  by_told ino place new (Err e) is = kept_good s m g
  by_told ino place new (Ok (n, u)) is = kept_good s (record m { tree = u })
      (set_to s m g u (write_keeps m.tree g.tree ino place new n u is))

  pub write_good : (fh offset : ℕ) (bytes : List ℕ) → Gives s (wrote m (write_told m fh offset bytes))
  write_good fh offset bytes =
      let handle = get m.handles fh in
      by_told (handle_ino handle) (place_written m.tree handle offset) bytes
      (write_told m fh offset bytes) refl
