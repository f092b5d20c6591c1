-- Locks of fids that are open.
use Rattle.std.proofs.Common.{◌≡◌, ℕ, ◌+◌, Bool, true, false, cond, List, length, refl, ap, ◌∙◌}
use Rattle.std.proofs.Common.{Result, Ok, Err}
use Rattle.std.specs.Prelude.{nat_lt, if◌then◌else◌}
use Rattle.std.specs.FinMap.{get}
use Rattle.port_base.specs.declared.errno.TheConstants.{ENAMETOOLONG}
use Rattle.tree_model.specs.Tree.{Tree}
use Rattle.tree_model.specs.Sound.{IsKept}
use Rattle.tree_model.specs.Settings.{Settings}
use Rattle.tree_model.specs.declared.attributes.HostError.TheVariants.{Errno}
use Rattle.p9_tmsg.specs.Messages.Message.{getlock}
use Rattle.p9_rmsg.specs.Replies.{Reply}
use Rattle.p9_rmsg.specs.Replies.Reply.{getlock as free}
use Rattle.fid_model.specs.Fids.{Fids, Fid, ServerState, is_open, is_held as is_named}
use Rattle.fid_model.specs.FidCalls.{by_open_fid}
use Rattle.p9_wire.specs.declared.protocol.TheConstants.{RGETLOCK_HEADER_SIZE}
use Rattle.p9_server.specs.Steps.{IsStep, server_state, open_told}
use Rattle.p9_server.proofs.Asking.{by_opened, told_step, refused_step}

abbrev pub nothing : Fid → Result (Unit {0}) ℕ
nothing f = Ok tt

-- the client's name, where the reply has room for it
abbrev pub named : ℕ → List ℕ → Fid → Result (List ℕ) ℕ
named msize client f = if nat_lt msize (RGETLOCK_HEADER_SIZE + length client) then Err ENAMETOOLONG
    else Ok client

module _ {A : Type 0} (reply : A → Reply) (t : Tree) (fids : Fids) (msize : ℕ) (settings : Settings)
    (n kind_ start length_ proc_id : ℕ) (client : List ℕ) (kept : IsKept t.records (is_named fids))
    (steady : Bool) (f : ℕ) (ino : ℕ) (known : Ok ino ≡ open_told is_open (get fids n)) where
  abbrev before : ServerState
  before = server_state t fids msize settings

  named_by : (b : Bool) → nat_lt msize (RGETLOCK_HEADER_SIZE + length client) ≡ b
      → by_open_fid is_open (named msize client) (get fids n) ≡ cond {A = Result (List ℕ) ℕ} b
      (Err ENAMETOOLONG) (Ok client)
  named_by b long = (by_opened (named msize client) is_open (get fids n) ino known).2
      ∙ ap (λ b. cond {A = Result (List ℕ) ℕ} b (Err ENAMETOOLONG) (Ok client)) long

  pub long_name_step : nat_lt msize (RGETLOCK_HEADER_SIZE + length client) ≡ true
      → IsStep (getlock n kind_ start length_ proc_id client) reply before before steady f f
      (Err (Errno ENAMETOOLONG))
  long_name_step long = refused_step (getlock n kind_ start length_ proc_id client) reply
      (free 2 start length_ proc_id) before kept steady
      (by_open_fid is_open (named msize client) (get fids n)) refl before refl f f ENAMETOOLONG
      (named_by true long) refl

  pub free_step : nat_lt msize (RGETLOCK_HEADER_SIZE + length client) ≡ false → (a : A)
      → reply a ≡ free 2 start length_ proc_id client
      → IsStep (getlock n kind_ start length_ proc_id client) reply before before steady f f (Ok a)
  free_step short a seen = told_step (getlock n kind_ start length_ proc_id client) reply
      (free 2 start length_ proc_id) before kept steady
      (by_open_fid is_open (named msize client) (get fids n)) refl before refl f f a client
      (named_by false short) seen refl
