-- Each step keeps a good state good.
use Rattle.std.proofs.Common.{◌≡◌, ℕ, List, [], ◌∷◌, None, Result, Ok, Err}
use Rattle.std.specs.FinMap.{get, remove}
use Rattle.tree_model.specs.Settings.{Settings}
use Rattle.fuse_wire.specs.Head.{head_of}
use Rattle.fuse_wire.specs.Request.{Request, init, lookup, getattr, unlink, open_file, read}
use Rattle.fuse_wire.specs.Request.{opendir}
use Rattle.fuse_wire.specs.Request.{readdir, releasedir, flush, release, forget, batch_forget}
use Rattle.fuse_wire.specs.Request.{rmdir, rename, rename2, symlink, mknod, readlink, statfs, fsync}
use Rattle.fuse_wire.specs.Request.{fsyncdir, interrupt, destroy, mkdir, setattr, write, link}
use Rattle.fuse_wire.specs.Request.{create}
use Rattle.tree_machine.specs.State.{MachineState, Phase}
use Rattle.tree_machine.specs.State.Phase.{Started, Over}
use Rattle.tree_machine.specs.Requests.{refusal_before, effect_of, answer_of}
use Rattle.tree_machine.specs.Forgetting.{forgotten, all_forgotten, pairs_of}
use Rattle.tree_machine.specs.Step.{step, request_in_turn}
use Rattle.tree_machine.specs.Play.{play_from}
use Rattle.tree_machine.specs.Good.{IsGoodMachine}
use Rattle.tree_machine.proofs.KeptStates.{Gives, refused_or_good}
pub use Rattle.tree_machine.proofs.KeptStates.{kept_good}
pub use Rattle.tree_machine.proofs.Nodes.{given_good}
use Rattle.tree_machine.proofs.Looking.{lookup_good}
use Rattle.tree_machine.proofs.Opening.{open_good}
use Rattle.tree_machine.proofs.Directories.{opendir_good, unlink_good, rmdir_good}
use Rattle.tree_machine.proofs.Directories.{rename_good, rename2_good}
use Rattle.tree_machine.proofs.MadeNames.{mkdir_good}
use Rattle.tree_machine.proofs.Setting.{set_good}
use Rattle.tree_machine.proofs.LinkedNames.{link_good}
use Rattle.tree_machine.proofs.CreatedFiles.{create_good}
use Rattle.tree_machine.proofs.WrittenFiles.{write_good}
use Rattle.tree_machine.proofs.Handles.{handle_gone}
use Rattle.tree_machine.proofs.Forgetting.{forgotten_good, all_forgotten_good}

module _ (s : Settings) where
  module _ (m : MachineState) (g : IsGoodMachine s m) where
    pub in_phase : (p : Phase) → IsGoodMachine s (record m { phase = p })
    in_phase p = record {
      tree = g.tree;
      root = g.root;
      nodes = λ id n at. let old = g.nodes id n at in record {
        positive = old.positive;
        drawn = old.drawn;
        counted = old.counted;
        stored =
            old.stored;
      };
      handles = λ id h at. let old = g.handles id h at in record {
        positive = old.positive;
        drawn = old.drawn;
        access = old.access;
        openable =
            old.openable;
      };
      apart = g.apart;
      once = g.once;
      next = g.next;
      within = g.within;
    }

    effect_good : (node : ℕ) (r : Request) → refusal_before s m node r ≡ None
        → Gives s (effect_of s m node r)
    effect_good node (init major minor max_readahead flags) none =
        kept_good s (record m { phase = Started }) (in_phase Started)
    effect_good node (lookup name) none = lookup_good s m g name (get m.nodes node) none
    effect_good node (getattr handle) none = kept_good s m g
    effect_good node (open_file flags) none = open_good s m g flags (get m.nodes node) none
    effect_good node (read fh offset size flags lock) none = kept_good s m g
    effect_good node (unlink name) none = unlink_good s m g name (get m.nodes node)
    effect_good node (setattr asked) none = set_good s m g node asked
    effect_good node (write fh offset bytes) none = write_good s m g fh offset bytes
    effect_good node (rmdir name) none = rmdir_good s m g name (get m.nodes node)
    effect_good node (rename newdir old new) none =
        rename_good s m g old new (get m.nodes node) (get m.nodes newdir) none
    effect_good node (rename2 newdir flags old new) none =
        rename2_good s m g flags old new (get m.nodes node) (get m.nodes newdir) none
    effect_good node (symlink name target) none = kept_good s m g
    effect_good node (mknod mode rdev name) none = kept_good s m g
    effect_good node (mkdir mode name) none = mkdir_good s m g mode name (get m.nodes node) none
    effect_good node (link old name) none = link_good s m g name old node none
    effect_good node (create flags mode name) none =
        create_good s m g flags mode name (get m.nodes node) none
    effect_good node readlink none = kept_good s m g
    effect_good node statfs none = kept_good s m g
    effect_good node (fsync fh flags) none = kept_good s m g
    effect_good node (fsyncdir fh flags) none = kept_good s m g
    effect_good node interrupt none = kept_good s m g
    effect_good node destroy none = kept_good s (record m { phase = Over }) (in_phase Over)
    effect_good node (opendir flags) none = opendir_good s m g (get m.nodes node) none
    effect_good node (readdir fh offset size flags lock) none = kept_good s m g
    effect_good node (releasedir fh) none = kept_good s (record m { handles = remove m.handles fh })
        (handle_gone s m g fh)
    effect_good node (flush fh) none = kept_good s m g
    effect_good node (release fh) none = kept_good s (record m { handles = remove m.handles fh })
        (handle_gone s m g fh)
    effect_good node (forget number) none = kept_good s (forgotten m node number)
        (forgotten_good s m g node number)
    effect_good node (batch_forget pairs) none =
        kept_good s (all_forgotten m (pairs_of pairs)) (all_forgotten_good s m g (pairs_of pairs))

    pub answer_good : (node : ℕ) (r : Result Request ℕ) → Gives s (answer_of s m node r)
    answer_good node (Err e) = kept_good s m g
    answer_good node (Ok r) = refused_or_good s m g (refusal_before s m node r)
        (effect_of s m node r) (effect_good node r)

  pub step_good : (m : MachineState) (frame : List ℕ) → IsGoodMachine s m
      → IsGoodMachine s (step s m frame).1
  step_good m frame g = answer_good m g (head_of frame).nodeid (request_in_turn m.phase frame)

  pub play_good : (m : MachineState) (frames : List (List ℕ)) → IsGoodMachine s m
      → IsGoodMachine s (play_from s m frames).1
  play_good m [] g = g
  play_good m (f ∷ fs) g = play_good (step s m f).1 fs (step_good m f g)
