-- On core requests both machines take the same steps.
use Rattle.std.proofs.Common.{◌≡◌, ℕ, Bool, true, false, List, [], ◌∷◌, ◌++◌, refl, sym, ap}
use Rattle.std.proofs.Common.{◌∙◌, subst, Option, Result, Ok, Err}
use Rattle.std.specs.Prelude.{IsTrue, if◌then◌else◌}
use Rattle.std.proofs.lemmas.Bool.{false≢true}
use Rattle.std.specs.FinMap.{get}
use Rattle.port_base.specs.declared.errno.TheConstants.{EPROTO}
use Rattle.tree_model.specs.Tree.{Tree}
use Rattle.tree_model.specs.Settings.{Settings}
use Rattle.fuse_wire.specs.Head.{head_of}
use Rattle.fuse_wire.specs.Request.{Request, request_of, init, lookup, getattr, unlink, open_file}
use Rattle.fuse_wire.specs.Request.{read, opendir, readdir, releasedir, flush, release, forget}
use Rattle.fuse_wire.specs.Request.{batch_forget, rmdir, rename, rename2, symlink, mknod, readlink}
use Rattle.fuse_wire.specs.Request.{statfs, fsync, fsyncdir, interrupt, destroy, mkdir, setattr}
use Rattle.fuse_wire.specs.Request.{write, link, create}
use Rattle.tree_machine.specs.State.{MachineState, Node, begun}
use Rattle.tree_machine.specs.Refusals.{refused_or}
use Rattle.tree_machine.specs.Core.{node_ino, open_refusal, core}
use Rattle.tree_machine.specs.Requests.{is_core, answer_of}
use Rattle.tree_machine.specs.Step.{is_in_turn, step, core_step, stepped}
use Rattle.tree_machine.specs.Play.{play, play_from, core_play, core_play_from, told_of}
use Rattle.tree_machine.specs.Play.{IsCoreRequest, AreCoreRequests}
use Rattle.tree_machine.proofs.Opening.{opened_alike}

module _ (s : Settings) (m : MachineState) (node : ℕ) where
  pub core_alike : (r : Request) → IsTrue (is_core r)
      → core s m node (Ok r) ≡ answer_of s m node (Ok r)
  core_alike (init major minor max_readahead flags) h = refl
  core_alike (lookup name) h = refl
  core_alike (getattr handle) h = refl
  core_alike (open_file flags) h =
      let o : Option Node = get m.nodes node in
      ap (refused_or m (open_refusal s m o)) (opened_alike m (node_ino o) flags h)
  core_alike (read fh offset size flags lock) h = refl
  core_alike (unlink name) h = refl
  core_alike (opendir flags) h = refl
  core_alike (readdir fh offset size flags lock) h = refl
  core_alike (releasedir fh) h = refl
  core_alike (flush fh) h = refl
  core_alike (release fh) h = refl
  core_alike (forget number) h = refl
  core_alike (batch_forget pairs) h = refl
  core_alike (setattr asked) h = absurd (false≢true h)
  core_alike (write fh offset bytes) h = absurd (false≢true h)
  core_alike (rmdir name) h = absurd (false≢true h)
  core_alike (rename newdir old new) h = absurd (false≢true h)
  core_alike (rename2 newdir flags old new) h = absurd (false≢true h)
  core_alike (symlink name target) h = absurd (false≢true h)
  core_alike (mknod mode rdev name) h = absurd (false≢true h)
  core_alike (mkdir mode name) h = absurd (false≢true h)
  core_alike (link old name) h = absurd (false≢true h)
  core_alike (create flags mode name) h = absurd (false≢true h)
  core_alike readlink h = absurd (false≢true h)
  core_alike statfs h = absurd (false≢true h)
  core_alike (fsync fh flags) h = absurd (false≢true h)
  core_alike (fsyncdir fh flags) h = absurd (false≢true h)
  core_alike interrupt h = absurd (false≢true h)
  core_alike destroy h = absurd (false≢true h)

  pub in_turn_alike : (b : Bool) (asked : Result Request ℕ) (r : Request) → asked ≡ Ok r
      → IsTrue (is_core r) → core s m node (if b then asked else Err EPROTO) ≡ answer_of s m node
      (if b then asked else Err EPROTO)
  in_turn_alike true asked r is h = subst (λ (q : Result Request ℕ). core s m node q ≡ answer_of s m
      node q) (sym is) (core_alike r h)
  in_turn_alike false asked r is h = refl

module _ (s : Settings) where
  pub core_steps : (m : MachineState) (frame : List ℕ) → IsCoreRequest frame
      → core_step s m frame ≡ step s m frame
  core_steps m frame c = ap (stepped frame) (in_turn_alike s m (head_of frame).nodeid
      (is_in_turn m.phase (head_of frame).opcode) (request_of frame) c.0 c.1 c.2)

  pub core_plays : (m : MachineState) (frames : List (List ℕ)) → AreCoreRequests frames
      → core_play_from s m frames ≡ play_from s m frames
  core_plays m [] cs = refl
  core_plays m (f ∷ fs) cs =
      ap (λ (x : List ℕ × MachineState). (
        x.0
            ++ (core_play_from s x.1 fs).0,
        (core_play_from s x.1 fs).1,
      )) (core_steps m f cs.0)
      ∙ ap (λ (x : List ℕ × MachineState). ((step s m f).0 ++ x.0, x.1))
      (core_plays (step s m f).1 fs cs.1)

  pub core_whole_plays : (t : Tree) (root : ℕ) (frames : List (List ℕ)) → AreCoreRequests frames
      → core_play s t root frames ≡ play s t root frames
  core_whole_plays t root frames cs = ap told_of (core_plays (begun t root) frames cs)
