-- What a share tells and leaves, from what the run over its server does.
use Rattle.std.proofs.Common.{◌≡◌, ⊎_elim, ℕ, ◌+◌, ◌-◌, ◌^◌, ◌<◌, ◌≤◌, min, List, [], ◌++◌, length}
use Rattle.std.proofs.Common.{length-append, Bool, true, false, cond, ◌||◌, IsSome, IfSome, Option}
use Rattle.std.proofs.Common.{Some, None, Result, Ok, Err, refl, sym, ap, ◌∙◌, subst, arith}
use Rattle.std.proofs.Common.{if◌then◌else◌, nat_le}
use Rattle.std.proofs.lemmas.Bool.{false≢true}
use Rattle.std.proofs.lemmas.Bool.Decides.{nat_tests}
use Rattle.std.proofs.lemmas.Option.{same_Some}
use Rattle.std.specs.FinMap.{get, empty}
use Rattle.tree_model.specs.Tree.{Tree, Record, Records, linked, is_linked}
use Rattle.tree_model.specs.Finding.{root_of}
use Rattle.tree_model.specs.Settings.{Settings}
use Rattle.tree_model.proofs.Maps.{retained, same_gets}
use Rattle.tree_host.specs.Holds.{Holds, is_held}
use Rattle.tree_host.specs.Host.{IsHeldIn}
use Rattle.tree_host.proofs.Held.{hold_count-empty}
use Rattle.std.specs.Prelude.{nat_lt, IsOk}
use Rattle.std.specs.Io.KnownBytes.{IsAtEnd}
use Rattle.std.proofs.KnownBytes.{Consumes-nil}
use Rattle.std.specs.List.{concat}
use Rattle.port_base.specs.Faults.{Faulted, Rose}
use Rattle.port_base.specs.declared.errno.TheConstants.{ENFILE}
use Rattle.fuse_wire.specs.Cuts.{Cut, cut, End}
use Rattle.fuse_wire.specs.Cuts.End.{done, turns_spent, torn, bad_length}
use Rattle.tree_machine.specs.State.{MachineState, begun}
use Rattle.tree_machine.specs.Play.{play, play_from}
use Rattle.tree_machine.specs.Messages.{total, messages_from}
use Rattle.frame_pump.specs.Sessions.{Session}
use Rattle.frame_pump.specs.Turns.{Streams, StopsBy, Ended, TookTo}
use Rattle.frame_pump.proofs.Answering.{Answered-exact}
use Rattle.frame_pump.specs.declared.outcome.Pumped.{Pumped}
use Rattle.frame_pump.specs.declared.outcome.Stopped.{Stopped}
use Rattle.frame_pump.specs.declared.outcome.BridgeError.{BridgeError}
use Rattle.frame_pump.specs.declared.outcome.BridgeError.TheVariants as error
use Rattle.fid_model.specs.Moments.{Moment}
use Rattle.fuse_gate.specs.Pump.{Opens, Closes, PumpsBy, AttachRefused}
use Rattle.fuse_gate.specs.declared.gate.TheConstants.{GREATEST_MSIZE}
use Rattle.p9_wire.specs.declared.protocol.TheConstants.{RREAD_HEADER_SIZE}
use Rattle.mount9_run.specs.Command.{Serve}
use Rattle.mount9_run.specs.Report.{report}
use Rattle.mount9_run.specs.Outcome.{served, attached, root_given, share_settings, piece, status_of}
use Rattle.mount9_run.specs.Outcome.{verdict_of, halted, mount_table}
use Rattle.mount9_run.specs.Serving.{StoppedBy, SharesBy, Shares, ending_of}
use Rattle.mount9_run.specs.Serving.{stopped_by as ending_stopped}
use Rattle.mount9_run.specs.Taken.{Taken, Took, cut_taken, served_taken}
use Rattle.mount9_run.specs.Taken.Taken.{just}
use Rattle.mount9_run.specs.declared.run.Ending.{Ending}
use Rattle.mount9_run.specs.declared.run.Status.{Status}
use Rattle.mount9_run.specs.declared.run.Status.TheVariants as status

-- ---- a host that holds nothing stores linked records alone

passes : (b : Bool) (o : Option Record) → (IsSome o → b ≡ true) → cond b o None ≡ o
passes true o h = refl
passes false None h = refl
passes false (Some r) h = absurd (false≢true (h refl))

or_none : (b c : Bool) → c ≡ false → (b || c) ≡ true → b ≡ true
or_none true c n h = refl
or_none false c n h = absurd (false≢true (sym n ∙ h))

not_held : (q : ℕ) → is_held empty q ≡ false
not_held q = ap (nat_lt 0) (hold_count-empty q)

pub linked_whole : (t : Tree) (h : Holds) → h ≡ empty → IsHeldIn t h → linked t ≡ t
linked_whole t h none stored = ap (λ (rs : Records). let u : Tree = record t { records = rs } in u)
    (same_gets _ _ (λ q.
    retained t.records (is_linked t.records) q
    ∙ passes (is_linked t.records q) (get t.records q)
    (λ some. or_none (is_linked t.records q) (is_held h q)
    (ap (λ (m : Holds). is_held m q) none ∙ not_held q) (stored.kept q some))))

-- ---- counts of faults that stand at 0

not_failed : Faulted 0 0 → ⊥
not_failed f = absurd (omega (arith, f.1))

not_risen : (a b : ℕ) → a ≡ 0 → b ≡ a → Rose a b → ⊥
not_risen a b z n f = absurd (omega (arith, z, n, f))

-- where there may be a fid, the root is looked for
positive : (n : ℕ) → nat_le n 0 ≡ true → 1 ≤ n → ⊥
positive n t some = absurd (grind (arith, nat_tests))

-- ---- what is taken of the input

cut_took : (end : End) (frames : List (List ℕ)) (left0 left1 : Option (List ℕ))
    → TookTo end frames left0 left1 → Took (cut_taken (record { frames = frames; end = end })) left0
    left1
cut_took done frames left0 left1 k = k
cut_took torn frames left0 left1 k = k
cut_took bad_length frames left0 left1 (more, number, c) = (
  concat frames ++ more,
  c,
  length-append (concat frames) more
      ∙ ap (λ n. length (concat frames) + n) number,
)
cut_took turns_spent frames left0 left1 (more, number, c) = (
  concat frames ++ more,
  c,
  length-append (concat frames) more
      ∙ ap (λ n. length (concat frames) + n) number,
)

-- out of memory isn't reported
silent_ending : (handled nine : ℕ) (cause : BridgeError) (e : Ending) → cause ≡ error.NoMemory
    → ending_stopped handled nine cause ≡ Ok e → ⊥
silent_ending handled nine cause e memory is =
    let clash : ◌≡◌ {A = Result Ending Status} (Err status.Memory) (Ok e) =
    sym (ap (ending_stopped handled nine) memory) ∙ is in cc

-- ---- a share of a tree by a server that has never failed, with what it was sent in memory

module _ (w : Serve) (n0 n1 : Moment) (settings : n0.state.settings ≡ share_settings w)
    (sized : n0.state.msize ≡ w.msize) (zero : n0.faults ≡ 0) (same : n1.faults ≡ n0.faults)
    (left0 left1 : Option (List ℕ)) (r0 r1 : List ℕ) (in0 in1 : ℕ) (start : r0 ≡ []) (last : Tree)
    (ended : last ≡ linked n1.state.tree) where
  abbrev p0 : Streams
  p0 = record { left = left0; sent = Some r0; read_faults = in0; write_faults = 0 }

  abbrev p1 : Streams
  p1 = record { left = left1; sent = Some r1; read_faults = in1; write_faults = 0 }

  -- where there may be a fid, the root is looked for
  some_fid : {r : Result ℕ ℕ} (b : Bool) → nat_le w.ids 0 ≡ b → 1 ≤ w.ids
      → root_of (linked n0.state.tree) (share_settings w).root ≡ r
      → root_given w (linked n0.state.tree) ≡ r
  some_fid true is some found = absurd (positive w.ids is some)
  some_fid false is some found = ap (λ b. cond b (Err ENFILE)
      (root_of (linked n0.state.tree) (share_settings w).root)) is ∙ found

  module _ (s0 s1 : Session) (b : Opens n0 s0) (e : Closes s1 n1) where
    root_found : root_given w (linked n0.state.tree) ≡ Ok b.root
    root_found = some_fid (nat_le w.ids 0) refl
        (subst (λ (s : Settings). 1 ≤ s.limit) settings b.limit)
        (subst (λ (s : Settings). root_of (linked n0.state.tree) s.root ≡ Ok b.root) settings
        b.found)

    module _ (handled nine : ℕ) (sent : nine ≡ s1.sent) (end : End)
        (h : Ended s0 s1 p0 p1 w.turns handled end) where
      abbrev t : Tree
      t = linked n0.state.tree

      leads : (bytes : List ℕ) → cut w.turns bytes ≡ record { frames = h.frames; end = end }
          → served w t (cut w.turns bytes) ≡ (
            status_of end,
            report r1
                (verdict_of end handled (min nine (2 ^ 64 - 1))) last mount_table,
          )
      leads bytes is =
          let still : s1.faults ≡ s0.faults =
          omega (arith, same, e.faults, b.rises, h.answered.stays.rises) in
          let below : s0.faults < 2 ^ 64 - 1 =
          omega (arith, same, zero, e.faults, b.rises, h.answered.stays.rises) in
          let exact = Answered-exact s0 s1 h.frames h.replies h.answered still below in
          let set : s0.settings ≡ share_settings w = b.settings ∙ settings in
          let played : play_from s0.settings s0.state h.frames ≡ play_from (share_settings w)
          (begun t b.root) h.frames = (λ j. play_from (set j) (b.state j) h.frames) in
          let pieces : s0.piece ≡ piece w = b.piece
          ∙ ap (λ n. min n GREATEST_MSIZE - RREAD_HEADER_SIZE) sized in
          let number : messages_from s0.piece s0.settings s0.state h.frames ≡ messages_from
          (piece w) (share_settings w) (begun t b.root) h.frames =
          (λ j. messages_from (pieces j) (set j) (b.state j) h.frames) in
          let replies : (play (share_settings w) t b.root h.frames).0 ≡ r1 =
          sym (h.sent ∙ ap (λ r. r ++ h.replies) start ∙ exact.0
          ∙ ap (λ (r : List ℕ × MachineState). r.0) played) in
          let final : linked (play (share_settings w) t b.root h.frames).1 ≡ last =
          sym (ended ∙ ap linked (e.tree ∙ ap (λ (m : MachineState). linked m.tree)
          (exact.1 ∙ ap (λ (r : List ℕ × MachineState). r.1) played))) in
          let messages : min (total (piece w) (share_settings w) t b.root h.frames) (2 ^ 64 - 1)
          ≡ min nine (2 ^ 64 - 1) = omega
          (arith, exact.2, number, sent, b.sent, h.answered.sent) in
          ap (λ (c : Cut). served w t c) is
          ∙ ap (λ (r : Result ℕ ℕ). attached w t r (record { frames = h.frames; end = end }))
          root_found
          ∙ (λ j. (
            status_of end,
            report (replies j) (verdict_of end (h.number j) (messages j))
                (final j) mount_table,
          ))

      leads_known : (left : Option (List ℕ)) → IfSome left
          (λ bytes. cut w.turns bytes ≡ record { frames = h.frames; end = end })
          → IfSome left (λ bytes. served w t (cut w.turns bytes)
          ≡ (
            status_of end,
            report r1 (verdict_of end handled (min nine (2 ^ 64 - 1))) last
                mount_table,
          ))
      leads_known None is = tt
      leads_known (Some bytes) is = leads bytes is

      took_known : (left : Option (List ℕ)) → IfSome left
          (λ bytes. cut w.turns bytes ≡ record { frames = h.frames; end = end })
          → Took (cut_taken (record { frames = h.frames; end = end })) left0 left1
          → IfSome left (λ bytes. Took (served_taken w (root_given w t) bytes) left0 left1)
      took_known None is k = tt
      took_known (Some bytes) is k =
          subst (λ (n : Taken). Took n left0 left1)
          (ap cut_taken (sym is) ∙ ap (λ (r : Result ℕ ℕ). served_taken w r bytes)
          (sym root_found)) k

      took : IfSome left0 (λ bytes. Took (served_taken w (root_given w t) bytes) left0 left1)
      took = took_known left0 h.cut (cut_took end h.frames left0 left1 h.taken)

    took_stopped : (handled nine : ℕ) → nine ≡ s1.sent → (cause : BridgeError)
        → StopsBy s0 s1 (Unit {0}) p0 p1 w.turns handled cause → (e : Ending)
        → ending_stopped handled nine cause ≡ Ok e
        → IfSome left0 (λ bytes. Took (served_taken w (root_given w (linked n0.state.tree)) bytes)
        left0 left1)
    took_stopped handled nine sent error.Torn k e is = took handled nine sent torn k.2
    took_stopped handled nine sent error.BadLength k e is = took handled nine sent bad_length k.2
    took_stopped handled nine sent error.TurnsSpent k e is = took handled nine sent turns_spent k.2
    took_stopped handled nine sent error.Read k e is = absurd cc
    took_stopped handled nine sent error.Write k e is = absurd cc
    took_stopped handled nine sent error.NoMemory k e is = absurd cc
    took_stopped handled nine sent (error.Attach errno) k e is = absurd k
    took_stopped handled nine sent error.MsizeTooSmall k e is = absurd k
    took_stopped handled nine sent (error.Mount errno) k e is = absurd k
    took_stopped handled nine sent error.Unmount k e is = absurd k

    stopped_by : (handled nine : ℕ) → nine ≡ s1.sent → (cause : BridgeError)
        → StopsBy s0 s1 (Unit {0}) p0 p1 w.turns handled cause
        → StoppedBy w n0.state.tree left0 in0 in1 r1 last handled nine cause
    stopped_by handled nine sent error.Torn k =
        (k.0.0, leads_known handled nine sent torn k.2 left0 k.2.cut)
    stopped_by handled nine sent error.BadLength k =
        (k.0.0, leads_known handled nine sent bad_length k.2 left0 k.2.cut)
    stopped_by handled nine sent error.TurnsSpent k =
        (k.0.0, leads_known handled nine sent turns_spent k.2 left0 k.2.cut)
    stopped_by handled nine sent error.Read k = k.0.0
    stopped_by handled nine sent error.Write k = not_failed k.0.1
    stopped_by handled nine sent error.NoMemory k = k.0.0
    stopped_by handled nine sent (error.Attach errno) k = absurd k
    stopped_by handled nine sent error.MsizeTooSmall k = absurd k
    stopped_by handled nine sent (error.Mount errno) k = absurd k
    stopped_by handled nine sent error.Unmount k = absurd k

  -- the attach was refused
  module _ (handled nine errno : ℕ) (none : handled ≡ 0) (one : nine ≡ 1) (still : p1 ≡ p0)
      (refused : AttachRefused n0 n1 errno) where
    found : root_given w (linked n0.state.tree) ≡ Err errno
    found = ⊎_elim
        (λ is. subst (λ (s : Settings). (if nat_le s.limit 0 then Err ENFILE else root_of
        (linked n0.state.tree) s.root) ≡ Err errno) settings is)
        (λ rose. absurd (not_risen n0.faults n1.faults zero same rose.0))
        refused.1

    final : linked (linked n0.state.tree) ≡ last
    final = sym (ended ∙ ap linked refused.0.tree)

    refused_leads : (bytes : List ℕ) → served w (linked n0.state.tree) (cut w.turns bytes)
        ≡ (
          status.Stopped,
          report r1 (halted (error.Attach errno) handled (min nine (2 ^ 64 - 1)))
              last mount_table,
        )
    refused_leads bytes =
        let replies : [] ≡ r1 = sym (same_Some _ _ (ap (λ (p : Streams). p.sent) still) ∙ start) in
        let messages : 1 ≡ min nine (2 ^ 64 - 1) = omega (arith, one) in
        ap (λ (r : Result ℕ ℕ). attached w (linked n0.state.tree) r (cut w.turns bytes)) found
        ∙ (λ j. (
          status.Stopped,
          report (replies j)
              (halted (error.Attach errno) (sym none j) (messages j)) (final j) mount_table,
        ))

    took_nothing : (bytes : List ℕ) → Took (served_taken w (root_given w (linked n0.state.tree))
        bytes) left0 left1
    took_nothing bytes =
        subst (λ (n : Taken). Took n left0 left1)
        (ap (λ (r : Result ℕ ℕ). served_taken w r bytes) (sym found))
        (subst (λ (left : Option (List ℕ)). Took (just 0) left0 left)
        (sym (ap (λ (p : Streams). p.left) still)) ([], Consumes-nil left0, refl))

  over : {P : List ℕ → Type 0} (left : Option (List ℕ)) → ((bytes : List ℕ) → P bytes)
      → IfSome left P
  over None h = tt
  over (Some bytes) h = h bytes

  shares_by : (result : Result Pumped Stopped) → PumpsBy n0 n1 p0 p1 w.turns result
      → SharesBy w n0.state.tree left0 in0 in1 r1 last result
  shares_by (Ok r) (s0, s1, b, e, k) = (
    k.1.0.0,
    leads_known s0 s1 b e r.handled r.nine_frames k.0
        done k.1.2 left0 k.1.2.cut,
  )
  shares_by (Err r) h = ⊎_elim
      (λ b. stopped_by b.0 b.1 b.2 b.3 r.handled r.nine_frames b.4.0 r.cause b.4.1)
      (λ n. ⊎_elim
      (λ a. subst (λ (c : BridgeError). StoppedBy w n0.state.tree left0 in0 in1 r1 last r.handled
      r.nine_frames c) (sym a.1) (
        ap (λ (p : Streams). p.read_faults) n.1,
        over left0
            (refused_leads r.handled r.nine_frames a.0 n.0 a.2 n.1 a.3),
      ))
      (λ m. subst (λ (c : BridgeError). StoppedBy w n0.state.tree left0 in0 in1 r1 last r.handled
      r.nine_frames c) (sym m.0) (ap (λ (p : Streams). p.read_faults) n.1))
      n.2)
      h

  -- what is reported tells how much was taken
  pub took_by : (result : Result Pumped Stopped) → PumpsBy n0 n1 p0 p1 w.turns result → (e : Ending)
      → ending_of result ≡ Ok e
      → IfSome left0 (λ bytes. Took (served_taken w (root_given w (linked n0.state.tree)) bytes)
      left0 left1)
  took_by (Ok r) (s0, s1, b, e, k) ending is = took s0 s1 b e r.handled r.nine_frames k.0 done k.1.2
  took_by (Err r) h ending is = ⊎_elim
      (λ b. took_stopped b.0 b.1 b.2 b.3 r.handled r.nine_frames b.4.0 r.cause b.4.1 ending is)
      (λ n. ⊎_elim
      (λ a. over left0 (took_nothing r.handled r.nine_frames a.0 n.0 a.2 n.1 a.3))
      (λ m. absurd (silent_ending r.handled r.nine_frames r.cause ending m.0 is))
      n.2)
      h

  pub Shares-from : (result : Result Pumped Stopped) → linked last ≡ last
      → PumpsBy n0 n1 p0 p1 w.turns result → Shares w n0.state.tree left0 in0 in1 r1 last result
  Shares-from result whole h = record { answer = shares_by result h; whole = whole }

-- after a whole run the input is at its end
pub at_end : (n0 n1 : Moment) (p0 p1 : Streams) (turns : ℕ) (result : Result Pumped Stopped)
    → PumpsBy n0 n1 p0 p1 turns result → IsOk result → IsAtEnd p1.left
at_end n0 n1 _ _ turns (Ok r) h ok = h.4.1.2.taken
at_end n0 n1 _ _ turns (Err r) h ok = absurd (false≢true ok)
