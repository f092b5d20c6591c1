-- What a share tells makes a run: a report and its answer, or an answer alone.
use Rattle.std.proofs.Common.{◌≡◌, ℕ, ◌-◌, ◌^◌, ◌<◌, min, List, IfSome, Some, None, Result, Ok, Err}
use Rattle.std.proofs.Common.{refl, sym, subst, arith}
use Rattle.std.specs.declared.option.Option.{Option}
use Rattle.tree_model.specs.Tree.{Tree, linked}
use Rattle.fuse_wire.specs.Cuts.{cut}
use Rattle.frame_pump.specs.declared.outcome.Pumped.{Pumped}
use Rattle.frame_pump.specs.declared.outcome.Stopped.{Stopped}
use Rattle.frame_pump.specs.declared.outcome.BridgeError.{BridgeError}
use Rattle.frame_pump.specs.declared.outcome.BridgeError.TheVariants as error
use Rattle.mount9_run.specs.Command.{Serve}
use Rattle.mount9_run.specs.Report.{report}
use Rattle.fuse_wire.specs.Cuts.End.{done}
use Rattle.mount9_run.specs.Verdicts.{nine_frames_of}
use Rattle.mount9_run.specs.Outcome.{Outcome, served, mount_table, halted, verdict_of}
use Rattle.mount9_run.specs.Wrote.{at_sink}
use Rattle.mount9_run.specs.Running.{Ran, IsTold, Tells}
use Rattle.mount9_run.specs.Serving.{LeadsTo, StoppedBy, SharesBy, Shares, stopped_by, ending_of}
use Rattle.mount9_run.specs.declared.report.verdict.Verdict.{Verdict}
use Rattle.mount9_run.specs.declared.run.Ending.{Ending}
use Rattle.mount9_run.specs.declared.run.Status.{Status}
use Rattle.mount9_run.proofs.Ran.{Ran-told, Ran-memory, Ran-input}

same_ok : (x y : Ending) → ◌≡◌ {A = Result Ending Status} (Ok x) (Ok y) → x ≡ y
same_ok x y h = cc

same_err : (x y : Status) → ◌≡◌ {A = Result Ending Status} (Err x) (Err y) → x ≡ y
same_err x y h = cc

module _ (w : Serve) (t : Tree) (left s0 s1 : Option (List ℕ)) (in0 in1 out0 out1 : ℕ)
    (replies shown : List ℕ) (same : shown ≡ replies) (last : Tree) (result : Result Pumped Stopped)
    (h : Shares w t left in0 in1 replies last result) where
  abbrev serves : List ℕ → Outcome
  serves bytes = served w (linked t) (cut w.turns bytes)

  again : (x y : List ℕ) (st : Status) (l : Option (List ℕ)) → x ≡ y
      → IfSome l (λ bytes. served w (linked t) (cut w.turns bytes) ≡ (st, x))
      → IfSome l (λ bytes. served w (linked t) (cut w.turns bytes) ≡ (st, y))
  again x y st None e k = tt
  again x y st (Some bytes) e k = subst (λ z. served w (linked t) (cut w.turns bytes) ≡ (st, z)) e k

  told_by : {X : Type 0} {k0 k1 : X} (st : Status) (v : ℕ → Verdict) (nine : ℕ) → IsTold st
      → nine < 2 ^ 64 → LeadsTo w t left in0 in1 st replies v last nine → (answer : Status)
      → Tells (at_sink s0 out0 k0) (at_sink s1 out1 k1) st
      (report shown (v nine) (linked last) mount_table) answer
      → Ran serves left s0 s1 in0 in1 out0 out1 answer
  told_by st v nine told fits k answer tells =
      let all : min nine (2 ^ 64 - 1) ≡ nine = omega (arith, fits) in
      let text : report replies (v (min nine (2 ^ 64 - 1))) last mount_table ≡ report shown (v nine)
      (linked last) mount_table = (λ j. report (sym same j) (v (all j)) (sym h.whole j)
      mount_table) in
      Ran-told serves s0 s1 in0 in1 out0 out1 left st
      (report shown (v nine) (linked last) mount_table) answer told k.0
      (again (report replies (v (min nine (2 ^ 64 - 1))) last mount_table)
      (report shown (v nine) (linked last) mount_table) st left text k.1) tells

  -- ---- a share whose ending is reported

  -- the report of an ending, with the number of 9P messages left open
  record Reported (e : Ending) : Type 0 where
    verdict : ℕ → Verdict
    told : IsTold e.status
    whole : verdict (nine_frames_of e.verdict) ≡ e.verdict
    leads : LeadsTo w t left in0 in1 e.status replies verdict last (nine_frames_of e.verdict)

  stopped_reported : (handled nine : ℕ) (cause : BridgeError)
      → StoppedBy w t left in0 in1 replies last handled nine cause → (e : Ending)
      → stopped_by handled nine cause ≡ Ok e → Reported e
  stopped_reported handled nine error.Torn k e is =
      subst Reported (same_ok _ _ is) (record
      { verdict = halted error.Torn handled; told = tt; whole = refl; leads = k })
  stopped_reported handled nine error.BadLength k e is =
      subst Reported (same_ok _ _ is) (record
      { verdict = halted error.BadLength handled; told = tt; whole = refl; leads = k })
  stopped_reported handled nine error.TurnsSpent k e is =
      subst Reported (same_ok _ _ is) (record
      { verdict = halted error.TurnsSpent handled; told = tt; whole = refl; leads = k })
  stopped_reported handled nine (error.Attach errno) k e is =
      subst Reported (same_ok _ _ is) (record
      { verdict = halted (error.Attach errno) handled; told = tt; whole = refl; leads = k })
  stopped_reported handled nine error.MsizeTooSmall k e is = absurd k
  stopped_reported handled nine (error.Mount errno) k e is = absurd k
  stopped_reported handled nine error.Unmount k e is = absurd k
  stopped_reported handled nine error.NoMemory k e is = absurd cc
  stopped_reported handled nine error.Read k e is = absurd cc
  stopped_reported handled nine error.Write k e is = absurd cc

  reported : (r : Result Pumped Stopped) → SharesBy w t left in0 in1 replies last r → (e : Ending)
      → ending_of r ≡ Ok e → Reported e
  reported (Ok r) k e is = subst Reported (same_ok _ _ is)
      (record { verdict = verdict_of done r.handled; told = tt; whole = refl; leads = k })
  reported (Err r) k e is = stopped_reported r.handled r.nine_frames r.cause k e is

  pub Ran-reported : {X : Type 0} {k0 k1 : X} → (e : Ending) → ending_of result ≡ Ok e
      → nine_frames_of e.verdict < 2 ^ 64 → (answer : Status)
      → Tells (at_sink s0 out0 k0) (at_sink s1 out1 k1) e.status
      (report shown e.verdict (linked last) mount_table) answer
      → Ran serves left s0 s1 in0 in1 out0 out1 answer
  Ran-reported {X = X} {k0 = k0} {k1 = k1} e is fits answer tells =
      let r = reported result h.answer e is in
      told_by e.status r.verdict (nine_frames_of e.verdict) r.told fits r.leads answer
      (subst (λ (v : Verdict). Tells (at_sink s0 out0 k0) (at_sink s1 out1 k1) e.status
      (report shown v (linked last) mount_table) answer) (sym r.whole) tells)

  -- ---- a share after which nothing is reported

  abbrev RanSilently : Status → Type 0
  RanSilently s = Ran serves left s0 s0 in0 in1 out0 out0 s

  stopped_silently : (handled nine : ℕ) (cause : BridgeError)
      → StoppedBy w t left in0 in1 replies last handled nine cause → (s : Status)
      → stopped_by handled nine cause ≡ Err s → RanSilently s
  stopped_silently handled nine error.NoMemory k s is =
      subst RanSilently (same_err _ _ is) (Ran-memory serves left s0 in0 in1 out0 k)
  stopped_silently handled nine error.Read k s is =
      subst RanSilently (same_err _ _ is) (Ran-input serves left s0 in0 in1 out0 k)
  stopped_silently handled nine error.Write k s is = absurd k
  stopped_silently handled nine error.Unmount k s is = absurd k
  stopped_silently handled nine error.MsizeTooSmall k s is = absurd k
  stopped_silently handled nine (error.Mount errno) k s is = absurd k
  stopped_silently handled nine error.Torn k s is = absurd cc
  stopped_silently handled nine error.BadLength k s is = absurd cc
  stopped_silently handled nine error.TurnsSpent k s is = absurd cc
  stopped_silently handled nine (error.Attach errno) k s is = absurd cc

  silently : (r : Result Pumped Stopped) → SharesBy w t left in0 in1 replies last r → (s : Status)
      → ending_of r ≡ Err s → RanSilently s
  silently (Ok r) k s is = absurd cc
  silently (Err r) k s is = stopped_silently r.handled r.nine_frames r.cause k s is

  pub Ran-unreported : (s : Status) → ending_of result ≡ Err s → RanSilently s
  Ran-unreported s is = silently result h.answer s is
