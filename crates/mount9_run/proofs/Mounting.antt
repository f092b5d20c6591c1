-- A run on a header that was read, and the ways to end before.
use Rattle.std.proofs.Common.{◌≡◌, ℕ, List, [], ◌++◌, IfSome, Some, None, Result, Ok, Err, refl}
use Rattle.std.proofs.Common.{sym, ap, ◌∙◌}
use Rattle.std.specs.Prelude.{codes}
use Rattle.std.specs.declared.option.Option.{Option}
use Rattle.std.specs.Io.KnownBytes.{Consumes}
use Rattle.tree_model.specs.Tree.{linked}
use Rattle.fuse_wire.specs.Cuts.{cut}
use Rattle.mount9_run.specs.Command.{Serve, command}
use Rattle.mount9_run.specs.Header.{HeaderRead, header, header_by, header_of, with_rest, text_of}
use Rattle.mount9_run.specs.Reading.{lines_of}
use Rattle.mount9_run.specs.ReportLines.{number_line}
use Rattle.mount9_run.specs.Report.{report}
use Rattle.mount9_run.specs.Outcome.{refusal, halted, mount_table, mounted, served, run_of}
use Rattle.mount9_run.specs.Outcome.{refused_words, outcome, outcome_by}
use Rattle.mount9_run.specs.Wrote.{at_sink}
use Rattle.mount9_run.specs.Running.{Ran, Tells}
use Rattle.frame_pump.specs.declared.outcome.BridgeError.{BridgeError}
use Rattle.mount9_run.specs.declared.run.Status.{Status}
use Rattle.mount9_run.specs.declared.run.Status.TheVariants as status
use Rattle.mount9_run.proofs.Ran.{Ran-told, Ran-later, Ran-alike, always}

-- ---- the mount

module _ (w : Serve) (h : HeaderRead) (left s0 s1 : Option (List ℕ)) (in0 in1 out0 out1 : ℕ)
    (answer : Status) where
  pub Ran-unmounted : {X : Type 0} {k0 k1 : X} → (cause : BridgeError) → refusal w h ≡ Some cause
      → in1 ≡ in0 → Tells (at_sink s0 out0 k0) (at_sink s1 out1 k1) status.Stopped
      (report [] (halted cause 0 0) (linked h.tree) mount_table) answer
      → Ran (run_of w h) left s0 s1 in0 in1 out0 out1 answer
  Ran-unmounted cause is same tells = Ran-told (run_of w h) s0 s1 in0 in1 out0 out1 left
      status.Stopped (report [] (halted cause 0 0) (linked h.tree) mount_table) answer tt same
      (always left (λ bytes. ap (mounted w h.tree bytes) is)) tells

  pub Ran-mounted : refusal w h ≡ None → Ran (λ bytes. served w (linked h.tree) (cut w.turns bytes))
      left s0 s1 in0 in1 out0 out1 answer → Ran (run_of w h) left s0 s1 in0 in1 out0 out1 answer
  Ran-mounted is ran = Ran-alike (run_of w h)
      (λ bytes. served w (linked h.tree) (cut w.turns bytes)) left s0 s1 in0 in1 out0 out1 answer
      (λ bytes. sym (ap (mounted w h.tree bytes) is)) ran

-- ---- the words

pub Ran-words : {X : Type 0} {k0 k1 : X} (words : List (List ℕ)) (left s0 s1 : Option (List ℕ))
    (in0 out0 out1 : ℕ) (answer : Status) → command words ≡ None
    → Tells (at_sink s0 out0 k0) (at_sink s1 out1 k1) status.Words (codes "words\n") answer
    → Ran (outcome words) left s0 s1 in0 in0 out0 out1 answer
Ran-words words left s0 s1 in0 out0 out1 answer is tells =
    Ran-told (outcome words) s0 s1 in0 in0 out0 out1 left status.Words (codes "words\n") answer tt
    refl (always left (λ bytes. ap (λ o. outcome_by o (header bytes)) is)) tells

-- the same, whatever the input has left
pub Ran-refused : {X : Type 0} {k0 k1 : X} (s0 s1 : Option (List ℕ)) (in0 out0 out1 : ℕ)
    (answer : Status) → Tells (at_sink s0 out0 k0) (at_sink s1 out1 k1) status.Words
    (codes "words\n") answer → Ran refused_words (Some []) s0 s1 in0 in0 out0 out1 answer
Ran-refused s0 s1 in0 out0 out1 answer tells =
    Ran-told refused_words s0 s1 in0 in0 out0 out1 (Some []) status.Words (codes "words\n") answer
    tt refl refl tells

-- words that command something aren't refused
pub commanded : (words : List (List ℕ)) (s : Serve) → command words ≡ Some s → command words ≡ None
    → ⊥
commanded words s is none = let clash : Some s ≡ None = sym is ∙ none in cc

-- ---- the header

module _ (words : List (List ℕ)) (s : Serve) (is : command words ≡ Some s) where
  leads_to : (text rest : List ℕ) (read : Result HeaderRead ℕ)
      → text_of (text ++ rest) ≡ Some (text, rest) → header_of (lines_of text) ≡ read
      → outcome words (text ++ rest) ≡ outcome_by (Some s) (with_rest rest read)
  unfolding header
  leads_to text rest read whole told = (λ j. outcome_by (is j) (header_by (whole j)))
      ∙ ap (λ (r : Result HeaderRead ℕ). outcome_by (Some s) (with_rest rest r)) told

  endless : (bytes : List ℕ) → text_of bytes ≡ None
      → outcome words bytes ≡ (status.Header, number_line (codes "header") 0)
  unfolding header
  endless bytes none = (λ j. outcome_by (is j) (header_by (none j)))

  module _ (l0 l1 s0 s1 : Option (List ℕ)) (in0 in1 out0 out1 : ℕ) (answer : Status) where
    no_end : (left : Option (List ℕ)) → IfSome left (λ bytes. text_of bytes ≡ None)
        → IfSome left (λ bytes. outcome words bytes
        ≡ (status.Header, number_line (codes "header") 0))
    no_end None h = tt
    no_end (Some bytes) h = endless bytes h

    pub Ran-endless : {X : Type 0} {k0 k1 : X} → in1 ≡ in0
        → IfSome l0 (λ bytes. text_of bytes ≡ None)
        → Tells (at_sink s0 out0 k0) (at_sink s1 out1 k1) status.Header
        (number_line (codes "header") 0) answer
        → Ran (outcome words) l0 s0 s1 in0 in1 out0 out1 answer
    Ran-endless same none tells = Ran-told (outcome words) s0 s1 in0 in1 out0 out1 l0 status.Header
        (number_line (codes "header") 0) answer tt same (no_end l0 none) tells

    module _ (text : List ℕ) (taken : Consumes l0 l1 text)
        (whole : (rest : List ℕ) → text_of (text ++ rest) ≡ Some (text, rest)) where
      pub Ran-line : {X : Type 0} {k0 k1 : X} → (line : ℕ) → header_of (lines_of text) ≡ Err line
          → in1 ≡ in0 → Tells (at_sink s0 out0 k0) (at_sink s1 out1 k1) status.Header
          (number_line (codes "header") line) answer
          → Ran (outcome words) l0 s0 s1 in0 in1 out0 out1 answer
      Ran-line line read same tells =
          Ran-later (outcome words) (λ rest. (status.Header, number_line (codes "header") line))
          text (λ rest. leads_to text rest (Err line) (whole rest) read) l0 l1 s0 s1 in1 in1
          out0 out1 taken in0 same answer
          (Ran-told (λ rest. (status.Header, number_line (codes "header") line)) s0 s1 in1 in1 out0
          out1 l1 status.Header (number_line (codes "header") line) answer tt refl
          (always l1 (λ bytes. refl)) tells)

      pub Ran-header : (h : HeaderRead) (between : ℕ) → header_of (lines_of text) ≡ Ok h
          → between ≡ in0 → Ran (run_of s h) l1 s0 s1 between in1 out0 out1 answer
          → Ran (outcome words) l0 s0 s1 in0 in1 out0 out1 answer
      Ran-header h between read same ran =
          Ran-later (outcome words) (run_of s h) text
          (λ rest. leads_to text rest (Ok h) (whole rest) read) l0 l1 s0 s1 between in1 out0
          out1 taken in0 same answer ran
