-- A run by the number that it exits with.
use Rattle.std.proofs.Common.{◌≡◌, ⊎_elim, ◌⊎◌, inl, inr, ℕ, ◌-◌, ◌^◌, min, List, [], length}
use Rattle.std.proofs.Common.{IfSome, Some, None, Ok, refl, sym, ap, ◌∙◌, subst, arith}
use Rattle.std.specs.declared.option.Option.{Option}
use Rattle.port_base.specs.Faults.{Faulted}
use Rattle.tree_model.specs.Tree.{Tree, linked}
use Rattle.tree_model.specs.Finding.{root_of}
use Rattle.fuse_wire.specs.Cuts.{Cut, cut}
use Rattle.fuse_wire.specs.Cuts.End.{done}
use Rattle.tree_machine.specs.State.{begun}
use Rattle.tree_machine.specs.Play.{play}
use Rattle.tree_machine.specs.Messages.{total}
use Rattle.tree_machine.proofs.Steps.{play_good}
use Rattle.tree_machine.proofs.Begun.{begun_good}
use Rattle.fuse_gate.proofs.Attachings.{linked_twice}
use Rattle.mount9_run.specs.Header.{HeaderRead, header}
use Rattle.mount9_run.specs.Report.{report}
use Rattle.mount9_run.specs.Outcome.{Outcome, outcome, share_settings, piece, mount_table}
use Rattle.mount9_run.specs.Outcome.{verdict_of}
use Rattle.mount9_run.specs.Causes.{IsAccepted, IsValidInput}
use Rattle.mount9_run.specs.Running.{RanBy, Ran}
use Rattle.mount9_run.specs.Statuses.{exit_code, IsWholeTree, IsPlayReport, SendsPlayReport}
use Rattle.mount9_run.specs.declared.run.Status.{Status}
use Rattle.mount9_run.specs.declared.run.Status.TheVariants.{Served, Stopped, Words, Header, Memory}
use Rattle.mount9_run.specs.declared.run.Status.TheVariants.{Input, Output}
use Rattle.mount9_run.proofs.Causes.{served_outcome, served_exactly, answers_alike}

pub served_by_code : (s : Status) → exit_code s ≡ 0 → s ≡ Served
served_by_code Served is = refl
served_by_code Stopped is = absurd (omega (arith, is))
served_by_code Words is = absurd (omega (arith, is))
served_by_code Header is = absurd (omega (arith, is))
served_by_code Memory is = absurd (omega (arith, is))
served_by_code Input is = absurd (omega (arith, is))
served_by_code Output is = absurd (omega (arith, is))

-- what holds of each input with a header, holds where the input tells its bytes
abbrev pub Headed : Option (List ℕ) → Type 0
Headed left = IfSome left (λ bytes. (h : HeaderRead) (rest : List ℕ) → header bytes ≡ Ok (h, rest)
    → IsWholeTree h.tree)

-- ---- the text of valid input

module _ (words : List (List ℕ)) (bytes : List ℕ) (v : IsValidInput words bytes)
    (w : IsWholeTree v.accepted.described.tree) where
  a : IsAccepted words bytes
  a = v.accepted

  t : Tree
  t = a.described.tree

  c : Cut
  c = cut a.serve.turns a.rest

  base : ℕ
  base = v.root

  found : root_of t (share_settings a.serve).root ≡ Ok base
  unfolding a t base
  found = ap (λ (x : Tree). root_of x (share_settings a.serve).root) (sym w.whole) ∙ v.found

  final : linked (play (share_settings a.serve) t base c.frames).1
      ≡ (play (share_settings a.serve) t base c.frames).1
  unfolding a t c base
  final = linked_twice _ (play_good (share_settings a.serve) (begun t base) c.frames
      (begun_good (share_settings a.serve) t base w.good found v.some)).tree

  text : (outcome words bytes).1 ≡ report (play (share_settings a.serve) t base c.frames).0
      (verdict_of done (length c.frames) (min
      (total (piece a.serve) (share_settings a.serve) t base c.frames) (2 ^ 64 - 1)))
      (play (share_settings a.serve) t base c.frames).1 mount_table
  unfolding a t c base
  text =
      ap (λ (o : Outcome). o.1) (served_outcome words bytes v)
      ∙ (λ j. report (play (share_settings a.serve) (w.whole j) base c.frames).0
      (verdict_of (v.whole j) (length c.frames)
      (min (total (piece a.serve) (share_settings a.serve) (w.whole j) base c.frames)
      (2 ^ 64 - 1)))
      (linked (play (share_settings a.serve) (w.whole j) base c.frames).1) mount_table)
      ∙ ap (λ (x : Tree). report (play (share_settings a.serve) t base c.frames).0
      (verdict_of done (length c.frames) (min
      (total (piece a.serve) (share_settings a.serve) t base c.frames) (2 ^ 64 - 1))) x
      mount_table) final

  play_report : IsPlayReport words bytes (outcome words bytes).1
  unfolding a t c base
  play_report = record {
    serve = a.serve;
    commanded = a.commanded;
    described = a.described;
    rest = a.rest;
    headed = a.headed;
    root = base;
    found = found;
    whole = v.whole;
    messages = min (total (piece a.serve) (share_settings a.serve) t base c.frames) (2 ^ 64 - 1);
    counted = refl;
    text_is = text;
  }

-- ---- a run that was served sent it

pub Ran-played : (words : List (List ℕ)) (left s0 s1 : Option (List ℕ)) (in0 in1 out0 out1 : ℕ)
    (s : Status) → s ≡ Served → Headed left
    → Ran (outcome words) left s0 s1 in0 in1 out0 out1 s
    → IfSome left (λ bytes. SendsPlayReport words bytes s0 s1)
Ran-played words None s0 s1 in0 in1 out0 out1 s is headed ran = tt
Ran-played words (Some bytes) s0 s1 in0 in1 out0 out1 s is headed ran =
    let by : RanBy (outcome words) (Some bytes) s0 s1 in0 in1 out0 out1 Served =
    subst (RanBy (outcome words) (Some bytes) s0 s1 in0 in1 out0 out1) is ran.answer in
    let v : IsValidInput words bytes = (served_exactly words bytes).0 by.2.0 in (
      (outcome words bytes).1,
      by.2.1,
      play_report words bytes v
          (headed v.accepted.described v.accepted.rest v.accepted.headed),
    )

-- ---- valid input without a fault is served, or there is no memory

pub Ran-valid : (words : List (List ℕ)) (left s0 s1 : Option (List ℕ)) (in0 in1 out0 out1 code : ℕ)
    (s : Status) → code ≡ exit_code s
    → Ran (outcome words) left s0 s1 in0 in1 out0 out1 s
    → IfSome left (λ bytes. IsValidInput words bytes → (Faulted in0 in1 → ⊥)
    → (Faulted out0 out1 → ⊥) → (code ≡ 0) ⊎ (code ≡ 4))
Ran-valid words None s0 s1 in0 in1 out0 out1 code s is ran = tt
Ran-valid words (Some bytes) s0 s1 in0 in1 out0 out1 code s is ran = λ v quiet_in quiet_out.
    let served : (outcome words bytes).0 ≡ Served = (served_exactly words bytes).1 v in
    ⊎_elim (λ (e : s ≡ (outcome words bytes).0).
    let same : s ≡ Served = ◌∙◌ {a = s} {b = (outcome words bytes).0} {c = Served} e served in
    inl (is ∙ ap exit_code same))
    (λ e. inr (is ∙ ap exit_code e))
    (answers_alike words bytes s0 s1 in0 in1 out0 out1 quiet_in quiet_out s ran)
