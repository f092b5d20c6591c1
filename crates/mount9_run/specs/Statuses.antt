-- The exit statuses of a run, and its clauses in the reader's terms.
use Rattle.std.specs.Prelude.{◌≡◌, ℕ, ◌-◌, ◌^◌, min, List, length, Ok, Some}
use Rattle.std.specs.declared.option.Option.{Option}
use Rattle.std.specs.Io.KnownBytes.{Appends}
use Rattle.tree_model.specs.Tree.{Tree, linked}
use Rattle.tree_model.specs.Good.{IsGoodTree}
use Rattle.tree_model.specs.Finding.{root_of}
use Rattle.fuse_wire.specs.Cuts.{cut}
use Rattle.fuse_wire.specs.Cuts.End.{done}
use Rattle.tree_machine.specs.Play.{play}
use Rattle.tree_machine.specs.Messages.{total}
use Rattle.mount9_run.specs.Command.{Serve, command}
use Rattle.mount9_run.specs.Header.{HeaderRead, header}
use Rattle.mount9_run.specs.Report.{report}
use Rattle.mount9_run.specs.Outcome.{Outcome, share_settings, piece, mount_table, verdict_of}
use Rattle.mount9_run.specs.Running.{Ran}
use Rattle.mount9_run.specs.declared.run.Status.{Status}
use Rattle.mount9_run.specs.declared.run.Status.TheVariants.{Served, Stopped, Words, Header}
use Rattle.mount9_run.specs.declared.run.Status.TheVariants.{Memory, Input, Output}

-- the number that the program exits with
abbrev pub exit_code : Status → ℕ
exit_code Served = 0
exit_code Stopped = 1
exit_code Words = 2
exit_code Header = 3
exit_code Memory = 4
exit_code Input = 5
exit_code Output = 6

-- the number of a status by which a run is told
pub record Exits (f : List ℕ → Outcome) (left sent0 sent1 : Option (List ℕ))
    (in0 in1 out0 out1 code : ℕ) : Type 0 where
  pub status : Status
  pub is : code ≡ exit_code status
  pub ran : Ran f left sent0 sent1 in0 in1 out0 out1 status

-- the words and the header are accepted, the input ends at a frame's end, and the text is the
-- report of the replies and of the final tree of the machine, which plays the frames from the
-- header's tree
pub record IsPlayReport (words : List (List ℕ)) (bytes text : List ℕ) : Type 0 where
  pub serve : Serve
  pub commanded : command words ≡ Some serve
  pub described : HeaderRead
  pub rest : List ℕ
  pub headed : header bytes ≡ Ok (described, rest)
  pub root : ℕ
  pub found : root_of described.tree (share_settings serve).root ≡ Ok root
  pub whole : (cut serve.turns rest).end ≡ done
  pub messages : ℕ
  pub counted : messages
      ≡ min
      (total (piece serve) (share_settings serve) described.tree root
      (cut serve.turns rest).frames) (2 ^ 64 - 1)
  pub text_is : text
      ≡ report (play (share_settings serve) described.tree root (cut serve.turns rest).frames).0
      (verdict_of done (length (cut serve.turns rest).frames) messages)
      (play (share_settings serve) described.tree root (cut serve.turns rest).frames).1 mount_table

-- a good tree of linked records alone
pub record IsWholeTree (t : Tree) : Type 0 where
  pub good : IsGoodTree t
  pub whole : linked t ≡ t

-- what was sent is such a text
abbrev pub SendsPlayReport : List (List ℕ) → List ℕ → Option (List ℕ) → Option (List ℕ) → Type 0
SendsPlayReport words bytes sent0 sent1 = (text : List ℕ) × Appends sent0 sent1 text
    × IsPlayReport words bytes text
