-- How much of its input a run takes.
use Rattle.std.specs.Prelude.{ℕ, ◌+◌, min, List, length, Option, Some, None, Result, Ok, Err}
use Rattle.std.specs.Io.KnownBytes.{IsAtEnd}
use Rattle.std.specs.List.{concat}
use Rattle.port_base.specs.Streams.{TookExactly}
use Rattle.tree_model.specs.Tree.{Tree, linked}
use Rattle.fuse_wire.specs.Cuts.{Cut, cut, End}
use Rattle.fuse_wire.specs.Cuts.End.{done, turns_spent, torn, bad_length}
use Rattle.frame_pump.specs.declared.outcome.BridgeError.{BridgeError}
use Rattle.mount9_run.specs.Command.{Serve, command}
use Rattle.mount9_run.specs.Header.{HeaderRead, Split, header_of, text_of}
use Rattle.mount9_run.specs.Reading.{lines_of}
use Rattle.mount9_run.specs.Outcome.{refusal, root_given}
use Rattle.mount9_run.specs.declared.header.text.TheConstants.{HEADER_LIMIT}

-- all that there is, or just so many bytes
pub data Taken : Type 0 where
  everything : Taken
  just : ℕ → Taken

-- so much was taken of an input
abbrev pub Took : Taken → Option (List ℕ) → Option (List ℕ) → Type 0
Took everything left0 left1 = IsAtEnd left1
Took (just n) left0 left1 = TookExactly left0 left1 n

-- as much, and so many bytes before it
abbrev pub behind : ℕ → Taken → Taken
behind n everything = everything
behind n (just more) = just (n + more)

-- ---- the frames

-- what is taken where no more frame is: all there is, the four bytes of a length that no frame
-- has, or one byte where no turn is left
abbrev pub end_taken : End → Taken
end_taken done = everything
end_taken torn = everything
end_taken bad_length = just 4
end_taken turns_spent = just 1

abbrev pub cut_taken : Cut → Taken
cut_taken c = behind (length (concat c.frames)) (end_taken c.end)

-- no frame is taken where the root isn't attached to
abbrev pub served_taken : Serve → Result ℕ ℕ → List ℕ → Taken
served_taken s (Err errno) rest = just 0
served_taken s (Ok root) rest = cut_taken (cut s.turns rest)

-- nor where messages are too short or the mount is refused
abbrev pub mounted_taken : Serve → Tree → List ℕ → Option BridgeError → Taken
mounted_taken s t rest (Some cause) = just 0
mounted_taken s t rest None = served_taken s (root_given s (linked t)) rest

-- ---- the header

-- nor where a line of the header is refused
abbrev pub described_taken : Serve → List ℕ → Result HeaderRead ℕ → Taken
described_taken s rest (Err line) = just 0
described_taken s rest (Ok h) = mounted_taken s h.tree rest (refusal s h)

-- the text of the header up to its line `end`, or as much as a header may have where there is none
abbrev pub header_taken : Serve → List ℕ → Split → Taken
header_taken s bytes None = just (min HEADER_LIMIT (length bytes))
header_taken s bytes (Some p) =
    behind (length p.0) (described_taken s p.1 (header_of (lines_of p.0)))

-- refused words take nothing
abbrev pub command_taken : Option Serve → List ℕ → Taken
command_taken None bytes = just 0
command_taken (Some s) bytes = header_taken s bytes (text_of bytes)

-- what these words take of these bytes
abbrev pub taken : List (List ℕ) → List ℕ → Taken
taken words bytes = command_taken (command words) bytes
