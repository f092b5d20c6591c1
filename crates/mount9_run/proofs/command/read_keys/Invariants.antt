-- The words so far gave the draft.
use Rattle.std.proofs.Common.{◌≡◌, drop}
use Rattle.mount9_run.specs.Command.{with_words, no_words}
use Rattle.mount9_run.specs.CommandViews.{draft_view}
use Rattle.mount9_run.proofs.command.read_keys.Given as goal

abbrev pub invariant-words : goal.invariant-words
invariant-words l = with_words no_words (drop 1 l.words) ≡ with_words (draft_view l.draft)
    (drop l.i l.words)
