-- An entry that stands first is read.
use Rattle.std.proofs.Common.{Some}
use Rattle.p9_client.proofs.Listed.{entry_wants_memory}
use Rattle.p9_client.proofs.listing.take_entry.Goals as goal

pub unreachable-requires : goal.unreachable-requires
unreachable-requires c = entry_wants_memory c.args.source.now.rest.now c.requires
    (Some c.decode.new.source.rest.now) c.in-Err.fault c.in_default.not-NoMemory
    c.in-Err.ensures.decodes.answer
