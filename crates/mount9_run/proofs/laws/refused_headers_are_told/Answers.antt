-- A header is refused exactly so.
use Rattle.mount9_run.proofs.Causes.{header_exactly}
use Rattle.mount9_run.proofs.laws.refused_headers_are_told.Goals as goal

pub returns : goal.returns
returns c words bytes = header_exactly words bytes
