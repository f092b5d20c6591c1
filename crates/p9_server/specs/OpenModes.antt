-- How a fid is open, without where that lies in memory.
use Rattle.fid_model.specs.Fids.{OpenState}
use Rattle.fid_model.specs.Fids.OpenState.{Closed as shut, Opened as open_for}
use Rattle.p9_server.specs.declared.fid_state.OpenMode.{OpenMode}
use Rattle.p9_server.specs.declared.fid_state.OpenMode.TheVariants.{Closed, Opened}

abbrev pub open_of : OpenMode → OpenState
open_of Closed = shut
open_of (Opened access append) = open_for access append
