-- A small server, on which the fid machine is computed.
use Rattle.std.specs.Prelude.{[], Bool, false}
use Rattle.std.specs.FinMap.{insert, empty}
use Rattle.tree_model.specs.Samples.{born, sample, world}
use Rattle.tree_model.specs.Tree.{Record}
use Rattle.tree_model.specs.Tree.Body.{Link}
use Rattle.tree_model.specs.Settings.{Settings}
use Rattle.tree_model.specs.Attributes.{Qid}
use Rattle.fid_model.specs.Fids.{ServerState, closed}
use Rattle.fid_model.specs.Fids.OpenState.{Opened}

-- the whole tree is shared, with up to two fids
abbrev pub settings : Settings
settings = record { root = []; uid_map = empty; gid_map = empty; casefold = false; limit = 2 }

-- fid 7 names the top directory of a tree with the file `hello`
abbrev pub server : ServerState
server = record {
  tree = sample;
  fids = insert empty 7 (closed 1);
  msize = 256;
  settings = settings;
}

-- and fid 8 the file, which is open to be read
abbrev pub with_open : ServerState
with_open =
    record server { fids = insert server.fids 8 (record { ino = 2; open_state = Opened 0 false }) }

-- and fid 8 the file, which is open to be written, at its end or not
abbrev pub with_writer : Bool → ServerState
with_writer append =
    record server {
      fids = insert server.fids 8 (record { ino = 2; open_state = Opened 1 append });
    }

-- and fid 8 the top directory, which is open
abbrev pub with_listing : ServerState
with_listing =
    record server { fids = insert server.fids 8 (record { ino = 1; open_state = Opened 0 false }) }

-- and fid 8 the file, which isn't open
abbrev pub with_closed : ServerState
with_closed = record server { fids = insert server.fids 8 (closed 2) }

-- a link to `world`
abbrev pub link_record : Record
link_record = record {
  body = Link world.bytes;
  mode = 511;
  uid = 5;
  gid = 6;
  links = 1;
  atime = born;
  mtime = born;
  ctime = born;
}

-- the same tree, where `hello` is a link, which fid 8 names
abbrev pub with_link : ServerState
with_link = record server {
  tree = record sample { records = insert sample.records 2 link_record };
  fids = insert server.fids 8 (closed 2);
}

abbrev pub top_qid : Qid
top_qid = (128, (7, 1))

abbrev pub file_qid : Qid
file_qid = (0, (7, 2))
