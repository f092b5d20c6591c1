-- A gate over a small server, on which what it shows is computed.
use Rattle.std.specs.Prelude.{false}
use Rattle.std.specs.FinMap.{insert, empty}
use Rattle.std.specs.Global.{Global}
use Rattle.fuse_gate.specs.declared.gate.Gate.{Gate}
use Rattle.fuse_gate.specs.declared.gate.Phase.TheVariants.{Started}

-- nodes 1 and 2 name the directory with inode 1 and the file with inode 2, and handle 3 is the
-- file, open to be read
abbrev pub gate : Global → Gate
gate a = record {
  alloc = a;
  phase = Started;
  nodes = insert (insert empty 1 (record { ino = 1; count = 1; kind = 128 })) 2
      (record { ino = 2; count = 4; kind = 0 });
  handles = insert empty 3 (record { ino = 2; access = 0; append = false; kind = 0 });
  ids = insert (insert empty 1 1) 2 2;
  next = 4;
  used = 3;
  nine_frames = 6;
}
