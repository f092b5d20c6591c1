-- A request that was read, without where its bytes lie.
use Rattle.std.specs.Prelude.{◌≡◌, ℕ, List, Result, Ok, Err}
use Rattle.fuse_wire.specs.Head.{head_of}
use Rattle.fuse_wire.specs.Request.{Request, init, lookup, getattr, unlink, rmdir, rename, rename2}
use Rattle.fuse_wire.specs.Request.{symlink, mknod, mkdir, readlink, statfs, open_file, read, opendir}
use Rattle.fuse_wire.specs.Request.{link, create}
use Rattle.fuse_wire.specs.Request.{readdir, releasedir, flush, release, fsync, fsyncdir, forget}
use Rattle.fuse_wire.specs.Request.{batch_forget, interrupt, destroy, setattr, write}
use Rattle.fuse_wire.specs.Request.{request_of}
use Rattle.fuse_wire.specs.declared.ids.Errno.{Errno}
use Rattle.fuse_wire.specs.declared.request.Body.{Body}
use Rattle.fuse_wire.specs.declared.request.Body.TheVariants as body
use Rattle.fuse_wire.specs.declared.request.FuseRequest.{FuseRequest}

abbrev pub plain : Body → Request
plain (body.Init major minor max_readahead flags) = init major minor max_readahead flags
plain (body.Lookup name) = lookup name.now
plain (body.GetAttr handle) = getattr handle
plain (body.SetAttr asked) = setattr asked
plain (body.Unlink name) = unlink name.now
plain (body.RmDir name) = rmdir name.now
plain (body.Rename newdir old new) = rename newdir old.now new.now
plain (body.Rename2 newdir flags old new) = rename2 newdir flags old.now new.now
plain (body.Symlink name target) = symlink name.now target.now
plain (body.MkNod mode rdev name) = mknod mode rdev name.now
plain (body.MkDir mode name) = mkdir mode name.now
plain (body.Link old name) = link old name.now
plain (body.Create flags mode name) = create flags mode name.now
plain body.ReadLink = readlink
plain body.StatFs = statfs
plain (body.OpenFile flags) = open_file flags
plain (body.Read fh offset size flags lock) = read fh offset size flags lock
plain (body.Write fh offset bytes) = write fh offset bytes.now
plain (body.OpenDir flags) = opendir flags
plain (body.ReadDir fh offset size flags lock) = readdir fh offset size flags lock
plain (body.ReleaseDir fh) = releasedir fh
plain (body.Flush fh) = flush fh
plain (body.Release fh) = release fh
plain (body.FSync fh flags) = fsync fh flags
plain (body.FSyncDir fh flags) = fsyncdir fh flags
plain (body.Forget nlookup) = forget nlookup
plain (body.BatchForget pairs) = batch_forget pairs.now
plain body.Interrupt = interrupt
plain body.Destroy = destroy

-- the body that is told, or the error
abbrev pub Gives : Result Body Errno → Result Request ℕ → Type 0
Gives (Ok b) told = told ≡ Ok (plain b)
Gives (Err e) told = told ≡ Err e.0

-- the head and the body are the frame's
pub record IsRead (r : FuseRequest) (frame : List ℕ) : Type 0 where
  pub head : r.head ≡ head_of frame
  pub asks : request_of frame ≡ Ok (plain r.body)

-- what reading a frame gives: the request, or the error that is told
abbrev pub Reads : Result FuseRequest Errno → List ℕ → Type 0
Reads (Ok r) frame = IsRead r frame
Reads (Err e) frame = request_of frame ≡ Err e.0
