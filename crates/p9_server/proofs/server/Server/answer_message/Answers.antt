-- The reply to each message is what its step gives.
use Rattle.std.proofs.Common.{◌∙◌, refl, ap, subst, List, ℕ, Vec, map, IfOk}
use Rattle.p9_wire.specs.Qids.{qid_of}
use Rattle.port_base.specs.declared.errno.TheConstants.{EACCES}
use Rattle.p9_tmsg.specs.Messages.Message.{walk, getattr, attach, clunk, lopen, read, statfs, fsync}
use Rattle.p9_tmsg.specs.Messages.Message.{readlink, lock, getlock, version, link, mkdir, renameat}
use Rattle.p9_tmsg.specs.Messages.Message.{unlinkat, lcreate, readdir, setattr, write}
use Rattle.p9_rmsg.specs.Replies.Reply.{walk as walked, getattr as shown, attach as attached}
use Rattle.p9_rmsg.specs.Replies.Reply.{clunk as clunked, lopen as was_opened, read as was_read}
use Rattle.p9_rmsg.specs.Replies.Reply.{fsync as synced, readlink as target, lock as locked}
use Rattle.p9_rmsg.specs.Replies.Reply.{getlock as free, version as agreed, flush as flushed}
use Rattle.p9_rmsg.specs.Replies.Reply.{lerror, link as linked, mkdir as made, renameat as moved}
use Rattle.p9_rmsg.specs.Replies.Reply.{unlinkat as unlinked, lcreate as created}
use Rattle.p9_rmsg.specs.Replies.Reply.{readdir as was_listed}
use Rattle.p9_rmsg.specs.Replies.Reply.{setattr as were_set, write as written}
use Rattle.fid_model.specs.Files.{statfs_reply}
use Rattle.fid_model.specs.Answers.{attributes_of}
use Rattle.p9_rmsg.specs.Replies.{reply_of}
use Rattle.fid_model.specs.Fids.{ServerState}
use Rattle.fid_model.specs.Moments.{Moment}
use Rattle.p9_server.specs.Answering.{Fits}
use Rattle.p9_server.specs.Steps.{moment_of, Steps}
use Rattle.p9_server.specs.GoodServer.{server_good}
use Rattle.p9_server.proofs.Answered.{answered, answered_long, answered_smaller, any_mask, any_user}
use Rattle.p9_server.proofs.Answered.{names_are}
use Rattle.p9_server.proofs.Unserved.{at_once, unserved}
use Rattle.p9_server.proofs.server.Server.answer_message.Goals as goal

pub returns-in-Walk-clause-answered : goal.returns-in-Walk-clause-answered
returns-in-Walk-clause-answered g c =
    let s = c.args.self.now in
    let n = c.walk.new.self in
    let m = c.in-Walk.m in
    let e = c.walk.ensures in
    let before : Moment = moment_of (g.H.Host.tree s.host) (g.H.Host.calls s.host) s.fids s.msize
    s.share s.asked in
    let after : Moment = moment_of (g.H.Host.tree n.host) (g.H.Host.calls n.host) n.fids n.msize
    n.share n.asked in
    rw c.in-Walk.is
    (answered (walk m.fid m.newfid (map (λ (s : List ℕ). s) m.wnames.items))
    (λ (v : Vec _ _). walked (map qid_of v.items)) before after
    (record { msize = e.fixed.0; settings = e.fixed.1; steady = e.steady }) c.walk.result
    c.walk_reply.result s.sound.roomy
    (subst (λ (names : List (List ℕ)). Steps (walk m.fid m.newfid names)
    (λ (v : Vec _ _). walked (map qid_of v.items)) before after c.walk.result)
    (c.deref.ensures.value ∙ names_are m.wnames.items) e.step)
    c.walk_reply.ensures.reply c.walk_reply.ensures.short)

pub returns-in-GetAttr-clause-answered : goal.returns-in-GetAttr-clause-answered
returns-in-GetAttr-clause-answered g c =
    let s = c.args.self.now in
    let n = c.get_attr.new.self in
    let m = c.in-GetAttr.m in
    let e = c.get_attr.ensures in
    let before : Moment = moment_of (g.H.Host.tree s.host) (g.H.Host.calls s.host) s.fids s.msize
    s.share s.asked in
    let after : Moment = moment_of (g.H.Host.tree n.host) (g.H.Host.calls n.host) n.fids n.msize
    n.share n.asked in
    rw c.in-GetAttr.is
    (answered (getattr m.fid m.request_mask) (λ a. shown (attributes_of a)) before after
    (record { msize = e.fixed.0; settings = e.fixed.1; steady = e.steady }) c.get_attr.result
    c.getattr_reply.result s.sound.roomy
    (any_mask (λ a. shown (attributes_of a)) before.state after.state before.steady before.faults
    after.faults m.fid m.request_mask c.get_attr.result e.step)
    c.getattr_reply.ensures.reply c.getattr_reply.ensures.short)

pub returns-in-Attach-clause-answered : goal.returns-in-Attach-clause-answered
returns-in-Attach-clause-answered g c =
    let s = c.args.self.now in
    let n = c.attach.new.self in
    let m = c.in-Attach.m in
    let e = c.attach.ensures in
    let before : Moment = moment_of (g.H.Host.tree s.host) (g.H.Host.calls s.host) s.fids s.msize
    s.share s.asked in
    let after : Moment = moment_of (g.H.Host.tree n.host) (g.H.Host.calls n.host) n.fids n.msize
    n.share n.asked in
    rw c.in-Attach.is
    (answered (attach m.fid m.afid m.uname m.aname m.n_uname) (λ q. attached (qid_of q)) before
    after (record { msize = e.fixed.0; settings = e.fixed.1; steady = e.steady })
    c.attach.result c.attach_reply.result s.sound.roomy
    (any_user (λ q. attached (qid_of q)) before.state after.state before.steady before.faults
    after.faults m.fid m.afid m.uname m.aname m.n_uname c.attach.result e.step)
    c.attach_reply.ensures.reply c.attach_reply.ensures.short)

pub returns-in-Clunk-clause-answered : goal.returns-in-Clunk-clause-answered
returns-in-Clunk-clause-answered g c =
    let s = c.args.self.now in
    let n = c.clunk.new.self in
    let m = c.in-Clunk.m in
    let e = c.clunk.ensures in
    let before : Moment = moment_of (g.H.Host.tree s.host) (g.H.Host.calls s.host) s.fids s.msize
    s.share s.asked in
    let after : Moment = moment_of (g.H.Host.tree n.host) (g.H.Host.calls n.host) n.fids n.msize
    n.share n.asked in
    rw c.in-Clunk.is
    (answered (clunk m.fid) (λ _. clunked) before after
    (record { msize = e.fixed.0; settings = e.fixed.1; steady = e.steady }) c.clunk.result
    c.clunk_reply.result s.sound.roomy
    e.step
    c.clunk_reply.ensures.reply c.clunk_reply.ensures.short)

pub returns-in-Lopen-clause-answered : goal.returns-in-Lopen-clause-answered
returns-in-Lopen-clause-answered g c =
    let s = c.args.self.now in
    let n = c.open.new.self in
    let m = c.in-Lopen.m in
    let e = c.open.ensures in
    let before : Moment = moment_of (g.H.Host.tree s.host) (g.H.Host.calls s.host) s.fids s.msize
    s.share s.asked in
    let after : Moment = moment_of (g.H.Host.tree n.host) (g.H.Host.calls n.host) n.fids n.msize
    n.share n.asked in
    rw c.in-Lopen.is
    (answered (lopen m.fid m.flags) (λ q. was_opened (qid_of q) 0) before after
    (record { msize = e.fixed.0; settings = e.fixed.1; steady = e.steady }) c.open.result
    c.open_reply.result s.sound.roomy
    e.step
    c.open_reply.ensures.reply c.open_reply.ensures.short)

pub returns-in-Read-clause-answered : goal.returns-in-Read-clause-answered
returns-in-Read-clause-answered g c =
    let s = c.args.self.now in
    let n = c.read.new.self in
    let m = c.in-Read.m in
    let e = c.read.ensures in
    let before : Moment = moment_of (g.H.Host.tree s.host) (g.H.Host.calls s.host) s.fids s.msize
    s.share s.asked in
    let after : Moment = moment_of (g.H.Host.tree n.host) (g.H.Host.calls n.host) n.fids n.msize
    n.share n.asked in
    let same_msize = ap (λ (s : ServerState). s.msize) e.same in
    rw c.in-Read.is
    (answered_long (read m.fid m.offset m.count) (λ (v : Vec _ _). was_read v.items) before after
    (record {
      msize = same_msize;
      settings =
          ap (λ (s : ServerState). s.settings) e.same;
      steady = e.steady;
    }) c.read.result
    c.read_reply.result e.same
    e.step c.read_reply.ensures.reply (subst (λ (size : ℕ). IfOk c.read_reply.result
    (λ r. Fits size (reply_of r))) same_msize c.read_reply.ensures.fits))

pub returns-in-Statfs-clause-answered : goal.returns-in-Statfs-clause-answered
returns-in-Statfs-clause-answered g c =
    let s = c.args.self.now in
    let n = c.statfs.new.self in
    let m = c.in-Statfs.m in
    let e = c.statfs.ensures in
    let before : Moment = moment_of (g.H.Host.tree s.host) (g.H.Host.calls s.host) s.fids s.msize
    s.share s.asked in
    let after : Moment = moment_of (g.H.Host.tree n.host) (g.H.Host.calls n.host) n.fids n.msize
    n.share n.asked in
    rw c.in-Statfs.is
    (answered (statfs m.fid) statfs_reply before after
    (record { msize = e.fixed.0; settings = e.fixed.1; steady = e.steady }) c.statfs.result
    c.sizes_reply.result s.sound.roomy
    e.step
    c.sizes_reply.ensures.reply c.sizes_reply.ensures.short)

pub returns-in-Lcreate-clause-answered : goal.returns-in-Lcreate-clause-answered
returns-in-Lcreate-clause-answered g c =
    let s = c.args.self.now in
    let n = c.create.new.self in
    let m = c.in-Lcreate.m in
    let e = c.create.ensures in
    let before : Moment = moment_of (g.H.Host.tree s.host) (g.H.Host.calls s.host) s.fids s.msize
    s.share s.asked in
    let after : Moment = moment_of (g.H.Host.tree n.host) (g.H.Host.calls n.host) n.fids n.msize
    n.share n.asked in
    rw c.in-Lcreate.is
    (answered (lcreate m.fid m.name m.flags m.mode m.gid) (λ q. created (qid_of q) 0) before after
    (record { msize = e.fixed.0; settings = e.fixed.1; steady = e.steady }) c.create.result
    c.create_reply.result s.sound.roomy
    (subst (λ (name : List ℕ). Steps (lcreate m.fid name m.flags m.mode m.gid)
    (λ q. created (qid_of q) 0) before after c.create.result) c.as_bytes.ensures.bytes
    (e.step m.gid))
    c.create_reply.ensures.reply c.create_reply.ensures.short)

pub returns-in-Symlink-clause-answered : goal.returns-in-Symlink-clause-answered
returns-in-Symlink-clause-answered g c =
    let s = c.args.self.now in
    rw c.in-Symlink.is
    (at_once _ (lerror EACCES) (moment_of (g.H.Host.tree s.host) (g.H.Host.calls s.host) s.fids
    s.msize s.share s.asked) (server_good (g.H.Host.tree s.host) (g.H.Host.holds s.host) s.fids
    s.msize s.share s.sound (g.met.H.Host.good s.host) (g.met.H.Host.stored s.host)) refl
    c.refused.result c.refused.ensures.reply c.refused.ensures.short)

pub returns-in-Mknod-clause-answered : goal.returns-in-Mknod-clause-answered
returns-in-Mknod-clause-answered g c =
    let s = c.args.self.now in
    rw c.in-Mknod.is
    (at_once _ (lerror EACCES) (moment_of (g.H.Host.tree s.host) (g.H.Host.calls s.host) s.fids
    s.msize s.share s.asked) (server_good (g.H.Host.tree s.host) (g.H.Host.holds s.host) s.fids
    s.msize s.share s.sound (g.met.H.Host.good s.host) (g.met.H.Host.stored s.host)) refl
    c.refused-in-Mknod.result c.refused-in-Mknod.ensures.reply c.refused-in-Mknod.ensures.short)

pub returns-in-Rename-clause-answered : goal.returns-in-Rename-clause-answered
returns-in-Rename-clause-answered g c =
    let s = c.args.self.now in
    rw c.in-Rename.is
    (unserved _ (moment_of (g.H.Host.tree s.host) (g.H.Host.calls s.host) s.fids s.msize s.share
    s.asked) (server_good (g.H.Host.tree s.host) (g.H.Host.holds s.host) s.fids s.msize s.share
    s.sound (g.met.H.Host.good s.host) (g.met.H.Host.stored s.host)) refl
    c.refused-in-Rename.result c.refused-in-Rename.ensures.reply
    c.refused-in-Rename.ensures.short)

pub returns-in-Readlink-clause-answered : goal.returns-in-Readlink-clause-answered
returns-in-Readlink-clause-answered g c =
    let s = c.args.self.now in
    let n = c.read_link.new.self in
    let m = c.in-Readlink.m in
    let e = c.read_link.ensures in
    let before : Moment = moment_of (g.H.Host.tree s.host) (g.H.Host.calls s.host) s.fids s.msize
    s.share s.asked in
    let after : Moment = moment_of (g.H.Host.tree n.host) (g.H.Host.calls n.host) n.fids n.msize
    n.share n.asked in
    let same_msize = ap (λ (s : ServerState). s.msize) e.same in
    rw c.in-Readlink.is
    (answered_long (readlink m.fid) (λ text. target text) before after
    (record {
      msize = same_msize;
      settings =
          ap (λ (s : ServerState). s.settings) e.same;
      steady = e.steady;
    }) c.read_link.result
    c.readlink_reply.result e.same
    e.step c.readlink_reply.ensures.reply (subst
    (λ (size : ℕ). IfOk c.readlink_reply.result (λ r. Fits size (reply_of r))) same_msize
    c.readlink_reply.ensures.fits))

pub returns-in-SetAttr-clause-answered : goal.returns-in-SetAttr-clause-answered
returns-in-SetAttr-clause-answered g c =
    let s = c.args.self.now in
    let n = c.set_attr.new.self in
    let m = c.in-SetAttr.m in
    let e = c.set_attr.ensures in
    let before : Moment = moment_of (g.H.Host.tree s.host) (g.H.Host.calls s.host) s.fids s.msize
    s.share s.asked in
    let after : Moment = moment_of (g.H.Host.tree n.host) (g.H.Host.calls n.host) n.fids n.msize
    n.share n.asked in
    rw c.in-SetAttr.is
    (answered (setattr m.fid m.valid m.mode m.uid m.gid m.size m.atime_sec m.atime_nsec m.mtime_sec
    m.mtime_nsec) (λ _. were_set) before after
    (record { msize = e.fixed.0; settings = e.fixed.1; steady = e.steady }) c.set_attr.result
    c.setattr_reply.result s.sound.roomy
    e.step
    c.setattr_reply.ensures.reply c.setattr_reply.ensures.short)

pub returns-in-XattrWalk-clause-answered : goal.returns-in-XattrWalk-clause-answered
returns-in-XattrWalk-clause-answered g c =
    let s = c.args.self.now in
    rw c.in-XattrWalk.is
    (unserved _ (moment_of (g.H.Host.tree s.host) (g.H.Host.calls s.host) s.fids s.msize s.share
    s.asked) (server_good (g.H.Host.tree s.host) (g.H.Host.holds s.host) s.fids s.msize s.share
    s.sound (g.met.H.Host.good s.host) (g.met.H.Host.stored s.host)) refl
    c.refused-in-XattrWalk.result c.refused-in-XattrWalk.ensures.reply
    c.refused-in-XattrWalk.ensures.short)

pub returns-in-XattrCreate-clause-answered : goal.returns-in-XattrCreate-clause-answered
returns-in-XattrCreate-clause-answered g c =
    let s = c.args.self.now in
    rw c.in-XattrCreate.is
    (unserved _ (moment_of (g.H.Host.tree s.host) (g.H.Host.calls s.host) s.fids s.msize s.share
    s.asked) (server_good (g.H.Host.tree s.host) (g.H.Host.holds s.host) s.fids s.msize s.share
    s.sound (g.met.H.Host.good s.host) (g.met.H.Host.stored s.host)) refl
    c.refused-in-XattrCreate.result c.refused-in-XattrCreate.ensures.reply
    c.refused-in-XattrCreate.ensures.short)

pub returns-in-Readdir-clause-answered : goal.returns-in-Readdir-clause-answered
returns-in-Readdir-clause-answered g c =
    let s = c.args.self.now in
    let n = c.read_directory.new.self in
    let m = c.in-Readdir.m in
    let e = c.read_directory.ensures in
    let before : Moment = moment_of (g.H.Host.tree s.host) (g.H.Host.calls s.host) s.fids s.msize
    s.share s.asked in
    let after : Moment = moment_of (g.H.Host.tree n.host) (g.H.Host.calls n.host) n.fids n.msize
    n.share n.asked in
    let same_msize = ap (λ (s : ServerState). s.msize) e.same in
    rw c.in-Readdir.is
    (answered_long (readdir m.fid m.offset m.count) (λ (v : Vec _ _). was_listed v.items) before after
    (record {
      msize = same_msize;
      settings =
          ap (λ (s : ServerState). s.settings) e.same;
      steady = e.steady;
    }) c.read_directory.result
    c.readdir_reply.result e.same
    e.step c.readdir_reply.ensures.reply (subst (λ (size : ℕ). IfOk c.readdir_reply.result
    (λ r. Fits size (reply_of r))) same_msize c.readdir_reply.ensures.fits))

pub returns-in-Fsync-clause-answered : goal.returns-in-Fsync-clause-answered
returns-in-Fsync-clause-answered g c =
    let s = c.args.self.now in
    let n = c.fsync.new.self in
    let m = c.in-Fsync.m in
    let e = c.fsync.ensures in
    let before : Moment = moment_of (g.H.Host.tree s.host) (g.H.Host.calls s.host) s.fids s.msize
    s.share s.asked in
    let after : Moment = moment_of (g.H.Host.tree n.host) (g.H.Host.calls n.host) n.fids n.msize
    n.share n.asked in
    rw c.in-Fsync.is
    (answered (fsync m.fid m.datasync) (λ _. synced) before after
    (record { msize = e.fixed.0; settings = e.fixed.1; steady = e.steady }) c.fsync.result
    c.fsync_reply.result s.sound.roomy
    e.step
    c.fsync_reply.ensures.reply c.fsync_reply.ensures.short)

pub returns-in-Lock-clause-answered : goal.returns-in-Lock-clause-answered
returns-in-Lock-clause-answered g c =
    let s = c.args.self.now in
    let m = c.in-Lock.m in
    let before : Moment = moment_of (g.H.Host.tree s.host) (g.H.Host.calls s.host) s.fids s.msize
    s.share s.asked in
    rw c.in-Lock.is
    (answered (lock m.fid m.kind_ m.flags m.start m.length m.proc_id m.client_id)
    (λ r. locked r.status) before before (record
    { msize = refl; settings = refl; steady = refl }) c.lock.result c.lock_reply.result
    s.sound.roomy
    c.lock.ensures.step
    c.lock_reply.ensures.reply c.lock_reply.ensures.short)

pub returns-in-GetLock-clause-answered : goal.returns-in-GetLock-clause-answered
returns-in-GetLock-clause-answered g c =
    let s = c.args.self.now in
    let m = c.in-GetLock.m in
    let before : Moment = moment_of (g.H.Host.tree s.host) (g.H.Host.calls s.host) s.fids s.msize
    s.share s.asked in
    rw c.in-GetLock.is
    (answered_long (getlock m.fid m.kind_ m.start m.length m.proc_id m.client_id)
    (λ r. free r.kind_ r.start r.length r.proc_id r.client_id) before before
    (record { msize = refl; settings = refl; steady = refl }) c.get_lock.result
    c.getlock_reply.result refl
    c.get_lock.ensures.step c.getlock_reply.ensures.reply c.getlock_reply.ensures.fits)

pub returns-in-Link-clause-answered : goal.returns-in-Link-clause-answered
returns-in-Link-clause-answered g c =
    let s = c.args.self.now in
    let n = c.link.new.self in
    let m = c.in-Link.m in
    let e = c.link.ensures in
    let before : Moment = moment_of (g.H.Host.tree s.host) (g.H.Host.calls s.host) s.fids s.msize
    s.share s.asked in
    let after : Moment = moment_of (g.H.Host.tree n.host) (g.H.Host.calls n.host) n.fids n.msize
    n.share n.asked in
    rw c.in-Link.is
    (answered (link m.dfid m.fid m.name) (λ _. linked) before after
    (record { msize = e.fixed.0; settings = e.fixed.1; steady = e.steady }) c.link.result
    c.link_reply.result s.sound.roomy
    (subst (λ (name : List ℕ). Steps (link m.dfid m.fid name) (λ _. linked) before after
    c.link.result) c.as_bytes-in-Link.ensures.bytes (e.step))
    c.link_reply.ensures.reply c.link_reply.ensures.short)

pub returns-in-Mkdir-clause-answered : goal.returns-in-Mkdir-clause-answered
returns-in-Mkdir-clause-answered g c =
    let s = c.args.self.now in
    let n = c.make_directory.new.self in
    let m = c.in-Mkdir.m in
    let e = c.make_directory.ensures in
    let before : Moment = moment_of (g.H.Host.tree s.host) (g.H.Host.calls s.host) s.fids s.msize
    s.share s.asked in
    let after : Moment = moment_of (g.H.Host.tree n.host) (g.H.Host.calls n.host) n.fids n.msize
    n.share n.asked in
    rw c.in-Mkdir.is
    (answered (mkdir m.dfid m.name m.mode m.gid) (λ q. made (qid_of q)) before after
    (record { msize = e.fixed.0; settings = e.fixed.1; steady = e.steady })
    c.make_directory.result c.mkdir_reply.result s.sound.roomy
    (subst (λ (name : List ℕ). Steps (mkdir m.dfid name m.mode m.gid) (λ q. made (qid_of q)) before
    after c.make_directory.result) c.as_bytes-in-Mkdir.ensures.bytes (e.step m.gid))
    c.mkdir_reply.ensures.reply c.mkdir_reply.ensures.short)

pub returns-in-RenameAt-clause-answered : goal.returns-in-RenameAt-clause-answered
returns-in-RenameAt-clause-answered g c =
    let s = c.args.self.now in
    let n = c.rename.new.self in
    let m = c.in-RenameAt.m in
    let e = c.rename.ensures in
    let before : Moment = moment_of (g.H.Host.tree s.host) (g.H.Host.calls s.host) s.fids s.msize
    s.share s.asked in
    let after : Moment = moment_of (g.H.Host.tree n.host) (g.H.Host.calls n.host) n.fids n.msize
    n.share n.asked in
    rw c.in-RenameAt.is
    (answered (renameat m.olddirfid m.oldname m.newdirfid m.newname) (λ _. moved) before after
    (record { msize = e.fixed.0; settings = e.fixed.1; steady = e.steady }) c.rename.result
    c.rename_reply.result s.sound.roomy
    (subst (λ (name : List ℕ). Steps (renameat m.olddirfid m.oldname m.newdirfid name) (λ _. moved)
    before after c.rename.result) c.as_bytes-in-RenameAt-2.ensures.bytes
    (subst (λ (name : List ℕ). Steps (renameat m.olddirfid name m.newdirfid
    c.as_bytes-in-RenameAt-2.result.now) (λ _. moved) before after c.rename.result)
    c.as_bytes-in-RenameAt.ensures.bytes e.step))
    c.rename_reply.ensures.reply c.rename_reply.ensures.short)

pub returns-in-UnlinkAt-clause-answered : goal.returns-in-UnlinkAt-clause-answered
returns-in-UnlinkAt-clause-answered g c =
    let s = c.args.self.now in
    let n = c.unlink.new.self in
    let m = c.in-UnlinkAt.m in
    let e = c.unlink.ensures in
    let before : Moment = moment_of (g.H.Host.tree s.host) (g.H.Host.calls s.host) s.fids s.msize
    s.share s.asked in
    let after : Moment = moment_of (g.H.Host.tree n.host) (g.H.Host.calls n.host) n.fids n.msize
    n.share n.asked in
    rw c.in-UnlinkAt.is
    (answered (unlinkat m.dirfd m.name m.flags) (λ _. unlinked) before after
    (record { msize = e.fixed.0; settings = e.fixed.1; steady = e.steady }) c.unlink.result
    c.unlink_reply.result s.sound.roomy
    (subst (λ (name : List ℕ). Steps (unlinkat m.dirfd name m.flags) (λ _. unlinked) before after
    c.unlink.result) c.as_bytes-in-UnlinkAt.ensures.bytes (e.step))
    c.unlink_reply.ensures.reply c.unlink_reply.ensures.short)

pub returns-in-Version-clause-answered : goal.returns-in-Version-clause-answered
returns-in-Version-clause-answered g c =
    let s = c.args.self.now in
    let n = c.version.new.self in
    let m = c.in-Version.m in
    let e = c.version.ensures in
    let before : Moment = moment_of (g.H.Host.tree s.host) (g.H.Host.calls s.host) s.fids s.msize
    s.share s.asked in
    let after : Moment = moment_of (g.H.Host.tree n.host) (g.H.Host.calls n.host) n.fids n.msize
    n.share n.asked in
    rw c.in-Version.is
    (answered_smaller (version m.msize m.version) (λ v. agreed v.msize v.version) before after
    c.version.result c.version_reply.result s.sound.roomy e.fixed e.sized e.steady
    e.step
    c.version_reply.ensures.reply c.version_reply.ensures.short)

pub returns-in-Auth-clause-answered : goal.returns-in-Auth-clause-answered
returns-in-Auth-clause-answered g c =
    let s = c.args.self.now in
    rw c.in-Auth.is
    (unserved _ (moment_of (g.H.Host.tree s.host) (g.H.Host.calls s.host) s.fids s.msize s.share
    s.asked) (server_good (g.H.Host.tree s.host) (g.H.Host.holds s.host) s.fids s.msize s.share
    s.sound (g.met.H.Host.good s.host) (g.met.H.Host.stored s.host)) refl
    c.refused-in-Auth.result c.refused-in-Auth.ensures.reply c.refused-in-Auth.ensures.short)

pub returns-in-Flush-clause-answered : goal.returns-in-Flush-clause-answered
returns-in-Flush-clause-answered g c =
    let s = c.args.self.now in
    rw c.in-Flush.is
    (at_once _ flushed (moment_of (g.H.Host.tree s.host) (g.H.Host.calls s.host) s.fids s.msize
    s.share s.asked) (server_good (g.H.Host.tree s.host) (g.H.Host.holds s.host) s.fids s.msize
    s.share s.sound (g.met.H.Host.good s.host) (g.met.H.Host.stored s.host)) refl
    c.flush_reply.result c.flush_reply.ensures.reply c.flush_reply.ensures.short)

pub returns-in-Write-clause-answered : goal.returns-in-Write-clause-answered
returns-in-Write-clause-answered g c =
    let s = c.args.self.now in
    let n = c.write.new.self in
    let m = c.in-Write.m in
    let e = c.write.ensures in
    let before : Moment = moment_of (g.H.Host.tree s.host) (g.H.Host.calls s.host) s.fids s.msize
    s.share s.asked in
    let after : Moment = moment_of (g.H.Host.tree n.host) (g.H.Host.calls n.host) n.fids n.msize
    n.share n.asked in
    rw c.in-Write.is
    (answered (write m.fid m.offset m.payload.0.items) written before after
    (record { msize = e.fixed.0; settings = e.fixed.1; steady = e.steady }) c.write.result
    c.write_reply.result s.sound.roomy
    (subst (λ (bytes : List ℕ). Steps (write m.fid m.offset bytes) written before after
    c.write.result) c.deref-in-Write.ensures.value e.step)
    c.write_reply.ensures.reply c.write_reply.ensures.short)

pub returns-clause-answered : goal.returns-clause-answered
returns-clause-answered g c =
    let s = c.args.self.now in
    rw c.in-Remove.is
    (unserved _ (moment_of (g.H.Host.tree s.host) (g.H.Host.calls s.host) s.fids s.msize s.share
    s.asked) (server_good (g.H.Host.tree s.host) (g.H.Host.holds s.host) s.fids s.msize s.share
    s.sound (g.met.H.Host.good s.host) (g.met.H.Host.stored s.host)) refl
    c.refused-in-Remove.result c.refused-in-Remove.ensures.reply
    c.refused-in-Remove.ensures.short)
