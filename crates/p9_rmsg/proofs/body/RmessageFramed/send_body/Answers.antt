-- Each arm sends what its fields' spelling is.
use Rattle.p9_rmsg.proofs.body.RmessageFramed.send_body.Goals as goal

pub returns-in-Lerror-clause-sends : goal.returns-in-Lerror-clause-sends
returns-in-Lerror-clause-sends g c = rw c.in-Lerror.is c.send.ensures.sends

pub returns-in-Statfs-clause-sends : goal.returns-in-Statfs-clause-sends
returns-in-Statfs-clause-sends g c = rw c.in-Statfs.is c.send-in-Statfs.ensures.sends

pub returns-in-Lopen-clause-sends : goal.returns-in-Lopen-clause-sends
returns-in-Lopen-clause-sends g c = rw c.in-Lopen.is c.send-in-Lopen.ensures.sends

pub returns-in-Lcreate-clause-sends : goal.returns-in-Lcreate-clause-sends
returns-in-Lcreate-clause-sends g c = rw c.in-Lcreate.is c.send-in-Lcreate.ensures.sends

pub returns-in-Symlink-clause-sends : goal.returns-in-Symlink-clause-sends
returns-in-Symlink-clause-sends g c = rw c.in-Symlink.is c.send-in-Symlink.ensures.sends

pub returns-in-Mknod-clause-sends : goal.returns-in-Mknod-clause-sends
returns-in-Mknod-clause-sends g c = rw c.in-Mknod.is c.send-in-Mknod.ensures.sends

pub returns-in-Readlink-clause-sends : goal.returns-in-Readlink-clause-sends
returns-in-Readlink-clause-sends g c = rw c.in-Readlink.is c.send-in-Readlink.ensures.sends

pub returns-in-GetAttr-clause-sends : goal.returns-in-GetAttr-clause-sends
returns-in-GetAttr-clause-sends g c = rw c.in-GetAttr.is c.send-in-GetAttr.ensures.sends

pub returns-in-XattrWalk-clause-sends : goal.returns-in-XattrWalk-clause-sends
returns-in-XattrWalk-clause-sends g c = rw c.in-XattrWalk.is c.send-in-XattrWalk.ensures.sends

pub returns-in-Readdir-clause-sends : goal.returns-in-Readdir-clause-sends
returns-in-Readdir-clause-sends g c = rw c.in-Readdir.is c.send-in-Readdir.ensures.sends

pub returns-in-Lock-clause-sends : goal.returns-in-Lock-clause-sends
returns-in-Lock-clause-sends g c = rw c.in-Lock.is c.send-in-Lock.ensures.sends

pub returns-in-GetLock-clause-sends : goal.returns-in-GetLock-clause-sends
returns-in-GetLock-clause-sends g c = rw c.in-GetLock.is c.send-in-GetLock.ensures.sends

pub returns-in-Mkdir-clause-sends : goal.returns-in-Mkdir-clause-sends
returns-in-Mkdir-clause-sends g c = rw c.in-Mkdir.is c.send-in-Mkdir.ensures.sends

pub returns-in-Version-clause-sends : goal.returns-in-Version-clause-sends
returns-in-Version-clause-sends g c = rw c.in-Version.is c.send-in-Version.ensures.sends

pub returns-in-Auth-clause-sends : goal.returns-in-Auth-clause-sends
returns-in-Auth-clause-sends g c = rw c.in-Auth.is c.send-in-Auth.ensures.sends

pub returns-in-Attach-clause-sends : goal.returns-in-Attach-clause-sends
returns-in-Attach-clause-sends g c = rw c.in-Attach.is c.send-in-Attach.ensures.sends

pub returns-in-Walk-clause-sends : goal.returns-in-Walk-clause-sends
returns-in-Walk-clause-sends g c = rw c.in-Walk.is c.send-in-Walk.ensures.sends

pub returns-in-Read-clause-sends : goal.returns-in-Read-clause-sends
returns-in-Read-clause-sends g c = rw c.in-Read.is c.send-in-Read.ensures.sends

pub returns-in-Write-clause-sends : goal.returns-in-Write-clause-sends
returns-in-Write-clause-sends g c = rw c.in-Write.is c.send-in-Write.ensures.sends
