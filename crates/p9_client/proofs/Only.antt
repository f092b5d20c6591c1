-- A reply that is neither a message's own nor an error is none of its view.
use Rattle.std.proofs.Common.{◌≡◌, ◌≢◌, None, refl}
use Rattle.p9_rmsg.specs.declared.message.Rmessage.{Rmessage}
use Rattle.p9_rmsg.specs.declared.message.Rmessage.TheVariants as variant
use Rattle.p9_rmsg.specs.declared.message.Rattach.{Rattach}
use Rattle.p9_rmsg.specs.declared.message.Rgetattr.{Rgetattr}
use Rattle.p9_rmsg.specs.declared.message.Rlerror.{Rlerror}
use Rattle.p9_rmsg.specs.declared.message.Rlopen.{Rlopen}
use Rattle.p9_rmsg.specs.declared.message.Rread.{Rread}
use Rattle.p9_rmsg.specs.declared.message.Rlcreate.{Rlcreate}
use Rattle.p9_rmsg.specs.declared.message.Rmkdir.{Rmkdir}
use Rattle.p9_rmsg.specs.declared.message.Rmknod.{Rmknod}
use Rattle.p9_rmsg.specs.declared.message.Rsymlink.{Rsymlink}
use Rattle.p9_rmsg.specs.declared.message.Rreaddir.{Rreaddir}
use Rattle.p9_rmsg.specs.declared.message.Rreadlink.{Rreadlink}
use Rattle.p9_rmsg.specs.declared.message.Rstatfs.{Rstatfs}
use Rattle.p9_rmsg.specs.declared.message.Rwalk.{Rwalk}
use Rattle.p9_rmsg.specs.declared.message.Rwrite.{Rwrite}
use Rattle.p9_rmsg.specs.Replies.{reply_of}
use Rattle.p9_client.specs.Views.{attach_view, walk_one_view, copy_view, open_view, attributes_view}
use Rattle.p9_client.specs.Views.{read_view, mkdir_view, write_view, sizes_view, readlink_view}
use Rattle.p9_client.specs.Views.{create_view, symlink_view, mknod_view, page_view}

pub only_attach : (x : Rmessage) → ((y : Rattach) → x ≢ variant.Attach y)
    → ((y : Rlerror) → x ≢ variant.Lerror y) → attach_view (reply_of x) ≡ None
only_attach (variant.Attach y) own error = absurd (own y refl)
only_attach (variant.Lerror y) own error = absurd (error y refl)
only_attach _ own error = refl

pub only_walk : (x : Rmessage) → ((y : Rwalk) → x ≢ variant.Walk y)
    → ((y : Rlerror) → x ≢ variant.Lerror y) → walk_one_view (reply_of x) ≡ None
only_walk (variant.Walk y) own error = absurd (own y refl)
only_walk (variant.Lerror y) own error = absurd (error y refl)
only_walk _ own error = refl

pub only_copy : (x : Rmessage) → ((y : Rwalk) → x ≢ variant.Walk y)
    → ((y : Rlerror) → x ≢ variant.Lerror y) → copy_view (reply_of x) ≡ None
only_copy (variant.Walk y) own error = absurd (own y refl)
only_copy (variant.Lerror y) own error = absurd (error y refl)
only_copy _ own error = refl

pub only_open : (x : Rmessage) → ((y : Rlopen) → x ≢ variant.Lopen y)
    → ((y : Rlerror) → x ≢ variant.Lerror y) → open_view (reply_of x) ≡ None
only_open (variant.Lopen y) own error = absurd (own y refl)
only_open (variant.Lerror y) own error = absurd (error y refl)
only_open _ own error = refl

pub only_attributes : (x : Rmessage) → ((y : Rgetattr) → x ≢ variant.GetAttr y)
    → ((y : Rlerror) → x ≢ variant.Lerror y) → attributes_view (reply_of x) ≡ None
only_attributes (variant.GetAttr y) own error = absurd (own y refl)
only_attributes (variant.Lerror y) own error = absurd (error y refl)
only_attributes _ own error = refl

pub only_read : (x : Rmessage) → ((y : Rread) → x ≢ variant.Read y)
    → ((y : Rlerror) → x ≢ variant.Lerror y) → read_view (reply_of x) ≡ None
only_read (variant.Read y) own error = absurd (own y refl)
only_read (variant.Lerror y) own error = absurd (error y refl)
only_read _ own error = refl

pub only_mkdir : (x : Rmessage) → ((y : Rmkdir) → x ≢ variant.Mkdir y)
    → ((y : Rlerror) → x ≢ variant.Lerror y) → mkdir_view (reply_of x) ≡ None
only_mkdir (variant.Mkdir y) own error = absurd (own y refl)
only_mkdir (variant.Lerror y) own error = absurd (error y refl)
only_mkdir _ own error = refl

pub only_write : (x : Rmessage) → ((y : Rwrite) → x ≢ variant.Write y)
    → ((y : Rlerror) → x ≢ variant.Lerror y) → write_view (reply_of x) ≡ None
only_write (variant.Write y) own error = absurd (own y refl)
only_write (variant.Lerror y) own error = absurd (error y refl)
only_write _ own error = refl

pub only_sizes : (x : Rmessage) → ((y : Rstatfs) → x ≢ variant.Statfs y)
    → ((y : Rlerror) → x ≢ variant.Lerror y) → sizes_view (reply_of x) ≡ None
only_sizes (variant.Statfs y) own error = absurd (own y refl)
only_sizes (variant.Lerror y) own error = absurd (error y refl)
only_sizes _ own error = refl

pub only_readlink : (x : Rmessage) → ((y : Rreadlink) → x ≢ variant.Readlink y)
    → ((y : Rlerror) → x ≢ variant.Lerror y) → readlink_view (reply_of x) ≡ None
only_readlink (variant.Readlink y) own error = absurd (own y refl)
only_readlink (variant.Lerror y) own error = absurd (error y refl)
only_readlink _ own error = refl

pub only_create : (x : Rmessage) → ((y : Rlcreate) → x ≢ variant.Lcreate y)
    → ((y : Rlerror) → x ≢ variant.Lerror y) → create_view (reply_of x) ≡ None
only_create (variant.Lcreate y) own error = absurd (own y refl)
only_create (variant.Lerror y) own error = absurd (error y refl)
only_create _ own error = refl

pub only_symlink : (x : Rmessage) → ((y : Rsymlink) → x ≢ variant.Symlink y)
    → ((y : Rlerror) → x ≢ variant.Lerror y) → symlink_view (reply_of x) ≡ None
only_symlink (variant.Symlink y) own error = absurd (own y refl)
only_symlink (variant.Lerror y) own error = absurd (error y refl)
only_symlink _ own error = refl

pub only_mknod : (x : Rmessage) → ((y : Rmknod) → x ≢ variant.Mknod y)
    → ((y : Rlerror) → x ≢ variant.Lerror y) → mknod_view (reply_of x) ≡ None
only_mknod (variant.Mknod y) own error = absurd (own y refl)
only_mknod (variant.Lerror y) own error = absurd (error y refl)
only_mknod _ own error = refl

pub only_page : (x : Rmessage) → ((y : Rreaddir) → x ≢ variant.Readdir y)
    → ((y : Rlerror) → x ≢ variant.Lerror y) → page_view (reply_of x) ≡ None
only_page (variant.Readdir y) own error = absurd (own y refl)
only_page (variant.Lerror y) own error = absurd (error y refl)
only_page _ own error = refl
