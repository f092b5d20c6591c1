-- The texts of builders at examples.
use Rattle.std.proofs.Common.{◌≡◌, [], true, false, None, refl}
use Rattle.std.specs.Prelude.{codes}
use Rattle.std.specs.Fmt.{digits}
use Rattle.port_base.specs.Quoting.{quoted, quoted_byte}
use Rattle.libmount.specs.Builders.{apply_to_flags}
use Rattle.libmount.specs.BuilderTexts.{bind_text, escaped_dir, names_of, options_text}
use Rattle.libmount.specs.BuilderTexts.{overlay_options, overlay_text, relocation_text}
use Rattle.libmount.specs.BuilderTexts.{remount_text, tmpfs_options, tmpfs_text}
use Rattle.libmount.specs.WorkedBuilders.{all_flags, in_memory, no_flags, read_only, two_layers}
use Rattle.libmount.specs.WorkedBuilders.{writable}

pub bind_printed : bind_text (record {
  source = codes "/a";
  target = codes "/b";
  recursive =
      true;
  readonly = true;
}) ≡ codes "recursive bind mount \"/a\" -> \"/b\""
unfolding bind_text quoted quoted_byte
bind_printed = refl

pub relocation_printed : relocation_text (record { source = codes "/a"; target = codes "/b" })
    ≡ codes "move \"/a\" -> \"/b\""
unfolding relocation_text quoted quoted_byte
relocation_printed = refl

pub tmpfs_printed : tmpfs_text in_memory ≡ codes
    "tmpfs size=1048576,nr_inodes=1024,mode=01777,uid=1000,gid=1000 -> \"/tmp\""
unfolding tmpfs_text tmpfs_options options_text quoted quoted_byte digits
tmpfs_printed = refl

pub tmpfs_printed_bare : tmpfs_text (record {
  target = codes "/tmp";
  size = None;
  nr_inodes =
      None;
  mode = None;
  uid = None;
  gid = None;
}) ≡ codes "tmpfs  -> \"/tmp\""
unfolding tmpfs_text tmpfs_options options_text quoted quoted_byte
tmpfs_printed_bare = refl

pub overlay_printed : overlay_text writable ≡ codes
    "overlayfs \"/l\",upperdir=\"/w/u\",workdir=\"/w\" -> \"/t\""
unfolding overlay_text quoted quoted_byte
overlay_printed = refl

pub remount_printed : remount_text read_only ≡ codes "ro,nodev remount \"/\""
unfolding remount_text names_of quoted quoted_byte
remount_printed = refl

pub remount_printed_bare : remount_text (no_flags (codes "/")) ≡ codes "remount \"/\""
unfolding remount_text quoted quoted_byte
remount_printed_bare = refl

pub overlay_escaped : overlay_options two_layers ≡ codes "lowerdir=/a\\:b:/c\\,d\\\\"
unfolding overlay_options escaped_dir
overlay_escaped = refl

pub overlay_writable : overlay_options writable ≡ codes "lowerdir=/l,upperdir=/w/u,workdir=/w"
unfolding overlay_options escaped_dir
overlay_writable = refl

pub all_set : apply_to_flags (all_flags true) 0 ≡ 18881759
all_set = refl

pub all_cleared : apply_to_flags (all_flags false) 18881759 ≡ 0
all_cleared = refl

pub none_named : apply_to_flags (no_flags []) 18881759 ≡ 18881759
none_named = refl
