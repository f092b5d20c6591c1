-- Worked texts: a row of proc(5), and small tables.
use Rattle.std.specs.Prelude.{ℕ, ◌+◌, List, [], ◌∷◌, ◌++◌, codes}
use Rattle.libmount.specs.Rows.{Row, borrowed, owned}

abbrev pub worked_line : List ℕ
worked_line =
    codes "76 24 8:6 / /home/my\\040super\\011name\\012\\134 rw,relatime shared:29 "
    ++ codes "- ext4 /dev/sda1 rw,data=ordered"

abbrev pub worked_fields : Row
worked_fields = record {
  mount_id = 76;
  parent_id = 24;
  major = 8;
  minor = 6;
  root = borrowed (10, codes "/");
  mount_point = owned (codes "/home/my super" ++ 9 ∷ codes "name" ++ 10 ∷ 92 ∷ []);
  mount_options = borrowed (46, codes "rw,relatime");
  optional_fields = borrowed (58, codes "shared:29");
  fstype = borrowed (70, codes "ext4");
  mount_source = borrowed (75, codes "/dev/sda1");
  super_options = borrowed (85, codes "rw,data=ordered");
}

-- a short row, and the same with a carriage return
abbrev pub short_line : List ℕ
short_line = codes "1 2 0:4 / /p ro - t s rw"

abbrev pub returned_line : List ℕ
returned_line = short_line ++ 13 ∷ []

-- its fields, where it begins at a place
abbrev pub short_fields : ℕ → Row
short_fields place = record {
  mount_id = 1;
  parent_id = 2;
  major = 0;
  minor = 4;
  root = borrowed (place + 8, codes "/");
  mount_point = borrowed (place + 10, codes "/p");
  mount_options = borrowed (place + 13, codes "ro");
  optional_fields = borrowed (place + 16, []);
  fstype = borrowed (place + 18, codes "t");
  mount_source = borrowed (place + 20, codes "s");
  super_options = borrowed (place + 22, codes "rw");
}

-- a row whose type, source and super options are equal, after extra spaces
abbrev pub alike_line : List ℕ
alike_line = codes "1 2 0:4 /  /p ro - t  t t"

abbrev pub alike_fields : Row
alike_fields = record {
  mount_id = 1;
  parent_id = 2;
  major = 0;
  minor = 4;
  root = borrowed (8, codes "/");
  mount_point = borrowed (11, codes "/p");
  mount_options = borrowed (14, codes "ro");
  optional_fields = borrowed (17, []);
  fstype = borrowed (19, codes "t");
  mount_source = borrowed (22, codes "t");
  super_options = borrowed (24, codes "t");
}

-- a comment, the short row and a bad last line without a line feed
abbrev pub small_table : List ℕ
small_table = codes "# Test\n" ++ returned_line ++ codes "\nbad"

-- two mounts at one place
abbrev pub mounted_twice : List ℕ
mounted_twice =
    codes "11 18 0:4 / /tmp rw shared:28 - tmpfs tmpfs rw\n"
    ++ codes "12 18 0:6 / /tmp rw,nosuid,nodev shared:29 - tmpfs tmpfs rw\n"

-- the options that name a flag, and all of them with two that name none
abbrev pub option_words : List (List ℕ)
option_words =
    codes "ro" ∷ codes "nosuid" ∷ codes "nodev" ∷ codes "noexec" ∷ codes "mand" ∷ codes "sync"
    ∷ codes "dirsync" ∷ codes "noatime" ∷ codes "nodiratime"
    ∷ codes "relatime" ∷ codes "strictatime" ∷ []

abbrev pub all_options : List ℕ
all_options =
    codes "ro,nosuid,nodev,noexec,mand,sync,dirsync,noatime,nodiratime,relatime,strictatime,,RO"
