-- Configurations as JSON for examples: the standard one, with another size and with further keys.
use Rattle.std.specs.Prelude.{false, codes}
use Rattle.serde_json.specs.Data.{Data, Members, boolean, number, unsigned, string, object, member}
use Rattle.serde_json.specs.Data.{no_members}

abbrev pub sample : Data → Members → Data
sample msize further =
    object (member (codes "ascii_casefold") (boolean false)
    (member (codes "fid_limit") (number (unsigned 4294967295))
    (member (codes "gid_map") (object no_members)
    (member (codes "msize") msize
    (member (codes "root") (string (codes "/"))
    (member (codes "uid_map") (object no_members) further))))))
