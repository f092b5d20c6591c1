-- Entries of a directory, as Rreaddir has them one after another.
use Rattle.std.specs.Prelude.{ℕ, List, ◌++◌}
use Rattle.p9_wire.specs.Reading.{Reads, Always, Lawful}
use Rattle.p9_wire.specs.Fields.{pair_reading}
use Rattle.p9_wire.specs.Numbers.{law8, law64}
use Rattle.p9_wire.specs.Qids.{qid_of}
use Rattle.p9_wire.specs.Values.{QidSpells, IsU64, IsU8, TextSpells, qid_spelling, le64, le8}
use Rattle.p9_wire.specs.Values.{text_spelling, qid_at, u64_at, u8_at, text_at, then_law, qid_law}
use Rattle.p9_wire.specs.Values.{text_law}
use Rattle.p9_rmsg.specs.declared.dirent.Dirent.{Dirent}

-- qid, offset, type and name
abbrev pub Entry : Type 0
Entry = (ℕ × (ℕ × ℕ)) × (ℕ × (ℕ × List ℕ))

abbrev pub dirent_of : Dirent → Entry
dirent_of d = (qid_of d.qid, (d.offset, (d.ty, d.name)))

abbrev pub DirentSpells : Entry → Type 0
DirentSpells e = QidSpells e.0 × (IsU64 e.1.0 × (IsU8 e.1.1.0 × TextSpells e.1.1.1))

abbrev pub dirent_spelling : Entry → List ℕ
dirent_spelling e = qid_spelling e.0 ++ (le64 e.1.0 ++ (le8 e.1.1.0 ++ text_spelling e.1.1.1))

abbrev pub dirent_at : Reads Entry
dirent_at = pair_reading qid_at (pair_reading u64_at (pair_reading u8_at text_at))

pub dirent_law : Lawful DirentSpells dirent_spelling Always Always dirent_at
dirent_law = then_law qid_law (then_law law64 (then_law law8 text_law))
