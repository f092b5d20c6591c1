-- The lines of a report, each by its kind.
use Rattle.std.specs.Prelude.{ℕ, zero, suc, ◌-◌, List, [], ◌∷◌, ◌++◌, length, take, drop}
use Rattle.std.specs.Prelude.{replicate, fold, ◌==◌, if◌then◌else◌, codes}
use Rattle.std.specs.Fmt.{decimal}
use Rattle.std.specs.Int.{div_ceil}
use Rattle.hex.specs.Hex.{encode_lower}
use Rattle.port_base.specs.Escapes.{octal_digit, escaped}
use Rattle.tree_model.specs.declared.attributes.Stamp.{Stamp}
use Rattle.tree_model.specs.declared.attributes.Attr.{Attr}
use Rattle.frame_pump.specs.declared.outcome.BridgeError.{BridgeError}
use Rattle.frame_pump.specs.declared.outcome.BridgeError.TheVariants as cause
use Rattle.mount9_run.specs.declared.report.verdict.Verdict.{Verdict}
use Rattle.mount9_run.specs.declared.report.verdict.Verdict.TheVariants.{Done, Halted}

-- one more field, after a space
abbrev pub with_field : List ℕ → List ℕ → List ℕ
with_field text field = text ++ 32 ∷ field

-- a word, fields and a line feed
abbrev pub line : List ℕ → List (List ℕ) → List ℕ
line word fields = fold with_field word fields ++ 10 ∷ []

-- ---- fields

-- four octal digits
unfoldable pub mode_text : ℕ → List ℕ
mode_text mode = octal_digit mode 512 ∷ octal_digit mode 64 ∷ octal_digit mode 8
    ∷ octal_digit mode 1 ∷ []

-- seconds, a dot and nine digits of nanoseconds
unfoldable pub stamp_text : Stamp → List ℕ
stamp_text s =
    decimal s.sec ++ (46 ∷ (replicate (9 - length (decimal s.nsec)) 48 ++ decimal s.nsec))

-- hex in lower case, or - for nothing
unfoldable pub hex_or_dash : List ℕ → List ℕ
hex_or_dash bytes = if length bytes == 0 then codes "-" else encode_lower bytes

-- INO MODE UID GID LINKS A M C
abbrev pub attr_fields : Attr → List (List ℕ)
attr_fields a =
    decimal a.ino ∷ mode_text a.mode ∷ decimal a.uid ∷ decimal a.gid ∷ decimal a.links
    ∷ stamp_text a.atime ∷ stamp_text a.mtime ∷ stamp_text a.ctime ∷ []

-- ---- lines of records

-- `dir INO MODE UID GID LINKS A M C ABOVE NEXTCOOKIE`
unfoldable pub directory_line : Attr → ℕ → ℕ → List ℕ
directory_line a above next_cookie =
    line (codes "dir") (attr_fields a ++ decimal above ∷ decimal next_cookie ∷ [])

-- `in INO COOKIE CHILD NAME`
unfoldable pub entry_line : ℕ → ℕ → ℕ → List ℕ → List ℕ
entry_line dir cookie child name =
    line (codes "in") (decimal dir ∷ decimal cookie ∷ decimal child ∷ escaped name ∷ [])

-- `file INO MODE UID GID LINKS A M C HEX`
unfoldable pub file_line : Attr → List ℕ → List ℕ
file_line a bytes = line (codes "file") (attr_fields a ++ hex_or_dash bytes ∷ [])

-- the front of such a line, up to the space before its bytes
unfoldable pub file_head : Attr → List ℕ
file_head a = with_field (fold with_field (codes "file") (attr_fields a)) []

-- `link INO MODE UID GID LINKS A M C TARGET`
unfoldable pub link_line : Attr → List ℕ → List ℕ
link_line a target = line (codes "link") (attr_fields a ++ escaped target ∷ [])

-- ---- other lines

-- a word and a number
unfoldable pub number_line : List ℕ → ℕ → List ℕ
number_line word n = line word (decimal n ∷ [])

-- so many lines of 32 bytes in hex, the last shorter
unfoldable pub hex_rows : ℕ → List ℕ → List ℕ
hex_rows zero bytes = []
hex_rows (suc n) bytes = (encode_lower (take 32 bytes) ++ 10 ∷ []) ++ hex_rows n (drop 32 bytes)

-- lines of 32 bytes in hex, none where there are no bytes
unfoldable pub hex_lines : List ℕ → List ℕ
hex_lines bytes = hex_rows (div_ceil (length bytes) 32) bytes

-- why a run stopped; a report tells no other cause
abbrev pub cause_fields : BridgeError → List (List ℕ)
cause_fields cause.Torn = codes "torn" ∷ []
cause_fields cause.BadLength = codes "length" ∷ []
cause_fields cause.TurnsSpent = codes "turns" ∷ []
cause_fields cause.MsizeTooSmall = codes "msize" ∷ []
cause_fields (cause.Mount e) = codes "mount" ∷ decimal e ∷ []
cause_fields (cause.Attach e) = codes "attach" ∷ decimal e ∷ []
cause_fields cause.NoMemory = []
cause_fields cause.Read = []
cause_fields cause.Write = []
cause_fields cause.Unmount = []

abbrev pub key_number : List ℕ → ℕ → List ℕ
key_number key n = key ++ decimal n

-- `served flags=F handled=H`, or `stopped CAUSE handled=H`
unfoldable pub verdict_line : Verdict → List ℕ
verdict_line (Done served) =
    line (codes "served") (key_number (codes "flags=") served.flags ∷ key_number (codes "handled=")
    served.handled ∷ [])
verdict_line (Halted stopped) =
    line (codes "stopped")
    (cause_fields stopped.cause ++ key_number (codes "handled=") stopped.handled ∷ [])
