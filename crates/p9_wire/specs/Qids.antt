-- What a qid is.
use Rattle.std.specs.Prelude.{ℕ}
use Rattle.p9_wire.specs.declared.qid.Qid.{Qid}

-- type, version and path
abbrev pub qid_of : Qid → ℕ × (ℕ × ℕ)
qid_of q = (q.ty, (q.version, q.path))
