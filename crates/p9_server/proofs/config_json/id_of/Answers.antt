-- A text that is no number below 2^64 is no owner.
use Rattle.std.proofs.Common.{◌∙◌, ap}
use Rattle.p9_server.specs.ConfigJsons.{id_of}
use Rattle.p9_server.proofs.JsonIds.{no_id}
use Rattle.p9_server.proofs.config_json.id_of.Goals as goal

pub returns-in-None : goal.returns-in-None
returns-in-None c = no_id _ (rw c.in-None.is at c.number_of.ensures)
    ∙ ap id_of c.as_bytes.ensures.value
