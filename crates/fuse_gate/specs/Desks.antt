-- The replies that the answers of a desk are.
use Rattle.std.specs.Prelude.{⊤, ◌≡◌, ◌++◌, ◌-◌, ℕ, length, IfOk, OnErr, List, Result, Ok, Err}
use Rattle.port_base.specs.declared.sink.NoMemory.{NoMemory}
use Rattle.fuse_wire.specs.declared.answers.FsFail.{FsFail}
use Rattle.fuse_wire.specs.declared.answers.FsFail.TheVariants as fail
use Rattle.fuse_wire.specs.declared.answers.LookupResponse.{LookupResponse}
use Rattle.fuse_wire.specs.declared.answers.GetAttrResponse.{GetAttrResponse}
use Rattle.tree_machine.specs.Replies.{Reply}
use Rattle.tree_machine.specs.Replies.Reply.{Refused, Entry, Attributes, Bytes}
use Rattle.tree_machine.specs.Listing.{entry_size, listing_bytes}
use Rattle.tree_model.specs.Pages.{page_of}
use Rattle.fuse_wire.specs.Answers.{listed_by, rest_of}
use Rattle.fuse_wire.specs.declared.listing.DirEntListBuilder.{DirEntListBuilder}
use Rattle.fuse_wire.specs.declared.listing.ReplyDirectory.{ReplyDirectory}
use Rattle.fid_model.specs.Fids.{ServerState}
use Rattle.fuse_gate.specs.Listings.{directory_at}
use Rattle.fuse_wire.specs.Request.{Request}
use Rattle.fid_model.specs.Moments.{Keeps, Moment, SameTree}
use Rattle.fuse_gate.specs.Steps.{ServesRequest}
use Rattle.fuse_gate.specs.declared.gate.Gate.{Gate}
use Rattle.fuse_gate.specs.declared.gate.desk.TheConstants.{VALID}
use Rattle.fuse_gate.specs.declared.gate.reply.Reply.{Reply as GateReply}
use Rattle.fuse_gate.specs.Replies.{reply_of}

-- a failure is the reply that refuses, or there was no memory
abbrev pub failed : FsFail → Result Reply FsFail
failed (fail.Errno errno) = Ok (Refused errno.0)
failed fail.NoMemory = Err fail.NoMemory

-- the answer of a look-up
abbrev pub entry_told : Result LookupResponse FsFail → Result Reply FsFail
entry_told (Ok told) = Ok (Entry told.node.0 told.attr)
entry_told (Err failure) = failed failure

-- the answer that tells attributes
abbrev pub attributes_told : Result GetAttrResponse FsFail → Result Reply FsFail
attributes_told (Ok told) = Ok (Attributes told.attr)
attributes_told (Err failure) = failed failure

-- the answer of what brings bytes
abbrev pub bytes_told : List ℕ → Result ⊤ FsFail → Result Reply FsFail
bytes_told bytes (Ok done) = Ok (Bytes bytes)
bytes_told bytes (Err failure) = failed failure

-- a result of the code is what is told
abbrev pub told_as : Result Reply FsFail → Result GateReply NoMemory → Type 0
told_as (Ok reply) (Ok written) = reply_of written ≡ reply
told_as (Ok reply) (Err wanted) = ⊥
told_as (Err failure) (Ok written) = ⊥
told_as (Err failure) (Err wanted) = ⊤

-- an entry is valid for as long as its reply says, and of the first generation
abbrev pub IsValidEntry : LookupResponse → Type 0
IsValidEntry told = (told.ttl ≡ VALID) × (told.generation.0 ≡ 0)

-- how many bytes a builder may add
abbrev pub room_of : DirEntListBuilder → ℕ
room_of builder = builder.end - length (listed_by builder.entries.now)

-- bytes stand behind those that a listing had
abbrev pub AddsListed : ReplyDirectory → ReplyDirectory → Type 0
AddsListed old new = listed_by new ≡ listed_by old ++ rest_of (listed_by old) (listed_by new)

-- bytes that begin others
abbrev pub IsFrontOf : List ℕ → List ℕ → Type 0
IsFrontOf front bytes = (rest : List ℕ) × (bytes ≡ front ++ rest)

-- the listing of a fid's directory behind an offset, in at most so many bytes
abbrev pub listing_of : ServerState → ℕ → ℕ → ℕ → List ℕ
listing_of s fid offset size =
    listing_bytes (page_of entry_size size s.tree (directory_at s fid) offset)

-- what a desk's call leaves whose answer stands for the reply to a request of a node: the reply is
-- the machine's, or, where memory was wanted, the tree is as it was
pub record AnswersAs (node : ℕ) (request : Request) (told : Result Reply FsFail)
    (old new : Gate × Moment) : Type 0 where
  pub served : IfOk told (λ reply. ServesRequest node request old new reply)
  pub unfinished : OnErr told (SameTree old.1 new.1)
  pub kept : Keeps old.1 new.1
