-- What the head and the rest of a frame ask is what the frame asks.
use Rattle.std.proofs.Common.{◌≡◌, ℕ, ◌-◌, List, length, take, drop, Result, sym, ap, ◌∙◌}
use Rattle.std.proofs.lemmas.List.{take_rest}
use Rattle.std.proofs.lemmas.Result.{err_from_is_err_and}
use Rattle.fuse_wire.specs.declared.head.Head.{Head}
use Rattle.fuse_wire.specs.Head.{head_of}
use Rattle.fuse_wire.specs.Request.{Request, request_in, request_of}
use Rattle.fuse_wire.proofs.request.FuseRequest.read_behind.Goals as goal

told : (head : Head) (frame : List ℕ) (answer : Result Request ℕ) → head ≡ head_of frame
    → request_in head.opcode (take (length frame - 40) (drop 40 frame)) ≡ answer → request_of frame
    ≡ answer
unfolding request_of
told head frame answer same asked =
    ap (λ (h : Head). request_in h.opcode (drop 40 frame)) (sym same)
    ∙ ap (request_in head.opcode) (sym (take_rest frame 40)) ∙ asked

pub returns : goal.returns
returns c = record {
  head = c.requires.read;
  asks =
      told c.args.head c.args.frame.now _ c.requires.read c.in_ok-body.ensures;
}

pub returns-in_err-body : goal.returns-in_err-body
returns-in_err-body c =
    let p = err_from_is_err_and c.from_residual.result c.from_residual.ensures.1 in
    rw (p.1, p.2) (told c.args.head c.args.frame.now _ c.requires.read c.in_err-body.ensures)
