-- The answers of a desk, and the replies that they are.
use Rattle.std.proofs.Common.{◌≡◌, ℕ, ◌+◌, List, [], ◌++◌, length, drop, Result, Ok, Err, IfOk}
use Rattle.std.proofs.Common.{OnErr, sym, subst, ap, ◌∙◌, append_assoc, append-nil}
use Rattle.std.specs.Bool.{⊤}
use Rattle.std.proofs.lemmas.List.{length-append}
use Rattle.std.proofs.Math.Seq.{drop-append_seam, drop-length}
use Rattle.fuse_wire.specs.Answers.{rest_of}
use Rattle.port_base.specs.declared.sink.NoMemory.{NoMemory}
use Rattle.fuse_wire.specs.declared.answers.FsFail.{FsFail}
use Rattle.tree_machine.specs.Replies.{Reply}
use Rattle.tree_machine.specs.Replies.Reply.{Refused, Bytes}
use Rattle.fuse_wire.specs.Answers.{OnTold}
use Rattle.fuse_wire.specs.declared.answers.FsFail.TheVariants as fail
use Rattle.fuse_gate.specs.Replies.{reply_of}
use Rattle.fuse_gate.specs.Desks.{told_as, bytes_told, AnswersAs, IsFrontOf}
use Rattle.fuse_wire.specs.Request.{Request}
use Rattle.fid_model.specs.Moments.{Moment}
use Rattle.fuse_gate.specs.Steps.{ServesRequest}
use Rattle.fuse_gate.specs.declared.gate.Gate.{Gate}
use Rattle.fuse_gate.specs.declared.gate.reply.Reply.{Reply as GateReply}

pub told_ok : (told : Result Reply FsFail) (r : Result GateReply NoMemory) → told_as told r
    → (P : Reply → Type 0) → IfOk told P → IfOk r (λ reply. P (reply_of reply))
told_ok (Ok x) (Ok y) is P h = subst P (sym is) h
told_ok (Ok x) (Err e) is P h = absurd is
told_ok (Err f) (Ok y) is P h = absurd is
told_ok (Err f) (Err e) is P h = tt

pub told_err : (told : Result Reply FsFail) (r : Result GateReply NoMemory) → told_as told r
    → (P : Type 0) → OnErr told P → OnErr r P
told_err (Ok x) (Ok y) is P h = tt
told_err (Ok x) (Err e) is P h = absurd is
told_err (Err f) (Ok y) is P h = absurd is
told_err (Err f) (Err e) is P h = h

-- ---- bytes behind those that were there

pub rest_none : (before : List ℕ) → rest_of before before ≡ []
rest_none before = drop-length before

pub behind_none : (before : List ℕ) → before ≡ before ++ rest_of before before
behind_none before = sym (ap (λ (xs : List ℕ). before ++ xs) (rest_none before)
    ∙ append-nil before)

module _ (before now : List ℕ) (behind : now ≡ before ++ rest_of before now) (xs new : List ℕ)
    (longer : new ≡ now ++ xs) where
  whole : new ≡ before ++ (rest_of before now ++ xs)
  whole = longer ∙ ap (λ (bytes : List ℕ). bytes ++ xs) behind
      ∙ append_assoc before (rest_of before now) xs

  pub rest_more : rest_of before new ≡ rest_of before now ++ xs
  rest_more = ap (drop (length before)) whole
      ∙ drop-append_seam before (rest_of before now ++ xs)

  pub behind_more : new ≡ before ++ rest_of before new
  behind_more = whole ∙ ap (λ (bytes : List ℕ). before ++ bytes) (sym rest_more)

pub rest_long : (before now : List ℕ) → now ≡ before ++ rest_of before now
    → length now ≡ length before + length (rest_of before now)
rest_long before now behind = ap length behind ∙ length-append before (rest_of before now)

pub front_none : (before bytes : List ℕ) → IsFrontOf (rest_of before before) bytes
front_none before bytes = (bytes, sym (ap (λ (xs : List ℕ). xs ++ bytes) (rest_none before)))

-- a call that tells something leaves what can be called again
pub told_ready : (bytes : List ℕ) (r : Result ⊤ FsFail) (P : Reply → Type 0) (Q : Type 0)
    → ((reply : Reply) → P reply → Q) → IfOk (bytes_told bytes r) P → OnTold r Q
told_ready bytes (Ok done) P Q f h = f (Bytes bytes) h
told_ready bytes (Err (fail.Errno e)) P Q f h = f (Refused e.0) h
told_ready bytes (Err fail.NoMemory) P Q f h = tt

-- the answer of a desk over this gate and server stands for the reply
module _ (node : ℕ) (request : Request) (told : Result Reply FsFail)
    (r : Result GateReply NoMemory) (stands_for : told_as told r) {g0 g1 g2 g3 : Gate}
    {n0 n1 n2 n3 : Moment} (gate : g1 ≡ g0) (nine : n1 ≡ n0) (gate_then : g3 ≡ g2)
    (nine_then : n3 ≡ n2) (a : AnswersAs node request told (g1, n1) (g2, n2)) where
  abbrev Served : Gate × Moment → Gate × Moment → Type 0
  Served old new = IfOk told (λ reply. ServesRequest node request old new reply)

  pub desk_served : IfOk r (λ reply. ServesRequest node request (g0, n0) (g3, n3) (reply_of reply))
  desk_served = told_ok told r stands_for
      (λ reply. ServesRequest node request (g0, n0) (g3, n3) reply)
      (subst (λ g. Served (g0, n0) (g, n3)) (sym gate_then)
      (subst (λ n. Served (g0, n0) (g2, n)) (sym nine_then)
      (subst (λ g. Served (g, n0) (g2, n2)) gate
      (subst (λ n. Served (g1, n) (g2, n2)) nine a.served))))

pub left_as_was : (bytes : List ℕ) (r : Result ⊤ FsFail) (P : Type 0) → OnErr (bytes_told [] r) P
    → OnErr (bytes_told bytes r) P
left_as_was bytes (Ok done) P h = tt
left_as_was bytes (Err (fail.Errno e)) P h = tt
left_as_was bytes (Err fail.NoMemory) P h = h

pub all_new : (before now : List ℕ) → before ≡ [] → rest_of before now ≡ now
all_new before now none = ap (λ (xs : List ℕ). drop (length xs) now) none
