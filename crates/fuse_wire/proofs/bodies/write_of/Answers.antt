-- What follows the numbers is as long as they say, or the body is none.
use Rattle.std.proofs.Common.{◌≡◌, ℕ, ◌-◌, ◌≤◌, length, Bool, true, false, cond, nat_lt, List, ap, sym, ◌∙◌, Option, Some, None, refl, arith}
use Rattle.std.specs.Prelude.{◌==◌, drop, take}
use Rattle.std.proofs.lemmas.Bool.Decides.{nat_tests}
use Rattle.std.proofs.lemmas.List.{length-drop, take_all}
use Rattle.fuse_wire.specs.Fields.{u32_at, u64_at}
use Rattle.fuse_wire.specs.Request.{Request, write, write_of}
use Rattle.fuse_wire.proofs.bodies.write_of.Goals as goal

-- the body by its two tests
by_tests : (body : List ℕ) (a b : Bool) → nat_lt (length body) 40 ≡ a
    → (length (drop 40 body) == u32_at body 16) ≡ b
    → write_of body ≡ cond a None (cond b
    (Some (write (u64_at body 0) (u64_at body 8) (drop 40 body))) None)
unfolding write_of
by_tests body a b short same = ap (λ (x : Bool). cond x None (cond (length (drop 40 body) == u32_at body 16)
    (Some (write (u64_at body 0) (u64_at body 8) (drop 40 body))) None)) short
    ∙ ap (λ (x : Bool). cond a None (cond x
    (Some (write (u64_at body 0) (u64_at body 8) (drop 40 body))) None)) same

-- the part behind the numbers, as a slice has it
behind : (body : List ℕ) → take (length body - 40) (drop 40 body) ≡ drop 40 body
behind body = take_all (length body - 40) (drop 40 body)
    (let long = length-drop 40 body in omega arith)

pub returns-then-bytes-count : goal.returns-then-bytes-count
returns-then-bytes-count c =
    let body = c.args.body.now in
    let slice = ap length (behind body) in
    let other = c.if-bytes-count.true in
    let told = c.u32_at-count.ensures in
    let long = c.if-body-lt-WRITE_IN_SIZE.false in
    sym (by_tests body false false (grind (arith, nat_tests)) (grind (arith, nat_tests)))

pub returns : goal.returns
returns c =
    let body = c.args.body.now in
    let slice = ap length (behind body) in
    let same = c.if-bytes-count.false in
    let told = c.u32_at-count.ensures in
    let long = c.if-body-lt-WRITE_IN_SIZE.false in
    (λ j. Some (write (c.u64_at.ensures j) (c.u64_at-2.ensures j) (behind body j)))
    ∙ sym (by_tests body false true (grind (arith, nat_tests)) (grind (arith, nat_tests)))
