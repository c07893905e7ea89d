use Rattle.std.proofs.Common.{◌≡◌, ℕ, ◌+◌, ◌≤◌, length, arith, subst, inl, inr}
use Rattle.lapi_base.specs.declared.head.Head.{Head}
use Rattle.lapi_base.specs.declared.head.Head.TheVariants as heads
use Rattle.lapi_base.specs.Record.HeadSays.{head_pieces, asked_pieces}
use Rattle.lapi_base.specs.Record.Operations.{one_span}
use Rattle.lapi_vector.specs.Pieces.{AreWithin}
use Rattle.lapi_task.proofs.landing.write.Goals as goal

-- a piece alone
one-within : (at n size : ℕ) → AreWithin (one_span at n) size → at + n ≤ size
one-within at n size h = h 0 (record { at = at; len = n }) (omega arith)

pub word-old-requires : goal.word-old-requires
word-old-requires c = one-within c.in-RmwGo.at 4 (length c.args.memory.now) (subst (λ (h : Head). AreWithin (asked_pieces h) (length c.args.memory.now)) c.in-RmwGo.is c.requires.asked)

pub set_word-requires : goal.set_word-requires
set_word-requires c = one-within c.in-RmwGo.at 4 (length c.args.memory.now) (subst (λ (h : Head). AreWithin (asked_pieces h) (length c.args.memory.now)) c.in-RmwGo.is c.requires.asked)

pub write-requires : goal.write-requires
write-requires c =
    let at = c.in-Put.dest in
    let n = length c.args.bytes.now in
    let goes = λ (h : Head) (same : c.args.head.now ≡ h). subst (λ (k : Head). AreWithin (head_pieces k n) (length c.args.memory.now)) same c.requires.pieces in
    one-within at n (length c.args.memory.now)
    (elim c.in-Put.is [
      | inl put ↦ goes (heads.Put at put.0 put.1) put.2
      | inr back ↦ elim back [
        | inl get ↦ goes (heads.GetBack at get.0) get.1
        | inr word ↦ elim word [
          | inl rmw ↦ goes (heads.RmwBack at rmw.0) rmw.1
          | inr echo ↦ goes (heads.Echo at echo.0) echo.1
        ]
      ]
    ])
