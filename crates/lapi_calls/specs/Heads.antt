-- The heads of a call's messages: from the origin, by what each task gave, and to those whom it joins.
use Rattle.std.specs.Prelude.{◌≡◌, ℕ, Bool}
use Rattle.lapi_base.specs.declared.statement.Statement.{Statement}
use Rattle.lapi_base.specs.declared.statement.Statement.TheVariants.{Put, Get, Putv, Getv, Rmw, Am}
use Rattle.lapi_base.specs.declared.head.Head.{Head}
use Rattle.lapi_base.specs.Record.Operations.{pieces_of}
use Rattle.lapi_base.specs.declared.script.Script.{Script}
use Rattle.lapi_base.specs.declared.message.MsgName.{MsgName}
use Rattle.lapi_base.specs.declared.message.Leg.TheVariants.{Go, Join}
use Rattle.lapi_base.specs.Record.Names.{message}
use Rattle.lapi_base.specs.Record.Packets.{head_by}
use Rattle.lapi_base.specs.Record.Refusals.{round_of}
use Rattle.lapi_calls.specs.Calls.{IsCall, spans_by}
use Rattle.lapi_calls.specs.Entries.{address_by}

-- bytes are asked for
abbrev pub IsGet : Statement → Type 0
IsGet (Get target from to len tgt org) = Unit {0}
IsGet (Getv target from to tgt org) = Unit {0}
IsGet _ = ⊥

abbrev pub go_head_by : (given : ℕ → ℕ → ℕ) → (d : ℕ) → Statement → Head
go_head_by given d (Put target to from len tgt org cmpl) = Head.Put (address_by given d to) tgt cmpl
go_head_by given d (Get target from to len tgt org) = Head.GetGo len (address_by given d from) to tgt org
go_head_by given d (Putv target to from tgt org cmpl) = Head.Putv tgt cmpl (spans_by given d (pieces_of to))
go_head_by given d (Getv target from to tgt org) = Head.GetvGo tgt org (spans_by given d (pieces_of from)) (spans_by (λ _ _. 0) 0 (pieces_of to))
go_head_by given d (Rmw target op at in1 in2 prev org) = Head.RmwGo op (address_by given d at) in1 in2 prev org
go_head_by given d (Am target handler header from len tgt org cmpl) = Head.Am handler tgt cmpl header
go_head_by given d _ = Head.Gfence 0

-- this is the record's head of the message from the origin, in every script in which the call is a statement of the task
abbrev pub IsGoHead : (known : ℕ → Bool) → (given : ℕ → ℕ → ℕ) → (task : ℕ) → Statement → Head → Type 0
IsGoHead known given a s head = (script : Script) (i : ℕ) → IsCall script known given a i s → head ≡ head_by script (message a i Go) Go s

-- and of the message to each task that a call of this round joins
abbrev pub IsJoinHead : (round : ℕ) → Statement → Head → Type 0
IsJoinHead round s head = (script : Script) (m : MsgName) (d : ℕ) → round ≡ round_of script m.origin m.statement → head ≡ head_by script m (Join d) s
