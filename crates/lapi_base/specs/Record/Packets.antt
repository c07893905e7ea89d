-- What packets carry: the head of a message, and the packet of one fragment with its part of the bytes. This
-- is the project's own.
use Rattle.std.specs.Prelude.{ℕ, List, unwrap_or}
use Rattle.lapi_base.specs.declared.statement.Statement.{Statement}
use Rattle.lapi_base.specs.declared.statement.Statement.TheVariants.{Put, Get, Putv, Getv, Rmw, Am, Gfence}
use Rattle.lapi_base.specs.declared.script.Script.{Script}
use Rattle.lapi_base.specs.declared.message.Leg.{Leg}
use Rattle.lapi_base.specs.declared.message.Leg.TheVariants.{Go, Back, Note, Echo, Join}
use Rattle.lapi_base.specs.declared.message.MsgName.{MsgName}
use Rattle.lapi_base.specs.declared.head.Head.{Head}
use Rattle.lapi_base.specs.declared.head.NoteOp.{NoteOp}
use Rattle.lapi_base.specs.declared.packet.Packet.{Packet}
use Rattle.lapi_base.specs.declared.packet.Packet.TheVariants.{Data}
use Rattle.lapi_base.specs.Packet.Layout.{unit_of}
use Rattle.lapi_base.specs.Record.Fragments.{fragment_bytes}
use Rattle.lapi_base.specs.Record.Operations.{statement, address, spans, pieces_of, target, sender, receiver, message_length, cmpl_counter}
use Rattle.lapi_base.specs.Record.Handlers.{user}
use Rattle.lapi_base.specs.Record.Refusals.{round_of}

abbrev pub note_op : Statement → NoteOp
note_op (Putv target to from tgt org cmpl) = NoteOp.Putv
note_op (Am target handler header from len tgt org cmpl) = NoteOp.Am
note_op _ = NoteOp.Put

module _ (script : Script) (m : MsgName) where
  abbrev pub peer : ℕ
  peer = target script m.origin m.statement

  abbrev pub round : ℕ
  round = round_of script m.origin m.statement

  abbrev pub no_head : Head
  no_head = Head.Gfence round

  abbrev pub head_by : Leg → Statement → Head
  head_by Go (Put target to from len tgt org cmpl) = Head.Put (address script peer to) tgt cmpl
  head_by Go (Get target from to len tgt org) = Head.GetGo len (address script peer from) to tgt org
  head_by Go (Putv target to from tgt org cmpl) = Head.Putv tgt cmpl (spans script peer (pieces_of to))
  head_by Go (Getv target from to tgt org) = Head.GetvGo tgt org (spans script peer (pieces_of from)) (spans script peer (pieces_of to))
  head_by Go (Rmw target op at in1 in2 prev org) = Head.RmwGo op (address script peer at) in1 in2 prev org
  head_by Go (Am target handler header from len tgt org cmpl) = Head.Am handler tgt cmpl header
  head_by Back (Get target from to len tgt org) = Head.GetBack to org
  head_by Back (Getv target from to tgt org) = Head.GetvBack org (spans script peer (pieces_of to))
  head_by Back (Rmw target op at in1 in2 prev org) = Head.RmwBack prev org
  head_by Echo s = Head.Echo (user script m) (cmpl_counter s)
  head_by Note s = Head.Note (note_op s) (unwrap_or (cmpl_counter s) 0)
  head_by (Join d) Gfence = Head.Gfence round
  head_by (Join d) (Statement.Addr at) = Head.Addr round at
  head_by _ _ = no_head

  -- the packet of number n with fragment j of this message, of these bytes
  unfoldable pub data_packet : (number fragment : ℕ) → List ℕ → Packet
  data_packet n j bytes =
      Data (record {
        layout = script.layout;
        from = sender script m;
        to = receiver script m;
        seq = n;
        name = m;
        head = head_by m.leg (statement script m.origin m.statement);
        length = message_length script m;
        fragment = j;
        payload = fragment_bytes (unit_of script) j bytes;
      })
